use Rattle.std.proofs.Common.{◌≡◌, ◌++◌, [], length, take, drop, ap, subst, sym, ◌∙◌, arith}
use Rattle.flat_numbers.specs.FlatJoins.{links_in}
use Rattle.flat_numbers.specs.Forest.{HasLabels, IsLinkedUp}
use Rattle.flat_numbers.specs.Layout.{base_of}
use Rattle.flat_numbers.specs.Linked.{AreLabels}
use Rattle.flat_numbers.proofs.Forests.{labels_alike, linked_up_first, written_back}
use Rattle.flat_numbers.proofs.Linking.{joins_alone}
use Rattle.flat_numbers.proofs.joins.join_labels.Goals as goal

pub link_spots-requires-clause-forest : goal.link_spots-requires-clause-forest
link_spots-requires-clause-forest c =
    let first : IsLinkedUp c.args.tables.now.layout.count [] c.deref_mut.result.now = subst (IsLinkedUp c.args.tables.now.layout.count []) (sym (c.deref_mut.ensures.value ∙ c.in_ok-parents.ensures)) (linked_up_first c.args.tables.now.layout.count) in
    ([], first)

pub settle-requires : goal.settle-requires
settle-requires c =
    let first : IsLinkedUp c.args.tables.now.layout.count [] c.deref_mut.result.now = subst (IsLinkedUp c.args.tables.now.layout.count []) (sym (c.deref_mut.ensures.value ∙ c.in_ok-parents.ensures)) (linked_up_first c.args.tables.now.layout.count) in
    let all = c.link_spots.ensures [] first in
    let up : IsLinkedUp c.args.tables.now.layout.count all.0 c.link_spots.new.parents = all.2 in
    let same : length c.link_spots.new.parents ≡ length c.in_ok-parents.parents.items = omega (arith, up.len, first.len, ap length c.deref_mut.ensures.value) in
    let w = written_back c.in_ok-parents.parents.len c.link_spots.new.parents c.in_ok-parents.parents.items (omega (arith, c.in_ok-parents.parents.ok)) same in
    record { labels = (up.labels, subst (λ ps. HasLabels ps up.labels) (sym (c.deref_mut-2.ensures.value ∙ w)) up.has) }

pub returns : goal.returns
returns c =
    let first : IsLinkedUp c.args.tables.now.layout.count [] c.deref_mut.result.now = subst (IsLinkedUp c.args.tables.now.layout.count []) (sym (c.deref_mut.ensures.value ∙ c.in_ok-parents.ensures)) (linked_up_first c.args.tables.now.layout.count) in
    let all = c.link_spots.ensures [] first in
    let up : IsLinkedUp c.args.tables.now.layout.count all.0 c.link_spots.new.parents = all.2 in
    let same : length c.link_spots.new.parents ≡ length c.in_ok-parents.parents.items = omega (arith, up.len, first.len, ap length c.deref_mut.ensures.value) in
    let w = written_back c.in_ok-parents.parents.len c.link_spots.new.parents c.in_ok-parents.parents.items (omega (arith, c.in_ok-parents.parents.ok)) same in
    let old : length c.deref_mut-2.result.now ≡ length c.link_spots.new.parents = ap length (c.deref_mut-2.ensures.value ∙ w) in
    let alike = c.settle.ensures up.labels (subst (λ ps. HasLabels ps up.labels) (sym (c.deref_mut-2.ensures.value ∙ w)) up.has) in
    let size : length c.settle.new.parents ≡ length c.deref_mut-2.result.now = omega (arith, alike.len, up.has.len, old) in
    let back = written_back c.in_ok-parents.parents.len c.settle.new.parents c.deref_mut-2.result.now (omega (arith, old, same, c.in_ok-parents.parents.ok)) size in
    record {
      joins = all.0;
      are_joins = joins_alone c.args.names.now c.args.hier.now.cells c.args.tables.now.layout.spots.items (base_of c.args.tables.now.layout.bases.items c.args.tables.now.layout.count) (links_in c.args.hier.now.cells c.args.links.now) all.0 all.1;
      are_labels = subst (AreLabels c.args.tables.now.layout.count all.0) (sym (ap (λ ps. take c.in_ok-parents.parents.len (c.settle.new.parents ++ drop (length c.settle.new.parents) ps)) (sym c.deref_mut-2.ensures.value) ∙ back)) (labels_alike c.args.tables.now.layout.count all.0 c.settle.new.parents up.labels up.are alike);
    }
