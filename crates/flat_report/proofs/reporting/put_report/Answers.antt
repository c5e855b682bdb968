use Rattle.std.proofs.Common.{ℕ, ◌≡◌, ◌<◌, ◌++◌, List, ap, subst, subst₂, sym, ◌∙◌, filter, length}
use Rattle.std.specs.Prelude.{All, codes}
use Rattle.net_hier.specs.Paths.{Path}
use Rattle.nl_output.specs.Writing.{Begin, state, ToCome}
use Rattle.flat_report.specs.Report.{count_then, groups_of, has_two, leaves_then, nets_then}
use Rattle.flat_classes.specs.Ways.{ArePaths}
use Rattle.flat_report.proofs.GroupTexts.{members_are}
use Rattle.flat_classes.proofs.LeafLists.{leaves_within}
use Rattle.flat_report.proofs.reporting.put_report.Goals as goal

pub put_leaves-requires-clause-leaves : goal.put_leaves-requires-clause-leaves
put_leaves-requires-clause-leaves g c = subst₂ (λ ls ss. All (λ leaf. leaf < length ss) ls) (sym c.leaves-2.ensures) (sym c.spots.ensures) (leaves_within c.requires.classes.0 c.args.hier.now c.args.flat.now c.requires.classes.1)

pub returns : goal.returns
returns g c = λ paths of b rest h.
    let lists : c.args.members.now ≡ groups_of c.args.flat.now = members_are c.args.flat.now c.args.members.now c.requires.members in
    let count : c.groups_of_two.result ≡ length (filter has_two (groups_of c.args.flat.now)) = c.groups_of_two.ensures ∙ ap (λ ls. length (filter has_two ls)) lists in
    let nets : List ℕ = nets_then c.args.hier.now.cells c.args.flat.now.spots paths c.args.flat.now.terminals (groups_of c.args.flat.now) rest in
    let counted : List ℕ = count_then (codes "nets") (length (filter has_two (groups_of c.args.flat.now))) nets in
    let leaves : List ℕ = leaves_then c.args.hier.now.cells c.args.flat.now.spots paths c.args.flat.now.leaves counted in
    let puts_leaves : (z : Begin) (r : List ℕ) → ToCome z (state g.O.Sink.receipt c.put_count.new.sink c.put_count.new.output) (leaves_then c.args.hier.now.cells c.args.flat.now.spots paths c.args.flat.now.leaves r) → ToCome z (state g.O.Sink.receipt c.put_leaves.new.sink c.put_leaves.new.output) r =
    subst₂ (λ ls ss. (ps : List Path) → ArePaths c.args.hier.now.cells ss ps → (z : Begin) (r : List ℕ) → ToCome z (state g.O.Sink.receipt c.put_count.new.sink c.put_count.new.output) (leaves_then c.args.hier.now.cells ss ps ls r) → ToCome z (state g.O.Sink.receipt c.put_leaves.new.sink c.put_leaves.new.output) r) c.leaves-2.ensures c.spots.ensures c.put_leaves.ensures paths of in
    let puts_nets : ToCome b (state g.O.Sink.receipt c.put_count-2.new.sink c.put_count-2.new.output) nets → ToCome b (state g.O.Sink.receipt c.put_nets.new.sink c.put_nets.new.output) rest =
    subst (λ ls. ToCome b (state g.O.Sink.receipt c.put_count-2.new.sink c.put_count-2.new.output) (nets_then c.args.hier.now.cells c.args.flat.now.spots paths c.args.flat.now.terminals ls rest) → ToCome b (state g.O.Sink.receipt c.put_nets.new.sink c.put_nets.new.output) rest) lists (c.put_nets.ensures paths of b rest) in
    let puts_count : ToCome b (state g.O.Sink.receipt c.put_leaves.new.sink c.put_leaves.new.output) counted → ToCome b (state g.O.Sink.receipt c.put_count-2.new.sink c.put_count-2.new.output) nets =
    subst (λ n. ToCome b (state g.O.Sink.receipt c.put_leaves.new.sink c.put_leaves.new.output) (count_then (codes "nets") n nets) → ToCome b (state g.O.Sink.receipt c.put_count-2.new.sink c.put_count-2.new.output) nets) count (c.put_count-2.ensures b nets) in
    let puts_first : ToCome b (state g.O.Sink.receipt c.put_design.new.sink c.put_design.new.output) (count_then (codes "leaves") (length c.args.flat.now.leaves) leaves) → ToCome b (state g.O.Sink.receipt c.put_count.new.sink c.put_count.new.output) leaves =
    subst (λ ls. ToCome b (state g.O.Sink.receipt c.put_design.new.sink c.put_design.new.output) (count_then (codes "leaves") (length ls) leaves) → ToCome b (state g.O.Sink.receipt c.put_count.new.sink c.put_count.new.output) leaves) c.leaves.ensures (c.put_count.ensures b leaves) in
    puts_nets (puts_count (puts_leaves b counted (puts_first (c.put_design.ensures b (count_then (codes "leaves") (length c.args.flat.now.leaves) leaves) h))))
