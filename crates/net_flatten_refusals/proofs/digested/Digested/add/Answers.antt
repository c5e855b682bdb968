use Rattle.std.proofs.Common.{◌≡◌, ◌∷◌, ◌++◌, [], Some, ap, nat_eq, sym, ◌∙◌}
use Rattle.indexmap.specs.IndexMap.{get}
use Rattle.net_flatten_refusals.specs.Digests.{items_of}
use Rattle.net_flatten_refusals.specs.declared.digested.Digested.{Digested}
use Rattle.net_flatten_refusals.proofs.DigestedLaws.{list_at, no_items, under_added}
use Rattle.net_flatten_refusals.proofs.digested.Digested.add.Goals as goal

pub returns-in-Some : goal.returns-in-Some
returns-in-Some c =
    let old : Digested = c.args.self.now in
    let list = c.push.new.self in
    let is : Some c.index_mut.result.now ≡ get nat_eq old.lists c.args.digest = sym c.index_mut.ensures.value ∙ c.in-Some.ensures.value in
    under_added old _ c.args.digest c.args.spot list (c.in_ok-push.ensures.items ∙ ap (λ l. items_of l ++ c.args.spot ∷ []) is)
    (list_at old.lists c.args.digest c.in-Some.place c.index_mut.result.now list c.in-Some.ensures.unique (sym c.in-Some.ensures.index) c.index_mut.ensures.value)

pub returns-in-Ok : goal.returns-in-Ok
returns-in-Ok c =
    let old : Digested = c.args.self.now in
    let list = c.push-2.new.self in
    under_added old _ c.args.digest c.args.spot list
    (c.in_ok-push-2.ensures.items ∙ ap (λ l. l ++ c.args.spot ∷ []) (c.new-list.ensures.items ∙ no_items (get nat_eq old.lists c.args.digest) (sym c.in_default.ensures.found))) c.in-Ok.ensures.updates.0
