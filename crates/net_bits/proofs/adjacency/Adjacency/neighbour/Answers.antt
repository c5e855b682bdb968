use Rattle.std.proofs.Common.{arith, ◌≡◌, ◌+◌, ◌<◌, [], length, get_or, ap, subst, sym, ◌∙◌}
use Rattle.net_bits.specs.Neighbours.{Neighbours}
use Rattle.net_bits.specs.Parts.{part}
use Rattle.net_bits.proofs.PartLaws.{part_at, part_there}
use Rattle.net_bits.proofs.adjacency.Adjacency.neighbour.Goals as goal

pub part_of-list-requires-clause-there : goal.part_of-list-requires-clause-there
part_of-list-requires-clause-there g c =
    let same = ap (λ (n : Neighbours). length n.nodes) c.self.view_is in
    let there = part_there c.self.inside.nodes.items c.self.inside.starts.items c.self.inside.others.items c.args.number c.self.invariant.0 c.self.invariant.1 (omega (arith, same, c.requires.number)) in
    subst (λ l. c.args.number + 1 < length l) (sym c.as_slice.ensures.value) there

pub bounds-list-place : goal.bounds-list-place
bounds-list-place g c =
    let starts = c.self.inside.starts.items in
    let others = c.self.inside.others.items in
    let same = ap (λ (n : Neighbours). length n.nodes) c.self.view_is in
    let there = part_there c.self.inside.nodes.items starts others c.args.number c.self.invariant.0 c.self.invariant.1 (omega (arith, same, c.requires.number)) in
    let is : c.part_of-list.result.now ≡ get_or c.args.self.now.lists c.args.number [] =
    c.part_of-list.ensures ∙ ((λ i. part (c.as_slice.ensures.value i) (c.as_slice-2.ensures.value i) c.args.number) ∙ (sym (part_at starts others c.args.number there) ∙ ap (λ (n : Neighbours). get_or n.lists c.args.number []) c.self.view_is)) in
    subst (λ l. c.args.place < length l) (sym is) c.requires.place

pub returns-clause-neighbour : goal.returns-clause-neighbour
returns-clause-neighbour g c =
    let starts = c.self.inside.starts.items in
    let others = c.self.inside.others.items in
    let same = ap (λ (n : Neighbours). length n.nodes) c.self.view_is in
    let there = part_there c.self.inside.nodes.items starts others c.args.number c.self.invariant.0 c.self.invariant.1 (omega (arith, same, c.requires.number)) in
    let is : c.part_of-list.result.now ≡ get_or c.args.self.now.lists c.args.number [] =
    c.part_of-list.ensures ∙ ((λ i. part (c.as_slice.ensures.value i) (c.as_slice-2.ensures.value i) c.args.number) ∙ (sym (part_at starts others c.args.number there) ∙ ap (λ (n : Neighbours). get_or n.lists c.args.number []) c.self.view_is)) in
    ap (λ l. get_or l c.args.place 0) is
