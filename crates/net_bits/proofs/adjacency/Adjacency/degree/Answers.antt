use Rattle.std.proofs.Common.{arith, ◌≡◌, ◌+◌, [], length, get_or, ap, ◌∙◌}
use Rattle.std.proofs.lemmas.List.{get_or_default}
use Rattle.net_bits.specs.Neighbours.{Neighbours}
use Rattle.net_bits.proofs.PartLaws.{length-part, part_at, part_there}
use Rattle.net_bits.proofs.adjacency.Adjacency.degree.Goals as goal

pub index-requires : goal.index-requires
index-requires c =
    let same = ap (λ (n : Neighbours). length n.nodes) c.self.view_is in
    let there = part_there c.self.inside.nodes.items c.self.inside.starts.items c.self.inside.others.items c.args.number c.self.invariant.0 c.self.invariant.1 (omega (arith, same, c.requires)) in
    omega (arith, there, c.self.inside.starts.ok.0)

pub index-requires-2 : goal.index-requires-2
index-requires-2 c =
    let same = ap (λ (n : Neighbours). length n.nodes) c.self.view_is in
    let there = part_there c.self.inside.nodes.items c.self.inside.starts.items c.self.inside.others.items c.args.number c.self.invariant.0 c.self.invariant.1 (omega (arith, same, c.requires)) in
    omega (arith, there, c.self.inside.starts.ok.0)

pub overflow_sub-result : goal.overflow_sub-result
overflow_sub-result c =
    let starts = c.self.inside.starts.items in
    let same = ap (λ (n : Neighbours). length n.nodes) c.self.view_is in
    let there = part_there c.self.inside.nodes.items starts c.self.inside.others.items c.args.number c.self.invariant.0 c.self.invariant.1 (omega (arith, same, c.requires)) in
    let to : c.index.result.now ≡ get_or starts (c.args.number + 1) 0 = c.index.ensures ∙ get_or_default starts (c.args.number + 1) c.index.result.now 0 there in
    let from : c.index-2.result.now ≡ get_or starts c.args.number 0 = c.index-2.ensures ∙ get_or_default starts c.args.number c.index-2.result.now 0 (omega (arith, there)) in
    let up = c.self.invariant.1.rising c.args.number there in
    omega (arith, to, from, up)

pub returns : goal.returns
returns c =
    let starts = c.self.inside.starts.items in
    let others = c.self.inside.others.items in
    let same = ap (λ (n : Neighbours). length n.nodes) c.self.view_is in
    let there = part_there c.self.inside.nodes.items starts others c.args.number c.self.invariant.0 c.self.invariant.1 (omega (arith, same, c.requires)) in
    let to : c.index.result.now ≡ get_or starts (c.args.number + 1) 0 = c.index.ensures ∙ get_or_default starts (c.args.number + 1) c.index.result.now 0 there in
    let from : c.index-2.result.now ≡ get_or starts c.args.number 0 = c.index-2.ensures ∙ get_or_default starts c.args.number c.index-2.result.now 0 (omega (arith, there)) in
    let long = length-part starts others c.args.number c.self.invariant.1 there in
    let list = ap length (part_at starts others c.args.number there) in
    let view = ap (λ (n : Neighbours). length (get_or n.lists c.args.number [])) c.self.view_is in
    omega (arith, to, from, long, list, view)
