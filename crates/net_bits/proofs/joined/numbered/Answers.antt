use Rattle.std.proofs.Common.{arith, rules, ◌≡◌, ℕ, ap, length, replicate, subst, sym, ◌∙◌}
use Rattle.std.proofs.lemmas.List.{length-replicate}
use Rattle.net_bits.specs.Neighbours.{ends}
use Rattle.net_bits.proofs.EndKeys.{length-ends}
use Rattle.net_bits.proofs.EndNumbers.{IsNumbering, numbering_all, numbering_more, numbering_none, place_within}
use Rattle.net_bits.proofs.joined.numbered.Goals as goal

pub loop-key-init : goal.loop-key-init
loop-key-init c =
    let all = ends c.args.joins.now in
    let zeros : c.in_ok-numbers.numbers.items ≡ replicate (length c.args.keys.now) 0 = search rules in
    let long : length c.in_ok-numbers.numbers.items ≡ length all = ap length zeros ∙ (length-replicate {A = ℕ} (length c.args.keys.now) 0 ∙ c.requires.keys.len) in
    subst (λ ns. IsNumbering all c.args.keys.now 0 ns c.in_ok-numbers.numbers.items) (sym c.in_ok-nodes.ensures.items) (numbering_none all c.args.keys.now c.in_ok-numbers.numbers.items long)

pub end_at-node-requires : goal.end_at-node-requires
end_at-node-requires c =
    let joins = c.args.joins.now in
    let long = length-ends joins in
    let within = place_within (ends joins) c.args.keys.now (omega (arith, long, c.requires.few)) c.requires.keys c.requires.sorted c.loop-key.key-index c.loop-key-test.true in
    omega (arith, within, long, c.place_of-place.ensures)

pub number_end-requires-clause-place : goal.number_end-requires-clause-place
number_end-requires-clause-place c =
    let joins = c.args.joins.now in
    let long = length-ends joins in
    let within = place_within (ends joins) c.args.keys.now (omega (arith, long, c.requires.few)) c.requires.keys c.requires.sorted c.loop-key.key-index c.loop-key-test.true in
    omega (arith, within, c.place_of-place.ensures, c.loop-key.invariant.len)

pub number_end-requires-clause-few : goal.number_end-requires-clause-few
number_end-requires-clause-few c =
    omega (arith, c.loop-key.invariant.few, c.loop-key-test.true, c.requires.keys.len, length-ends c.args.joins.now, c.requires.few)

pub loop-key-preserved : goal.loop-key-preserved
loop-key-preserved c =
    let joins = c.args.joins.now in
    numbering_more (ends joins) c.args.keys.now (omega (arith, length-ends joins, c.requires.few)) c.requires.keys c.requires.sorted c.loop-key.key-index
    c.loop-key.nodes.items c.number_end.new.nodes.items c.loop-key.numbers.items c.number_end.new.numbers.items c.place_of-place.result c.end_at-node.result
    c.loop-key.invariant c.loop-key-test.true c.end_at-node.ensures.node c.place_of-place.ensures c.end_at-node.ensures.narrow c.in_ok-number_end.ensures.nodes c.in_ok-number_end.ensures.numbers

pub returns : goal.returns
returns c =
    let joins = c.args.joins.now in
    numbering_all (ends joins) c.args.keys.now (omega (arith, length-ends joins, c.requires.few)) c.requires.keys c.requires.sorted c.loop-key.key-index c.loop-key.nodes.items c.loop-key.numbers.items (omega (arith, c.loop-key-test.false)) c.loop-key.invariant
