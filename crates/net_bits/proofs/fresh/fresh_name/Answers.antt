use Rattle.std.proofs.Common.{arith, ◌≡◌, ◌+◌, true, ap, sym, ◌∙◌}
use Rattle.net_bits.specs.Names.{has_name, numbered}
use Rattle.net_bits.proofs.FreshLaws.{used-le, used_more}
use Rattle.net_bits.proofs.fresh.fresh_name.Goals as goal

pub prove-unreachable-requires : goal.prove-unreachable-requires
prove-unreachable-requires c =
    let set = c.args.used.now in
    let stem = c.args.stem.now in
    let has : has_name set (numbered stem c.numbers.number) ≡ true = ap (has_name set) (sym (c.bytes.ensures ∙ c.numbers.invariant.name)) ∙ (sym c.has.ensures ∙ c.numbers-test.true) in
    let most = used-le set stem (c.numbers.number + 1) (omega (arith, c.numbers.auto.number-fits)) (used_more set stem c.numbers.number c.numbers.invariant.used has) in
    omega (arith, most, c.len-most.ensures, c.if-prove.true)
