use Rattle.std.proofs.Common.{refl, arith}
use Rattle.std.proofs.lemmas.Result.{err_from_is_err_and}
use Rattle.nl_bytes.proofs.Uses.{offset_grows}
use Rattle.vlog_tokens.proofs.Parts.{part_then, part_err}
use Rattle.vlog_tokens.proofs.Scanning.{stays_part, stays_halted, part_goes_on, part_ended}
use Rattle.vlog_tokens.proofs.scan.rest.Goals as goal

pub returns-in_err-next-clause-part : goal.returns-in_err-next-clause-part
returns-in_err-next-clause-part g c =
    let p = err_from_is_err_and c.from_residual.result c.from_residual.ensures.1 in
    rw (p.1, p.2) (stays_halted _ _ c.loop-text.invariant.part c.in_err-next.ensures.stays _)

pub returns-in_err-then-clause-part : goal.returns-in_err-then-clause-part
returns-in_err-then-clause-part g c =
    let p = err_from_is_err_and c.from_residual-in_err-then.result c.from_residual-in_err-then.ensures.1 in
    rw (p.1, p.2) (part_err (part_then (part_then c.loop-text.invariant.part (stays_part c.in_ok-next.ensures.stays _)) c.in_err-then.ensures.part) _)

pub returns-in_default-clause-part : goal.returns-in_default-clause-part
returns-in_default-clause-part g c =
    part_ended (part_then (part_then c.loop-text.invariant.part (stays_part c.in_ok-next.ensures.stays _)) (rw c.in_default.is at c.in_ok-then.ensures.part)) _ refl refl

pub loop-text-smaller : goal.loop-text-smaller
loop-text-smaller g c =
    omega (arith, offset_grows c.in_ok-next.ensures.stays.uses, (rw c.in-Some.is at c.in_ok-then.ensures.moves).1, c.in_ok-next.ensures.stays.within)

pub loop-text-preserved : goal.loop-text-preserved
loop-text-preserved g c = record {
  part = part_goes_on _ (part_then (part_then c.loop-text.invariant.part (stays_part c.in_ok-next.ensures.stays _)) (rw c.in-Some.is at c.in_ok-then.ensures.part));
  count = omega (arith, c.stay.ensures.count);
  so_far = λ h. (rw c.in-Some.is at c.in_ok-then.ensures.so_far) (c.in_ok-next.ensures.so_far (c.loop-text.invariant.so_far h));
}

pub returns-in_default-clause-so_far : goal.returns-in_default-clause-so_far
returns-in_default-clause-so_far g c = λ h. (rw c.in_default.is at c.in_ok-then.ensures.so_far) (c.in_ok-next.ensures.so_far (c.loop-text.invariant.so_far h))
