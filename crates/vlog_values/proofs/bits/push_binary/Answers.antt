use Rattle.std.proofs.Common.{◌-◌, ◌∷◌, ◌∙◌, ap, sym}
use Rattle.vlog_values.specs.Bits.{binary_digits}
use Rattle.vlog_values.proofs.Steps.{binary_left, binary_none, done, moved}
use Rattle.vlog_values.proofs.bits.push_binary.Goals as goal

pub loop-i-preserved : goal.loop-i-preserved
loop-i-preserved c = rw c.in_ok-push.ensures.items (moved _ _ _ c.loop-i.invariant (binary_left c.loop-i.i c.args.n c.loop-i-test.true ∙ ap (λ b. b ∷ binary_digits (c.loop-i.i - 1) c.args.n) (sym c.bit_at.ensures)))

pub returns : goal.returns
returns c = record { added = done _ c.loop-i.invariant (binary_none _ _ c.loop-i-test.false) }
