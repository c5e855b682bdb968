use Rattle.std.proofs.Common.{◌∙◌, ◌-◌, ◌^◌, arith}
use Rattle.vlog_ties.proofs.TableBits.{bits_done, bits_more}
use Rattle.vlog_ties.proofs.counts.table_bits.Goals as goal

pub loop-number-preserved : goal.loop-number-preserved
loop-number-preserved c =
    c.saturating_add-bits.ensures
    ∙ bits_more c.args.table.now c.loop-number.number (2 ^ 64 - 1) c.loop-number.bits c.entry_bits.result (omega (arith, c.loop-number-test.true, c.len-number-end.ensures)) c.loop-number.invariant c.entry_bits.ensures

pub returns : goal.returns
returns c = bits_done c.args.table.now c.loop-number.number (2 ^ 64 - 1) c.loop-number.bits (omega (arith, c.loop-number-test.false, c.len-number-end.ensures)) c.loop-number.invariant
