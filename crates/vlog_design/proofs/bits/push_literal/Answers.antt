use Rattle.vlog_design.proofs.RunLaws.{literal_added}
use Rattle.vlog_design.proofs.bits.push_literal.Goals as goal

pub returns : goal.returns
returns c = record {
  added = literal_added c.args.out.now c.push_constants.new.out c.loop-bit.out c.args.bits.now.fill c.args.bits.now.filled c.args.bits.now.own.items c.loop-bit.bit-index
      c.loop-bit-test.false c.deref-bit-items.ensures.value c.loop-bit.invariant c.in_ok-push_constants.ensures.added;
}
