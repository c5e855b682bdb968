use Rattle.net_live.specs.Live.{bit_word}
use Rattle.to_spice_rules.proofs.Firsts.{mapped_more}
use Rattle.to_spice_rules.proofs.words.push_words.Goals as goal

pub loop-bit-preserved : goal.loop-bit-preserved
loop-bit-preserved c = mapped_more (bit_word c.args.port.now) c.args.words.now c.loop-bit.words c.push.new.self c.loop-bit.bit c.in_ok-bit_word.field-0 c.loop-bit.invariant c.in_ok-bit_word.ensures c.in_ok-push.ensures.added
