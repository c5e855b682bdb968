use Rattle.std.proofs.Common.{arith}
use Rattle.vlog_tokens.proofs.HeldLiterals.{literal_room, literal_past}
use Rattle.vlog_tokens.proofs.literal.pass_digits.Goals as goal

pub overflow_add-count : goal.overflow_add-count
overflow_add-count c = omega (arith, (literal_room _ _ _ c.requires.base c.requires.some c.requires.digits).0, c.place-here.ensures.held)

pub pass-requires-clause-held : goal.pass-requires-clause-held
pass-requires-clause-held c = (literal_room _ _ _ c.requires.base c.requires.some c.requires.digits).0

pub pass-requires-clause-within : goal.pass-requires-clause-within
pass-requires-clause-within c = (literal_room _ _ _ c.requires.base c.requires.some c.requires.digits).1

pub pass-requires-clause-each : goal.pass-requires-clause-each
pass-requires-clause-each c = (literal_room _ _ _ c.requires.base c.requires.some c.requires.digits).2

pub returns : goal.returns
returns c = literal_past c.args.bytes.now _ c.args.count c.pass.ensures.held c.pass.ensures.place
