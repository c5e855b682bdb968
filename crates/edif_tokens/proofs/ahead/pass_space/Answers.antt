use Rattle.edif_tokens.proofs.HeldTokens.{space_room}
use Rattle.edif_tokens.proofs.ahead.pass_space.Goals as goal

pub pass-requires-clause-held : goal.pass-requires-clause-held
pass-requires-clause-held c = (space_room c.args.bytes.now _ c.requires.space c.requires.near).0

pub pass-requires-clause-within : goal.pass-requires-clause-within
pass-requires-clause-within c = (space_room c.args.bytes.now _ c.requires.space c.requires.near).1

pub pass-requires-clause-each : goal.pass-requires-clause-each
pass-requires-clause-each c = (space_room c.args.bytes.now _ c.requires.space c.requires.near).2
