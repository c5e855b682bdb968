use Rattle.edif_tokens.proofs.HeldTokens.{word_next, word_past, word_room}
use Rattle.edif_tokens.proofs.ahead.pass_word_behind.Goals as goal

pub pass_space-requires-clause-near : goal.pass_space-requires-clause-near
pass_space-requires-clause-near c = (word_next _ _ c.requires.word c.requires.some).near

pub pass-requires-clause-held : goal.pass-requires-clause-held
pass-requires-clause-held c = (word_room c.args.bytes.now _ _ c.requires.word c.requires.some c.pass_space.ensures).0

pub pass-requires-clause-within : goal.pass-requires-clause-within
pass-requires-clause-within c = (word_room c.args.bytes.now _ _ c.requires.word c.requires.some c.pass_space.ensures).1

pub pass-requires-clause-each : goal.pass-requires-clause-each
pass-requires-clause-each c = (word_room c.args.bytes.now _ _ c.requires.word c.requires.some c.pass_space.ensures).2

pub returns : goal.returns
returns c = word_past c.args.bytes.now _ _ _ c.requires.word c.pass_space.ensures c.pass.ensures.held c.pass.ensures.place
