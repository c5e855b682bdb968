use Rattle.edif_tokens.proofs.HeldTokens.{mark_next, mark_past, mark_room}
use Rattle.edif_tokens.proofs.ahead.pass_mark_behind.Goals as goal

pub pass_space-requires-clause-near : goal.pass_space-requires-clause-near
pass_space-requires-clause-near c = (mark_next _ _ c.requires.mark.1).near

pub advance-requires-clause-held : goal.advance-requires-clause-held
advance-requires-clause-held c = (mark_room c.args.bytes.now _ _ c.requires.mark.1 c.pass_space.ensures).0

pub advance-requires-clause-within : goal.advance-requires-clause-within
advance-requires-clause-within c = (mark_room c.args.bytes.now _ _ c.requires.mark.1 c.pass_space.ensures).1

pub returns : goal.returns
returns c = mark_past c.args.bytes.now _ _ _ c.requires.mark.1 c.pass_space.ensures c.advance.ensures.held c.advance.ensures.place
