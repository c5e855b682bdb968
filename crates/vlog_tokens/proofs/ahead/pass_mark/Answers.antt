use Rattle.vlog_tokens.proofs.HeldMarks.{mark_next, mark_past, mark_room}
use Rattle.vlog_tokens.proofs.ahead.pass_mark.Goals as goal

pub pass_space-requires : goal.pass_space-requires
pass_space-requires c = record { near = (mark_next _ _ c.requires.1).near }

pub advance-requires-clause-held : goal.advance-requires-clause-held
advance-requires-clause-held c = (mark_room _ _ _ c.requires.1 c.pass_space.ensures).0

pub advance-requires-clause-within : goal.advance-requires-clause-within
advance-requires-clause-within c = (mark_room _ _ _ c.requires.1 c.pass_space.ensures).1

pub returns : goal.returns
returns c = mark_past _ _ _ _ c.requires.1 c.pass_space.ensures c.advance.ensures.held c.advance.ensures.place
