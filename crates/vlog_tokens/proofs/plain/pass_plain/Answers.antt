use Rattle.std.proofs.Common.{ap, ◌∙◌}
use Rattle.vlog_tokens.specs.Plains.{plain_length}
use Rattle.vlog_tokens.proofs.HeldPlains.{plain_next, plain_past, plain_room}
use Rattle.vlog_tokens.proofs.plain.pass_plain.Goals as goal

pub pass_space-requires : goal.pass_space-requires
pass_space-requires c = record { near = (plain_next _ _ c.requires.1).near }

pub pass-requires-clause-held : goal.pass-requires-clause-held
pass-requires-clause-held c = (plain_room _ _ _ _ c.requires.1 c.pass_space.ensures (c.plain_length-count.ensures ∙ ap plain_length c.held.ensures)).0

pub pass-requires-clause-within : goal.pass-requires-clause-within
pass-requires-clause-within c = (plain_room _ _ _ _ c.requires.1 c.pass_space.ensures (c.plain_length-count.ensures ∙ ap plain_length c.held.ensures)).1

pub pass-requires-clause-each : goal.pass-requires-clause-each
pass-requires-clause-each c = (plain_room _ _ _ _ c.requires.1 c.pass_space.ensures (c.plain_length-count.ensures ∙ ap plain_length c.held.ensures)).2

pub returns : goal.returns
returns c = plain_past c.args.bytes.now _ _ _ c.pass_space.ensures (c.plain_length-count.ensures ∙ ap plain_length c.held.ensures) c.pass.ensures.held c.pass.ensures.place
