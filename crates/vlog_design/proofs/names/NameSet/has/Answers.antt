use Rattle.std.proofs.Common.{ap, bytes_eq, is_some, ◌∙◌}
use Rattle.vlog_design.proofs.NameSets.{any_place}
use Rattle.vlog_design.proofs.names.NameSet.has.Goals as goal

pub returns : goal.returns
returns c = c.is_some.ensures ∙ (ap is_some c.place.ensures ∙ any_place (bytes_eq c.args.name.now) c.args.self.now)
