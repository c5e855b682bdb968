use Rattle.readers.specs.Readers.{room}
use Rattle.readers.proofs.Loops.{Collects}
use Rattle.std.specs.Prelude.{◌-◌}
use Rattle.vlog_modules.specs.States.{AreGroups, groups_size}
use Rattle.vlog_tokens.specs.Language.{vlog}
use Rattle.vlog_modules.specs.Grammar.{param_groups}
use Rattle.vlog_modules.proofs.parameter.read_param_groups.Given as goal

abbrev pub invariant-loop-groups : goal.invariant-loop-groups
invariant-loop-groups g l = Collects vlog (param_groups l.fn.first) (param_groups l.groups) (AreGroups l.groups) (groups_size l.groups - groups_size l.fn.first) l.cursor l.fn.cursor (g.S.Source.supply l.source) (g.S.Source.supply l.fn.source)

abbrev pub decreases-loop-groups : goal.decreases-loop-groups
decreases-loop-groups g l = room l.cursor
