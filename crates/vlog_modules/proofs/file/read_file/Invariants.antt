use Rattle.readers.specs.Readers.{room}
use Rattle.readers.proofs.Loops.{Collects}
use Rattle.std.specs.Prelude.{◌-◌, ◌≤◌}
use Rattle.vlog_modules.specs.States.{AreModules, modules_size}
use Rattle.vlog_tokens.specs.Language.{vlog}
use Rattle.vlog_modules.specs.Grammar.{pieces, file}
use Rattle.vlog_modules.proofs.file.read_file.Given as goal

abbrev pub invariant-loop-so_far : goal.invariant-loop-so_far
invariant-loop-so_far g l = Collects vlog file (pieces l.so_far) (AreModules l.so_far × (modules_size l.so_far ≤ room l.fn.cursor - 1)) (modules_size l.so_far) l.cursor l.fn.cursor (g.S.Source.supply l.source) (g.S.Source.supply l.fn.source)

abbrev pub decreases-loop-so_far : goal.decreases-loop-so_far
decreases-loop-so_far g l = room l.cursor
