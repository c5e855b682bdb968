use Rattle.vlog_tokens.specs.Language.{vlog}
use Rattle.readers.specs.Readers.{room}
use Rattle.readers.proofs.Loops.{Goes}
use Rattle.vlog_modules.specs.declared.file.SoFar.{SoFar}
use Rattle.vlog_modules.specs.Grammar.{pieces, file}
use Rattle.vlog_format.specs.Pieces.{IsMadeOf}
use Rattle.vlog_format.proofs.format.format_pieces.Given as goal

abbrev pub invariant-loop-made : goal.invariant-loop-made
invariant-loop-made g l = (so_far : SoFar) × IsMadeOf l.made so_far × Goes vlog file (pieces so_far) l.cursor l.fn.cursor (g.S.Source.supply l.source) (g.S.Source.supply l.fn.source)

abbrev pub decreases-loop-made : goal.decreases-loop-made
decreases-loop-made g l = room l.cursor
