use Rattle.std.proofs.Common.{◌≡◌, drop}
use Rattle.vlog_exprs.specs.Reasons.{meant_by, rows}
use Rattle.vlog_exprs.proofs.reasons.meant_by.Given as goal

abbrev pub invariant-loop-spelling : goal.invariant-loop-spelling
invariant-loop-spelling g l = meant_by (rows (drop l.spelling-index l.words)) l.word ≡ meant_by (rows l.words) l.word
