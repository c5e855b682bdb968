use Rattle.std.proofs.Common.{◌≡◌, drop}
use Rattle.edif_keywords.specs.Reasons.{meant_by, rows}
use Rattle.edif_keywords.proofs.reasons.meant_by.Given as goal

abbrev pub invariant-loop-spelling : goal.invariant-loop-spelling
invariant-loop-spelling g l = meant_by (rows (drop l.spelling-index l.words)) l.word ≡ meant_by (rows l.words) l.word
