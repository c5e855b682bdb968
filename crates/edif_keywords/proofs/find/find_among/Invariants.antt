use Rattle.std.proofs.Common.{◌≡◌, drop}
use Rattle.std.specs.List.{find}
use Rattle.edif_values.specs.Keywords.{is_spelled}
use Rattle.edif_keywords.proofs.find.find_among.Given as goal

abbrev pub invariant-loop-keyword : goal.invariant-loop-keyword
invariant-loop-keyword l = find (is_spelled l.word) (drop l.keyword-index l.keywords) ≡ find (is_spelled l.word) l.keywords
