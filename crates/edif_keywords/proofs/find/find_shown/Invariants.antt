use Rattle.std.proofs.Common.{◌≡◌, drop}
use Rattle.std.specs.List.{find}
use Rattle.edif_keywords.specs.Calls.{shows_keyword}
use Rattle.edif_keywords.proofs.find.find_shown.Given as goal

abbrev pub invariant-loop-keyword : goal.invariant-loop-keyword
invariant-loop-keyword l = find (shows_keyword l.bytes) (drop l.keyword-index l.allowed) ≡ find (shows_keyword l.bytes) l.allowed
