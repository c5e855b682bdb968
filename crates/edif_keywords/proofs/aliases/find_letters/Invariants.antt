use Rattle.std.proofs.Common.{◌≡◌, drop}
use Rattle.edif_keywords.specs.Aliases.{alias_of, aliases_in}
use Rattle.edif_keywords.proofs.aliases.find_letters.Given as goal

abbrev pub invariant-loop-i : goal.invariant-loop-i
invariant-loop-i l = alias_of (aliases_in (drop l.i l.keywords.entries)) l.word ≡ alias_of (aliases_in l.keywords.entries) l.word
