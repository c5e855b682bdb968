use Rattle.std.proofs.Common.{◌≡◌}
use Rattle.edif_spaces.proofs.IdentLaws.{AreFirst, lent}
use Rattle.edif_spaces.proofs.idents.listed_idents.Given as goal

abbrev pub invariant-loop-name : goal.invariant-loop-name
invariant-loop-name l = AreFirst lent l.names l.name-index l.idents.items × (l.space ≡ l.idents.items)
