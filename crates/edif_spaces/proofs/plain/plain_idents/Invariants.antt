use Rattle.std.proofs.Common.{◌≤◌}
use Rattle.edif_spaces.specs.Plain.{IsPlain}
use Rattle.edif_spaces.proofs.IdentLaws.{AreFirst, lent}
use Rattle.edif_spaces.proofs.plain.plain_idents.Given as goal

abbrev pub invariant-loop-name : goal.invariant-loop-name
invariant-loop-name l = record {
  first : AreFirst lent l.names l.name-index l.idents.items;
  plain : IsPlain l.idents.items l.from;
  few : l.from ≤ l.name-index;
}
