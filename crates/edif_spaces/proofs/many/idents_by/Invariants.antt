use Rattle.std.proofs.Common.{◌≤◌, take}
use Rattle.edif_spaces.specs.Plain.{IsPlain}
use Rattle.edif_spaces.proofs.IdentLaws.{AreFirst, lent, seen}
use Rattle.edif_spaces.proofs.ManyLaws.{AreTold}
use Rattle.edif_spaces.proofs.many.idents_by.Given as goal

abbrev pub invariant-loop-name : goal.invariant-loop-name
invariant-loop-name l = record {
  first : AreFirst lent l.names l.name-index l.idents.items;
  plain : IsPlain l.idents.items l.from;
  few : l.from ≤ l.name-index;
  told : AreTold l.digests (seen (take l.name-index l.names)) l.idents.items l.given;
}
