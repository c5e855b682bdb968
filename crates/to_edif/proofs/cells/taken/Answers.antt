use Rattle.std.proofs.Common.{ap, length, refl, set, subst, sym}
use Rattle.std.specs.Prelude.{IfSome}
use Rattle.std.proofs.lemmas.Option.{slice_get_read}
use Rattle.net_bits.specs.Classes.{AreClassesAt}
use Rattle.to_edif.proofs.CellLaws.{taken_are}
use Rattle.to_edif.proofs.cells.taken.Goals as goal

pub returns-in-Some-clause-kept : goal.returns-in-Some-clause-kept
returns-in-Some-clause-kept c = ap (λ slot. set c.args.kept.now.items c.args.number slot) c.take.ensures.after

pub returns-in-Some-clause-classes : goal.returns-in-Some-clause-classes
returns-in-Some-clause-classes c =
    let kept = c.args.kept.now.items in
    let slot = c.in-Some.slot.now in
    let item = c.in-Some.ensures.item in
    let at = slice_get_read kept (length kept) c.args.number slot refl item.3.0 item.1 in
    subst (λ found. IfSome found (AreClassesAt c.args.cells.now c.args.number)) (sym c.take.ensures.value) (taken_are c.args.cells.now kept c.args.number slot at c.requires)
