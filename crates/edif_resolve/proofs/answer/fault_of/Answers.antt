use Rattle.std.proofs.Common.{subst}
use Rattle.net_hier.specs.Build.{IsFaultOf}
use Rattle.edif_design.specs.Design.{edif_cells, edif_top}
use Rattle.edif_resolve.proofs.Answering.{too_big_answered}
use Rattle.edif_resolve.proofs.FewParts.{cells_fit}
use Rattle.edif_resolve.proofs.answer.fault_of.Goals as goal

pub file_recursion-requires-clause-first : goal.file_recursion-requires-clause-first
file_recursion-requires-clause-first c = subst (IsFaultOf (edif_cells c.args.tabled.now)) c.in-Recursion.is c.requires.fault

pub returns-in-TooBig : goal.returns-in-TooBig
returns-in-TooBig c =
    let file = c.args.tabled.now in
    too_big_answered (edif_cells file) (edif_top file, cells_fit file c.requires.clean c.requires.small) c.in-TooBig.units (subst (IsFaultOf (edif_cells file)) c.in-TooBig.is c.requires.fault)
