use Rattle.std.proofs.Common.{Some, refl}
use Rattle.netlist_cli.specs.Meanings.{IsEdifOf, any_design}
use Rattle.netlist_cli.proofs.OverDesigns.{design_is_used, no_design_is_told}
use Rattle.netlist_cli.proofs.retranslating.translate_back.Goals as goal

pub returns-in-Ok-clause-does : goal.returns-in-Ok-clause-does
returns-in-Ok-clause-does g c =
    design_is_used _ _ _ _ _ (Some c.args.top.now) any_design (IsEdifOf c.args.constants.now) c.in-Ok.design (rw c.in-Ok.is at c.read_design_under.ensures.reads) c.put_edif-done.result c.put_edif-done.ensures

pub returns-in-Err-clause-does : goal.returns-in-Err-clause-does
returns-in-Err-clause-does g c =
    no_design_is_told _ _ _ _ _ (Some c.args.top.now) any_design (IsEdifOf c.args.constants.now) c.in-Err.failure (rw c.in-Err.is at c.read_design_under.ensures.reads) refl
