use Rattle.std.proofs.Common.{None, refl}
use Rattle.netlist_cli.specs.Meanings.{IsFlatEdifOf, any_design, flat_rules}
use Rattle.netlist_cli.proofs.OverDesigns.{design_is_used, no_design_is_told}
use Rattle.netlist_cli.proofs.flattening.flatten_edif.Goals as goal

pub returns-in-Ok-clause-does : goal.returns-in-Ok-clause-does
returns-in-Ok-clause-does g c =
    design_is_used _ _ _ _ _ None (flat_rules c.args.constants.now any_design) (IsFlatEdifOf c.args.constants.now) c.in-Ok.design (rw c.in-Ok.is at c.read_edif_design.ensures.reads) c.put_flat_edif-done.result c.put_flat_edif-done.ensures

pub returns-in-Err-clause-does : goal.returns-in-Err-clause-does
returns-in-Err-clause-does g c =
    no_design_is_told _ _ _ _ _ None (flat_rules c.args.constants.now any_design) (IsFlatEdifOf c.args.constants.now) c.in-Err.failure (rw c.in-Err.is at c.read_edif_design.ensures.reads) refl
