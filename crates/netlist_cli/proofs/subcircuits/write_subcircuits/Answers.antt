use Rattle.std.proofs.Common.{refl}
use Rattle.netlist_cli.specs.Meanings.{IsSpiceOf, spice_rules}
use Rattle.netlist_cli.proofs.OverDesigns.{design_is_used, no_design_is_told}
use Rattle.netlist_cli.proofs.subcircuits.write_subcircuits.Goals as goal

pub returns-in-Ok-clause-does : goal.returns-in-Ok-clause-does
returns-in-Ok-clause-does g c =
    design_is_used _ _ _ _ _ c.args.top.now spice_rules IsSpiceOf c.in-Ok.design (rw c.in-Ok.is at c.read_design.ensures.reads) c.put_subcircuits-done.result c.put_subcircuits-done.ensures

pub returns-in-Err-clause-does : goal.returns-in-Err-clause-does
returns-in-Err-clause-does g c = no_design_is_told _ _ _ _ _ c.args.top.now spice_rules IsSpiceOf c.in-Err.failure (rw c.in-Err.is at c.read_design.ensures.reads) refl
