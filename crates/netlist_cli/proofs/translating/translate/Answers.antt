use Rattle.std.proofs.Common.{None, refl}
use Rattle.netlist_cli.specs.Meanings.{IsVerilogOf, params_of, target_rules}
use Rattle.netlist_cli.proofs.OverDesigns.{design_is_used, no_design_is_told}
use Rattle.netlist_cli.proofs.translating.translate.Goals as goal

pub returns-in-Ok-clause-does : goal.returns-in-Ok-clause-does
returns-in-Ok-clause-does g c =
    design_is_used _ _ _ _ _ None (target_rules (params_of c.args.names.now)) IsVerilogOf c.in-Ok.design (rw c.in-Ok.is at c.read_edif_design.ensures.reads) c.put_verilog-done.result c.put_verilog-done.ensures

pub returns-in-Err-clause-does : goal.returns-in-Err-clause-does
returns-in-Err-clause-does g c =
    no_design_is_told _ _ _ _ _ None (target_rules (params_of c.args.names.now)) IsVerilogOf c.in-Err.failure (rw c.in-Err.is at c.read_edif_design.ensures.reads) refl
