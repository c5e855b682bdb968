use Rattle.std.proofs.Common.{refl}
use Rattle.flat_report.specs.Report.{IsReport}
use Rattle.netlist_cli.specs.Meanings.{few_flat}
use Rattle.netlist_cli.proofs.OverDesigns.{design_is_used, no_design_is_told}
use Rattle.netlist_cli.proofs.reporting.write_report.Goals as goal

pub returns-in-Ok-clause-does : goal.returns-in-Ok-clause-does
returns-in-Ok-clause-does g c =
    design_is_used _ _ _ _ _ c.args.top.now few_flat (IsReport c.args.constants.now) c.in-Ok.design (rw c.in-Ok.is at c.read_design.ensures.reads) c.put_report-done.result c.put_report-done.ensures

pub returns-in-Err-clause-does : goal.returns-in-Err-clause-does
returns-in-Err-clause-does g c = no_design_is_told _ _ _ _ _ c.args.top.now few_flat (IsReport c.args.constants.now) c.in-Err.failure (rw c.in-Err.is at c.read_design.ensures.reads) refl
