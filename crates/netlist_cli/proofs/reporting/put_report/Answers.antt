use Rattle.std.proofs.Common.{Ok}
use Rattle.netlist_cli.proofs.OverDesigns.{report_is_made}
use Rattle.netlist_cli.proofs.reporting.put_report.Goals as goal

pub returns-in-Ok : goal.returns-in-Ok
returns-in-Ok g c = report_is_made _ _ _ c.args.constants.now c.args.hier.now (Ok tt) (rw c.in-Ok.is at c.report.ensures)
