use Rattle.std.proofs.Common.{Ok}
use Rattle.netlist_cli.proofs.OverDesigns.{lint_is_made}
use Rattle.netlist_cli.proofs.linting.put_findings.Goals as goal

pub returns-in-Ok : goal.returns-in-Ok
returns-in-Ok g c = lint_is_made _ _ _ c.args.constants.now c.args.hier.now (Ok tt) (rw c.in-Ok.is at c.lint.ensures)
