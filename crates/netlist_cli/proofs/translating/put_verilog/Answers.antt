use Rattle.netlist_cli.specs.Meanings.{params_of}
use Rattle.netlist_cli.proofs.OverDesigns.{modules_are_made}
use Rattle.netlist_cli.proofs.translating.put_verilog.Goals as goal

pub returns-in-Ok : goal.returns-in-Ok
returns-in-Ok g c =
    rw c.after_writing.ensures (modules_are_made _ _ _ c.args.hier.now (params_of c.args.names.now) c.in-Ok.modules c.write_vlog-written.result (rw c.in-Ok.is at c.modules_under.ensures) c.write_vlog-written.ensures)
