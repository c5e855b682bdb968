use Rattle.netlist_cli.proofs.OverDesigns.{flat_modules_are_made}
use Rattle.netlist_cli.proofs.flattening.put_flat_verilog.Goals as goal

pub returns-in-Ok : goal.returns-in-Ok
returns-in-Ok g c =
    rw c.after_writing.ensures (flat_modules_are_made _ _ _ c.args.constants.now c.args.hier.now c.in-Ok.modules c.write_vlog-written.result c.zero-names.ensures.checked (rw c.in-Ok.is at c.flat_modules.ensures) c.write_vlog-written.ensures)
