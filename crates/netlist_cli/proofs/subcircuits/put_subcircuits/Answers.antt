use Rattle.netlist_cli.proofs.OverDesigns.{subcircuits_are_made}
use Rattle.netlist_cli.proofs.subcircuits.put_subcircuits.Goals as goal

pub returns-in-Ok : goal.returns-in-Ok
returns-in-Ok g c = rw c.after_writing.ensures (subcircuits_are_made _ _ _ c.args.hier.now c.in-Ok.file c.write_spice-written.result (rw c.in-Ok.is at c.to_spice.ensures) c.write_spice-written.ensures)
