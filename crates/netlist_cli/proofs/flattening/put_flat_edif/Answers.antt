use Rattle.netlist_cli.proofs.OverDesigns.{flat_edif_is_made}
use Rattle.netlist_cli.proofs.flattening.put_flat_edif.Goals as goal

pub returns-in-Ok : goal.returns-in-Ok
returns-in-Ok g c =
    rw c.after_writing.ensures (flat_edif_is_made _ _ _ c.args.constants.now c.args.hier.now c.in-Ok.file c.write_edif-written.result c.zero-names.ensures.checked (rw c.in-Ok.is at c.flat_file.ensures) c.write_edif-written.ensures)
