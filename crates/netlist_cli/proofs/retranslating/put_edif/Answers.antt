use Rattle.netlist_cli.proofs.OverDesigns.{edif_is_made}
use Rattle.netlist_cli.proofs.retranslating.put_edif.Goals as goal

pub returns-in-Ok : goal.returns-in-Ok
returns-in-Ok g c =
    rw c.after_writing.ensures (edif_is_made _ _ _ c.args.hier c.args.constants.now c.in-Ok.file c.write_edif-written.result (rw c.in-Ok.is at c.to_edif.ensures.same) ((rw c.in-Ok.is at c.to_edif.ensures.value) c.requires) c.write_edif-written.ensures)
