use Rattle.std.proofs.Common.{◌≡◌, Some}
use Rattle.netlist_cli.specs.Meanings.{edif_first}
use Rattle.netlist_cli.proofs.Reading.{error_causes, error_unwritten, text_takes}
use Rattle.netlist_cli.proofs.OverDesigns.{edif_design_is_read, edif_design_within}
use Rattle.netlist_cli.proofs.designs.read_edif_design.Goals as goal

pub returns-in-Ok : goal.returns-in-Ok
returns-in-Ok g c =
    let read = rw c.in-Ok.is at c.read_edif.ensures.reads in
    record {
      reads = edif_design_is_read _ _ c.in-Ok.file read.value read.ended c.design_of-found.result c.design_of-found.ensures;
      within = edif_design_within c.in-Ok.file (rw c.in-Ok.is at c.read_edif.ensures.value) c.design_of-found.result c.design_of-found.ensures;
      taken = text_takes _ _ _ _ _ _ c.read_edif.result c.read_edif.ensures.reads;
    }

pub returns-in-Err : goal.returns-in-Err
returns-in-Err g c =
    let read = rw c.in-Err.is at c.read_edif.ensures.reads in
    record {
      reads = rw c.of_read_error.ensures (record { unwritten = error_unwritten c.in-Err.error; cause = error_causes _ _ _ _ (λ file verdict. edif_first file ≡ Some verdict) c.in-Err.error _ _ read });
      within = tt;
      taken = text_takes _ _ _ _ _ _ c.read_edif.result c.read_edif.ensures.reads;
    }
