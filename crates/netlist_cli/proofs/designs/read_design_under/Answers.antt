use Rattle.std.proofs.Common.{◌≡◌, Some}
use Rattle.netlist_cli.specs.Meanings.{verilog_first}
use Rattle.netlist_cli.proofs.Reading.{error_causes, error_unwritten, text_takes}
use Rattle.netlist_cli.proofs.OverDesigns.{design_under_is_read, design_under_is_sound, design_under_within}
use Rattle.netlist_cli.proofs.designs.read_design_under.Goals as goal

pub returns-in-Ok : goal.returns-in-Ok
returns-in-Ok g c =
    let read = rw c.in-Ok.is at c.read_vlog.ensures.reads in
    record {
      sound = design_under_is_sound c.args.top.now c.in-Ok.file (rw c.in-Ok.is at c.read_vlog.ensures.value) c.design_under.result c.design_under.ensures;
      reads = design_under_is_read c.args.top.now _ _ c.in-Ok.file read.value read.ended c.design_under.result c.design_under.ensures;
      within = design_under_within c.args.top.now c.in-Ok.file (rw c.in-Ok.is at c.read_vlog.ensures.value) c.design_under.result c.design_under.ensures;
      taken = text_takes _ _ _ _ _ _ c.read_vlog.result c.read_vlog.ensures.reads;
    }

pub returns-in-Err : goal.returns-in-Err
returns-in-Err g c =
    let read = rw c.in-Err.is at c.read_vlog.ensures.reads in
    record {
      sound = tt;
      within = tt;
      reads = rw c.of_read_error.ensures (record { unwritten = error_unwritten c.in-Err.error; cause = error_causes _ _ _ _ (λ file verdict. verilog_first c.args.top.now file ≡ Some verdict) c.in-Err.error _ _ read });
      taken = text_takes _ _ _ _ _ _ c.read_vlog.result c.read_vlog.ensures.reads;
    }
