use Rattle.std.proofs.Common.{◌≡◌, Some}
use Rattle.netlist_cli.specs.Meanings.{edif_first}
use Rattle.netlist_cli.proofs.Reading.{error_causes, error_unwritten, text_takes}
use Rattle.netlist_cli.proofs.OverDesigns.{file_is_judged}
use Rattle.netlist_cli.proofs.judging.judge_edif_text.Goals as goal

pub returns-in-Ok : goal.returns-in-Ok
returns-in-Ok g c =
    let read = rw c.in-Ok.is at c.read_edif.ensures.reads in
    record {
      reads = file_is_judged _ _ c.in-Ok.file read.value read.ended c.judge_edif-judged.result c.judge_edif-judged.ensures;
      taken = text_takes _ _ _ _ _ _ c.read_edif.result c.read_edif.ensures.reads;
    }

pub returns-in-Err : goal.returns-in-Err
returns-in-Err g c =
    let read = rw c.in-Err.is at c.read_edif.ensures.reads in
    record {
      reads = rw c.of_read_error.ensures (record { unwritten = error_unwritten c.in-Err.error; cause = error_causes _ _ _ _ (λ file verdict. edif_first file ≡ Some verdict) c.in-Err.error _ _ read });
      taken = text_takes _ _ _ _ _ _ c.read_edif.result c.read_edif.ensures.reads;
    }
