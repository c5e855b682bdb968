use Rattle.std.proofs.Common.{◌≡◌, Some}
use Rattle.netlist_cli.specs.Meanings.{verilog_first}
use Rattle.netlist_cli.proofs.Reading.{error_causes, error_unwritten, text_takes}
use Rattle.netlist_cli.proofs.OverDesigns.{file_is_judged_under}
use Rattle.netlist_cli.proofs.judging.judge_text_under.Goals as goal

pub returns-in-Ok : goal.returns-in-Ok
returns-in-Ok g c =
    let read = rw c.in-Ok.is at c.read_vlog.ensures.reads in
    record {
      reads = file_is_judged_under c.args.top.now _ _ c.in-Ok.file read.value read.ended c.judge_under-judged.result c.judge_under-judged.ensures;
      taken = text_takes _ _ _ _ _ _ c.read_vlog.result c.read_vlog.ensures.reads;
    }

pub returns-in-Err : goal.returns-in-Err
returns-in-Err g c =
    let read = rw c.in-Err.is at c.read_vlog.ensures.reads in
    record {
      reads = rw c.of_read_error.ensures (record { unwritten = error_unwritten c.in-Err.error; cause = error_causes _ _ _ _ (λ file verdict. verilog_first c.args.top.now file ≡ Some verdict) c.in-Err.error _ _ read });
      taken = text_takes _ _ _ _ _ _ c.read_vlog.result c.read_vlog.ensures.reads;
    }
