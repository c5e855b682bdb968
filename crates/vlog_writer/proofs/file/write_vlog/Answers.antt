use Rattle.std.specs.Prelude.{true}
use Rattle.vlog_writer.specs.Forms.{file_lines}
use Rattle.vlog_writer.specs.Layout.{laid}
use Rattle.nl_output.proofs.Whole.{writes_whole}
use Rattle.vlog_writer.proofs.file.write_vlog.Goals as goal

pub returns : goal.returns
returns g c =
    let modules = rw c.items.ensures at c.lay_modules.ensures in
    writes_whole g.O.Sink.receipt c.args.sink.now c.finish-result.new.sink _ (laid (file_lines true c.args.file.now.modules)) c.finish-result.result
    (rw c.new-output.ensures at modules) c.finish-result.ensures
