use Rattle.std.proofs.Common.{◌∙◌, refl, sym, true, [], Ok}
use Rattle.nl_output.specs.Writing.{state}
use Rattle.nl_output.proofs.Whole.{writes_whole}
use Rattle.vlog_writer.specs.Forms.{file_lines}
use Rattle.vlog_writer.specs.Layout.{laid}
use Rattle.nl_memory.specs.Taken.{untaken, in_memory}
use Rattle.vlog_format.proofs.text.FileText.finish.Goals as goal

pub returns-in-Ok : goal.returns-in-Ok
returns-in-Ok c ms is =
    let written = writes_whole in_memory untaken c.finish.new.sink (state in_memory c.args.self.sink c.args.self.output) (laid (file_lines true ms)) (Ok c.in-Ok.field-0) is.lines c.in-Ok.ensures in
    c.into_bytes.ensures ∙ sym (written.all [] refl)
