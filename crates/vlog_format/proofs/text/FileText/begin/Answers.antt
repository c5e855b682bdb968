use Rattle.std.proofs.Common.{refl}
use Rattle.vlog_format.proofs.Behind.{text_begun}
use Rattle.vlog_format.proofs.text.FileText.begin.Goals as goal

pub returns : goal.returns
returns c ms is =
    let m = c.args.heading.now in
    rw c.note_implicit.ensures (text_begun c.args.self.now (record { sink = c.lay_module_start.new.sink; output = c.lay_module_start.new.output; implicit = m.implicit }) ms m is c.lay_module_start.ensures refl)
