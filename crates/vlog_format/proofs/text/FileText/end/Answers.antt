use Rattle.std.proofs.Common.{refl}
use Rattle.vlog_format.proofs.Behind.{text_ended}
use Rattle.vlog_format.proofs.text.FileText.end.Goals as goal

pub returns : goal.returns
returns c ms heading items is =
    text_ended c.args.self.now (record { sink = c.lay_module_end.new.sink; output = c.lay_module_end.new.output; implicit = c.args.self.now.implicit }) ms heading items is c.lay_module_end.ensures refl
