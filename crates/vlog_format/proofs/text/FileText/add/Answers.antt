use Rattle.std.proofs.Common.{refl}
use Rattle.vlog_format.proofs.Behind.{text_added}
use Rattle.vlog_format.proofs.text.FileText.add.Goals as goal

pub returns : goal.returns
returns c ms heading items is =
    text_added c.args.self.now (record { sink = c.lay_item.new.sink; output = c.lay_item.new.output; implicit = c.args.self.now.implicit }) ms heading items c.args.item.now is c.lay_item.ensures refl
