use Rattle.edif_writer.specs.Forms.{file_block}
use Rattle.edif_writer.specs.Layout.{laid}
use Rattle.nl_output.proofs.Whole.{writes_whole}
use Rattle.edif_writer.proofs.file.write_edif.Goals as goal

pub returns : goal.returns
returns g c =
    writes_whole g.O.Sink.receipt c.args.sink.now c.finish-result.new.sink _ (laid 0 (file_block c.args.file.now)) c.finish-result.result
    (rw c.new-output.ensures at c.lay.ensures) c.finish-result.ensures
