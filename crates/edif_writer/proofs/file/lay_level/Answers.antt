use Rattle.edif_writer.proofs.Digits.{zero_text}
use Rattle.edif_writer.proofs.file.lay_level.Goals as goal

pub returns : goal.returns
returns g c = rw zero_text c.put_line.ensures
