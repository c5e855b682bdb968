use Rattle.edif_productions.proofs.MapTexts.{headers}
use Rattle.edif_productions.proofs.file.headers_are_read.Goals as goal

pub returns : goal.returns
returns c = headers
