use Rattle.edif_texts_go_on.proofs.Law.{of_bytes}
use Rattle.edif_texts_go_on.proofs.texts.proper_tokens_are_of_bytes.Goals as goal

pub returns : goal.returns
returns c = of_bytes
