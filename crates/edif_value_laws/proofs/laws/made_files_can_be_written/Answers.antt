use Rattle.edif_value_laws.proofs.Files.{made_value, top_named}
use Rattle.edif_value_laws.proofs.laws.made_files_can_be_written.Goals as goal

pub returns : goal.returns
returns c = record { value = made_value; top = top_named }
