use Rattle.edif_spaces.proofs.PlainLaws.{made_step}
use Rattle.edif_spaces.proofs.plain.plain_made.Goals as goal

pub returns : goal.returns
returns c = λ idents other plain. made_step idents _ _ _ other plain c.requires.few c.in_ok-ident.ensures
