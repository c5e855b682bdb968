use Rattle.edif_spaces.proofs.PlainLaws.{own_step}
use Rattle.edif_spaces.proofs.plain.plain_own.Goals as goal

pub returns : goal.returns
returns c = λ idents own plain. own_step idents _ _ _ own c.requires.stem plain c.in_ok-ident.ensures
