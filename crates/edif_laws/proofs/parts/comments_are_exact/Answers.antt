use Rattle.edif_keywords.specs.Grammar.{comment}
use Rattle.edif_keywords.proofs.Live.{live_comment, closed_comment}
use Rattle.edif_laws.proofs.Reading.{exact}
use Rattle.edif_laws.proofs.parts.comments_are_exact.Goals as goal

pub returns : goal.returns
returns c = exact comment live_comment closed_comment
