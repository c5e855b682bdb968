use Rattle.edif_keywords.specs.Grammar.{comment}
use Rattle.edif_keywords.proofs.Live.{live_comment, closed_comment}
use Rattle.edif_exact.proofs.Wholly.{needs_more}
use Rattle.edif_exact.proofs.more.comments_need_more.Goals as goal

pub returns : goal.returns
returns c = needs_more comment live_comment closed_comment
