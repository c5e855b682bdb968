use Rattle.readers.proofs.Shapes.{closed_one}
use Rattle.vlog_exprs.specs.Grammar.{keyword}
use Rattle.vlog_exprs.specs.Reasons as say
use Rattle.vlog_laws.specs.Exact.{Any}
use Rattle.vlog_exact.proofs.Single.{live_keyword}
use Rattle.vlog_exact.proofs.Wholly.{wholly}
use Rattle.vlog_exact.proofs.cursor.keywords_are_read_wholly.Goals as goal

pub returns : goal.returns
returns c = λ due. wholly (keyword due) Any (live_keyword due) (closed_one (λ _ x. say.keyword_of due x.token) tt) tt
