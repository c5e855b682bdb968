use Rattle.readers.proofs.Shapes.{closed_one}
use Rattle.vlog_exprs.specs.Grammar.{choice}
use Rattle.vlog_exprs.specs.Reasons as say
use Rattle.vlog_laws.specs.Exact.{Any}
use Rattle.vlog_exact.proofs.Single.{live_choice}
use Rattle.vlog_exact.proofs.Wholly.{wholly}
use Rattle.vlog_exact.proofs.cursor.choices_are_read_wholly.Goals as goal

pub returns : goal.returns
returns c = λ start words word value h. wholly (choice words) Any (live_choice words word value h) (closed_one (λ _ x. say.choice_of words x.token) tt) tt
