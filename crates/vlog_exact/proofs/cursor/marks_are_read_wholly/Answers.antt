use Rattle.readers.proofs.Shapes.{closed_one}
use Rattle.vlog_exprs.specs.Grammar.{mark}
use Rattle.vlog_exprs.proofs.Live.{live_mark}
use Rattle.vlog_exprs.specs.Reasons as say
use Rattle.vlog_laws.specs.Exact.{Any}
use Rattle.vlog_exact.proofs.Wholly.{wholly}
use Rattle.vlog_exact.proofs.cursor.marks_are_read_wholly.Goals as goal

pub returns : goal.returns
returns c = λ due. wholly (mark due) Any (live_mark due) (closed_one (λ _ x. say.mark_of due x.token) tt) tt
