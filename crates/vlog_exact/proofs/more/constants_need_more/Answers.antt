use Rattle.std.proofs.Common.{refl}
use Rattle.vlog_exprs.specs.Grammar.{constant}
use Rattle.vlog_exprs.proofs.Live.{live_constant}
use Rattle.vlog_exprs.proofs.Clear.{clear_constant}
use Rattle.vlog_laws.specs.Exact.{EndsConstant}
use Rattle.vlog_exact.proofs.Wholly.{more}
use Rattle.vlog_exact.proofs.more.constants_need_more.Goals as goal

pub returns : goal.returns
returns c = more constant EndsConstant live_constant (clear_constant (λ _ x. EndsConstant x) (λ v x n. n)) (λ n. refl)
