use Rattle.std.proofs.Common.{refl}
use Rattle.vlog_exprs.specs.Grammar.{constant}
use Rattle.vlog_exprs.proofs.Live.{live_constant}
use Rattle.vlog_exprs.proofs.Clear.{clear_constant}
use Rattle.vlog_laws.specs.Exact.{EndsConstant}
use Rattle.vlog_laws.proofs.Reading.{exact}
use Rattle.vlog_laws.proofs.parts.constants_are_exact.Goals as goal

pub returns : goal.returns
returns c = exact constant EndsConstant live_constant (clear_constant (λ _ x. EndsConstant x) (λ v x n. n)) (λ n. refl)
