use Rattle.std.proofs.Common.{refl}
use Rattle.vlog_items.specs.Grammar.{param_set}
use Rattle.vlog_items.proofs.Live.{live_param_set}
use Rattle.vlog_items.proofs.Clear.{clear_param_set}
use Rattle.vlog_laws.specs.Exact.{EndsConstant}
use Rattle.vlog_exact.proofs.Wholly.{more}
use Rattle.vlog_exact.proofs.more.parameters_need_more.Goals as goal

pub returns : goal.returns
returns c = more param_set EndsConstant live_param_set (clear_param_set (λ _ x. EndsConstant x) (λ v x n. n)) (λ n. refl)
