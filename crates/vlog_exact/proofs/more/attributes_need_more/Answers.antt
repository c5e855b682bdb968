use Rattle.std.proofs.Common.{refl, []}
use Rattle.vlog_exprs.specs.Grammar.{attrs}
use Rattle.vlog_exprs.proofs.Live.{live_groups}
use Rattle.vlog_exprs.proofs.Clear.{clear_groups}
use Rattle.vlog_laws.specs.Exact.{EndsAttributes}
use Rattle.vlog_exact.proofs.Wholly.{more}
use Rattle.vlog_exact.proofs.more.attributes_need_more.Goals as goal

pub returns : goal.returns
returns c = more attrs EndsAttributes (live_groups []) (clear_groups [] (λ _ x. EndsAttributes x) (λ v x n. n)) refl
