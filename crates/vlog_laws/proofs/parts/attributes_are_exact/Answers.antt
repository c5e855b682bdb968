use Rattle.std.proofs.Common.{refl, []}
use Rattle.vlog_exprs.specs.Grammar.{attrs}
use Rattle.vlog_exprs.proofs.Live.{live_groups}
use Rattle.vlog_exprs.proofs.Clear.{clear_groups}
use Rattle.vlog_laws.specs.Exact.{EndsAttributes}
use Rattle.vlog_laws.proofs.Reading.{exact}
use Rattle.vlog_laws.proofs.parts.attributes_are_exact.Goals as goal

pub returns : goal.returns
returns c = exact attrs EndsAttributes (live_groups []) (clear_groups [] (λ _ x. EndsAttributes x) (λ v x n. n)) refl
