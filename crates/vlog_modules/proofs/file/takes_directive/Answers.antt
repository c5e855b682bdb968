use Rattle.std.proofs.Common.{None, refl}
use Rattle.readers.specs.Readers.{same}
use Rattle.vlog_exprs.proofs.Glances.{seen_says, seen_none, seen_fails}
use Rattle.vlog_exprs.proofs.Known.{leaves_proper}
use Rattle.vlog_modules.specs.Grammar.{at_directive}
use Rattle.vlog_modules.proofs.file.takes_directive.Goals as goal

pub returns-in_err-next : goal.returns-in_err-next
returns-in_err-next g c = seen_fails (λ _ x. at_directive x.token) _ _ _ _ same _ _ c.in_err-next.ensures.reads c.from_residual.ensures.1

pub returns-in_default : goal.returns-in_default
returns-in_default g c = seen_none (λ _ x. at_directive x.token) _ _ _ _ same None refl (rw c.in_default.is at c.in_ok-next.ensures.reads)

pub settled-requires-clause-proper : goal.settled-requires-clause-proper
settled-requires-clause-proper g c = leaves_proper _ _ _ c.at_directive.ensures (rw c.in-Some.is at c.in_ok-next.ensures.proper)

pub returns : goal.returns
returns g c = seen_says (λ _ x. at_directive x.token) _ _ _ _ _ (rw c.in-Some.is at c.in_ok-next.ensures.reads) _ _ _ c.at_directive.ensures c.settled.ensures.answer c.settled.ensures.left
