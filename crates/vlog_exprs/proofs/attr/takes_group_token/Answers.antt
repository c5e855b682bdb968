use Rattle.std.proofs.Common.{false, refl}
use Rattle.vlog_exprs.specs.Calls.{stands}
use Rattle.vlog_exprs.specs.Reasons.{at_group}
use Rattle.vlog_exprs.proofs.Glances.{seen_says, seen_none, seen_fails, stands_says, stands_fails}
use Rattle.vlog_exprs.proofs.Known.{leaves_proper}
use Rattle.vlog_exprs.proofs.attr.takes_group_token.Goals as goal

pub returns-in_err-next : goal.returns-in_err-next
returns-in_err-next g c = seen_fails (λ _ x. at_group x.token) _ _ _ _ stands _ _ c.in_err-next.ensures.reads c.from_residual.ensures.1

pub returns-in_default : goal.returns-in_default
returns-in_default g c = seen_none (λ _ x. at_group x.token) _ _ _ _ stands false refl (rw c.in_default.is at c.in_ok-next.ensures.reads)

pub returns-in_err-taken : goal.returns-in_err-taken
returns-in_err-taken g c =
    stands_fails (λ _ x. at_group x.token) _ _ _ _ _ _ (seen_says (λ _ x. at_group x.token) _ _ _ _ _ (rw c.in-Some.is at c.in_ok-next.ensures.reads) _ _ _ c.at_group.ensures c.in_err-taken.ensures.answer c.in_err-taken.ensures.left) c.from_residual-in_err-taken.ensures.1

pub returns : goal.returns
returns g c =
    stands_says (λ _ x. at_group x.token) _ _ _ _ _ _ c.is_some.ensures (seen_says (λ _ x. at_group x.token) _ _ _ _ _ (rw c.in-Some.is at c.in_ok-next.ensures.reads) _ _ _ c.at_group.ensures c.in_ok-taken.ensures.answer c.in_ok-taken.ensures.left)

pub settled-requires-clause-proper : goal.settled-requires-clause-proper
settled-requires-clause-proper g c = leaves_proper _ _ _ c.at_group.ensures (rw c.in-Some.is at c.in_ok-next.ensures.proper)
