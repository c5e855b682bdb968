use Rattle.std.proofs.lemmas.Result.{err_from_is_err_and}
use Rattle.std.proofs.Common.{rules, ◌≡◌, refl}
use Rattle.nl_base.specs.declared.fault.ReadError.TheVariants as errors
use Rattle.readers.proofs.Taking.{calls_spent, not_spent, none_of}
use Rattle.readers.proofs.Looking.{spent_looks, looks_ahead, looks_next, looks_end, looks_error}
use Rattle.edif_keywords.specs.Language.{edif}
use Rattle.edif_keywords.proofs.cursor.Cursor.look.Goals as goal

pub returns-then-self : goal.returns-then-self
returns-then-self g c = let s : c.args.self.now.spent ≡ _ = search (rules, c.self.view_is, c.if-self.true) in calls_spent c.args.self.now _ (spent_looks errors.Spent edif c.args.self.now _ s) s

pub returns-in-Some : goal.returns-in-Some
returns-in-Some g c = looks_ahead _ _ _ _ _ _ _ c.self.view_is c.if-self.false (rw c.in-Some.is refl)

pub returns-in_err-next : goal.returns-in_err-next
returns-in_err-next g c =
    let p = err_from_is_err_and c.from_residual.result c.from_residual.ensures.1 in
    rw (p.1, p.2) (looks_error _ _ _ _ _ _ _ _ _ _ _ c.self.view_is c.if-self.false (none_of _ (λ x e. search (rules, c.in_default))) (not_spent _ _ c.self.invariant.0 c.if-self.false) _ c.in_err-next.ensures.reads)

pub returns-in_default-next : goal.returns-in_default-next
returns-in_default-next g c =
    looks_end _ _ _ _ _ _ _ _ _ _ _ c.self.view_is c.if-self.false (none_of _ (λ x e. search (rules, c.in_default))) (not_spent _ _ c.self.invariant.0 c.if-self.false) (rw c.in_default-next.is at c.in_ok-next.ensures.reads)

pub returns : goal.returns
returns g c =
    looks_next _ _ _ _ _ _ _ _ _ _ _ c.self.view_is c.if-self.false (none_of _ (λ x e. search (rules, c.in_default))) (not_spent _ _ c.self.invariant.0 c.if-self.false) _ (rw c.in-Some-next.is at c.in_ok-next.ensures.reads)
