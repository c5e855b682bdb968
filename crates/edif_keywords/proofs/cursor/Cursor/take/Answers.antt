use Rattle.std.proofs.lemmas.Result.{err_from_is_err_and}
use Rattle.std.proofs.Common.{rules, ◌≡◌, None, false, refl}
use Rattle.readers.proofs.Taking.{reads_spent, takes_ahead, takes_next, takes_end, takes_error, not_spent, none_of}
use Rattle.edif_keywords.specs.Language.{edif}
use Rattle.edif_keywords.proofs.cursor.Cursor.take.Goals as goal

pub returns-then-self-clause-reads : goal.returns-then-self-clause-reads
returns-then-self-clause-reads g c = reads_spent edif _ _ _ _ (search (rules, c.self.view_is, c.if-self.true))

pub returns-in-Some-clause-reads : goal.returns-in-Some-clause-reads
returns-in-Some-clause-reads g c =
    let live : c.args.self.now.spent ≡ false = search (rules, c.self.view_is, c.if-self.false) in
    rw c.take_ahead.ensures.left (takes_ahead edif c.args.self.now _ c.args.self.now.ahead None _ _ _ _ refl live c.take_ahead.ensures.token refl)

pub returns-in_err-next-clause-reads : goal.returns-in_err-next-clause-reads
returns-in_err-next-clause-reads g c =
    let p = err_from_is_err_and c.from_residual.result c.from_residual.ensures.1 in
    let none : c.self.inside.ahead ≡ None = none_of _ (λ x e. search (rules, c.in_default)) in
    rw (p.1, p.2) (takes_error edif _ _ _ _ _ c.self.inside.ahead _ _ _ _ _ c.self.view_is c.if-self.false none (not_spent _ _ c.self.invariant.0 c.if-self.false) none _ c.in_err-next.ensures.reads)

pub returns-in_default-next-clause-reads : goal.returns-in_default-next-clause-reads
returns-in_default-next-clause-reads g c =
    let none : c.self.inside.ahead ≡ None = none_of _ (λ x e. search (rules, c.in_default)) in
    takes_end edif _ _ _ _ _ c.self.inside.ahead _ _ _ _ _ c.self.view_is c.if-self.false none (not_spent _ _ c.self.invariant.0 c.if-self.false) none _
    (rw c.in_default-next.is at c.in_ok-next.ensures.reads) c.here-end.ensures.place

pub returns-clause-reads : goal.returns-clause-reads
returns-clause-reads g c =
    let none : c.self.inside.ahead ≡ None = none_of _ (λ x e. search (rules, c.in_default)) in
    takes_next edif _ _ _ _ _ c.self.inside.ahead _ _ _ _ _ c.self.view_is c.if-self.false none (not_spent _ _ c.self.invariant.0 c.if-self.false) none _
    (rw c.in-Some-next.is at c.in_ok-next.ensures.reads)
