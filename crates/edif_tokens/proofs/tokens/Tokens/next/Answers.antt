use Rattle.std.proofs.Common.{◌≡◌, sym, ap, ◌∙◌, false, true, Bool}
use Rattle.std.proofs.lemmas.Result.{err_from_is_err_and}
use Rattle.nl_bytes.proofs.Readers.{reads_found, reads_spent, state}
use Rattle.edif_tokens.proofs.tokens.Tokens.next.Goals as goal

pub returns-then-self-clause-reads : goal.returns-then-self-clause-reads
returns-then-self-clause-reads g c =
    let old : c.args.self.now ≡ state c.self.inside.bytes true = sym c.self.view_is ∙ ap (λ (b : Bool). state c.self.inside.bytes b) c.if-self.true in
    rw old (reads_spent c.self.inside.bytes _ _)

pub returns-clause-reads : goal.returns-clause-reads
returns-clause-reads g c =
    let found = c.found-result.ensures in
    let all = reads_found found.finds found.never_spent found.bounded found.count found.cause c.place-here.ensures.held c.place-here.ensures.taken in
    let old : c.args.self.now ≡ state c.self.inside.bytes false = sym c.self.view_is ∙ ap (λ (b : Bool). state c.self.inside.bytes b) c.if-self.false in
    rw old (rw c.in_ok-found.was at all)

pub returns-clause-limit : goal.returns-clause-limit
returns-clause-limit g c = rw c.in_ok-found.was at c.found-result.ensures.limit

pub returns-in_err-found-clause-reads : goal.returns-in_err-found-clause-reads
returns-in_err-found-clause-reads g c =
    let found = c.found-result.ensures in
    let all = reads_found found.finds found.never_spent found.bounded found.count found.cause c.place-here.ensures.held c.place-here.ensures.taken in
    let old : c.args.self.now ≡ state c.self.inside.bytes false = sym c.self.view_is ∙ ap (λ (b : Bool). state c.self.inside.bytes b) c.if-self.false in
    let p = err_from_is_err_and c.from_residual.result c.from_residual.ensures.1 in
    rw (p.1, p.2, old) (rw c.in_err-found.was at all)
