use Rattle.std.proofs.Common.{◌≡◌, rules}
use Rattle.std.proofs.lemmas.Result.{err_from_is_err_and}
use Rattle.edif_tokens.proofs.Streams.{finds_refused, finds_end, finds_found, finds_halted, same_reads}
use Rattle.edif_tokens.proofs.finding.found.Goals as goal

pub returns-in_err-next-clause-finds : goal.returns-in_err-next-clause-finds
returns-in_err-next-clause-finds g c =
    let p = err_from_is_err_and c.from_residual.result c.from_residual.ensures.1 in
    rw (p.1, p.2) (finds_halted c.in_err-next.ensures.skips)

pub returns-in_default-clause-finds : goal.returns-in_default-clause-finds
returns-in_default-clause-finds g c = finds_end (rw c.in_default.is at c.in_ok-next.ensures.skips)

pub returns-in-Some-mark_found-clause-finds : goal.returns-in-Some-mark_found-clause-finds
returns-in-Some-mark_found-clause-finds g c = finds_found (rw c.in-Some.is at c.in_ok-next.ensures.skips) c.in-Some-mark_found.ensures.reads c.in-Some-mark_found.ensures.limit c.in-Some-mark_found.ensures.ended

pub returns-in_err-found-in-None-clause-finds : goal.returns-in_err-found-in-None-clause-finds
returns-in_err-found-in-None-clause-finds g c =
    let p = err_from_is_err_and c.from_residual-in_err-found-in-None.result c.from_residual-in_err-found-in-None.ensures.1 in
    let same : c.mark_found.new.bytes ≡ c.skip.new.self = search (rules, c.mark_found.ensures.none, c.in-None.is) in
    rw (p.1, p.2) (finds_refused (rw c.in-Some.is at c.in_ok-next.ensures.skips) (same_reads c.in_err-found-in-None.ensures.reads same))

pub returns-in_ok-found-in-None-clause-finds : goal.returns-in_ok-found-in-None-clause-finds
returns-in_ok-found-in-None-clause-finds g c =
    let same : c.mark_found.new.bytes ≡ c.skip.new.self = search (rules, c.mark_found.ensures.none, c.in-None.is) in
    finds_found (rw c.in-Some.is at c.in_ok-next.ensures.skips) (same_reads c.in_ok-found-in-None.ensures.reads same) c.in_ok-found-in-None.ensures.limit c.in_ok-found-in-None.ensures.ended
