use Rattle.std.proofs.Common.{arith}
use Rattle.std.proofs.lemmas.Result.{err_from_is_err_and}
use Rattle.nl_bytes.proofs.Uses.{offset_grows}
use Rattle.vlog_tokens.proofs.Streams.{passes_none, passes_then, passes_space, passes_blank, blank_moves, finds_err, finds_end, finds_halted, finds_line_halted, finds_token}
use Rattle.vlog_tokens.proofs.Proper.{passed_proper, found_proper}
use Rattle.vlog_tokens.proofs.finding.pieced.Goals as goal

pub items-init : goal.items-init
items-init g c = record { passes = passes_none _ _; count = omega arith }

pub returns-in_err-next-clause-finds : goal.returns-in_err-next-clause-finds
returns-in_err-next-clause-finds g c =
    let p = err_from_is_err_and c.from_residual.result c.from_residual.ensures.1 in
    rw (p.1, p.2) (finds_halted c.items.invariant.passes c.in_err-next.ensures.skips)

pub returns-in_default-clause-finds : goal.returns-in_default-clause-finds
returns-in_default-clause-finds g c = finds_end c.items.invariant.passes (rw c.in_default.is at c.in_ok-next.ensures.skips)

pub returns-in_err-spot-clause-finds : goal.returns-in_err-spot-clause-finds
returns-in_err-spot-clause-finds g c =
    let p = err_from_is_err_and c.from_residual-in_err-spot.result c.from_residual-in_err-spot.ensures.1 in
    let skips = rw c.in-Some.is at c.in_ok-next.ensures.skips in
    rw (p.1, p.2) (finds_err (passes_then c.items.invariant.passes (passes_space skips)) skips.ahead c.in_err-spot.ensures.reads)

pub returns-in_err-token-clause-finds : goal.returns-in_err-token-clause-finds
returns-in_err-token-clause-finds g c =
    let p = err_from_is_err_and c.from_residual-in_err-token.result c.from_residual-in_err-token.ensures.1 in
    let skips = rw c.in-Some.is at c.in_ok-next.ensures.skips in
    rw (p.1, p.2) (finds_line_halted _ (passes_then c.items.invariant.passes (passes_space skips)) skips.ahead c.in_ok-spot.ensures.reads c.in_err-token.ensures.passed)

pub returns-in_err-found-clause-finds : goal.returns-in_err-found-clause-finds
returns-in_err-found-clause-finds g c =
    let p = err_from_is_err_and c.from_residual-in_err-found.result c.from_residual-in_err-found.ensures.1 in
    let skips = rw c.in-Some.is at c.in_ok-next.ensures.skips in
    rw (p.1, p.2) (finds_token _ (passes_then c.items.invariant.passes (passes_space skips)) skips.ahead c.in_ok-spot.ensures.reads (rw c.in-Some-token.is at c.in_ok-token.ensures.passed) _ c.place-place.ensures.place _ c.in_err-found.ensures c.in_ok-spot.ensures.ended)

pub returns-in-Some-token-clause-finds : goal.returns-in-Some-token-clause-finds
returns-in-Some-token-clause-finds g c =
    let skips = rw c.in-Some.is at c.in_ok-next.ensures.skips in
    finds_token _ (passes_then c.items.invariant.passes (passes_space skips)) skips.ahead c.in_ok-spot.ensures.reads (rw c.in-Some-token.is at c.in_ok-token.ensures.passed) _ c.place-place.ensures.place _ c.in_ok-found.ensures c.in_ok-spot.ensures.ended

pub items-preserved : goal.items-preserved
items-preserved g c =
    let skips = rw c.in-Some.is at c.in_ok-next.ensures.skips in
    record {
      passes = passes_then (passes_then c.items.invariant.passes (passes_space skips)) (passes_blank skips.ahead c.in_ok-spot.ensures.reads (rw c.in_default-token.is at c.in_ok-token.ensures.passed));
      count = omega (arith, c.items.invariant.count, c.skip.ensures.count, c.item.ensures.count, c.token_of.ensures.count);
    }

pub items-smaller : goal.items-smaller
items-smaller g c =
    let skips = rw c.in-Some.is at c.in_ok-next.ensures.skips in
    omega (arith, offset_grows skips.uses, blank_moves c.in_ok-spot.ensures.reads _ _ (rw c.in_default-token.is at c.in_ok-token.ensures.passed), skips.within)

pub returns-in-Some-token-clause-proper : goal.returns-in-Some-token-clause-proper
returns-in-Some-token-clause-proper g c =
    found_proper _ _ _ _ c.in_ok-found.ensures (passed_proper _ _ _ _ _ _ (rw c.in-Some-token.is at c.in_ok-token.ensures.passed) c.in_ok-spot.ensures.proper)
