use Rattle.std.proofs.lemmas.Result.{err_from_is_err_and}
use Rattle.vlog_tokens.proofs.Streams.{passes_none, passes_space, finds_halted, finds_end}
use Rattle.vlog_tokens.proofs.Held.{finds_after}
use Rattle.vlog_tokens.proofs.finding.found.Goals as goal

pub returns-in_err-next-clause-finds : goal.returns-in_err-next-clause-finds
returns-in_err-next-clause-finds g c =
    let p = err_from_is_err_and c.from_residual.result c.from_residual.ensures.1 in
    rw (p.1, p.2) (finds_halted (passes_none _ _) c.in_err-next.ensures.skips)

pub returns-in_default-clause-finds : goal.returns-in_default-clause-finds
returns-in_default-clause-finds g c = finds_end (passes_none _ _) (rw c.in_default.is at c.in_ok-next.ensures.skips)

pub returns-then-not-is_near-clause-finds : goal.returns-then-not-is_near-clause-finds
returns-then-not-is_near-clause-finds g c = finds_after (passes_space c.in_ok-next.ensures.skips) c.pieced.ensures.finds

pub returns-then-count-gt0-clause-finds : goal.returns-then-count-gt0-clause-finds
returns-then-count-gt0-clause-finds g c = finds_after (passes_space c.in_ok-next.ensures.skips) (c.held_word.ensures.finds _)

pub returns-then-count-gt0-2-clause-finds : goal.returns-then-count-gt0-2-clause-finds
returns-then-count-gt0-2-clause-finds g c = finds_after (passes_space c.in_ok-next.ensures.skips) (c.held_number.ensures.finds _)

pub returns-then-count-gt0-3-clause-finds : goal.returns-then-count-gt0-3-clause-finds
returns-then-count-gt0-3-clause-finds g c = finds_after (passes_space c.in_ok-next.ensures.skips) (c.held_escaped.ensures.finds _)

pub returns-in-Some-quoted_length-clause-finds : goal.returns-in-Some-quoted_length-clause-finds
returns-in-Some-quoted_length-clause-finds g c = finds_after (passes_space c.in_ok-next.ensures.skips) (c.held_string.ensures.finds _)

pub returns-then-is_pair-clause-finds : goal.returns-then-is_pair-clause-finds
returns-then-is_pair-clause-finds g c = finds_after (passes_space c.in_ok-next.ensures.skips) (c.held_pair.ensures.finds _)

pub returns-clause-finds : goal.returns-clause-finds
returns-clause-finds g c = finds_after (passes_space c.in_ok-next.ensures.skips) c.pieced-2.ensures.finds
