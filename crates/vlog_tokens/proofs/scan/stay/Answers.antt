use Rattle.std.proofs.Common.{arith, sym, ◌∙◌}
use Rattle.std.proofs.lemmas.Result.{err_from_is_err_and}
use Rattle.vlog_tokens.proofs.Scanning.{class_stays}
use Rattle.vlog_tokens.proofs.Lexemes.{run_so_far}
use Rattle.vlog_tokens.proofs.scan.stay.Goals as goal

pub returns-in_err-next-in-Some-clause-stays : goal.returns-in_err-next-in-Some-clause-stays
returns-in_err-next-in-Some-clause-stays g c =
    let p = err_from_is_err_and c.from_residual.result c.from_residual.ensures.1 in
    rw (p.1, p.2) (class_stays c.in_err-next-in-Some.ensures.runs (sym c.class_of.ensures ∙ c.in-Some.is) (omega (arith, c.len.ensures, c.most_of.ensures, c.saturating_sub-most.ensures)))

pub returns-in_ok-next-in-Some-clause-stays : goal.returns-in_ok-next-in-Some-clause-stays
returns-in_ok-next-in-Some-clause-stays g c =
    class_stays c.in_ok-next-in-Some.ensures.runs (sym c.class_of.ensures ∙ c.in-Some.is) (omega (arith, c.len.ensures, c.most_of.ensures, c.saturating_sub-most.ensures))

pub returns-in_ok-next-in-Some-clause-so_far : goal.returns-in_ok-next-in-Some-clause-so_far
returns-in_ok-next-in-Some-clause-so_far g c = λ h.
    run_so_far c.args.phase c.in_ok-next-in-Some.ensures.runs (sym c.class_of.ensures ∙ c.in-Some.is) (omega (arith, c.len.ensures, c.most_of.ensures, c.saturating_sub-most.ensures)) h
