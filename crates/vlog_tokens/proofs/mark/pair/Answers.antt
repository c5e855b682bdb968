use Rattle.std.proofs.Common.{refl, ap, sym, ◌∙◌, drop}
use Rattle.nl_bytes.specs.Bytes.{first}
use Rattle.vlog_tokens.proofs.Parts.{steps}
use Rattle.std.proofs.lemmas.Result.{err_from_is_err_and}
use Rattle.vlog_tokens.specs.Spelling.{second_of, both_of, single_of}
use Rattle.vlog_tokens.proofs.Marks.{reads_halted, pair_reaches, pair_end, pair_other, pair_both, Pair, at_err}
use Rattle.vlog_tokens.proofs.mark.pair.Goals as goal

pub returns-in_err-next-clause-reads : goal.returns-in_err-next-clause-reads
returns-in_err-next-clause-reads g c =
    let p = err_from_is_err_and c.from_residual.result c.from_residual.ensures.1 in
    let s = steps (c.requires.ahead.2) (c.advance.ensures.held) (c.advance.ensures.place) in
    rw (p.1, p.2) (reads_halted (Pair (second_of c.args.pair_start) (both_of c.args.pair_start) (single_of c.args.pair_start)) s c.in_err-next.ensures.none_used (λ is. c.in_err-next.ensures.too_long (ap at_err is)) (λ is. c.in_err-next.ensures.used_up (ap at_err is)) (λ bs. pair_reaches (second_of c.args.pair_start) (both_of c.args.pair_start) (single_of c.args.pair_start) (first (drop 1 bs))))

pub returns-in_default-clause-reads : goal.returns-in_default-clause-reads
returns-in_default-clause-reads g c =
    let s = steps (c.requires.ahead.2) (c.advance.ensures.held) (c.advance.ensures.place) in
    pair_end _ _ _ s c.in_ok-next.ensures.none_used (rw c.in_default.is at c.in_ok-next.ensures.ahead) _ (rw (c.single.ensures, c.place-place.ensures.place) refl)

pub returns-then-byte-second-clause-reads : goal.returns-then-byte-second-clause-reads
returns-then-byte-second-clause-reads g c =
    let s = steps c.requires.ahead.2 c.advance.ensures.held c.advance.ensures.place in
    pair_other _ _ _ c.in-Some.byte s c.in_ok-next.ensures.none_used (rw c.in-Some.is at c.in_ok-next.ensures.ahead) (λ same. c.if-byte-second.true (same ∙ sym c.second.ensures)) _
    (rw (c.single-then-byte-second.ensures, c.place-place.ensures.place) refl)

pub returns-clause-reads : goal.returns-clause-reads
returns-clause-reads g c =
    let s = steps c.requires.ahead.2 c.advance.ensures.held c.advance.ensures.place in
    let ahead = rw c.in-Some.is at c.in_ok-next.ensures.ahead in
    let t = steps ahead.1 c.advance-2.ensures.held c.advance-2.ensures.place in
    pair_both _ _ _ s c.in_ok-next.ensures.none_used t (c.if-byte-second.false ∙ c.second.ensures) _ (rw (c.both.ensures, c.place-place.ensures.place) refl)
