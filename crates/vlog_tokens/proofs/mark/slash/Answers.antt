use Rattle.std.proofs.Common.{refl, ap, ◌∙◌, ◌∷◌, ℕ, drop}
use Rattle.nl_bytes.specs.Bytes.{first}
use Rattle.vlog_tokens.proofs.Parts.{steps}
use Rattle.std.proofs.lemmas.Result.{err_from_is_err_and}
use Rattle.vlog_tokens.proofs.Marks.{reads_halted, slash_reaches, slash_end, slash_other, slash_line, slash_refused, slash_block, Slash, at_err}
use Rattle.vlog_tokens.proofs.mark.slash.Goals as goal

pub returns-in_err-next-clause-reads : goal.returns-in_err-next-clause-reads
returns-in_err-next-clause-reads g c =
    let p = err_from_is_err_and c.from_residual.result c.from_residual.ensures.1 in
    let s = steps (c.requires.ahead.2) (c.advance.ensures.held) (c.advance.ensures.place) in
    rw (p.1, p.2) (reads_halted Slash s c.in_err-next.ensures.none_used (λ is. c.in_err-next.ensures.too_long (ap at_err is)) (λ is. c.in_err-next.ensures.used_up (ap at_err is)) (λ bs. slash_reaches (first (drop 1 bs)) (drop 2 bs)))

pub returns-in_default-clause-reads : goal.returns-in_default-clause-reads
returns-in_default-clause-reads g c =
    let s = steps (c.requires.ahead.2) (c.advance.ensures.held) (c.advance.ensures.place) in
    slash_end s c.in_ok-next.ensures.none_used (rw c.in_default.is at c.in_ok-next.ensures.ahead) _ (rw c.place-place.ensures.place refl)

pub returns-then-byte-eq47-clause-reads : goal.returns-then-byte-eq47-clause-reads
returns-then-byte-eq47-clause-reads g c =
    let s = steps (c.requires.ahead.2) (c.advance.ensures.held) (c.advance.ensures.place) in
    let ahead = rw c.in-Some.is at c.in_ok-next.ensures.ahead in
    let t = steps (ahead.1 ∙ ap (λ (x : ℕ). x ∷ ahead.0) c.if-byte-eq47.true) (c.advance-then-byte-eq47.ensures.held) (c.advance-then-byte-eq47.ensures.place) in
    slash_line s c.in_ok-next.ensures.none_used t _ (rw c.place-place.ensures.place refl)

pub returns-then-byte-ne42-clause-reads : goal.returns-then-byte-ne42-clause-reads
returns-then-byte-ne42-clause-reads g c =
    let s = steps (c.requires.ahead.2) (c.advance.ensures.held) (c.advance.ensures.place) in
    slash_other c.in-Some.byte s c.in_ok-next.ensures.none_used (rw c.in-Some.is at c.in_ok-next.ensures.ahead) c.if-byte-eq47.false c.if-byte-ne42.true _ (rw c.place-place.ensures.place refl)

pub returns-in_err-comment-clause-reads : goal.returns-in_err-comment-clause-reads
returns-in_err-comment-clause-reads g c =
    let p = err_from_is_err_and c.from_residual-in_err-comment.result c.from_residual-in_err-comment.ensures.1 in
    let s = steps (c.requires.ahead.2) (c.advance.ensures.held) (c.advance.ensures.place) in
    let ahead = rw c.in-Some.is at c.in_ok-next.ensures.ahead in
    let t = steps (ahead.1 ∙ ap (λ (x : ℕ). x ∷ ahead.0) c.if-byte-ne42.false) (c.advance-2.ensures.held) (c.advance-2.ensures.place) in
    rw (p.1, p.2) (slash_refused s c.in_ok-next.ensures.none_used t (c.in_err-comment.ensures.part _))

pub returns-clause-reads : goal.returns-clause-reads
returns-clause-reads g c =
    let s = steps (c.requires.ahead.2) (c.advance.ensures.held) (c.advance.ensures.place) in
    let ahead = rw c.in-Some.is at c.in_ok-next.ensures.ahead in
    let t = steps (ahead.1 ∙ ap (λ (x : ℕ). x ∷ ahead.0) c.if-byte-ne42.false) (c.advance-2.ensures.held) (c.advance-2.ensures.place) in
    slash_block s c.in_ok-next.ensures.none_used t (c.in_ok-comment.ensures.part _) _ (rw c.place.ensures.place refl)
