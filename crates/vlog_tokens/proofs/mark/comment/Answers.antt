use Rattle.std.proofs.Common.{ap, sym, ◌∙◌, arith}
use Rattle.std.proofs.lemmas.Result.{err_from_is_err_and}
use Rattle.nl_base.specs.declared.place.Place.{Place}
use Rattle.nl_bytes.proofs.Uses.{offset_grows}
use Rattle.vlog_tokens.proofs.Parts.{steps, part_then}
use Rattle.vlog_tokens.proofs.Marks.{comment_part, comment_halted, comment_end, comment_closed, comment_on, star_part, star_halted, slash_ahead, at_err}
use Rattle.vlog_tokens.proofs.mark.comment.Goals as goal

pub returns-in_err-next-clause-part : goal.returns-in_err-next-clause-part
returns-in_err-next-clause-part g c =
    let p = err_from_is_err_and c.from_residual.result c.from_residual.ensures.1 in
    λ q. rw (p.1, p.2) (comment_halted q (c.comment.invariant.part q) c.in_err-next.ensures.skips)

pub returns-in_default-clause-part : goal.returns-in_default-clause-part
returns-in_default-clause-part g c =
    let skips = c.in_ok-next.ensures.skips in
    λ q. rw (c.refuse.ensures, c.place-here.ensures.place) (part_then (part_then (c.comment.invariant.part q) (comment_part skips q)) (comment_end q _ _ (rw c.in_default.is at skips.ahead)))

pub returns-in_err-after-clause-part : goal.returns-in_err-after-clause-part
returns-in_err-after-clause-part g c =
    let p = err_from_is_err_and c.from_residual-in_err-after.result c.from_residual-in_err-after.ensures.1 in
    let skips = rw c.in-Some.is at c.in_ok-next.ensures.skips in
    let s = steps (skips.ahead.1) (c.advance.ensures.held) (c.advance.ensures.place) in
    λ q. rw (p.1, p.2) (star_halted q (part_then (c.comment.invariant.part q) (comment_part skips q)) s skips.longest c.in_err-after.ensures.none_used (λ is. c.in_err-after.ensures.too_long (ap at_err is)) (λ is. c.in_err-after.ensures.used_up (ap at_err is)))

pub returns-then-is_slash-clause-part : goal.returns-then-is_slash-clause-part
returns-then-is_slash-clause-part g c =
    let skips = rw c.in-Some.is at c.in_ok-next.ensures.skips in
    let s = steps (skips.ahead.1) (c.advance.ensures.held) (c.advance.ensures.place) in
    let slash = slash_ahead c.peek.new.self (g.S.Source.supply c.peek.new.source).left _ c.in_ok-after.ensures.ahead (sym c.is_slash.ensures ∙ c.if-is_slash.true) in
    let t = steps (slash.1) (c.advance-then-is_slash.ensures.held) (c.advance-then-is_slash.ensures.place) in
    λ q. part_then (part_then (part_then (c.comment.invariant.part q) (comment_part skips q)) (star_part q s skips.longest c.in_ok-after.ensures.none_used)) (comment_closed q _ t)

pub advance-requires-then-is_slash-clause-held : goal.advance-requires-then-is_slash-clause-held
advance-requires-then-is_slash-clause-held g c =
    let slash = slash_ahead c.peek.new.self (g.S.Source.supply c.peek.new.source).left _ c.in_ok-after.ensures.ahead (sym c.is_slash.ensures ∙ c.if-is_slash.true) in
    rw slash.1 (omega arith)

pub comment-smaller : goal.comment-smaller
comment-smaller g c =
    omega (arith, offset_grows c.in_ok-next.ensures.skips.uses, ap (λ (q : Place). q.offset) c.advance.ensures.place, offset_grows c.in_ok-after.ensures.none_used, c.in_ok-next.ensures.skips.within)

pub comment-preserved : goal.comment-preserved
comment-preserved g c =
    let skips = rw c.in-Some.is at c.in_ok-next.ensures.skips in
    let s = steps (skips.ahead.1) (c.advance.ensures.held) (c.advance.ensures.place) in
    record {
      part = λ q. part_then (part_then (part_then (c.comment.invariant.part q) (comment_part skips q)) (star_part q s skips.longest c.in_ok-after.ensures.none_used))
          (comment_on q _ _ _ c.in_ok-after.ensures.ahead (sym c.is_slash.ensures ∙ c.if-is_slash.false));
      count = omega (arith, c.comment.invariant.count, c.skip.ensures.count, c.peek.ensures.count);
    }
