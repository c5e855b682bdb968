use Rattle.std.proofs.Common.{◌≡◌, refl, true, false, eqb, ◌&&◌, arith, rules, ap, eq-eqb}
use Rattle.nl_base.specs.declared.place.Place.{Place}
use Rattle.std.specs.Char.{is_ascii_digit}
use Rattle.std.proofs.lemmas.Bool.{ne_eqb}
use Rattle.std.proofs.lemmas.Result.{err_from_is_err_and}
use Rattle.edif_tokens.specs.Strings.{Escape, Parts}
use Rattle.edif_tokens.proofs.Spans.{at_err}
use Rattle.edif_tokens.proofs.Strings.{part_byte, part_space, part_ends, escape_end, escape_digit, escape_closes, escape_refused, part_trans, part_err, part_halted}
use Rattle.nl_bytes.proofs.Uses.{offset_grows}
use Rattle.edif_tokens.proofs.string.escape.Goals as goal
use Rattle.edif_tokens.proofs.string.escape.Goals.{else-coded-via-then-coded+else-b-eq37, else-coded-via-else-coded}

pub returns-in_err-next-clause-reads : goal.returns-in_err-next-clause-reads
returns-in_err-next-clause-reads g c =
    let p = err_from_is_err_and c.from_residual.result c.from_residual.ensures.1 in
    let skips = c.in_err-next.ensures.skips in
    rw (p.1, p.2) (part_halted (part_trans c.loop-next.invariant.part (part_space skips c.loop-next.coded _ _ _)) _ _ _ (λ is. skips.too_long (ap at_err is)) (λ is. skips.used_up (ap at_err is)))

pub returns-in_default-clause-reads : goal.returns-in_default-clause-reads
returns-in_default-clause-reads g c =
    let skips = c.in_ok-next.ensures.skips in
    rw (c.refuse.ensures, c.place-here.ensures.place)
    (part_ends (part_trans c.loop-next.invariant.part (part_space skips c.loop-next.coded _ _ _)) _ _ (rw c.in_default.is at skips.ahead) (escape_end c.loop-next.coded _))

pub returns-in_err-add_code-clause-reads : goal.returns-in_err-add_code-clause-reads
returns-in_err-add_code-clause-reads g c =
    let p = err_from_is_err_and c.from_residual-in_err-add_code.result c.from_residual-in_err-add_code.ensures.1 in
    let skips = rw c.in-Some.is at c.in_ok-next.ensures.skips in
    let b = c.in-Some.b in
    let digit : is_ascii_digit b ≡ true = search (rules, c.is_ascii_digit.ensures.value, c.if-is_ascii_digit.true) in
    rw (p.1, p.2) (part_err (part_trans (part_trans c.loop-next.invariant.part (part_space skips c.loop-next.coded _ _ _))
    (part_trans (part_byte (λ s. Escape s c.loop-next.coded) _ _ _ _ c.advance.new.self _ _ b skips.ahead.0 skips.ahead.1 c.advance.ensures.held c.advance.ensures.place (escape_digit c.loop-next.coded b _ skips.longest digit)) c.in_err-add_code.ensures.reads)) _ _)

pub loop-next-preserved : goal.loop-next-preserved
loop-next-preserved g c =
    let skips = rw c.in-Some.is at c.in_ok-next.ensures.skips in
    let b = c.in-Some.b in
    let digit : is_ascii_digit b ≡ true = search (rules, c.is_ascii_digit.ensures.value, c.if-is_ascii_digit.true) in
    record {
      part = part_trans (part_trans c.loop-next.invariant.part (part_space skips c.loop-next.coded _ _ _))
          (part_trans (part_byte (λ s. Escape s c.loop-next.coded) _ _ _ _ c.advance.new.self _ _ b skips.ahead.0 skips.ahead.1 c.advance.ensures.held c.advance.ensures.place (escape_digit c.loop-next.coded b _ skips.longest digit)) c.in_ok-add_code.ensures.reads);
      short = c.in_ok-add_code.ensures.short;
      count = omega (arith, c.skip.ensures.count, c.add_code.ensures.count);
    }

pub loop-next-smaller : goal.loop-next-smaller
loop-next-smaller g c =
    let skips = rw c.in-Some.is at c.in_ok-next.ensures.skips in
    omega (arith, offset_grows skips.uses, offset_grows c.in_ok-add_code.ensures.reads.uses, ap (λ (q : Place). q.offset) c.advance.ensures.place, skips.within)

pub returns-then-b-eq37-clause-reads : goal.returns-then-b-eq37-clause-reads
returns-then-b-eq37-clause-reads g c =
    let skips = rw c.in-Some.is at c.in_ok-next.ensures.skips in
    let b = c.in-Some.b in
    let other : is_ascii_digit b ≡ false = search (rules, c.is_ascii_digit.ensures.value, c.if-is_ascii_digit.false) in
    let percent : eqb b 37 ≡ true = eq-eqb b 37 c.if-b-eq37.true in
    let inside = rw c.if-coded.true at (part_trans c.loop-next.invariant.part (part_space skips c.loop-next.coded _ _ _)) in
    part_trans inside (part_byte (λ s. Escape s true) (λ s. Parts) _ _ _ c.advance-then-b-eq37.new.self _ _ b skips.ahead.0 skips.ahead.1 c.advance-then-b-eq37.ensures.held c.advance-then-b-eq37.ensures.place (escape_closes b _ skips.longest other percent))

pub returns-else-coded-clause-reads : goal.returns-else-coded-clause-reads
returns-else-coded-clause-reads g c =
    let skips = rw c.in-Some.is at c.in_ok-next.ensures.skips in
    let b = c.in-Some.b in
    let other : is_ascii_digit b ≡ false = search (rules, c.is_ascii_digit.ensures.value, c.if-is_ascii_digit.false) in
    let percent : (c.loop-next.coded && eqb b 37) ≡ false =
    elim c.else-coded.branch [
      | else-coded-via-then-coded+else-b-eq37 w ↦ let e : eqb b 37 ≡ false = ne_eqb b 37 w.if-b-eq37.false in rw (w.if-coded.true, e) refl
      | else-coded-via-else-coded w ↦ rw w.if-coded.false refl
    ] in
    rw (c.refuse-else-coded.ensures, c.place-here.ensures.place) (escape_refused (part_trans c.loop-next.invariant.part (part_space skips c.loop-next.coded _ _ _)) _ _ b skips.ahead skips.longest other percent)
