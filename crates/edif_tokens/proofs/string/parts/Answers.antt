use Rattle.std.proofs.Common.{◌≡◌, ℕ, ◌∷◌, true, false, arith, rules, ap, ◌∙◌, length, length-append}
use Rattle.std.proofs.lemmas.Bool.{ne_eqb}
use Rattle.std.proofs.lemmas.Result.{err_from_is_err_and}
use Rattle.nl_base.specs.declared.place.Place.{Place}
use Rattle.nl_bytes.specs.Classes.{is_string_byte}
use Rattle.edif_tokens.proofs.Spans.{at_err}
use Rattle.edif_tokens.proofs.Strings.{plain_part, parts_end, parts_full, parts_bad, parts_escape, part_ends, part_trans, part_halted}
use Rattle.nl_bytes.proofs.Uses.{offset_grows}
use Rattle.edif_tokens.proofs.string.parts.Goals as goal

pub returns-in_err-next-clause-reads : goal.returns-in_err-next-clause-reads
returns-in_err-next-clause-reads g c =
    let p = err_from_is_err_and c.from_residual.result c.from_residual.ensures.1 in
    let runs = c.in_err-next.ensures.runs in
    rw (p.1, p.2) (part_halted (part_trans c.parts.invariant.part (plain_part runs (omega (arith, c.len.ensures, c.saturating_sub-most.ensures)) _ _)) _ _ _ (λ is. runs.too_long (ap at_err is)) (λ is. runs.used_up (ap at_err is)))

pub returns-in_default-clause-reads : goal.returns-in_default-clause-reads
returns-in_default-clause-reads g c =
    let runs = c.in_ok-next.ensures.runs in
    rw (c.refuse.ensures, c.place-here.ensures.place)
    (part_ends (part_trans c.parts.invariant.part (plain_part runs (omega (arith, c.len.ensures, c.saturating_sub-most.ensures)) _ _)) _ _ (rw c.in_default.is at runs.ahead) (parts_end _))

pub returns-then-b-eq34-clause-reads : goal.returns-then-b-eq34-clause-reads
returns-then-b-eq34-clause-reads g c =
    part_trans c.parts.invariant.part (plain_part c.in_ok-next.ensures.runs (omega (arith, c.len.ensures, c.saturating_sub-most.ensures)) _ _)

pub returns-then-contains-clause-reads : goal.returns-then-contains-clause-reads
returns-then-contains-clause-reads g c =
    let runs = rw c.in-Some.is at c.in_ok-next.ensures.runs in
    let b = c.in-Some.b in
    let plain : is_string_byte b ≡ true = search (rules, c.if-contains.ensures, c.if-contains.true) in
    let whole = runs.longest plain in
    rw (c.refuse-then-contains.ensures, c.place-here.ensures.place)
    (parts_full (part_trans c.parts.invariant.part (plain_part runs (omega (arith, c.len.ensures, c.saturating_sub-most.ensures)) _ _)) _ _ b runs.ahead plain
    (omega (arith, whole, c.len.ensures, c.saturating_sub-most.ensures, ap length runs.added, length-append c.parts.value.items runs.used)))

pub returns-then-b-ne37-clause-reads : goal.returns-then-b-ne37-clause-reads
returns-then-b-ne37-clause-reads g c =
    let runs = rw c.in-Some.is at c.in_ok-next.ensures.runs in
    let b = c.in-Some.b in
    let plain : is_string_byte b ≡ false = search (rules, c.if-contains.ensures, c.if-contains.false) in
    rw (c.refuse-then-b-ne37.ensures, c.place-here.ensures.place)
    (parts_bad (part_trans c.parts.invariant.part (plain_part runs (omega (arith, c.len.ensures, c.saturating_sub-most.ensures)) _ _)) _ _ b runs.ahead (ne_eqb b 34 c.if-b-eq34.false) (ne_eqb b 37 c.if-b-ne37.true) plain)

pub parts-smaller : goal.parts-smaller
parts-smaller g c =
    let runs = rw c.in-Some.is at c.in_ok-next.ensures.runs in
    omega (arith, offset_grows runs.uses, offset_grows c.in_ok-escape.ensures.reads.uses, ap (λ (q : Place). q.offset) c.advance.ensures.place, runs.within)

pub parts-preserved : goal.parts-preserved
parts-preserved g c =
    let runs = rw c.in-Some.is at c.in_ok-next.ensures.runs in
    let held = runs.ahead.1 ∙ ap (λ (x : ℕ). x ∷ runs.ahead.0) c.if-b-ne37.false in
    record {
      part = part_trans (part_trans c.parts.invariant.part (plain_part runs (omega (arith, c.len.ensures, c.saturating_sub-most.ensures)) _ _))
          (parts_escape held c.advance.ensures.held c.advance.ensures.place (rw c.place-here.ensures.place at c.in_ok-escape.ensures.reads) _);
      short = c.in_ok-escape.ensures.short;
      count = omega (arith, c.run.ensures.count, c.escape.ensures.count);
    }

pub returns-in_err-escape-clause-reads : goal.returns-in_err-escape-clause-reads
returns-in_err-escape-clause-reads g c =
    let p = err_from_is_err_and c.from_residual-in_err-escape.result c.from_residual-in_err-escape.ensures.1 in
    let runs = rw c.in-Some.is at c.in_ok-next.ensures.runs in
    let held = runs.ahead.1 ∙ ap (λ (x : ℕ). x ∷ runs.ahead.0) c.if-b-ne37.false in
    rw (p.1, p.2) (part_trans (part_trans c.parts.invariant.part (plain_part runs (omega (arith, c.len.ensures, c.saturating_sub-most.ensures)) _ _))
    (parts_escape held c.advance.ensures.held c.advance.ensures.place (rw c.place-here.ensures.place at c.in_err-escape.ensures.reads) _))

pub escape-requires : goal.escape-requires
escape-requires g c =
    let runs = c.in_ok-next.ensures.runs in
    omega (arith, c.parts.invariant.short, c.len.ensures, c.saturating_sub-most.ensures, runs.bounded, ap length runs.added, length-append c.parts.value.items runs.used)

pub returns-then-b-eq34-clause-short : goal.returns-then-b-eq34-clause-short
returns-then-b-eq34-clause-short g c =
    let runs = c.in_ok-next.ensures.runs in
    omega (arith, c.parts.invariant.short, c.len.ensures, c.saturating_sub-most.ensures, runs.bounded, ap length runs.added, length-append c.parts.value.items runs.used)
