use Rattle.std.proofs.Common.{◌≡◌, ℕ, ◌∷◌, true, false, arith, rules, ap, ◌∙◌, length, length-append}
use Rattle.std.proofs.lemmas.Bool.{ne_eqb}
use Rattle.std.proofs.lemmas.Result.{err_from_is_err_and}
use Rattle.nl_bytes.specs.Classes.{is_verilog_string_byte}
use Rattle.nl_bytes.proofs.Uses.{offset_grows}
use Rattle.vlog_tokens.proofs.Parts.{part_then, part_halted}
use Rattle.vlog_tokens.proofs.Strings.{plain_part, parts_end, parts_full, parts_bad, string_seen, at_err}
use Rattle.vlog_tokens.specs.Strings.{Parts}
use Rattle.vlog_tokens.proofs.string.parts.Goals as goal

pub returns-in_err-next-clause-part : goal.returns-in_err-next-clause-part
returns-in_err-next-clause-part g c =
    let p = err_from_is_err_and c.from_residual.result c.from_residual.ensures.1 in
    let runs = c.in_err-next.ensures.runs in
    rw (p.1, p.2) (part_halted (part_then c.parts.invariant.part (plain_part runs (omega (arith, c.len.ensures, c.saturating_sub-most.ensures)) _)) _ _ (λ is. runs.too_long (ap at_err is)) (λ is. runs.used_up (ap at_err is)) (λ n rest. string_seen Parts _ n rest))

pub returns-in_default-clause-part : goal.returns-in_default-clause-part
returns-in_default-clause-part g c =
    let runs = c.in_ok-next.ensures.runs in
    rw (c.refuse.ensures, c.place-here.ensures.place)
    (part_then (part_then c.parts.invariant.part (plain_part runs (omega (arith, c.len.ensures, c.saturating_sub-most.ensures)) _)) (parts_end _ _ _ _ _ (rw c.in_default.is at runs.ahead)))

pub returns-then-b-eq34-clause-part : goal.returns-then-b-eq34-clause-part
returns-then-b-eq34-clause-part g c =
    part_then c.parts.invariant.part (plain_part c.in_ok-next.ensures.runs (omega (arith, c.len.ensures, c.saturating_sub-most.ensures)) _)

pub returns-then-contains-clause-part : goal.returns-then-contains-clause-part
returns-then-contains-clause-part g c =
    let runs = rw c.in-Some.is at c.in_ok-next.ensures.runs in
    let b = c.in-Some.b in
    let plain : is_verilog_string_byte b ≡ true = search (rules, c.if-contains.ensures, c.if-contains.true) in
    let whole = runs.longest plain in
    rw (c.refuse-then-contains.ensures, c.place-here.ensures.place)
    (part_then (part_then c.parts.invariant.part (plain_part runs (omega (arith, c.len.ensures, c.saturating_sub-most.ensures)) _)) (parts_full _ _ _ _ _ b runs.ahead plain
    (omega (arith, whole, c.len.ensures, c.saturating_sub-most.ensures, ap length runs.added, length-append c.parts.value.items runs.used))))

pub returns-then-b-ne92-clause-part : goal.returns-then-b-ne92-clause-part
returns-then-b-ne92-clause-part g c =
    let runs = rw c.in-Some.is at c.in_ok-next.ensures.runs in
    let b = c.in-Some.b in
    let plain : is_verilog_string_byte b ≡ false = search (rules, c.if-contains.ensures, c.if-contains.false) in
    rw (c.refuse-then-b-ne92.ensures, c.place-here.ensures.place)
    (part_then (part_then c.parts.invariant.part (plain_part runs (omega (arith, c.len.ensures, c.saturating_sub-most.ensures)) _)) (parts_bad _ _ _ _ _ b runs.ahead (ne_eqb b 34 c.if-b-eq34.false) (ne_eqb b 92 c.if-b-ne92.true) plain))

pub escape-requires-clause-ahead : goal.escape-requires-clause-ahead
escape-requires-clause-ahead g c =
    let runs = rw c.in-Some.is at c.in_ok-next.ensures.runs in
    (runs.ahead.0, runs.ahead.1 ∙ ap (λ (x : ℕ). x ∷ runs.ahead.0) c.if-b-ne92.false)

pub parts-smaller : goal.parts-smaller
parts-smaller g c =
    let runs = rw c.in-Some.is at c.in_ok-next.ensures.runs in
    omega (arith, offset_grows runs.uses, c.in_ok-escape.ensures.moved, runs.within)

pub parts-preserved : goal.parts-preserved
parts-preserved g c = record {
  part = part_then (part_then c.parts.invariant.part (plain_part c.in_ok-next.ensures.runs (omega (arith, c.len.ensures, c.saturating_sub-most.ensures)) _)) c.in_ok-escape.ensures.part;
  count = omega (arith, c.run.ensures.count, c.escape.ensures.count);
  short = λ h.
      let runs = c.in_ok-next.ensures.runs in
      c.in_ok-escape.ensures.short (omega (arith, c.parts.invariant.short h, runs.bounded, c.len.ensures, c.saturating_sub-most.ensures, ap length runs.added, length-append c.parts.value.items runs.used));
}

pub returns-in_err-escape-clause-part : goal.returns-in_err-escape-clause-part
returns-in_err-escape-clause-part g c =
    let p = err_from_is_err_and c.from_residual-in_err-escape.result c.from_residual-in_err-escape.ensures.1 in
    rw (p.1, p.2) (part_then (part_then c.parts.invariant.part (plain_part c.in_ok-next.ensures.runs (omega (arith, c.len.ensures, c.saturating_sub-most.ensures)) _)) c.in_err-escape.ensures.part)

pub returns-then-b-eq34-clause-short : goal.returns-then-b-eq34-clause-short
returns-then-b-eq34-clause-short g c = λ h.
    let runs = c.in_ok-next.ensures.runs in
    omega (arith, c.parts.invariant.short h, runs.bounded, c.len.ensures, c.saturating_sub-most.ensures, ap length runs.added, length-append c.parts.value.items runs.used)
