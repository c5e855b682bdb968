use Rattle.std.proofs.Common.{◌*◌, ◌∙◌, ap, sym, ◌≡◌, arith, get_or, map, min, refl, sum}
use Rattle.vlog_design.specs.Exprs.{width}
use Rattle.vlog_design.proofs.ExprLemmas.{width-Cat, width-Lit, width-Loose, width-LooseNumber, width-Ref, width-Rep}
use Rattle.vlog_design.proofs.Capped.{capped_mul, nothing_left, sum_left}
use Rattle.vlog_design.proofs.widths.+width.Goals as goal

pub width_near-returns-in-None : goal.width_near-returns-in-None
width_near-returns-in-None t c = rw (c.in-Ref.is, width-Ref, ← c.bytes.ensures, ← c.find_near.ensures, c.in-None.is) refl

pub width_near-returns-in-Some : goal.width_near-returns-in-Some
width_near-returns-in-Some t c = rw (c.in-Ref.is, width-Ref, ← c.bytes.ensures, ← c.find_near.ensures, c.in-Some.is) (omega (arith, c.selected_width.ensures))

pub width_near-returns-in-Lit : goal.width_near-returns-in-Lit
width_near-returns-in-Lit t c = rw (c.in-Lit.is, width-Lit, ← c.get.ensures) (omega (arith, c.from.ensures))

pub width_near-returns-in-LooseNumber : goal.width_near-returns-in-LooseNumber
width_near-returns-in-LooseNumber t c = rw (c.in-LooseNumber.is, width-LooseNumber) refl

pub width_near-returns-in-Loose : goal.width_near-returns-in-Loose
width_near-returns-in-Loose t c = rw (c.in-Loose.is, width-Loose) refl

pub width_near-returns-in-Cat : goal.width_near-returns-in-Cat
width_near-returns-in-Cat t c = rw (c.in-Cat.is, width-Cat, ← c.items.ensures) c.parts_width.ensures

pub width_near-returns-in-Rep : goal.width_near-returns-in-Rep
width_near-returns-in-Rep t c = rw (c.in-Rep.is, width-Rep, ← c.get-in-Rep.ensures, ← c.items-in-Rep.ensures)
    (c.saturating_mul.ensures ∙ (ap (λ b. min (c.times.result * b) 18446744073709551615) c.parts_width-in-Rep.ensures ∙ (capped_mul _ _ _ ∙ ap (λ a. min 18446744073709551615 (a * sum (map (width c.args.table.now) c.items-in-Rep.result.now))) c.times.ensures)))

pub parts_width-loop-part-preserved : goal.parts_width-loop-part-preserved
parts_width-loop-part-preserved t c =
    let parts = c.args.parts.now in
    let i = c.loop-part.part-index in
    let x = c.part-item.result in
    let e : width c.args.table.now (get_or parts i x) ≡ width c.args.table.now x = ap (width c.args.table.now) (sym c.part-item.is) in
    record {
      capped = omega arith;
      is_sum = omega (arith, c.saturating_add-total.ensures, c.width_near.ensures, e, sum_left (width c.args.table.now) parts i x c.loop-part-test.true, c.loop-part.invariant.is_sum);
    }

pub parts_width-returns : goal.parts_width-returns
parts_width-returns t c = omega (arith, nothing_left (width c.args.table.now) c.args.parts.now c.loop-part.part-index c.loop-part-test.false, c.loop-part.invariant.is_sum)
