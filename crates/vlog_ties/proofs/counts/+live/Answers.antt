use Rattle.std.proofs.Common.{◌*◌, ◌∙◌, All, ap, count_by, sym, subst, arith, map, min, refl, replicate, rules, sum}
use Rattle.vlog_design.specs.Exprs.{is_live, literals, live_width}
use Rattle.vlog_design.specs.Numbers.{HasDigits}
use Rattle.vlog_design.proofs.Capped.{capped_mul}
use Rattle.vlog_design.proofs.ExprLemmas.{literals-Cat, literals-Lit, literals-Rep}
use Rattle.vlog_design.proofs.Parts.{all_of_part}
use Rattle.vlog_values.specs.declared.expression.Expr.TheViews.{the_lemmas}
use Rattle.vlog_ties.proofs.Live.{live-append, live-Cat, live-Lit, live-Loose, live-LooseNumber, live-Ref, live-Rep}
use Rattle.vlog_ties.proofs.counts.+live.Goals as goal

pub live_width-filled_bits_of-requires : goal.live_width-filled_bits_of-requires
live_width-filled_bits_of-requires t c = (rw (c.in-Lit.is, literals-Lit, ← c.get.ensures) at c.requires) 0 c.get.result.now (omega arith)

pub live_width-live_width_in-requires : goal.live_width-live_width_in-requires
live_width-live_width_in-requires t c = (search (rules, the_lemmas), (rw (c.in-Cat.is, literals-Cat, ← c.items.ensures) at c.requires))

pub live_width-live_width_in-requires-in-Rep : goal.live_width-live_width_in-requires-in-Rep
live_width-live_width_in-requires-in-Rep t c = (search (rules, the_lemmas), (rw (c.in-Rep.is, literals-Rep, ← c.get-in-Rep.ensures, ← c.items-in-Rep.ensures) at c.requires))

pub live_width_in-live_width-requires : goal.live_width_in-live_width-requires
live_width_in-live_width-requires t c =
    (search (rules, the_lemmas), subst (λ e. All HasDigits (literals e)) (sym c.part-item.is) (all_of_part HasDigits literals c.args.parts.now c.loop-part.part-index c.part-item.result c.loop-part-test.true c.requires))

pub live_width-returns-in-None : goal.live_width-returns-in-None
live_width-returns-in-None t c = rw (c.in-Ref.is, live-Ref, ← c.bytes.ensures, ← c.find.ensures, c.in-None.is) refl

pub live_width-returns-in-Some : goal.live_width-returns-in-Some
live_width-returns-in-Some t c = rw (c.in-Ref.is, live-Ref, ← c.bytes.ensures, ← c.find.ensures, c.in-Some.is) (omega (arith, c.selected_width.ensures))

pub live_width-returns-in_ok-bits-in-Lit : goal.live_width-returns-in_ok-bits-in-Lit
live_width-returns-in_ok-bits-in-Lit t c =
    let bits = c.in_ok-bits-in-Lit.bits in
    rw (c.in-Lit.is, live-Lit, ← c.get.ensures, ← c.in_ok-bits-in-Lit.ensures.value)
    (omega (arith, c.saturating_add.ensures, c.live_copies.ensures, c.live_bits.ensures ∙ ap (count_by is_live) c.deref.ensures.value, live-append (replicate bits.filled bits.fill) bits.own.items))

pub live_width-returns-in-LooseNumber : goal.live_width-returns-in-LooseNumber
live_width-returns-in-LooseNumber t c = rw (c.in-LooseNumber.is, live-LooseNumber) refl

pub live_width-returns-in-Loose : goal.live_width-returns-in-Loose
live_width-returns-in-Loose t c = rw (c.in-Loose.is, live-Loose) refl

pub live_width-returns-in-Cat : goal.live_width-returns-in-Cat
live_width-returns-in-Cat t c = rw (c.in-Cat.is, live-Cat, ← c.items.ensures) c.live_width_in.ensures

pub live_width-returns-in_ok-once-in-Rep : goal.live_width-returns-in_ok-once-in-Rep
live_width-returns-in_ok-once-in-Rep t c = rw (c.in-Rep.is, live-Rep, ← c.get-in-Rep.ensures, ← c.items-in-Rep.ensures)
    (c.saturating_mul.ensures ∙ (ap (λ b. min (c.times.result * b) 18446744073709551615) c.in_ok-once-in-Rep.ensures ∙ (capped_mul _ _ _ ∙ ap (λ a. min 18446744073709551615 (a * sum (map (live_width c.args.table.now) c.items-in-Rep.result.now))) c.times.ensures)))
