use Rattle.std.proofs.Common.{◌≡◌, ◌++◌, All, OnOk, append-nil, arith, rules, subst, sym, ◌∙◌}
use Rattle.vlog_design.proofs.ExprLemmas.{bits-Cat, bits-Lit, bits-Loose, bits-LooseNumber, bits-Ref, bits-Rep, literals-Cat, literals-Lit, literals-Rep}
use Rattle.vlog_design.specs.Exprs.{literals, repeated}
use Rattle.vlog_values.specs.declared.expression.Expr.TheViews.{the_lemmas}
use Rattle.vlog_design.specs.Numbers.{HasDigits, HasNumbers}
use Rattle.vlog_design.proofs.Parts.{all_found, all_of_part}
use Rattle.vlog_design.proofs.RunLaws.{repeated_once}
use Rattle.vlog_design.proofs.bits.+bits.Goals as goal

pub push_bits-push_selected-requires : goal.push_bits-push_selected-requires
push_bits-push_selected-requires t c = all_found HasNumbers _ _ _ c.requires.numbers (sym c.find.ensures ∙ c.in-Some.is)

pub push_bits-filled_bits_of-requires : goal.push_bits-filled_bits_of-requires
push_bits-filled_bits_of-requires t c = (rw (c.in-Lit.is, literals-Lit, ← c.get.ensures) at c.requires.digits) 0 c.get.result.now (omega arith)

pub push_bits-push_parts-requires : goal.push_bits-push_parts-requires
push_bits-push_parts-requires t c = (search (rules, the_lemmas), ((rw (c.in-Cat.is, literals-Cat, ← c.items.ensures) at c.requires.digits), c.requires.numbers))

pub push_bits-push_replication-requires : goal.push_bits-push_replication-requires
push_bits-push_replication-requires t c = (search (rules, the_lemmas), ((rw (c.in-Rep.is, literals-Rep, ← c.get-in-Rep.ensures, ← c.items-in-Rep.ensures) at c.requires.digits), c.requires.numbers))

pub push_bits-returns-in-None : goal.push_bits-returns-in-None
push_bits-returns-in-None t c = record { added = rw (c.in-Ref.is, bits-Ref, ← c.bytes.ensures, ← c.find.ensures, c.in-None.is) (sym (append-nil _)) }

pub push_bits-returns-in-Some : goal.push_bits-returns-in-Some
push_bits-returns-in-Some t c = record { added = rw (c.in-Ref.is, bits-Ref, ← c.bytes.ensures, ← c.find.ensures, c.in-Some.is) c.push_selected.ensures.added }

pub push_bits-returns-in_ok-literal_bits-in-Lit : goal.push_bits-returns-in_ok-literal_bits-in-Lit
push_bits-returns-in_ok-literal_bits-in-Lit t c = record { added = rw (c.in-Lit.is, bits-Lit, ← c.get.ensures, ← c.in_ok-literal_bits-in-Lit.ensures.value) c.push_literal.ensures.added }

pub push_bits-returns-in-LooseNumber : goal.push_bits-returns-in-LooseNumber
push_bits-returns-in-LooseNumber t c = record { added = rw (c.in-LooseNumber.is, bits-LooseNumber) (sym (append-nil _)) }

pub push_bits-returns-in-Loose : goal.push_bits-returns-in-Loose
push_bits-returns-in-Loose t c = record { added = rw (c.in-Loose.is, bits-Loose) (sym (append-nil _)) }

pub push_bits-returns-in-Cat : goal.push_bits-returns-in-Cat
push_bits-returns-in-Cat t c = record { added = rw (c.in-Cat.is, bits-Cat, ← c.items.ensures) c.push_parts.ensures.added }

pub push_bits-returns-in-Rep : goal.push_bits-returns-in-Rep
push_bits-returns-in-Rep t c = record { added = rw (c.in-Rep.is, bits-Rep, ← c.get-in-Rep.ensures, ← c.items-in-Rep.ensures, ← c.times.ensures) c.push_replication.ensures.added }

pub push_replication-returns-then-count-eq0 : goal.push_replication-returns-then-count-eq0
unfolding repeated
push_replication-returns-then-count-eq0 t c = record { added = rw c.if-count-eq0.true (sym (append-nil _)) }

pub push_replication-returns-then-count-eq1 : goal.push_replication-returns-then-count-eq1
push_replication-returns-then-count-eq1 t c = record {
  added = subst (λ all. OnOk c.push_parts.result (c.push_parts.new.out ≡ c.args.out.now ++ all)) (repeated_once _ _ c.if-count-eq1.true) c.push_parts.ensures.added;
}

pub push_parts-push_bits-requires : goal.push_parts-push_bits-requires
push_parts-push_bits-requires t c = (search (rules, the_lemmas), (subst (λ e. All HasDigits (literals e)) (sym c.part-item.is) (all_of_part HasDigits literals c.args.parts.now c.loop-part.part-index c.part-item.result c.loop-part-test.true c.requires.digits), c.requires.numbers))
