-- An expression has as many bits as its width says.
use Rattle.std.proofs.Common.{◌≡◌, ℕ, zero, suc, ◌+◌, ◌*◌, List, [], ◌∷◌, map, flat_map, sum, length, Option, Some, None, ap, refl, sym, subst, ◌∙◌, arith, length-append, length-drop}
use Rattle.std.proofs.lemmas.List.{length-map, length-replicate}
use Rattle.std.proofs.lemmas.List.Sums.{sum-map, sum_by-cons}
use Rattle.std.specs.List.{range_with_len}
use Rattle.std.specs.Option.{option_map_or}
use Rattle.net_hier.specs.declared.nodes.Node.{Node}
use Rattle.vlog_values.specs.Bits.{literal_bits, fitted, own_bits}
use Rattle.vlog_design.specs.Exprs.{bits, constant_bit, repeated, signal_bits, span_bits, span_count, span_of, times, width}
use Rattle.vlog_design.specs.Names.{Signal, signal_named}
use Rattle.vlog_design.specs.Ranges.{selected}
use Rattle.vlog_values.specs.declared.expression.Expr.{Expr}
use Rattle.vlog_values.specs.declared.expression.Expr.TheFolds.{ind-Expr, map-Expr}
use Rattle.vlog_values.specs.declared.expression.Expr.TheOpen.{Expr-F}
use Rattle.vlog_values.specs.declared.expression.Expr.TheViews.{roll-Expr}
use Rattle.vlog_values.specs.declared.expression.Expr.TheVariants.{rolls-Ref, rolls-Lit, rolls-LooseNumber, rolls-Loose, rolls-Cat, rolls-Rep}
use Rattle.vlog_values.specs.declared.expression.Select.{Select}
use Rattle.vlog_values.specs.declared.literal.Bit.{Bit}
use Rattle.vlog_values.specs.declared.literal.Literal.{Literal}
use Rattle.vlog_design.specs.declared.signals.Slot.{Slot}
use Rattle.vlog_design.specs.declared.signals.Span.{Span}
use Rattle.vlog_design.proofs.ExprLemmas.{bits-Cat, bits-Lit, bits-Loose, bits-LooseNumber, bits-Ref, bits-Rep, width-Cat, width-Lit, width-Loose, width-LooseNumber, width-Ref, width-Rep}

length-fitted : (size : ℕ) (own : List Bit) → length (fitted size own) ≡ size
unfolding fitted
length-fitted size own = simp (length-append, length-replicate, length-drop) (omega arith)

length-literal : (literal : Literal) → length (literal_bits literal) ≡ literal.size
unfolding literal_bits
length-literal literal = length-fitted literal.size (own_bits literal.based.base literal.based.digits)

length-range : (first count : ℕ) → length (range_with_len first count) ≡ count
length-range first zero = refl
length-range first (suc count) = ap suc (length-range (first + 1) count)

length-selected : (o : Option Slot) (select : Select) → length (signal_bits o select) ≡ span_count (span_of o select)
length-selected None select = refl
length-selected (Some slot) select = by (selected slot.range select)
  where
    by : (s : Option Span) → length (option_map_or (span_bits slot.place) s []) ≡ span_count s
    by None = refl
    by (Some span) = length-map (range_with_len span.first span.count) _ ∙ length-range span.first span.count

length-repeated : (n : ℕ) (once : List (Option Node)) → length (repeated n once) ≡ n * length once
unfolding repeated
length-repeated zero once = omega arith
length-repeated (suc n) once = length-append once (repeated n once) ∙ (ap (λ k. length once + k) (length-repeated n once) ∙ omega arith)

module _ (signals : List Signal) where
  abbrev HasWidth : Expr → Type 0
  HasWidth e = length (bits signals e) ≡ width signals e

  parts_width : (parts : List ((e : Expr) × HasWidth e)) → length (flat_map (bits signals) (map (λ p. p.0) parts)) ≡ sum (map (width signals) (map (λ p. p.0) parts))
  parts_width [] = refl
  parts_width (p ∷ parts) = length-append (bits signals p.0) _ ∙ (ap (λ n. n + length (flat_map (bits signals) (map (λ q. q.0) parts))) p.1 ∙ (ap (λ n. width signals p.0 + n) (parts_width parts)
      ∙ (ap (λ n. width signals p.0 + n) (sum-map (width signals) (map (λ q. q.0) parts)) ∙ (sym (sum_by-cons (width signals) p.0 (map (λ q. q.0) parts)) ∙ sym (sum-map (width signals) (p.0 ∷ map (λ q. q.0) parts))))))

  has_width : (y : Expr-F ((e : Expr) × HasWidth e)) → HasWidth (roll-Expr (map-Expr ((e : Expr) × HasWidth e) Expr (λ e. e.0) y))
  has_width (Expr-F.Ref select name) = rw (rolls-Ref, bits-Ref, width-Ref) (length-selected (signal_named signals name) select)
  has_width (Expr-F.Lit literal) = rw (rolls-Lit, bits-Lit, width-Lit) (length-map (literal_bits literal) constant_bit ∙ length-literal literal)
  has_width (Expr-F.LooseNumber number) = rw (rolls-LooseNumber, bits-LooseNumber, width-LooseNumber) refl
  has_width (Expr-F.Loose based) = rw (rolls-Loose, bits-Loose, width-Loose) refl
  has_width (Expr-F.Cat parts) = rw (rolls-Cat, bits-Cat, width-Cat) (parts_width parts)
  has_width (Expr-F.Rep count parts) = rw (rolls-Rep, bits-Rep, width-Rep) (length-repeated (times count) _ ∙ ap (λ n. times count * n) (parts_width parts))

  -- an expression has as many bits as its width says
  pub bits_width : (e : Expr) → length (bits signals e) ≡ width signals e
  bits_width = ind-Expr HasWidth (λ x y is. subst (λ z. HasWidth (roll-Expr z)) is (has_width y))
