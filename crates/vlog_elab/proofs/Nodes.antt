-- The bits of expressions are nodes of the cell.
use Rattle.std.proofs.Common.{◌≡◌, ℕ, zero, suc, ◌+◌, ◌-◌, ◌<◌, ◌≤◌, Bool, true, false, cond, List, [], ◌∷◌, map, find, flat_map, bytes_eq, nat_le, Option, Some, None, refl, subst, arith}
use Rattle.std.specs.Prelude.{IfSome, option_map}
use Rattle.std.specs.List.{range_with_len}
use Rattle.std.specs.Option.{option_map_or}
use Rattle.std.proofs.lemmas.Bool.Decides.{nat_tests}
use Rattle.nl_base.specs.Ranges.{Bounds}
use Rattle.net_hier.specs.Cells.{width_of}
use Rattle.net_hier.specs.Valid.{Each, IsNode}
use Rattle.net_hier.specs.declared.cells.HCell.{HCell}
use Rattle.net_hier.specs.declared.nodes.Node.{Node}
use Rattle.vlog_values.specs.Bits.{literal_bits}
use Rattle.vlog_design.specs.Design.{module_cell}
use Rattle.vlog_design.specs.Exprs.{bits, constant_bit, node_at, repeated, signal_bits, span_bits, times}
use Rattle.vlog_design.specs.Names.{Name, Signal, signal_named, signals}
use Rattle.vlog_design.specs.Ranges.{position_of, selected, span_between}
use Rattle.vlog_design.specs.declared.signals.Slot.{Slot}
use Rattle.vlog_design.specs.declared.signals.Span.{Span}
use Rattle.vlog_design.proofs.ExprLemmas.{bits-Cat, bits-Lit, bits-Loose, bits-LooseNumber, bits-Ref, bits-Rep}
use Rattle.vlog_design.proofs.Positions.{position_within}
use Rattle.vlog_values.specs.declared.expression.Expr.{Expr}
use Rattle.vlog_values.specs.declared.expression.Expr.TheFolds.{ind-Expr, map-Expr}
use Rattle.vlog_values.specs.declared.expression.Expr.TheOpen.{Expr-F}
use Rattle.vlog_values.specs.declared.expression.Expr.TheViews.{roll-Expr}
use Rattle.vlog_values.specs.declared.expression.Expr.TheVariants.{rolls-Ref, rolls-Lit, rolls-LooseNumber, rolls-Loose, rolls-Cat, rolls-Rep}
use Rattle.vlog_values.specs.declared.expression.Select.{Select}
use Rattle.vlog_values.specs.declared.expression.Select.TheVariants as selects
use Rattle.vlog_values.specs.declared.literal.Bit.{Bit}
use Rattle.vlog_values.specs.declared.literal.Bit.TheVariants as digits
use Rattle.vlog_values.specs.declared.module.Module.{Module}
use Rattle.vlog_checked.proofs.ListLaws.{each_both, each_map}
use Rattle.vlog_checked.proofs.Lookup.{found_there}
use Rattle.vlog_elab.proofs.Signals.{IsOfCell, slots_are}

-- ---- positions

between_within : (width : ℕ) (p q : Option ℕ) (span : Span) → IfSome q (λ n. n < width) → span_between p q ≡ Some span → span.first + span.count ≤ width
between_within width None q span h e = absurd (cc)
between_within width (Some p) None span h e = absurd (cc)
between_within width (Some p) (Some q) span h e = by (nat_le p q) refl e
  where
    by : (b : Bool) → nat_le p q ≡ b → cond b (Some (record { first = p; count = q - p + 1 })) None ≡ Some span → span.first + span.count ≤ width
    by true l e =
        let s : record { first = p; count = q - p + 1 } ≡ span = cc in
        let le : p ≤ q = grind (arith, nat_tests) in
        subst (λ (t : Span). t.first + t.count ≤ width) s (omega (arith, h, le))
    by false l e = absurd (cc)

position_inside : (range : Bounds) (o : Option ℕ) (index : _) → position_of range index ≡ o → IfSome o (λ n. n < width_of (Some range))
position_inside range None index e = tt
position_inside range (Some p) index e = position_within range index p e

-- the positions of a select are within the range
pub selected_within : (range : Option Bounds) (select : Select) (span : Span) → selected range select ≡ Some span → span.first + span.count ≤ width_of range
unfolding selected
selected_within range selects.All span e = let s : record { first = 0; count = width_of range } ≡ span = cc in subst (λ (t : Span). t.first + t.count ≤ width_of range) s (omega arith)
selected_within None (selects.One index) span e = absurd (cc)
selected_within None (selects.Slice from to) span e = absurd (cc)
selected_within (Some range) (selects.One index) span e = between_within (width_of (Some range)) (position_of range index) (position_of range index) span (position_inside range (position_of range index) index refl) e
selected_within (Some range) (selects.Slice from to) span e = between_within (width_of (Some range)) (position_of range from) (position_of range to) span (position_inside range (position_of range to) to refl) e

-- the numbers of a run are those from the first on
pub run_within : (first count : ℕ) → Each (λ n. n < first + count) (range_with_len first count)
run_within first zero i n e = absurd (cc)
run_within first (suc count) zero n e = let s : first ≡ n = cc in omega (arith, s)
run_within first (suc count) (suc i) n e = omega (arith, run_within (first + 1) count i n e)

-- ---- bits

module _ (cells : List HCell) (ms : List Module) (m : Module) where
  -- a node of the cell, or nothing
  abbrev pub IsBitOfCell : Option Node → Type 0
  IsBitOfCell bit = IfSome bit (IsNode cells (module_cell ms m))

  selected_bits : (slot : Slot) (select : Select) → IsOfCell cells ms m slot → Each IsBitOfCell (signal_bits (Some slot) select)
  selected_bits slot select good = by (selected slot.range select) refl
    where
      by : (o : Option Span) → selected slot.range select ≡ o → Each IsBitOfCell (option_map_or (span_bits slot.place) o [])
      by None e = λ i bit is. absurd (cc)
      by (Some span) e = each_map IsBitOfCell (λ (bit : ℕ). Some (node_at slot.place bit)) (range_with_len span.first span.count)
          (λ i bit is. good bit (omega (arith, run_within span.first span.count i bit is, selected_within slot.range select span e)))

  -- a name stands for a port or net of the cell
  pub named_slot : (name : Name) (slot : Slot) → signal_named (signals m) name ≡ Some slot → IsOfCell cells ms m slot
  unfolding signal_named
  named_slot name slot e = by (find (λ (s : Signal). bytes_eq name s.name) (signals m)) refl e
    where
      by : (o : Option Signal) → find (λ (s : Signal). bytes_eq name s.name) (signals m) ≡ o → option_map (λ (s : Signal). s.slot) o ≡ Some slot → IsOfCell cells ms m slot
      by None f e = absurd (cc)
      by (Some signal) f e = let s : signal.slot ≡ slot = cc in subst (IsOfCell cells ms m) s (slots_are cells ms m _ signal (found_there (λ (s : Signal). bytes_eq name s.name) (signals m) signal f).0)

  name_bits : (o : Option Slot) (name : Name) (select : Select) → signal_named (signals m) name ≡ o → Each IsBitOfCell (signal_bits o select)
  name_bits None name select e = λ i bit is. absurd (cc)
  name_bits (Some slot) name select e = selected_bits slot select (named_slot name slot e)

  literal_bit : (bit : Bit) → IsBitOfCell (constant_bit bit)
  literal_bit digits.Zero = tt
  literal_bit digits.One = tt
  literal_bit digits.X = tt
  literal_bit digits.Z = tt

  repeated_bits : (n : ℕ) (once : List (Option Node)) → Each IsBitOfCell once → Each IsBitOfCell (repeated n once)
  unfolding repeated
  repeated_bits zero once h = λ i bit is. absurd (cc)
  repeated_bits (suc n) once h = each_both IsBitOfCell once (repeated n once) h (repeated_bits n once h)

  abbrev HasNodes : Expr → Type 0
  HasNodes e = Each IsBitOfCell (bits (signals m) e)

  parts_nodes : (parts : List ((e : Expr) × HasNodes e)) → Each IsBitOfCell (flat_map (bits (signals m)) (map (λ p. p.0) parts))
  parts_nodes [] = λ i bit is. absurd (cc)
  parts_nodes (p ∷ parts) = each_both IsBitOfCell (bits (signals m) p.0) (flat_map (bits (signals m)) (map (λ q. q.0) parts)) p.1 (parts_nodes parts)

  has_nodes : (y : Expr-F ((e : Expr) × HasNodes e)) → HasNodes (roll-Expr (map-Expr ((e : Expr) × HasNodes e) Expr (λ e. e.0) y))
  has_nodes (Expr-F.Ref select name) = rw (rolls-Ref, bits-Ref) (name_bits (signal_named (signals m) name) name select refl)
  has_nodes (Expr-F.Lit literal) = rw (rolls-Lit, bits-Lit) (each_map IsBitOfCell constant_bit (literal_bits literal) (λ i bit is. literal_bit bit))
  has_nodes (Expr-F.LooseNumber number) = rw (rolls-LooseNumber, bits-LooseNumber) (λ i bit is. absurd (cc))
  has_nodes (Expr-F.Loose based) = rw (rolls-Loose, bits-Loose) (λ i bit is. absurd (cc))
  has_nodes (Expr-F.Cat parts) = rw (rolls-Cat, bits-Cat) (parts_nodes parts)
  has_nodes (Expr-F.Rep count parts) = rw (rolls-Rep, bits-Rep) (repeated_bits (times count) _ (parts_nodes parts))

  -- the bits of an expression are nodes of the cell
  pub expr_nodes : (e : Expr) → Each IsBitOfCell (bits (signals m) e)
  expr_nodes = ind-Expr HasNodes (λ x y is. subst (λ z. HasNodes (roll-Expr z)) is (has_nodes y))
