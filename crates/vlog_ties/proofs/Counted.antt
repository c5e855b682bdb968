-- The number of joins of a module that keeps the rules on widths.
use Rattle.std.proofs.Common.{◌≡◌, ℕ, zero, suc, ◌+◌, ◌<◌, ◌≤◌, ◌&&◌, ◌||◌, Bool, true, false, cond, not, nat_eq, List, [], ◌∷◌, Option, None, Some, drop, find, flat_map, get_or, length, length-append, map, option_map, sum, sum_by, ap, refl, sym, ◌∙◌, arith, drop_of_length-le}
use Rattle.std.specs.List.{AllByRecursion, range_with_len}
use Rattle.std.specs.Option.{option_map_or}
use Rattle.std.proofs.lemmas.Bool.{eqb-true}
use Rattle.std.proofs.lemmas.List.{length-map}
use Rattle.std.proofs.lemmas.List.Sums.{sum-map, sum_by-cons}
use Rattle.net_hier.specs.Cells.{width_of}
use Rattle.net_hier.specs.declared.nodes.Node.{Node}
use Rattle.vlog_design.specs.Design.{module_joins, slot_joins}
use Rattle.vlog_design.specs.Exprs.{bits, has_loose, width}
use Rattle.vlog_design.specs.Names.{Signal, signal_named, signals}
use Rattle.vlog_design.specs.Rules.{first_of, unequal_widths, unsized}
use Rattle.vlog_design.specs.declared.signals.Slot.{Slot}
use Rattle.vlog_design.proofs.BitCounts.{bits_width}
use Rattle.vlog_design.proofs.Capped.{sum_left}
use Rattle.vlog_values.specs.Sizes.{module_size}
use Rattle.vlog_values.specs.Values.{IsModule}
use Rattle.vlog_values.specs.declared.module.Module.{Module}
use Rattle.vlog_ties.specs.Ties.{Tied, Pin, Assign, Supply, all_tied, broken_objects, is_broken, any_pairing, is_unequal, is_unsized, module_ties, tied, tied_count, tied_joins, tied_names}
use Rattle.vlog_ties.specs.declared.tie.Tie.{Tie}
use Rattle.vlog_ties.specs.declared.rules.TieRule.{TieRule}
use Rattle.vlog_ties.specs.declared.rules.TieRule.TheVariants.{EqualWidths, SizedLiterals}
use Rattle.vlog_ties.proofs.Broken.{objects_first}
use Rattle.vlog_ties.proofs.Live.{bits_live, every_there, joins_counted, left_every}
use Rattle.vlog_ties.proofs.ModuleLaws.{module_joined}
use Rattle.vlog_ties.proofs.Valid.{IsTied, ties_valid}

-- no tie of a module that keeps a rule breaks it

not_found : {A B : Type 0} (f : A → B) (o : Option A) → option_map f o ≡ None → o ≡ None
not_found f None h = refl
not_found f (Some x) h = cc

none_found : {A : Type 0} (p : A → Bool) (xs : List A) → find p xs ≡ None → AllByRecursion (λ x. p x ≡ false) xs
none_found p [] h = tt
none_found p (x ∷ xs) h = by (p x) refl (none_found p xs) h
  where
    by : (b : Bool) → p x ≡ b → (find p xs ≡ None → AllByRecursion (λ y. p y ≡ false) xs) → cond b (Some x) (find p xs) ≡ None → AllByRecursion (λ y. p y ≡ false) (x ∷ xs)
    by true e next k = absurd cc
    by false e next k = (e, next k)

none_broken : (rule : TieRule) (modules : List Module) (m : Module) → broken_objects rule modules m ≡ [] → AllByRecursion (λ t. any_pairing (is_broken rule) (signals m) t ≡ false) (module_ties modules m)
none_broken rule modules m e =
    let found = find (any_pairing (is_broken rule) (signals m)) (module_ties modules m) in
    none_found (any_pairing (is_broken rule) (signals m)) (module_ties modules m) (not_found tied_names found (sym (objects_first rule modules m) ∙ ap first_of e))

one_width : (left right : ℕ) (loose : Bool) → (not (nat_eq left right) && not loose) ≡ false → loose ≡ false → left ≡ right
one_width left right loose h k = by (nat_eq left right) refl (ap (λ b. not (nat_eq left right) && not b) (sym k) ∙ h)
  where
    by : (b : Bool) → nat_eq left right ≡ b → (not b && true) ≡ false → left ≡ right
    by true e g = eqb-true left right e
    by false e g = absurd cc

-- the joins of one tie

pub length-range : (first count : ℕ) → length (range_with_len first count) ≡ count
length-range first zero = refl
length-range first (suc count) = ap suc (length-range (first + 1) count)

pub slot_counted : (constant : Node) (o : Option Slot) → length (option_map_or (slot_joins constant) o []) ≡ option_map_or (λ slot. width_of slot.range) o 0
slot_counted constant None = refl
slot_counted constant (Some slot) = length-map (range_with_len 0 (width_of slot.range)) _ ∙ length-range 0 (width_of slot.range)

module _ (names : List Signal) where
  tie_counted : (t : Tied) → IsTied t → any_pairing is_unequal names t ≡ false → any_pairing is_unsized names t ≡ false → length (tied_joins names t) ≡ tied_count names t
  tie_counted (Pin instance number port port_number size value) good even sized =
      let same = one_width size (width names value) (has_loose value) even sized in
      joins_counted _ (bits names value) (length-map (range_with_len 0 size) _ ∙ (length-range 0 size ∙ (same ∙ sym (bits_width names value)))) (every_there _ (range_with_len 0 size)) ∙ bits_live names value
  tie_counted (Assign left right) good even sized =
      let same = one_width (width names left) (width names right) (has_loose left || has_loose right) even sized in
      joins_counted (bits names left) (bits names right) (bits_width names left ∙ (same ∙ sym (bits_width names right))) (left_every names left good.assignable) ∙ bits_live names right
  tie_counted (Supply name constant) good even sized = slot_counted constant (signal_named names name)

  ties_counted : (ts : List Tied) → AllByRecursion IsTied ts → AllByRecursion (λ t. any_pairing is_unequal names t ≡ false) ts → AllByRecursion (λ t. any_pairing is_unsized names t ≡ false) ts →
      length (flat_map (tied_joins names) ts) ≡ sum_by (tied_count names) ts
  ties_counted [] good even sized = refl
  ties_counted (t ∷ ts) good even sized =
      omega (arith, length-append (tied_joins names t) (flat_map (tied_joins names) ts), sum_by-cons (tied_count names) t ts, tie_counted t good.0 even.0 sized.0, ties_counted ts good.1 even.1 sized.1)

-- the number of joins of a module
pub module_counted : (modules : List Module) (m : Module) (table : List Signal) (ts : List Tied) → table ≡ signals m → ts ≡ module_ties modules m → IsModule m → module_size m ≤ 268435456 → unequal_widths modules m ≡ [] → unsized modules m ≡ [] →
    sum (map (tied_count table) ts) ≡ length (module_joins modules m)
module_counted modules m table ts e f good small even sized =
    ap (λ names. sum (map (tied_count names) ts)) e
    ∙ (ap (λ l. sum (map (tied_count (signals m)) l)) f
    ∙ (sum-map (tied_count (signals m)) (module_ties modules m)
    ∙ (sym (ties_counted (signals m) (module_ties modules m) (ties_valid modules m good small) (none_broken EqualWidths modules m even) (none_broken SizedLiterals modules m sized))
    ∙ ap length (module_joined modules m))))

-- steps of the loop over ties

counts_of : (names : List Signal) (ties : List Tie) → sum (map (tied_count names) (all_tied ties)) ≡ sum_by (λ tie. tied_count names (tied tie)) ties
counts_of names [] = refl
counts_of names (tie ∷ ties) =
    sum-map (tied_count names) (all_tied (tie ∷ ties)) ∙ (sum_by-cons (tied_count names) (tied tie) (all_tied ties)
    ∙ (ap (λ n. tied_count names (tied tie) + n) (sym (sum-map (tied_count names) (all_tied ties)) ∙ counts_of names ties) ∙ sym (sum_by-cons (λ x. tied_count names (tied x)) tie ties)))

pub counts_left : (names : List Signal) (ties : List Tie) (i : ℕ) (tie : Tie) → tie ≡ get_or ties i tie → i < length ties →
    sum (map (tied_count names) (all_tied (drop i ties))) ≡ tied_count names (tied tie) + sum (map (tied_count names) (all_tied (drop (i + 1) ties)))
counts_left names ties i tie is h =
    let f : Tie → ℕ = λ x. tied_count names (tied x) in
    counts_of names (drop i ties)
    ∙ (sym (sum-map f (drop i ties)) ∙ (sum_left f ties i tie h ∙ (ap (λ x. f x + sum (map f (drop (i + 1) ties))) (sym is) ∙ ap (λ n. f tie + n) (sum-map f (drop (i + 1) ties) ∙ sym (counts_of names (drop (i + 1) ties))))))

pub counts_done : (names : List Signal) (ties : List Tie) (i : ℕ) → length ties ≤ i → sum (map (tied_count names) (all_tied (drop i ties))) ≡ 0
counts_done names ties i h = ap (λ l. sum (map (tied_count names) (all_tied l))) (drop_of_length-le ties {i = i} h)
