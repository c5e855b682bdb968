-- The names and the widths of ports of a cell that breaks no rule.
use Rattle.std.proofs.Common.{◌≡◌, ℕ, zero, suc, ◌+◌, ◌<◌, ◌≤◌, ◌⊎◌, inl, inr, Bool, true, false, ◌||◌, List, [], ◌∷◌, ◌++◌, map, take, slice_get, Some, refl, sym, ap, ◌∙◌, arith, pos}
use Rattle.std.specs.Prelude.{codes, ℤ, negsuc, nat_abs, not, ◌-ℤ◌}
use Rattle.std.specs.List.{list_any}
use Rattle.std.proofs.lemmas.Bool.{false≢true}
use Rattle.std.proofs.lemmas.Bool.Decides.{nat_tests}
use Rattle.std.proofs.lemmas.Option.{get_or_from_slice_get, slice_get_within}
use Rattle.std.proofs.lemmas.Slice.Eq.{bytes_eq-Decides}
use Rattle.nl_base.specs.Case.{same_bytes}
use Rattle.nl_base.specs.Ranges.{range_bits}
use Rattle.nl_base.specs.declared.rule.Refusal.{Refusal}
use Rattle.nl_base.specs.declared.rule.Rule.{Rule}
use Rattle.nl_base.specs.declared.rule.Rule.TheVariants.{E5, E12}
use Rattle.std.proofs.Math.IntN.{pos-+ℤ-pos, +ℤ-neg_ℤ_cancel, +ℤ_idr}
use Rattle.edif_lookup.specs.Refusals.{broken, in_order, is_in}
use Rattle.edif_lookup.proofs.Orders.{in_order_none, none_left, none_right}
use Rattle.edif_values.specs.Names.{array_name, original, port_original}
use Rattle.edif_values.specs.declared.name.PortName.{PortName}
use Rattle.edif_values.specs.declared.name.PortName.TheVariants.{Single, Array}
use Rattle.edif_values.proofs.Names.{array_named}
use Rattle.edif_values.specs.declared.port.Port.{Port}
use Rattle.edif_values.specs.declared.cell.Cell.{Cell}
use Rattle.net_hier.specs.Cells.{width_of}
use Rattle.net_hier.specs.Valid.{HaveOwnNames}
use Rattle.edif_design.specs.CellRules.{has_good_sizes, is_bad_size, port_ident, port_name, port_refusals, size_of}
use Rattle.edif_design.specs.Parts.{ports}

pub unbroken : (b : Bool) (rule : Rule) (cell : List ℕ) (names : List (List ℕ)) → broken b rule cell names ≡ [] → b ≡ false
unbroken true rule cell names h = absurd (let e : record { rule = rule; cell = cell; names = names } ∷ [] ≡ [] = h in cc)
unbroken false rule cell names h = refl

any_there : {A : Type 0} (p : A → Bool) (xs : List A) (i : ℕ) (x : A) → slice_get xs i ≡ Some x → p x ≡ true → list_any p xs ≡ true
any_there p [] i x e h = absurd (cc)
any_there p (y ∷ xs) zero x e h = let f : y ≡ x = cc in ap (λ b. b || list_any p xs) (ap p f ∙ h)
any_there p (y ∷ xs) (suc i) x e h = ap (λ b. p y || b) (any_there p xs i x e h) ∙ or_true (p y)
  where
    or_true : (b : Bool) → (b || true) ≡ true
    or_true true = refl
    or_true false = refl

mapped_before : {A : Type 0} (name : A → List ℕ) (xs : List A) (i j : ℕ) (x : A) → i < j → slice_get xs i ≡ Some x → slice_get (map name (take j xs)) i ≡ Some (name x)
mapped_before name [] i j x lt e = absurd (cc)
mapped_before name (y ∷ xs) i zero x lt e = absurd (omega arith)
mapped_before name (y ∷ xs) zero (suc j) x lt e = let f : y ≡ x = cc in ap (λ z. Some (name z)) f
mapped_before name (y ∷ xs) (suc i) (suc j) x lt e = mapped_before name xs i j x (omega arith) e

apart : (a b : ℕ) → (a < b) ⊎ ((a ≡ b) ⊎ (b < a))
apart a b = grind arith

-- names of which none is among those before it differ
pub own_names : {A : Type 0} (name : A → List ℕ) (xs : List A) → ((i : ℕ) (x : A) → slice_get xs i ≡ Some x → is_in (name x) (map name (take i xs)) ≡ false) → HaveOwnNames name xs
own_names {A = A} name xs differ i j x y is_x is_y same = elim (apart i j) [
  | inl lt ↦ absurd (false≢true (sym (differ j y is_y) ∙ earlier i j x y lt is_x same))
  | inr rest ↦ elim rest [
    | inl e ↦ e
    | inr lt ↦ absurd (false≢true (sym (differ i x is_x) ∙ earlier j i y x lt is_y (sym same)))
  ]
]
  where
    earlier : (i j : ℕ) (x y : A) → i < j → slice_get xs i ≡ Some x → name x ≡ name y → is_in (name y) (map name (take j xs)) ≡ true
    earlier i j x y lt e same = any_there (same_bytes (name y)) (map name (take j xs)) i (name x) (mapped_before name xs i j x lt e) ((bytes_eq-Decides (name y) (name x)).1 (sym same))

good_size : (size : ℤ) → is_bad_size (Some size) ≡ false → (n : ℕ) × ((size ≡ pos n) × ((1 ≤ n) × (n ≤ 65536)))
good_size (pos n) h = (n, (refl, ((grind (arith, nat_tests)), (grind (arith, nat_tests)))))
good_size (negsuc n) h = absurd (false≢true (sym h))

whole_bits : (n : ℕ) → 1 ≤ n → nat_abs ((pos n -ℤ pos 1) -ℤ pos 0) + 1 ≡ n
whole_bits zero h = absurd (omega (arith, h))
whole_bits (suc m) h =
    let one_less : pos (suc m) -ℤ pos 1 ≡ pos m = ap (λ n. pos n -ℤ pos 1) (let e : suc m ≡ m + 1 = omega arith in e) ∙ (ap (λ z. z -ℤ pos 1) (sym (pos-+ℤ-pos m 1)) ∙ +ℤ-neg_ℤ_cancel (pos m) (pos 1)) in
    let none_less : pos m -ℤ pos 0 ≡ pos m = ap (λ z. z -ℤ pos 0) (sym (+ℤ_idr (pos m))) ∙ +ℤ-neg_ℤ_cancel (pos m) (pos 0) in
    ap (λ z. nat_abs (z -ℤ pos 0) + 1) one_less ∙ (ap (λ z. nat_abs z + 1) none_less ∙ (let e : m + 1 ≡ suc m = omega arith in e))

array_bits : (text : List ℕ) (n : ℕ) → 1 ≤ n → range_bits (array_name text (pos n)).1 ≡ n
array_bits text n h = elim (array_named text n) [
  | inl form ↦ form.is_size
  | inr whole ↦ ap range_bits whole.2 ∙ whole_bits n h
]

-- an array of a good size has as many bits
pub array_width : (text : List ℕ) (size : ℤ) → is_bad_size (Some size) ≡ false → (n : ℕ) × ((size ≡ pos n) × (range_bits (array_name text size).1 ≡ n))
array_width text size h =
    let good = good_size size h in
    (good.0, (good.1.0, (ap (λ z. range_bits (array_name text z).1) good.1.0 ∙ array_bits text good.0 good.1.1.0)))

-- a port of a good size has the width that its size says
pub good_width : (name : PortName) → is_bad_size (size_of name) ≡ false → (1 ≤ width_of (port_original name).1) × (width_of (port_original name).1 ≤ 65536)
good_width (Single name) h = ((omega arith), (omega arith))
good_width (Array name size) h =
    let good = good_size size h in
    let e : range_bits (array_name (original name) size).1 ≡ good.0 = ap (λ z. range_bits (array_name (original name) z).1) good.1.0 ∙ array_bits (original name) good.0 good.1.1.0 in
    ((omega (arith, e, good.1.1.0)), (omega (arith, e, good.1.1.1)))

module _ (cell : List ℕ) (those : List Port) (clean : in_order (port_refusals cell) those ≡ []) where
  port_clean : (i : ℕ) (port : Port) → slice_get those i ≡ Some port → port_refusals cell (take i those) port ≡ []
  port_clean i port e =
      ap (port_refusals cell (take i those)) (sym (get_or_from_slice_get those i port port e)) ∙ in_order_none (port_refusals cell) those clean i port (slice_get_within those i port e)

  abbrev second : ℕ → Port → List Refusal
  second i port = broken (is_in (port_ident port) (map port_ident (take i those))) E5 cell (codes "port" ∷ (port_ident port ∷ []))

  abbrev bad_size : Port → List Refusal
  bad_size port = broken (is_bad_size (size_of port.name)) E12 cell (codes "size" ∷ (port_name port ∷ []))

  abbrev same_name : ℕ → Port → List Refusal
  same_name i port = broken (is_in (port_name port) (map port_name (take i those))) E12 cell (codes "port" ∷ (port_name port ∷ []))

  -- no port has a bad size
  pub sizes_clean : (i : ℕ) (port : Port) → slice_get those i ≡ Some port → is_bad_size (size_of port.name) ≡ false
  sizes_clean i port e =
      unbroken (is_bad_size (size_of port.name)) E12 cell (codes "size" ∷ (port_name port ∷ [])) (none_right (second i port) (bad_size port) (none_left (second i port ++ bad_size port) (same_name i port) (port_clean i port e)))

  -- no port has the name of one before it
  pub port_names_clean : (i : ℕ) (port : Port) → slice_get those i ≡ Some port → is_in (port_name port) (map port_name (take i those)) ≡ false
  port_names_clean i port e =
      unbroken (is_in (port_name port) (map port_name (take i those))) E12 cell (codes "port" ∷ (port_name port ∷ [])) (none_right (second i port ++ bad_size port) (same_name i port) (port_clean i port e))

none_any : {A : Type 0} (p : A → Bool) (xs : List A) → ((i : ℕ) (x : A) → slice_get xs i ≡ Some x → p x ≡ false) → list_any p xs ≡ false
none_any p [] h = refl
none_any p (x ∷ xs) h = (λ j. h 0 x refl j || none_any p xs (λ i. h (suc i)) j)

-- a cell that breaks nothing has no bad size
pub good_sizes : (name : List ℕ) (cell : Cell) → in_order (port_refusals name) (ports cell) ≡ [] → has_good_sizes cell ≡ true
good_sizes name cell clean = ap not (none_any (λ port. is_bad_size (size_of port.name)) (ports cell) (sizes_clean name (ports cell) clean))
