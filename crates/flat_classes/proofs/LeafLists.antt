-- the lists of leaves and terminals: what stands in them, and how long they are
use Rattle.std.proofs.Common.{◌≡◌, ℕ, zero, suc, ◌+◌, ◌<◌, ◌≤◌, inl, inr, List, [], ◌∷◌, ◌++◌, refl, ◌∙◌, ap, subst, slice_get, get_or, Some, Bool, true, false, cond, ◌&&◌, length, map, filter, sum_by, arith, All}
use Rattle.std.specs.Prelude.{Contains}
use Rattle.std.specs.List.{flat_map, range_with_len}
use Rattle.std.proofs.lemmas.List.{length-append, length-map}
use Rattle.std.proofs.lemmas.Grind.{flat_map-append}
use Rattle.std.proofs.lemmas.List.FromFn.{length-range_with_len}
use Rattle.std.proofs.lemmas.List.Elements.{Contains-append_cases}
use Rattle.std.proofs.lemmas.List.Sums.{sum_by-cons}
use Rattle.std.proofs.lemmas.Option.{slice_get-get_or, slice_get_within}
use Rattle.net_hier.specs.Cells.{width_of}
use Rattle.net_hier.specs.Constants.{ConstantNames}
use Rattle.net_hier.specs.Design.{Design, IsCell}
use Rattle.net_hier.specs.FlatCount.{FlatCount}
use Rattle.net_hier.specs.Valid.{IsValid}
use Rattle.net_hier.specs.declared.cells.HCell.{HCell}
use Rattle.net_hier.specs.declared.cells.HPort.{HPort}
use Rattle.flat_numbers.specs.Numbers.{AreBases, CellOf}
use Rattle.flat_numbers.specs.Tables.{HasFewBits}
use Rattle.flat_classes.specs.Terminals.{AreFlatClasses, FlatValue, IsLeafSpot, bits_of_ports, ports_at}
use Rattle.flat_numbers.specs.declared.spots.Spot.{Spot}
use Rattle.flat_classes.proofs.GroupLists.{filter_range}
use Rattle.flat_classes.proofs.KindLaws.{first_or_rest, in_first, in_rest, nothing_in, part_of_sum}
use Rattle.flat_numbers.proofs.Linking.{contains_there}
use Rattle.flat_numbers.proofs.Offsets.{small_cells}
use Rattle.flat_classes.proofs.TerminalLaws.{ports_read}

-- ---- filters
pub from_filter : {X : Type 0} (p : X → Bool) (xs : List X) (x : X) → Contains (filter p xs) x → Contains xs x × (p x ≡ true)
from_filter p [] x c = absurd (nothing_in x c)
from_filter p (y ∷ ys) x c = by (p y) refl c (λ m. from_filter p ys x m)
  where
    by : (b : Bool) → p y ≡ b → Contains (cond b (y ∷ filter p ys) (filter p ys)) x → (Contains (filter p ys) x → Contains ys x × (p x ≡ true)) → Contains (y ∷ ys) x × (p x ≡ true)
    by true e g rest = elim (first_or_rest y (filter p ys) x g) as (λ _. Contains (y ∷ ys) x × (p x ≡ true)) [
      | inl same ↦ (subst (Contains (y ∷ ys)) same (in_first y ys), subst (λ w. p w ≡ true) same e)
      | inr m ↦ let r = rest m in (in_rest y ys x r.0, r.1)
    ]
    by false e g rest = let r = rest g in (in_rest y ys x r.0, r.1)

clash : (b : Bool) → b ≡ false → b ≡ true → ⊥
clash b e f = cc

pub to_filter : {X : Type 0} (p : X → Bool) (xs : List X) (x : X) → Contains xs x → p x ≡ true → Contains (filter p xs) x
to_filter p [] x c t = absurd (nothing_in x c)
to_filter p (y ∷ ys) x c t = by (p y) refl (λ m. to_filter p ys x m t)
  where
    by : (b : Bool) → p y ≡ b → (Contains ys x → Contains (filter p ys) x) → Contains (cond b (y ∷ filter p ys) (filter p ys)) x
    by true e rest = elim (first_or_rest y ys x c) as (λ _. Contains (y ∷ filter p ys) x) [
      | inl same ↦ subst (Contains (y ∷ filter p ys)) same (in_first y (filter p ys))
      | inr m ↦ in_rest y (filter p ys) x (rest m)
    ]
    by false e rest = elim (first_or_rest y ys x c) as (λ _. Contains (filter p ys) x) [
      | inl same ↦ absurd (clash (p x) (subst (λ w. p w ≡ false) same e) t)
      | inr m ↦ rest m
    ]

pub filter_filter : {X : Type 0} (p q : X → Bool) (xs : List X) → filter q (filter p xs) ≡ filter (λ x. p x && q x) xs
filter_filter p q [] = refl
filter_filter p q (x ∷ xs) = by (p x) (filter_filter p q xs)
  where
    by : (b : Bool) → filter q (filter p xs) ≡ filter (λ y. p y && q y) xs → filter q (cond b (x ∷ filter p xs) (filter p xs)) ≡ cond (b && q x) (x ∷ filter (λ y. p y && q y) xs) (filter (λ y. p y && q y) xs)
    by true rest = ap (λ w. cond (q x) (x ∷ w) w) rest
    by false rest = rest

-- what holds of all that stands in a list
pub all_of : {X : Type 0} (P : X → Type 0) (xs : List X) → ((x : X) → Contains xs x → P x) → All P xs
all_of P xs each k d lt = each (get_or xs k d) (contains_there xs k (get_or xs k d) (slice_get-get_or xs k d lt))

-- ---- numbers of a range
in_range : (n a k : ℕ) → Contains (range_with_len a n) k → (a ≤ k) × (k < a + n)
in_range zero a k c = absurd (nothing_in k c)
in_range (suc n) a k c = elim (first_or_rest a (range_with_len (a + 1) n) k c) as (λ _. (a ≤ k) × (k < a + suc n)) [
  | inl e ↦ (omega (arith, e), omega (arith, e))
  | inr r ↦ let h = in_range n (a + 1) k r in next n a k h.0 h.1
]
  where
    next : (n a k : ℕ) → a + 1 ≤ k → k < (a + 1) + n → (a ≤ k) × (k < a + suc n)
    next n a k le lt = (omega arith, omega arith)

pub below_range : (n k : ℕ) → Contains (range_with_len 0 n) k → k < n
below_range n k c = let h = in_range n 0 k c in below n k h.1
  where
    below : (n k : ℕ) → k < 0 + n → k < n
    below n k lt = omega arith

-- ---- bits of ports
from_map : {X Y : Type 0} (f : X → Y) (xs : List X) (y : Y) → Contains (map f xs) y → (x : X) × Contains xs x × (f x ≡ y)
from_map f [] y c = absurd (nothing_in y c)
from_map f (x ∷ xs) y c = elim (first_or_rest (f x) (map f xs) y c) [
  | inl e ↦ (x, in_first x xs, e)
  | inr r ↦ let (z, there, e) = from_map f xs y r in (z, in_rest x xs z there, e)
]

pub from_bits : {A : Type 0} (make : ℕ → ℕ → A) (first : ℕ) (ports : List HPort) (t : A) → Contains (bits_of_ports make first ports) t → (i : ℕ) × (port : HPort) × (bit : ℕ) × (slice_get ports i ≡ Some port) × (bit < width_of port.range) × (make (first + i) bit ≡ t)
from_bits make first [] t c = absurd (nothing_in t c)
from_bits make first (port ∷ ports) t c = elim (Contains-append_cases (map (make first) (range_with_len 0 (width_of port.range))) (bits_of_ports make (suc first) ports) t c) [
  | inl d ↦
      let (bit, there, e) = from_map (make first) (range_with_len 0 (width_of port.range)) t d in
      (0, port, bit, refl, below_range (width_of port.range) bit there, ap (λ n. make n bit) (and_zero first) ∙ e)
  | inr d ↦
      let (i, p, bit, there, lt, e) = from_bits make (suc first) ports t d in
      (suc i, p, bit, there, lt, ap (λ n. make n bit) (one_on first i) ∙ e)
]
  where
    and_zero : (n : ℕ) → n + 0 ≡ n
    and_zero n = omega arith

    one_on : (n i : ℕ) → n + suc i ≡ suc n + i
    one_on n i = omega arith

pub bits_length : {A : Type 0} (make : ℕ → ℕ → A) (first : ℕ) (ports : List HPort) → length (bits_of_ports make first ports) ≡ sum_by (λ port. width_of port.range) ports
bits_length make first [] = refl
bits_length make first (port ∷ ports) =
    let a = length-append (map (make first) (range_with_len 0 (width_of port.range))) (bits_of_ports make (suc first) ports) in
    let b = length-map (range_with_len 0 (width_of port.range)) (make first) in
    let c = length-range_with_len 0 (width_of port.range) in
    let d = bits_length make (suc first) ports in
    let e = sum_by-cons (λ (p : HPort). width_of p.range) port ports in
    omega (arith, a, b, c, d, e)

-- ---- few bits
ports_long : (ports : List HPort) → ((i : ℕ) (port : HPort) → slice_get ports i ≡ Some port → 1 ≤ width_of port.range) → length ports ≤ sum_by (λ port. width_of port.range) ports
ports_long [] wide = omega arith
ports_long (port ∷ ports) wide =
    let l = ports_long ports (λ i p e. wide (suc i) p e) in
    let w = wide 0 port refl in
    omega (arith, l, w, sum_by-cons (λ (p : HPort). width_of p.range) port ports)

pub few_bits : (design : Design) (count : ℕ) → IsValid design → FlatCount design.cells design.top count → count ≤ 2000000 → (number : ℕ) (cell : HCell) → IsCell design.cells number cell → HasFewBits cell
few_bits design count valid counted few number cell is =
    let small = small_cells design count valid counted few number cell is in
    let widths = (valid.good_cells number cell is).widths in
    let long = ports_long cell.ports (λ i port e. (widths i port e).0) in
    record {
      ports = omega (arith, small, long);
      bits = λ i port e. let part = part_of_sum (λ (p : HPort). width_of p.range) cell.ports i port e in omega (arith, small, part);
    }

-- ---- how long the list of pins is
module _ (cells : List HCell) (spots : List Spot) (base : ℕ → ℕ) (count : ℕ) (bases : AreBases cells spots base count) (known : (number : ℕ) (spot : Spot) → slice_get spots number ≡ Some spot → (cell : HCell) × IsCell cells spot.cell cell) {A : Type 0} (make : ℕ → ℕ → ℕ → A) where
  abbrev pub pins : ℕ → List A
  pins leaf = bits_of_ports (make leaf) 0 (ports_at cells spots leaf)

  pins_length : (number : ℕ) → number < length spots → length (pins number) + base number ≤ base (suc number)
  pins_length number lt =
      let there = slice_get-get_or spots number (record { parent = 0; instance = 0; cell = 0 }) lt in
      let (cell, is) = known number (get_or spots number (record { parent = 0; instance = 0; cell = 0 })) there in
      let of : CellOf cells spots number cell = record { spot = get_or spots number (record { parent = 0; instance = 0; cell = 0 }); is_spot = there; is_cell = is } in
      let l = bits_length (make number) 0 (ports_at cells spots number) in
      let p = ap (sum_by (λ (port : HPort). width_of port.range)) (ports_read cells spots number cell of) in
      let n = bases.next number (get_or spots number (record { parent = 0; instance = 0; cell = 0 })) cell there is in
      omega (arith, l, p, n)

  pins_of_some : (b : Bool) (n : ℕ) → length (flat_map pins (cond b (n ∷ []) [])) ≤ length (pins n)
  pins_of_some true n = let a = length-append (pins n) [] in omega (arith, a)
  pins_of_some false n = omega arith

  pub pins_long : (p : ℕ → Bool) (n : ℕ) → n ≤ length spots → length (flat_map pins (filter p (range_with_len 0 n))) + 2 ≤ base n
  pins_long p zero le = let f = bases.first in omega (arith, f)
  pins_long p (suc n) le =
      let before = pins_long p n (omega (arith, le)) in
      let step = pins_length n (omega (arith, le)) in
      let one = pins_of_some (p n) n in
      let q = ap (λ xs. length (flat_map pins xs)) (suc_range n p) in
      let r = ap length (flat_map-append pins (filter p (range_with_len 0 n)) (cond (p n) (n ∷ []) [])) in
      let s = length-append (flat_map pins (filter p (range_with_len 0 n))) (flat_map pins (cond (p n) (n ∷ []) [])) in
      omega (arith, before, step, one, q, r, s)
    where
      suc_range : (n : ℕ) (p : ℕ → Bool) → filter p (range_with_len 0 (suc n)) ≡ filter p (range_with_len 0 n) ++ cond (p n) (n ∷ []) []
      suc_range n p = let e : suc n ≡ n + 1 = omega arith in ap (λ k. filter p (range_with_len 0 k)) e ∙ filter_range p n (p n) refl

-- ---- the spots of the leaves are there
pub leaves_within : (names : ConstantNames) (design : Design) (flat : FlatValue) → AreFlatClasses names design flat → All (λ leaf. leaf < length flat.spots) flat.leaves
leaves_within names design flat are =
    all_of (λ leaf. leaf < length flat.spots) flat.leaves (λ leaf c. let h : IsLeafSpot names design.cells flat.spots leaf = (are.are_leaves.are leaf).0 c in slice_get_within flat.spots leaf h.of_cell.spot h.of_cell.is_spot)
