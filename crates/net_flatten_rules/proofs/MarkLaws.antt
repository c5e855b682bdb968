-- The marks of the cells at leaves, and the cells that are marked.
use Rattle.std.proofs.Common.{◌≡◌, ◌≢◌, ℕ, ◌+◌, ◌<◌, ◌≤◌, ◌||◌, ◌==◌, inl, inr, Bool, true, false, not, cond, List, [], ◌∷◌, ◌++◌, drop, take, get_or, set, length, filter, refl, sym, ◌∙◌, ap, nat_eq, append_assoc, get_or-set_same, get_or-set_other, arith}
use Rattle.std.specs.Prelude.{All}
use Rattle.std.specs.Option.{option_map_or}
use Rattle.std.proofs.Math.ListN.{drop_of_length-le}
use Rattle.std.proofs.Math.Bool.{or-false, or-true}
use Rattle.std.proofs.lemmas.Bool.{cases_eq, eq-eqb, eqb-false, eqb-true}
use Rattle.std.proofs.lemmas.List.{append-nil, drop_more, length-set, take_all, take_more}
use Rattle.std.proofs.lemmas.List.Elements.{All-cons, All-filter}
use Rattle.std.proofs.lemmas.List.Folds.{list_any-append}
use Rattle.std.proofs.lemmas.Option.{slice_get-get_or, slice_get_within}
use Rattle.net_hier.specs.Constants.{ConstantNames}
use Rattle.net_hier.specs.Design.{Design}
use Rattle.net_hier.specs.Valid.{IsValid}
use Rattle.flat_numbers.specs.Spots.{AreSpots}
use Rattle.flat_numbers.specs.declared.spots.Spot.{Spot}
use Rattle.flat_numbers.proofs.Counting.{good_order}
use Rattle.flat_numbers.proofs.SpotLaws.{listed_cells}
use Rattle.flat_classes.specs.Terminals.{AreFlatClasses, FlatValue}
use Rattle.flat_classes.proofs.LeafLists.{leaves_within}
use Rattle.net_flatten_rules.specs.FlatDesign.{cell_at, inner, leaf_cells, stands_at}

-- the cells of spots are there
pub spots_within : (design : Design) (spots : List Spot) → AreSpots design spots → All (λ spot. spot.cell < length design.cells) spots
spots_within design spots are k d lt =
    let spot : Spot = get_or spots k d in
    let at = listed_cells are k spot (slice_get-get_or spots k d lt) in
    slice_get_within design.cells spot.cell at.0 at.1

-- the marks tell of this many cells which of them stand at the first leaves
pub record AreMarked (spots : List Spot) (leaves : List ℕ) (count place : ℕ) (marks : List Bool) : Type 0 where
  pub long : length marks ≡ count
  pub marked : (number : ℕ) → number < count → get_or marks number false ≡ stands_at spots (take place leaves) number

module _ (spots : List Spot) (leaves : List ℕ) (count : ℕ) where
  stands_next : (place number cell : ℕ) → place < length leaves → cell_at spots (get_or leaves place 0) ≡ cell → stands_at spots (take (place + 1) leaves) number ≡ (stands_at spots (take place leaves) number || nat_eq cell number)
  stands_next place number cell lt is =
      ap (λ ls. stands_at spots ls number) (take_more leaves place 0 lt)
      ∙ (list_any-append (λ leaf. nat_eq (cell_at spots leaf) number) (take place leaves) (get_or leaves place 0 ∷ [])
      ∙ ap (λ b. stands_at spots (take place leaves) number || b) (or-false (nat_eq (cell_at spots (get_or leaves place 0)) number) ∙ ap (λ c. nat_eq c number) is))

  pub mark_set : (place : ℕ) (d : Spot) (marks : List Bool) → place < length leaves → get_or leaves place 0 < length spots → AreMarked spots leaves count place marks →
      (get_or spots (get_or leaves place 0) d).cell < count → AreMarked spots leaves count (place + 1) (set marks (get_or spots (get_or leaves place 0) d).cell true)
  mark_set place d marks lt there so_far less =
      let leaf : ℕ = get_or leaves place 0 in
      let cell : ℕ = (get_or spots leaf d).cell in
      let is : cell_at spots leaf ≡ cell = ap (λ o. option_map_or (λ (spot : Spot). spot.cell) o 0) (slice_get-get_or spots leaf d there) in
      let long : length marks ≡ count = so_far.long in
      record {
        long = length-set marks cell true ∙ long;
        marked = λ number h. elim (cases_eq number cell) as (λ _. get_or (set marks cell true) number false ≡ stands_at spots (take (place + 1) leaves) number) [
          | inl e ↦ ap (λ n. get_or (set marks cell true) n false) e ∙ (get_or-set_same marks cell true false (omega (arith, less, long))
              ∙ sym (stands_next place number cell lt is ∙ (ap (λ b. stands_at spots (take place leaves) number || b) (eq-eqb cell number (sym e)) ∙ or-true (stands_at spots (take place leaves) number))))
          | inr ne ↦ get_or-set_other marks cell number true false ne ∙ (so_far.marked number h
              ∙ sym (stands_next place number cell lt is ∙ (ap (λ b. stands_at spots (take place leaves) number || b) (apart cell number (λ e. ne (sym e))) ∙ or-false (stands_at spots (take place leaves) number))))
        ];
      }
    where
      apart : (a b : ℕ) → ¬ (a ≡ b) → nat_eq a b ≡ false
      apart a b ne = by (nat_eq a b) refl
        where
          by : (t : Bool) → nat_eq a b ≡ t → t ≡ false
          by true e = absurd (ne (eqb-true a b e))
          by false e = refl

  pub marks_whole : (place : ℕ) (marks : List Bool) → length leaves ≤ place → AreMarked spots leaves count place marks → (number : ℕ) → number < count → get_or marks number false ≡ stands_at spots leaves number
  marks_whole place marks le so_far number lt = so_far.marked number lt ∙ ap (λ ls. stands_at spots ls number) (take_all place leaves le)

-- ---- the numbers that pass a test, one by one
module _ (p : ℕ → Bool) (order : List ℕ) (i : ℕ) (found new : List ℕ) (lt : i < length order) (so_far : found ++ filter p (drop i order) ≡ filter p order) where
  left : filter p (drop i order) ≡ cond (p (get_or order i 0)) (get_or order i 0 ∷ filter p (drop (i + 1) order)) (filter p (drop (i + 1) order))
  left = ap (filter p) (drop_more order i 0 lt)

  pub one_kept : p (get_or order i 0) ≡ true → new ≡ found ++ get_or order i 0 ∷ [] → new ++ filter p (drop (i + 1) order) ≡ filter p order
  one_kept is_so is = ap (λ w. w ++ filter p (drop (i + 1) order)) is ∙ (append_assoc found (get_or order i 0 ∷ []) (filter p (drop (i + 1) order))
      ∙ (ap (λ l. found ++ l) (sym (left ∙ ap (λ b. cond b (get_or order i 0 ∷ filter p (drop (i + 1) order)) (filter p (drop (i + 1) order))) is_so)) ∙ so_far))

  pub one_passed : p (get_or order i 0) ≡ false → new ≡ found → new ++ filter p (drop (i + 1) order) ≡ filter p order
  one_passed none is = ap (λ w. w ++ filter p (drop (i + 1) order)) is
      ∙ (ap (λ l. found ++ l) (sym (left ∙ ap (λ b. cond b (get_or order i 0 ∷ filter p (drop (i + 1) order)) (filter p (drop (i + 1) order))) none)) ∙ so_far)

pub all_kept : (p : ℕ → Bool) (order : List ℕ) (i : ℕ) (found : List ℕ) → length order ≤ i → found ++ filter p (drop i order) ≡ filter p order → found ≡ filter p order
all_kept p order i found le so_far = sym (append-nil found) ∙ (ap (λ l. found ++ filter p l) (sym (drop_of_length-le order {i = i} le)) ∙ so_far)

-- the cells at leaves are there
pub cells_within : (design : Design) → IsValid design → (spots : List Spot) (leaves : List ℕ) → All (λ number. number < length design.cells) (leaf_cells design.order spots leaves)
cells_within design valid spots leaves = All-filter (stands_at spots leaves) (λ number. number < length design.cells) design.order
    (λ k d lt. (good_order design valid).in_range k (get_or design.order k d) (slice_get-get_or design.order k d lt))

-- the leaves below the top are not the top
pub none_is_top : (leaves : List ℕ) → All (λ leaf. leaf ≢ 0) (inner leaves)
none_is_top [] = λ k d lt. absurd (omega (arith, lt))
none_is_top (leaf ∷ leaves) = by (leaf == 0) refl (none_is_top leaves)
  where
    by : (b : Bool) → (leaf == 0) ≡ b → All (λ l. l ≢ 0) (inner leaves) → All (λ l. l ≢ 0) (cond (not b) (leaf ∷ inner leaves) (inner leaves))
    by true e rest = rest
    by false e rest = All-cons (λ l. l ≢ 0) leaf (inner leaves) (eqb-false leaf 0 e) rest

pub inner_within : (names : ConstantNames) (design : Design) (flat : FlatValue) → AreFlatClasses names design flat → All (λ leaf. leaf < length flat.spots) (inner flat.leaves)
inner_within names design flat are = All-filter (λ leaf. not (leaf == 0)) (λ leaf. leaf < length flat.spots) flat.leaves (leaves_within names design flat are)
