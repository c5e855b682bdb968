-- One more cell, and how many are swapped then.
use Rattle.std.proofs.Common.{arith, add-one, ◌≡◌, ℕ, zero, suc, ◌+◌, ◌*◌, ◌%◌, Bool, true, false, cond, List, [], ◌∷◌, ◌++◌, filter, length, map, sym, ap, ◌∙◌}
use Rattle.std.specs.Prelude.{nat_le}
use Rattle.std.specs.List.{range_with_len}
use Rattle.std.proofs.lemmas.List.{map-append}
use Rattle.std.proofs.lemmas.List.FromFn.{map-range_with_len_more}
use Rattle.edif_values.specs.declared.library.LibraryItem.{LibraryItem}
use Rattle.edif_values.specs.declared.library.LibraryItem.TheVariants as library_items
use Rattle.edif_values.specs.declared.view.ViewItem.TheVariants as view_items
use Rattle.vectors.specs.Cells.{cell, cell_ident, cell_with, contents_of}
use Rattle.vectors.specs.Files.{cells_of}
use Rattle.vectors.specs.Numbers.{is_swapped, number_at}

length_cond : (b : Bool) (x : ℕ) (xs : List ℕ) → length (cond b (x ∷ xs) xs) ≡ cond b 1 0 + length xs
length_cond true x xs = (let e : suc (length xs) ≡ 1 + length xs = omega arith in e)
length_cond false x xs = (let e : length xs ≡ 0 + length xs = omega arith in e)

-- one more number of a range passes a test, or it does not
one_more : (p : ℕ → Bool) (a n : ℕ) → length (filter p (range_with_len a (suc n))) ≡ length (filter p (range_with_len a n)) + cond (p (a + n)) 1 0
one_more p a zero =
    let e : ◌≡◌ {A = ℕ} (cond (p a) 1 0) (cond (p (a + 0)) 1 0) = ap (λ m. cond (p m) 1 0) (let z : a ≡ a + 0 = omega arith in z) in
    let l = length_cond (p a) a [] in
    omega (arith, e, l)
one_more p a (suc n) =
    let rest = one_more p (a + 1) n in
    let e : ◌≡◌ {A = ℕ} (cond (p (a + 1 + n)) 1 0) (cond (p (a + suc n)) 1 0) = ap (λ m. cond (p m) 1 0) (let z : a + 1 + n ≡ a + suc n = omega arith in z) in
    let l = length_cond (p a) a (filter p (range_with_len (a + 1) (suc n))) in
    let k = length_cond (p a) a (filter p (range_with_len (a + 1) n)) in
    omega (arith, rest, e, l, k)

-- the next number of a seed
pub number_turn : (seed k number next : ℕ) → number ≡ number_at seed k → next ≡ (5 * number + 3) % 256 → next ≡ number_at seed (k + 1)
unfolding number_at
number_turn seed k number next is is_next = is_next ∙ (ap (λ m. (5 * m + 3) % 256) is ∙ ap (number_at seed) (sym (add-one k)))

pub count_turn : (seed k number next count more : ℕ) → number ≡ number_at seed k → next ≡ (5 * number + 3) % 256 → more ≡ cond (nat_le 128 next) 1 0 → count ≡ length (filter (is_swapped seed) (range_with_len 1 k))
    → count + more ≡ length (filter (is_swapped seed) (range_with_len 1 (k + 1)))
count_turn seed k number next count more is is_next is_more counted =
    let n = one_more (is_swapped seed) 1 k in
    let e : ◌≡◌ {A = ℕ} (cond (nat_le 128 next) 1 0) (cond (is_swapped seed (1 + k)) 1 0) = ap (λ m. cond (nat_le 128 m) 1 0) (number_turn seed k number next is is_next ∙ ap (number_at seed) (let z : k + 1 ≡ 1 + k = omega arith in z)) in
    let s : length (filter (is_swapped seed) (range_with_len 1 (k + 1))) ≡ length (filter (is_swapped seed) (range_with_len 1 (suc k))) = ap (λ m. length (filter (is_swapped seed) (range_with_len 1 m))) (add-one k) in
    omega (arith, n, e, s, is_more, counted)

-- the next cell
next_cell : (seed k next : ℕ) → next ≡ number_at seed (k + 1) → cell_with (cell_ident (k + 1)) (view_items.Contents (contents_of (nat_le 128 next) k) ∷ []) ≡ cell seed (k + 1)
next_cell seed k next is =
    (λ j. cell_with (cell_ident (add-one k j)) (view_items.Contents (contents_of (nat_le 128 ((is ∙ ap (number_at seed) (add-one k)) j)) k) ∷ [])) ∙ ap (cell seed) (sym (add-one k))

pub cells_turn : (seed k number next : ℕ) (made : List LibraryItem) → number ≡ number_at seed k → next ≡ (5 * number + 3) % 256 → made ≡ map library_items.Cell (cells_of seed (k + 1))
    → made ++ library_items.Cell (cell_with (cell_ident (k + 1)) (view_items.Contents (contents_of (nat_le 128 next) k) ∷ [])) ∷ [] ≡ map library_items.Cell (cells_of seed (k + 1 + 1))
cells_turn seed k number next made is is_next before =
    (λ j. before j ++ library_items.Cell (next_cell seed k next (number_turn seed k number next is is_next) j) ∷ [])
    ∙ (sym (map-append library_items.Cell (cells_of seed (k + 1)) (cell seed (k + 1) ∷ [])) ∙ ap (map library_items.Cell) (sym (map-range_with_len_more (cell seed) 0 (k + 1) (k + 1) (let z : 0 + (k + 1) ≡ k + 1 = omega arith in z))))
