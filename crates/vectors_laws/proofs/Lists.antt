-- Lists of what a function makes of numbers.
use Rattle.std.proofs.Common.{arith, ◌≡◌, ℕ, zero, suc, ◌+◌, ◌<◌, Bool, true, false, cond, List, [], ◌∷◌, ◌++◌, Some, filter, get_or, length, map, refl, ap, ◌∙◌, subst}
use Rattle.std.specs.Prelude.{slice_get}
use Rattle.std.specs.List.{enumerate_from, filter_map, flat_map, range_with_len}
use Rattle.edif_design.specs.Design.{counts_from}
use Rattle.edif_design.specs.Parts.{cell_in}
use Rattle.edif_values.specs.declared.cell.Cell.{Cell}
use Rattle.edif_values.specs.declared.library.LibraryItem.TheVariants as library_items

pub range_at : {X : Type 0} (f : ℕ → X) (a n k : ℕ) → k < n → slice_get (map f (range_with_len a n)) k ≡ Some (f (a + k))
range_at f a zero k lt = absurd (omega (arith, lt))
range_at f a (suc n) zero lt = ap (λ m. Some (f m)) (let e : a ≡ a + 0 = omega arith in e)
range_at f a (suc n) (suc k) lt = range_at f (a + 1) n k (omega (arith, lt)) ∙ ap (λ m. Some (f m)) (let e : a + 1 + k ≡ a + suc k = omega arith in e)

-- functions that agree on a range
pub range_same : {X : Type 0} (f g : ℕ → X) (a n : ℕ) → ((k : ℕ) → k < n → f (a + k) ≡ g (a + k)) → map f (range_with_len a n) ≡ map g (range_with_len a n)
range_same f g a zero same = refl
range_same f g a (suc n) same =
    let z : a + 0 ≡ a = omega arith in
    let first : f a ≡ g a = subst (λ m. f m ≡ g m) z (same 0 (omega arith)) in
    let rest = range_same f g (a + 1) n (λ k lt. let e : a + suc k ≡ a + 1 + k = omega arith in subst (λ m. f m ≡ g m) e (same (suc k) (omega (arith, lt)))) in
    λ j. first j ∷ rest j

pub map_map : {X Y Z : Type 0} (f : Y → Z) (g : X → Y) (xs : List X) → map f (map g xs) ≡ map (λ x. f (g x)) xs
map_map f g [] = refl
map_map f g (x ∷ xs) = ap (λ zs. f (g x) ∷ zs) (map_map f g xs)

-- the cells of a library of cells
pub these_cells : (cells : List Cell) → filter_map cell_in (map library_items.Cell cells) ≡ cells
these_cells [] = refl
these_cells (cell ∷ cells) = ap (λ cs. cell ∷ cs) (these_cells cells)

-- all items pass a test of numbers
pub all_pass : {X : Type 0} (p : ℕ → Bool) (a : ℕ) (xs : List X) → ((k : ℕ) → k < length xs → p (a + k) ≡ true) → filter (λ item. p item.0) (enumerate_from a xs) ≡ enumerate_from a xs
all_pass p a [] pass = refl
all_pass {X} p a (x ∷ xs) pass =
    let z : a + 0 ≡ a = omega arith in
    let first : p a ≡ true = subst (λ m. p m ≡ true) z (pass 0 (omega arith)) in
    let rest = all_pass p (a + 1) xs (λ k lt. let e : a + suc k ≡ a + 1 + k = omega arith in subst (λ m. p m ≡ true) e (pass (suc k) (omega (arith, lt)))) in
    λ j. cond (first j) ((a, x) ∷ rest j) (rest j)

-- where all marks before a place are set, as many stand there
pub all_counted : (marks : List Bool) (count i : ℕ) → i < length marks → ((k : ℕ) → k < i → get_or marks k false ≡ true) → get_or (counts_from count marks) i 0 ≡ count + i
all_counted [] count i inside marked = absurd (omega (arith, inside))
all_counted (mark ∷ marks) count zero inside marked = (let e : count ≡ count + 0 = omega arith in e)
all_counted (mark ∷ marks) count (suc i) inside marked =
    all_counted marks (count + cond mark 1 0) i (omega (arith, inside)) (λ k h. marked (suc k) (omega (arith, h)))
    ∙ (ap (λ b. count + cond b 1 0 + i) (marked 0 (omega arith)) ∙ (let e : count + 1 + i ≡ count + suc i = omega arith in e))

-- numbered items of a range of numbers give nothing, where none of the numbers does
pub none_numbered : {X Y : Type 0} (f : ℕ → X) (g : (ℕ × X) → List Y) (a n : ℕ) → ((k : ℕ) → k < n → g (a + k, f (a + k)) ≡ []) → flat_map g (enumerate_from a (map f (range_with_len a n))) ≡ []
none_numbered f g a zero none = refl
none_numbered f g a (suc n) none =
    let z : a + 0 ≡ a = omega arith in
    let first : g (a, f a) ≡ [] = subst (λ m. g (m, f m) ≡ []) z (none 0 (omega arith)) in
    let rest = none_numbered f g (a + 1) n (λ k lt. let e : a + suc k ≡ a + 1 + k = omega arith in subst (λ m. g (m, f m) ≡ []) e (none (suc k) (omega (arith, lt)))) in
    λ j. first j ++ rest j

-- and so for the items alone
pub none_made : {X Y : Type 0} (f : ℕ → X) (g : X → List Y) (a n : ℕ) → ((k : ℕ) → k < n → g (f (a + k)) ≡ []) → flat_map g (map f (range_with_len a n)) ≡ []
none_made f g a zero none = refl
none_made f g a (suc n) none =
    let z : a + 0 ≡ a = omega arith in
    let first : g (f a) ≡ [] = subst (λ m. g (f m) ≡ []) z (none 0 (omega arith)) in
    let rest = none_made f g (a + 1) n (λ k lt. let e : a + suc k ≡ a + 1 + k = omega arith in subst (λ m. g (f m) ≡ []) e (none (suc k) (omega (arith, lt)))) in
    λ j. first j ++ rest j
