-- What stands at the places of lists that are made of others.
use Rattle.std.proofs.Common.{◌≡◌, ℕ, zero, suc, ◌+◌, ◌<◌, ◌≤◌, Contains, List, [], ◌∷◌, ◌++◌, Option, Some, None, option_to_list, map, flat_map, length, slice_get, refl, sym, ◌∙◌, ap, arith}
use Rattle.std.specs.List.{enumerate_from, range_with_len}
use Rattle.std.proofs.lemmas.Option.{get_or_from_slice_get, slice_get_within}

pub mapped_at : {X Y : Type 0} (f : X → Y) (xs : List X) (k : ℕ) (x : X) → slice_get xs k ≡ Some x → slice_get (map f xs) k ≡ Some (f x)
mapped_at f [] k x e = absurd (let g : None ≡ Some x = e in cc)
mapped_at f (y ∷ xs) zero x e = let g : Some y ≡ Some x = e in let s : y ≡ x = cc in ap (λ z. Some (f z)) s
mapped_at f (y ∷ xs) (suc k) x e = mapped_at f xs k x e

-- an item of a mapped list is that of one of the list
pub from_mapped : {X Y : Type 0} (f : X → Y) (xs : List X) (k : ℕ) (y : Y) → slice_get (map f xs) k ≡ Some y → (x : X) × (slice_get xs k ≡ Some x) × (y ≡ f x)
from_mapped f [] k y e = absurd (let g : None ≡ Some y = e in cc)
from_mapped f (x ∷ xs) zero y e = let g : Some (f x) ≡ Some y = e in (x, refl, cc)
from_mapped f (x ∷ xs) (suc k) y e = from_mapped f xs k y e

pub one_item : {X : Type 0} (o : Option X) (x y : X) → o ≡ Some x → o ≡ Some y → x ≡ y
one_item o x y e f = cc

pub mapped_item : {X Y : Type 0} (f : X → Y) (xs : List X) (k : ℕ) (x : X) (y : Y) → slice_get xs k ≡ Some x → slice_get (map f xs) k ≡ Some y → y ≡ f x
mapped_item f xs k x y e g = one_item (slice_get (map f xs) k) y (f x) g (mapped_at f xs k x e)

-- each item with its number
numbered_at : {X : Type 0} (first : ℕ) (xs : List X) (k : ℕ) (x : X) → slice_get xs k ≡ Some x → slice_get (enumerate_from first xs) k ≡ Some (first + k, x)
numbered_at first [] k x e = absurd (let g : None ≡ Some x = e in cc)
numbered_at first (y ∷ xs) zero x e =
    let g : Some y ≡ Some x = e in
    let s : y ≡ x = cc in
    let z : first ≡ first + 0 = omega arith in
    ap (λ n. Some (n, y)) z ∙ ap (λ v. Some (first + 0, v)) s
numbered_at first (y ∷ xs) (suc k) x e = let z : first + 1 + k ≡ first + suc k = omega arith in numbered_at (first + 1) xs k x e ∙ ap (λ n. Some (n, x)) z

pub made_at : {X Y : Type 0} (f : (ℕ × X) → Y) (xs : List X) (k : ℕ) (x : X) (y : Y) → slice_get xs k ≡ Some x → slice_get (map f (enumerate_from 0 xs)) k ≡ Some y → y ≡ f (k, x)
made_at f xs k x y e g =
    let z : 0 + k ≡ k = omega arith in
    mapped_item f (enumerate_from 0 xs) k (k, x) y (numbered_at 0 xs k x e ∙ ap (λ n. Some (n, x)) z) g

pub made_names : {X Y Z : Type 0} (f : (ℕ × X) → Y) (of_made : Y → Z) (of_item : X → Z) → ((k : ℕ) (x : X) → of_made (f (k, x)) ≡ of_item x) → (first : ℕ) (xs : List X) → map of_made (map f (enumerate_from first xs)) ≡ map of_item xs
made_names f of_made of_item same first [] = refl
made_names f of_made of_item same first (x ∷ xs) = ap (λ v. v ∷ map of_made (map f (enumerate_from (first + 1) xs))) (same first x) ∙ ap (λ l. of_item x ∷ l) (made_names f of_made of_item same (first + 1) xs)

pub made_count : {X Y : Type 0} (f : (ℕ × X) → Y) (first : ℕ) (xs : List X) → length xs ≡ length (map f (enumerate_from first xs))
made_count f first [] = refl
made_count f first (x ∷ xs) = ap suc (made_count f (first + 1) xs)

pub same_names : {X Y Z : Type 0} (f : X → Y) (of_made : Y → Z) (of_item : X → Z) → ((x : X) → of_made (f x) ≡ of_item x) → (xs : List X) → map of_made (map f xs) ≡ map of_item xs
same_names f of_made of_item same [] = refl
same_names f of_made of_item same (x ∷ xs) = ap (λ v. v ∷ map of_made (map f xs)) (same x) ∙ ap (λ l. of_item x ∷ l) (same_names f of_made of_item same xs)

pub there_below : {X : Type 0} (xs : List X) (k : ℕ) → k < length xs → (x : X) × (slice_get xs k ≡ Some x)
there_below [] k h = absurd (omega (arith, h))
there_below (x ∷ xs) zero h = (x, refl)
there_below (x ∷ xs) (suc k) h = there_below xs k (omega (arith, h))

-- where each number of a range gives an item, the items are those of the numbers
pub all_given : {X : Type 0} (give : ℕ → Option X) (n first : ℕ) → ((k : ℕ) → first ≤ k → k < first + n → (x : X) × (give k ≡ Some x)) → n ≡ length (flat_map (λ k. option_to_list (give k)) (range_with_len first n))
all_given give zero first all = refl
all_given give (suc n) first all =
    let h = all first (omega arith) (omega arith) in
    let rest : ℕ = length (flat_map (λ k. option_to_list (give k)) (range_with_len (first + 1) n)) in
    let e : n ≡ rest = all_given give n (first + 1) (λ k low high. all k (omega (arith, low)) (omega (arith, high))) in
    ap suc e ∙ sym (ap (λ o. length (option_to_list o ++ flat_map (λ k. option_to_list (give k)) (range_with_len (first + 1) n))) h.1)

pub given_at : {X : Type 0} (give : ℕ → Option X) (n first : ℕ) → ((k : ℕ) → first ≤ k → k < first + n → (x : X) × (give k ≡ Some x)) → (place : ℕ) (x : X) →
    slice_get (flat_map (λ k. option_to_list (give k)) (range_with_len first n)) place ≡ Some x → (give (first + place) ≡ Some x) × (place < n)
given_at give zero first all place x e = absurd (let g : None ≡ Some x = e in cc)
given_at {X} give (suc n) first all place x e =
    let h = all first (omega arith) (omega arith) in
    by h.0 h.1 (λ k g. given_at give n (first + 1) (λ m low high. all m (omega (arith, low)) (omega (arith, high))) k x g) place
    (sym (ap (λ o. slice_get (option_to_list o ++ flat_map (λ k. option_to_list (give k)) (range_with_len (first + 1) n)) place) h.1) ∙ e)
  where
    rest : List X
    rest = flat_map (λ k. option_to_list (give k)) (range_with_len (first + 1) n)

    by : (one : X) → give first ≡ Some one → ((k : ℕ) → slice_get rest k ≡ Some x → (give (first + 1 + k) ≡ Some x) × (k < n)) →
        (place : ℕ) → slice_get (one ∷ rest) place ≡ Some x → (give (first + place) ≡ Some x) × (place < suc n)
    by one f further zero g =
        let z : first + 0 ≡ first = omega arith in
        let s : Some one ≡ Some x = g in
        (ap give z ∙ (f ∙ s), omega arith)
    by one f further (suc k) g =
        let z : first + suc k ≡ first + 1 + k = omega arith in
        let r = further k g in
        let lt : k < n = r.1 in
        (ap give z ∙ r.0, omega (arith, lt))

pub there_at : {X : Type 0} (xs : List X) (k : ℕ) (x : X) → slice_get xs k ≡ Some x → Contains xs x
there_at xs k x e = (k, slice_get_within xs k x e, get_or_from_slice_get xs k x x e)
