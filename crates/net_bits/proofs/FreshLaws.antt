-- names with numbers
use Rattle.std.proofs.Common.{◌≡◌, ℕ, suc, ◌+◌, ◌<◌, ◌≤◌, ◌^◌, ◌%◌, ◌||◌, ◌++◌, Bool, true, false, List, [], ◌∷◌, length, get_or, map, refl, sym, ◌∙◌, ap, arith, below_more}
use Rattle.std.specs.Cmp.{IsEquivalence}
use Rattle.std.specs.Fmt.{decimal}
use Rattle.std.specs.List.{IsDistinct, list_any, range_with_len}
use Rattle.std.proofs.lemmas.Bool.Decides.{nat_tests}
use Rattle.std.specs.Cmp.Lexicographic.{on_texts_equal}
use Rattle.std.proofs.lemmas.Fmt.{decimal_by_steps, decimal_injective}
use Rattle.std.proofs.lemmas.List.{map-append, append_cancel_left}
use Rattle.std.proofs.lemmas.List.FromFn.{get_or-map-range_with_len, length-map-range_with_len}
use Rattle.std.proofs.lemmas.Map.Keys.{IsDistinct-from_apart}
use Rattle.std.proofs.lemmas.Map.Made.{length-le_from_is_member}
use Rattle.std.proofs.lemmas.Map.Steps.{list_any_congr}
use Rattle.std.proofs.lemmas.Nat.{mod_below}
use Rattle.std.proofs.lemmas.Slice.Eq.{bytes_eq-Decides}
use Rattle.nl_base.specs.Case.{small}
use Rattle.net_bits.specs.Names.{AreUsed, NameSet, alike, has_name, numbered}

-- the test is an equivalence
pub alike_laws : (c : Bool) → IsEquivalence (alike c)
alike_laws false = on_texts_equal (λ name. name)
alike_laws true = on_texts_equal (map small)

small_digit : (n : ℕ) → n < 10 → small (48 + n) ≡ 48 + n
small_digit n h = grind (arith, nat_tests)

-- a number in decimal has no capital letters
small_decimal : (n : ℕ) → n < 2 ^ 64 → map small (decimal n) ≡ decimal n
small_decimal n h = decimal_by_steps (λ n ds. map small ds ≡ ds)
    (λ n l. ap (λ d. d ∷ []) (small_digit n l))
    (λ n ds l e. map-append small ds ((48 + n % 10) ∷ []) ∙ ((λ i. e i ++ map small ((48 + n % 10) ∷ [])) ∙ ap (λ d. ds ++ d ∷ []) (small_digit (n % 10) (mod_below n 10 (omega arith)))))
    n h

-- names with other numbers are not alike
unlike_numbers : (c : Bool) (stem : List ℕ) (m n : ℕ) → m < 2 ^ 64 → n < 2 ^ 64 → alike c (numbered stem m) (numbered stem n) ≡ true → m ≡ n
unlike_numbers false stem m n hm hn h = decimal_injective m n hm hn (append_cancel_left stem (decimal m) (decimal n) ((bytes_eq-Decides (numbered stem m) (numbered stem n)).0 h))
unlike_numbers true stem m n hm hn h =
    let e = (bytes_eq-Decides (map small (numbered stem m)) (map small (numbered stem n))).0 h in
    let f = sym (map-append small stem (decimal m)) ∙ (e ∙ map-append small stem (decimal n)) in
    decimal_injective m n hm hn (sym (small_decimal m hm) ∙ (append_cancel_left (map small stem) (map small (decimal m)) (map small (decimal n)) f ∙ small_decimal n hn))

name_at : (stem : List ℕ) (n i : ℕ) → i < n → get_or (map (numbered stem) (range_with_len 0 n)) i [] ≡ numbered stem i
name_at stem n i h = get_or-map-range_with_len (numbered stem) 0 n i i [] h (omega arith)

place_that_passes : (p : List ℕ → Bool) (xs : List (List ℕ)) → list_any p xs ≡ true → (i : ℕ) × (i < length xs) × (p (get_or xs i []) ≡ true)
place_that_passes p [] h = absurd (cc)
place_that_passes p (x ∷ xs) h = by (p x) refl (place_that_passes p xs)
  where
    by : (b : Bool) → p x ≡ b → (list_any p xs ≡ true → (i : ℕ) × (i < length xs) × (p (get_or xs i []) ≡ true)) → (i : ℕ) × (i < length (x ∷ xs)) × (p (get_or (x ∷ xs) i []) ≡ true)
    by true e rest = (0, omega arith, e)
    by false e rest = let r = rest (sym (ap (λ b. b || list_any p xs) e) ∙ h) in (suc r.0, omega (arith, r.1), r.2)

not_alike : (c : Bool) (stem : List ℕ) (n i j : ℕ) (d : List ℕ) → n ≤ 2 ^ 64 → i < j → j < n → (b : Bool) → alike c (get_or (map (numbered stem) (range_with_len 0 n)) i d) (get_or (map (numbered stem) (range_with_len 0 n)) j d) ≡ b → b ≡ false
not_alike c stem n i j d small l h false e = refl
not_alike c stem n i j d small l h true e =
    let first = get_or-map-range_with_len (numbered stem) 0 n i i d (omega arith) (omega arith) in
    let second = get_or-map-range_with_len (numbered stem) 0 n j j d h (omega arith) in
    let same = unlike_numbers c stem i j (omega arith) (omega arith) (sym (ap (λ a. alike c a (get_or (map (numbered stem) (range_with_len 0 n)) j d)) first ∙ ap (alike c (numbered stem i)) second) ∙ e) in
    absurd (omega (arith, same, l))

-- there are at least as many names as numbers that are used
pub used-le : (set : NameSet) (stem : List ℕ) (n : ℕ) → n ≤ 2 ^ 64 → AreUsed set stem n → n ≤ length set.names
used-le set stem n small used =
    let c = set.up_to_case in
    let xs = map (numbered stem) (range_with_len 0 n) in
    let len : length xs ≡ n = length-map-range_with_len (numbered stem) 0 n in
    let distinct : IsDistinct (alike c) xs = IsDistinct-from_apart (alike c) xs
    (λ i j d l h. not_alike c stem n i j d small l (omega (arith, h, len)) (alike c (get_or xs i d) (get_or xs j d)) refl) in
    let le = length-le_from_is_member (alike_laws c) xs set.names distinct (λ q h.
    let r = place_that_passes (alike c q) xs h in
    let is = name_at stem n r.0 (omega (arith, r.1, len)) in
    list_any_congr (alike_laws c) q (numbered stem r.0) set.names (sym (ap (alike c q) is) ∙ r.2) ∙ used r.0 (omega (arith, r.1, len))) in
    omega (arith, le, len)

-- one more number is used
pub used_more : (set : NameSet) (stem : List ℕ) (n : ℕ) → AreUsed set stem n → has_name set (numbered stem n) ≡ true → AreUsed set stem (n + 1)
used_more set stem n used h = below_more (λ k. has_name set (numbered stem k) ≡ true) n used h
