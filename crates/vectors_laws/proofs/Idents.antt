-- The identifiers of the cells differ up to case.
use Rattle.std.proofs.Common.{arith, ◌≡◌, ℕ, zero, suc, ◌+◌, ◌<◌, ◌≤◌, ◌^◌, ◌%◌, Bool, true, false, ◌||◌, [], ◌∷◌, ◌++◌, map, refl, sym, ap, ◌∙◌}
use Rattle.std.specs.Fmt.{decimal}
use Rattle.std.specs.List.{range_with_len}
use Rattle.std.proofs.lemmas.Bool.{false≢true}
use Rattle.std.proofs.lemmas.Bool.Decides.{nat_tests}
use Rattle.std.proofs.lemmas.Fmt.{decimal_by_steps, decimal_injective}
use Rattle.std.proofs.lemmas.List.{map-append}
use Rattle.std.proofs.lemmas.Nat.{mod_below}
use Rattle.std.proofs.lemmas.Slice.Eq.{bytes_eq-Decides}
use Rattle.nl_base.specs.Case.{same_up_to_case, small}
use Rattle.edif_meanings.specs.Apart.{AreApart, is_alike_any}
use Rattle.vectors.specs.Cells.{cell_ident}

small_digit : (n : ℕ) → n < 10 → small (48 + n) ≡ 48 + n
small_digit n h = grind (arith, nat_tests)

-- a number in decimal has no capital letters
small_decimal : (n : ℕ) → n < 2 ^ 64 → map small (decimal n) ≡ decimal n
small_decimal n h = decimal_by_steps (λ n ds. map small ds ≡ ds)
    (λ n l. ap (λ d. d ∷ []) (small_digit n l))
    (λ n ds l e. map-append small ds ((48 + n % 10) ∷ []) ∙ ((λ i. e i ++ map small ((48 + n % 10) ∷ [])) ∙ ap (λ d. ds ++ d ∷ []) (small_digit (n % 10) (mod_below n 10 (omega arith)))))
    n h

-- cells of two numbers have identifiers that differ
alike_numbers : (m n : ℕ) → m < 2 ^ 64 → n < 2 ^ 64 → same_up_to_case (cell_ident m) (cell_ident n) ≡ true → m ≡ n
alike_numbers m n hm hn h =
    let e : 99 ∷ map small (decimal m) ≡ 99 ∷ map small (decimal n) = (bytes_eq-Decides (map small (cell_ident m)) (map small (cell_ident n))).0 h in
    let f : map small (decimal m) ≡ map small (decimal n) = cc in
    decimal_injective m n hm hn (sym (small_decimal m hm) ∙ (f ∙ small_decimal n hn))

no_true : (b : Bool) → (b ≡ true → ⊥) → b ≡ false
no_true true h = absurd (h refl)
no_true false h = refl

both_false : (a b : Bool) → a ≡ false → b ≡ false → (a || b) ≡ false
both_false true b h g = absurd (false≢true (sym h))
both_false false b h g = g

-- none of the cells from a number on has the identifier of a cell before
unlike_later : (k a n : ℕ) → k < a → a + n ≤ 2 ^ 64 → is_alike_any (cell_ident k) (map cell_ident (range_with_len a n)) ≡ false
unlike_later k a zero lt le = refl
unlike_later k a (suc n) lt le = both_false (same_up_to_case (cell_ident k) (cell_ident a)) (is_alike_any (cell_ident k) (map cell_ident (range_with_len (a + 1) n)))
    (no_true (same_up_to_case (cell_ident k) (cell_ident a)) (λ t. let e = alike_numbers k a (omega (arith, lt, le)) (omega (arith, le)) t in omega (arith, lt, e)))
    (unlike_later k (a + 1) n (omega (arith, lt)) (omega (arith, le)))

pub idents_apart : (a n : ℕ) → a + n ≤ 2 ^ 64 → AreApart (map cell_ident (range_with_len a n))
unfolding AreApart
idents_apart a zero le = tt
idents_apart a (suc n) le = (unlike_later a (a + 1) n (omega arith) (omega (arith, le)), idents_apart (a + 1) n (omega (arith, le)))
