-- Steps of loops over ranges.
use Rattle.std.proofs.Common.{◌≡◌, ℕ, ◌+◌, List, [], ◌∷◌, ◌++◌, flat_map, map, refl, sym, ◌∙◌, ap, arith, append-nil, append_assoc}
use Rattle.std.specs.List.{range_with_len}
use Rattle.to_verilog_classes.proofs.GroupLaws.{map_both, range_more}

flat_more : {A : Type 0} (part : ℕ → List A) (xs : List ℕ) (x : ℕ) → flat_map part (xs ++ x ∷ []) ≡ flat_map part xs ++ part x
flat_more part [] x = append-nil (part x)
flat_more part (y ∷ ys) x = ap (λ l. part y ++ l) (flat_more part ys x) ∙ sym (append_assoc (part y) (flat_map part ys) (part x))

-- what the numbers below one more give
pub flat_turn : {A : Type 0} (part : ℕ → List A) (k : ℕ) (now new : List A) → now ≡ flat_map part (range_with_len 0 k) → new ≡ now ++ part k → new ≡ flat_map part (range_with_len 0 (k + 1))
flat_turn part k now new i e =
    let z : 0 + k ≡ k = omega arith in
    e ∙ (ap (λ l. l ++ part k) i ∙ sym (ap (flat_map part) (range_more 0 k ∙ ap (λ n. range_with_len 0 k ++ n ∷ []) z) ∙ flat_more part (range_with_len 0 k) k))

-- the same behind others, each as an item
pub items_turn : {A B : Type 0} (f : A → B) (part : ℕ → List A) (k : ℕ) (start now new : List B) → now ≡ start ++ map f (flat_map part (range_with_len 0 k)) → new ≡ now ++ map f (part k) →
    new ≡ start ++ map f (flat_map part (range_with_len 0 (k + 1)))
items_turn f part k start now new i e =
    let before : List _ = flat_map part (range_with_len 0 k) in
    e ∙ (ap (λ l. l ++ map f (part k)) i ∙ (append_assoc start (map f before) (map f (part k)) ∙ ap (λ l. start ++ l) (sym (map_both f before (part k)) ∙ ap (map f) (flat_turn part k before (before ++ part k) refl refl))))
