-- Steps of loops that move a part from the front of what is left to the end of what is made.
use Rattle.std.proofs.Common.{◌≡◌, Option, ℕ, suc, ◌+◌, ◌-◌, ◌<◌, ◌≤◌, List, [], ◌++◌, drop, flat_map, get_or, length, append_assoc, append-nil, ap, sym, ◌∙◌, arith, add-one, drop-cons}
use Rattle.net_hier.specs.declared.nodes.Node.{Node}
use Rattle.vlog_design.specs.Exprs.{repeated}

-- a part moves
pub moved : {A : Type 0} (made part rest : List A) {left goal : List A} → made ++ left ≡ goal → left ≡ part ++ rest → (made ++ part) ++ rest ≡ goal
moved made part rest {left} {goal} e f = append_assoc made part rest ∙ (ap (λ l. made ++ l) (sym f) ∙ e)

-- what a function gives of the items from i on
pub flat_map_left : {A B : Type 0} (f : A → List B) (xs : List A) (i : ℕ) (d : A) → i < length xs → flat_map f (drop i xs) ≡ f (get_or xs i d) ++ flat_map f (drop (i + 1) xs)
flat_map_left f xs i d h = ap (flat_map f) (drop-cons xs i d h) ∙ ap (λ k. f (get_or xs i d) ++ flat_map f (drop k xs)) (sym (add-one i))

-- nothing is left
pub done : {A : Type 0} (made : List A) {left goal : List A} → made ++ left ≡ goal → left ≡ [] → made ≡ goal
done made {left} {goal} e f = sym (append-nil made) ∙ (ap (λ l. made ++ l) (sym f) ∙ e)

pub repeated_left : (n i : ℕ) (once : List (Option Node)) → i < n → repeated (n - i) once ≡ once ++ repeated (n - (i + 1)) once
unfolding repeated
repeated_left n i once h = let e : n - i ≡ suc (n - (i + 1)) = omega arith in ap (λ k. repeated k once) e

pub repeated_none : (n i : ℕ) (once : List (Option Node)) → n ≤ i → repeated (n - i) once ≡ []
unfolding repeated
repeated_none n i once h = let e : n - i ≡ 0 = omega arith in ap (λ k. repeated k once) e
