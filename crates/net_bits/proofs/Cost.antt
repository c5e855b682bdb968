-- what a flood spends
use Rattle.std.proofs.Common.{◌≡◌, ℕ, zero, suc, ◌+◌, ◌<◌, List, [], ◌∷◌, ◌++◌, Option, Some, None, length, get_or, set, replicate, refl, arith, ap, sum_by}
use Rattle.std.proofs.lemmas.List.Sums.{sum_by-cons, sum_by_push}
use Rattle.net_bits.specs.Flood.{number, unspent}

-- how many neighbours a number has
abbrev pub degree_of : List (List ℕ) → ℕ → ℕ
degree_of lists node = length (get_or lists node [])

-- how many neighbours the numbers have that wait
abbrev pub owed : List (List ℕ) → List ℕ → ℕ
owed lists work = sum_by (degree_of lists) work

-- how many have no class yet
abbrev pub unnumbered : List (Option ℕ) → ℕ
unnumbered [] = 0
unnumbered (None ∷ numbers) = 1 + unnumbered numbers
unnumbered (Some c ∷ numbers) = unnumbered numbers

pub unnumbered-set : (numbers : List (Option ℕ)) (w k : ℕ) → w < length numbers → number numbers w ≡ None → unnumbered (set numbers w (Some k)) + 1 ≡ unnumbered numbers
unnumbered-set [] w k h n = absurd (omega arith)
unnumbered-set (None ∷ numbers) zero k h n = omega arith
unnumbered-set (Some c ∷ numbers) zero k h n = cc
unnumbered-set (None ∷ numbers) (suc w) k h n = omega (arith, unnumbered-set numbers w k (omega arith) n)
unnumbered-set (Some c ∷ numbers) (suc w) k h n = unnumbered-set numbers w k (omega arith) n

pub unspent-set : (numbers : List (Option ℕ)) (lists : List (List ℕ)) (w k : ℕ) → w < length numbers → length numbers ≡ length lists → number numbers w ≡ None
    → unspent (set numbers w (Some k)) lists + degree_of lists w ≡ unspent numbers lists
unspent-set [] lists w k h e n = absurd (omega arith)
unspent-set (x ∷ numbers) [] w k h e n = absurd (omega arith)
unspent-set (None ∷ numbers) (l ∷ lists) zero k h e n = omega arith
unspent-set (Some c ∷ numbers) (l ∷ lists) zero k h e n = cc
unspent-set (None ∷ numbers) (l ∷ lists) (suc w) k h e n = omega (arith, unspent-set numbers lists w k (omega arith) (omega arith) n)
unspent-set (Some c ∷ numbers) (l ∷ lists) (suc w) k h e n = unspent-set numbers lists w k (omega arith) (omega arith) n

pub unspent-none : (lists : List (List ℕ)) → unspent (replicate (length lists) None) lists ≡ sum_by length lists
unspent-none [] = refl
unspent-none (l ∷ lists) = omega (arith, unspent-none lists, sum_by-cons (length {A = ℕ}) l lists)

-- what is owed falls by the neighbours of the number in hand
pub owed-popped : (lists : List (List ℕ)) (old work : List ℕ) (v : ℕ) → old ≡ work ++ v ∷ [] → owed lists old ≡ owed lists work + degree_of lists v
owed-popped lists old work v e =
    let a = ap (owed lists) e in
    let b = sum_by_push (degree_of lists) work v in
    omega (arith, a, b)
