-- What callers cite: a digest that stands among those before is noted again.
use Rattle.std.proofs.Common.{◌≡◌, ℕ, ◌+◌, ◌≤◌, true, cond, nat_eq, List, ◌∷◌, ◌++◌, refl, sym, ap, subst, ◌∙◌, arith}
use Rattle.std.proofs.lemmas.Bool.{eq-eqb}
use Rattle.std.proofs.lemmas.List.Sums.{sum_by-append, sum_by-cons}
use Rattle.digests.specs.Sets.{AreNoted, DigestSets, is_again, times}

pub times-append : (before rest : List ℕ) (digest : ℕ) → times (before ++ rest) digest ≡ times before digest + times rest digest
times-append before rest digest = sum_by-append (λ x. cond (nat_eq digest x) 1 0) before rest

pub times-cons : (digest first : ℕ) (rest : List ℕ) → times (first ∷ rest) digest ≡ cond (nat_eq digest first) 1 0 + times rest digest
times-cons digest first rest = sum_by-cons (λ x. cond (nat_eq digest x) 1 0) first rest

-- a digest stands at its place
pub times-here : (digest : ℕ) (rest : List ℕ) → 1 ≤ times (digest ∷ rest) digest
times-here digest rest =
    let e = times-cons digest digest rest ∙ ap (λ b. cond b 1 0 + times rest digest) (eq-eqb digest digest refl) in
    subst (λ n. 1 ≤ n) (sym e) (omega arith)

pub noted_twice : (sets : DigestSets) (before rest : List ℕ) (digest : ℕ) → AreNoted sets (before ++ digest ∷ rest) → 1 ≤ times before digest → is_again sets digest ≡ true
noted_twice sets before rest digest are there =
    are.again digest (subst (λ n. 2 ≤ n) (sym (times-append before (digest ∷ rest) digest)) (let here = times-here digest rest in omega (arith, here, there)))
