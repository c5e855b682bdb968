-- The numbers of which something holds are a list, up to double negation.
use Rattle.std.proofs.Common.{◌≡◌, ℕ, zero, suc, ◌<◌, ◌⊎◌, inl, inr, List, [], ◌∷◌, ◌++◌, subst, slice_get, Some, arith}
use Rattle.std.specs.Prelude.{Contains, ◌↔◌}
use Rattle.std.proofs.lemmas.Bool.{cases_lt}
use Rattle.std.proofs.lemmas.List.Elements.{Contains-append_cases, Contains-append_left, Contains-append_right}
use Rattle.std.proofs.lemmas.Option.{slice_get_within}
use Rattle.flat_classes.proofs.KindLaws.{first_or_rest, in_first, nothing_in}
use Rattle.flat_numbers.proofs.Linking.{contains_there}
use Rattle.net_graph.proofs.OrderLaws.{front_or_last}

-- it cannot be that a fact neither holds nor does not
pub either_way : (P : Type 0) → ¬ ¬ (P ⊎ ¬ P)
either_way P never = never (inr (λ p. never (inl p)))

-- the numbers below a bound of which this holds, in order
pub record AreChosen (P : ℕ → Type 0) (bound : ℕ) (numbers : List ℕ) : Type 0 where
  pub are : (number : ℕ) → Contains numbers number ↔ ((number < bound) × P number)
  pub in_order : (i j a b : ℕ) → i < j → slice_get numbers i ≡ Some a → slice_get numbers j ≡ Some b → a < b

module _ (P : ℕ → Type 0) (n : ℕ) (numbers : List ℕ) (chosen : AreChosen P n numbers) where
  with_last : P n → AreChosen P (suc n) (numbers ++ n ∷ [])
  with_last here = record { are = λ number. (from number, to number); in_order = rises }
    where
      from : (number : ℕ) → Contains (numbers ++ n ∷ []) number → (number < suc n) × P number
      from number c = elim (Contains-append_cases numbers (n ∷ []) number c) [
        | inl a ↦ let h = (chosen.are number).0 a in let lt = h.0 in (omega (arith, lt), h.1)
        | inr b ↦ elim (first_or_rest n [] number b) [
          | inl e ↦ (omega (arith, e), subst P e here)
          | inr r ↦ absurd (nothing_in number r)
        ]
      ]

      to : (number : ℕ) → (number < suc n) × P number → Contains (numbers ++ n ∷ []) number
      to number h = elim (cases_lt number n) as (λ _. Contains (numbers ++ n ∷ []) number) [
        | inl less ↦ Contains-append_left numbers (n ∷ []) number ((chosen.are number).1 (less, h.1))
        | inr ge ↦
            let lt = h.0 in
            let same : n ≡ number = omega (arith, lt, ge) in
            Contains-append_right numbers (n ∷ []) number (subst (Contains (n ∷ [])) same (in_first n []))
      ]

      rises : (i j a b : ℕ) → i < j → slice_get (numbers ++ n ∷ []) i ≡ Some a → slice_get (numbers ++ n ∷ []) j ≡ Some b → a < b
      rises i j a b lt of_a of_b = elim (front_or_last numbers n i a of_a) as (λ _. a < b) [
        | inl front ↦ elim (front_or_last numbers n j b of_b) as (λ _. a < b) [
          | inl other ↦ chosen.in_order i j a b lt front other
          | inr last ↦ let less = ((chosen.are a).0 (contains_there numbers i a front)).0 in let e = last.1 in omega (arith, less, e)
        ]
        | inr last ↦ let e = last.0 in elim (front_or_last numbers n j b of_b) as (λ _. a < b) [
          | inl other ↦ let within = slice_get_within numbers j b other in absurd (omega (arith, lt, e, within))
          | inr too ↦ let f = too.0 in absurd (omega (arith, lt, e, f))
        ]
      ]

  without_last : ¬ P n → AreChosen P (suc n) numbers
  without_last not_here = record {
    are = λ number. (
      λ c. let h = (chosen.are number).0 c in let lt = h.0 in (omega (arith, lt), h.1),
      λ h. elim (cases_lt number n) as (λ _. Contains numbers number) [
        | inl less ↦ (chosen.are number).1 (less, h.1)
        | inr ge ↦ let lt = h.0 in let same : number ≡ n = omega (arith, lt, ge) in absurd (not_here (subst P same h.1))
      ],
    );
    in_order = chosen.in_order;
  }

pub chosen_there : (P : ℕ → Type 0) (bound : ℕ) → ¬ ¬ ((numbers : List ℕ) × AreChosen P bound numbers)
chosen_there P zero never = never ([], record { are = λ number. (λ c. absurd (nothing_in number c), λ h. let lt = h.0 in absurd (omega (arith, lt))); in_order = λ i j a b lt of_a of_b. absurd cc })
chosen_there P (suc n) never = chosen_there P n (λ (before : (numbers : List ℕ) × AreChosen P n numbers).
    either_way (P n) (λ way. elim way as (λ _. ⊥) [
      | inl here ↦ never (before.0 ++ n ∷ [], with_last P n before.0 before.1 here)
      | inr not_here ↦ never (before.0, without_last P n before.0 before.1 not_here)
    ]))
