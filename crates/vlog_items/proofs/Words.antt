-- What a keyword means is one of the values of some keywords.
use Rattle.std.proofs.Common.{subst, ℕ, Bool, true, false, cond, List, [], ◌∷◌, Option, Some, None, Result, Ok, Err}
use Rattle.std.specs.Prelude.{IfOk, IfSome, option_map}
use Rattle.std.specs.List.{AllByRecursion, find}
use Rattle.nl_base.specs.Case.{same_bytes}
use Rattle.vlog_exprs.specs.Reasons.{meant_by, IsMeant}

module _ {A : Type 0} (Good : A → Type 0) where
  found_is : (w : List ℕ) (words : List (List ℕ × A)) → AllByRecursion (λ row. Good row.1) words → IfSome (option_map (λ row. row.1) (find (λ row. same_bytes w row.0) words)) Good
  found_is w [] all = tt
  found_is w (row ∷ rows) all = by (same_bytes w row.0) (found_is w rows all.1)
    where
      by : (t : Bool) → IfSome (option_map (λ row. row.1) (find (λ row. same_bytes w row.0) rows)) Good
          → IfSome (option_map (λ (row : List ℕ × A). row.1) (cond t (Some row) (find (λ row. same_bytes w row.0) rows))) Good
      by true rest = all.0
      by false rest = rest

  meant_is : (w : List ℕ) (words : List (List ℕ × A)) → AllByRecursion (λ row. Good row.1) words → IfSome (meant_by words w) Good
  unfolding meant_by
  meant_is w words all = found_is w words all

  word_is : (words : List (List ℕ × A)) (a : A) → AllByRecursion (λ row. Good row.1) words → IsMeant words a → Good a
  word_is words a all is = subst (λ o. IfSome o Good) is.1 (meant_is is.0 words all)

  -- where such a keyword is taken, or none
  pub taken_is : {E : Type 0} (words : List (List ℕ × A)) → AllByRecursion (λ row. Good row.1) words → (result : Result (Option A) E) → IfOk result (λ v. IfSome v (λ a. IsMeant words a)) → IfOk result (λ v. IfSome v Good)
  taken_is words all (Ok (Some a)) is = word_is words a all is
  taken_is words all (Ok None) is = tt
  taken_is words all (Err e) is = tt
