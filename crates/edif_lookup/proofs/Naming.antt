-- A table of names finds what the definitions mean.
use Rattle.std.proofs.Common.{◌≡◌, ℕ, Bool, true, false, cond, List, [], ◌∷◌, filter, refl, ap, ◌∙◌}
use Rattle.nl_base.specs.Case.{same_bytes, same_up_to_case}
use Rattle.edif_lookup.specs.Candidates.{candidates, first_or_all}
use Rattle.edif_lookup.specs.Tables.{meaning, meant_by, named}

module _ {A : Type 0} (name : A → List ℕ) where
  filter-named : (p : List ℕ → Bool) (definitions : List (ℕ × A)) → filter (λ d. p d.1) (named name definitions) ≡ named name (filter (λ d. p (name d.1)) definitions)
  filter-named p [] = refl
  filter-named p (d ∷ ds) = by (p (name d.1)) (filter-named p ds)
    where
      by : (b : Bool) → filter (λ e. p e.1) (named name ds) ≡ named name (filter (λ e. p (name e.1)) ds) → cond b ((d.0, name d.1) ∷ filter (λ e. p e.1) (named name ds)) (filter (λ e. p e.1) (named name ds)) ≡ named name (cond b (d ∷ filter (λ e. p (name e.1)) ds) (filter (λ e. p (name e.1)) ds))
      by true h = ap (λ l. (d.0, name d.1) ∷ l) h
      by false h = h

  meant_by-named : (definitions : List (ℕ × A)) → meant_by (named name definitions) ≡ meant_by definitions
  meant_by-named [] = refl
  meant_by-named (one ∷ []) = refl
  meant_by-named (one ∷ (two ∷ rest)) = refl

  first_or_all-named : (same alike : List (ℕ × A)) → first_or_all (named name same) (named name alike) ≡ named name (first_or_all same alike)
  first_or_all-named [] alike = refl
  first_or_all-named (one ∷ same) alike = refl

  -- a table of names finds what the definitions mean
  pub meaning-named : (definitions : List (ℕ × A)) (spelling : List ℕ) → meaning (named name definitions) spelling ≡ meant_by (candidates name definitions spelling)
  meaning-named definitions spelling =
      (λ j. meant_by (first_or_all (filter-named (λ n. same_bytes n spelling) definitions j) (filter-named (λ n. same_up_to_case n spelling) definitions j)))
      ∙ (ap meant_by (first_or_all-named (filter (λ d. same_bytes (name d.1) spelling) definitions) (filter (λ d. same_up_to_case (name d.1) spelling) definitions)) ∙ meant_by-named (candidates name definitions spelling))
