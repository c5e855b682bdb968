-- What the candidates of a cellRef and its libraryRef say is what they mean, or break.
use Rattle.std.proofs.Common.{◌≡◌, ℕ, List, [], ◌∷◌, ◌++◌, Option, Some, None, refl}
use Rattle.std.specs.Prelude.{option_map}
use Rattle.std.specs.Option.{option_and_then}
use Rattle.nl_base.specs.declared.rule.Rule.TheVariants.{E2, E3}
use Rattle.edif_lookup.specs.Candidates.{the_only}
use Rattle.edif_lookup.specs.Refusals.{broken_reference, if_some, lower, lowest}
use Rattle.edif_lookup.specs.Tables.{meant_by}
use Rattle.edif_values.specs.declared.file.EdifFile.{EdifFile}
use Rattle.edif_values.specs.declared.library.Library.{Library}
use Rattle.edif_design.specs.CellRules.{link_refusals}
use Rattle.edif_design.specs.References.{CellPlace, cell_candidates, library_candidates, link_meant, number_meant}
use Rattle.edif_design.specs.Tables.{link_by_candidates, link_in, linked_as, linked_number, linked_refusal}

module _ (cell spelling : List ℕ) where
  number_last : (xs : List (ℕ × CellPlace)) → linked_number (linked_as (meant_by xs) E3 cell spelling) ≡ number_meant (the_only xs)
  number_last [] = refl
  number_last (one ∷ []) = refl
  number_last (one ∷ (two ∷ rest)) = refl

  number_both : (name : List ℕ) (ys : List (ℕ × Library)) (cells : ℕ → List (ℕ × CellPlace))
      → linked_number (link_in (linked_as (meant_by ys) E2 cell name) (λ number. linked_as (meant_by (cells number)) E3 cell spelling))
      ≡ number_meant (option_and_then (λ number. the_only (cells number)) (option_map (λ library. library.0) (the_only ys)))
  number_both name [] cells = refl
  number_both name (one ∷ []) cells = number_last (cells one.0)
  number_both name (one ∷ (two ∷ rest)) cells = refl

  refusal_last : (xs : List (ℕ × CellPlace)) → linked_refusal (linked_as (meant_by xs) E3 cell spelling) ≡ lowest (broken_reference xs E3 cell (spelling ∷ []) spelling)
  unfolding lower lowest
  refusal_last [] = refl
  refusal_last (one ∷ []) = refl
  refusal_last (one ∷ (two ∷ rest)) = refl

  refusal_both : (name : List ℕ) (ys : List (ℕ × Library)) (cells : ℕ → List (ℕ × CellPlace))
      → linked_refusal (link_in (linked_as (meant_by ys) E2 cell name) (λ number. linked_as (meant_by (cells number)) E3 cell spelling))
      ≡ lowest (broken_reference ys E2 cell (name ∷ []) name ++ if_some (option_map (λ library. library.0) (the_only ys)) (λ number. broken_reference (cells number) E3 cell (spelling ∷ []) spelling))
  unfolding lower lowest
  refusal_both name [] cells = refl
  refusal_both name (one ∷ []) cells = refusal_last (cells one.0)
  refusal_both name (one ∷ (two ∷ rest)) cells = refl

module _ (file : EdifFile) (home : ℕ) (cell spelling : List ℕ) where
  -- the number is that of the cell that is meant
  pub link_number : (library : Option (List ℕ)) → linked_number (link_by_candidates file home cell library spelling) ≡ number_meant (link_meant file home library spelling)
  link_number None = number_last cell spelling (cell_candidates file home spelling)
  link_number (Some name) = number_both cell spelling name (library_candidates file name) (λ number. cell_candidates file number spelling)

  -- the refusal is the first that they break
  pub link_refusal : (library : Option (List ℕ)) → linked_refusal (link_by_candidates file home cell library spelling) ≡ lowest (link_refusals file home cell library spelling)
  link_refusal None = refusal_last cell spelling (cell_candidates file home spelling)
  link_refusal (Some name) = refusal_both cell spelling name (library_candidates file name) (λ number. cell_candidates file number spelling)
