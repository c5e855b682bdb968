-- A file without a first refusal has none.
use Rattle.std.proofs.Common.{◌≡◌, Bool, true, false, cond, List, [], ◌∷◌, ◌++◌, Option, None, Some, refl, sym, ◌∙◌}
use Rattle.nl_base.specs.declared.rule.Refusal.{Refusal}
use Rattle.edif_lookup.specs.Refusals.{lower, lowest}
use Rattle.edif_lookup.proofs.FirstLaws.{first-lowest}
use Rattle.edif_lookup.proofs.Orders.{none_left}
use Rattle.edif_values.specs.declared.file.EdifFile.{EdifFile}
use Rattle.edif_design.specs.Design.{edif_cells}
use Rattle.edif_design.specs.FileRules.{first_E, recursion_refusals, refusals}

one_of : (b : Bool) (x y : Refusal) → ◌≡◌ {A = Option Refusal} (cond b (Some x) (Some y)) None → ⊥
one_of true x y h = absurd cc
one_of false x y h = absurd cc

some_lower : (x : Refusal) (o : Option Refusal) → lower (Some x) o ≡ None → ⊥
unfolding lower
some_lower x None h = absurd cc
some_lower x (Some y) h = one_of _ y x h

none_lowest : (xs : List Refusal) → lowest xs ≡ None → xs ≡ []
unfolding lowest
none_lowest [] h = refl
none_lowest (x ∷ xs) h = absurd (some_lower x (lowest xs) h)

pub no_refusals : (file : EdifFile) → first_E file ≡ None → refusals file ≡ []
unfolding first_E
no_refusals file h =
    let all : refusals file ++ recursion_refusals (edif_cells file) ≡ [] = none_lowest (refusals file ++ recursion_refusals (edif_cells file)) (sym (first-lowest (refusals file ++ recursion_refusals (edif_cells file))) ∙ h) in
    none_left (refusals file) (recursion_refusals (edif_cells file)) all
