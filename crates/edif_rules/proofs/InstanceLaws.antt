-- What an instance breaks.
use Rattle.std.proofs.Common.{◌≡◌, ℕ, ◌+◌, Bool, List, [], ◌∷◌, ◌++◌, Option, sym, ap, ◌∙◌}
use Rattle.std.specs.Prelude.{codes, slice_get}
use Rattle.std.specs.Option.{option_and_then}
use Rattle.nl_base.specs.declared.rule.Refusal.{Refusal}
use Rattle.nl_base.specs.declared.rule.Rule.TheVariants.{E5, E12}
use Rattle.edif_values.specs.Names.{original}
use Rattle.edif_values.specs.declared.instance.Instance.{Instance}
use Rattle.edif_lookup.specs.Refusals.{broken, lower, lowest}
use Rattle.edif_lookup.proofs.Orders.{lowest-append}
use Rattle.edif_values.specs.declared.file.EdifFile.{EdifFile}
use Rattle.edif_design.specs.CellRules.{inner_cell, link_refusals, view_refusals}
use Rattle.edif_design.specs.References.{file_cells, link_meant, number_meant}
use Rattle.edif_rules.specs.Walks.{instance_refusals_by}
use Rattle.edif_rules.proofs.ScopeLaws.{meant_cell}

-- what an instance breaks, by what was found of its parts
pub instance_found : (file : EdifFile) (home : ℕ) (cell : List ℕ) (instance : Instance) (ident_taken name_taken : Bool) (ident named : List ℕ) (number : Option ℕ) (second link view last result : Option Refusal)
    → ident ≡ instance.name.ident → named ≡ original instance.name → second ≡ lowest (broken ident_taken E5 cell (codes "instance" ∷ (ident ∷ [])))
    → number ≡ number_meant (link_meant file home instance.library instance.cell) → link ≡ lowest (link_refusals file home cell instance.library instance.cell)
    → view ≡ lowest (view_refusals cell instance.view (option_and_then (slice_get (file_cells file)) number)) → last ≡ lowest (broken name_taken E12 cell (codes "instance" ∷ (named ∷ [])))
    → result ≡ lower (lower (lower second link) view) last → result ≡ lowest (instance_refusals_by file home cell ident_taken name_taken instance)
instance_found file home cell instance ident_taken name_taken ident named number second link view last result is_ident is_named is_second is_number is_link is_view is_last is_result =
    let a : List Refusal = broken ident_taken E5 cell (codes "instance" ∷ (instance.name.ident ∷ [])) in
    let b : List Refusal = link_refusals file home cell instance.library instance.cell in
    let c : List Refusal = view_refusals cell instance.view (inner_cell file home instance) in
    let d : List Refusal = broken name_taken E12 cell (codes "instance" ∷ (original instance.name ∷ [])) in
    let inner : option_and_then (slice_get (file_cells file)) number ≡ inner_cell file home instance = ap (option_and_then (slice_get (file_cells file))) is_number ∙ meant_cell file home instance.library instance.cell in
    let first : second ≡ lowest a = is_second ∙ ap (λ s. lowest (broken ident_taken E5 cell (codes "instance" ∷ (s ∷ [])))) is_ident in
    let third : view ≡ lowest c = is_view ∙ ap (λ o. lowest (view_refusals cell instance.view o)) inner in
    let fourth : last ≡ lowest d = is_last ∙ ap (λ s. lowest (broken name_taken E12 cell (codes "instance" ∷ (s ∷ [])))) is_named in
    is_result
    ∙ ((λ j. lower (lower (lower (first j) (is_link j)) (third j)) (fourth j))
    ∙ (ap (λ o. lower (lower o (lowest c)) (lowest d)) (sym (lowest-append a b))
    ∙ (ap (λ o. lower o (lowest d)) (sym (lowest-append (a ++ b) c)) ∙ sym (lowest-append ((a ++ b) ++ c) d))))
