-- The cells of a file of plain modules.
use Rattle.std.proofs.Common.{◌≡◌, ℕ, suc, List, [], ◌∷◌, Some, map, slice_get, refl, ap, ◌∙◌}
use Rattle.vlog_design.specs.Design.{module_cell, vlog_design}
use Rattle.vlog_design.specs.Names.{Name}
use Rattle.vlog_values.specs.declared.module.Module.{Module}
use Rattle.vlog_written.specs.Written.{PlainModule, plain_module}
use Rattle.vlog_plain.specs.Parts.{plain_cell}
use Rattle.vlog_plain.specs.Plain.{IsPlainFile, plain_file, plain_modules}
use Rattle.vlog_plain.proofs.Parts.{cell_is}
use Rattle.vlog_plain.proofs.Reached.{all_reached, top_is}
use Rattle.vlog_plain.proofs.Uses.{are_apart}

each_cell : (modules : List Module) (ps : List PlainModule) → ((place : ℕ) (p : PlainModule) → slice_get ps place ≡ Some p → module_cell modules (plain_module p) ≡ plain_cell modules p) →
    map (module_cell modules) (map plain_module ps) ≡ map (plain_cell modules) ps
each_cell modules [] h = refl
each_cell modules (p ∷ ps) h = (λ j. h 0 p refl j ∷ each_cell modules ps (λ place q e. h (suc place) q e) j)

module _ (ps : List PlainModule) (top : ℕ) (name : Name) (file : IsPlainFile ps top name) where
  -- each module is a cell, in the order of the file
  pub cells_are : (vlog_design (plain_file ps) name).cells ≡ map (plain_cell (plain_modules ps)) ps
  unfolding vlog_design
  cells_are =
      ap (λ (ms : List Module). map (module_cell ms) ms) (all_reached ps top name file)
      ∙ each_cell (plain_modules ps) ps (λ place p e. cell_is (plain_modules ps) p (are_apart ps place p (file.modules place p e)))

  pub top_cell : (vlog_design (plain_file ps) name).top ≡ top
  unfolding vlog_design
  top_cell = top_is ps top name file
