-- The names of the file and of its design (EDIF 2 0 0, edif, design).
use Rattle.std.specs.Prelude.{◌≡◌, ℕ, List, [], ◌∷◌, map}
use Rattle.edif_values.specs.Values.{IsString, IsNameDef}
use Rattle.edif_values.specs.Names.{original}
use Rattle.edif_values.specs.declared.name.NameDef.{NameDef}
use Rattle.edif_values.specs.declared.file.EdifFile.{EdifFile}
use Rattle.edif_design.specs.Parts.{designs}
use Rattle.edif_plans.specs.Planned.{IsAlone}
use Rattle.net_hier.specs.Design.{Design, top_name}

-- the name is written alone in its name space, and can be written where it is a string
pub record IsLoneName (name : List ℕ) (made : NameDef) : Type 0 where
  pub is_name : original made ≡ name
  pub alone : IsAlone name made
  pub sound : IsString name → IsNameDef made

-- the file has one design, and both are named after the top
pub record IsNamedAfterTop (design : Design) (file : EdifFile) : Type 0 where
  pub file_name : original file.name ≡ top_name design.cells design.top
  pub design_names : map (λ one. original one.name) (designs file) ≡ top_name design.cells design.top ∷ []
