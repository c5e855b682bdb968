-- The names of the cells that stand for the constants.
use Rattle.std.specs.Prelude.{ℕ, ◌≤◌, ◌≢◌, List, [], ◌∷◌, length, Bool, true, false}
use Rattle.net_hier.specs.declared.constants.ConstName.{ConstName}

-- the names of the cells of the two constants, and of their ports
pub record ConstantNames : Type 0 where
  pub zero : ConstName
  pub one : ConstName

-- the name of a constant's cell and port: false is the zero, true is the one
abbrev pub name_of_constant : ConstantNames → Bool → ConstName
name_of_constant names false = names.zero
name_of_constant names true = names.one

-- a name of 1 to 1,024 bytes
abbrev pub IsNameLength : List ℕ → Type 0
IsNameLength text = (1 ≤ length text) × (length text ≤ 1024)

-- the names of the two cells differ, and each name has 1 to 1,024 bytes
pub record AreConstantNames (names : ConstantNames) : Type 0 where
  pub differ : names.zero.cell ≢ names.one.cell
  pub zero_cell : IsNameLength names.zero.cell
  pub zero_port : IsNameLength names.zero.port
  pub one_cell : IsNameLength names.one.cell
  pub one_port : IsNameLength names.one.port

-- `GND.G` and `VCC.P`
abbrev pub usual_names : ConstantNames
usual_names = record { zero = record { cell = 71 ∷ 78 ∷ 68 ∷ []; port = 71 ∷ [] }; one = record { cell = 86 ∷ 67 ∷ 67 ∷ []; port = 80 ∷ [] } }
