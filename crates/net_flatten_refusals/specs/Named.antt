-- What the names of a flattened design without refusals are.
use Rattle.std.specs.Prelude.{ℕ, ◌≤◌, List, length}
use Rattle.net_hier.specs.Paths.{Path}
use Rattle.net_hier.specs.Valid.{Each, HaveOwnNames}
use Rattle.net_hier.specs.declared.cells.HCell.{HCell}
use Rattle.net_hier.specs.declared.cells.HInst.{HInst}
use Rattle.net_hier.specs.declared.cells.HPort.{HPort}
use Rattle.net_hier.specs.declared.cells.HProp.{HProp}
use Rattle.net_flatten_rules.specs.Joined.{name_at}

-- a name of at most 1,024 bytes
abbrev pub IsShort : List ℕ → Type 0
IsShort name = length name ≤ 1024

-- properties with short names
abbrev pub HaveShortNames : List HProp → Type 0
HaveShortNames props = Each (λ prop. IsShort prop.name) props

-- a port with a short name, as its properties have them
pub record IsShortPort (port : HPort) : Type 0 where
  pub name : IsShort port.name
  pub props : HaveShortNames port.props

-- an instance with a short name, as its properties have them
pub record IsShortInstance (instance : HInst) : Type 0 where
  pub name : IsShort instance.name
  pub props : HaveShortNames instance.props

-- a cell whose names other than those of its nets are short
pub record HasShortNames (cell : HCell) : Type 0 where
  pub name : IsShort cell.name
  pub props : HaveShortNames cell.props
  pub ports : Each IsShortPort cell.ports
  pub instances : Each IsShortInstance cell.instances

-- no two of the leaves have one joined name
abbrev pub HaveOwnJoinedNames : List Path → List ℕ → Type 0
HaveOwnJoinedNames paths leaves = HaveOwnNames (name_at paths) leaves
