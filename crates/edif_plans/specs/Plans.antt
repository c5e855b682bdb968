-- What stands where in a file that is made of a design.
use Rattle.std.specs.Prelude.{◌≡◌, ℕ, ◌<◌, Bool, true, false, List, [], length, get_or}
use Rattle.net_hier.specs.Design.{IsCell}
use Rattle.net_hier.specs.declared.cells.HCell.{HCell}
use Rattle.edif_spaces.specs.Spaces.{AreIdents}
use Rattle.edif_plans.specs.declared.head.Head.{Head}
use Rattle.edif_plans.specs.declared.plan.Plan.{Plan}

-- the head has this identifier, and identifiers for ports of these names
pub record IsHeadOf (ident : List ℕ) (names : List (List ℕ)) (head : Head) : Type 0 where
  pub cell : head.cell ≡ ident
  pub ports : AreIdents names head.ports

-- no identifiers
abbrev pub no_head : Head
no_head = record { cell = []; ports = [] }

-- the head of the cell of this number in the file
abbrev pub head_at : Plan → ℕ → Head
head_at plan number = get_or plan.heads number no_head

-- the number in the file of a cell of the design
abbrev pub number_of : Plan → ℕ → ℕ
number_of plan cell = get_or plan.numbers cell 0

-- the head of a cell of the design
abbrev pub head_of : Plan → ℕ → Head
head_of plan cell = head_at plan (number_of plan cell)

-- the number in the file of the cell of a constant
abbrev pub constant_number : Plan → Bool → ℕ
constant_number plan false = plan.zero
constant_number plan true = plan.one

-- the head of the cell of a constant
abbrev pub constant_head : Plan → Bool → Head
constant_head plan value = head_at plan (constant_number plan value)

-- there is a head for the cell of this number in the design
pub record HasHead (plan : Plan) (cell : ℕ) : Type 0 where
  pub is_numbered : cell < length plan.numbers
  pub is_there : number_of plan cell < length plan.heads

-- the head has one identifier for each port of the cell
abbrev pub HasPorts : Head → HCell → Type 0
HasPorts head cell = length head.ports ≡ length cell.ports

-- each cell of the design has a head, with an identifier for each of its ports
pub record FitsCells (cells : List HCell) (plan : Plan) : Type 0 where
  pub heads : (number : ℕ) → number < length cells → HasHead plan number
  pub ports : (number : ℕ) (cell : HCell) → IsCell cells number cell → HasPorts (head_of plan number) cell

-- the constant has a cell in the file, which has a port
pub record HasConstant (plan : Plan) (value : Bool) : Type 0 where
  pub is_there : constant_number plan value < length plan.heads
  pub has_port : 0 < length (constant_head plan value).ports
