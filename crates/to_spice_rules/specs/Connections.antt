-- The rules of connection of a design that is to be written in SPICE.
use Rattle.std.specs.Prelude.{◌≡◌, ℕ, ◌<◌, List, [], ◌∷◌, Bool}
use Rattle.std.specs.declared.cmp.Ordering.TheVariants.{Less}
use Rattle.net_hier.specs.Cells.{IsLocallyConnected}
use Rattle.net_hier.specs.Design.{IsCell}
use Rattle.net_hier.specs.Nodes.{node_cmp}
use Rattle.net_hier.specs.SameCells.{NeedsConstant}
use Rattle.net_hier.specs.declared.cells.HCell.{HCell}
use Rattle.net_hier.specs.declared.nodes.Node.{Node}
use Rattle.to_spice_rules.specs.Names.{refused}
use Rattle.to_spice_rules.specs.PortWords.{IsOwnBit, word_of}
use Rattle.to_spice_rules.specs.declared.refusal.SpiceRefusal.{SpiceRefusal}
use Rattle.to_spice_rules.specs.declared.refusal.SpiceRule.TheVariants.{S5, S6}

-- two port bits of a cell that are locally connected, the earlier one first
pub record AreJoined (cell : HCell) (first later : Node) : Type 0 where
  pub is_first : IsOwnBit cell first
  pub is_later : IsOwnBit cell later
  pub in_order : node_cmp first later ≡ Less
  pub connected : IsLocallyConnected cell first later

-- the first port bit that is locally connected to an earlier one, and the first such earlier one
pub record AreFirstJoined (cell : HCell) (first later : Node) : Type 0 where
  pub joined : AreJoined cell first later
  pub no_earlier : (x y : Node) → AreJoined cell x y → ¬ (node_cmp y later ≡ Less)
  pub no_other : (x : Node) → AreJoined cell x later → ¬ (node_cmp x first ≡ Less)

-- no two port bits of the cell are locally connected
abbrev pub HasPortsApart : HCell → Type 0
HasPortsApart cell = (first later : Node) → ¬ AreJoined cell first later

-- the cell connects no constant to a port bit, a pin bit or the other constant
abbrev pub IsUntied : List HCell → HCell → Type 0
IsUntied cells cell = (value : Bool) → ¬ NeedsConstant cells cell value

-- it holds of each cell with a number below this one
abbrev pub HoldsBefore : (HCell → Type 0) → List HCell → ℕ → Type 0
HoldsBefore Holds cells number = (earlier : ℕ) (cell : HCell) → earlier < number → IsCell cells earlier cell → Holds cell

-- it holds of each cell
abbrev pub HoldsOfEach : (HCell → Type 0) → List HCell → Type 0
HoldsOfEach Holds cells = (number : ℕ) (cell : HCell) → IsCell cells number cell → Holds cell

-- the refusal names the first port bit of the cell that is connected to an earlier one
pub record IsPortRefusal (cell : HCell) (refusal : SpiceRefusal) : Type 0 where
  pub first : Node
  pub later : Node
  pub are_first : AreFirstJoined cell first later
  pub is_refusal : refusal ≡ refused S5 cell.name (word_of cell first ∷ word_of cell later ∷ [])

-- the refusal is that of the first cell that connects two port bits
pub record IsFirstOfPorts (cells : List HCell) (refusal : SpiceRefusal) : Type 0 where
  pub number : ℕ
  pub cell : HCell
  pub is_cell : IsCell cells number cell
  pub before : HoldsBefore HasPortsApart cells number
  pub here : IsPortRefusal cell refusal

-- the refusal is that of the first cell that connects a constant
pub record IsFirstOfConstants (cells : List HCell) (refusal : SpiceRefusal) : Type 0 where
  pub number : ℕ
  pub cell : HCell
  pub is_cell : IsCell cells number cell
  pub before : HoldsBefore (IsUntied cells) cells number
  pub value : Bool
  pub needs : NeedsConstant cells cell value
  pub is_refusal : refusal ≡ refused S6 cell.name []
