-- How the calls of a cell are made.
use Rattle.std.specs.Prelude.{ℕ, List}
use Rattle.net_bits.specs.Classes.{ClassTable}
use Rattle.net_hier.specs.declared.cells.HCell.{HCell}
use Rattle.net_hier.specs.declared.cells.HInst.{HInst}
use Rattle.spice_text.specs.declared.file.Call.{Call}
use Rattle.to_spice_nodes.specs.Naming.{Given}
use Rattle.to_spice_nodes.specs.Table.{HasGiven, NodeTable}
use Rattle.to_spice.specs.Calls.{AreCallsOf, IsCallOf}

-- a call was made of what pins were given, and the table has what they are given then
pub record MakesCall (cells : List HCell) (cell : HCell) (classes : ClassTable) (number : ℕ) (instance : HInst) (given : Given) (new : NodeTable) (call : Call) : Type 0 where
  pub after : Given
  pub is_call : IsCallOf cells cell given number instance call after
  pub has : HasGiven cell classes after new

abbrev pub GivesCall : List HCell → HCell → ClassTable → ℕ → HInst → NodeTable → NodeTable → Call → Type 0
GivesCall cells cell classes number instance old new call = (given : Given) → HasGiven cell classes given old → MakesCall cells cell classes number instance given new call

-- the same of the first calls
pub record MakesCalls (cells : List HCell) (cell : HCell) (classes : ClassTable) (instances : List HInst) (given : Given) (new : NodeTable) (calls : List Call) : Type 0 where
  pub after : Given
  pub are_calls : AreCallsOf cells cell given 0 instances calls after
  pub has : HasGiven cell classes after new

abbrev pub GivesCalls : List HCell → HCell → ClassTable → List HInst → NodeTable → NodeTable → List Call → Type 0
GivesCalls cells cell classes instances old new calls = (given : Given) → HasGiven cell classes given old → MakesCalls cells cell classes instances given new calls
