-- The subcircuit of a cell: which calls it has, and which nodes these have.
use Rattle.std.specs.Prelude.{◌≡◌, ℕ, ◌+◌, ◌++◌, List, [], ◌∷◌, length, slice_get, Some}
use Rattle.net_hier.specs.Design.{Design, IsCell}
use Rattle.net_hier.specs.declared.cells.HCell.{HCell}
use Rattle.net_hier.specs.declared.cells.HInst.{HInst}
use Rattle.spice_text.specs.declared.file.Call.{Call}
use Rattle.spice_text.specs.declared.file.Subckt.{Subckt}
use Rattle.to_spice_nodes.specs.Naming.{Given}
use Rattle.to_spice_nodes.specs.Nodes.{AreNodes, paired, pins_of}
use Rattle.to_spice_rules.specs.PortWords.{port_words}

-- The call is that of the instance of this number, whose cell is one of the cells: it has the names of both, and a node for each pin of the instance, in the
-- order of the port bits; `given` are the pins that have nodes before, and `after` those that have nodes then.
pub record IsCallOf (cells : List HCell) (cell : HCell) (given : Given) (number : ℕ) (instance : HInst) (call : Call) (after : Given) : Type 0 where
  pub same_name : call.name ≡ instance.name
  pub below : HCell
  pub is_below : IsCell cells instance.cell below
  pub of_below : call.cell ≡ below.name
  pub nodes : AreNodes cell given (pins_of number below) call.nodes
  pub more : after ≡ given ++ paired (pins_of number below) call.nodes

-- the calls of instances, numbered from a number on
pub data AreCallsOf (cells : List HCell) (cell : HCell) : Given → ℕ → List HInst → List Call → Given → Type 0 where
  no_calls : {given : Given} {number : ℕ} → AreCallsOf cells cell given number [] [] given
  next_call : {given middle after : Given} {number : ℕ} {instance : HInst} {call : Call} {instances : List HInst} {calls : List Call} →
      IsCallOf cells cell given number instance call middle → AreCallsOf cells cell middle (number + 1) instances calls after → AreCallsOf cells cell given number (instance ∷ instances) (call ∷ calls) after

-- these are the calls of a cell
abbrev pub HasCallsOf : List HCell → HCell → List Call → Type 0
HasCallsOf cells cell calls = (given : Given) × AreCallsOf cells cell [] 0 cell.instances calls given

-- the subcircuit has the name of a cell, the words of its port bits and the calls of its instances
pub record IsSubcktOf (cells : List HCell) (cell : HCell) (subckt : Subckt) : Type 0 where
  pub same_name : subckt.name ≡ cell.name
  pub same_ports : subckt.ports ≡ port_words cell
  pub given : Given
  pub calls : AreCallsOf cells cell [] 0 cell.instances subckt.calls given

-- the subcircuit is that of the cell of this number
pub record IsSubcktAt (design : Design) (number : ℕ) (subckt : Subckt) : Type 0 where
  pub cell : HCell
  pub is_cell : IsCell design.cells number cell
  pub is_of : IsSubcktOf design.cells cell subckt

-- the subcircuits of the cells of these numbers, in order
pub record AreSubcktsOf (design : Design) (numbers : List ℕ) (subckts : List Subckt) : Type 0 where
  pub as_many : length subckts ≡ length numbers
  pub each : (place number : ℕ) (subckt : Subckt) → slice_get numbers place ≡ Some number → slice_get subckts place ≡ Some subckt → IsSubcktAt design number subckt
