-- Whether a design keeps the rules of SPICE, and what breaks them first.
use Rattle.std.specs.Prelude.{◌≡◌, List, Option, None, Some}
use Rattle.net_hier.specs.declared.cells.HCell.{HCell}
use Rattle.to_spice_rules.specs.Connections.{HasPortsApart, HoldsOfEach, IsFirstOfConstants, IsFirstOfPorts, IsUntied}
use Rattle.to_spice_rules.specs.Names.{first_by_names}
use Rattle.to_spice_rules.specs.declared.refusal.SpiceRefusal.{SpiceRefusal}

-- no port bit is locally connected to another of its cell, and no constant to a port bit, a pin bit or the other constant
pub record KeepsConnections (cells : List HCell) : Type 0 where
  pub ports : HoldsOfEach HasPortsApart cells
  pub constants : HoldsOfEach (IsUntied cells) cells

-- no rule is broken
pub record KeepsRules (cells : List HCell) : Type 0 where
  pub names : first_by_names cells ≡ None
  pub connections : KeepsConnections cells

-- the first object that breaks the lowest broken rule of connection
pub data IsFirstOfConnections (cells : List HCell) (refusal : SpiceRefusal) : Type 0 where
  of_ports : IsFirstOfPorts cells refusal → IsFirstOfConnections cells refusal
  of_constants : HoldsOfEach HasPortsApart cells → IsFirstOfConstants cells refusal → IsFirstOfConnections cells refusal

-- the first object that breaks the lowest broken rule
pub data IsFirstRefusal (cells : List HCell) (refusal : SpiceRefusal) : Type 0 where
  of_names : first_by_names cells ≡ Some refusal → IsFirstRefusal cells refusal
  of_connections : first_by_names cells ≡ None → IsFirstOfConnections cells refusal → IsFirstRefusal cells refusal

-- what is found of connections
abbrev pub ConnectionsFound : List HCell → Option SpiceRefusal → Type 0
ConnectionsFound cells None = KeepsConnections cells
ConnectionsFound cells (Some refusal) = IsFirstOfConnections cells refusal

-- what is found of all rules
abbrev pub RulesFound : List HCell → Option SpiceRefusal → Type 0
RulesFound cells None = KeepsRules cells
RulesFound cells (Some refusal) = IsFirstRefusal cells refusal
