-- The wires of a module while they are named.
use Rattle.std.specs.Prelude.{◌≡◌, ◌⊎◌, ◌++◌, ◌∷◌, ◌<◌, ◌^◌, ℕ, List, [], map, codes, false, true}
use Rattle.net_bits.specs.Names.{AreUsed, IsFresh, NameSet, has_name, with_name}
use Rattle.net_hier.specs.declared.cells.HCell.{HCell}
use Rattle.net_hier.specs.declared.cells.HInst.{HInst}
use Rattle.net_hier.specs.declared.cells.HPort.{HPort}
use Rattle.net_hier.specs.declared.nodes.Node.{Node}
use Rattle.to_verilog_rules.specs.Rules.{is_name}
use Rattle.to_verilog_wires.specs.Naming.{wire_attrs, with_names}
use Rattle.to_verilog_wires.specs.declared.naming.Wires.{Wires}
use Rattle.vlog_written.specs.Written.{wire_item}

-- no wires, and the names of the ports and instances are used
pub record HasNoWires (cell : HCell) (wires : Wires) : Type 0 where
  pub used : wires.used ≡ with_names (with_names (record { up_to_case = false; names = [] }) (map (λ (port : HPort). port.name) cell.ports)) (map (λ (instance : HInst). instance.name) cell.instances)
  pub next : wires.next ≡ 0
  pub names : wires.names ≡ []
  pub decls : wires.decls ≡ []

-- a name that can be written, or one that is made of a number of 64 bits
abbrev pub IsNamed : NameSet → List ℕ → Type 0
IsNamed used name = (is_name name ≡ true) ⊎ ((number : ℕ) × (number < 2 ^ 64) × IsFresh used (codes "n") name number)

-- the same but for the number that is tried next
pub record IsSameBut (before after : Wires) : Type 0 where
  pub used : after.used ≡ before.used
  pub names : after.names ≡ before.names
  pub decls : after.decls ≡ before.decls

-- one wire more, with a name that was free and the properties of the nets of its class
pub record HasOneMore (cell : HCell) (nodes : List Node) (before after : Wires) : Type 0 where
  pub name : List ℕ
  pub is_new : has_name before.used name ≡ false
  pub is_named : IsNamed before.used name
  pub used : after.used ≡ with_name before.used name
  pub names : after.names ≡ before.names ++ name ∷ []
  pub decls : after.decls ≡ before.decls ++ wire_item (record { attrs = wire_attrs cell nodes; name = name }) ∷ []
  pub next : AreUsed after.used (codes "n") after.next
