-- Plain modules that are written for the cells of a design: what stands where in them (IEEE 1364-2005, 6.1, 12.1 and 12.3).
use Rattle.std.specs.Prelude.{◌≡◌, ◌<◌, ◌⊎◌, ◌↔◌, ◌++◌, ℕ, List, length, map, slice_get, Option, None, Some, Contains}
use Rattle.nl_base.specs.declared.value.PropValue.{PropValue}
use Rattle.net_hier.specs.Cells.{IsBitOrConstant, width_of}
use Rattle.net_hier.specs.Design.{Design, IsCell}
use Rattle.net_hier.specs.Facts.{HasLastValue, HasNetValue, SameValues, cell_props}
use Rattle.net_hier.specs.SameDesign.{PortSignature, signature_of}
use Rattle.net_hier.specs.declared.cells.HCell.{HCell}
use Rattle.net_hier.specs.declared.cells.HInst.{HInst}
use Rattle.net_hier.specs.declared.cells.HPort.{HPort}
use Rattle.net_hier.specs.declared.nodes.Node.{Node}
use Rattle.net_hier.specs.declared.nodes.Node.TheVariants.{Pin, Net}
use Rattle.net_stars.specs.StandIns.{itself}
use Rattle.net_stars.specs.Stars.{AreHubs, HasHub, Hubs, IsBit}
use Rattle.vlog_design.specs.Design.{attr_props, param_props}
use Rattle.vlog_values.specs.declared.expression.Expr.{Expr}
use Rattle.vlog_values.specs.declared.expression.Expr.TheVariants.{Cat}
use Rattle.vlog_values.specs.declared.module.Module.{Module}
use Rattle.vlog_values.specs.declared.statement.Assignment.{Assignment}
use Rattle.vlog_values.specs.declared.statement.NamedConn.{NamedConn}
use Rattle.vlog_written.specs.Hubs.{IsOuter}
use Rattle.vlog_written.specs.OwnNames.{AreDistinct, instances_named, ports_named, wires_named}
use Rattle.vlog_written.specs.Written.{PlainInstance, PlainModule, PlainPort, PlainWire, plain_module}
use Rattle.vlog_plain.specs.Plain.{IsNodeExpr}

-- the two sides of the assign are the expressions of the two nodes, in either order
abbrev pub AreSides : PlainModule → Assignment → Node → Node → Type 0
AreSides p set x y = (IsNodeExpr p x set.left × IsNodeExpr p y set.right) ⊎ (IsNodeExpr p y set.left × IsNodeExpr p x set.right)

-- an assign between a terminal of the cell and its hub
pub record IsHubAssign (cells : List HCell) (cell : HCell) (hubs : Hubs) (p : PlainModule) (set : Assignment) : Type 0 where
  pub terminal : Node
  pub hub : Node
  pub is_terminal : IsBitOrConstant cells cell terminal
  pub is_hub : hubs terminal ≡ Some hub
  pub sides : AreSides p set terminal hub

-- one of the assigns is between the two nodes
pub record HasAssignOf (p : PlainModule) (x y : Node) : Type 0 where
  pub set : Assignment
  pub is_there : Contains p.assigns set
  pub sides : AreSides p set x y

-- what a port of so many bits of an instance is connected to: nothing, where no bit has a hub; the hub of its one bit; the hubs of its bits, together
pub data IsPinOf (p : PlainModule) (hubs : Hubs) (number port width : ℕ) (value : Option Expr) : Type 0 where
  no_hub : ((bit : ℕ) → bit < width → hubs (Pin number port bit) ≡ None) → value ≡ None → IsPinOf p hubs number port width value
  one_hub : (hub : Node) (expr : Expr) → hubs (Pin number port 0) ≡ Some hub → IsNodeExpr p hub expr → width ≡ 1 → value ≡ Some expr → IsPinOf p hubs number port width value
  each_hub : (exprs : List Expr) → ((bit : ℕ) (expr : Expr) → slice_get exprs bit ≡ Some expr → (hub : Node) × (hubs (Pin number port bit) ≡ Some hub) × IsNodeExpr p hub expr) → width ≡ length exprs → value ≡ Some (Cat exprs) →
      IsPinOf p hubs number port width value

-- The statement of an instance. `of_below`: the module has the name of the instance's cell. `same_props`, `params_once`: the last property of each
-- name is an attribute or a parameter. `each_port`, `pins`: a connection for each port of the cell, in order; where a bit of it is written, each
-- bit has a hub.
pub record IsInstanceFor (cells : List HCell) (hubs : Hubs) (p : PlainModule) (number : ℕ) (instance : HInst) (written : PlainInstance) : Type 0 where
  pub same_name : instance.name ≡ written.name
  pub below : HCell
  pub is_below : IsCell cells instance.cell below
  pub of_below : below.name ≡ written.of
  pub same_props : SameValues instance.props (attr_props written.attrs ++ param_props written.params)
  pub params_once : AreDistinct (map (λ set. set.name) written.params)
  pub each_port : map (λ conn. conn.port) written.conns ≡ map (λ port. port.name) below.ports
  pub pins : (port : ℕ) (the_port : HPort) (conn : NamedConn) → slice_get below.ports port ≡ Some the_port → slice_get written.conns port ≡ Some conn → IsPinOf p hubs number port (width_of the_port.range) conn.value

-- what two designs compare of a port that is written
abbrev pub signature_of_plain : PlainPort → PortSignature
signature_of_plain port = record { name = port.name; range = port.range; dir = port.dir }

-- the wire has the properties that the nets of the cell give the node
pub record HasWire (cell : HCell) (p : PlainModule) (x : Node) (number : ℕ) : Type 0 where
  pub wire : PlainWire
  pub is_there : slice_get p.wires number ≡ Some wire
  pub values : (name : List ℕ) (value : PropValue) → HasNetValue cell x name value ↔ HasLastValue (attr_props wire.attrs) name value

-- A plain module that is written for a cell of the design. `distinct`: ports and instances of a cell have names of their own, no port has the
-- name of an instance (a rule of Verilog as a target), and wires have names that were free. `hubs` to `assigned`, `wires` and `bare`: the
-- wiring gives each live class one hub, a port bit of the class, or the wire that has the properties of its nets and that a class with such
-- properties has, and an assign for each other port bit and each constant of the class. `instances`: one statement for each instance, in order.
pub record IsModuleFor (design : Design) (number : ℕ) (cell : HCell) (p : PlainModule) : Type 0 where
  pub same_name : cell.name ≡ p.name
  pub same_ports : map signature_of cell.ports ≡ map signature_of_plain p.ports
  pub same_port_props : (place : ℕ) (port : HPort) (written : PlainPort) → slice_get cell.ports place ≡ Some port → slice_get p.ports place ≡ Some written → SameValues port.props (attr_props written.attrs)
  pub same_props : SameValues (cell_props design number cell) (attr_props p.attrs)
  pub distinct : AreDistinct (ports_named p ++ (instances_named p ++ wires_named p))
  pub hubs : Hubs
  pub are_hubs : AreHubs design.cells cell itself (HasHub hubs)
  pub assigns : (set : Assignment) → Contains p.assigns set → IsHubAssign design.cells cell hubs p set
  pub assigned : (x hub : Node) → IsOuter cell x → hubs x ≡ Some hub → (x ≡ hub) ⊎ HasAssignOf p x hub
  pub as_many : length cell.instances ≡ length p.instances
  pub instances : (place : ℕ) (instance : HInst) (written : PlainInstance) → slice_get cell.instances place ≡ Some instance → slice_get p.instances place ≡ Some written → IsInstanceFor design.cells hubs p place instance written
  pub wires : (x : Node) (number : ℕ) → IsBit design.cells cell x → hubs x ≡ Some (Net number) → HasWire cell p x number
  pub bare : (x : Node) → IsBit design.cells cell x → (name : List ℕ) (value : PropValue) → HasNetValue cell x name value → (number : ℕ) × (hubs x ≡ Some (Net number))

-- the module is a plain one that is written for the cell of this number
pub record IsWritten (design : Design) (number : ℕ) (m : Module) : Type 0 where
  pub cell : HCell
  pub is_cell : IsCell design.cells number cell
  pub p : PlainModule
  pub is_plain : m ≡ plain_module p
  pub is_for : IsModuleFor design number cell p

-- modules for the cells of a design, one for each number in its order
pub record AreWritten (design : Design) (modules : List Module) : Type 0 where
  pub as_many : length modules ≡ length design.order
  pub each : (place number : ℕ) (m : Module) → slice_get design.order place ≡ Some number → slice_get modules place ≡ Some m → IsWritten design number m
