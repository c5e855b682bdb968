-- Files of plain modules that fit together: their names, expressions, connections and instances (IEEE 1364-2005, 4, 5, 6 and 12).
use Rattle.std.specs.Prelude.{◌≡◌, ◌<◌, ◌≤◌, ◌++◌, ℕ, Bool, List, length, map, slice_get, Option, None, Some, Contains}
use Rattle.net_graph.specs.Walks.{IsLinked}
use Rattle.net_hier.specs.Cells.{constant_node, width_of}
use Rattle.net_hier.specs.declared.nodes.Node.{Node}
use Rattle.net_hier.specs.declared.nodes.Node.TheVariants.{Port, Net}
use Rattle.vlog_design.specs.Names.{Name}
use Rattle.vlog_values.specs.declared.expression.Expr.{Expr}
use Rattle.vlog_values.specs.declared.expression.Expr.TheVariants.{Lit, Cat}
use Rattle.vlog_values.specs.declared.module.Module.{Module}
use Rattle.vlog_values.specs.declared.module.VlogFile.{VlogFile}
use Rattle.vlog_values.specs.declared.statement.Assignment.{Assignment}
use Rattle.vlog_values.specs.declared.statement.NamedConn.{NamedConn}
use Rattle.vlog_written.specs.OwnNames.{AreDistinct, instances_named, ports_named, wires_named}
use Rattle.vlog_written.specs.Written.{PlainInstance, PlainModule, PlainPort, PlainWire, bit_literal, plain_module, port_expr, wire_expr}

-- the modules of a file
abbrev pub plain_modules : List PlainModule → List Module
plain_modules = map plain_module

-- a file of plain modules
abbrev pub plain_file : List PlainModule → VlogFile
plain_file ps = record { modules = plain_modules ps }

-- the expression of a node: a bit of a port, a wire, or a constant
pub data IsNodeExpr (p : PlainModule) (node : Node) (expr : Expr) : Type 0 where
  of_port : (place : ℕ) (port : PlainPort) (bit : ℕ) → slice_get p.ports place ≡ Some port → bit < width_of port.range → node ≡ Port place bit → expr ≡ port_expr port bit → IsNodeExpr p node expr
  of_wire : (place : ℕ) (wire : PlainWire) → slice_get p.wires place ≡ Some wire → node ≡ Net place → expr ≡ wire_expr wire → IsNodeExpr p node expr
  of_constant : (one : Bool) → node ≡ constant_node one → expr ≡ Lit (bit_literal one) → IsNodeExpr p node expr

-- an expression of one bit
abbrev pub IsBitExpr : PlainModule → Expr → Type 0
IsBitExpr p expr = (node : Node) × IsNodeExpr p node expr

-- what a port of so many bits is connected to: nothing, an expression of one bit, or a concatenation of as many of them
pub data IsPinValue (p : PlainModule) (width : ℕ) (value : Option Expr) : Type 0 where
  open_pin : value ≡ None → IsPinValue p width value
  one_bit : (expr : Expr) → IsBitExpr p expr → width ≡ 1 → value ≡ Some expr → IsPinValue p width value
  each_bit : (exprs : List Expr) → ((expr : Expr) → Contains exprs expr → IsBitExpr p expr) → width ≡ length exprs → value ≡ Some (Cat exprs) → IsPinValue p width value

-- a connection of a port of the module below
pub record IsPlainConn (p below : PlainModule) (conn : NamedConn) : Type 0 where
  pub place : ℕ
  pub port : PlainPort
  pub is_port : slice_get below.ports place ≡ Some port
  pub is_named : conn.port ≡ port.name
  pub is_value : IsPinValue p (width_of port.range) conn.value

-- an instance of a module that stands earlier in the file. `falls` and `is_below`: the order of a design has each cell behind those of its
-- instances, and its place is that of the module. `conns` and `ports_once`: the ports of the cell below, in order, each with the hubs of its
-- bits. `params_once`: the last property of each name.
pub record IsPlainInstance (ps : List PlainModule) (place : ℕ) (p : PlainModule) (instance : PlainInstance) : Type 0 where
  pub below_place : ℕ
  pub falls : below_place < place
  pub below : PlainModule
  pub is_below : slice_get ps below_place ≡ Some below
  pub is_named : below.name ≡ instance.of
  pub conns : (conn : NamedConn) → Contains instance.conns conn → IsPlainConn p below conn
  pub ports_once : AreDistinct (map (λ conn. conn.port) instance.conns)
  pub params_once : AreDistinct (map (λ set. set.name) instance.params)

-- a module at this place of the file. `distinct`: ports and instances of a cell have own names, no port has the name of an instance (a rule of
-- Verilog as a target), and wires have names that were free. `narrow`: the widths of a design. `assigns`: the hub of each class is a port bit or
-- a wire, and beside it stands a port bit of the class or a constant.
pub record IsPlainModule (ps : List PlainModule) (place : ℕ) (p : PlainModule) : Type 0 where
  pub distinct : AreDistinct (ports_named p ++ (instances_named p ++ wires_named p))
  pub narrow : (port : PlainPort) → Contains p.ports port → width_of port.range ≤ 65536
  pub assigns : (set : Assignment) → Contains p.assigns set → IsBitExpr p set.left × IsBitExpr p set.right
  pub instances : (instance : PlainInstance) → Contains p.instances instance → IsPlainInstance ps place p instance

-- the module at the inner place is that of an instance of the module at the outer one
pub record IsOver (ps : List PlainModule) (outer inner : ℕ) : Type 0 where
  pub p : PlainModule
  pub is_outer : slice_get ps outer ≡ Some p
  pub instance : PlainInstance
  pub is_instance : Contains p.instances instance
  pub below : PlainModule
  pub is_inner : slice_get ps inner ≡ Some below
  pub is_named : below.name ≡ instance.of

-- a file whose top is the module at this place, of this name. `distinct`: cells have own names (a rule of Verilog as a target). `reached`: the
-- top of a design reaches each of its cells.
pub record IsPlainFile (ps : List PlainModule) (top : ℕ) (name : Name) : Type 0 where
  pub distinct : AreDistinct (map (λ p. p.name) ps)
  pub modules : (place : ℕ) (p : PlainModule) → slice_get ps place ≡ Some p → IsPlainModule ps place p
  pub the_top : PlainModule
  pub is_top : slice_get ps top ≡ Some the_top
  pub top_named : the_top.name ≡ name
  pub reached : (place : ℕ) → place < length ps → IsLinked (IsOver ps) top place
