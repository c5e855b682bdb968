-- The expressions of the nodes of a module, and the two sides of its assigns.
use Rattle.std.proofs.Common.{◌≡◌, ℕ, suc, ◌<◌, ◌⊎◌, inl, inr, Bool, true, false, ◌==◌, ◌&&◌, if◌then◌else◌, nat_lt, List, [], ◌∷◌, Option, Some, None, map, length, slice_get, refl, ◌∙◌, ap, subst, arith, option_map}
use Rattle.std.specs.Option.{option_and_then}
use Rattle.std.proofs.lemmas.Bool.Decides.{nat_tests}
use Rattle.net_bits.specs.Names.{NameSet}
use Rattle.net_hier.specs.Cells.{IsBitOrConstant, IsPortBit, width_of}
use Rattle.net_hier.specs.Design.{Design}
use Rattle.net_hier.specs.declared.cells.HCell.{HCell}
use Rattle.net_hier.specs.declared.nodes.Node.{Node}
use Rattle.net_hier.specs.declared.nodes.Node.TheVariants.{Port, Pin, Net, Zero, One}
use Rattle.net_stars.specs.StandIns.{itself}
use Rattle.net_stars.specs.Stars.{HasHub, IsNet, IsOwnHub}
use Rattle.vlog_partners.specs.Partners.{AreSides}
use Rattle.vlog_plain.specs.Plain.{IsNodeExpr, of_constant, of_port, of_wire}
use Rattle.vlog_values.specs.declared.expression.Expr.{Expr}
use Rattle.vlog_values.specs.declared.expression.Expr.TheVariants.{Lit, Ref}
use Rattle.vlog_values.specs.declared.expression.Select.TheVariants.{All}
use Rattle.vlog_values.specs.declared.module.ItemV.{ItemV}
use Rattle.vlog_values.specs.declared.statement.Assignment.{Assignment}
use Rattle.vlog_written.specs.Hubs.{IsOuter}
use Rattle.vlog_written.specs.Written.{PlainModule, PlainWire, bit_literal, select_of}
use Rattle.to_verilog_wires.specs.Hubs.{hub_node}
use Rattle.to_verilog_wires.specs.IsWiring.{IsWiring}
use Rattle.to_verilog_wires.specs.Wiring.{WiringTable, hub_node_of, hub_of}
use Rattle.to_verilog_wires.specs.declared.hubs.Hub.{Hub}
use Rattle.to_verilog_wires.specs.declared.hubs.Hub.TheVariants as hubs
use Rattle.to_verilog_items.specs.Assigns.{assigned, constant_assign, feeds, is_port, member_assign, port_assign}
use Rattle.to_verilog_items.specs.Exprs.{bit_of, hub_expr, port_expr}
use Rattle.to_verilog_items.specs.Header.{plain_port}
use Rattle.to_verilog.specs.Modules.{plain_of}
use Rattle.to_verilog.proofs.Listed.{mapped_at, there_below}

passes : (a b : ℕ) → a < b → nat_lt a b ≡ true
passes a b h = grind (arith, nat_tests, h)

-- an expression that stands for a node
pub record HasExpr (p : PlainModule) (node : Node) (found : Option Expr) : Type 0 where
  pub expr : Expr
  pub is_found : found ≡ Some expr
  pub of_node : IsNodeExpr p node expr

-- what the assign of a node to its hub is: none where it is its own hub
pub record IsSelf (x hub : Node) (found : Option Assignment) : Type 0 where
  pub same : x ≡ hub
  pub none : found ≡ None

pub record HasSides (p : PlainModule) (x hub : Node) (found : Option Assignment) : Type 0 where
  pub set : Assignment
  pub is_found : found ≡ Some set
  pub sides : AreSides p set x hub

module _ (design : Design) (params : NameSet) (number : ℕ) (cell : HCell) (wiring : WiringTable) (decls : List ItemV) (w : IsWiring design.cells cell wiring decls) where
  abbrev p : PlainModule
  p = plain_of design params number cell wiring w.wires

  -- a bit of a port
  pub port_found : (port bit : ℕ) → IsPortBit cell port bit → HasExpr p (Port port bit) (port_expr cell.ports port bit)
  port_found port bit is = record {
    expr = Ref (select_of is.the_port.range bit) is.the_port.name;
    is_found = ap (option_and_then (λ q. bit_of q bit)) is.is_there ∙ ap (λ b. if b then Some (Ref (select_of is.the_port.range bit) is.the_port.name) else None) (passes bit (width_of is.the_port.range) is.within);
    of_node = of_port port (plain_port is.the_port) bit (mapped_at plain_port cell.ports port is.the_port is.is_there) is.within refl refl;
  }

  wire_found : (wire : ℕ) (x : PlainWire) → slice_get w.wires wire ≡ Some x → HasExpr p (Net wire) (hub_expr cell.ports wiring.names (hubs.Wire wire))
  wire_found wire x e = record {
    expr = Ref All x.name;
    is_found = ap (option_map (λ name. Ref All name)) (ap (λ l. slice_get l wire) w.names_are ∙ mapped_at (λ (v : PlainWire). v.name) w.wires wire x e);
    of_node = of_wire wire x e refl refl;
  }

  count_names : (wires : List PlainWire) → length (map (λ (v : PlainWire). v.name) wires) ≡ length wires
  count_names [] = refl
  count_names (wire ∷ wires) = ap suc (count_names wires)

  named_wire : (wire : ℕ) → wire < length wiring.names → wire < length w.wires
  named_wire wire h = let e : length wiring.names ≡ length w.wires = ap length w.names_are ∙ count_names w.wires in omega (arith, h, e)

  -- what stands for the hub of a terminal
  pub hub_found : (x : Node) → IsBitOrConstant design.cells cell x → (hub : Hub) → hub_of wiring x ≡ Some hub → HasExpr p (hub_node hub) (hub_expr cell.ports wiring.names hub)
  hub_found x t (hubs.Port port bit) e = by (w.hubs.own x (Port port bit) t (ap (option_map hub_node) e))
    where
      by : IsNet (Port port bit) ⊎ IsOwnHub design.cells cell itself (HasHub (hub_node_of wiring)) (Port port bit) → HasExpr p (Port port bit) (port_expr cell.ports port bit)
      by (inl net) = absurd (let f : Port port bit ≡ Net net.0 = net.1 in cc)
      by (inr own) = port_found port bit (subst (IsBitOrConstant design.cells cell) own.stands own.is_terminal)
  hub_found x t (hubs.Wire wire) e = let there = there_below w.wires wire (named_wire wire (w.classes.wire_there x wire (ap (option_map hub_node) e))) in wire_found wire there.0 there.1

  -- a port bit is assigned to its hub, or this to it
  port_sides : (port bit : ℕ) → IsPortBit cell port bit → (hub : Hub) → hub_of wiring (Port port bit) ≡ Some hub →
      IsSelf (Port port bit) (hub_node hub) (port_assign cell.ports wiring.names hub port bit) ⊎ HasSides p (Port port bit) (hub_node hub) (port_assign cell.ports wiring.names hub port bit)
  port_sides port bit is hub e = by (is_port hub port bit) refl (feeds cell.ports port hub) refl
    where
      of_port_bit : HasExpr p (Port port bit) (port_expr cell.ports port bit)
      of_port_bit = port_found port bit is

      of_hub : HasExpr p (hub_node hub) (hub_expr cell.ports wiring.names hub)
      of_hub = hub_found (Port port bit) is hub e

      self : (a : Hub) → is_port a port bit ≡ true → Port port bit ≡ hub_node a
      self (hubs.Port other place) f = let same : (other == port && place == bit) ≡ true = f in let s : other ≡ port = grind (arith, nat_tests, same) in let t : place ≡ bit = grind (arith, nat_tests, same) in cc
      self (hubs.Wire wire) f = absurd (let g : false ≡ true = f in cc)

      by : (b : Bool) → is_port hub port bit ≡ b → (c : Bool) → feeds cell.ports port hub ≡ c →
          IsSelf (Port port bit) (hub_node hub) (port_assign cell.ports wiring.names hub port bit) ⊎ HasSides p (Port port bit) (hub_node hub) (port_assign cell.ports wiring.names hub port bit)
      by true f c g = inl (record { same = self hub f; none = ap (λ b. if b then None else if feeds cell.ports port hub then assigned (hub_expr cell.ports wiring.names hub) (port_expr cell.ports port bit) else assigned (port_expr cell.ports port bit) (hub_expr cell.ports wiring.names hub)) f })
      by false f true g = inr (record {
        set = record { left = of_hub.expr; right = of_port_bit.expr };
        is_found =
            ap (λ b. if b then None else if feeds cell.ports port hub then assigned (hub_expr cell.ports wiring.names hub) (port_expr cell.ports port bit) else assigned (port_expr cell.ports port bit) (hub_expr cell.ports wiring.names hub)) f
            ∙ (ap (λ b. if b then assigned (hub_expr cell.ports wiring.names hub) (port_expr cell.ports port bit) else assigned (port_expr cell.ports port bit) (hub_expr cell.ports wiring.names hub)) g
            ∙ (ap (λ o. assigned o (port_expr cell.ports port bit)) of_hub.is_found ∙ ap (assigned (Some of_hub.expr)) of_port_bit.is_found));
        sides = inr (of_hub.of_node, of_port_bit.of_node);
      })
      by false f false g = inr (record {
        set = record { left = of_port_bit.expr; right = of_hub.expr };
        is_found =
            ap (λ b. if b then None else if feeds cell.ports port hub then assigned (hub_expr cell.ports wiring.names hub) (port_expr cell.ports port bit) else assigned (port_expr cell.ports port bit) (hub_expr cell.ports wiring.names hub)) f
            ∙ (ap (λ b. if b then assigned (hub_expr cell.ports wiring.names hub) (port_expr cell.ports port bit) else assigned (port_expr cell.ports port bit) (hub_expr cell.ports wiring.names hub)) g
            ∙ (ap (λ o. assigned o (hub_expr cell.ports wiring.names hub)) of_port_bit.is_found ∙ ap (assigned (Some of_port_bit.expr)) of_hub.is_found));
        sides = inl (of_port_bit.of_node, of_hub.of_node);
      })

  -- a constant is assigned to its hub
  constant_sides : (x : Node) (one : Bool) → IsBitOrConstant design.cells cell x → IsNodeExpr p x (Lit (bit_literal one)) → (hub : Hub) → hub_of wiring x ≡ Some hub → HasSides p x (hub_node hub) (constant_assign cell.ports wiring.names hub one)
  constant_sides x one t is hub e =
      let of_hub = hub_found x t hub e in
      record {
        set = record { left = of_hub.expr; right = Lit (bit_literal one) };
        is_found = ap (λ o. assigned o (Some (Lit (bit_literal one)))) of_hub.is_found;
        sides = inr (of_hub.of_node, is);
      }

  -- the sides of the assign of a port bit or a constant
  pub outer_sides : (x : Node) → IsOuter cell x → (hub : Hub) → hub_of wiring x ≡ Some hub → IsSelf x (hub_node hub) (member_assign cell.ports wiring.names hub x) ⊎ HasSides p x (hub_node hub) (member_assign cell.ports wiring.names hub x)
  outer_sides (Port port bit) o hub e = port_sides port bit o hub e
  outer_sides (Pin instance port bit) o hub e = absurd o
  outer_sides (Net net) o hub e = absurd o
  outer_sides Zero o hub e = inr (constant_sides Zero false o (of_constant false refl refl) hub e)
  outer_sides One o hub e = inr (constant_sides One true o (of_constant true refl refl) hub e)
