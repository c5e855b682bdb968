-- What is promised of the wiring of a cell.
use Rattle.std.specs.Prelude.{◌≡◌, ◌<◌, ℕ, true, false, None, Some, List, length, map}
use Rattle.net_hier.specs.Cells.{IsPinBit, width_of}
use Rattle.net_hier.specs.declared.cells.HCell.{HCell}
use Rattle.net_hier.specs.declared.cells.HNet.{HNet}
use Rattle.net_hier.specs.declared.nodes.Node.{Node}
use Rattle.net_hier.specs.declared.nodes.Node.TheVariants.{Net, Pin}
use Rattle.net_stars.specs.StandIns.{itself}
use Rattle.net_stars.specs.Stars.{AreHubs, AreWires, HasHub}
use Rattle.vlog_design.specs.Design.{attr_props}
use Rattle.vlog_values.specs.declared.module.ItemV.{ItemV}
use Rattle.vlog_written.specs.Written.{PlainWire, wire_item}
use Rattle.to_verilog_wires.specs.Given.{AreNamed, HaveNetAttrs}
use Rattle.to_verilog_classes.specs.Groups.{AreGroups, HasMarks, live_class}
use Rattle.to_verilog_classes.specs.Roots.{pin_port}
use Rattle.to_verilog_wires.specs.Wiring.{WiringTable, hub_node_of, is_written}

-- the net that a wire is
abbrev pub wire_net : PlainWire → HNet
wire_net wire = record { name = wire.name; props = attr_props wire.attrs }

-- of a port of several bits of an instance each bit has a hub where one of them is written, and else none has one
pub record AreWritten (cells : List HCell) (cell : HCell) (wiring : WiringTable) : Type 0 where
  pub some : (instance port bit : ℕ) → IsPinBit cells cell instance port bit → is_written wiring (Pin instance port bit) ≡ true →
      (hub : Node) × (hub_node_of wiring (Pin instance port bit) ≡ Some hub)
  pub none : (instance port bit : ℕ) (is : IsPinBit cells cell instance port bit) → 1 < width_of is.is_bit.the_port.range → is_written wiring (Pin instance port bit) ≡ false →
      hub_node_of wiring (Pin instance port bit) ≡ None

-- the classes are those of the cell, a port bit or a constant with a hub is in a class that is written, and a hub that is a wire is one of the wires
pub record AreHubClasses (cell : HCell) (wiring : WiringTable) : Type 0 where
  pub groups : AreGroups cell wiring.groups
  pub marks : HasMarks wiring.groups
  pub in_class : (node hub : Node) → pin_port node ≡ None → hub_node_of wiring node ≡ Some hub → (class : ℕ) × (live_class wiring.groups node ≡ Some class)
  pub wire_there : (node : Node) (number : ℕ) → hub_node_of wiring node ≡ Some (Net number) → number < length wiring.names

-- the terminals of the cell have one hub exactly where they are locally connected; a hub that is a wire has the properties of the nets of its class, and stands in the
-- declarations at the place of its number, under a name that can be written and that no port, no instance and no other wire has
pub record IsWiring (cells : List HCell) (cell : HCell) (wiring : WiringTable) (decls : List ItemV) : Type 0 where
  pub wires : List PlainWire
  pub decls_are : decls ≡ map wire_item wires
  pub names_are : wiring.names ≡ map (λ wire. wire.name) wires
  pub named : AreNamed cell wires
  pub attrs : HaveNetAttrs cell wires
  pub hubs : AreHubs cells cell itself (HasHub (hub_node_of wiring))
  pub properties : (partner : HCell) → partner.nets ≡ map wire_net wires → AreWires cells cell partner (HasHub (hub_node_of wiring))
  pub written : AreWritten cells cell wiring
  pub classes : AreHubClasses cell wiring
