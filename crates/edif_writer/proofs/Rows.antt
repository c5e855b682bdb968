-- Texts of some values.
use Rattle.std.proofs.Common.{◌≡◌, ℕ, List, [], ◌∷◌, Some, None, true, false, refl}
use Rattle.std.specs.Prelude.{codes, pos, negsuc}
use Rattle.std.specs.Fmt.{digits}
use Rattle.nl_base.specs.declared.value.Dir.TheVariants as dir
use Rattle.nl_base.specs.declared.value.PropValue.TheVariants as prop
use Rattle.edif_values.specs.declared.name.NameDef.{NameDef}
use Rattle.edif_values.specs.declared.name.PortName.TheVariants as port_name
use Rattle.edif_values.specs.declared.property.PropTail.TheVariants as prop_tail
use Rattle.edif_values.specs.declared.written.Stamp.{Stamp}
use Rattle.edif_values.specs.declared.written.WrittenItem.TheVariants as written_item
use Rattle.edif_values.specs.declared.status.StatusItem.TheVariants as status_item
use Rattle.edif_values.specs.declared.status.Status.{Status}
use Rattle.edif_values.specs.declared.port.PortItem.TheVariants as port_item
use Rattle.edif_values.specs.declared.net.NetItem.TheVariants as net_item
use Rattle.edif_values.specs.declared.instance.InstanceItem.TheVariants as instance_item
use Rattle.edif_values.specs.declared.view.View.{View}
use Rattle.edif_values.specs.declared.cell.CellKind.TheVariants as kind
use Rattle.edif_values.specs.declared.cell.CellItem.TheVariants as cell_item
use Rattle.edif_values.specs.declared.cell.Cell.{Cell}
use Rattle.edif_values.specs.declared.library.Scale.{Scale}
use Rattle.edif_values.specs.declared.library.LibraryItem.TheVariants as library_item
use Rattle.edif_values.specs.declared.library.Library.{Library}
use Rattle.edif_values.specs.declared.file.Design.{Design}
use Rattle.edif_values.specs.declared.file.FileItem.TheVariants as file_item
use Rattle.edif_values.specs.declared.file.EdifFile.{EdifFile}
use Rattle.edif_writer.specs.Strings.{is_plain, written}
use Rattle.edif_writer.specs.Layout.{inline, laid}
use Rattle.edif_writer.specs.Forms.{edif_text, instance_block, name_form, net_block, port_form, property_form, status_block, technology_form}

abbrev named : List ℕ → NameDef
named w = record { ident = w; text = None }

abbrev view : View
view = record { name = named (codes "v"); interface = []; items = [] }

abbrev cell : Cell
cell = record { name = named (codes "c"); kind = kind.Generic; items = cell_item.View view ∷ [] }

abbrev library : Library
library = record { external = false; name = named (codes "w"); scales = []; notes = []; items = library_item.Cell cell ∷ [] }

abbrev design : Design
design = record { name = named (codes "a"); cell = codes "c"; library = codes "w"; items = [] }

abbrev smallest : EdifFile
smallest = record { name = named (codes "a"); items = file_item.Library library ∷ file_item.Design design ∷ [] }

-- a file of one cell
pub smallest_text : edif_text smallest
    ≡ codes "(edif a\n  (edifVersion 2 0 0)\n  (edifLevel 0)\n  (keywordMap (keywordLevel 0))\n  (library w\n    (edifLevel 0)\n    (technology (numberDefinition))\n    (cell c\n      (cellType GENERIC)\n      (view v\n        (viewType NETLIST)\n        (interface\n        )\n      )\n    )\n  )\n  (design a (cellRef c (libraryRef w)))\n)\n"
unfolding digits
smallest_text = refl

abbrev stamp : Stamp
stamp = record { year = pos 2024; month = pos 3; day = pos 1; hour = pos 9; minute = pos 5; second = pos 0 }

abbrev status : Status
status = record { items = status_item.Written (record { stamp = stamp; items = written_item.Author (codes "a%b") ∷ [] }) ∷ [] }

-- a status, with an escape
pub status_text : laid 2 (status_block status) [] ≡ codes "  (status\n    (written\n      (timeStamp 2024 3 1 9 5 0)\n      (author \"a%37%b\")\n    )\n  )\n"
unfolding digits is_plain written
status_text = refl

-- bytes that do not stand for themselves are one escape
pub escape_text : inline (name_form (record { ident = codes "c"; text = Some (codes "a\"%b") })) [] ≡ codes "(rename c \"a%34 37%b\")"
unfolding digits is_plain written
escape_text = refl

-- an array of ports
pub port_text : inline (port_form (record { name = port_name.Array (record { ident = codes "d"; text = Some (codes "d<0:1>") }) (pos 2); items = port_item.Direction dir.Output ∷ [] })) [] ≡ codes "(port (array (rename d \"d<0:1>\") 2) (direction OUTPUT))"
unfolding digits is_plain written
port_text = refl

-- a scaled number of exponent 0
pub number_text : inline (property_form (record { name = named (codes "P"); value = prop.Scaled (record { mantissa = pos 50; exponent = pos 0 }); tail = [] })) [] ≡ codes "(property P (number 50))"
unfolding digits
number_text = refl

abbrev scale : Scale
scale = record { left = record { mantissa = pos 1; exponent = pos 0 }; right = record { mantissa = pos 1; exponent = negsuc 8 }; unit = codes "TIME" }

-- a technology with a scale
pub technology_text : inline (technology_form (record { external = true; name = named (codes "w"); scales = scale ∷ []; notes = []; items = [] })) [] ≡ codes "(technology (numberDefinition (scale 1 (e 1 -9) (unit TIME))))"
unfolding digits
technology_text = refl

-- an instance with a property and its owner
pub instance_text : laid 10 (instance_block (record {
  name = named (codes "u");
  view = codes "netlist";
  cell = codes "LUT1";
  library = Some (codes "prims");
  items = instance_item.Property (record { name = named (codes "KEEP"); value = prop.Flag true; tail = prop_tail.Owner (codes "user") ∷ [] }) ∷ [];
})) []
    ≡ codes "          (instance u\n            (viewRef netlist (cellRef LUT1 (libraryRef prims)))\n            (property KEEP (boolean (true)) (owner \"user\"))\n          )\n"
unfolding digits is_plain written
instance_text = refl

-- a net
pub net_text : laid 10 (net_block (record {
  name = named (codes "p");
  joined = record { port = codes "a"; member = None; instance = None } ∷ record { port = codes "D"; member = Some (pos 0); instance = Some (codes "u") } ∷ [];
  items = net_item.Property (record { name = named (codes "src"); value = prop.Str (codes "f:2"); tail = [] }) ∷ [];
})) []
    ≡ codes "          (net p\n            (joined\n              (portRef a)\n              (portRef (member D 0) (instanceRef u))\n            )\n            (property src (string \"f:2\"))\n          )\n"
unfolding digits is_plain written
net_text = refl
