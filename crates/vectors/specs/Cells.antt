-- The cells of generated files (EDIF 2 0 0, cell, view, interface, contents, instance, net, joined).
use Rattle.std.specs.Prelude.{ℕ, zero, suc, Bool, List, [], ◌∷◌, ◌++◌, cond, None, Some, codes}
use Rattle.std.specs.Fmt.{decimal}
use Rattle.nl_base.specs.declared.value.Dir.{Dir}
use Rattle.nl_base.specs.declared.value.Dir.TheVariants.{Input, Output}
use Rattle.edif_values.specs.declared.name.NameDef.{NameDef}
use Rattle.edif_values.specs.declared.name.PortName.TheVariants.{Single}
use Rattle.edif_values.specs.declared.instance.Instance.{Instance}
use Rattle.edif_values.specs.declared.net.Net.{Net}
use Rattle.edif_values.specs.declared.net.PortRef.{PortRef}
use Rattle.edif_values.specs.declared.port.Port.{Port}
use Rattle.edif_values.specs.declared.port.PortItem.TheVariants.{Direction}
use Rattle.edif_values.specs.declared.cell.Cell.{Cell}
use Rattle.edif_values.specs.declared.cell.CellItem.TheVariants as cell_items
use Rattle.edif_values.specs.declared.cell.CellKind.TheVariants.{Generic}
use Rattle.edif_values.specs.declared.view.ContentsItem.{ContentsItem}
use Rattle.edif_values.specs.declared.view.ContentsItem.TheVariants as contents_items
use Rattle.edif_values.specs.declared.view.InterfaceItem.TheVariants as interface_items
use Rattle.edif_values.specs.declared.view.View.{View}
use Rattle.edif_values.specs.declared.view.ViewItem.{ViewItem}
use Rattle.edif_values.specs.declared.view.ViewItem.TheVariants as view_items
use Rattle.vectors.specs.Numbers.{is_swapped}

-- a name that is its identifier
abbrev pub plain : List ℕ → NameDef
plain ident = record { ident = ident; text = None }

-- the identifier of the cell of a number: `c` and the number in decimal
abbrev pub cell_ident : ℕ → List ℕ
cell_ident k = codes "c" ++ decimal k

-- a scalar port
abbrev pub port : List ℕ → Dir → Port
port ident dir = record { name = Single (plain ident); items = Direction dir ∷ [] }

-- an instance of the cell of a number, of its view `v`, in the same library
abbrev pub instance : List ℕ → ℕ → Instance
instance ident below = record { name = plain ident; view = codes "v"; cell = cell_ident below; library = None; items = [] }

-- a port of the cell itself, and a port of an instance
abbrev pub own : List ℕ → PortRef
own ident = record { port = ident; member = None; instance = None }

abbrev pub pin : List ℕ → List ℕ → PortRef
pin ident of_instance = record { port = ident; member = None; instance = Some of_instance }

-- a net that joins two ports
abbrev pub net : List ℕ → PortRef → PortRef → Net
net ident one other = record { name = plain ident; joined = one ∷ (other ∷ []); items = [] }

-- the nets that lead from the port `i` through the one instance and then the other to the port `o`
abbrev pub first_net : List ℕ → Net
first_net one = net (codes "i") (own (codes "i")) (pin (codes "i") one)

abbrev pub middle_net : List ℕ → List ℕ → Net
middle_net one other = net (codes "m") (pin (codes "o") one) (pin (codes "i") other)

abbrev pub last_net : List ℕ → Net
last_net other = net (codes "o") (pin (codes "o") other) (own (codes "o"))

-- the contents with two instances of the cell of a number, `a` and `b`, and the nets that lead through the one and then the other
abbrev pub contents : ℕ → List ℕ → List ℕ → List ContentsItem
contents below one other =
    contents_items.Instance (instance (codes "a") below)
    ∷ (contents_items.Instance (instance (codes "b") below)
    ∷ (contents_items.Net (first_net one) ∷ (contents_items.Net (middle_net one other) ∷ (contents_items.Net (last_net other) ∷ []))))

-- the contents above the cell of a number: the nets lead from `a` to `b`, and in a swapped cell from `b` to `a`
abbrev pub contents_of : Bool → ℕ → List ContentsItem
contents_of swapped below = cond swapped (contents below (codes "b") (codes "a")) (contents below (codes "a") (codes "b"))

-- the parts of the view of the cell of a number: the first has no contents
abbrev pub view_items_of : ℕ → ℕ → List ViewItem
view_items_of seed zero = []
view_items_of seed (suc below) = view_items.Contents (contents_of (is_swapped seed (suc below)) below) ∷ []

-- the view `v` with the ports `i` and `o` and these parts
abbrev pub view : List ViewItem → View
view items = record {
  name = plain (codes "v");
  interface = interface_items.Port (port (codes "i") Input) ∷ (interface_items.Port (port (codes "o") Output) ∷ []);
  items = items;
}

-- the cell of this identifier, whose view has these parts
abbrev pub cell_with : List ℕ → List ViewItem → Cell
cell_with ident items = record { name = plain ident; kind = Generic; items = cell_items.View (view items) ∷ [] }

-- the cell of a number
abbrev pub cell : ℕ → ℕ → Cell
cell seed k = cell_with (cell_ident k) (view_items_of seed k)
