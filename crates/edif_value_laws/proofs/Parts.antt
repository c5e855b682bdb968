-- The parts of a file that is written are values.
use Rattle.std.proofs.Common.{◌≡◌, ℕ, ◌≤◌, List, [], ◌∷◌, filter, length, map, refl, sym, subst, arith}
use Rattle.std.specs.List.{AllByRecursion}
use Rattle.edif_values.specs.Values.{IsString, IsWord, IsNameDef, IsProperty, IsInstance, IsNet, IsPort, is_contents, is_view, IsCell, IsCellItem, IsContentsItem, IsEdifValue, IsInterfaceItem, IsLibraryItem, IsView, IsViewItem}
use Rattle.edif_values.specs.declared.name.NameDef.{NameDef}
use Rattle.edif_values.specs.declared.property.Property.{Property}
use Rattle.edif_values.specs.Directions.{directions, told}
use Rattle.edif_values.specs.declared.instance.Instance.{Instance}
use Rattle.edif_values.specs.declared.net.Net.{Net}
use Rattle.edif_values.specs.declared.port.Port.{Port}
use Rattle.edif_values.specs.declared.cell.Cell.{Cell}
use Rattle.edif_values.specs.declared.cell.CellItem.TheVariants as cell_items
use Rattle.edif_values.specs.declared.library.LibraryItem.TheVariants as library_items
use Rattle.edif_values.specs.declared.view.ContentsItem.{ContentsItem}
use Rattle.edif_values.specs.declared.view.ContentsItem.TheVariants as contents_items
use Rattle.edif_values.specs.declared.view.InterfaceItem.TheVariants as interface_items
use Rattle.edif_naming.proofs.SoundLaws.{sound_name}
use Rattle.edif_written.specs.Written.{cell_of, contents_items_of, contents_of, file_of, netlist, view_of, work}
use Rattle.edif_plans.specs.Made.{output_for}
use Rattle.edif_value_laws.proofs.Lists.{all_append, all_map}

work_word : IsWord work
work_word = (refl, omega arith)

netlist_word : IsWord netlist
netlist_word = (refl, omega arith)

-- ---- cells

contents_value : (instances : List Instance) (nets : List Net) → AllByRecursion IsInstance instances → AllByRecursion IsNet nets → AllByRecursion IsContentsItem (contents_of instances nets)
contents_value instances nets h k = all_append IsContentsItem (map contents_items.Instance instances) (map contents_items.Net nets)
    (all_map IsInstance IsContentsItem contents_items.Instance (λ x good. good) instances h) (all_map IsNet IsContentsItem contents_items.Net (λ x good. good) nets k)

items_value : (items : List ContentsItem) → AllByRecursion IsContentsItem items → AllByRecursion IsViewItem (contents_items_of items)
items_value [] h = tt
items_value (item ∷ items) h = (h, tt)

one_contents : (items : List ContentsItem) → length (filter is_contents (contents_items_of items)) ≤ 1
one_contents [] = omega arith
one_contents (item ∷ items) = omega arith

view_value : (ports : List Port) (instances : List Instance) (nets : List Net) → AllByRecursion IsPort ports → AllByRecursion IsInstance instances → AllByRecursion IsNet nets → IsView (view_of ports instances nets)
view_value ports instances nets p i n = record {
  name = record { ident = netlist_word; text = tt };
  interface = all_map IsPort IsInterfaceItem interface_items.Port (λ x good. good) ports p;
  items = items_value (contents_of instances nets) (contents_value instances nets i n);
  one_contents = one_contents (contents_of instances nets);
}

no_view : (properties : List Property) → filter is_view (map cell_items.Property properties) ≡ []
no_view [] = refl
no_view (property ∷ properties) = no_view properties

pub cell_value : (name : NameDef) (ports : List Port) (instances : List Instance) (nets : List Net) (properties : List Property)
    → IsNameDef name → AllByRecursion IsPort ports → AllByRecursion IsInstance instances → AllByRecursion IsNet nets → AllByRecursion IsProperty properties → IsCell (cell_of name ports instances nets properties)
unfolding cell_of
cell_value name ports instances nets properties h p i n ps = record {
  name = h;
  items = (view_value ports instances nets p i n, all_map IsProperty IsCellItem cell_items.Property (λ x good. good) properties ps);
  one_view = subst (λ l. length (cell_items.View (view_of ports instances nets) ∷ l) ≤ 1) (sym (no_view properties)) (omega arith);
}

one_direction : (ident name : List ℕ) → length (directions (output_for ident name).items) ≤ 1
unfolding told
one_direction ident name = omega arith

pub output_value : (ident name : List ℕ) → IsWord ident → IsString name → IsPort (output_for ident name)
output_value ident name word string = record { name = sound_name ident name word string; items = ((tt, tt), one_direction ident name) }

-- ---- files

pub file_value : (name design_name : NameDef) (cells : List Cell) (top : List ℕ) → IsNameDef name → IsNameDef design_name → IsWord top → AllByRecursion IsCell cells → IsEdifValue (file_of name design_name cells top)
unfolding file_of
file_value name design_name cells top h k word all = record {
  name = h;
  items = (
    record { name = record { ident = work_word; text = tt }; scales = tt; notes = tt; items = all_map IsCell IsLibraryItem library_items.Cell (λ x good. good) cells all },
    (record { name = k; cell = word; library = work_word; items = tt }, tt),
  );
}
