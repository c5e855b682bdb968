-- The numbers of a cell's ports and instances are at most the cell's size.
use Rattle.std.proofs.Common.{◌≤◌, ℕ, suc, ◌+◌, List, [], ◌∷◌, ◌++◌, length, Option, Some, None, length-append, arith, ◌≡◌, refl}
use Rattle.std.proofs.lemmas.List.Sums.{sum_by-cons}
use Rattle.std.specs.List.{cons_option, filter_map, flat_map, sum_by}
use Rattle.edif_values.specs.Sizes.{cell_item_size, cell_size, contents_item_size, list_size, view_item_size, view_size}
use Rattle.edif_values.specs.declared.cell.Cell.{Cell}
use Rattle.edif_values.specs.declared.cell.CellItem.{CellItem}
use Rattle.edif_values.specs.declared.cell.CellItem.TheVariants as cell_items
use Rattle.edif_values.specs.declared.view.ContentsItem.{ContentsItem}
use Rattle.edif_values.specs.declared.view.View.{View}
use Rattle.edif_values.specs.declared.view.ViewItem.{ViewItem}
use Rattle.edif_values.specs.declared.view.ViewItem.TheVariants as view_items
use Rattle.edif_design.specs.Parts.{cell_contents, contents, contents_in, port_in, ports, view_in, views}
use Rattle.edif_rules.specs.Lists.{interface_ports}

pub few_of : {A B : Type 0} (f : A → Option B) (xs : List A) → length (filter_map f xs) ≤ length xs
few_of f [] = omega arith
few_of f (x ∷ xs) = by (filter_map f xs) (length xs) (f x) (few_of f xs)
  where
    by : {B : Type 0} (ys : List B) (n : ℕ) (o : Option B) → length ys ≤ n → length (cons_option o ys) ≤ suc n
    by ys n None h = omega (arith, h)
    by ys n (Some y) h = omega (arith, h)

skipped : {A : Type 0} (size : A → ℕ) (item : A) (items : List A) (n : ℕ) → n ≤ list_size size items → n ≤ list_size size (item ∷ items)
skipped size item items n h = omega (arith, h, sum_by-cons size item items)

-- what views have, where each has at most its size
of_views : {X : Type 0} (k : View → List X) → ((view : View) → length (k view) ≤ view_size view) → (items : List CellItem) → length (flat_map k (filter_map view_in items)) ≤ list_size cell_item_size items
of_views k few [] = omega arith
of_views k few (cell_items.View view ∷ items) =
    let long : length (flat_map k (filter_map view_in (cell_items.View view ∷ items))) ≡ length (k view) + length (flat_map k (filter_map view_in items)) = length-append (k view) (flat_map k (filter_map view_in items)) in
    let size : sum_by cell_item_size (cell_items.View view ∷ items) ≡ view_size view + sum_by cell_item_size items = sum_by-cons cell_item_size (cell_items.View view) items in
    omega (arith, few view, of_views k few items, long, size)
of_views k few (cell_items.Property property ∷ items) = skipped cell_item_size (cell_items.Property property) items _ (of_views k few items)
of_views k few (cell_items.Status status ∷ items) = skipped cell_item_size (cell_items.Status status) items _ (of_views k few items)
of_views k few (cell_items.Note note ∷ items) = skipped cell_item_size (cell_items.Note note) items _ (of_views k few items)

of_view_items : (items : List ViewItem) → length (flat_map contents_in items) ≤ list_size view_item_size items
of_view_items [] = omega arith
of_view_items (view_items.Contents inner ∷ items) =
    let long : length (flat_map contents_in (view_items.Contents inner ∷ items)) ≡ length inner + length (flat_map contents_in items) = length-append inner (flat_map contents_in items) in
    let size : sum_by view_item_size (view_items.Contents inner ∷ items) ≡ list_size contents_item_size inner + sum_by view_item_size items = sum_by-cons view_item_size (view_items.Contents inner) items in
    omega (arith, of_view_items items, long, size)
of_view_items (view_items.Property property ∷ items) = skipped view_item_size (view_items.Property property) items _ (of_view_items items)
of_view_items (view_items.Status status ∷ items) = skipped view_item_size (view_items.Status status) items _ (of_view_items items)
of_view_items (view_items.Note note ∷ items) = skipped view_item_size (view_items.Note note) items _ (of_view_items items)

pub few_ports : (cell : Cell) → length (ports cell) ≤ cell_size cell
few_ports cell = of_views interface_ports (λ view. omega (arith, few_of port_in view.interface)) cell.items

pub few_contents : (cell : Cell) → length (cell_contents cell) ≤ cell_size cell
few_contents cell = of_views contents (λ view. omega (arith, of_view_items view.items)) cell.items
