-- A cell without view.
use Rattle.std.proofs.Common.{◌≡◌, Bool, not, ◌||◌, List, [], ◌∷◌, slice_get, Option, Some, None, is_some, is_none, refl, ap, ◌∙◌}
use Rattle.std.specs.List.{cons_option, filter_map, list_any}
use Rattle.edif_values.specs.declared.cell.Cell.{Cell}
use Rattle.edif_values.specs.declared.cell.CellItem.{CellItem}
use Rattle.edif_values.specs.declared.view.View.{View}
use Rattle.edif_design.specs.Parts.{view_in, views}

none_first : (items : List CellItem) → not (list_any (λ item. is_some (view_in item)) items) ≡ is_none (slice_get (filter_map view_in items) 0)
none_first [] = refl
none_first (item ∷ items) = by (view_in item) (none_first items)
  where
    by : (o : Option View) → not (list_any (λ other. is_some (view_in other)) items) ≡ is_none (slice_get (filter_map view_in items) 0) → not (is_some o || list_any (λ other. is_some (view_in other)) items) ≡ is_none (slice_get (cons_option o (filter_map view_in items)) 0)
    by None h = h
    by (Some view) h = refl

pub without_view : (cell : Cell) (found : Bool) → found ≡ list_any (λ item. is_some (view_in item)) cell.items → not found ≡ is_none (slice_get (views cell) 0)
without_view cell found e = ap not e ∙ none_first cell.items
