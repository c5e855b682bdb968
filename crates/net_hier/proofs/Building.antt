-- Cells as a graph.
use Rattle.std.proofs.Common.{◌≡◌, ℕ, ◌<◌, ◌≤◌, List, length, slice_get, Some, refl, sym, ◌∙◌, ap, subst, arith, option_map}
use Rattle.std.proofs.lemmas.List.{length-map}
use Rattle.std.proofs.lemmas.Option.{slice_get-map, slice_get_within}
use Rattle.net_graph.specs.Graph.{HasList, IsFirstRecursion, IsInRange, IsPostorder, IsReached, ReachesItself}
use Rattle.net_graph.proofs.ListLaws.{element_there, same_element}
use Rattle.net_hier.specs.Build.{IsBuilt, IsOrderOf, IsPostorderOf, IsTooBig}
use Rattle.net_hier.specs.Design.{IsCell, below_of, cells_below}
use Rattle.net_hier.specs.Units.{units}
use Rattle.net_hier.specs.Valid.{CellsFit, Each, IsGoodCell, IsHier, count_limit, unit_limit}
use Rattle.net_hier.specs.declared.cells.HCell.{HCell}
use Rattle.net_hier.specs.declared.cells.HInst.{HInst}
use Rattle.net_hier.specs.declared.cells.HProp.{HProp}

pub same_length : (cells : List HCell) → length (cells_below cells) ≡ length cells
same_length cells = length-map cells below_of

-- a list of the graph is that of a cell
pub record IsListOf (cells : List HCell) (number : ℕ) (numbers : List ℕ) : Type 0 where
  pub cell : HCell
  pub is_cell : IsCell cells number cell
  pub are_below : below_of cell ≡ numbers

pub list_of : (cells : List HCell) (number : ℕ) (numbers : List ℕ) → HasList (cells_below cells) number numbers → IsListOf cells number numbers
list_of cells number numbers has =
    let lt : number < length cells = subst (λ n. number < n) (same_length cells) (slice_get_within (cells_below cells) number numbers has) in
    let (cell, is_cell) = element_there cells number lt in
    let mapped : slice_get (cells_below cells) number ≡ Some (below_of cell) = slice_get-map below_of cells number ∙ ap (option_map below_of) is_cell in
    record { cell = cell; is_cell = is_cell; are_below = same_element (cells_below cells) number (below_of cell) numbers mapped has }

-- an element of such a list is the cell of an instance
pub record IsInstanceOf (cell : HCell) (place inner : ℕ) : Type 0 where
  pub instance : HInst
  pub is_there : slice_get cell.instances place ≡ Some instance
  pub is_of : instance.cell ≡ inner

pub instance_of : (cell : HCell) (place inner : ℕ) → slice_get (below_of cell) place ≡ Some inner → IsInstanceOf cell place inner
instance_of cell place inner there =
    let lt : place < length cell.instances = subst (λ n. place < n) (length-map cell.instances (λ i. i.cell)) (slice_get_within (below_of cell) place inner there) in
    let (instance, is_there) = element_there cell.instances place lt in
    let mapped : slice_get (below_of cell) place ≡ Some instance.cell = slice_get-map (λ i. i.cell) cell.instances place ∙ ap (option_map (λ i. i.cell)) is_there in
    record { instance = instance; is_there = is_there; is_of = same_element (below_of cell) place instance.cell inner mapped there }

-- the cells of the instances of good cells are in the graph
pub good_in_range : (cells : List HCell) → ((number : ℕ) (cell : HCell) → IsCell cells number cell → IsGoodCell cells cell) → IsInRange (cells_below cells)
good_in_range cells good outer inner above =
    let l : IsListOf cells outer above.numbers = list_of cells outer above.numbers above.are_below in
    let there : slice_get (below_of l.cell) above.place ≡ Some inner = subst (λ ns. slice_get ns above.place ≡ Some inner) (sym l.are_below) above.is_there in
    let i : IsInstanceOf l.cell above.place inner = instance_of l.cell above.place inner there in
    let lt : i.instance.cell < length cells = (good outer l.cell l.is_cell).instances_in_range above.place i.instance i.is_there in
    subst (λ n. inner < n) (sym (same_length cells)) (subst (λ m. m < length cells) i.is_of lt)

-- the parts of what fits
pub fit_of : (cells : List HCell) (top : ℕ) → length cells ≤ count_limit → top < length cells → Each (λ cell. (length cell.instances ≤ count_limit) × IsGoodCell cells cell) cells →
    ((number : ℕ) → number < length cells → IsReached (cells_below cells) top number) → CellsFit cells top
fit_of cells top few within each reached = record {
  few_parts = record { few_cells = few; few_instances = λ number cell e. (each number cell e).0 };
  has_top = within;
  good_cells = λ number cell e. (each number cell e).1;
  reached = reached;
}

module _ (cells : List HCell) (top : ℕ) (fit : CellsFit cells top) where
  pub in_range : IsInRange (cells_below cells)
  in_range = good_in_range cells fit.good_cells

  pub top_within : top < length (cells_below cells)
  top_within = subst (λ n. top < n) (sym (same_length cells)) fit.has_top

  pub short : length (cells_below cells) ≤ count_limit
  short = subst (λ n. n ≤ count_limit) (sym (same_length cells)) fit.few_parts.few_cells

  pub few : (number : ℕ) (numbers : List ℕ) → HasList (cells_below cells) number numbers → length numbers ≤ count_limit
  few number numbers has =
      let l : IsListOf cells number numbers = list_of cells number numbers has in
      let le : length l.cell.instances ≤ count_limit = fit.few_parts.few_instances number l.cell l.is_cell in
      subst (λ ns. length ns ≤ count_limit) l.are_below (subst (λ n. n ≤ count_limit) (sym (length-map l.cell.instances (λ i. i.cell))) le)

  pub none_reaches : ((number : ℕ) → IsReached (cells_below cells) top number → ¬ ReachesItself (cells_below cells) number) → (number : ℕ) → ¬ ReachesItself (cells_below cells) number
  none_reaches free number reaches =
      let lt : number < length (cells_below cells) = slice_get_within (cells_below cells) number reaches.first.numbers reaches.first.are_below in
      free number (fit.reached number (subst (λ n. number < n) (same_length cells) lt)) reaches

-- the place of a first recursion is one in a list
pub place_within : (graph : List (List ℕ)) (number place : ℕ) → IsFirstRecursion graph number place → ((k : ℕ) (numbers : List ℕ) → HasList graph k numbers → length numbers ≤ count_limit) → place ≤ count_limit
place_within graph number place first few =
    omega (arith, slice_get_within first.closing.numbers place first.closing.inner first.closing.is_there, few number first.closing.numbers first.closing.are_below)

-- the postorder, where the units are within the limit
pub order_kept : (cells : List HCell) (top : ℕ) (list order : List ℕ) → IsPostorderOf cells top list → order ≡ list → units cells ≤ unit_limit → IsOrderOf cells top order
order_kept cells top list order is_postorder same few = record {
  no_recursion = is_postorder.no_recursion;
  few_units = few;
  postorder = subst (IsPostorder (cells_below cells) top) (sym same) is_postorder.postorder;
}

-- the units, where they pass the limit
pub too_big : (cells : List HCell) (top : ℕ) (list : List ℕ) (count : ℕ) → IsPostorderOf cells top list → count ≡ units cells → unit_limit < count → IsTooBig cells count
too_big cells top list count is_postorder is_count passes = record { no_recursion = is_postorder.no_recursion; is_count = is_count; passes = passes }

-- cells that fit, with their order, are a design
pub hier_of : (cells : List HCell) (top : ℕ) (props : List HProp) (order : List ℕ) → CellsFit cells top → IsOrderOf cells top order → IsHier (record { cells = cells; top = top; props = props; order = order })
hier_of cells top props order fit is_order = record {
  valid = record { has_top = fit.has_top; good_cells = fit.good_cells; reached = fit.reached; no_recursion = is_order.no_recursion; postorder = is_order.postorder };
  few_parts = fit.few_parts;
  few_units = is_order.few_units;
}

-- and it has these cells, this top and these properties
pub built : (cells : List HCell) (top : ℕ) (props : List HProp) (order : List ℕ) → CellsFit cells top → IsOrderOf cells top order → IsBuilt cells top props (record { cells = cells; top = top; props = props; order = order })
built cells top props order fit is_order = record { same_cells = refl; same_top = refl; same_props = refl; is_hier = hier_of cells top props order fit is_order }
