-- What stands at a place of a file that is written for a design, and below it.
use Rattle.std.proofs.Common.{◌≡◌, ℕ, ◌<◌, List, Some, length, slice_get, sym, ap, subst, ◌∙◌, arith}
use Rattle.std.specs.Prelude.{option_map}
use Rattle.std.proofs.lemmas.List.{length-map}
use Rattle.std.proofs.lemmas.Option.{slice_get-map, slice_get_within}
use Rattle.net_graph.specs.Graph.{IsAbove}
use Rattle.net_graph.proofs.ListLaws.{element_there, same_element}
use Rattle.net_graph.proofs.OrderLaws.{HasBelow, visits_below}
use Rattle.net_hier.specs.Design.{Design, IsCell, below_of, cells_below}
use Rattle.net_hier.specs.Valid.{IsValid}
use Rattle.net_hier.specs.declared.cells.HCell.{HCell}
use Rattle.net_hier.specs.declared.cells.HInst.{HInst}
use Rattle.vlog_written.specs.Written.{PlainInstance, PlainModule}
use Rattle.vlog_partners.specs.Partners.{IsInstanceFor, IsModuleFor}
use Rattle.vlog_partners.proofs.Lists.{as_long}
use Rattle.vlog_partners.proofs.Orders.{StandOnce, order_once, order_within}

-- plain modules for the cells of a design, one for each number in its order
pub record AreModulesFor (design : Design) (ps : List PlainModule) : Type 0 where
  pub as_many : length ps ≡ length design.order
  pub modules : (place number : ℕ) (cell : HCell) (p : PlainModule) → slice_get design.order place ≡ Some number → IsCell design.cells number cell → slice_get ps place ≡ Some p → IsModuleFor design number cell p

-- the number, the cell and the module of a place
pub record Here (design : Design) (ps : List PlainModule) (place : ℕ) : Type 0 where
  pub number : ℕ
  pub cell : HCell
  pub p : PlainModule
  pub is_number : slice_get design.order place ≡ Some number
  pub is_cell : IsCell design.cells number cell
  pub is_module : slice_get ps place ≡ Some p
  pub is_for : IsModuleFor design number cell p

-- an instance at a place, and what stands below it at an earlier one
pub record Below (design : Design) (ps : List PlainModule) (place : ℕ) (here : Here design ps place) (t : ℕ) (written : PlainInstance) : Type 0 where
  pub instance : HInst
  pub is_instance : slice_get here.cell.instances t ≡ Some instance
  pub is_for : IsInstanceFor design.cells here.is_for.hubs here.p t instance written
  pub before : ℕ
  pub falls : before < place
  pub there : Here design ps before
  pub same_number : there.number ≡ instance.cell
  pub same_cell : is_for.below ≡ there.cell

module _ (design : Design) (ps : List PlainModule) (valid : IsValid design) (are : AreModulesFor design ps) where
  abbrev graph : List (List ℕ)
  graph = cells_below design.cells

  graph_long : length graph ≡ length design.cells
  graph_long = length-map design.cells below_of

  pub once : StandOnce design.order
  once = order_once graph valid.no_recursion design.top design.order valid.postorder

  pub all_below : HasBelow graph design.order
  all_below = visits_below graph design.top valid.postorder (λ place number list at instance e is_list there. absurd (cc))

  pub here_at : (place : ℕ) → place < length ps → Here design ps place
  here_at place within =
      let n = element_there design.order place (omega (arith, within, are.as_many)) in
      let lt : n.0 < length graph = order_within graph design.top design.order valid.postorder place n.0 n.1 in
      let c = element_there design.cells n.0 (omega (arith, lt, graph_long)) in
      let m = element_there ps place within in
      record { number = n.0; cell = c.0; p = m.0; is_number = n.1; is_cell = c.1; is_module = m.1; is_for = are.modules place n.0 c.0 m.0 n.1 c.1 m.1 }

  pub here_for : (place number : ℕ) → slice_get design.order place ≡ Some number → Here design ps place
  here_for place number e = let lt : place < length design.order = slice_get_within design.order place number e in here_at place (omega (arith, lt, are.as_many))

  same_numbers : (place number : ℕ) (here : Here design ps place) → slice_get design.order place ≡ Some number → here.number ≡ number
  same_numbers place number here e = same_element design.order place here.number number here.is_number e

  -- an instance of a cell stands above the cell of the instance
  pub instance_above : (number : ℕ) (cell : HCell) (t : ℕ) (instance : HInst) → IsCell design.cells number cell → slice_get cell.instances t ≡ Some instance → IsAbove graph number instance.cell
  instance_above number cell t instance e is = record {
    numbers = below_of cell;
    are_below = slice_get-map below_of design.cells number ∙ ap (option_map below_of) e;
    place = t;
    is_there = slice_get-map (λ (i : HInst). i.cell) cell.instances t ∙ ap (option_map (λ (i : HInst). i.cell)) is;
  }

  pub below_at : (place : ℕ) (here : Here design ps place) (t : ℕ) (written : PlainInstance) → slice_get here.p.instances t ≡ Some written → Below design ps place here t written
  below_at place here t written e =
      let i = as_long here.p.instances here.cell.instances (sym here.is_for.as_many) t written e in
      let is : IsInstanceFor design.cells here.is_for.hubs here.p t i.0 written = here.is_for.instances t i.0 written i.1 e in
      let above : IsAbove graph here.number i.0.cell = instance_above here.number here.cell t i.0 here.is_cell i.1 in
      let b = all_below place here.number above.numbers above.place i.0.cell here.is_number above.are_below above.is_there in
      let there : Here design ps b.0 = here_for b.0 i.0.cell b.2 in
      let number : there.number ≡ i.0.cell = same_numbers b.0 i.0.cell there b.2 in
      record {
        instance = i.0;
        is_instance = i.1;
        is_for = is;
        before = b.0;
        falls = b.1;
        there = there;
        same_number = number;
        same_cell = same_element design.cells i.0.cell is.below there.cell is.is_below (subst (λ n. IsCell design.cells n there.cell) number there.is_cell);
      }

  -- the name of the module below
  pub name_below : (place : ℕ) (here : Here design ps place) (t : ℕ) (written : PlainInstance) (b : Below design ps place here t written) → b.there.p.name ≡ written.of
  name_below place here t written b = sym b.there.is_for.same_name ∙ (sym (ap (λ (c : HCell). c.name) b.same_cell) ∙ b.is_for.of_below)
