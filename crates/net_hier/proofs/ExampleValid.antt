-- The example designs keep the conditions of a design.
use Rattle.std.proofs.Common.{◌≡◌, ℕ, zero, suc, ◌<◌, List, [], ◌∷◌, refl, ap, subst, slice_get, Some, length, map, arith}
use Rattle.std.specs.Prelude.{Contains}
use Rattle.std.proofs.lemmas.Option.{slice_get_within}
use Rattle.net_graph.specs.Graph.{IsAbove, IsPostorder, IsReached, first, next, none}
use Rattle.net_graph.proofs.OrderLaws.{postorder_free}
use Rattle.net_graph.proofs.WalkLaws.{linked_by, linked_itself}
use Rattle.net_hier.specs.Cells.{IsPinBit, IsPortBit}
use Rattle.net_hier.specs.Design.{Design, cells_below}
use Rattle.net_hier.specs.Example.{output, tied_cell, tied_design, translated_cell, translated_design, untied_design, zero_cell}
use Rattle.net_hier.specs.Valid.{Each, HaveOwnNames, IsGoodCell, IsJoinOf, IsPortWidth, IsValid}
use Rattle.net_hier.proofs.Building.{same_length}
use Rattle.net_hier.specs.declared.cells.HCell.{HCell}
use Rattle.net_hier.specs.declared.nodes.Join.{Join}
use Rattle.net_hier.specs.declared.nodes.Node.TheVariants.{Port, Pin, Net, Zero}

each_none : {A : Type 0} (Holds : A → Type 0) → Each Holds []
each_none Holds place item e = absurd (cc)

each_one : {A : Type 0} (Holds : A → Type 0) (x : A) → Holds x → Each Holds (x ∷ [])
each_one Holds x h zero item e = let p : x ≡ item = cc in subst Holds p h
each_one Holds x h (suc place) item e = absurd (cc)

each_two : {A : Type 0} (Holds : A → Type 0) (x y : A) → Holds x → Holds y → Each Holds (x ∷ y ∷ [])
each_two Holds x y h k zero item e = let p : x ≡ item = cc in subst Holds p h
each_two Holds x y h k (suc zero) item e = let p : y ≡ item = cc in subst Holds p k
each_two Holds x y h k (suc (suc place)) item e = absurd (cc)

none_named : {A : Type 0} (name : A → List ℕ) → HaveOwnNames name []
none_named name place oplace item oitem e f g = absurd (cc)

one_named : {A : Type 0} (name : A → List ℕ) (x : A) → HaveOwnNames name (x ∷ [])
one_named name x zero zero item oitem e f g = refl
one_named name x zero (suc oplace) item oitem e f g = absurd (cc)
one_named name x (suc place) oplace item oitem e f g = absurd (cc)

width_one : (name : ℕ) → IsPortWidth (output name)
width_one name = (omega arith, omega arith)

-- a cell that has one output and no instances
abbrev plain : List ℕ → ℕ → List Join → HCell
plain name port joins = record { name = name; ports = output port ∷ []; instances = []; nets = []; joins = joins; props = [] }

plain_good : (cells : List HCell) (name : List ℕ) (port : ℕ) (joins : List Join) → Each (IsJoinOf cells (plain name port joins)) joins → IsGoodCell cells (plain name port joins)
plain_good cells name port joins each = record {
  instances_in_range = each_none (λ instance. instance.cell < length cells);
  joins_in_range = each;
  port_names = one_named (λ p. p.name) (output port);
  instance_names = none_named (λ instance. instance.name);
  widths = each_one IsPortWidth (output port) (width_one port);
}

own_bit : (cell : HCell) (name : ℕ) → slice_get cell.ports 0 ≡ Some (output name) → IsPortBit cell 0 0
own_bit cell name e = record { the_port = output name; is_there = e; within = omega arith }

tied_good : IsGoodCell tied_design.cells tied_cell
tied_good = plain_good tied_design.cells (3 ∷ []) 4 (record { a = Port 0 0; b = Zero } ∷ []) (each_one (IsJoinOf tied_design.cells tied_cell) (record { a = Port 0 0; b = Zero }) (own_bit tied_cell 4 refl, tt))

zero_pin : IsPinBit translated_design.cells translated_cell 0 0 0
zero_pin = record { the_instance = record { name = 1 ∷ []; cell = 0; props = [] }; is_there = refl; below = zero_cell; is_below = refl; is_bit = own_bit zero_cell 71 refl }

translated_good : IsGoodCell translated_design.cells translated_cell
translated_good = record {
  instances_in_range = each_one (λ instance. instance.cell < length translated_design.cells) (record { name = 1 ∷ []; cell = 0; props = [] }) (omega arith);
  joins_in_range = each_two (IsJoinOf translated_design.cells translated_cell) (record { a = Net 0; b = Port 0 0 }) (record { a = Net 0; b = Pin 0 0 0 }) (omega arith, own_bit translated_cell 4 refl) (omega arith, zero_pin);
  port_names = one_named (λ p. p.name) (output 4);
  instance_names = one_named (λ instance. instance.name) (record { name = 1 ∷ []; cell = 0; props = [] });
  widths = each_one IsPortWidth (output 4) (width_one 4);
}

-- a design of good cells, which are all reached, and its postorder
valid_by : (design : Design) → design.top < length design.cells → Each (IsGoodCell design.cells) design.cells → ((number : ℕ) → number < length design.cells → IsReached (cells_below design.cells) design.top number) →
    IsPostorder (cells_below design.cells) design.top design.order → IsValid design
valid_by design within good reached order = record {
  has_top = within;
  good_cells = good;
  reached = reached;
  no_recursion = λ number reaches.
      let lt : number < length (cells_below design.cells) = slice_get_within (cells_below design.cells) number reaches.first.numbers reaches.first.are_below in
      postorder_free (cells_below design.cells) design.top design.order order number (reached number (subst (λ n. number < n) (same_length design.cells) lt)) reaches;
  postorder = order;
}

not_yet : (number : ℕ) → ¬ Contains [] number
not_yet number h = omega (arith, h.1)

-- a design of one cell
alone_valid : (cell : HCell) → IsGoodCell (cell ∷ []) cell → cell.instances ≡ [] → IsValid (record { cells = cell ∷ []; top = 0; props = []; order = 0 ∷ [] })
alone_valid cell good no_instances = valid_by (record { cells = cell ∷ []; top = 0; props = []; order = 0 ∷ [] }) (omega arith) (each_one (IsGoodCell (cell ∷ [])) cell good)
    (λ number lt. let z : 0 ≡ number = omega arith in subst (IsReached (cells_below (cell ∷ [])) 0) z (linked_itself (IsAbove (cells_below (cell ∷ []))) 0))
    (first {before = []} {middle = []} {number = 0} {numbers = []} (not_yet 0) (λ i. Some (below_none i)) none)
  where
    below_none : map (λ instance. instance.cell) cell.instances ≡ []
    below_none = ap (map (λ instance. instance.cell)) no_instances

pub tied_valid : IsValid tied_design
tied_valid = alone_valid tied_cell tied_good refl

pub untied_valid : IsValid untied_design
untied_valid = alone_valid (plain (3 ∷ []) 4 []) (plain_good untied_design.cells (3 ∷ []) 4 [] (each_none (IsJoinOf untied_design.cells (plain (3 ∷ []) 4 [])))) refl

-- the top has the zero cell below it
zero_below : IsAbove (cells_below translated_design.cells) 1 0
zero_below = record { numbers = 0 ∷ []; are_below = refl; place = 0; is_there = refl }

both_reached : (number : ℕ) → number < 2 → IsReached (cells_below translated_design.cells) 1 number
both_reached zero lt = linked_by zero_below
both_reached (suc zero) lt = linked_itself (IsAbove (cells_below translated_design.cells)) 1
both_reached (suc (suc number)) lt = absurd (omega arith)

pub translated_valid : IsValid translated_design
translated_valid = valid_by translated_design (omega arith)
    (each_two (IsGoodCell translated_design.cells) zero_cell translated_cell (plain_good translated_design.cells (71 ∷ 78 ∷ 68 ∷ []) 71 [] (each_none (IsJoinOf translated_design.cells zero_cell))) translated_good)
    both_reached
    (first {before = []} {middle = 0 ∷ []} {number = 1} {numbers = 0 ∷ []} (not_yet 1) refl (next (first {before = []} {middle = []} {number = 0} {numbers = []} (not_yet 0) refl none) none))
