-- The cells of a design that says what a planned file says: those of the constants, and behind them the partners of the cells of the design of which the file is made.
use Rattle.std.proofs.Common.{arith, ◌≡◌, inl, inr, ℕ, ◌<◌, ◌≤◌, Bool, true, false, List, Some, length, sym, ap, ◌∙◌, subst}
use Rattle.std.specs.Prelude.{Contains, slice_get}
use Rattle.std.proofs.lemmas.Option.{slice_get_within}
use Rattle.edif_values.specs.declared.cell.Cell.{Cell}
use Rattle.edif_values.specs.declared.file.EdifFile.{EdifFile}
use Rattle.edif_design.specs.Design.{cell_value, numbers_in_design}
use Rattle.edif_design.specs.References.{linked_cell, place_in}
use Rattle.edif_plans.specs.Plans.{constant_number, head_at, head_of, number_of}
use Rattle.edif_partners.proofs.Same.{made_same}
use Rattle.edif_copies.specs.Answers.{IsEdifDesign}
use Rattle.edif_plans.specs.Missing.{IsNeeded}
use Rattle.edif_plans.specs.Planned.{IsOldAt, IsPlannedFile}
use Rattle.edif_copies.proofs.Lists.{at_most_two, stands_once}
use Rattle.edif_copies.proofs.NewCells.{joins_name_none, new_is_constant}
use Rattle.edif_copies.proofs.Placing.{IsCopy, are_placed, constant_stands, copy_at, copy_of, needed_by}
use Rattle.edif_copies.proofs.Reaching.{cell_at, no_properties, same_length, same_number, same_top, whole}
use Rattle.net_graph.proofs.ListLaws.{element_there, same_element}
use Rattle.net_hier.specs.Cells.{IsBitOrConstant, IsConstantCell, IsLeaf, IsPortBitOrConstant, constant_node}
use Rattle.net_hier.specs.Constants.{AreConstantNames, ConstantNames}
use Rattle.net_hier.specs.Design.{Design, IsCell}
use Rattle.net_hier.specs.SameCells.{HasConstantCells, IsPartner, NeedsConstant, SameCell, SameCells}
use Rattle.net_hier.specs.Valid.{IsValid}
use Rattle.net_hier.specs.declared.cells.HCell.{HCell}
use Rattle.net_hier.specs.declared.nodes.Node.{Node}
use Rattle.net_hier.specs.declared.nodes.Node.TheVariants.{Port, Pin, Net, Zero, One}
use Rattle.net_hier.proofs.Pairs.{constant_forth, no_element, one_kind}
use Rattle.net_live.specs.Live.{needs_constant}
use Rattle.net_live.proofs.NeedLaws.{need_is}

-- ---- a leaf needs no constant

module _ (cells : List HCell) (cell : HCell) (leaf : IsLeaf cell) where
  leaf_bit : (x : Node) → IsBitOrConstant cells cell x → IsPortBitOrConstant cell x
  leaf_bit (Port port bit) h = h
  leaf_bit (Pin instance port bit) h = absurd (no_element cell.instances instance h.the_instance leaf.no_instances h.is_there)
  leaf_bit (Net net) h = h
  leaf_bit Zero h = tt
  leaf_bit One h = tt

  constant_bit : (value : Bool) → IsPortBitOrConstant cell (constant_node value)
  constant_bit false = tt
  constant_bit true = tt

  leaf_needs_none : (value : Bool) → NeedsConstant cells cell value → ⊥
  leaf_needs_none value need = need.is_other (sym (leaf.apart (constant_node value) need.node (constant_bit value) (leaf_bit need.node need.is_bit) need.is_connected))

module _ (names : ConstantNames) (design : Design) (file : EdifFile) (valid : IsValid design) (planned : IsPlannedFile names design file) (other : Design) (is : IsEdifDesign (whole names design file valid planned) other) where
  abbrev count : ℕ
  count = length planned.values

  abbrev value_of : Cell → HCell
  value_of made = cell_value (numbers_in_design (whole names design file valid planned)) (linked_cell (whole names design file valid planned) (place_in 0 made))

  pub counterpart_at : (i : ℕ) (made : Cell) → slice_get planned.cells i ≡ Some made → IsCell other.cells i (value_of made)
  counterpart_at i made there = ap (λ (cs : List HCell). slice_get cs i) is.same_cells ∙ cell_at names design file valid planned i made there

  pub counterparts_long : length other.cells ≡ length planned.cells
  counterparts_long = ap length is.same_cells ∙ same_length names design file valid planned

  -- a cell of the design stands for one of the file
  pub made_at : (i : ℕ) (counterpart : HCell) → IsCell other.cells i counterpart → (made : Cell) × (slice_get planned.cells i ≡ Some made) × (value_of made ≡ counterpart)
  made_at i counterpart there =
      let inside = slice_get_within other.cells i counterpart there in
      let made = element_there planned.cells i (omega (arith, inside, counterparts_long)) in
      (made.0, made.1, same_element other.cells i (value_of made.0) counterpart (counterpart_at i made.0 made.1) there)

  partner_of : (number : ℕ) (cell : HCell) → IsCell design.cells number cell → IsPartner design (Some (length planned.values)) number (number_of planned.plan number)
  partner_of number cell there =
      let copy = copy_at names design file valid planned number (slice_get_within design.cells number cell there) in
      (copy.1.place, copy.1.is_placed, copy.1.is_number)

  -- the cell of a constant, where it is needed
  abbrev Stands : Bool → Type 0
  Stands value = (below : HCell) × IsCell other.cells (constant_number planned.plan value) below × IsConstantCell names value below

  -- what is made of a cell is its partner, where the constants that it needs have cells
  copy_same : (number i : ℕ) (made : Cell) (copy : IsCopy names design file valid planned number i made) → ((value : Bool) → needs_constant copy.is_made.classes value ≡ true → Stands value)
      → SameCell names design other (Some (length planned.values)) number i copy.is_made.cell (value_of made)
  copy_same number i made copy constants =
      let m = copy.is_made in
      made_same planned.name planned.design_name planned.cells (head_of planned.plan design.top).cell names design other planned.plan (length planned.values) (are_placed names design file valid planned)
      (numbers_in_design (whole names design file valid planned)) (same_number names design file valid planned) partner_of (is.same_props ∙ no_properties names design file valid planned)
      number i m.cell m.is_there m.classes m.are_classes (valid.good_cells number m.cell m.is_there) made m.is_made (planned.is_plan.old_heads number m.cell m.is_there).apart
      (λ value needed. constant_stands names design file valid planned value (needed_by names design file valid planned number m.cell m.classes value m.is_there m.are_classes needed)) constants

  -- the new cell of a constant stands for it
  new_counterpart : (i : ℕ) (value : Bool) (made : Cell) → slice_get planned.values i ≡ Some value → slice_get planned.cells i ≡ Some made → IsConstantCell names value (value_of made)
  new_counterpart i value made at there =
      subst (λ (c : Cell). IsConstantCell names value (value_of c)) (sym (planned.are_cells.new i value made at there))
      (new_is_constant (whole names design file valid planned) (numbers_in_design (whole names design file valid planned)) (head_at planned.plan i) names value)

  -- what is made of a cell that stands for a constant stands for it
  old_counterpart : (value : Bool) (old : IsOldAt names design (length planned.values) value (constant_number planned.plan value)) → Stands value
  old_counterpart value old =
      let copy = copy_of names design file valid planned old.place old.old old.is_placed in
      let m = copy.1.is_made in
      let same : old.cell ≡ m.cell = same_element design.cells old.old old.cell m.cell old.is_cell m.is_there in
      let constant : IsConstantCell names value m.cell = subst (IsConstantCell names value) same old.is_constant in
      let at : number_of planned.plan old.old ≡ constant_number planned.plan value = planned.is_plan.numbers old.place old.old old.is_placed ∙ sym old.is_number in
      let none : (v : Bool) → needs_constant m.classes v ≡ true → Stands v = λ v needed. absurd (leaf_needs_none design.cells m.cell constant.is_leaf v
      ((need_is design.cells m.cell m.classes m.are_classes (valid.good_cells old.old m.cell m.is_there).joins_in_range v).0 needed)) in (
        value_of copy.0,
        subst (λ k. IsCell other.cells k (value_of copy.0)) at (counterpart_at (number_of planned.plan old.old) copy.0 copy.1.is_there),
        constant_forth names design other (Some (length planned.values)) old.old (number_of planned.plan old.old) m.cell (value_of copy.0) value (copy_same old.old (number_of planned.plan old.old) copy.0 copy.1 none) constant,
      )

  constant_counterpart : (value : Bool) → IsNeeded design value → Stands value
  constant_counterpart value needed = elim (planned.is_plan.constants value needed) as (λ _. Stands value) [
    | inl at ↦
        let k : ℕ = constant_number planned.plan value in
        let inside = slice_get_within planned.values k value at in
        let made = element_there planned.cells k (let long = planned.are_cells.as_many in omega (arith, inside, long)) in
        (value_of made.0, counterpart_at k made.0 made.1, new_counterpart k value made.0 at made.1)
    | inr old ↦ old_counterpart value old
  ]

  -- what is made of a cell is its partner
  pub same_copy : (number i : ℕ) (made : Cell) (copy : IsCopy names design file valid planned number i made) → SameCell names design other (Some (length planned.values)) number i copy.is_made.cell (value_of made)
  same_copy number i made copy =
      let m = copy.is_made in
      copy_same number i made copy (λ value needed. constant_counterpart value (needed_by names design file valid planned number m.cell m.classes value m.is_there m.are_classes needed))

  -- ---- all cells

  -- each first cell is that of a missing constant
  pub first_counterpart : (i : ℕ) (counterpart : HCell) → i < length planned.values → IsCell other.cells i counterpart → (value : Bool) × (slice_get planned.values i ≡ Some value) × IsConstantCell names value counterpart
  first_counterpart i counterpart inside there =
      let value = element_there planned.values i inside in
      let made = made_at i counterpart there in
      (value.0, value.1, subst (IsConstantCell names value.0) made.2 (new_counterpart i value.0 made.0 value.1 made.1))

  same_kind : (good : AreConstantNames names) (value : Bool) (i : ℕ) (counterpart : HCell) → i < length planned.values → IsCell other.cells i counterpart → IsConstantCell names value counterpart → slice_get planned.values i ≡ Some value
  same_kind good value i counterpart inside there constant =
      let first = first_counterpart i counterpart inside there in
      subst (λ v. slice_get planned.values i ≡ Some v) (one_kind names good first.0 value counterpart first.2 constant) first.1

  first_cells_are : AreConstantNames names → HasConstantCells names other (length planned.values)
  first_cells_are good = record {
    first = λ i counterpart inside there. let first = first_counterpart i counterpart inside there in (first.0, first.2);
    once = λ value i j counterpart ocounterpart hi hj there othere constant oconstant.
        stands_once planned.are_missing.is_missing i j value
        (subst (λ l. slice_get l i ≡ Some value) planned.are_missing.are_those (same_kind good value i counterpart hi there constant))
        (subst (λ l. slice_get l j ≡ Some value) planned.are_missing.are_those (same_kind good value j ocounterpart hj othere oconstant));
    no_join = λ i counterpart join value there h.
        let made = made_at i counterpart there in
        joins_name_none (numbers_in_design (whole names design file valid planned)) (linked_cell (whole names design file valid planned) (place_in 0 made.0)) join value
        (subst (λ (c : HCell). Contains c.joins join) (sym made.2) h);
  }

  few_missing : length planned.values ≤ 2
  few_missing = subst (λ (l : List Bool). length l ≤ 2) (sym planned.are_missing.are_those) (at_most_two planned.are_missing.is_missing)

  abbrev HasPartner : ℕ → ℕ → HCell → Type 0
  HasPartner number onumber cell = (partner : HCell) × IsCell other.cells onumber partner × SameCell names design other (Some (length planned.values)) number onumber cell partner

  partner_at : (number onumber : ℕ) (cell : HCell) → IsPartner design (Some (length planned.values)) number onumber → IsCell design.cells number cell → HasPartner number onumber cell
  partner_at number onumber cell are_partners there =
      let copy = copy_of names design file valid planned are_partners.0 number are_partners.1 in
      let m = copy.1.is_made in
      let at : number_of planned.plan number ≡ onumber = planned.is_plan.numbers are_partners.0 number are_partners.1 ∙ sym are_partners.2 in
      let same : m.cell ≡ cell = same_element design.cells number m.cell cell m.is_there there in
      subst (HasPartner number onumber) same
      (subst (λ k. HasPartner number k m.cell) at
      (value_of copy.0, counterpart_at (number_of planned.plan number) copy.0 copy.1.is_there, same_copy number (number_of planned.plan number) copy.0 copy.1))

  top_partner : IsPartner design (Some (length planned.values)) design.top other.top
  top_partner =
      let copy = copy_at names design file valid planned design.top valid.has_top in
      (copy.1.place, copy.1.is_placed, is.same_top ∙ (same_top names design file valid planned ∙ copy.1.is_number))

  -- the cells are the same
  pub same_cells : AreConstantNames names → SameCells names design other (Some (length planned.values))
  same_cells good = record {
    first = (few_missing, first_cells_are good);
    no_more = counterparts_long ∙ planned.are_cells.as_many;
    same_top = top_partner;
    same_cells = partner_at;
  }
