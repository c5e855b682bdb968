-- The cells of a planned file stand where the plan says.
use Rattle.std.proofs.Common.{arith, ◌≡◌, ◌⊎◌, inl, inr, ℕ, ◌+◌, ◌-◌, ◌<◌, Bool, true, List, [], ◌∷◌, Some, get_or, length, map, refl, sym, ap, ◌∙◌, subst}
use Rattle.std.specs.Prelude.{slice_get}
use Rattle.std.proofs.lemmas.Option.{slice_get_within}
use Rattle.edif_values.specs.declared.name.NameDef.{NameDef}
use Rattle.edif_values.specs.declared.property.Property.{Property}
use Rattle.edif_values.specs.declared.instance.Instance.{Instance}
use Rattle.edif_values.specs.declared.net.Net.{Net}
use Rattle.edif_values.specs.declared.port.Port.{Port}
use Rattle.edif_values.specs.declared.cell.Cell.{Cell}
use Rattle.edif_values.specs.declared.file.EdifFile.{EdifFile}
use Rattle.edif_meanings.specs.Apart.{AreApart}
use Rattle.edif_design.specs.CellRules.{means_view, port_ident}
use Rattle.edif_design.specs.Parts.{ports}
use Rattle.edif_written.specs.Naming.{name_for}
use Rattle.edif_written.specs.Written.{cell_of, netlist}
use Rattle.edif_written.proofs.Parts.{ports_are, view_is_meant}
use Rattle.edif_plans.specs.Summaries.{PortSummary, summary_for, summary_of, size_for}
use Rattle.edif_plans.specs.Made.{new_cell_for, output_for}
use Rattle.edif_plans.specs.Plans.{constant_number, head_at, head_of, no_head, number_of}
use Rattle.edif_plans.specs.declared.head.Head.{Head}
use Rattle.edif_plans.proofs.Lists.{at_get}
use Rattle.edif_partners.specs.Files.{AreMadeCells, IsNewCell, IsOldCell}
use Rattle.edif_partners.specs.Placed.{ArePlaced, ConstantStands, IsHeadFor, StandsAt}
use Rattle.edif_partners.proofs.Free.{shown_at}
use Rattle.edif_plans.specs.Missing.{IsNeeded}
use Rattle.edif_plans.specs.Planned.{IsMadeOf, IsOldAt, IsPlannedFile}
use Rattle.edif_copies.proofs.Lists.{only_item, same_shown}
use Rattle.net_bits.specs.Classes.{AreClasses, ClassTable}
use Rattle.net_graph.proofs.ListLaws.{element_there, same_element}
use Rattle.net_graph.proofs.OrderLaws.{HasBelow, StandsIn, reached_listed, visits_below, visits_lists}
use Rattle.net_hier.specs.Constants.{ConstantNames, name_of_constant}
use Rattle.net_hier.specs.declared.constants.ConstName.{ConstName}
use Rattle.net_hier.specs.Design.{Design, IsCell, cells_below}
use Rattle.net_hier.specs.Valid.{IsValid}
use Rattle.net_hier.specs.declared.cells.HCell.{HCell}
use Rattle.net_hier.proofs.Pairs.{lt_or_le}
use Rattle.net_live.specs.Live.{needs_constant}
use Rattle.net_live.proofs.NeedLaws.{need_is}

cell_name_is : (name : NameDef) (ps : List Port) (is : List Instance) (ns : List Net) (properties : List Property) → (cell_of name ps is ns properties).name ≡ name
unfolding cell_of
cell_name_is name ps is ns properties = refl

one_apart : (ident : List ℕ) → AreApart (ident ∷ [])
unfolding AreApart
one_apart ident = (refl, tt)

module _ (names : ConstantNames) (design : Design) (file : EdifFile) (valid : IsValid design) (planned : IsPlannedFile names design file) where
  -- the cell at a place is the new one for a constant
  pub record IsNew (i : ℕ) (made : Cell) : Type 0 where
    pub value : Bool
    pub is_value : slice_get planned.values i ≡ Some value
    pub is_made : made ≡ new_cell_for (head_at planned.plan i) (name_of_constant names value)

  -- it is made of the cell of this number
  pub record IsCopy (number i : ℕ) (made : Cell) : Type 0 where
    pub place : ℕ
    pub is_placed : slice_get design.order place ≡ Some number
    pub is_number : number_of planned.plan number ≡ length planned.values + place
    pub same_number : number_of planned.plan number ≡ i
    pub is_there : slice_get planned.cells i ≡ Some made
    pub is_made : IsMadeOf names design planned.plan number made

  -- each is one or the other
  pub kind_of : (i : ℕ) (made : Cell) → slice_get planned.cells i ≡ Some made → IsNew i made ⊎ ((number : ℕ) × IsCopy number i made)
  kind_of i made there = elim (lt_or_le i (length planned.values)) as (λ _. IsNew i made ⊎ ((number : ℕ) × IsCopy number i made)) [
    | inl lt ↦
        let value = element_there planned.values i lt in
        inl (record { value = value.0; is_value = value.1; is_made = planned.are_cells.new i value.0 made value.1 there })
    | inr le ↦
        let inside = slice_get_within planned.cells i made there in
        let long = planned.are_cells.as_many in
        let place : ℕ = i - length planned.values in
        let at : length planned.values + place ≡ i = omega (arith, le) in
        let number = element_there design.order place (omega (arith, inside, long, le)) in
        let is_number = planned.is_plan.numbers place number.0 number.1 in
        inr (
          number.0,
          record {
            place = place;
            is_placed = number.1;
            is_number = is_number;
            same_number = is_number ∙ at;
            is_there = there;
            is_made = planned.are_cells.old place number.0 made number.1 (ap (slice_get planned.cells) at ∙ there);
          },
        )
  ]

  -- what is made of a cell of the order stands where the plan says
  pub copy_of : (place number : ℕ) → slice_get design.order place ≡ Some number → (made : Cell) × IsCopy number (number_of planned.plan number) made
  copy_of place number placed =
      let inside = slice_get_within design.order place number placed in
      let long = planned.are_cells.as_many in
      let is_number = planned.is_plan.numbers place number placed in
      let made = element_there planned.cells (number_of planned.plan number) (omega (arith, inside, long, is_number)) in (
        made.0,
        record {
          place = place;
          is_placed = placed;
          is_number = is_number;
          same_number = refl;
          is_there = made.1;
          is_made = planned.are_cells.old place number made.0 placed (ap (slice_get planned.cells) (sym is_number) ∙ made.1);
        },
      )

  abbrev graph : List (List ℕ)
  graph = cells_below design.cells

  -- each number of the order stands behind those below it
  pub all_below : HasBelow (cells_below design.cells) design.order
  all_below = visits_below graph design.top valid.postorder (λ place number list at instance e is_list there. absurd cc)

  -- each cell stands in the order
  pub placed_at : (number : ℕ) → number < length design.cells → StandsIn design.order number
  placed_at number inside = reached_listed graph design.top design.order all_below (visits_lists graph design.top valid.postorder) number (valid.reached number inside)

  pub copy_at : (number : ℕ) → number < length design.cells → (made : Cell) × IsCopy number (number_of planned.plan number) made
  copy_at number inside = let at = placed_at number inside in copy_of at.place number at.is_there

  -- ---- heads

  new_head : (head : Head) (constant : ConstName) → length head.ports ≡ 1 → IsHeadFor head (new_cell_for head constant)
  new_head head constant one = record {
    cell = sym (ap (λ (n : NameDef). n.ident) (cell_name_is (name_for head.cell constant.cell) (output_for (get_or head.ports 0 []) constant.port ∷ []) [] [] []));
    ports_named = only_item head.ports [] one ∙ sym (ap (map port_ident) (ports_are (name_for head.cell constant.cell) (output_for (get_or head.ports 0 []) constant.port ∷ []) [] [] []));
  }

  old_head : (number : ℕ) (made : Cell) → IsMadeOf names design planned.plan number made → IsHeadFor (head_of planned.plan number) made
  old_head number made is =
      let c = is.is_made in
      let cell_name : NameDef = name_for (head_of planned.plan number).cell is.cell.name in
      subst (IsHeadFor (head_of planned.plan number)) (sym c.is_cell) (record {
        cell = sym (ap (λ (n : NameDef). n.ident) (cell_name_is cell_name c.ports c.made_instances c.nets c.properties));
        ports_named = sym (ap (map port_ident) (ports_are cell_name c.ports c.made_instances c.nets c.properties) ∙ c.are_ports.idents);
      })

  new_one : (i : ℕ) (made : Cell) (new : IsNew i made) → length (head_at planned.plan i).ports ≡ 1
  new_one i made new = (planned.is_plan.new_heads i new.value new.is_value).len

  -- the head of each cell has its identifiers
  pub head_for : (i : ℕ) (made : Cell) → slice_get planned.cells i ≡ Some made → IsHeadFor (head_at planned.plan i) made
  head_for i made there = elim (kind_of i made there) as (λ _. IsHeadFor (head_at planned.plan i) made) [
    | inl new ↦ subst (IsHeadFor (head_at planned.plan i)) (sym new.is_made) (new_head (head_at planned.plan i) (name_of_constant names new.value) (new_one i made new))
    | inr copy ↦ subst (λ k. IsHeadFor (head_at planned.plan k) made) copy.1.same_number (old_head copy.0 made copy.1.is_made)
  ]

  idents_apart : AreApart (map (λ (cell : Cell). cell.name.ident) planned.cells)
  idents_apart = subst AreApart (same_shown (λ (head : Head). head.cell) (λ (cell : Cell). cell.name.ident) planned.plan.heads planned.cells (planned.is_plan.as_many ∙ sym planned.are_cells.as_many) same) planned.is_plan.idents.apart
    where
      same : (i : ℕ) (head : Head) (cell : Cell) → slice_get planned.plan.heads i ≡ Some head → slice_get planned.cells i ≡ Some cell → head.cell ≡ cell.name.ident
      same i head cell is_head there = subst (λ (h : Head). h.cell ≡ cell.name.ident) (at_get planned.plan.heads i head no_head is_head) (head_for i cell there).cell

  viewed : (i : ℕ) (cell : Cell) → slice_get planned.cells i ≡ Some cell → means_view cell netlist ≡ true
  viewed i cell there = elim (kind_of i cell there) as (λ _. means_view cell netlist ≡ true) [
    | inl new ↦
        let head : Head = head_at planned.plan i in
        let constant : ConstName = name_of_constant names new.value in
        subst (λ (c : Cell). means_view c netlist ≡ true) (sym new.is_made) (view_is_meant (name_for head.cell constant.cell) (output_for (get_or head.ports 0 []) constant.port ∷ []) [] [] [])
    | inr copy ↦
        let c = copy.1.is_made.is_made in
        subst (λ (d : Cell). means_view d netlist ≡ true) (sym c.is_cell) (view_is_meant (name_for (head_of planned.plan copy.0).cell copy.1.is_made.cell.name) c.ports c.made_instances c.nets c.properties)
  ]

  heads_apart : (i : ℕ) (made : Cell) → slice_get planned.cells i ≡ Some made → AreApart (head_at planned.plan i).ports
  heads_apart i made there = elim (kind_of i made there) as (λ _. AreApart (head_at planned.plan i).ports) [
    | inl new ↦ (planned.is_plan.new_heads i new.value new.is_value).apart
    | inr copy ↦ subst (λ k. AreApart (head_at planned.plan k).ports) copy.1.same_number (planned.is_plan.old_heads copy.0 copy.1.is_made.cell copy.1.is_made.is_there).apart
  ]

  ports_apart : (i : ℕ) (cell : Cell) → slice_get planned.cells i ≡ Some cell → AreApart (map port_ident (ports cell))
  ports_apart i cell there = subst AreApart (head_for i cell there).ports_named (heads_apart i cell there)

  made_summaries : (number : ℕ) (made : Cell) (is : IsMadeOf names design planned.plan number made) → map summary_of (ports made) ≡ map summary_for is.cell.ports
  made_summaries number made is =
      let c = is.is_made in
      subst (λ (d : Cell). map summary_of (ports d) ≡ map summary_for is.cell.ports) (sym c.is_cell)
      (ap (map summary_of) (ports_are (name_for (head_of planned.plan number).cell is.cell.name) c.ports c.made_instances c.nets c.properties) ∙ c.are_ports.summaries)

  stands : (number : ℕ) (cell : HCell) → IsCell design.cells number cell → StandsAt planned.plan planned.cells number cell
  stands number cell is_cell =
      let copy = copy_at number (slice_get_within design.cells number cell is_cell) in
      let same : copy.1.is_made.cell ≡ cell = same_element design.cells number copy.1.is_made.cell cell copy.1.is_made.is_there is_cell in
      record {
        made = copy.0;
        is_there = copy.1.is_there;
        head = head_for (number_of planned.plan number) copy.0 copy.1.is_there;
        summaries = subst (λ (c : HCell). map summary_of (ports copy.0) ≡ map summary_for c.ports) same (made_summaries number copy.0 copy.1.is_made);
      }

  pub are_placed : ArePlaced design.cells planned.plan planned.cells
  are_placed = record { apart = idents_apart; viewed = viewed; ports_apart = ports_apart; stand = stands }

  -- ---- constants

  -- the constant is needed by a cell, as its classes tell
  pub needed_by : (number : ℕ) (cell : HCell) (classes : ClassTable) (value : Bool) → IsCell design.cells number cell → AreClasses cell classes → needs_constant classes value ≡ true → IsNeeded design value
  needed_by number cell classes value is_cell are_classes needed =
      record { number = number; cell = cell; is_there = is_cell; needs = (need_is design.cells cell classes are_classes (valid.good_cells number cell is_cell).joins_in_range value).0 needed }

  pub constant_stands : (value : Bool) → IsNeeded design value → ConstantStands planned.plan planned.cells value
  constant_stands value needed = elim (planned.is_plan.constants value needed) as (λ _. ConstantStands planned.plan planned.cells value) [
    | inl at ↦
        let k : ℕ = constant_number planned.plan value in
        let inside = slice_get_within planned.values k value at in
        let long = planned.are_cells.as_many in
        let made = element_there planned.cells k (omega (arith, inside, long)) in
        let head : Head = head_at planned.plan k in
        let constant : ConstName = name_of_constant names value in
        let port : Port = output_for (get_or head.ports 0 []) constant.port in
        record {
          made = made.0;
          is_there = made.1;
          head = head_for k made.0 made.1;
          port = port;
          has_port = ap (λ (c : Cell). slice_get (ports c) 0) (planned.are_cells.new k value made.0 at made.1) ∙ ap (λ (l : List Port). slice_get l 0) (ports_are (name_for head.cell constant.cell) (port ∷ []) [] [] []);
          is_scalar = refl;
        }
    | inr old ↦ old_stands old
  ]
    where
      old_stands : IsOldAt names design (length planned.values) value (constant_number planned.plan value) → ConstantStands planned.plan planned.cells value
      old_stands old =
          let copy = copy_of old.place old.old old.is_placed in
          let k : ℕ = constant_number planned.plan value in
          let at : number_of planned.plan old.old ≡ k = planned.is_plan.numbers old.place old.old old.is_placed ∙ sym old.is_number in
          let there : slice_get planned.cells k ≡ Some copy.0 = ap (slice_get planned.cells) (sym at) ∙ copy.1.is_there in
          let same : copy.1.is_made.cell ≡ old.cell = same_element design.cells old.old copy.1.is_made.cell old.cell copy.1.is_made.is_there old.is_cell in
          let port_summaries : map summary_of (ports copy.0) ≡ summary_for old.is_constant.port ∷ [] = made_summaries old.old copy.0 copy.1.is_made ∙ (ap (λ (c : HCell). map summary_for c.ports) same ∙ ap (map summary_for) old.is_constant.only_port) in
          let found = shown_at summary_of (ports copy.0) 0 (summary_for old.is_constant.port) (ap (λ (l : List PortSummary). slice_get l 0) port_summaries) in
          record {
            made = copy.0;
            is_there = there;
            head = head_for k copy.0 there;
            port = found.item;
            has_port = found.is_there;
            is_scalar = ap (λ (f : PortSummary). f.size) found.shows ∙ ap size_for old.is_constant.is_scalar;
          }

  -- the cells are made for the constants and of the cells of the design
  pub are_made : AreMadeCells names design planned.plan planned.cells
  are_made = record {
    placed = are_placed;
    each = λ i made there. elim (kind_of i made there) as (λ _. IsNewCell names planned.plan i made ⊎ IsOldCell design planned.plan made) [
      | inl new ↦ inl (record { value = new.value; is_made = new.is_made })
      | inr copy ↦
          let is = copy.1.is_made in
          inr (record { number = copy.0; cell = is.cell; is_there = is.is_there; classes = is.classes; are_classes = is.are_classes; is_made = is.is_made })
    ];
    constants = λ number cell classes value is_cell are_classes needed. constant_stands value (needed_by number cell classes value is_cell are_classes needed);
  }
