-- The other of two designs that are the same cell by cell has a cell for each path, where its instances have names of their own.
use Rattle.std.proofs.Common.{◌≡◌, ℕ, ◌+◌, ◌-◌, ◌<◌, ◌≤◌, inl, inr, List, [], sym, ◌∙◌, ap, subst, slice_get, Some, None, Option, length, Bool, arith}
use Rattle.std.proofs.lemmas.Option.{slice_get_within}
use Rattle.net_graph.specs.Graph.{HasList, Visits, VisitsEach, again, first, none, next}
use Rattle.net_graph.proofs.OrderLaws.{front_or_last}
use Rattle.net_hier.specs.Cells.{IsConstantCell}
use Rattle.net_hier.specs.Constants.{ConstantNames}
use Rattle.net_hier.specs.Design.{Design, IsCell, cells_below}
use Rattle.net_hier.specs.SameCells.{HasFirstCells, IsPartner, SameCell, SameCells, first_cells}
use Rattle.net_hier.specs.Valid.{Each, HasPaths, HaveOwnInstances, IsValid}
use Rattle.net_hier.specs.declared.cells.HCell.{HCell}
use Rattle.net_hier.specs.declared.cells.HInst.{HInst}
use Rattle.net_hier.proofs.Building.{list_of}
use Rattle.net_hier.proofs.PathLaws.{element_there, same_element}
use Rattle.net_hier.proofs.Pairs.{lt_or_le, no_element}

-- each number of the list has a list in the graph
abbrev AllListed : List (List ℕ) → List ℕ → Type 0
AllListed graph xs = (place number : ℕ) → slice_get xs place ≡ Some number → (list : List ℕ) × HasList graph number list

module _ (graph : List (List ℕ)) where
  mutual
    visits_listed : {before after : List ℕ} {number : ℕ} → Visits graph before number after → AllListed graph before → AllListed graph after
    visits_listed (again h) all place other e = all place other e
    visits_listed (first {middle = middle} {number = number} {numbers = numbers} fresh is_list each) all place other e =
        elim (front_or_last middle number place other e) [
          | inl f ↦ visits_each_listed each all place other f
          | inr f ↦ (numbers, subst (λ m. HasList graph m numbers) f.1 is_list)
        ]

    visits_each_listed : {before after : List ℕ} {numbers : List ℕ} → VisitsEach graph before numbers after → AllListed graph before → AllListed graph after
    visits_each_listed none all place other e = all place other e
    visits_each_listed (next one rest) all place other e = visits_each_listed rest (λ i m f. visits_listed one all i m f) place other e

nothing_listed : (graph : List (List ℕ)) → AllListed graph []
nothing_listed graph place number e = absurd (cc)

-- the conditions of a design give it paths
pub valid_has_paths : (design : Design) → IsValid design → HasPaths design
valid_has_paths design valid = record {
  has_top = valid.has_top;
  instances_in_range = λ number cell is_cell. (valid.good_cells number cell is_cell).instances_in_range;
  own_instances = λ number cell is_cell. (valid.good_cells number cell is_cell).instance_names;
}

module _ (names : ConstantNames) (design other : Design) (n : Option ℕ) (valid : IsValid design) (same : SameCells names design other n) where
  -- each number of the order is that of a cell
  ordered_there : (place number : ℕ) → slice_get design.order place ≡ Some number → (cell : HCell) × IsCell design.cells number cell
  ordered_there place number e =
      let (list, h) = visits_listed (cells_below design.cells) valid.postorder (nothing_listed (cells_below design.cells)) place number e in
      let l = list_of design.cells number list h in
      (l.cell, l.is_cell)

  partner_within : (number partner : ℕ) → IsPartner design n number partner → partner < length other.cells
  partner_within number partner p =
      let lt : p.0 < length design.order = slice_get_within design.order p.0 number p.1 in
      let e : partner ≡ first_cells n + p.0 = p.2 in
      let f : length other.cells ≡ first_cells n + length design.order = same.no_more in
      omega (arith, lt, e, f)

  -- a cell of the other design that is no first one is the partner of a cell
  pub record HasPartner (onumber : ℕ) (partner : HCell) : Type 0 where
    pub number : ℕ
    pub cell : HCell
    pub is_cell : IsCell design.cells number cell
    pub same_cell : SameCell names design other n number onumber cell partner

  partner_of : (onumber : ℕ) (partner : HCell) → IsCell other.cells onumber partner → first_cells n ≤ onumber → HasPartner onumber partner
  partner_of onumber partner is_ocell le =
      let within : onumber < length other.cells = slice_get_within other.cells onumber partner is_ocell in
      let f : length other.cells ≡ first_cells n + length design.order = same.no_more in
      let place : ℕ = onumber - first_cells n in
      let lt : place < length design.order = omega (arith, within, f, le) in
      let (number, e) = element_there design.order place lt in
      let (cell, is_cell) = ordered_there place number e in
      let split : onumber ≡ first_cells n + place = omega (arith, le) in
      let (found, is_found, sc) = same.same_cells number onumber cell (place, e, split) is_cell in
      let p : found ≡ partner = same_element other.cells onumber found partner is_found is_ocell in
      record { number = number; cell = cell; is_cell = is_cell; same_cell = subst (SameCell names design other n number onumber cell) p sc }

  first_alone : (m : Option ℕ) → HasFirstCells names other m → (onumber : ℕ) (cell : HCell) → IsCell other.cells onumber cell → onumber < first_cells m → (value : Bool) × IsConstantCell names value cell
  first_alone None h onumber cell is_ocell lt = absurd (omega (arith, lt))
  first_alone (Some m) h onumber cell is_ocell lt = h.1.first onumber cell lt is_ocell

  instance_within : (onumber : ℕ) (partner : HCell) → HasPartner onumber partner → Each (λ instance. instance.cell < length other.cells) partner.instances
  instance_within onumber partner h place counterpart there = elim (lt_or_le place (length h.cell.instances)) [
    | inl lt ↦
        let (x, xthere) = element_there h.cell.instances place lt in
        let (found, fthere, si) = h.same_cell.same_instances place x xthere in
        let e : found ≡ counterpart = same_element partner.instances place found counterpart fthere there in
        subst (λ i. i.cell < length other.cells) e (partner_within x.cell found.cell si.same_cell)
    | inr le ↦
        let (v, added) = h.same_cell.added_alone place le (slice_get_within partner.instances place counterpart there) in
        let c = (h.same_cell.added_after v place added).1 in
        let e : c.the_instance ≡ counterpart = same_element partner.instances place c.the_instance counterpart c.is_there there in
        subst (λ i. i.cell < length other.cells) e (slice_get_within other.cells c.the_instance.cell c.below c.is_below)
  ]

  in_range : (onumber : ℕ) (cell : HCell) → IsCell other.cells onumber cell → Each (λ instance. instance.cell < length other.cells) cell.instances
  in_range onumber cell is_ocell place counterpart there = elim (lt_or_le onumber (first_cells n)) [
    | inl lt ↦ let c = first_alone n same.first onumber cell is_ocell lt in absurd (no_element cell.instances place counterpart c.1.is_leaf.no_instances there)
    | inr le ↦ instance_within onumber cell (partner_of onumber cell is_ocell le) place counterpart there
  ]

  -- the other design has paths, where its instances have names of their own
  pub partner_has_paths : HaveOwnInstances other.cells → HasPaths other
  partner_has_paths own = record { has_top = partner_within design.top other.top same.same_top; instances_in_range = in_range; own_instances = own }

module _ (names : ConstantNames) (design other : Design) (valid : IsValid design) (same : SameCells names design other None) where
  -- where no instance is added the names of the instances are those of the design
  not_added : (onumber : ℕ) (partner : HCell) (h : HasPartner names design other None valid same onumber partner) (place : ℕ) (counterpart : HInst) → slice_get partner.instances place ≡ Some counterpart →
      (x : HInst) × (slice_get h.cell.instances place ≡ Some x) × (x.name ≡ counterpart.name)
  not_added onumber partner h place counterpart there = elim (lt_or_le place (length h.cell.instances)) [
    | inl lt ↦
        let (x, xthere) = element_there h.cell.instances place lt in
        let (found, fthere, si) = h.same_cell.same_instances place x xthere in
        let e : found ≡ counterpart = same_element partner.instances place found counterpart fthere there in
        (x, xthere, si.same_name ∙ ap (λ i. i.name) e)
    | inr le ↦
        let (v, added) = h.same_cell.added_alone place le (slice_get_within partner.instances place counterpart there) in
        let e : h.same_cell.added v ≡ None = h.same_cell.as_needed v in
        absurd (let clash : None ≡ Some place = sym e ∙ added in cc)
  ]

  pub partner_owns_instances : HaveOwnInstances other.cells
  partner_owns_instances onumber partner is_ocell place oplace item oitem there othere e =
      let h = partner_of names design other None valid same onumber partner is_ocell (omega arith) in
      let (x, xthere, p) = not_added onumber partner h place item there in
      let (y, ythere, q) = not_added onumber partner h oplace oitem othere in
      (valid.good_cells h.number h.cell h.is_cell).instance_names place oplace x y xthere ythere (p ∙ (e ∙ sym q))
