use Rattle.std.proofs.Common.{◌≡◌, ℕ, ◌<◌, inl, inr, List, [], ◌∷◌, sym, ◌∙◌, ap, subst, slice_get, Some, Option, length, Bool}
use Rattle.std.proofs.lemmas.Option.{slice_get_within}
use Rattle.nl_base.specs.declared.value.PropValue.{PropValue}
use Rattle.net_hier.specs.Cells.{IsConstantCell, IsConstantInstance, IsPinBit, IsPortBit}
use Rattle.net_hier.specs.Constants.{ConstantNames}
use Rattle.net_hier.specs.Design.{Design}
use Rattle.net_hier.specs.Paths.{Path, CellAt}
use Rattle.net_hier.specs.SameCells.{SameCells}
use Rattle.net_hier.specs.Valid.{HasPaths}
use Rattle.net_hier.proofs.PathLaws.{element_there, one_cell, one_number, same_element}
use Rattle.net_hier.proofs.Pairs.{signature_there, lt_or_le, PairAt, behind_constant, constant_back, constant_forth, instance_back, instance_forth, leads_forth, pair_here, pair_of, pair_there, path_back, pin_back, pin_forth, port_bit_same}
use Rattle.net_hier.specs.declared.cells.HCell.{HCell}
use Rattle.net_hier.specs.declared.cells.HInst.{HInst}
use Rattle.net_hier.specs.Facts.{Fact, OfCell, OfPort, OfInstance, OfPortBit, OfPinBit, IsFact, IsConstantPath, CellFact, PortFact, InstanceFact, PortBitFact, PinBitFact, HasLastValue, cell_props}

module _ (names : ConstantNames) (design other : Design) (n : Option ℕ) (valid : HasPaths design) (ovalid : HasPaths other) (same : SameCells names design other n) where
  -- a path that is kept in one design is kept in the other
  kept_forth : (path : Path) (cell : HCell) → CellAt design path cell → ¬ IsConstantPath names design path → ¬ IsConstantPath names other path
  kept_forth path cell at kept c =
      let (partner, pair) = pair_of names design other n valid ovalid same path cell at in
      let e : c.cell ≡ partner = one_cell other ovalid path c.cell partner c.at (pair_there pair) in
      kept (record {
        below_top = c.below_top;
        cell = cell;
        at = at;
        is_constant = (c.is_constant.0, constant_back names design other n pair.number pair.onumber cell partner c.is_constant.0 pair.same (subst (IsConstantCell names c.is_constant.0) e c.is_constant.1));
      })

  kept_back : (path : Path) (cell partner : HCell) → PairAt names design other n path cell partner → ¬ IsConstantPath names other path → ¬ IsConstantPath names design path
  kept_back path cell partner pair kept c =
      let e : c.cell ≡ cell = one_cell design valid path c.cell cell c.at (pair_here pair) in
      kept (record {
        below_top = c.below_top;
        cell = partner;
        at = pair_there pair;
        is_constant = (c.is_constant.0, constant_forth names design other n pair.number pair.onumber cell partner c.is_constant.0 pair.same (subst (IsConstantCell names c.is_constant.0) e c.is_constant.1));
      })

  -- where the path is kept in the other design, it leads in both
  pair_back : (path : Path) (partner : HCell) → CellAt other path partner → ¬ IsConstantPath names other path → (cell : HCell) × PairAt names design other n path cell partner
  pair_back path partner at kept = elim (path_back names design other n valid ovalid same path partner at) [
    | inl found ↦ found
    | inr behind ↦ absurd (kept (record {
      below_top = λ e. let f : behind.instance.name ∷ behind.above ≡ [] = sym behind.path_is ∙ e in cc;
      cell = partner;
      at = at;
      is_constant = (behind.value, behind_constant names design other n valid ovalid same path partner behind at);
    }))
  ]

  cell_fact : (path : Path) (cell partner : HCell) (pair : PairAt names design other n path cell partner) (name : List ℕ) (value : PropValue) (f : CellFact design path name value) → CellFact other path name value
  cell_fact path cell partner pair name value f =
      let (onumber, oleads, partners) = leads_forth names design other n valid ovalid same path f.number f.leads in
      let (opartner, is_ocell, sc) = same.same_cells f.number onumber f.cell partners f.is_cell in
      record { number = onumber; leads = oleads; cell = opartner; is_cell = is_ocell; is_value = (sc.same_props name value).0 f.is_value }

  -- an instance of no constant cell is not an added one
  not_added : (path : Path) (cell partner : HCell) (pair : PairAt names design other n path cell partner) (place : ℕ) (instance : HInst) → slice_get partner.instances place ≡ Some instance →
      ((v : Bool) → ¬ IsConstantInstance names other.cells partner v place) → place < length cell.instances
  not_added path cell partner pair place instance there none = elim (lt_or_le place (length cell.instances)) [
    | inl lt ↦ lt
    | inr le ↦
        let (v, e) = pair.same.added_alone place le (slice_get_within partner.instances place instance there) in
        absurd (none v (pair.same.added_after v place e).1)
  ]

  pub fact_forth : (fact : Fact) → IsFact names design fact → IsFact names other fact
  fact_forth (OfCell path name value) h =
      let f : CellFact design path name value = h.1 in
      let at : CellAt design path f.cell = record { number = f.number; leads = f.leads; is_cell = f.is_cell } in
      let (partner, pair) = pair_of names design other n valid ovalid same path f.cell at in
      let has : CellFact other path name value = cell_fact path f.cell partner pair name value f in
      (kept_forth path f.cell at h.0, has)
  fact_forth (OfPort path port name value) h =
      let f : PortFact design path port name value = h.1 in
      let (partner, pair) = pair_of names design other n valid ovalid same path f.cell f.at in
      let (counterpart, there, signature) = signature_there f.cell partner pair.same.same_ports f.number f.the_port f.is_there in
      let has : PortFact other path port name value = record {
        cell = partner;
        at = pair_there pair;
        number = f.number;
        the_port = counterpart;
        is_there = there;
        is_named = ap (λ w. w.name) signature ∙ f.is_named;
        is_value = (pair.same.same_port_props f.number f.the_port counterpart f.is_there there name value).0 f.is_value;
      } in
      (kept_forth path f.cell f.at h.0, has)
  fact_forth (OfInstance path instance name value) h =
      let f : InstanceFact names design path instance name value = h.1 in
      let (partner, pair) = pair_of names design other n valid ovalid same path f.cell f.at in
      let (counterpart, there, si) = pair.same.same_instances f.number f.the_instance f.is_there in
      let lt : f.number < length f.cell.instances = slice_get_within f.cell.instances f.number f.the_instance f.is_there in
      let has : InstanceFact names other path instance name value = record {
        cell = partner;
        at = pair_there pair;
        number = f.number;
        the_instance = counterpart;
        is_there = there;
        is_named = sym si.same_name ∙ f.is_named;
        no_constant = λ v c. f.no_constant v (instance_back names design other n valid ovalid same path f.cell partner pair v f.number lt c);
        is_value = (si.same_props name value).0 f.is_value;
      } in
      (kept_forth path f.cell f.at h.0, has)
  fact_forth (OfPortBit path port bit name value) h =
      let f : PortBitFact design path port bit name value = h.1 in
      let (partner, pair) = pair_of names design other n valid ovalid same path f.cell f.at in
      let has : PortBitFact other path port bit name value = record {
        cell = partner;
        at = pair_there pair;
        is_bit = port_bit_same f.cell partner pair.same.same_ports port bit f.is_bit;
        is_value = (pair.same.same_port_nets port bit f.is_bit name value).0 f.is_value;
      } in
      (kept_forth path f.cell f.at h.0, has)
  fact_forth (OfPinBit path instance port bit name value) h =
      let f : PinBitFact names design path instance port bit name value = h.1 in
      let (partner, pair) = pair_of names design other n valid ovalid same path f.cell f.at in
      let lt : instance < length f.cell.instances = slice_get_within f.cell.instances instance f.is_bit.the_instance f.is_bit.is_there in
      let has : PinBitFact names other path instance port bit name value = record {
        cell = partner;
        at = pair_there pair;
        is_bit = pin_forth names design other n valid ovalid same path f.cell partner pair instance port bit f.is_bit;
        no_constant = λ v c. f.no_constant v (instance_back names design other n valid ovalid same path f.cell partner pair v instance lt c);
        is_value = (pair.same.same_pin_nets instance port bit f.is_bit name value).0 f.is_value;
      } in
      (kept_forth path f.cell f.at h.0, has)

  pub fact_back : (fact : Fact) → IsFact names other fact → IsFact names design fact
  fact_back (OfCell path name value) h =
      let f : CellFact other path name value = h.1 in
      let at : CellAt other path f.cell = record { number = f.number; leads = f.leads; is_cell = f.is_cell } in
      let (cell, pair) = pair_back path f.cell at h.0 in
      let e : f.number ≡ pair.onumber = one_number other ovalid path f.number pair.onumber f.leads pair.oleads in
      let has : CellFact design path name value = record {
        number = pair.number;
        leads = pair.leads;
        cell = cell;
        is_cell = pair.is_cell;
        is_value = (pair.same.same_props name value).1 (subst (λ m. HasLastValue (cell_props other m f.cell) name value) e f.is_value);
      } in
      (kept_back path cell f.cell pair h.0, has)
  fact_back (OfPort path port name value) h =
      let f : PortFact other path port name value = h.1 in
      let (cell, pair) = pair_back path f.cell f.at h.0 in
      let (counterpart, there, signature) = signature_there f.cell cell (sym pair.same.same_ports) f.number f.the_port f.is_there in
      let has : PortFact design path port name value = record {
        cell = cell;
        at = pair_here pair;
        number = f.number;
        the_port = counterpart;
        is_there = there;
        is_named = ap (λ w. w.name) signature ∙ f.is_named;
        is_value = (pair.same.same_port_props f.number counterpart f.the_port there f.is_there name value).1 f.is_value;
      } in
      (kept_back path cell f.cell pair h.0, has)
  fact_back (OfInstance path instance name value) h =
      let f : InstanceFact names other path instance name value = h.1 in
      let (cell, pair) = pair_back path f.cell f.at h.0 in
      let lt : f.number < length cell.instances = not_added path cell f.cell pair f.number f.the_instance f.is_there f.no_constant in
      let (found, there) = element_there cell.instances f.number lt in
      let (counterpart, tthere, si) = pair.same.same_instances f.number found there in
      let e : counterpart ≡ f.the_instance = same_element f.cell.instances f.number counterpart f.the_instance tthere f.is_there in
      let has : InstanceFact names design path instance name value = record {
        cell = cell;
        at = pair_here pair;
        number = f.number;
        the_instance = found;
        is_there = there;
        is_named = si.same_name ∙ (ap (λ w. w.name) e ∙ f.is_named);
        no_constant = λ v c. f.no_constant v (instance_forth names design other n valid ovalid same path cell f.cell pair v f.number c);
        is_value = (si.same_props name value).1 (subst (λ w. HasLastValue w.props name value) (sym e) f.is_value);
      } in
      (kept_back path cell f.cell pair h.0, has)
  fact_back (OfPortBit path port bit name value) h =
      let f : PortBitFact other path port bit name value = h.1 in
      let (cell, pair) = pair_back path f.cell f.at h.0 in
      let here : IsPortBit cell port bit = port_bit_same f.cell cell (sym pair.same.same_ports) port bit f.is_bit in
      let has : PortBitFact design path port bit name value = record {
        cell = cell;
        at = pair_here pair;
        is_bit = here;
        is_value = (pair.same.same_port_nets port bit here name value).1 f.is_value;
      } in
      (kept_back path cell f.cell pair h.0, has)
  fact_back (OfPinBit path instance port bit name value) h =
      let f : PinBitFact names other path instance port bit name value = h.1 in
      let (cell, pair) = pair_back path f.cell f.at h.0 in
      let lt : instance < length cell.instances = not_added path cell f.cell pair instance f.is_bit.the_instance f.is_bit.is_there f.no_constant in
      let here : IsPinBit design.cells cell instance port bit = pin_back names design other n valid ovalid same path cell f.cell pair instance port bit lt f.is_bit in
      let has : PinBitFact names design path instance port bit name value = record {
        cell = cell;
        at = pair_here pair;
        is_bit = here;
        no_constant = λ v c. f.no_constant v (instance_forth names design other n valid ovalid same path cell f.cell pair v instance c);
        is_value = (pair.same.same_pin_nets instance port bit here name value).1 f.is_value;
      } in
      (kept_back path cell f.cell pair h.0, has)
