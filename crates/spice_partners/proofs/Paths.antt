-- Paths lead alike in a design and in the design of its subcircuits.
use Rattle.std.proofs.Common.{◌≡◌, ℕ, ◌-◌, ◌<◌, Bool, true, List, [], ◌∷◌, ◌++◌, Option, None, Some, length, map, slice_get, option_map, refl, sym, ◌∙◌, ap, subst, arith}
use Rattle.std.proofs.lemmas.List.{length-append, length-map}
use Rattle.std.proofs.lemmas.Option.{slice_get-map, slice_get_within}
use Rattle.nl_base.specs.Case.{same_up_to_case}
use Rattle.net_graph.specs.Graph.{Visits, again, first}
use Rattle.net_graph.proofs.ListLaws.{element_there, same_element}
use Rattle.net_graph.proofs.OrderLaws.{HasBelow, StandsIn, get_last, reached_listed, visits_below, visits_lists}
use Rattle.net_hier.specs.Design.{Design, IsCell, cells_below}
use Rattle.net_hier.specs.Paths.{CellAt, HasInstance, LeadsTo, Path}
use Rattle.net_hier.specs.Valid.{Each, HasPaths, HaveOwnNames, IsValid}
use Rattle.net_hier.specs.declared.cells.HCell.{HCell}
use Rattle.net_hier.specs.declared.cells.HInst.{HInst}
use Rattle.spice_text.specs.declared.file.Call.{Call}
use Rattle.spice_text.specs.declared.file.SpiceFile.{SpiceFile}
use Rattle.spice_text.specs.declared.file.Subckt.{Subckt}
use Rattle.to_spice_rules.specs.Answers.{KeepsRules}
use Rattle.to_spice_rules.proofs.Kept.{one_of_name}
use Rattle.spice_partners.specs.Partners.{AreSubcktsFor, IsCallFor, IsSubcktFor, IsWrittenFor}
use Rattle.spice_partners.specs.SpiceDesign.{cell_in, instance_in, spice_design, subckt_named}
use Rattle.spice_partners.proofs.Lists.{element_at}
use Rattle.spice_partners.proofs.Local.{call_of}
use Rattle.spice_partners.proofs.Words.{IsFound, any_there, found, small_alike}

-- the last of a postorder is the start
last_is : (graph : List (List ℕ)) {after : List ℕ} {number : ℕ} → Visits graph [] number after → slice_get after (length after - 1) ≡ Some number
last_is graph (again h) = absurd (let l = h.1 in omega (arith, l))
last_is graph (first {middle = middle} {number = number} fresh is_list each) =
    let long = length-append middle (number ∷ []) in
    let e : length (middle ++ number ∷ []) - 1 ≡ length middle = omega (arith, long) in
    ap (slice_get (middle ++ number ∷ [])) e ∙ get_last middle number

pub mapped : {A B : Type 0} (f : A → B) (xs : List A) (place : ℕ) (y : B) → slice_get (map f xs) place ≡ Some y → (x : A) × (slice_get xs place ≡ Some x) × (f x ≡ y)
mapped {A} f xs place y e = by (slice_get xs place) refl
  where
    by : (o : Option A) → slice_get xs place ≡ o → (x : A) × (slice_get xs place ≡ Some x) × (f x ≡ y)
    by None is = absurd (let g : None ≡ Some y = sym (slice_get-map f xs place ∙ ap (option_map f) is) ∙ e in cc)
    by (Some x) is = let g : Some (f x) ≡ Some y = sym (slice_get-map f xs place ∙ ap (option_map f) is) ∙ e in (x, is, cc)

pub map_there : {A B : Type 0} (f : A → B) (xs : List A) (place : ℕ) (x : A) → slice_get xs place ≡ Some x → slice_get (map f xs) place ≡ Some (f x)
map_there f xs place x e = slice_get-map f xs place ∙ ap (option_map f) e

module _ (design : Design) (valid : IsValid design) (keeps : KeepsRules design.cells) (file : SpiceFile) (are : AreSubcktsFor design file.cells) where
  abbrev other : Design
  other = spice_design file

  -- the number stands at this place in the order
  abbrev IsPlaced : ℕ → ℕ → Type 0
  IsPlaced number place = slice_get design.order place ≡ Some number

  top_placed : IsPlaced design.top other.top
  top_placed = ap (λ n. slice_get design.order (n - 1)) are.as_many ∙ last_is (cells_below design.cells) valid.postorder

  -- what the subcircuit at a place is for
  pub record IsOrigin (place : ℕ) (subckt : Subckt) : Type 0 where
    pub number : ℕ
    pub is_placed : IsPlaced number place
    pub written : IsWrittenFor design number subckt

  pub origin : (place : ℕ) (subckt : Subckt) → slice_get file.cells place ≡ Some subckt → IsOrigin place subckt
  origin place subckt e =
      let lt = slice_get_within file.cells place subckt e in
      let long = are.as_many in
      let n = element_there design.order place (omega (arith, lt, long)) in
      record { number = n.0; is_placed = n.1; written = are.each place n.0 subckt n.1 e }

  placed_there : (place number : ℕ) → IsPlaced number place → (subckt : Subckt) × (slice_get file.cells place ≡ Some subckt) × IsWrittenFor design number subckt
  placed_there place number e =
      let lt = slice_get_within design.order place number e in
      let long = are.as_many in
      let s = element_there file.cells place (omega (arith, lt, long)) in
      (s.0, s.1, are.each place number s.0 e s.1)

  -- each cell has a place
  listed : (number : ℕ) (cell : HCell) → IsCell design.cells number cell → StandsIn design.order number
  listed number cell is_cell =
      let graph : List (List ℕ) = cells_below design.cells in
      let below : HasBelow graph design.order = visits_below graph design.top valid.postorder (λ place n list at i e f g. absurd cc) in
      reached_listed graph design.top design.order below (visits_lists graph design.top valid.postorder) number (valid.reached number (slice_get_within design.cells number cell is_cell))

  -- the name of a cell means a subcircuit at its place
  named_place : (number : ℕ) (cell : HCell) → IsCell design.cells number cell → IsPlaced number (subckt_named file.cells cell.name)
  named_place number cell is_cell =
      let p : StandsIn design.order number = listed number cell is_cell in
      let s = placed_there p.place number p.is_there in
      let w : IsWrittenFor design number s.0 = s.2 in
      let same : w.cell ≡ cell = same_element design.cells number w.cell cell w.is_cell is_cell in
      let name : s.0.name ≡ cell.name = w.is_for.same_name ∙ ap (λ (c : HCell). c.name) same in
      let test : Subckt → Bool = λ t. same_up_to_case cell.name t.name in
      let f : IsFound test file.cells = found test file.cells (any_there test file.cells s.0 (element_at file.cells p.place s.0 s.1) (ap (same_up_to_case cell.name) name ∙ small_alike cell.name cell.name refl)) in
      let o : IsOrigin (subckt_named file.cells cell.name) f.item = origin (subckt_named file.cells cell.name) f.item f.is_there in
      let alike : same_up_to_case cell.name o.written.cell.name ≡ true = ap (same_up_to_case cell.name) (sym o.written.is_for.same_name) ∙ f.passes in
      let one : o.number ≡ number = sym (one_of_name design.cells keeps number o.number cell o.written.cell is_cell o.written.is_cell alike) in
      subst (λ n. IsPlaced n (subckt_named file.cells cell.name)) one o.is_placed

  call_place : (instance : HInst) (call : Call) → IsCallFor design.cells instance call → IsPlaced instance.cell (subckt_named file.cells call.cell)
  call_place instance call is = subst (λ n. IsPlaced instance.cell (subckt_named file.cells n)) (sym is.of_below) (named_place instance.cell is.below is.is_below)

  -- the subcircuit of a call
  pub below_there : (instance : HInst) (call : Call) → IsCallFor design.cells instance call →
      (subckt : Subckt) × (slice_get file.cells (subckt_named file.cells call.cell) ≡ Some subckt) × IsWrittenFor design instance.cell subckt
  below_there instance call is = placed_there (subckt_named file.cells call.cell) instance.cell (call_place instance call is)

  -- ---- paths
  record LeadsThere (path : Path) (number : ℕ) : Type 0 where
    place : ℕ
    is_placed : IsPlaced number place
    leads : LeadsTo other.cells other.top path place

  forth : (path : Path) (number : ℕ) → LeadsTo design.cells design.top path number → LeadsThere path number
  forth [] number leads = record { place = other.top; is_placed = subst (λ n. IsPlaced n other.top) (sym leads) top_placed; leads = refl }
  forth (name ∷ path) number leads =
      let has : HasInstance design.cells leads.0 name number = leads.2 in
      let here : LeadsThere path leads.0 = forth path leads.0 leads.1 in
      let s = placed_there here.place leads.0 here.is_placed in
      let w : IsWrittenFor design leads.0 s.0 = s.2 in
      let same : w.cell ≡ has.cell = same_element design.cells leads.0 w.cell has.cell w.is_cell has.is_cell in
      let c = call_of design.cells has.cell s.0 (subst (λ x. IsSubcktFor design.cells x s.0) same w.is_for) has.number has.instance has.is_there in
      let step : HasInstance other.cells here.place name (subckt_named file.cells c.0.cell) = record {
        cell = cell_in file.cells s.0;
        is_cell = map_there (cell_in file.cells) file.cells here.place s.0 s.1;
        number = has.number;
        instance = instance_in file.cells c.0;
        is_there = map_there (instance_in file.cells) s.0.calls has.number c.0 c.1;
        is_named = c.2.same_name ∙ has.is_named;
        is_of = refl;
      } in
      record { place = subckt_named file.cells c.0.cell; is_placed = subst (λ n. IsPlaced n (subckt_named file.cells c.0.cell)) has.is_of (call_place has.instance c.0 c.2); leads = (here.place, here.leads, step) }

  record LeadsHere (path : Path) (place : ℕ) : Type 0 where
    number : ℕ
    is_placed : IsPlaced number place
    leads : LeadsTo design.cells design.top path number

  back : (path : Path) (place : ℕ) → LeadsTo other.cells other.top path place → LeadsHere path place
  back [] place leads = record { number = design.top; is_placed = subst (λ n. IsPlaced design.top n) (sym leads) top_placed; leads = refl }
  back (name ∷ path) place leads =
      let has : HasInstance other.cells leads.0 name place = leads.2 in
      let here : LeadsHere path leads.0 = back path leads.0 leads.1 in
      let s = placed_there leads.0 here.number here.is_placed in
      let w : IsWrittenFor design here.number s.0 = s.2 in
      let same : cell_in file.cells s.0 ≡ has.cell = same_element other.cells leads.0 (cell_in file.cells s.0) has.cell (map_there (cell_in file.cells) file.cells leads.0 s.0 s.1) has.is_cell in
      let there : slice_get (cell_in file.cells s.0).instances has.number ≡ Some has.instance = subst (λ (x : HCell). slice_get x.instances has.number ≡ Some has.instance) (sym same) has.is_there in
      let c = mapped (instance_in file.cells) s.0.calls has.number has.instance there in
      let lt = slice_get_within s.0.calls has.number c.0 c.1 in
      let long = w.is_for.as_many in
      let i = element_there w.cell.instances has.number (omega (arith, lt, long)) in
      let is : IsCallFor design.cells i.0 c.0 = w.is_for.calls has.number i.0 c.0 i.1 c.1 in
      let at : subckt_named file.cells c.0.cell ≡ place = ap (λ (x : HInst). x.cell) c.2 ∙ has.is_of in
      let step : HasInstance design.cells here.number name i.0.cell = record {
        cell = w.cell;
        is_cell = w.is_cell;
        number = has.number;
        instance = i.0;
        is_there = i.1;
        is_named = sym is.same_name ∙ (ap (λ (x : HInst). x.name) c.2 ∙ has.is_named);
        is_of = refl;
      } in
      record { number = i.0.cell; is_placed = subst (IsPlaced i.0.cell) at (call_place i.0 c.0 is); leads = (here.number, here.leads, step) }

  -- the path leads in both designs, to a cell and to the cell of its subcircuit
  pub record PairAt (path : Path) (cell : HCell) : Type 0 where
    pub at : CellAt design path cell
    pub subckt : Subckt
    pub is_for : IsSubcktFor design.cells cell subckt
    pub there : CellAt (spice_design file) path (cell_in file.cells subckt)

  pub pair_of : (path : Path) (cell : HCell) → CellAt design path cell → PairAt path cell
  pair_of path cell at =
      let t : LeadsThere path at.number = forth path at.number at.leads in
      let s = placed_there t.place at.number t.is_placed in
      let w : IsWrittenFor design at.number s.0 = s.2 in
      let same : w.cell ≡ cell = same_element design.cells at.number w.cell cell w.is_cell at.is_cell in
      record {
        at = at;
        subckt = s.0;
        is_for = subst (λ x. IsSubcktFor design.cells x s.0) same w.is_for;
        there = record { number = t.place; leads = t.leads; is_cell = map_there (cell_in file.cells) file.cells t.place s.0 s.1 };
      }

  pub pair_back : (path : Path) (ocell : HCell) → CellAt (spice_design file) path ocell → (cell : HCell) × (pair : PairAt path cell) × (ocell ≡ cell_in file.cells pair.subckt)
  pair_back path ocell at =
      let h : LeadsHere path at.number = back path at.number at.leads in
      let s = placed_there at.number h.number h.is_placed in
      let w : IsWrittenFor design h.number s.0 = s.2 in
      let there : IsCell other.cells at.number (cell_in file.cells s.0) = map_there (cell_in file.cells) file.cells at.number s.0 s.1 in
      let same : ocell ≡ cell_in file.cells s.0 = same_element other.cells at.number ocell (cell_in file.cells s.0) at.is_cell there in (
        w.cell,
        record { at = record { number = h.number; leads = h.leads; is_cell = w.is_cell }; subckt = s.0; is_for = w.is_for; there = record { number = at.number; leads = at.leads; is_cell = there } },
        same,
      )

  -- ---- the design of the subcircuits has paths
  cells_long : length other.cells ≡ length design.order
  cells_long = length-map file.cells (cell_in file.cells) ∙ are.as_many

  in_range : (place : ℕ) (cell : HCell) → IsCell other.cells place cell → Each (λ instance. instance.cell < length other.cells) cell.instances
  in_range place cell is_cell number instance there =
      let s = mapped (cell_in file.cells) file.cells place cell is_cell in
      let o : IsOrigin place s.0 = origin place s.0 s.1 in
      let moved : slice_get (cell_in file.cells s.0).instances number ≡ Some instance = subst (λ (x : HCell). slice_get x.instances number ≡ Some instance) (sym s.2) there in
      let c = mapped (instance_in file.cells) s.0.calls number instance moved in
      let lt = slice_get_within s.0.calls number c.0 c.1 in
      let long = o.written.is_for.as_many in
      let i = element_there o.written.cell.instances number (omega (arith, lt, long)) in
      let is : IsCallFor design.cells i.0 c.0 = o.written.is_for.calls number i.0 c.0 i.1 c.1 in
      let within : subckt_named file.cells c.0.cell < length design.order = slice_get_within design.order _ _ (call_place i.0 c.0 is) in
      subst (λ n. n < length other.cells) (ap (λ (x : HInst). x.cell) c.2) (subst (λ n. subckt_named file.cells c.0.cell < n) (sym cells_long) within)

  own_instances : (place : ℕ) (cell : HCell) → IsCell other.cells place cell → HaveOwnNames (λ (instance : HInst). instance.name) cell.instances
  own_instances place cell is_cell number onumber instance oinstance there othere e =
      let s = mapped (cell_in file.cells) file.cells place cell is_cell in
      let o : IsOrigin place s.0 = origin place s.0 s.1 in
      let long = o.written.is_for.as_many in
      let c = mapped (instance_in file.cells) s.0.calls number instance (subst (λ (x : HCell). slice_get x.instances number ≡ Some instance) (sym s.2) there) in
      let d = mapped (instance_in file.cells) s.0.calls onumber oinstance (subst (λ (x : HCell). slice_get x.instances onumber ≡ Some oinstance) (sym s.2) othere) in
      let c_lt = slice_get_within s.0.calls number c.0 c.1 in
      let d_lt = slice_get_within s.0.calls onumber d.0 d.1 in
      let i = element_there o.written.cell.instances number (omega (arith, c_lt, long)) in
      let j = element_there o.written.cell.instances onumber (omega (arith, d_lt, long)) in
      let i_is : IsCallFor design.cells i.0 c.0 = o.written.is_for.calls number i.0 c.0 i.1 c.1 in
      let j_is : IsCallFor design.cells j.0 d.0 = o.written.is_for.calls onumber j.0 d.0 j.1 d.1 in
      (valid.good_cells o.number o.written.cell o.written.is_cell).instance_names number onumber i.0 j.0 i.1 j.1
      (sym i_is.same_name ∙ (ap (λ (x : HInst). x.name) c.2 ∙ (e ∙ (sym (ap (λ (x : HInst). x.name) d.2) ∙ j_is.same_name))))

  pub other_paths : HasPaths (spice_design file)
  other_paths = record {
    has_top = let lt = slice_get_within design.order other.top design.top top_placed in subst (λ n. other.top < n) (sym cells_long) lt;
    instances_in_range = in_range;
    own_instances = own_instances;
  }
