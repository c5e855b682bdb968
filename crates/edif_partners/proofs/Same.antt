-- What is made of a cell is the same cell in the design of the file.
use Rattle.std.proofs.Common.{arith, ◌≡◌, ℕ, zero, suc, ◌+◌, ◌-◌, ◌<◌, ◌≤◌, ◌==◌, Bool, true, false, cond, List, [], ◌∷◌, ◌++◌, Option, Some, None, append-nil, get_or, length, length-append, map, refl, sym, ap, ◌∙◌, subst}
use Rattle.std.specs.Prelude.{◌↔◌, IsSome, option_map, slice_get}
use Rattle.std.specs.List.{enumerate_from, filter_map}
use Rattle.std.proofs.lemmas.Bool.{false≢true}
use Rattle.std.proofs.lemmas.List.{length-map}
use Rattle.std.proofs.lemmas.Option.{slice_get-map}
use Rattle.edif_values.specs.Names.{original}
use Rattle.edif_values.specs.declared.name.NameDef.{NameDef}
use Rattle.edif_values.specs.declared.cell.Cell.{Cell}
use Rattle.edif_values.specs.declared.file.EdifFile.{EdifFile}
use Rattle.edif_values.specs.declared.instance.Instance.{Instance}
use Rattle.edif_values.specs.declared.port.Port.{Port}
use Rattle.net_bits.specs.Classes.{AreClasses, ClassTable}
use Rattle.net_hier.specs.Cells.{IsConstantCell, IsConstantInstance}
use Rattle.net_hier.specs.Constants.{ConstantNames}
use Rattle.net_hier.specs.Design.{Design, IsCell}
use Rattle.net_hier.specs.Facts.{SameValues, cell_props}
use Rattle.net_hier.specs.SameCells.{IsPartner, NeedsConstant, SameCell}
use Rattle.net_hier.specs.SameDesign.{signature_of as signature_of_port}
use Rattle.net_hier.specs.Valid.{IsGoodCell}
use Rattle.net_hier.specs.declared.cells.HCell.{HCell}
use Rattle.net_hier.specs.declared.cells.HInst.{HInst}
use Rattle.net_hier.specs.declared.cells.HPort.{HPort}
use Rattle.net_hier.specs.declared.cells.HProp.{HProp}
use Rattle.net_hier.specs.declared.nodes.Node.TheVariants as nodes
use Rattle.net_live.specs.Last.{last_of}
use Rattle.net_live.specs.Live.{needs_constant}
use Rattle.net_live.proofs.LastLaws.{last_values_kept}
use Rattle.net_live.proofs.NeedLaws.{need_is}
use Rattle.edif_meanings.specs.Apart.{AreApart}
use Rattle.edif_design.specs.Design.{cell_value, instance_property, instance_value, number_below, number_in, port_value}
use Rattle.edif_design.specs.Parts.{instances, numbered}
use Rattle.edif_design.specs.References.{LinkedCell, linked_cell, place_in}
use Rattle.edif_written.specs.Written.{cell_of, file_of, work}
use Rattle.edif_written.proofs.Cells.{numbered_at}
use Rattle.edif_written.proofs.Parts.{instances_are, ports_are, properties_are}
use Rattle.edif_written.specs.Naming.{name_for}
use Rattle.edif_naming.proofs.NamingLaws.{original_name_for}
use Rattle.edif_plans.specs.Summaries.{InstanceSummary, PortSummary, added_summary, summary_for, summary_of, instance_summary, instance_summaries, kept_port, own_summary}
use Rattle.edif_plans.specs.Made.{IsMadeCell, needed_values}
use Rattle.edif_plans.specs.Plans.{constant_head, constant_number, head_of, number_of}
use Rattle.edif_plans.specs.References.{CellPlan, added_place}
use Rattle.edif_plans.specs.declared.added.Added.{Added}
use Rattle.edif_plans.specs.declared.plan.Plan.{Plan}
use Rattle.edif_plans.proofs.Needed.{added_value, idents_count}
use Rattle.edif_partners.specs.Placed.{ArePlaced, ConstantStands, added_number}
use Rattle.edif_partners.proofs.AddedMeans.{added_after, added_at, get_right}
use Rattle.edif_partners.proofs.Free.{get_left, shown_at, within}
use Rattle.edif_partners.proofs.Kept.{same_connection, same_values}
use Rattle.edif_partners.proofs.RefMeans.{link_below}

map_twice : {A B C : Type 0} (f : B → C) (g : A → B) (xs : List A) → map f (map g xs) ≡ map (λ x. f (g x)) xs
map_twice f g [] = refl
map_twice f g (x ∷ xs) = ap (λ l. f (g x) ∷ l) (map_twice f g xs)

same_item : {A : Type 0} (o : Option A) (x y : A) → o ≡ Some x → o ≡ Some y → x ≡ y
same_item o x y e f = cc

item_at : {A : Type 0} (xs : List A) (i : ℕ) → i < length xs → (x : A) × (slice_get xs i ≡ Some x)
item_at [] i h = absurd (omega (arith, h))
item_at (x ∷ xs) zero h = (x, refl)
item_at (x ∷ xs) (suc i) h = item_at xs i (omega (arith, h))

some_where : (b : Bool) (place : ℕ) → IsSome (cond b (Some place) None) ↔ (b ≡ true)
some_where true place = (λ h. refl, λ h. refl)
some_where false place = (λ h. absurd (false≢true h), λ h. absurd (false≢true h))

no_more : (b : Bool) (props others : List HProp) → others ≡ [] → cond b (props ++ others) props ≡ props
no_more true props others none = ap (λ l. props ++ l) none ∙ append-nil props
no_more false props others none = refl

-- where the instance of each constant is among those that are added
place_of_value : (zero_needed one_needed : Bool) (k : ℕ) (value : Bool) (own idents added : ℕ) → slice_get (cond zero_needed (false ∷ []) [] ++ cond one_needed (true ∷ []) []) k ≡ Some value
    → added ≡ length (cond zero_needed (false ∷ []) [] ++ cond one_needed (true ∷ []) []) → idents ≡ own + added → cond value (idents - 1) (idents - added) ≡ own + k
place_of_value true true zero false own idents added h count all = omega (arith, count, all)
place_of_value true true zero true own idents added h count all = absurd cc
place_of_value true true (suc zero) true own idents added h count all = omega (arith, count, all)
place_of_value true true (suc zero) false own idents added h count all = absurd cc
place_of_value true true (suc (suc k)) value own idents added h count all = absurd cc
place_of_value true false zero false own idents added h count all = omega (arith, count, all)
place_of_value true false zero true own idents added h count all = absurd cc
place_of_value true false (suc k) value own idents added h count all = absurd cc
place_of_value false true zero true own idents added h count all = omega (arith, count, all)
place_of_value false true zero false own idents added h count all = absurd cc
place_of_value false true (suc k) value own idents added h count all = absurd cc
place_of_value false false k value own idents added h count all = absurd cc

module _ (name design_name : NameDef) (cells : List Cell) (top : List ℕ) (names : ConstantNames) (design other : Design) (plan : Plan) (n : ℕ) (placed : ArePlaced design.cells plan cells) (numbers : List ℕ)
    (same_numbers : (i : ℕ) (c : Cell) → slice_get cells i ≡ Some c → get_or numbers i 0 ≡ i) (partners : (number : ℕ) (cell : HCell) → IsCell design.cells number cell → IsPartner design (Some n) number (number_of plan number)) (no_props : other.props ≡ [])
    (number onumber : ℕ) (cell : HCell) (there : IsCell design.cells number cell) (classes : ClassTable) (are : AreClasses cell classes) (good : IsGoodCell design.cells cell) (made : Cell) (is : IsMadeCell design.cells plan (head_of plan number) cell (cell_props design number cell) classes made)
    (ports_apart : AreApart (head_of plan number).ports) (constants : (value : Bool) → needs_constant classes value ≡ true → ConstantStands plan cells value)
    (constant_cells : (value : Bool) → needs_constant classes value ≡ true → (below : HCell) × IsCell other.cells (constant_number plan value) below × IsConstantCell names value below) where
  abbrev file : EdifFile
  file = file_of name design_name cells top

  abbrev cell_plan : CellPlan
  cell_plan = record { cells = design.cells; plan = plan; cell = cell; head = head_of plan number; instances = is.instances }

  abbrev cell_name : NameDef
  cell_name = name_for (head_of plan number).cell cell.name

  abbrev whole : Cell
  whole = cell_of cell_name is.ports is.made_instances is.nets is.properties

  abbrev linked : LinkedCell
  linked = linked_cell file (place_in 0 whole)

  abbrev partner : HCell
  partner = cell_value numbers linked

  partner_name : partner.name ≡ cell.name
  unfolding cell_value cell_of
  partner_name = original_name_for (head_of plan number).cell cell.name

  partner_ports : partner.ports ≡ map kept_port cell.ports
  unfolding cell_value
  partner_ports = ap (map port_value) (ports_are cell_name is.ports is.made_instances is.nets is.properties)
      ∙ (sym (map_twice (λ (summary : PortSummary). summary.value) summary_of is.ports) ∙ (ap (map (λ (summary : PortSummary). summary.value)) is.are_ports.summaries ∙ map_twice (λ (summary : PortSummary). summary.value) summary_for cell.ports))

  partner_props : partner.props ≡ last_of (cell_props design number cell)
  unfolding cell_value
  partner_props = properties_are cell_name is.ports is.made_instances is.nets is.properties ∙ is.are_properties

  partner_instances : partner.instances ≡ map (instance_value numbers linked.below) (numbered is.made_instances)
  unfolding cell_value
  partner_instances = ap (λ l. map (instance_value numbers linked.below) (numbered l)) (instances_are cell_name is.ports is.made_instances is.nets is.properties)

  -- the instance of a cell that stands in the file
  abbrev counterpart_of : Instance → ℕ → HInst
  counterpart_of x number = record { name = original x.name; cell = number; props = filter_map instance_property x.items }

  counterpart_at : (i : ℕ) (x : Instance) (inner_number : ℕ) (inner : Cell) → slice_get is.made_instances i ≡ Some x → slice_get cells inner_number ≡ Some inner → x.library ≡ Some work → x.cell ≡ inner.name.ident → slice_get partner.instances i ≡ Some (counterpart_of x inner_number)
  counterpart_at i x inner_number inner here at library of_cell =
      let below : get_or linked.below i None ≡ Some (inner_number, inner) = link_below name design_name cells top cell_plan placed cell_name is.ports is.made_instances is.nets is.properties is.are_ports is.are_instances ports_apart is.are_added.idents.apart i x inner_number inner here at library of_cell in
      let is_number : number_in numbers (number_below linked.below i) ≡ inner_number = ap (λ o. number_in numbers (option_map (λ (p : ℕ × Cell). p.0) o)) below ∙ same_numbers inner_number inner at in
      let place : slice_get (numbered is.made_instances) i ≡ Some (i, x) = numbered_at 0 is.made_instances i x here ∙ ap (λ k. Some (k, x)) (let z : 0 + i ≡ i = omega arith in z) in
      ap (λ l. slice_get l i) partner_instances ∙ (slice_get-map (instance_value numbers linked.below) (numbered is.made_instances) i ∙ (ap (option_map (instance_value numbers linked.below)) place ∙ ap (λ k. Some (counterpart_of x k)) is_number))

  own_at : (i : ℕ) (instance : HInst) → slice_get cell.instances i ≡ Some instance → (x : Instance) × (slice_get is.made_instances i ≡ Some x) × (instance_summary x ≡ own_summary plan instance)
  own_at i instance h =
      let at : slice_get (map instance_summary is.made_instances) i ≡ Some (own_summary plan instance) = ap (λ l. slice_get l i) is.are_instances.summaries
      ∙ get_left (map (own_summary plan) cell.instances) (map (added_summary plan) is.instances.added) i (own_summary plan instance) (slice_get-map (own_summary plan) cell.instances i ∙ ap (option_map (own_summary plan)) h) in
      let found = shown_at instance_summary is.made_instances i (own_summary plan instance) at in
      (found.item, found.is_there, found.shows)

  abbrev count_own : ℕ
  count_own = length cell.instances

  counted : length is.instances.idents ≡ length cell.instances + length is.instances.added
  counted = idents_count cell.instances classes is.instances is.are_added

  values_count : length is.instances.added ≡ length (needed_values classes)
  values_count = sym (length-map is.instances.added (λ (one : Added). one.value)) ∙ ap length is.are_added.values

  -- the instance that is added for a constant
  added_counterpart : (value : Bool) → needs_constant classes value ≡ true → IsConstantInstance names other.cells partner value (added_place is.instances value)
  added_counterpart value needed =
      let stands = constants value needed in
      let a = added_at cell_plan classes is.are_added value needed in
      let p : ℕ = added_place is.instances value in
      let count : length (map (own_summary plan) cell.instances) ≡ length cell.instances = length-map cell.instances (own_summary plan) in
      let at : slice_get (map instance_summary is.made_instances) p ≡ Some (added_summary plan a.one) = ap (λ l. slice_get l p) is.are_instances.summaries
      ∙ (get_right (map (own_summary plan) cell.instances) (map (added_summary plan) is.instances.added) p a.place (let e = a.at in omega (arith, e, count)) ∙ (slice_get-map (added_summary plan) is.instances.added a.place ∙ ap (option_map (added_summary plan)) a.is_there)) in
      let found = shown_at instance_summary is.made_instances p (added_summary plan a.one) at in
      let below = constant_cells value needed in
      record {
        the_instance = counterpart_of found.item (constant_number plan value);
        is_there = counterpart_at p found.item (constant_number plan value) stands.made found.is_there stands.is_there (ap (λ (f : InstanceSummary). f.library) found.shows) (ap (λ (f : InstanceSummary). f.cell) found.shows ∙ (ap (λ v. (constant_head plan v).cell) a.is_value ∙ stands.head.cell));
        below = below.0;
        is_below = below.1;
        is_constant = below.2;
      }

  needed_by : (value needs : Bool) (place : ℕ) → needs_constant classes value ≡ needs → cond needs (Some (added_place is.instances value)) None ≡ Some place → (needs_constant classes value ≡ true) × (added_place is.instances value ≡ place)
  needed_by value true place e h = (e, cc)
  needed_by value false place e h = absurd cc

  after_own : (value : Bool) (place : ℕ) → added_number is.instances classes value ≡ Some place → (length cell.instances ≤ place) × IsConstantInstance names other.cells partner value place
  after_own value place h =
      let p = needed_by value (needs_constant classes value) place refl h in
      ((added_after cell_plan classes is.are_added).late value place h, subst (IsConstantInstance names other.cells partner value) p.1 (added_counterpart value p.0))

  instances_count : length partner.instances ≡ length cell.instances + length is.instances.added
  instances_count = ap length partner_instances ∙ (length-map (numbered is.made_instances) (instance_value numbers linked.below) ∙ (numbered_length 0 is.made_instances ∙ (sym (length-map is.made_instances instance_summary) ∙ (ap length is.are_instances.summaries
      ∙ (length-append (map (own_summary plan) cell.instances) (map (added_summary plan) is.instances.added) ∙ (λ j. length-map cell.instances (own_summary plan) j + length-map is.instances.added (added_summary plan) j))))))
    where
      numbered_length : {A : Type 0} (k : ℕ) (xs : List A) → length (enumerate_from k xs) ≡ length xs
      numbered_length k [] = refl
      numbered_length k (x ∷ xs) = ap suc (numbered_length (k + 1) xs)

  place_value : (value : Bool) → added_place is.instances value ≡ cond value (length is.instances.idents - 1) (length is.instances.idents - length is.instances.added)
  place_value false = refl
  place_value true = refl

  alone : (place : ℕ) → length cell.instances ≤ place → place < length partner.instances → (value : Bool) × (added_number is.instances classes value ≡ Some place)
  alone place low high =
      let k : ℕ = place - length cell.instances in
      let inside : k < length is.instances.added = omega (arith, low, high, instances_count) in
      let one = item_at is.instances.added k inside in
      let needed = added_value classes is.instances.added is.are_added.values k one.0 one.1 in
      let at : slice_get (needed_values classes) k ≡ Some (one.0).value = ap (λ l. slice_get l k) (sym is.are_added.values) ∙ (slice_get-map (λ (a : Added). a.value) is.instances.added k ∙ ap (option_map (λ (a : Added). a.value)) one.1) in
      let is_place : added_place is.instances (one.0).value ≡ place = place_value (one.0).value ∙ (place_of_value (needs_constant classes false) (needs_constant classes true) k (one.0).value (length cell.instances) (length is.instances.idents) (length is.instances.added) at values_count counted ∙ (let e : length cell.instances + k ≡ place = omega (arith, low) in e)) in
      ((one.0).value, ap (λ b. cond b (Some (added_place is.instances (one.0).value)) None) needed ∙ ap Some is_place)

  first_zero : (zero_place one_place : ℕ) → added_number is.instances classes false ≡ Some zero_place → added_number is.instances classes true ≡ Some one_place → zero_place < one_place
  first_zero zero_place one_place hz ho =
      let z = needed_by false (needs_constant classes false) zero_place refl hz in
      let o = needed_by true (needs_constant classes true) one_place refl ho in
      let two : length is.instances.added ≡ 2 = values_count ∙ (λ j. length (cond (z.0 j) (false ∷ []) [] ++ cond (o.0 j) (true ∷ []) [])) in
      let p = z.1 in
      let q = o.1 in
      omega (arith, two, counted, p, q)

  whole_same : SameCell names design other (Some n) number onumber cell partner
  whole_same = record {
    same_name = sym partner_name;
    same_ports = sym (ap (map signature_of_port) partner_ports ∙ map_twice signature_of_port kept_port cell.ports);
    same_props = subst (SameValues (cell_props design number cell)) (sym (no_more (onumber == other.top) partner.props other.props no_props ∙ partner_props)) (last_values_kept (cell_props design number cell));
    same_port_props = λ place port counterpart hp ht.
        let e : kept_port port ≡ counterpart = same_item (slice_get partner.ports place) (kept_port port) counterpart (ap (λ l. slice_get l place) partner_ports ∙ (slice_get-map kept_port cell.ports place ∙ ap (option_map kept_port) hp)) ht in
        subst (λ (t : HPort). SameValues port.props t.props) e (last_values_kept port.props);
    same_instances = λ place instance h.
        let inner = item_at design.cells instance.cell (good.instances_in_range place instance h) in
        let stands = placed.stand instance.cell inner.0 inner.1 in
        let x = own_at place instance h in (
          counterpart_of x.0 (number_of plan instance.cell),
          counterpart_at place x.0 (number_of plan instance.cell) stands.made x.1 stands.is_there (ap (λ (f : InstanceSummary). f.library) x.2) (ap (λ (f : InstanceSummary). f.cell) x.2 ∙ stands.head.cell),
          record {
            same_name = sym (ap (λ (f : InstanceSummary). f.name) x.2);
            same_cell = partners instance.cell inner.0 inner.1;
            same_props = subst (SameValues instance.props) (sym (ap (λ (f : InstanceSummary). f.props) x.2)) (last_values_kept instance.props);
          },
        );
    added = added_number is.instances classes;
    as_needed = λ value.
        let some = some_where (needs_constant classes value) (added_place is.instances value) in
        let need = need_is design.cells cell classes are good.joins_in_range value in
        (λ h. need.0 (some.0 h), λ h. some.1 (need.1 h));
    added_after = after_own;
    added_alone = alone;
    zero_first = first_zero;
    same_connection = same_connection name design_name cells top cell_plan placed cell_name is.ports is.made_instances is.nets is.properties is.are_ports is.are_instances ports_apart is.are_added.idents.apart classes is.are_added constants are good is.live is.are_nets numbers;
    same_port_nets = λ port bit h. same_values name design_name cells top cell_plan placed cell_name is.ports is.made_instances is.nets is.properties is.are_ports is.are_instances ports_apart is.are_added.idents.apart classes is.are_added constants are good is.live is.are_nets numbers (nodes.Port port bit) h;
    same_pin_nets = λ instance port bit h. same_values name design_name cells top cell_plan placed cell_name is.ports is.made_instances is.nets is.properties is.are_ports is.are_instances ports_apart is.are_added.idents.apart classes is.are_added constants are good is.live is.are_nets numbers (nodes.Pin instance port bit) h;
  }

  pub made_same : SameCell names design other (Some n) number onumber cell (cell_value numbers (linked_cell file (place_in 0 made)))
  made_same = subst (λ (d : Cell). SameCell names design other (Some n) number onumber cell (cell_value numbers (linked_cell file (place_in 0 d)))) (sym is.is_cell) whole_same
