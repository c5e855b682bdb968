-- The nets that are made of the live classes of a cell break no rule.
use Rattle.std.proofs.Common.{arith, ◌≡◌, ℕ, Bool, true, false, cond, List, [], ◌∷◌, ◌++◌, Option, Some, None, length, map, refl, sym, ap, ◌∙◌, subst}
use Rattle.std.specs.Prelude.{Contains, option_map, slice_get}
use Rattle.std.specs.List.{cons_option, filter_map, flat_map, list_any}
use Rattle.std.proofs.lemmas.List.Concat.{flat_map-cons}
use Rattle.std.proofs.lemmas.Option.{slice_get-map}
use Rattle.edif_values.specs.Names.{original}
use Rattle.edif_values.specs.declared.name.NameDef.{NameDef}
use Rattle.edif_values.specs.declared.property.Property.{Property}
use Rattle.edif_values.specs.declared.cell.Cell.{Cell}
use Rattle.edif_values.specs.declared.instance.Instance.{Instance}
use Rattle.edif_values.specs.declared.net.Net.{Net}
use Rattle.edif_values.specs.declared.net.PortRef.{PortRef}
use Rattle.edif_values.specs.declared.port.Port.{Port}
use Rattle.net_bits.specs.Classes.{AreClasses, ClassTable, class_of, members_of}
use Rattle.net_bits.proofs.CallerLaws.{member_of_class}
use Rattle.net_hier.specs.Cells.{IsBitOrConstant}
use Rattle.net_hier.specs.SameCells.{stand_in}
use Rattle.net_hier.specs.Valid.{IsGoodCell}
use Rattle.net_hier.specs.declared.nodes.Node.{Node}
use Rattle.net_hier.specs.declared.nodes.Node.TheVariants as nodes
use Rattle.net_live.specs.Live.{ends_of, is_end, is_live, needs_constant}
use Rattle.net_live.proofs.LiveLaws.{end_is, joined_node, passed}
use Rattle.net_stars.specs.StandIns.{StandsFor}
use Rattle.net_stars.proofs.Lists.{contains_first, contains_later, map_contains}
use Rattle.net_stars.proofs.StandIns.{stand_ins}
use Rattle.edif_meanings.specs.Apart.{AreApart}
use Rattle.edif_design.specs.CellRules.{bits_of_nets, ref_refusals, same_node}
use Rattle.edif_design.specs.References.{LinkedCell, linked_cell, place_in}
use Rattle.edif_written.specs.Written.{cell_of, file_of}
use Rattle.edif_written.proofs.CellLaws.{AreNets}
use Rattle.edif_written.proofs.JoinLaws.{meant, not_taken}
use Rattle.edif_written.proofs.RefLaws.{own_none, pin_none}
use Rattle.edif_plans.specs.Made.{AreAddedTo, AreInstancesFor, AreNetsFor, ArePortsFor}
use Rattle.edif_plans.specs.References.{CellPlan, added_place, constant_ref_for, own_ref_for, pin_ref_for, ref_for, refs_for}
use Rattle.edif_partners.specs.Placed.{ArePlaced, ConstantStands, added_number}
use Rattle.edif_partners.proofs.AddedMeans.{added_after}
use Rattle.edif_partners.proofs.Free.{get_end, get_left, shown_at, within}
use Rattle.edif_partners.proofs.NetMeans.{constant_found, needed, nets_mean, stand_one, stand_zero}
use Rattle.edif_partners.proofs.RefMeans.{inner_apart, own_apart, own_port, pin_found}

-- what each of some references gives is nothing, where it is of each of the nodes that they stand for
none_of : {B : Type 0} (f : Node → Option PortRef) (h : PortRef → List B) (xs : List Node) → ((x : Node) (ref : PortRef) → Contains xs x → f x ≡ Some ref → h ref ≡ []) → flat_map h (filter_map f xs) ≡ []
none_of {B} f h [] none = refl
none_of {B} f h (x ∷ xs) none = by (f x) refl (none_of f h xs (λ y ref m. none y ref (contains_later x y xs m)))
  where
    by : (o : Option PortRef) → f x ≡ o → flat_map h (filter_map f xs) ≡ [] → flat_map h (cons_option o (filter_map f xs)) ≡ []
    by None e rest = rest
    by (Some ref) e rest = flat_map-cons h ref (filter_map f xs) ∙ (λ j. none x ref (contains_first x xs) e j ++ rest j)

module _ (name design_name : NameDef) (cells : List Cell) (top : List ℕ) (cell_plan : CellPlan) (placed : ArePlaced cell_plan.cells cell_plan.plan cells) (cell_name : NameDef) (ps : List Port) (is : List Instance) (ns : List Net) (properties : List Property)
    (are_ports : ArePortsFor cell_plan.head cell_plan.cell ps) (are_instances : AreInstancesFor cell_plan.plan cell_plan.cell.instances cell_plan.instances is) (ports_apart : AreApart cell_plan.head.ports) (idents_apart : AreApart cell_plan.instances.idents)
    (classes : ClassTable) (are_added : AreAddedTo cell_plan.cell.instances classes cell_plan.instances) (constants : (value : Bool) → needs_constant classes value ≡ true → ConstantStands cell_plan.plan cells value)
    (are : AreClasses cell_plan.cell classes) (good : IsGoodCell cell_plan.cells cell_plan.cell) (live : List ℕ) (nets : AreNetsFor cell_plan classes live ns) where
  abbrev linked : LinkedCell
  linked = linked_cell (file_of name design_name cells top) (place_in 0 (cell_of cell_name ps is ns properties))

  abbrev added : Bool → Option ℕ
  added = added_number cell_plan.instances classes

  stands : StandsFor cell_plan.cells cell_plan.cell (stand_in added)
  stands = stand_ins cell_plan.cells cell_plan.cell added (added_after cell_plan classes are_added)

  terminal : (node : Node) (class : ℕ) → class_of classes node ≡ Some class → is_end node ≡ true → IsBitOrConstant cell_plan.cells cell_plan.cell node
  terminal node class h pass = end_is cell_plan.cells cell_plan.cell node (joined_node cell_plan.cells cell_plan.cell classes are good.joins_in_range node class h) pass

  one_number : (a b : ℕ) (o : Option ℕ) → o ≡ Some a → o ≡ Some b → a ≡ b
  one_number a b o e f = cc

  net_at : (k : ℕ) (net : Net) → slice_get ns k ≡ Some net → (class : ℕ) × (slice_get live k ≡ Some class) × (refs_for cell_plan (members_of classes class) ≡ net.joined)
  net_at k net there =
      let at : slice_get (map (λ class. refs_for cell_plan (members_of classes class)) live) k ≡ Some net.joined = ap (λ l. slice_get l k) (sym nets.joined) ∙ (slice_get-map (λ (n : Net). n.joined) ns k ∙ ap (option_map (λ (n : Net). n.joined)) there) in
      let found = shown_at (λ class. refs_for cell_plan (members_of classes class)) live k net.joined at in
      (found.item, found.is_there, found.shows)

  -- the net of another class means no node of this one
  apart_nets : (node : Node) (class k : ℕ) → class_of classes node ≡ Some class → is_end node ≡ true → slice_get live k ≡ Some class → (before : List Net) (after : List Net) → before ++ after ≡ ns → length before ≡ k
      → (j : ℕ) (net : Net) → slice_get before j ≡ Some net → ¬ Contains (meant linked net) (stand_in added node)
  apart_nets node class k of_class pass there before after e count j net here m =
      let in_ns : slice_get ns j ≡ Some net = subst (λ l. slice_get l j ≡ Some net) e (get_left before after j net here) in
      let at = net_at j net in_ns in
      let means : slice_get (map (map (stand_in added)) (map (ends_of classes) live)) j ≡ Some (meant linked net) =
      ap (λ l. slice_get l j) (sym (nets_mean name design_name cells top cell_plan placed cell_name ps is ns properties are_ports are_instances ports_apart idents_apart classes are_added constants are good live nets))
      ∙ (slice_get-map (meant linked) ns j ∙ ap (option_map (meant linked)) in_ns) in
      let shown : slice_get (map (map (stand_in added)) (map (ends_of classes) live)) j ≡ Some (map (stand_in added) (ends_of classes at.0)) =
      slice_get-map (map (stand_in added)) (map (ends_of classes) live) j ∙ ap (option_map (map (stand_in added))) (slice_get-map (ends_of classes) live j ∙ ap (option_map (ends_of classes)) at.1) in
      let same : meant linked net ≡ map (stand_in added) (ends_of classes at.0) = same_list (slice_get (map (map (stand_in added)) (map (ends_of classes) live)) j) (meant linked net) (map (stand_in added) (ends_of classes at.0)) means shown in
      let other = map_contains (stand_in added) (ends_of classes at.0) (stand_in added node) (subst (λ l. Contains l (stand_in added node)) same m) in
      let found = passed is_end (members_of classes at.0) other.0 other.1 in
      let of_other : class_of classes other.0 ≡ Some at.0 = (member_of_class cell_plan.cell classes are other.0 at.0).1 found.0 in
      let one : other.0 ≡ node = stands.apart other.0 node (terminal other.0 at.0 of_other found.1) (terminal node class of_class pass) other.2 in
      let one_class : at.0 ≡ class = one_number at.0 class (class_of classes node) (subst (λ x. class_of classes x ≡ Some at.0) one of_other) of_class in
      let one_place : j ≡ k = nets.are_live.once j k class (at.1 ∙ ap Some one_class) there in
      let l = within before j net here in
      omega (arith, l, one_place, count)
    where
      same_list : (o : Option (List Node)) (a b : List Node) → o ≡ Some a → o ≡ Some b → a ≡ b
      same_list o a b x y = cc

  module _ (before : List Net) (x : Net) (after : List Net) (e : before ++ x ∷ after ≡ ns) where
    here : slice_get ns (length before) ≡ Some x
    here = subst (λ l. slice_get l (length before) ≡ Some x) e (get_end before x after)

    free : (node : Node) (class : ℕ) → class_of classes node ≡ Some class → is_end node ≡ true → slice_get live (length before) ≡ Some class → list_any (same_node (stand_in added node)) (bits_of_nets linked before) ≡ false
    free node class of_class pass there = not_taken linked (stand_in added node) before (apart_nets node class (length before) of_class pass there before (x ∷ after) e refl)

    module _ (class : ℕ) (there : slice_get live (length before) ≡ Some class) where
      live_here : is_live cell_plan.cell.nets (members_of classes class) ≡ true
      live_here = (nets.are_live.each (length before) class there).1

      need : (value : Bool) → class_of classes (cond value nodes.One nodes.Zero) ≡ Some class → needs_constant classes value ≡ true
      need value h = needed name design_name cells top cell_plan placed cell_name ps is ns properties are_ports are_instances ports_apart idents_apart classes are_added constants are good live nets class live_here value h

      constant_none : (value : Bool) → class_of classes (cond value nodes.One nodes.Zero) ≡ Some class → stand_in added (cond value nodes.One nodes.Zero) ≡ nodes.Pin (added_place cell_plan.instances value) 0 0 → is_end (cond value nodes.One nodes.Zero) ≡ true
          → ref_refusals linked (original x.name) (bits_of_nets linked before) (constant_ref_for cell_plan value) ≡ []
      constant_none value h stand pass =
          let found = constant_found name design_name cells top cell_plan placed cell_name ps is ns properties are_ports are_instances ports_apart idents_apart classes are_added constants value (need value h) in
          pin_none linked (constant_ref_for cell_plan value) (added_place cell_plan.instances value) found.inner (inner_apart name design_name cells top cell_plan placed cell_name ps is ns properties are_ports are_instances ports_apart idents_apart) found.of_instance 0 0 found.inner_ports_apart found.of_port
          (original x.name) (bits_of_nets linked before) (subst (λ n. list_any (same_node n) (bits_of_nets linked before) ≡ false) stand (free (cond value nodes.One nodes.Zero) class h pass there))

      same_ref : (ref made : PortRef) → Some made ≡ Some ref → made ≡ ref
      same_ref ref made h = cc

      node_none : (node : Node) (ref : PortRef) → class_of classes node ≡ Some class → ref_for cell_plan node ≡ Some ref → ref_refusals linked (original x.name) (bits_of_nets linked before) ref ≡ []
      unfolding ref_for
      node_none (nodes.Port port bit) ref h is_ref = subst (λ r. ref_refusals linked (original x.name) (bits_of_nets linked before) r ≡ []) (same_ref ref (own_ref_for cell_plan port bit) is_ref)
          (own_none linked (own_ref_for cell_plan port bit) port bit refl (own_apart name design_name cells top cell_plan placed cell_name ps is ns properties are_ports are_instances ports_apart idents_apart)
          (own_port name design_name cells top cell_plan placed cell_name ps is ns properties are_ports are_instances ports_apart idents_apart port bit (joined_node cell_plan.cells cell_plan.cell classes are good.joins_in_range (nodes.Port port bit) class h))
          (original x.name) (bits_of_nets linked before) (free (nodes.Port port bit) class h refl there))
      node_none (nodes.Pin instance port bit) ref h is_ref =
          let found = pin_found name design_name cells top cell_plan placed cell_name ps is ns properties are_ports are_instances ports_apart idents_apart instance port bit (joined_node cell_plan.cells cell_plan.cell classes are good.joins_in_range (nodes.Pin instance port bit) class h) in
          subst (λ r. ref_refusals linked (original x.name) (bits_of_nets linked before) r ≡ []) (same_ref ref (pin_ref_for cell_plan instance port bit) is_ref)
          (pin_none linked (pin_ref_for cell_plan instance port bit) instance found.inner (inner_apart name design_name cells top cell_plan placed cell_name ps is ns properties are_ports are_instances ports_apart idents_apart) found.of_instance port bit found.inner_ports_apart found.of_port
          (original x.name) (bits_of_nets linked before) (free (nodes.Pin instance port bit) class h refl there))
      node_none (nodes.Net net) ref h is_ref = absurd cc
      node_none nodes.Zero ref h is_ref = subst (λ r. ref_refusals linked (original x.name) (bits_of_nets linked before) r ≡ []) (same_ref ref (constant_ref_for cell_plan false) is_ref)
          (constant_none false h (stand_zero name design_name cells top cell_plan placed cell_name ps is ns properties are_ports are_instances ports_apart idents_apart classes are_added constants are good live nets (need false h)) refl)
      node_none nodes.One ref h is_ref = subst (λ r. ref_refusals linked (original x.name) (bits_of_nets linked before) r ≡ []) (same_ref ref (constant_ref_for cell_plan true) is_ref)
          (constant_none true h (stand_one name design_name cells top cell_plan placed cell_name ps is ns properties are_ports are_instances ports_apart idents_apart classes are_added constants are good live nets (need true h)) refl)

    net_none : flat_map (ref_refusals linked (original x.name) (bits_of_nets linked before)) x.joined ≡ []
    net_none =
        let at = net_at (length before) x here in
        ap (flat_map (ref_refusals linked (original x.name) (bits_of_nets linked before))) (sym at.2)
        ∙ none_of (ref_for cell_plan) (ref_refusals linked (original x.name) (bits_of_nets linked before)) (members_of classes at.0) (λ node ref m is_ref. node_none at.0 at.1 node ref ((member_of_class cell_plan.cell classes are node at.0).1 m) is_ref)

  -- the nets of a cell under identifiers that differ up to case
  pub nets_good : AreNets name design_name cells top placed.apart placed.viewed linked ns
  nets_good = record { apart = nets.apart; each = net_none }
