-- The nets that are made of the live classes of a cell join what stands for their nodes, each net the nodes of its class.
use Rattle.std.proofs.Common.{arith, ◌≡◌, ℕ, Bool, true, false, cond, List, [], ◌∷◌, Option, Some, None, filter, length, map, refl, sym, ap, ◌∙◌, subst}
use Rattle.std.specs.Prelude.{Contains, option_map, slice_get}
use Rattle.std.specs.List.{cons_option, filter_map, flat_map}
use Rattle.std.proofs.lemmas.List.{length-map}
use Rattle.std.proofs.lemmas.Option.{slice_get-map}
use Rattle.edif_values.specs.declared.name.NameDef.{NameDef}
use Rattle.edif_values.specs.declared.property.Property.{Property}
use Rattle.edif_values.specs.declared.cell.Cell.{Cell}
use Rattle.edif_values.specs.declared.instance.Instance.{Instance}
use Rattle.edif_values.specs.declared.net.Net.{Net}
use Rattle.edif_values.specs.declared.net.PortRef.{PortRef}
use Rattle.edif_values.specs.declared.port.Port.{Port}
use Rattle.net_bits.specs.Classes.{AreClasses, ClassTable, class_of, members_of}
use Rattle.net_bits.proofs.CallerLaws.{member_of_class}
use Rattle.net_hier.specs.SameCells.{stand_in}
use Rattle.net_hier.specs.Valid.{IsGoodCell}
use Rattle.net_hier.specs.declared.nodes.Node.{Node}
use Rattle.net_hier.specs.declared.nodes.Node.TheVariants as nodes
use Rattle.net_live.specs.Live.{ends_of, is_end, is_live, needs_constant}
use Rattle.net_live.proofs.LiveLaws.{joined_node, place_of}
use Rattle.net_stars.specs.Nets.{stars}
use Rattle.net_stars.proofs.Lists.{contains_first, contains_later}
use Rattle.edif_meanings.specs.Apart.{AreApart}
use Rattle.edif_design.specs.CellRules.{bit_meant, port_ident}
use Rattle.edif_design.specs.Design.{net_joins}
use Rattle.edif_design.specs.Parts.{numbered, ports}
use Rattle.edif_design.specs.References.{LinkedCell, linked_cell, place_in}
use Rattle.edif_written.specs.Written.{cell_of, file_of}
use Rattle.edif_written.proofs.JoinLaws.{joins_are, meant}
use Rattle.edif_written.proofs.Parts.{instances_are}
use Rattle.edif_written.proofs.RefLaws.{IsMember, pin_bit}
use Rattle.edif_plans.specs.Summaries.{InstanceSummary, added_summary, instance_summary, instance_ident, own_summary}
use Rattle.edif_plans.specs.Made.{AreAddedTo, AreInstancesFor, AreNetsFor, ArePortsFor}
use Rattle.edif_plans.specs.Plans.{constant_head, constant_number}
use Rattle.edif_plans.specs.References.{CellPlan, added_place, constant_ref_for, ref_for, refs_for}
use Rattle.edif_plans.proofs.Lists.{at_get}
use Rattle.edif_plans.proofs.Needed.{constant_is_needed}
use Rattle.edif_partners.specs.Placed.{ArePlaced, ConstantStands, added_number}
use Rattle.edif_partners.proofs.AddedMeans.{added_at, get_right}
use Rattle.edif_partners.proofs.Free.{shown_at}
use Rattle.edif_partners.proofs.RefMeans.{IsPinFound, inner_apart, link_below, own_means, pin_means}

map_twice : {A B C : Type 0} (f : B → C) (g : A → B) (xs : List A) → map f (map g xs) ≡ map (λ x. f (g x)) xs
map_twice f g [] = refl
map_twice f g (x ∷ xs) = ap (λ l. f (g x) ∷ l) (map_twice f g xs)

map_alike : {A B : Type 0} (f g : A → B) (xs : List A) → ((x : A) → Contains xs x → f x ≡ g x) → map f xs ≡ map g xs
map_alike f g [] h = refl
map_alike f g (x ∷ xs) h = λ j. h x (contains_first x xs) j ∷ map_alike f g xs (λ y m. h y (contains_later x y xs m)) j

module _ (name design_name : NameDef) (cells : List Cell) (top : List ℕ) (cell_plan : CellPlan) (placed : ArePlaced cell_plan.cells cell_plan.plan cells) (cell_name : NameDef) (ps : List Port) (is : List Instance) (ns : List Net) (properties : List Property)
    (are_ports : ArePortsFor cell_plan.head cell_plan.cell ps) (are_instances : AreInstancesFor cell_plan.plan cell_plan.cell.instances cell_plan.instances is) (ports_apart : AreApart cell_plan.head.ports) (idents_apart : AreApart cell_plan.instances.idents)
    (classes : ClassTable) (are_added : AreAddedTo cell_plan.cell.instances classes cell_plan.instances) (constants : (value : Bool) → needs_constant classes value ≡ true → ConstantStands cell_plan.plan cells value) where
  abbrev linked : LinkedCell
  linked = linked_cell (file_of name design_name cells top) (place_in 0 (cell_of cell_name ps is ns properties))

  abbrev added : Bool → Option ℕ
  added = added_number cell_plan.instances classes

  -- the instance and the port that the reference to the pin of an added instance names
  pub constant_found : (value : Bool) → needs_constant classes value ≡ true → IsPinFound name design_name cells top cell_plan placed cell_name ps is ns properties are_ports are_instances ports_apart idents_apart (added_place cell_plan.instances value) 0 0 (constant_ref_for cell_plan value)
  constant_found value needed =
      let stands = constants value needed in
      let a = added_at cell_plan classes are_added value needed in
      let p : ℕ = added_place cell_plan.instances value in
      let count : length (map (own_summary cell_plan.plan) cell_plan.cell.instances) ≡ length cell_plan.cell.instances = length-map cell_plan.cell.instances (own_summary cell_plan.plan) in
      let at : slice_get (map instance_summary is) p ≡ Some (added_summary cell_plan.plan a.one) =
      ap (λ l. slice_get l p) are_instances.summaries
      ∙ (get_right (map (own_summary cell_plan.plan) cell_plan.cell.instances) (map (added_summary cell_plan.plan) cell_plan.instances.added) p a.place (let e = a.at in omega (arith, e, count))
      ∙ (slice_get-map (added_summary cell_plan.plan) cell_plan.instances.added a.place ∙ ap (option_map (added_summary cell_plan.plan)) a.is_there)) in
      let found = shown_at instance_summary is p (added_summary cell_plan.plan a.one) at in
      let ident : slice_get cell_plan.instances.idents p ≡ Some found.item.name.ident = ap (λ l. slice_get l p) (sym are_instances.idents) ∙ (slice_get-map instance_ident is p ∙ ap (option_map instance_ident) found.is_there) in
      let named : slice_get (constant_head cell_plan.plan value).ports 0 ≡ Some (port_ident stands.port) = ap (λ l. slice_get l 0) stands.head.ports_named ∙ (slice_get-map port_ident (ports stands.made) 0 ∙ ap (option_map port_ident) stands.has_port) in
      record {
        inner = stands.made;
        of_instance = record {
          instance = found.item;
          is_there = ap (λ l. slice_get l p) (instances_are cell_name ps is ns properties) ∙ found.is_there;
          is_named = ap Some (at_get cell_plan.instances.idents p found.item.name.ident [] ident);
          file_number = constant_number cell_plan.plan value;
          is_of = link_below name design_name cells top cell_plan placed cell_name ps is ns properties are_ports are_instances ports_apart idents_apart p found.item (constant_number cell_plan.plan value) stands.made found.is_there stands.is_there
              (ap (λ (f : InstanceSummary). f.library) found.shows) (ap (λ (f : InstanceSummary). f.cell) found.shows ∙ (ap (λ v. (constant_head cell_plan.plan v).cell) a.is_value ∙ stands.head.cell));
        };
        inner_ports_apart = placed.ports_apart (constant_number cell_plan.plan value) stands.made stands.is_there;
        of_port = record {
          the_port = stands.port;
          is_there = stands.has_port;
          is_named = at_get (constant_head cell_plan.plan value).ports 0 (port_ident stands.port) [] named;
          is_bit = subst (λ s. IsMember s None 0) (sym stands.is_scalar) refl;
        };
      }

  -- the reference to the pin of an added instance
  constant_means : (value : Bool) → needs_constant classes value ≡ true → bit_meant linked (constant_ref_for cell_plan value) ≡ Some (nodes.Pin (added_place cell_plan.instances value) 0 0)
  constant_means value needed =
      let found = constant_found value needed in
      pin_bit linked (constant_ref_for cell_plan value) (added_place cell_plan.instances value) found.inner (inner_apart name design_name cells top cell_plan placed cell_name ps is ns properties are_ports are_instances ports_apart idents_apart) found.of_instance 0 0 found.inner_ports_apart found.of_port

  module _ (are : AreClasses cell_plan.cell classes) (good : IsGoodCell cell_plan.cells cell_plan.cell) (live : List ℕ) (nets : AreNetsFor cell_plan classes live ns) where
    -- the references to nodes of a live class mean what stands for them
    one_more : (node : Node) (rest : List Node) (ref : PortRef) (bit : Node) → ref_for cell_plan node ≡ Some ref → bit_meant linked ref ≡ Some bit
        → filter_map (bit_meant linked) (filter_map (ref_for cell_plan) (node ∷ rest)) ≡ bit ∷ filter_map (bit_meant linked) (filter_map (ref_for cell_plan) rest)
    one_more node rest ref bit e f =
        ap (λ o. filter_map (bit_meant linked) (cons_option o (filter_map (ref_for cell_plan) rest))) e ∙ ap (λ o. cons_option o (filter_map (bit_meant linked) (filter_map (ref_for cell_plan) rest))) f

    pub stand_zero : needs_constant classes false ≡ true → stand_in added nodes.Zero ≡ nodes.Pin (added_place cell_plan.instances false) 0 0
    stand_zero needed = ap (λ b. stand_in (λ v. cond b (Some (added_place cell_plan.instances v)) None) nodes.Zero) needed

    pub stand_one : needs_constant classes true ≡ true → stand_in added nodes.One ≡ nodes.Pin (added_place cell_plan.instances true) 0 0
    stand_one needed = ap (λ b. stand_in (λ v. cond b (Some (added_place cell_plan.instances v)) None) nodes.One) needed

    module _ (class : ℕ) (is_live_class : is_live cell_plan.cell.nets (members_of classes class) ≡ true) where
      pub needed : (value : Bool) → class_of classes (cond value nodes.One nodes.Zero) ≡ Some class → needs_constant classes value ≡ true
      needed false h = constant_is_needed cell_plan.cell classes are false class h is_live_class
      needed true h = constant_is_needed cell_plan.cell classes are true class h is_live_class

      node_more : (node : Node) (rest : List Node) → class_of classes node ≡ Some class → filter_map (bit_meant linked) (filter_map (ref_for cell_plan) rest) ≡ map (stand_in added) (filter is_end rest)
          → filter_map (bit_meant linked) (filter_map (ref_for cell_plan) (node ∷ rest)) ≡ map (stand_in added) (filter is_end (node ∷ rest))
      unfolding ref_for
      node_more (nodes.Port port bit) rest h before =
          one_more (nodes.Port port bit) rest _ (nodes.Port port bit) refl (own_means name design_name cells top cell_plan placed cell_name ps is ns properties are_ports are_instances ports_apart idents_apart port bit
          (joined_node cell_plan.cells cell_plan.cell classes are good.joins_in_range (nodes.Port port bit) class h)) ∙ ap (λ l. nodes.Port port bit ∷ l) before
      node_more (nodes.Pin instance port bit) rest h before =
          one_more (nodes.Pin instance port bit) rest _ (nodes.Pin instance port bit) refl (pin_means name design_name cells top cell_plan placed cell_name ps is ns properties are_ports are_instances ports_apart idents_apart instance port bit
          (joined_node cell_plan.cells cell_plan.cell classes are good.joins_in_range (nodes.Pin instance port bit) class h)) ∙ ap (λ l. nodes.Pin instance port bit ∷ l) before
      node_more (nodes.Net net) rest h before = before
      node_more nodes.Zero rest h before =
          one_more nodes.Zero rest _ (nodes.Pin (added_place cell_plan.instances false) 0 0) refl (constant_means false (needed false h)) ∙ (λ j. sym (stand_zero (needed false h)) j ∷ before j)
      node_more nodes.One rest h before =
          one_more nodes.One rest _ (nodes.Pin (added_place cell_plan.instances true) 0 0) refl (constant_means true (needed true h)) ∙ (λ j. sym (stand_one (needed true h)) j ∷ before j)

      nodes_mean : (members : List Node) → ((node : Node) → Contains members node → class_of classes node ≡ Some class) → filter_map (bit_meant linked) (refs_for cell_plan members) ≡ map (stand_in added) (filter is_end members)
      nodes_mean [] h = refl
      nodes_mean (node ∷ rest) h = node_more node rest (h node (contains_first node rest)) (nodes_mean rest (λ x m. h x (contains_later node x rest m)))

      class_means : filter_map (bit_meant linked) (refs_for cell_plan (members_of classes class)) ≡ map (stand_in added) (ends_of classes class)
      class_means = nodes_mean (members_of classes class) (λ node m. (member_of_class cell_plan.cell classes are node class).1 m)

    -- each net means the nodes of its class
    pub nets_mean : map (meant linked) ns ≡ map (map (stand_in added)) (map (ends_of classes) live)
    nets_mean =
        sym (map_twice (filter_map (bit_meant linked)) (λ (net : Net). net.joined) ns)
        ∙ (ap (map (filter_map (bit_meant linked))) nets.joined
        ∙ (map_twice (filter_map (bit_meant linked)) (λ class. refs_for cell_plan (members_of classes class)) live
        ∙ (map_alike (λ class. filter_map (bit_meant linked) (refs_for cell_plan (members_of classes class))) (λ class. map (stand_in added) (ends_of classes class)) live
        (λ class m. let at = place_of live class m in class_means class (nets.are_live.each at.0 class at.1).1)
        ∙ sym (map_twice (map (stand_in added)) (ends_of classes) live))))

    -- so the joins are a star for each live class
    pub made_joins : flat_map (net_joins linked) (numbered ns) ≡ stars (map (map (stand_in added)) (map (ends_of classes) live))
    made_joins = joins_are linked ns ∙ ap stars nets_mean
