-- The cell that is made for a constant stands for it in the design of the file; and no join of a cell of an EDIF file names a constant.
use Rattle.std.proofs.Common.{arith, ◌≡◌, ◌<◌, inl, inr, ℕ, length, Bool, true, false, List, [], ◌∷◌, Option, Some, None, map, refl, ap, ◌∙◌, subst}
use Rattle.std.specs.Prelude.{◌≢◌, Contains, get_or, option_map}
use Rattle.std.specs.List.{cons_option, filter_map, flat_map}
use Rattle.std.specs.Option.{option_and_then}
use Rattle.std.proofs.lemmas.List.Elements.{Contains-append_cases}
use Rattle.nl_base.specs.declared.value.Dir.TheVariants.{Output}
use Rattle.edif_values.specs.declared.name.NameDef.{NameDef}
use Rattle.edif_values.specs.Directions.{direction_of, told}
use Rattle.edif_values.specs.declared.instance.Instance.{Instance}
use Rattle.edif_values.specs.declared.net.Net.{Net}
use Rattle.edif_values.specs.declared.net.PortRef.{PortRef}
use Rattle.edif_values.specs.declared.port.Port.{Port}
use Rattle.edif_values.specs.declared.file.EdifFile.{EdifFile}
use Rattle.edif_design.specs.CellRules.{Owner, bit_meant, bit_of, node_of, owner_bit, owner_of, port_candidates, size_of}
use Rattle.edif_design.specs.Design.{cell_value, instance_value, net_joins, port_value}
use Rattle.edif_design.specs.Parts.{nets, numbered}
use Rattle.edif_design.specs.References.{LinkedCell, linked_cell, place_in}
use Rattle.edif_lookup.specs.Candidates.{the_only}
use Rattle.edif_written.specs.Naming.{name_for}
use Rattle.edif_naming.proofs.NamingLaws.{original_name_for}
use Rattle.edif_written.specs.Written.{cell_of}
use Rattle.edif_written.proofs.Parts.{instances_are, nets_are, ports_are}
use Rattle.edif_plans.specs.Made.{new_cell_for, output_for}
use Rattle.edif_plans.specs.declared.head.Head.{Head}
use Rattle.net_graph.proofs.WalkLaws.{linked_alone}
use Rattle.net_hier.specs.Cells.{HasLocalStep, IsConstantCell, constant_node}
use Rattle.net_hier.specs.Constants.{ConstantNames, name_of_constant}
use Rattle.net_hier.specs.declared.constants.ConstName.{ConstName}
use Rattle.net_hier.specs.declared.cells.HCell.{HCell}
use Rattle.net_hier.specs.declared.nodes.Join.{Join}
use Rattle.net_hier.specs.declared.nodes.Node.TheVariants as nodes
use Rattle.net_stars.proofs.Lists.{contains_cases, map_contains}

none_there : {A : Type 0} (xs : List A) (x : A) → xs ≡ [] → Contains xs x → ⊥
none_there xs x e h = let inside : h.0 < length xs = h.1 in let none : length xs ≡ 0 = ap length e in omega (arith, inside, none)

-- ---- the cell of a constant

module _ (file : EdifFile) (numbers : List ℕ) (head : Head) (constant : ConstName) where
  abbrev cell_name : NameDef
  cell_name = name_for head.cell constant.cell

  abbrev port : Port
  port = output_for (get_or head.ports 0 []) constant.port

  abbrev value : HCell
  value = cell_value numbers (linked_cell file (place_in 0 (new_cell_for head constant)))

  new_name : value.name ≡ constant.cell
  unfolding cell_value cell_of
  new_name = original_name_for head.cell constant.cell

  new_ports : value.ports ≡ port_value port ∷ []
  unfolding cell_value
  new_ports = ap (map port_value) (ports_are cell_name (port ∷ []) [] [] [])

  new_instances : value.instances ≡ []
  unfolding cell_value
  new_instances = ap (λ (l : List Instance). map (instance_value numbers (linked_cell file (place_in 0 (new_cell_for head constant))).below) (numbered l)) (instances_are cell_name (port ∷ []) [] [] [])

  new_joins : value.joins ≡ []
  unfolding cell_value
  new_joins = ap (λ (l : List Net). flat_map (net_joins (linked_cell file (place_in 0 (new_cell_for head constant)))) (numbered l)) (nets_are cell_name (port ∷ []) [] [] [])

  output : (port_value port).dir ≡ Output
  unfolding direction_of told
  output = refl

pub new_is_constant : (file : EdifFile) (numbers : List ℕ) (head : Head) (names : ConstantNames) (value : Bool)
    → IsConstantCell names value (cell_value numbers (linked_cell file (place_in 0 (new_cell_for head (name_of_constant names value)))))
new_is_constant file numbers head names value =
    let constant : ConstName = name_of_constant names value in
    let made : HCell = cell_value numbers (linked_cell file (place_in 0 (new_cell_for head constant))) in
    record {
      is_leaf = record {
        no_instances = new_instances file numbers head constant;
        apart = λ x y hx hy link. linked_alone (HasLocalStep made) x (λ z step. none_there made.joins step.join (new_joins file numbers head constant) step.is_join) link;
      };
      is_named = new_name file numbers head constant;
      port = port_value (output_for (get_or head.ports 0 []) constant.port);
      only_port = new_ports file numbers head constant;
      port_named = original_name_for (get_or head.ports 0 []) constant.port;
      is_scalar = refl;
      is_output = output file numbers head constant;
    }

-- ---- joins

no_constant : (owner : Owner) (port bit : ℕ) (value : Bool) → node_of owner port bit ≢ constant_node value
no_constant (None, cell) port bit false e = cc
no_constant (None, cell) port bit true e = cc
no_constant (Some instance, cell) port bit false e = cc
no_constant (Some instance, cell) port bit true e = cc

-- a reference means no constant
means_none : (linked : LinkedCell) (ref : PortRef) (value : Bool) → bit_meant linked ref ≢ Some (constant_node value)
means_none linked ref value e = by_owner (owner_of linked ref.instance) e
  where
    by_bit : (owner : Owner) (port : ℕ) (bit : Option ℕ) → option_map (node_of owner port) bit ≢ Some (constant_node value)
    by_bit owner port None e = cc
    by_bit owner port (Some bit) e = no_constant owner port bit value (let f : node_of owner port bit ≡ constant_node value = cc in f)

    by_port : (owner : Owner) (port : Option (ℕ × Port)) → option_and_then (λ (p : ℕ × Port). option_map (node_of owner p.0) (bit_of (size_of p.1.name) ref.member)) port ≢ Some (constant_node value)
    by_port owner None e = cc
    by_port owner (Some port) e = by_bit owner port.0 (bit_of (size_of port.1.name) ref.member) e

    by_owner : (owner : Option Owner) → option_and_then (owner_bit ref) owner ≢ Some (constant_node value)
    by_owner None e = cc
    by_owner (Some owner) e = by_port owner (the_only (port_candidates owner.1 ref.port)) e

in_flat : {A B : Type 0} (f : A → List B) (xs : List A) (y : B) → Contains (flat_map f xs) y → (x : A) × Contains (f x) y
in_flat f [] y h = absurd (none_there [] y refl h)
in_flat {A = A} f (x ∷ xs) y h = elim (Contains-append_cases (f x) (flat_map f xs) y h) as (λ _. (z : A) × Contains (f z) y) [
  | inl a ↦ (x, a)
  | inr b ↦ in_flat f xs y b
]

in_kept : {A B : Type 0} (f : A → Option B) (xs : List A) (y : B) → Contains (filter_map f xs) y → (x : A) × (f x ≡ Some y)
in_kept f [] y h = absurd (none_there [] y refl h)
in_kept {A = A} {B = B} f (x ∷ xs) y h = by (f x) refl h (λ r. in_kept f xs y r)
  where
    by : (o : Option B) → f x ≡ o → Contains (cons_option o (filter_map f xs)) y → (Contains (filter_map f xs) y → (z : A) × (f z ≡ Some y)) → (z : A) × (f z ≡ Some y)
    by None e h rest = rest h
    by (Some z) e h rest = elim (contains_cases z y (filter_map f xs) h) as (λ _. (w : A) × (f w ≡ Some y)) [
      | inl a ↦ (x, e ∙ ap Some a)
      | inr b ↦ rest b
    ]

-- no join names a constant
pub joins_name_none : (numbers : List ℕ) (linked : LinkedCell) (join : Join) (value : Bool) → Contains (cell_value numbers linked).joins join → (join.a ≢ constant_node value) × (join.b ≢ constant_node value)
unfolding cell_value
joins_name_none numbers linked join value h =
    let (net, inside) = in_flat (net_joins linked) (numbered (nets linked.cell)) join h in
    let (bit, there, same) = map_contains (λ bit. record { a = nodes.Net net.0; b = bit }) (filter_map (bit_meant linked) net.1.joined) join inside in
    let (ref, means) = in_kept (bit_meant linked) net.1.joined bit there in
    subst (λ (j : Join). (j.a ≢ constant_node value) × (j.b ≢ constant_node value)) same
    (net_is_none net.0 value, λ e. means_none linked ref value (means ∙ ap Some e))
  where
    net_is_none : (number : ℕ) (value : Bool) → nodes.Net number ≢ constant_node value
    net_is_none number false e = cc
    net_is_none number true e = cc
