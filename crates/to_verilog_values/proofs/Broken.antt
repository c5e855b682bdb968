-- Lists of objects that break rules, all of which are empty.
use Rattle.std.proofs.Common.{◌≡◌, ℕ, zero, suc, inl, inr, Bool, true, false, not, ◌&&◌, ◌||◌, cond, if◌then◌else◌, List, [], ◌∷◌, ◌++◌, Some, None, map, filter, flat_map, slice_get, codes, bytes_eq, refl, sym, ◌∙◌, ap, subst}
use Rattle.std.specs.List.{AllByRecursion, list_any}
use Rattle.std.proofs.lemmas.Bool.{false≢true}
use Rattle.std.proofs.lemmas.Slice.Eq.{bytes_eq-Decides}
use Rattle.nl_base.specs.declared.rule.Rule.{Rule}
use Rattle.nl_base.specs.declared.rule.Rule.TheVariants.{V1, V3, V4, V5}
use Rattle.nl_base.specs.declared.value.PropValue.{PropValue}
use Rattle.nl_base.specs.declared.value.PropValue.TheVariants.{Flag}
use Rattle.net_bits.specs.Names.{NameSet, has_name as set_has}
use Rattle.net_hier.specs.Design.{IsCell, top_name}
use Rattle.net_hier.specs.Facts.{HasLastValue}
use Rattle.net_hier.specs.declared.cells.HCell.{HCell}
use Rattle.net_hier.specs.declared.cells.HInst.{HInst}
use Rattle.net_hier.specs.declared.cells.HNet.{HNet}
use Rattle.net_hier.specs.declared.cells.HPort.{HPort}
use Rattle.net_hier.specs.declared.cells.HProp.{HProp}
use Rattle.net_live.specs.Last.{last_of}
use Rattle.net_live.proofs.LastLaws.{last_values_kept}
use Rattle.to_verilog_props.specs.Written.{HaveNoFlags}
use Rattle.to_verilog_rules.specs.Rules.{boolean_parameters, boolean_params, boolean_params_of, cells_twice, first_V, in_cells, is_boolean, is_last_boolean, is_name, refusals, shared_names, unwritable, unwritable_instances, unwritable_names, unwritable_nets, unwritable_object, unwritable_of_design, unwritable_ports, unwritable_props}
use Rattle.to_verilog_values.specs.Kept.{HaveGoodNames, IsNamedCell, IsNamedObject}
use Rattle.vlog_design.specs.Names.{Name, has_name}
use Rattle.vlog_design.specs.Rules.{Objects, first_of, refused}

-- a list without a first element has none
none_first : {A : Type 0} (xs : List A) → first_of xs ≡ None → xs ≡ []
none_first [] e = refl
none_first (x ∷ xs) e = absurd (let f : Some x ≡ None = e in cc)

-- both parts of an empty list are empty
left_none : {A : Type 0} (xs ys : List A) → xs ++ ys ≡ [] → xs ≡ []
left_none [] ys e = refl
left_none (x ∷ xs) ys e = absurd (let f : x ∷ (xs ++ ys) ≡ [] = e in cc)

right_none : {A : Type 0} (xs ys : List A) → xs ++ ys ≡ [] → ys ≡ []
right_none [] ys e = e
right_none (x ∷ xs) ys e = absurd (let f : x ∷ (xs ++ ys) ≡ [] = e in cc)

map_none : {A B : Type 0} (f : A → B) (xs : List A) → map f xs ≡ [] → xs ≡ []
map_none f [] e = refl
map_none f (x ∷ xs) e = absurd (let g : f x ∷ map f xs ≡ [] = e in cc)

-- where the parts of elements are all empty, each is
each_none : {A B : Type 0} (f : A → List B) (xs : List A) → flat_map f xs ≡ [] → AllByRecursion (λ x. f x ≡ []) xs
each_none f [] e = tt
each_none f (x ∷ xs) e = (left_none (f x) (flat_map f xs) e, each_none f xs (right_none (f x) (flat_map f xs) e))

pub each_turned : {A : Type 0} (P Q : A → Type 0) → ((x : A) → P x → Q x) → (xs : List A) → AllByRecursion P xs → AllByRecursion Q xs
each_turned P Q f [] h = tt
each_turned P Q f (x ∷ xs) h = (f x h.0, each_turned P Q f xs h.1)

one_of : {A : Type 0} (P : A → Type 0) (xs : List A) (k : ℕ) (x : A) → AllByRecursion P xs → slice_get xs k ≡ Some x → P x
one_of P [] k x h e = absurd (let f : None ≡ Some x = e in cc)
one_of P (y ∷ xs) zero x h e = let f : Some y ≡ Some x = e in let s : y ≡ x = cc in subst P s h.0
one_of P (y ∷ xs) (suc k) x h e = one_of P xs k x h.1 e

-- names that can be written
name_written : (kind name : Name) → unwritable kind name ≡ [] → is_name name ≡ true
name_written kind name = by (is_name name)
  where
    by : (b : Bool) → (if b then [] else (kind ∷ name ∷ []) ∷ []) ≡ [] → b ≡ true
    by true e = refl
    by false e = absurd (let f : (kind ∷ name ∷ []) ∷ [] ≡ [] = e in cc)

props_written : (props : List HProp) → unwritable_props props ≡ [] → HaveGoodNames props
props_written props e = each_turned (λ (prop : HProp). unwritable (codes "property") prop.name ≡ []) (λ (prop : HProp). is_name prop.name ≡ true) (λ prop h. name_written (codes "property") prop.name h) props (each_none (λ (prop : HProp). unwritable (codes "property") prop.name) props e)

object_written : (kind name : Name) (props : List HProp) → unwritable_object kind name props ≡ [] → IsNamedObject name props
object_written kind name props e = record {
  name_is = name_written kind name (left_none (unwritable kind name) (unwritable_props props) e);
  props_are = props_written props (right_none (unwritable kind name) (unwritable_props props) e);
}

-- the names of the design's properties
kept_good : (props : List HProp) → filter (λ (prop : HProp). not (is_name prop.name)) props ≡ [] → HaveGoodNames props
kept_good [] e = tt
kept_good (prop ∷ props) e = by (is_name prop.name) refl e (kept_good props)
  where
    by : (b : Bool) → is_name prop.name ≡ b → cond (not b) (prop ∷ filter (λ (prop : HProp). not (is_name prop.name)) props) (filter (λ (prop : HProp). not (is_name prop.name)) props) ≡ [] →
        (filter (λ (prop : HProp). not (is_name prop.name)) props ≡ [] → HaveGoodNames props) → HaveGoodNames (prop ∷ props)
    by true f g rec = (f, rec g)
    by false f g rec = absurd (let h : prop ∷ filter (λ (prop : HProp). not (is_name prop.name)) props ≡ [] = g in cc)

-- a boolean that is the last value of a name
flag_found : (props : List HProp) (name : Name) (one : Bool) → HasLastValue props name (Flag one) → list_any (λ (prop : HProp). bytes_eq name prop.name && is_boolean prop.value) props ≡ true
flag_found [] name one h = absurd h
flag_found (prop ∷ props) name one (inl later) = or_right (bytes_eq name prop.name && is_boolean prop.value) (flag_found props name one later)
  where
    or_right : (a : Bool) {b : Bool} → b ≡ true → (a || b) ≡ true
    or_right true e = refl
    or_right false e = e
flag_found (prop ∷ props) name one (inr here) =
    ap (λ b. (b && is_boolean prop.value) || list_any (λ (prop : HProp). bytes_eq name prop.name && is_boolean prop.value) props) ((bytes_eq-Decides name prop.name).1 (sym here.0))
    ∙ ap (λ v. is_boolean v || list_any (λ (prop : HProp). bytes_eq name prop.name && is_boolean prop.value) props) here.1

name_there : (props : List HProp) (name : Name) (value : PropValue) (test : Name → Bool) → HasLastValue props name value → test name ≡ true → filter test (map (λ (prop : HProp). prop.name) props) ≡ [] → ⊥
name_there [] name value test h pass e = h
name_there (prop ∷ props) name value test h pass e = by (test prop.name) refl e h (name_there props name value test)
  where
    by : (b : Bool) → test prop.name ≡ b → cond b (prop.name ∷ filter test (map (λ (prop : HProp). prop.name) props)) (filter test (map (λ (prop : HProp). prop.name) props)) ≡ [] → HasLastValue (prop ∷ props) name value →
        (HasLastValue props name value → test name ≡ true → filter test (map (λ (prop : HProp). prop.name) props) ≡ [] → ⊥) → ⊥
    by true f g h rec = let k : prop.name ∷ filter test (map (λ (prop : HProp). prop.name) props) ≡ [] = g in cc
    by false f g (inl later) rec = rec later pass g
    by false f g (inr here) rec = false≢true (sym f ∙ (ap test here.0 ∙ pass))

no_flags : (params : NameSet) (props : List HProp) → boolean_params (set_has params) props ≡ [] → HaveNoFlags params props
no_flags params props e name one pass has =
    let found : is_last_boolean props name ≡ true = flag_found (last_of props) name one ((last_values_kept props name (Flag one)).0 has) in
    name_there props name (Flag one) (λ n. set_has params n && is_last_boolean props n) has (λ i. pass i && found i) e

-- the parts of the refusals of a design
record AreNone (cells : List HCell) (top : ℕ) (props : List HProp) (is_param : Name → Bool) : Type 0 where
  names : in_cells V1 unwritable_names cells ≡ []
  twice : cells_twice cells ≡ []
  shared : in_cells V3 shared_names cells ≡ []
  design : unwritable_of_design (top_name cells top) props ≡ []
  booleans : in_cells V5 (boolean_parameters is_param) cells ≡ []

parts_none : (cells : List HCell) (top : ℕ) (props : List HProp) (is_param : Name → Bool) → first_V cells top props is_param ≡ None → AreNone cells top props is_param
unfolding first_V refusals
parts_none cells top props is_param e =
    let a = in_cells V1 unwritable_names cells in
    let b = cells_twice cells in
    let c = in_cells V3 shared_names cells in
    let d = unwritable_of_design (top_name cells top) props in
    let f = in_cells V5 (boolean_parameters is_param) cells in
    let all : a ++ b ++ c ++ d ++ f ≡ [] = none_first (a ++ b ++ c ++ d ++ f) e in
    let four = left_none (a ++ b ++ c ++ d) f all in
    let three = left_none (a ++ b ++ c) d four in
    let two = left_none (a ++ b) c three in
    record {
      names = left_none a b two;
      twice = right_none a b two;
      shared = right_none (a ++ b) c three;
      design = right_none (a ++ b ++ c) d four;
      booleans = right_none (a ++ b ++ c ++ d) f all;
    }

-- the objects of a cell, where those of all cells are none
of_cell : (rule : Rule) (objects : HCell → Objects) (cells : List HCell) (number : ℕ) (cell : HCell) → in_cells rule objects cells ≡ [] → IsCell cells number cell → objects cell ≡ []
of_cell rule objects cells number cell e is =
    map_none (refused rule cell.name) (objects cell) (one_of (λ (c : HCell). map (refused rule c.name) (objects c) ≡ []) cells number cell (each_none (λ (c : HCell). map (refused rule c.name) (objects c)) cells e) is)

names_of_cell : (cell : HCell) → unwritable_names cell ≡ [] → IsNamedObject cell.name cell.props × AllByRecursion (λ (port : HPort). IsNamedObject port.name port.props) cell.ports
    × AllByRecursion (λ (instance : HInst). IsNamedObject instance.name instance.props) cell.instances × AllByRecursion (λ (net : HNet). HaveGoodNames net.props) cell.nets
unfolding unwritable_names
names_of_cell cell e =
    let a = unwritable_object (codes "cell") cell.name cell.props in
    let b = unwritable_ports cell.ports in
    let c = unwritable_instances cell.instances in
    let d = unwritable_nets cell.nets in
    let outside = left_none (a ++ b) (c ++ d) e in
    let inside = right_none (a ++ b) (c ++ d) e in (
      object_written (codes "cell") cell.name cell.props (left_none a b outside),
      each_turned (λ (port : HPort). unwritable_object (codes "port") port.name port.props ≡ []) (λ (port : HPort). IsNamedObject port.name port.props) (λ port h. object_written (codes "port") port.name port.props h) cell.ports
          (each_none (λ (port : HPort). unwritable_object (codes "port") port.name port.props) cell.ports (right_none a b outside)),
      each_turned (λ (instance : HInst). unwritable_object (codes "instance") instance.name instance.props ≡ []) (λ (instance : HInst). IsNamedObject instance.name instance.props) (λ instance h. object_written (codes "instance") instance.name instance.props h) cell.instances
          (each_none (λ (instance : HInst). unwritable_object (codes "instance") instance.name instance.props) cell.instances (left_none c d inside)),
      each_turned (λ (net : HNet). unwritable_props net.props ≡ []) (λ (net : HNet). HaveGoodNames net.props) (λ net h. props_written net.props h) cell.nets
          (each_none (λ (net : HNet). unwritable_props net.props) cell.nets (right_none c d inside)),
    )

apart_in : (cell : HCell) → shared_names cell ≡ [] → filter (has_name (map (λ (instance : HInst). instance.name) cell.instances)) (map (λ (port : HPort). port.name) cell.ports) ≡ []
unfolding shared_names
apart_in cell e = map_none (λ name. name ∷ []) (filter (has_name (map (λ (instance : HInst). instance.name) cell.instances)) (map (λ (port : HPort). port.name) cell.ports)) e

no_flags_in : (params : NameSet) (cell : HCell) → boolean_parameters (set_has params) cell ≡ [] → AllByRecursion (λ (instance : HInst). HaveNoFlags params instance.props) cell.instances
unfolding boolean_parameters
no_flags_in params cell e =
    each_turned (λ (instance : HInst). boolean_params_of (set_has params) instance ≡ []) (λ (instance : HInst). HaveNoFlags params instance.props)
    (λ instance h. no_flags params instance.props (map_none (λ name. instance.name ∷ name ∷ []) (boolean_params (set_has params) instance.props) h))
    cell.instances (each_none (boolean_params_of (set_has params)) cell.instances e)

module _ (cells : List HCell) (top : ℕ) (props : List HProp) (params : NameSet) (none : first_V cells top props (set_has params) ≡ None) where
  pub named_cell : (number : ℕ) (cell : HCell) → IsCell cells number cell → IsNamedCell params cell
  named_cell number cell is =
      let parts = parts_none cells top props (set_has params) none in
      let names = names_of_cell cell (of_cell V1 unwritable_names cells number cell parts.names is) in
      record {
        itself = names.0;
        ports = names.1;
        instances = names.2;
        nets = names.3;
        apart = apart_in cell (of_cell V3 shared_names cells number cell parts.shared is);
        no_flags = no_flags_in params cell (of_cell V5 (boolean_parameters (set_has params)) cells number cell parts.booleans is);
      }

  pub own_cells : cells_twice cells ≡ []
  own_cells = (parts_none cells top props (set_has params) none).twice

  pub good_design : HaveGoodNames props
  good_design = kept_good props (map_none (λ (prop : HProp). refused V4 (top_name cells top) (prop.name ∷ [])) (filter (λ (prop : HProp). not (is_name prop.name)) props) (parts_none cells top props (set_has params) none).design)
