-- The first objects of rules.
use Rattle.std.proofs.Common.{◌≡◌, ℕ, ◌<◌, Bool, true, false, not, cond, ◌&&◌, ◌||◌, bytes_eq, if◌then◌else◌, List, [], ◌∷◌, ◌++◌, Option, None, Some, Result, Ok, Err, map, filter, find, flat_map, length, slice_get, get_or, option_map, codes, refl, sym, ◌∙◌, ap}
use Rattle.std.specs.Prelude.{IfOk}
use Rattle.std.specs.List.{list_any}
use Rattle.std.specs.Option.{option_map_or}
use Rattle.std.proofs.lemmas.List.{map-append}
use Rattle.std.proofs.lemmas.Option.{slice_get-get_or}
use Rattle.std.proofs.lemmas.Slice.Eq.{bytes_eq-Decides}
use Rattle.nl_base.specs.declared.rule.Refusal.{Refusal}
use Rattle.nl_base.specs.declared.rule.Rule.{Rule}
use Rattle.nl_base.specs.declared.rule.Rule.TheVariants.{V1, V3, V4, V5}
use Rattle.net_hier.specs.Design.{top_name}
use Rattle.net_hier.specs.declared.cells.HCell.{HCell}
use Rattle.net_hier.specs.declared.cells.HInst.{HInst}
use Rattle.net_hier.specs.declared.cells.HPort.{HPort}
use Rattle.net_hier.specs.declared.cells.HProp.{HProp}
use Rattle.vlog_design.specs.Names.{Name, has_name}
use Rattle.vlog_design.specs.Rules.{each_alone, first_of, refused}
use Rattle.vlog_rules.proofs.RuleLaws.{first_behind, first_filter, first_there}
use Rattle.to_verilog_rules.specs.Found.{IsFirst, flagged_names, is_flag, object_of}
use Rattle.to_verilog_rules.specs.Rules.{boolean_parameters, boolean_params_of, cells_twice, first_V, in_cells, is_boolean, is_name, refusals, shared_names, unwritable_names, unwritable_of_design, unwritable_props}
use Rattle.to_verilog_rules.specs.declared.unwritable.Unwritable.{Unwritable}

find_same : (p q : Name → Bool) → ((name : Name) → p name ≡ q name) → (names : List Name) → find p names ≡ find q names
find_same p q h [] = refl
find_same p q h (name ∷ names) = ap (λ b. cond b (Some name) (find p names)) (h name) ∙ ap (λ o. cond (q name) (Some name) o) (find_same p q h names)

-- the first name that a set has, where the set has the names that pass a test
pub first_by : (set ns : List Name) (test : Name → Bool) (found : Option Name) → found ≡ find (has_name set) ns → ((name : Name) → has_name set name ≡ test name) → found ≡ first_of (filter test ns)
first_by set ns test found e h = e ∙ (find_same (has_name set) test h ns ∙ sym (first_filter test ns))

-- the names of the properties of these names with a boolean are those names with such a property
pub flagged_is : (is_param : Name → Bool) (name : Name) (props : List HProp) → has_name (flagged_names is_param props) name ≡ (is_param name && list_any (λ (prop : HProp). bytes_eq name prop.name && is_boolean prop.value) props)
flagged_is is_param name [] = by (is_param name)
  where
    by : (b : Bool) → false ≡ (b && false)
    by true = refl
    by false = refl
flagged_is is_param name (prop ∷ props) = by (is_boolean prop.value) (is_param prop.name) refl (bytes_eq name prop.name) refl (flagged_is is_param name props)
  where
    by : (b q : Bool) → is_param prop.name ≡ q → (e : Bool) → bytes_eq name prop.name ≡ e → has_name (flagged_names is_param props) name ≡ (is_param name && list_any (λ (prop : HProp). bytes_eq name prop.name && is_boolean prop.value) props) →
        has_name (map (λ (prop : HProp). prop.name) (cond (b && q) (prop ∷ filter (is_flag is_param) props) (filter (is_flag is_param) props))) name ≡ (is_param name && ((e && b) || list_any (λ (prop : HProp). bytes_eq name prop.name && is_boolean prop.value) props))
    by true true f true g rest =
        let passes : is_param name ≡ true = ap is_param ((bytes_eq-Decides name prop.name).0 g) ∙ f in
        ap (λ z. z || has_name (flagged_names is_param props) name) g ∙ sym (ap (λ z. z && true) passes)
    by true true f false g rest = ap (λ z. z || has_name (flagged_names is_param props) name) g ∙ rest
    by true false f true g rest =
        let fails : is_param name ≡ false = ap is_param ((bytes_eq-Decides name prop.name).0 g) ∙ f in
        rest ∙ (ap (λ z. z && list_any (λ (prop : HProp). bytes_eq name prop.name && is_boolean prop.value) props) fails ∙ sym (ap (λ z. z && true) fails))
    by true false f false g rest = rest
    by false q f true g rest = rest
    by false q f false g rest = rest

alone_first : (rule : Rule) (cell : Name) (names : List Name) → first_of (map (refused rule cell) (each_alone names)) ≡ option_map (λ name. refused rule cell (name ∷ [])) (first_of names)
alone_first rule cell [] = refl
alone_first rule cell (name ∷ names) = refl

pub shared_first : (cell : HCell) (found : Option Name) → found ≡ first_of (filter (has_name (map (λ (instance : HInst). instance.name) cell.instances)) (map (λ (port : HPort). port.name) cell.ports)) →
    first_of (map (refused V3 cell.name) (shared_names cell)) ≡ option_map (λ name. refused V3 cell.name (name ∷ [])) found
unfolding shared_names
shared_first cell found e = alone_first V3 cell.name _ ∙ ap (option_map (λ name. refused V3 cell.name (name ∷ []))) (sym e)

-- the first property of the design whose name cannot be written
second_name : (a b c d : Name) → Some (a ∷ b ∷ []) ≡ Some (c ∷ d ∷ []) → b ≡ d
second_name a b c d e = cc

pub property_first : (top : Name) (props : List HProp) (found : Option Unwritable) → IsFirst (unwritable_props props) found →
    first_of (map (λ (prop : HProp). refused V4 top (prop.name ∷ [])) (filter (λ (prop : HProp). not (is_name prop.name)) props)) ≡ option_map (λ (u : Unwritable). refused V4 top (u.name.now ∷ [])) found
property_first top [] None e = refl
property_first top [] (Some u) e = absurd (cc)
property_first top (prop ∷ props) found e = by (is_name prop.name) found e (property_first top props)
  where
    by : (b : Bool) (found : Option Unwritable) → option_map object_of found ≡ first_of ((if b then [] else (codes "property" ∷ prop.name ∷ []) ∷ []) ++ unwritable_props props) →
        ((found : Option Unwritable) → IsFirst (unwritable_props props) found → first_of (map (λ (prop : HProp). refused V4 top (prop.name ∷ [])) (filter (λ (prop : HProp). not (is_name prop.name)) props)) ≡ option_map (λ (u : Unwritable). refused V4 top (u.name.now ∷ [])) found) →
        first_of (map (λ (prop : HProp). refused V4 top (prop.name ∷ [])) (cond (not b) (prop ∷ filter (λ (prop : HProp). not (is_name prop.name)) props) (filter (λ (prop : HProp). not (is_name prop.name)) props))) ≡ option_map (λ (u : Unwritable). refused V4 top (u.name.now ∷ [])) found
    by true found e rest = rest found e
    by false None e rest = absurd (cc)
    by false (Some u) e rest = ap (λ (name : Name). Some (refused V4 top (name ∷ []))) (sym (second_name u.kind.now u.name.now (codes "property") prop.name e))

-- the name of the top
pub top_is : (cells : List HCell) (top number : ℕ) (cell : HCell) → number ≡ top → top < length cells → get_or cells number cell ≡ cell → top_name cells top ≡ cell.name
top_is cells top number cell e h is =
    let there : slice_get cells top ≡ Some (get_or cells top cell) = slice_get-get_or cells top cell h in
    ap (λ o. option_map_or (λ (c : HCell). c.name) o []) (there ∙ ap Some (ap (λ n. get_or cells n cell) (sym e) ∙ is))

-- the refusals of instances, one after another
over_instances : (cell : Name) (is_param : Name → Bool) (instances : List HInst) →
    map (refused V5 cell) (flat_map (boolean_params_of is_param) instances) ≡ flat_map (λ (instance : HInst). map (refused V5 cell) (boolean_params_of is_param instance)) instances
over_instances cell is_param [] = refl
over_instances cell is_param (instance ∷ instances) =
    map-append (refused V5 cell) (boolean_params_of is_param instance) (flat_map (boolean_params_of is_param) instances) ∙ ap (λ l. map (refused V5 cell) (boolean_params_of is_param instance) ++ l) (over_instances cell is_param instances)

pub booleans_are : (is_param : Name → Bool) (cell : HCell) → map (refused V5 cell.name) (boolean_parameters is_param cell) ≡ flat_map (λ (instance : HInst). map (refused V5 cell.name) (boolean_params_of is_param instance)) cell.instances
unfolding boolean_parameters
booleans_are is_param cell = over_instances cell.name is_param cell.instances

-- lists of refusals one after another
behind : {A : Type 0} (xs ys : List A) (found : Option A) → None ≡ first_of xs → found ≡ first_of ys → found ≡ first_of (xs ++ ys)
behind xs ys found none is = is ∙ sym (first_behind xs ys none)

ok_behind : {A E : Type 0} (xs ys : List A) → None ≡ first_of xs → (result : Result (Option A) E) → IfOk result (λ found. found ≡ first_of ys) → IfOk result (λ found. found ≡ first_of (xs ++ ys))
ok_behind xs ys none (Ok found) is = behind xs ys found none is
ok_behind xs ys none (Err fault) is = is

module _ {A : Type 0} (a b c : List A) (one : Option A) (e : one ≡ first_of a) where
  pub three_first : (x : A) → one ≡ Some x → Some x ≡ first_of (a ++ b ++ c)
  three_first x is = first_there (a ++ b) c x (first_there a b x (sym is ∙ e))

  module _ (none : one ≡ None) (two : Option A) (f : two ≡ first_of b) where
    to_two : two ≡ first_of (a ++ b)
    to_two = behind a b two (sym none ∙ e) f

    pub three_second : (x : A) → two ≡ Some x → Some x ≡ first_of (a ++ b ++ c)
    three_second x is = first_there (a ++ b) c x (sym is ∙ to_two)

    pub three_last : two ≡ None → {E : Type 0} (result : Result (Option A) E) → IfOk result (λ found. found ≡ first_of c) → IfOk result (λ found. found ≡ first_of (a ++ b ++ c))
    three_last last result is = ok_behind (a ++ b) c (sym last ∙ to_two) result is

-- the refusals of a design in three parts
abbrev pub of_cells : List HCell → List Refusal
of_cells cells = in_cells V1 unwritable_names cells ++ cells_twice cells ++ in_cells V3 shared_names cells

pub first_V_is : (cells : List HCell) (top : ℕ) (props : List HProp) (is_param : Name → Bool) →
    first_V cells top props is_param ≡ first_of (of_cells cells ++ unwritable_of_design (top_name cells top) props ++ in_cells V5 (boolean_parameters is_param) cells)
unfolding first_V refusals
first_V_is cells top props is_param = refl
