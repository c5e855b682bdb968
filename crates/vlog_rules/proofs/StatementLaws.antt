-- Rules on statements.
use Rattle.std.proofs.Common.{◌≡◌, ℕ, List, [], ◌∷◌, ◌++◌, Option, None, Some, Bool, true, false, not, filter, find, flat_map, map, option_map, refl, sym, ap, ◌∙◌}
use Rattle.std.specs.List.{list_any}
use Rattle.std.specs.Prelude.{is_some, is_none, if◌then◌else◌}
use Rattle.nl_base.specs.declared.rule.Rule.{Rule}
use Rattle.nl_base.specs.declared.rule.Rule.TheVariants.{G3, G5, G17}
use Rattle.vlog_design.specs.Reach.{module_named}
use Rattle.vlog_design.specs.Design.{def_sets}
use Rattle.vlog_design.specs.Names.{defparam_statement, has_name, instance_names, instance_statement, instance_statements}
use Rattle.vlog_rules.proofs.SetLaws.{find_same}
use Rattle.vlog_values.specs.declared.statement.DefSet.{DefSet}
use Rattle.vlog_design.specs.Rules.{Objects, bad_directions, each_alone, each_statement, first_instance, first_of, refused, unknown_instances, unknown_module_in, without_direction}
use Rattle.vlog_rules.proofs.RuleLaws.{first_filter, first_map}
use Rattle.vlog_rules.specs.Defparams.{is_defparam}
use Rattle.vlog_values.specs.declared.module.ItemV.{ItemV}
use Rattle.vlog_values.specs.declared.module.ItemV.TheVariants.{Port, Net, Param, Assign, Instances as InstancesItem, Defparam}
use Rattle.vlog_values.specs.declared.module.Module.{Module}
use Rattle.vlog_values.specs.declared.statement.Instances.{Instances}

pub in_statements : (rule : Rule) (objects : Instances → Objects) (m : Module) (cell : List ℕ) (items : List ItemV) → cell ≡ m.name → items ≡ m.items →
    option_map (refused rule cell) (first_of (flat_map objects (flat_map instance_statement items))) ≡ first_of (map (refused rule m.name) (each_statement objects m))
unfolding instance_statements
in_statements rule objects m cell items e f = rw (e, f) (sym (first_map (refused rule m.name) (each_statement objects m)))

-- the first object of those that are made of one name each
pub first_made : (rule : Rule) (cell : List ℕ) (make : List ℕ → List (List ℕ)) (names : List (List ℕ)) (found : Option (List ℕ)) → found ≡ first_of names →
    option_map (refused rule cell) (first_of (map make names)) ≡ option_map (λ name. refused rule cell (make name)) found
first_made rule cell make names found e = ap (option_map (refused rule cell)) (first_map make names) ∙ (ap (λ o. option_map (refused rule cell) (option_map make o)) (sym e) ∙ by found)
  where
    by : (o : Option (List ℕ)) → option_map (refused rule cell) (option_map make o) ≡ option_map (λ name. refused rule cell (make name)) o
    by None = refl
    by (Some name) = refl

-- a statement whose module is there, or is not

pub module_known : (modules : List Module) (statement : Instances) (cell : List ℕ) → is_some (module_named modules statement.module) ≡ true →
    None ≡ option_map (refused G3 cell) (first_of (unknown_module_in modules statement))
module_known modules statement cell e = by (module_named modules statement.module) e
  where
    by : (o : Option Module) → is_some o ≡ true → None ≡ option_map (refused G3 cell) (first_of (if is_none o then (first_instance statement ++ statement.module ∷ []) ∷ [] else []))
    by None h = absurd cc
    by (Some m) h = refl

pub module_unknown : (modules : List Module) (statement : Instances) (cell : List ℕ) → is_some (module_named modules statement.module) ≡ false →
    Some (refused G3 cell (first_instance statement ++ statement.module ∷ [])) ≡ option_map (refused G3 cell) (first_of (unknown_module_in modules statement))
module_unknown modules statement cell e = by (module_named modules statement.module) e
  where
    by : (o : Option Module) → is_some o ≡ false → Some (refused G3 cell (first_instance statement ++ statement.module ∷ [])) ≡ option_map (refused G3 cell) (first_of (if is_none o then (first_instance statement ++ statement.module ∷ []) ∷ [] else []))
    by None h = refl
    by (Some m) h = absurd cc

-- the first of the objects of a module that are one name each
pub first_alone : (rule : Rule) (m : Module) (names : List (List ℕ)) (found : Option (List ℕ)) → found ≡ first_of names →
    first_of (map (refused rule m.name) (each_alone names)) ≡ option_map (λ name. refused rule m.name (name ∷ [])) found
first_alone rule m names found e = first_map (refused rule m.name) (each_alone names) ∙ first_made rule m.name (λ name. name ∷ []) names found e

pub direction_first : (m : Module) (found : Option (List ℕ)) → found ≡ first_of (bad_directions m m.header) →
    first_of (map (refused G5 m.name) (without_direction m)) ≡ option_map (λ name. refused G5 m.name (name ∷ [])) found
unfolding without_direction
direction_first m found e = first_alone G5 m (bad_directions m m.header) found e

-- the first value for a parameter of no instance
set_named : (cell : List ℕ) (o : Option DefSet) → option_map (refused G17 cell) (option_map (λ (set : DefSet). set.instance ∷ set.name ∷ []) o) ≡ option_map (λ (set : DefSet). refused G17 cell (set.instance ∷ set.name ∷ [])) o
set_named cell None = refl
set_named cell (Some set) = refl

pub unknown_set_first : (m : Module) (names : List (List ℕ)) (found : Option DefSet) → ((name : List ℕ) → has_name names name ≡ has_name (instance_names m) name) → found ≡ find (λ set. not (has_name names set.instance)) (def_sets m) →
    first_of (map (refused G17 m.name) (unknown_instances m)) ≡ option_map (λ set. refused G17 m.name (set.instance ∷ set.name ∷ [])) found
unfolding unknown_instances
unknown_set_first m names found same e =
    let p : DefSet → Bool = λ set. not (has_name names set.instance) in
    let q : DefSet → Bool = λ set. not (has_name (instance_names m) set.instance) in
    let here : first_of (filter q (def_sets m)) ≡ found = first_filter q (def_sets m) ∙ (sym (find_same p q (def_sets m) (λ set. ap not (same set.instance))) ∙ sym e) in
    first_map (refused G17 m.name) (map (λ (set : DefSet). set.instance ∷ set.name ∷ []) (filter q (def_sets m)))
    ∙ (ap (option_map (refused G17 m.name)) (first_map (λ (set : DefSet). set.instance ∷ set.name ∷ []) (filter q (def_sets m)) ∙ ap (option_map (λ (set : DefSet). set.instance ∷ set.name ∷ [])) here) ∙ set_named m.name found)

-- where no item gives values there are none

no_sets : (items : List ItemV) → list_any is_defparam items ≡ false → flat_map (λ item. flat_map (λ statement. statement.sets) (defparam_statement item)) items ≡ []
no_sets [] h = refl
no_sets (Port d ∷ items) h = no_sets items h
no_sets (Net d ∷ items) h = no_sets items h
no_sets (Param d ∷ items) h = no_sets items h
no_sets (Assign s ∷ items) h = no_sets items h
no_sets (InstancesItem s ∷ items) h = no_sets items h
no_sets (Defparam s ∷ items) h = absurd cc

pub none_set : (m : Module) → list_any is_defparam m.items ≡ false → None ≡ first_of (map (refused G17 m.name) (unknown_instances m))
unfolding unknown_instances
none_set m h = sym (ap (λ sets. first_of (map (refused G17 m.name) (map (λ (set : DefSet). set.instance ∷ set.name ∷ []) (filter (λ set. not (has_name (instance_names m) set.instance)) sets)))) (no_sets m.items h))
