-- What ties say is what a module says: its pairings and its joins.
use Rattle.std.proofs.Common.{◌≡◌, ℕ, ◌+◌, List, [], ◌∷◌, ◌++◌, Option, None, Some, flat_map, map, refl, sym, ap, ◌∙◌}
use Rattle.std.specs.Option.{option_map_or}
use Rattle.std.proofs.lemmas.List.Concat.{flat_map-append}
use Rattle.std.proofs.lemmas.List.Folds.{flat_map-map}
use Rattle.net_hier.specs.declared.nodes.Node.{Node}
use Rattle.vlog_design.specs.Design.{Connection, connections, instance_count, item_joins, item_pairings, joins_from, module_joins, pairing_of_assign, pairing_of_connection, pairings, pairings_from, pairings_of_instances, supply_joins, supply_node}
use Rattle.vlog_design.specs.Names.{Name, Signal, signals}
use Rattle.vlog_design.specs.Reach.{module_named}
use Rattle.vlog_values.specs.declared.module.ItemV.{ItemV}
use Rattle.vlog_values.specs.declared.module.ItemV.TheVariants as items
use Rattle.vlog_values.specs.declared.module.Module.{Module}
use Rattle.vlog_values.specs.declared.statement.Assignment.{Assignment}
use Rattle.vlog_values.specs.declared.statement.Instances.{Instances}
use Rattle.vlog_values.specs.declared.statement.VInst.{VInst}
use Rattle.vlog_ties.specs.Ties.{Assign, Supply, all_tied, instances_ties, item_ties, module_ties, pairing_joins, pin_of, tie_joins, tie_pairings, tied, tied_joins, tied_pairings, ties_from}
use Rattle.vlog_ties.specs.declared.tie.Tie.{Tie}

-- one for each
singles : {A B : Type 0} (f : A → B) (xs : List A) → flat_map (λ x. f x ∷ []) xs ≡ map f xs
singles f [] = refl
singles f (x ∷ xs) = ap (λ l. f x ∷ l) (singles f xs)

-- nothing for each
nothings : {A B : Type 0} (xs : List A) → ◌≡◌ {A = List B} (flat_map (λ x. []) xs) []
nothings [] = refl
nothings (x ∷ xs) = nothings xs

module _ (names : List Signal) where
  -- pairings

  pins_paired : (instance : Name) (number : ℕ) (cs : List Connection) → flat_map (tied_pairings names) (map (pin_of instance number) cs) ≡ map (pairing_of_connection names number instance) cs
  pins_paired instance number cs = flat_map-map (tied_pairings names) (pin_of instance number) cs ∙ singles (pairing_of_connection names number instance) cs

  instances_paired : (modules : List Module) (statement : Instances) (below : Module) → module_named modules statement.module ≡ Some below → (number : ℕ) (insts : List VInst) →
      flat_map (tied_pairings names) (instances_ties below number insts) ≡ pairings_of_instances modules names statement number insts
  unfolding instances_ties
  instances_paired modules statement below e number [] = refl
  instances_paired modules statement below e number (instance ∷ rest) =
      flat_map-append (tied_pairings names) (map (pin_of instance.name number) (connections below instance.conns)) (instances_ties below (number + 1) rest)
      ∙ (ap (λ l. l ++ flat_map (tied_pairings names) (instances_ties below (number + 1) rest)) (pins_paired instance.name number (connections below instance.conns))
      ∙ (ap (λ l. map (pairing_of_connection names number instance.name) (connections below instance.conns) ++ l) (instances_paired modules statement below e (number + 1) rest)
      ∙ ap (λ o. option_map_or (λ m. map (pairing_of_connection names number instance.name) (connections m instance.conns)) o [] ++ pairings_of_instances modules names statement (number + 1) rest) (sym e)))

  instances_unpaired : (modules : List Module) (statement : Instances) → module_named modules statement.module ≡ None → (number : ℕ) (insts : List VInst) → pairings_of_instances modules names statement number insts ≡ []
  instances_unpaired modules statement e number [] = refl
  instances_unpaired modules statement e number (instance ∷ rest) =
      ap (λ o. option_map_or (λ m. map (pairing_of_connection names number instance.name) (connections m instance.conns)) o [] ++ pairings_of_instances modules names statement (number + 1) rest) e
      ∙ instances_unpaired modules statement e (number + 1) rest

  statement_paired : (modules : List Module) (number : ℕ) (statement : Instances) (o : Option Module) → module_named modules statement.module ≡ o →
      flat_map (tied_pairings names) (option_map_or (λ below. instances_ties below number statement.insts) o []) ≡ pairings_of_instances modules names statement number statement.insts
  statement_paired modules number statement None e = sym (instances_unpaired modules statement e number statement.insts)
  statement_paired modules number statement (Some below) e = instances_paired modules statement below e number statement.insts

  supplies_unpaired : (ns : List Name) (constants : List Node) → flat_map (tied_pairings names) (flat_map (λ constant. map (λ name. Supply name constant) ns) constants) ≡ []
  supplies_unpaired ns [] = refl
  supplies_unpaired ns (constant ∷ constants) =
      flat_map-append (tied_pairings names) (map (λ name. Supply name constant) ns) (flat_map (λ c. map (λ name. Supply name c) ns) constants)
      ∙ (ap (λ l. l ++ flat_map (tied_pairings names) (flat_map (λ c. map (λ name. Supply name c) ns) constants)) (flat_map-map (tied_pairings names) (λ name. Supply name constant) ns ∙ nothings ns) ∙ supplies_unpaired ns constants)

  item_paired : (modules : List Module) (number : ℕ) (item : ItemV) → flat_map (tied_pairings names) (item_ties modules number item) ≡ item_pairings modules names number item
  unfolding item_ties item_pairings
  item_paired modules number (items.Assign statement) = flat_map-map (tied_pairings names) (λ (set : Assignment). Assign set.left set.right) statement.sets ∙ singles (λ (set : Assignment). pairing_of_assign names set.left set.right) statement.sets
  item_paired modules number (items.Instances statement) = statement_paired modules number statement (module_named modules statement.module) refl
  item_paired modules number (items.Net decl) = supplies_unpaired decl.names (supply_node decl.kind)
  item_paired modules number (items.Port decl) = refl
  item_paired modules number (items.Param decl) = refl
  item_paired modules number (items.Defparam statement) = refl

  items_paired : (modules : List Module) (number : ℕ) (list : List ItemV) → flat_map (tied_pairings names) (ties_from modules number list) ≡ pairings_from modules names number list
  unfolding ties_from
  items_paired modules number [] = refl
  items_paired modules number (item ∷ list) =
      flat_map-append (tied_pairings names) (item_ties modules number item) (ties_from modules (number + instance_count item) list)
      ∙ (ap (λ l. l ++ flat_map (tied_pairings names) (ties_from modules (number + instance_count item) list)) (item_paired modules number item) ∙ ap (λ l. item_pairings modules names number item ++ l) (items_paired modules (number + instance_count item) list))

  -- joins

  pins_joined : (instance : Name) (number : ℕ) (cs : List Connection) → flat_map (tied_joins names) (map (pin_of instance number) cs) ≡ flat_map pairing_joins (map (pairing_of_connection names number instance) cs)
  pins_joined instance number cs = flat_map-map (tied_joins names) (pin_of instance number) cs ∙ sym (flat_map-map pairing_joins (pairing_of_connection names number instance) cs)

  instances_joined : (modules : List Module) (statement : Instances) (below : Module) → module_named modules statement.module ≡ Some below → (number : ℕ) (insts : List VInst) →
      flat_map (tied_joins names) (instances_ties below number insts) ≡ flat_map pairing_joins (pairings_of_instances modules names statement number insts)
  unfolding instances_ties
  instances_joined modules statement below e number [] = refl
  instances_joined modules statement below e number (instance ∷ rest) =
      let here = map (pairing_of_connection names number instance.name) (connections below instance.conns) in
      let later = pairings_of_instances modules names statement (number + 1) rest in
      flat_map-append (tied_joins names) (map (pin_of instance.name number) (connections below instance.conns)) (instances_ties below (number + 1) rest)
      ∙ (ap (λ l. l ++ flat_map (tied_joins names) (instances_ties below (number + 1) rest)) (pins_joined instance.name number (connections below instance.conns))
      ∙ (ap (λ l. flat_map pairing_joins here ++ l) (instances_joined modules statement below e (number + 1) rest)
      ∙ (sym (flat_map-append pairing_joins here later)
      ∙ ap (λ o. flat_map pairing_joins (option_map_or (λ m. map (pairing_of_connection names number instance.name) (connections m instance.conns)) o [] ++ later)) (sym e))))

  statement_joined : (modules : List Module) (number : ℕ) (statement : Instances) (o : Option Module) → module_named modules statement.module ≡ o →
      flat_map (tied_joins names) (option_map_or (λ below. instances_ties below number statement.insts) o []) ≡ flat_map pairing_joins (pairings_of_instances modules names statement number statement.insts)
  statement_joined modules number statement None e = sym (ap (flat_map pairing_joins) (instances_unpaired modules statement e number statement.insts))
  statement_joined modules number statement (Some below) e = instances_joined modules statement below e number statement.insts

  supplies_joined : (ns : List Name) (constants : List Node) → flat_map (tied_joins names) (flat_map (λ constant. map (λ name. Supply name constant) ns) constants) ≡ flat_map (supply_joins names ns) constants
  supplies_joined ns [] = refl
  supplies_joined ns (constant ∷ constants) =
      flat_map-append (tied_joins names) (map (λ name. Supply name constant) ns) (flat_map (λ c. map (λ name. Supply name c) ns) constants)
      ∙ (ap (λ l. l ++ flat_map (tied_joins names) (flat_map (λ c. map (λ name. Supply name c) ns) constants)) (flat_map-map (tied_joins names) (λ name. Supply name constant) ns) ∙ ap (λ l. supply_joins names ns constant ++ l) (supplies_joined ns constants))

  pub item_joined : (modules : List Module) (number : ℕ) (item : ItemV) → flat_map (tied_joins names) (item_ties modules number item) ≡ item_joins modules names number item
  unfolding item_ties item_pairings
  item_joined modules number (items.Assign statement) =
      flat_map-map (tied_joins names) (λ (set : Assignment). Assign set.left set.right) statement.sets ∙ sym (flat_map-map pairing_joins (λ (set : Assignment). pairing_of_assign names set.left set.right) statement.sets)
  item_joined modules number (items.Instances statement) = statement_joined modules number statement (module_named modules statement.module) refl
  item_joined modules number (items.Net decl) = supplies_joined decl.names (supply_node decl.kind)
  item_joined modules number (items.Port decl) = refl
  item_joined modules number (items.Param decl) = refl
  item_joined modules number (items.Defparam statement) = refl

  items_joined : (modules : List Module) (number : ℕ) (list : List ItemV) → flat_map (tied_joins names) (ties_from modules number list) ≡ joins_from modules names number list
  unfolding ties_from
  items_joined modules number [] = refl
  items_joined modules number (item ∷ list) =
      flat_map-append (tied_joins names) (item_ties modules number item) (ties_from modules (number + instance_count item) list)
      ∙ (ap (λ l. l ++ flat_map (tied_joins names) (ties_from modules (number + instance_count item) list)) (item_joined modules number item) ∙ ap (λ l. item_joins modules names number item ++ l) (items_joined modules (number + instance_count item) list))

-- of a module

pub module_paired : (modules : List Module) (m : Module) → flat_map (tied_pairings (signals m)) (module_ties modules m) ≡ pairings modules m
unfolding module_ties pairings
module_paired modules m = items_paired (signals m) modules 0 m.items

pub module_joined : (modules : List Module) (m : Module) → flat_map (tied_joins (signals m)) (module_ties modules m) ≡ module_joins modules m
unfolding module_ties module_joins
module_joined modules m = items_joined (signals m) modules 0 m.items

pub ties_paired : (modules : List Module) (m : Module) (ties : List Tie) → all_tied ties ≡ module_ties modules m → flat_map (tie_pairings (signals m)) ties ≡ pairings modules m
ties_paired modules m ties e = sym (flat_map-map (tied_pairings (signals m)) tied ties) ∙ (ap (flat_map (tied_pairings (signals m))) e ∙ module_paired modules m)

pub ties_joined : (modules : List Module) (m : Module) (ties : List Tie) → all_tied ties ≡ module_ties modules m → flat_map (tie_joins (signals m)) ties ≡ module_joins modules m
ties_joined modules m ties e = sym (flat_map-map (tied_joins (signals m)) tied ties) ∙ (ap (flat_map (tied_joins (signals m))) e ∙ module_joined modules m)

-- the ties that were gathered are those of the module
pub gathered : (modules : List Module) (m : Module) (ties before : List Tie) (list : List ItemV) → before ≡ [] → list ≡ m.items → all_tied ties ≡ all_tied before ++ ties_from modules 0 list → all_tied ties ≡ module_ties modules m
unfolding module_ties
gathered modules m ties before list e f g = g ∙ (ap (λ b. all_tied b ++ ties_from modules 0 list) e ∙ ap (ties_from modules 0) f)
