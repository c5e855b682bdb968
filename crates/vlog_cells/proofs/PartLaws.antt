-- What is kept of a module in its two parts.
use Rattle.std.proofs.Common.{◌≡◌, ℕ, ◌+◌, ◌≤◌, Bool, true, false, ◌||◌, cond, List, [], ◌∷◌, ◌++◌, filter, find, flat_map, length, map, None, not, refl, sym, ap, subst, ◌∙◌, append-nil, arith}
use Rattle.std.specs.List.{AllByRecursion, list_any}
use Rattle.std.specs.Option.{option_and_then}
use Rattle.std.proofs.lemmas.Bool.{true≢false}
use Rattle.std.proofs.lemmas.Grind.{flat_map-append}
use Rattle.std.proofs.lemmas.List.Folds.{list_any-append}
use Rattle.std.proofs.lemmas.List.Sums.{sum_by-cons}
use Rattle.net_hier.specs.declared.cells.HInst.{HInst}
use Rattle.net_hier.specs.declared.nodes.Join.{Join}
use Rattle.vlog_design.specs.Design.{def_sets, instance_count, item_joins, item_pairings, joins_from, module_joins, supply_node}
use Rattle.vlog_design.specs.Names.{Declaration, Name, Signal, clashing, declarations, declared_in_header, declared_in_item, declared_params, defparam_statement, has_name, header_decls, implicit_names, instance_statement, net_decl, net_decls, port_decl, port_decls, port_names, port_range, port_signals, signals}
use Rattle.vlog_design.specs.Rules.{clash, declared_twice}
use Rattle.vlog_design.specs.declared.signals.SignalAt.TheVariants.{AtPort}
use Rattle.vlog_scopes.specs.Distinct.{Distinct, signal_names}
use Rattle.vlog_scopes.specs.Ranged.{net_slots, number_behind, of_range, ranged_nets}
use Rattle.vlog_scopes.specs.Signals.{declared_nets, declared_signals}
use Rattle.vlog_scopes.proofs.FilledLaws.{implicit_distinct}
use Rattle.vlog_scopes.proofs.SignalLaws.{signals_are}
use Rattle.vlog_values.specs.Sizes.{item_size, list_size, module_size}
use Rattle.vlog_values.specs.Values.{IsItem, IsModule}
use Rattle.vlog_values.specs.declared.declaration.NetDecl.{NetDecl}
use Rattle.vlog_values.specs.declared.declaration.NetKind.{NetKind}
use Rattle.vlog_values.specs.declared.declaration.NetKind.TheVariants as kinds
use Rattle.vlog_values.specs.declared.statement.Assigns.{Assigns}
use Rattle.vlog_values.specs.declared.statement.Instances.{Instances}
use Rattle.vlog_values.specs.declared.module.ItemV.{ItemV}
use Rattle.vlog_values.specs.declared.module.ItemV.TheVariants as items
use Rattle.vlog_values.specs.declared.module.Module.{Module}
use Rattle.vlog_cells.specs.Parts.{declared_item, declared_part}
use Rattle.vlog_cells.specs.Ports.{said_in_header, said_in_item, said_in_module}

-- ---- what is declared

-- what is made of items, where nothing is made of assignments and instances
module _ {A : Type 0} (g : ItemV → List A) (none_of_assigns : (s : Assigns) → g (items.Assign s) ≡ []) (none_of_instances : (s : Instances) → g (items.Instances s) ≡ []) where
  one_kept : (item : ItemV) → flat_map g (declared_item item) ≡ g item
  one_kept (items.Port decl) = append-nil (g (items.Port decl))
  one_kept (items.Net decl) = append-nil (g (items.Net decl))
  one_kept (items.Param decl) = append-nil (g (items.Param decl))
  one_kept (items.Assign statement) = sym (none_of_assigns statement)
  one_kept (items.Instances statement) = sym (none_of_instances statement)
  one_kept (items.Defparam statement) = append-nil (g (items.Defparam statement))

  pub items_kept : (is : List ItemV) → flat_map g (flat_map declared_item is) ≡ flat_map g is
  items_kept [] = refl
  items_kept (item ∷ is) = flat_map-append g (declared_item item) (flat_map declared_item is) ∙ (λ j. one_kept item j ++ items_kept is j)

-- what is said of a name
pub said_kept : (table : List Signal) (key : Name) (m : Module) → said_in_module table key (declared_part m) ≡ said_in_module table key m
said_kept table key m = ap (λ l. said_in_header key m.header ++ l) (items_kept (said_in_item table key) (λ s. refl) (λ s. refl) m.items)

module _ (m : Module) where
  port_decls_kept : port_decls (declared_part m) ≡ port_decls m
  unfolding port_decls
  port_decls_kept = ap (λ l. header_decls m.header ++ l) (items_kept port_decl (λ s. refl) (λ s. refl) m.items)

  net_decls_kept : net_decls (declared_part m) ≡ net_decls m
  unfolding net_decls
  net_decls_kept = items_kept net_decl (λ s. refl) (λ s. refl) m.items

  pub sets_kept : def_sets (declared_part m) ≡ def_sets m
  sets_kept = items_kept (λ item. flat_map (λ statement. statement.sets) (defparam_statement item)) (λ s. refl) (λ s. refl) m.items

  range_kept : (name : Name) → port_range (declared_part m) name ≡ port_range m name
  unfolding port_range
  range_kept name = ap (λ decls. option_and_then (λ decl. decl.range) (find (λ decl. has_name decl.names name) decls)) port_decls_kept

  ports_kept : (number : ℕ) (names : List Name) → port_signals (declared_part m) number names ≡ port_signals m number names
  ports_kept number [] = refl
  ports_kept number (name ∷ names) = (λ j. record { name = name; slot = record { range = range_kept name j; place = AtPort number } } ∷ ports_kept (number + 1) names j)

  nets_kept : declared_nets (declared_part m) ≡ declared_nets m
  nets_kept = ap (λ decls. filter (λ one. not (has_name (port_names m) one.name)) (flat_map ranged_nets decls)) net_decls_kept

  signals_kept : declared_signals (declared_part m) ≡ declared_signals m
  signals_kept = (λ j. ports_kept 0 (port_names m) j ++ net_slots 0 (nets_kept j))

  -- the signals of the module are those of its declared part and the names without a declaration
  signals_parted : declared_signals (declared_part m) ++ net_slots (number_behind 0 (declared_nets (declared_part m))) (of_range None (implicit_names m)) ≡ signals m
  signals_parted = (λ j. signals_kept j ++ net_slots (number_behind 0 (nets_kept j)) (of_range None (implicit_names m))) ∙ sym (signals_are m)

  -- which a table has that is made by both
  pub table_parted : (declared : Module) (undeclared : List Name) (table : List Signal) → declared ≡ declared_part m → undeclared ≡ implicit_names m
      → table ≡ declared_signals declared ++ net_slots (number_behind 0 (declared_nets declared)) (of_range None undeclared) → table ≡ signals m
  table_parted declared undeclared table d u is = is ∙ ((λ j. declared_signals (d j) ++ net_slots (number_behind 0 (declared_nets (d j))) (of_range None (u j))) ∙ signals_parted)

  -- whose names differ
  pub names_apart : declared_twice m ≡ [] → Distinct (signal_names (declared_signals (declared_part m)) ++ implicit_names m)
  names_apart once = subst (λ signals. Distinct (signal_names signals ++ implicit_names m)) (sym signals_kept) (implicit_distinct m (declared_signals m) (implicit_names m) once refl refl)

-- ---- no name is declared twice

-- whatever holds of none of the second elements holds of none of the first
abbrev AreAmong : {A : Type 0} → List A → List A → Type 0
AreAmong {A} few many = (q : A → Bool) → list_any q many ≡ false → list_any q few ≡ false

both_false : (a b : Bool) → (a || b) ≡ false → (a ≡ false) × (b ≡ false)
both_false true b h = absurd (true≢false h)
both_false false b h = (refl, h)

either_false : (a b : Bool) → a ≡ false → b ≡ false → (a || b) ≡ false
either_false true b e f = absurd (true≢false e)
either_false false b e f = f

module _ {A : Type 0} (clash : A → A → Bool) where
  among_more : (few many : List A) (x : A) → AreAmong few many → AreAmong (few ++ x ∷ []) (many ++ x ∷ [])
  among_more few many x are q none =
      let both = both_false (list_any q many) (list_any q (x ∷ [])) (sym (list_any-append q many (x ∷ [])) ∙ none) in
      list_any-append q few (x ∷ []) ∙ either_false (list_any q few) (list_any q (x ∷ [])) (are q both.0) both.1

  among_longer : (few many : List A) (x : A) → AreAmong few many → AreAmong few (many ++ x ∷ [])
  among_longer few many x are q none = are q (both_false (list_any q many) (list_any q (x ∷ [])) (sym (list_any-append q many (x ∷ [])) ∙ none)).0

  first_alone : (b : Bool) (x : A) (xs : List A) → cond b (x ∷ xs) xs ≡ [] → (b ≡ false) × (xs ≡ [])
  first_alone true x xs h = absurd cc
  first_alone false x xs h = (refl, h)

  alone_first : (b : Bool) (x : A) (xs : List A) → b ≡ false → xs ≡ [] → cond b (x ∷ xs) xs ≡ []
  alone_first true x xs e h = absurd (true≢false e)
  alone_first false x xs e h = h

  -- behind other elements none clashes, so none does without these
  without_front : (few many front rest : List A) → AreAmong few many → clashing clash many (front ++ rest) ≡ [] → (others : List A) → ((few many : List A) → AreAmong few many → clashing clash many rest ≡ [] → clashing clash few others ≡ []) → clashing clash few others ≡ []
  unfolding clashing
  without_front few many [] rest are h others next = next few many are h
  without_front few many (x ∷ front) rest are h others next =
      without_front few (many ++ x ∷ []) front rest (among_longer few many x are) (first_alone (list_any (clash x) many) x (clashing clash (many ++ x ∷ []) (front ++ rest)) h).1 others next

  -- the same with the elements in front kept
  with_front : (few many front rest : List A) → AreAmong few many → clashing clash many (front ++ rest) ≡ [] → (others : List A) → ((few many : List A) → AreAmong few many → clashing clash many rest ≡ [] → clashing clash few others ≡ []) → clashing clash few (front ++ others) ≡ []
  unfolding clashing
  with_front few many [] rest are h others next = next few many are h
  with_front few many (x ∷ front) rest are h others next =
      let both = first_alone (list_any (clash x) many) x (clashing clash (many ++ x ∷ []) (front ++ rest)) h in
      alone_first (list_any (clash x) few) x (clashing clash (few ++ x ∷ []) (front ++ others)) (are (clash x) both.0)
      (with_front (few ++ x ∷ []) (many ++ x ∷ []) front rest (among_more few many x are) both.1 others next)

none_there : (few : List Declaration) → clashing clash few [] ≡ []
unfolding clashing
none_there few = refl

items_once : (is : List ItemV) (few many : List Declaration) → AreAmong few many → clashing clash many (flat_map declared_in_item is) ≡ [] → clashing clash few (flat_map declared_in_item (flat_map declared_item is)) ≡ []
items_once [] few many are h = none_there few
items_once (items.Port decl ∷ is) few many are h = with_front clash few many (declared_in_item (items.Port decl)) (flat_map declared_in_item is) are h _ (items_once is)
items_once (items.Net decl ∷ is) few many are h = with_front clash few many (declared_in_item (items.Net decl)) (flat_map declared_in_item is) are h _ (items_once is)
items_once (items.Param decl ∷ is) few many are h = with_front clash few many (declared_in_item (items.Param decl)) (flat_map declared_in_item is) are h _ (items_once is)
items_once (items.Assign statement ∷ is) few many are h = items_once is few many are h
items_once (items.Instances statement ∷ is) few many are h = without_front clash few many (declared_in_item (items.Instances statement)) (flat_map declared_in_item is) are h _ (items_once is)
items_once (items.Defparam statement ∷ is) few many are h = items_once is few many are h

none_mapped : {A B : Type 0} (f : A → B) (xs : List A) → map f xs ≡ [] → xs ≡ []
none_mapped f [] h = refl
none_mapped f (x ∷ xs) h = absurd cc

-- where nothing is declared twice, nothing is in the declared part
pub part_once : (m : Module) → declared_twice m ≡ [] → declared_twice (declared_part m) ≡ []
unfolding declared_twice declarations
part_once m h =
    let front = flat_map declared_params m.params ++ declared_in_header m.header in
    ap (map (λ (d : Declaration). d.name ∷ []))
    (with_front clash [] [] front (flat_map declared_in_item m.items) (λ q e. e) (none_mapped (λ (d : Declaration). d.name ∷ []) _ h) (flat_map declared_in_item (flat_map declared_item m.items)) (items_once m.items))

-- ---- sizes

declared_small : (is : List ItemV) → list_size item_size (flat_map declared_item is) ≤ list_size item_size is
declared_small [] = omega arith
declared_small (items.Port decl ∷ is) = omega (arith, sum_by-cons item_size (items.Port decl) is, sum_by-cons item_size (items.Port decl) (flat_map declared_item is), declared_small is)
declared_small (items.Net decl ∷ is) = omega (arith, sum_by-cons item_size (items.Net decl) is, sum_by-cons item_size (items.Net decl) (flat_map declared_item is), declared_small is)
declared_small (items.Param decl ∷ is) = omega (arith, sum_by-cons item_size (items.Param decl) is, sum_by-cons item_size (items.Param decl) (flat_map declared_item is), declared_small is)
declared_small (items.Assign statement ∷ is) = omega (arith, sum_by-cons item_size (items.Assign statement) is, declared_small is)
declared_small (items.Instances statement ∷ is) = omega (arith, sum_by-cons item_size (items.Instances statement) is, declared_small is)
declared_small (items.Defparam statement ∷ is) = omega (arith, sum_by-cons item_size (items.Defparam statement) is, sum_by-cons item_size (items.Defparam statement) (flat_map declared_item is), declared_small is)

pub part_small : (m : Module) → module_size m ≤ 268435456 → module_size (declared_part m) ≤ 268435456
part_small m h = omega (arith, declared_small m.items, h)
