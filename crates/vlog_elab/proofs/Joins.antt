-- The joins of a module join nodes of its cell.
use Rattle.std.proofs.Common.{◌≡◌, ℕ, zero, suc, ◌+◌, ◌<◌, Bool, true, false, ◌||◌, cond, List, [], ◌∷◌, ◌++◌, map, find, flat_map, length, slice_get, bytes_eq, Option, Some, None, refl, sym, ap, ◌∙◌, subst, arith}
use Rattle.std.specs.Prelude.{option_map}
use Rattle.std.specs.List.{list_any, range_with_len}
use Rattle.std.specs.Option.{option_map_or}
use Rattle.std.proofs.lemmas.Bool.{false≢true}
use Rattle.std.proofs.lemmas.Grind.{flat_map-append}
use Rattle.std.proofs.lemmas.List.{length-map}
use Rattle.std.proofs.lemmas.Option.{slice_get-map}
use Rattle.std.proofs.lemmas.Slice.Eq.{bytes_eq-Decides}
use Rattle.net_hier.specs.Cells.{IsPinBit, width_of}
use Rattle.net_hier.specs.Valid.{Each, IsJoinOf, IsNode}
use Rattle.net_hier.specs.declared.cells.HCell.{HCell}
use Rattle.net_hier.specs.declared.cells.HInst.{HInst}
use Rattle.net_hier.specs.declared.nodes.Join.{Join}
use Rattle.net_hier.specs.declared.nodes.Node.{Node}
use Rattle.net_hier.specs.declared.nodes.Node.TheVariants as nodes
use Rattle.vlog_design.specs.Design.{Connection, Pairing, attr_props, connection_named, connections, connections_in_order, defparam_props, instance_count, item_joins, item_pairings, join_of, joins_between, joins_from, module_cell, module_instances, module_joins, pairing_of_assign, pairing_of_connection, pairings_of_instances, param_props, port_number, slot_joins, statement_instances, supply_joins, supply_node}
use Rattle.vlog_design.specs.Exprs.{node_at}
use Rattle.vlog_design.specs.Names.{Name, has_name, instance_statement, instance_statements, port_names, port_range, signal_named, signals}
use Rattle.vlog_design.specs.Reach.{module_named, module_number}
use Rattle.vlog_design.specs.declared.signals.Slot.{Slot}
use Rattle.vlog_values.specs.declared.declaration.NetKind.{NetKind}
use Rattle.vlog_values.specs.declared.declaration.NetKind.TheVariants as kinds
use Rattle.vlog_values.specs.declared.expression.Expr.{Expr}
use Rattle.vlog_values.specs.declared.module.ItemV.{ItemV}
use Rattle.vlog_values.specs.declared.module.ItemV.TheVariants as items
use Rattle.vlog_values.specs.declared.module.Module.{Module}
use Rattle.vlog_values.specs.declared.statement.Conns.{Conns}
use Rattle.vlog_values.specs.declared.statement.Conns.TheVariants as conns
use Rattle.vlog_values.specs.declared.statement.Instances.{Instances}
use Rattle.vlog_values.specs.declared.statement.NamedConn.{NamedConn}
use Rattle.vlog_values.specs.declared.statement.VInst.{VInst}
use Rattle.vlog_checked.proofs.ListLaws.{each_both, each_flat, each_map, in_left, in_right}
use Rattle.vlog_checked.proofs.Lookup.{found_there, named_there}
use Rattle.vlog_elab.proofs.Nodes.{IsBitOfCell, expr_nodes, named_slot, run_within}
use Rattle.vlog_elab.proofs.Signals.{IsOfCell, port_bit}

-- ---- connections

-- the connection is to a port of the module, by its number
pub record IsToPort (m : Module) (connection : Connection) : Type 0 where
  pub is_there : slice_get (port_names m) connection.number ≡ Some connection.port
  pub is_range : connection.range ≡ port_range m connection.port

any_found : {A : Type 0} (test : A → Bool) (xs : List A) → list_any test xs ≡ true → (x : A) × (find test xs ≡ Some x)
any_found test [] h = absurd (false≢true h)
any_found {A = A} test (y ∷ xs) h = by (test y) h (any_found test xs)
  where
    by : (b : Bool) → (b || list_any test xs) ≡ true → (list_any test xs ≡ true → (x : A) × (find test xs ≡ Some x)) → (x : A) × (cond b (Some y) (find test xs) ≡ Some x)
    by true h rest = (y, refl)
    by false h rest = rest h

port_there : (m : Module) (name : Name) → has_name (port_names m) name ≡ true → slice_get (port_names m) (port_number m name) ≡ Some name
port_there m name h =
    let r = any_found (bytes_eq name) (port_names m) h in
    let s = found_there (bytes_eq name) (port_names m) r.0 r.1 in
    s.0 ∙ ap Some (sym ((bytes_eq-Decides name r.0).0 s.1))

named_to_port : (m : Module) (name : Name) (value : Option Expr) → Each (IsToPort m) (connection_named m name value)
named_to_port m name None = λ i c e. absurd (cc)
named_to_port m name (Some value) = by (has_name (port_names m) name) refl
  where
    by : (b : Bool) → has_name (port_names m) name ≡ b → Each (IsToPort m) (cond b (record { number = port_number m name; port = name; range = port_range m name; value = value } ∷ []) [])
    by true h zero c e = let s : record { number = port_number m name; port = name; range = port_range m name; value = value } ≡ c = cc in subst (IsToPort m) s (record { is_there = port_there m name h; is_range = refl })
    by true h (suc i) c e = absurd (cc)
    by false h i c e = absurd (cc)

order_to_port : (m : Module) (number : ℕ) (names : List Name) (values : List (Option Expr)) → ((i : ℕ) (name : Name) → slice_get names i ≡ Some name → slice_get (port_names m) (number + i) ≡ Some name)
    → Each (IsToPort m) (connections_in_order m number names values)
order_to_port m number [] values at i c e = absurd (cc)
order_to_port m number (name ∷ names) [] at i c e = absurd (cc)
order_to_port m number (name ∷ names) (None ∷ values) at i c e =
    order_to_port m (number + 1) names values (λ k n f. ap (slice_get (port_names m)) (let g : number + 1 + k ≡ number + suc k = omega arith in g) ∙ at (suc k) n f) i c e
order_to_port m number (name ∷ names) (Some value ∷ values) at zero c e =
    let s : record { number = number; port = name; range = port_range m name; value = value } ≡ c = cc in
    subst (IsToPort m) s (record { is_there = ap (slice_get (port_names m)) (let g : number ≡ number + 0 = omega arith in g) ∙ at 0 name refl; is_range = refl })
order_to_port m number (name ∷ names) (Some value ∷ values) at (suc i) c e =
    order_to_port m (number + 1) names values (λ k n f. ap (slice_get (port_names m)) (let g : number + 1 + k ≡ number + suc k = omega arith in g) ∙ at (suc k) n f) i c e

-- connections are to ports of the module
pub all_to_ports : (m : Module) (those : Conns) → Each (IsToPort m) (connections m those)
unfolding connections
all_to_ports m (conns.Named cs) = each_flat (IsToPort m) (λ (c : NamedConn). connection_named m c.port c.value) cs (λ i c e. named_to_port m c.port c.value)
all_to_ports m (conns.Order values) = order_to_port m 0 (port_names m) values (λ i name e. ap (slice_get (port_names m)) (let g : 0 + i ≡ i = omega arith in g) ∙ e)

-- ---- joins

module _ (ms : List Module) (m : Module) where
  abbrev cells : List HCell
  cells = map (module_cell ms) ms

  abbrev IsBit : Option Node → Type 0
  IsBit = IsBitOfCell cells ms m

  abbrev IsJoin : Join → Type 0
  IsJoin = IsJoinOf cells (module_cell ms m)

  one_join : (a b : Option Node) → IsBit a → IsBit b → Each IsJoin (join_of a b)
  one_join (Some a) (Some b) h k zero j e = let s : record { a = a; b = b } ≡ j = cc in subst IsJoin s (h, k)
  one_join (Some a) (Some b) h k (suc i) j e = absurd (cc)
  one_join (Some a) None h k i j e = absurd (cc)
  one_join None b h k i j e = absurd (cc)

  joins_good : (left right : List (Option Node)) → Each IsBit left → Each IsBit right → Each IsJoin (joins_between left right)
  unfolding joins_between
  joins_good [] right h k = λ i j is. absurd (cc)
  joins_good (a ∷ left) [] h k = λ i j is. absurd (cc)
  joins_good (a ∷ left) (b ∷ right) h k =
      each_both IsJoin (join_of a b) (joins_between left right) (one_join a b (h 0 a refl) (k 0 b refl)) (joins_good left right (λ i x e. h (suc i) x e) (λ i x e. k (suc i) x e))

  -- the two sides of a pairing are nodes of the cell
  pub record IsPairing (pairing : Pairing) : Type 0 where
    pub left : Each IsBit pairing.left
    pub right : Each IsBit pairing.right

  pairings_joins : (those : List Pairing) → Each IsPairing those → Each IsJoin (flat_map (λ (p : Pairing). joins_between p.left p.right) those)
  pairings_joins those h = each_flat IsJoin (λ (p : Pairing). joins_between p.left p.right) those (λ i p e. (let r = h i p e in joins_good p.left p.right r.left r.right))

  -- an instance of the module, whose cell has this number
  pub record IsAt (number of : ℕ) : Type 0 where
    pub instance : HInst
    pub is_there : slice_get (module_instances ms m) number ≡ Some instance
    pub is_of : instance.cell ≡ of

  pin_bit : (number : ℕ) (of : Name) (b : Module) (connection : Connection) (bit : ℕ) → IsAt number (module_number ms of) → module_named ms of ≡ Some b → IsToPort b connection → bit < width_of connection.range
      → IsPinBit cells (module_cell ms m) number connection.number bit
  unfolding module_cell
  pin_bit number of b connection bit at named to lt = record {
    the_instance = at.instance;
    is_there = at.is_there;
    below = module_cell ms b;
    is_below = ap (slice_get cells) at.is_of ∙ (slice_get-map (module_cell ms) ms (module_number ms of) ∙ ap (option_map (module_cell ms)) (named_there ms of b named).0);
    is_bit = port_bit cells ms b connection.number connection.port bit to.is_there (subst (λ r. bit < width_of r) to.is_range lt);
  }

  connection_good : (number : ℕ) (name of : Name) (b : Module) (connection : Connection) → IsAt number (module_number ms of) → module_named ms of ≡ Some b → IsToPort b connection → IsPairing (pairing_of_connection (signals m) number name connection)
  connection_good number name of b connection at named to = record {
    left = each_map IsBit (λ (bit : ℕ). Some (nodes.Pin number connection.number bit)) (range_with_len 0 (width_of connection.range))
        (λ i bit e. pin_bit number of b connection bit at named to (omega (arith, run_within 0 (width_of connection.range) i bit e)));
    right = expr_nodes cells ms m connection.value;
  }

  instances_good : (statement : Instances) (number : ℕ) (insts : List VInst) → ((i : ℕ) (instance : VInst) → slice_get insts i ≡ Some instance → IsAt (number + i) (module_number ms statement.module))
      → Each IsPairing (pairings_of_instances ms (signals m) statement number insts)
  instances_good statement number [] at = λ i p e. absurd (cc)
  instances_good statement number (instance ∷ rest) at =
      each_both IsPairing (option_map_or (λ below. map (pairing_of_connection (signals m) number instance.name) (connections below instance.conns)) (module_named ms statement.module) []) (pairings_of_instances ms (signals m) statement (number + 1) rest)
      (by (module_named ms statement.module) refl)
      (instances_good statement (number + 1) rest (λ i other e. subst (λ n. IsAt n (module_number ms statement.module)) (let g : number + suc i ≡ number + 1 + i = omega arith in g) (at (suc i) other e)))
    where
      here : IsAt number (module_number ms statement.module)
      here = subst (λ n. IsAt n (module_number ms statement.module)) (let g : number + 0 ≡ number = omega arith in g) (at 0 instance refl)

      by : (o : Option Module) → module_named ms statement.module ≡ o → Each IsPairing (option_map_or (λ below. map (pairing_of_connection (signals m) number instance.name) (connections below instance.conns)) o [])
      by None named = λ i p e. absurd (cc)
      by (Some b) named = each_map IsPairing (pairing_of_connection (signals m) number instance.name) (connections b instance.conns)
          (λ i connection e. connection_good number instance.name statement.module b connection here named (all_to_ports b instance.conns i connection e))

  -- these instances stand in the module from the number on
  abbrev pub StandFrom : ℕ → List HInst → Type 0
  StandFrom number those = (i : ℕ) (instance : HInst) → slice_get those i ≡ Some instance → slice_get (module_instances ms m) (number + i) ≡ Some instance

  abbrev pub of_item : ItemV → List HInst
  of_item item = flat_map (statement_instances ms m) (instance_statement item)

  append_nothing : {A : Type 0} (xs : List A) → xs ++ [] ≡ xs
  append_nothing [] = refl
  append_nothing (x ∷ xs) = ap (λ ys. x ∷ ys) (append_nothing xs)

  item_good : (number : ℕ) (item : ItemV) → StandFrom number (of_item item) → Each IsPairing (item_pairings ms (signals m) number item)
  unfolding item_pairings
  item_good number (items.Assign statement) stand =
      each_map IsPairing (λ set. pairing_of_assign (signals m) set.left set.right) statement.sets (λ i set e. record { left = expr_nodes cells ms m set.left; right = expr_nodes cells ms m set.right })
  item_good number (items.Instances statement) stand = instances_good statement number statement.insts (λ i instance e. record {
    instance = made instance;
    is_there = stand i (made instance) (ap (λ those. slice_get those i) (append_nothing (map made statement.insts)) ∙ (slice_get-map made statement.insts i ∙ ap (option_map made) e));
    is_of = refl;
  })
    where
      made : VInst → HInst
      made instance = record { name = instance.name; cell = module_number ms statement.module; props = attr_props statement.attrs ++ param_props statement.params ++ defparam_props m instance.name }
  item_good number (items.Port decl) stand = λ i p e. absurd (cc)
  item_good number (items.Net decl) stand = λ i p e. absurd (cc)
  item_good number (items.Param decl) stand = λ i p e. absurd (cc)
  item_good number (items.Defparam statement) stand = λ i p e. absurd (cc)

  slot_good : (constant : Node) (slot : Slot) → IsNode cells (module_cell ms m) constant → IsOfCell cells ms m slot → Each IsJoin (slot_joins constant slot)
  slot_good constant slot is_constant good =
      each_map IsJoin (λ (bit : ℕ). record { a = node_at slot.place bit; b = constant }) (range_with_len 0 (width_of slot.range)) (λ i bit e. (good bit (omega (arith, run_within 0 (width_of slot.range) i bit e)), is_constant))

  supply_good : (names : List Name) (constant : Node) → IsNode cells (module_cell ms m) constant → Each IsJoin (supply_joins (signals m) names constant)
  supply_good names constant is_constant = each_flat IsJoin (λ (name : Name). option_map_or (slot_joins constant) (signal_named (signals m) name) []) names (λ i name e. by name (signal_named (signals m) name) refl)
    where
      by : (name : Name) (o : Option Slot) → signal_named (signals m) name ≡ o → Each IsJoin (option_map_or (slot_joins constant) o [])
      by name None e = λ i j is. absurd (cc)
      by name (Some slot) e = slot_good constant slot is_constant (named_slot cells ms m name slot e)

  constants_good : (kind : NetKind) → Each (IsNode cells (module_cell ms m)) (supply_node kind)
  constants_good kinds.Wire = λ i n e. absurd (cc)
  constants_good kinds.Tri = λ i n e. absurd (cc)
  constants_good kinds.Supply0 = one nodes.Zero tt
    where
      one : (node : Node) → IsNode cells (module_cell ms m) node → Each (IsNode cells (module_cell ms m)) (node ∷ [])
      one node h zero n e = let s : node ≡ n = cc in subst (IsNode cells (module_cell ms m)) s h
      one node h (suc i) n e = absurd (cc)
  constants_good kinds.Supply1 = one nodes.One tt
    where
      one : (node : Node) → IsNode cells (module_cell ms m) node → Each (IsNode cells (module_cell ms m)) (node ∷ [])
      one node h zero n e = let s : node ≡ n = cc in subst (IsNode cells (module_cell ms m)) s h
      one node h (suc i) n e = absurd (cc)

  item_joins_good : (number : ℕ) (item : ItemV) → StandFrom number (of_item item) → Each IsJoin (item_joins ms (signals m) number item)
  item_joins_good number (items.Net decl) stand = each_flat IsJoin (supply_joins (signals m) decl.names) (supply_node decl.kind) (λ i constant e. supply_good decl.names constant (constants_good decl.kind i constant e))
  item_joins_good number (items.Assign statement) stand = pairings_joins (item_pairings ms (signals m) number (items.Assign statement)) (item_good number (items.Assign statement) stand)
  item_joins_good number (items.Instances statement) stand = pairings_joins (item_pairings ms (signals m) number (items.Instances statement)) (item_good number (items.Instances statement) stand)
  item_joins_good number (items.Port decl) stand = pairings_joins (item_pairings ms (signals m) number (items.Port decl)) (item_good number (items.Port decl) stand)
  item_joins_good number (items.Param decl) stand = pairings_joins (item_pairings ms (signals m) number (items.Param decl)) (item_good number (items.Param decl) stand)
  item_joins_good number (items.Defparam statement) stand = pairings_joins (item_pairings ms (signals m) number (items.Defparam statement)) (item_good number (items.Defparam statement) stand)

  -- an item has as many instances as are counted
  pub count_is : (item : ItemV) → length (of_item item) ≡ instance_count item
  count_is (items.Instances statement) = ap length (append_nothing (statement_instances ms m statement)) ∙ length-map statement.insts _
  count_is (items.Port decl) = refl
  count_is (items.Net decl) = refl
  count_is (items.Param decl) = refl
  count_is (items.Assign statement) = refl
  count_is (items.Defparam statement) = refl

  all_joins_good : (number : ℕ) (those : List ItemV) → StandFrom number (flat_map of_item those) → Each IsJoin (joins_from ms (signals m) number those)
  all_joins_good number [] stand = λ i j e. absurd (cc)
  all_joins_good number (item ∷ those) stand =
      each_both IsJoin (item_joins ms (signals m) number item) (joins_from ms (signals m) (number + instance_count item) those)
      (item_joins_good number item (λ i instance e. stand i instance (in_left (of_item item) (flat_map of_item those) i instance e)))
      (all_joins_good (number + instance_count item) those (λ i instance e. ap (slice_get (module_instances ms m)) (let g : number + instance_count item + i ≡ number + (length (of_item item) + i) = omega (arith, count_is item) in g)
      ∙ stand (length (of_item item) + i) instance (in_right (of_item item) (flat_map of_item those) i instance e)))

  pub items_instances : (those : List ItemV) → flat_map of_item those ≡ flat_map (statement_instances ms m) (flat_map instance_statement those)
  items_instances [] = refl
  items_instances (item ∷ those) = ap (λ xs. of_item item ++ xs) (items_instances those) ∙ sym (flat_map-append (statement_instances ms m) (instance_statement item) (flat_map instance_statement those))

  all_stand : StandFrom 0 (flat_map of_item m.items)
  unfolding module_instances instance_statements
  all_stand i instance e = ap (slice_get (module_instances ms m)) (let g : 0 + i ≡ i = omega arith in g) ∙ (ap (λ those. slice_get those i) (sym (items_instances m.items)) ∙ e)

  -- the joins of a module join nodes of its cell
  pub joins_are : Each IsJoin (module_joins ms m)
  unfolding module_joins
  joins_are = all_joins_good 0 m.items all_stand
