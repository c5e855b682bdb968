-- What is tied in a module that a text can have.
use Rattle.std.proofs.Common.{◌≡◌, ℕ, zero, suc, ◌+◌, ◌<◌, ◌≤◌, get_or, length, All, Bool, true, false, List, [], ◌∷◌, Option, None, Some, flat_map, map, ap, subst, sym, ◌∙◌, arith, if◌then◌else◌}
use Rattle.std.specs.Prelude.{⊤, IfSome}
use Rattle.std.specs.List.{AllByRecursion}
use Rattle.std.specs.Option.{option_map_or}
use Rattle.std.proofs.lemmas.List.Elements.{All-from_recursion}
use Rattle.std.proofs.lemmas.List.Sums.{sum_by-cons}
use Rattle.std.proofs.lemmas.List.Folds.{flat_map-map}
use Rattle.net_hier.specs.declared.nodes.Node.{Node}
use Rattle.vlog_design.specs.Design.{Connection, connection_named, connections, connections_in_order, instance_count, port_number, supply_node}
use Rattle.vlog_design.specs.Exprs.{literals}
use Rattle.vlog_design.specs.Names.{Name, has_name, port_names, port_range}
use Rattle.vlog_design.specs.Numbers.{HasDigits}
use Rattle.vlog_design.specs.Reach.{module_named}
use Rattle.vlog_values.specs.Sizes.{assignment_size, expr_size, item_size, list_size, module_size}
use Rattle.vlog_values.specs.Values.{IsAssignment, IsConns, IsExpr, IsInstance, IsItem, IsModule, IsNamedConn, is_left}
use Rattle.vlog_values.specs.declared.expression.Expr.{Expr}
use Rattle.vlog_values.specs.declared.module.ItemV.{ItemV}
use Rattle.vlog_values.specs.declared.module.ItemV.TheVariants as items
use Rattle.vlog_values.specs.declared.module.Module.{Module}
use Rattle.vlog_values.specs.declared.statement.Assignment.{Assignment}
use Rattle.vlog_values.specs.declared.statement.Conns.{Conns}
use Rattle.vlog_values.specs.declared.statement.Conns.TheVariants as conns
use Rattle.vlog_values.specs.declared.statement.NamedConn.{NamedConn}
use Rattle.vlog_values.specs.declared.statement.VInst.{VInst}
use Rattle.vlog_ties.specs.Ties.{Tied, Pin, Assign, Supply, all_tied, instances_ties, item_ties, module_ties, pin_of, tie_literals, tied, tied_literals, ties_from}
use Rattle.vlog_ties.specs.declared.tie.Tie.{Tie}
use Rattle.vlog_ties.proofs.Spelled.{every_append, every_part, spelled_by_recursion}

-- what holds of the two sides of an assignment
pub record IsAssigned (left right : Expr) : Type 0 where
  pub left_is : IsExpr left
  pub assignable : is_left left ≡ true
  pub right_is : IsExpr right
  pub small : expr_size left ≤ 268435456

-- what holds of what is tied
abbrev pub IsTied : Tied → Type 0
IsTied (Pin instance number port port_number size value) = IsExpr value
IsTied (Assign left right) = IsAssigned left right
IsTied (Supply name constant) = ⊤

every_map : {A B : Type 0} (P : B → Type 0) (f : A → B) (xs : List A) → AllByRecursion (λ x. P (f x)) xs → AllByRecursion P (map f xs)
every_map P f [] h = tt
every_map P f (x ∷ xs) h = (h.0, every_map P f xs h.1)

-- connections

abbrev IsConnected : Connection → Type 0
IsConnected connection = IsExpr connection.value

if_there : {A : Type 0} (P : A → Type 0) (b : Bool) (x : A) → P x → AllByRecursion P (if b then x ∷ [] else [])
if_there P true x h = (h, tt)
if_there P false x h = tt

named_valid : (below : Module) (conn : NamedConn) → IsNamedConn conn → AllByRecursion IsConnected (connection_named below conn.port conn.value)
named_valid below conn good = by conn.value good.value
  where
    by : (o : Option Expr) → IfSome o IsExpr → AllByRecursion IsConnected (connection_named below conn.port o)
    by None h = tt
    by (Some e) h = if_there IsConnected (has_name (port_names below) conn.port) (record { number = port_number below conn.port; port = conn.port; range = port_range below conn.port; value = e }) h

order_valid : (below : Module) (number : ℕ) (names : List Name) (values : List (Option Expr)) → AllByRecursion (λ e. IfSome e IsExpr) values → AllByRecursion IsConnected (connections_in_order below number names values)
order_valid below number [] values h = tt
order_valid below number (name ∷ names) [] h = tt
order_valid below number (name ∷ names) (None ∷ values) h = order_valid below (number + 1) names values h.1
order_valid below number (name ∷ names) (Some value ∷ values) h = (h.0, order_valid below (number + 1) names values h.1)

connections_valid : (below : Module) (list : Conns) → IsConns list → AllByRecursion IsConnected (connections below list)
unfolding connections
connections_valid below (conns.Named cs) good = every_part IsNamedConn IsConnected (λ conn. connection_named below conn.port conn.value) (named_valid below) cs good.all
connections_valid below (conns.Order es) good = order_valid below 0 (port_names below) es good.0

instances_valid : (below : Module) (number : ℕ) (insts : List VInst) → AllByRecursion IsInstance insts → AllByRecursion IsTied (instances_ties below number insts)
unfolding instances_ties
instances_valid below number [] good = tt
instances_valid below number (instance ∷ rest) good = every_append IsTied (map (pin_of instance.name number) (connections below instance.conns)) (instances_ties below (number + 1) rest)
    (every_map IsTied (pin_of instance.name number) (connections below instance.conns) (connections_valid below instance.conns good.0.conns)) (instances_valid below (number + 1) rest good.1)

found_valid : (number : ℕ) (insts : List VInst) (o : Option Module) → AllByRecursion IsInstance insts → AllByRecursion IsTied (option_map_or (λ below. instances_ties below number insts) o [])
found_valid number insts None good = tt
found_valid number insts (Some below) good = instances_valid below number insts good

-- assignments

assigns_valid : (sets : List Assignment) → AllByRecursion IsAssignment sets → list_size assignment_size sets ≤ 268435456 → AllByRecursion IsTied (map (λ set. Assign set.left set.right) sets)
assigns_valid [] good small = tt
assigns_valid (set ∷ sets) good small =
    let sum = sum_by-cons assignment_size set sets in
    (record { left_is = good.0.left; assignable = good.0.assignable; right_is = good.0.right; small = omega (arith, sum, small) }, assigns_valid sets good.1 (omega (arith, sum, small)))

-- supplies

supplies_valid : (names : List Name) (constants : List Node) → AllByRecursion IsTied (flat_map (λ constant. map (λ name. Supply name constant) names) constants)
supplies_valid names [] = tt
supplies_valid names (constant ∷ constants) = every_append IsTied (map (λ name. Supply name constant) names) (flat_map (λ c. map (λ name. Supply name c) names) constants) (each names) (supplies_valid names constants)
  where
    each : (ns : List Name) → AllByRecursion IsTied (map (λ name. Supply name constant) ns)
    each [] = tt
    each (n ∷ ns) = (tt, each ns)

-- items

pub item_valid : (modules : List Module) (number : ℕ) (item : ItemV) → IsItem item → item_size item ≤ 268435456 → AllByRecursion IsTied (item_ties modules number item)
unfolding item_ties
item_valid modules number (items.Assign statement) good small = assigns_valid statement.sets good.sets.all (omega (arith, small))
item_valid modules number (items.Instances statement) good small = found_valid number statement.insts (module_named modules statement.module) good.insts.all
item_valid modules number (items.Net decl) good small = supplies_valid decl.names (supply_node decl.kind)
item_valid modules number (items.Port decl) good small = tt
item_valid modules number (items.Param decl) good small = tt
item_valid modules number (items.Defparam statement) good small = tt

items_valid : (modules : List Module) (number : ℕ) (list : List ItemV) → AllByRecursion IsItem list → list_size item_size list ≤ 268435456 → AllByRecursion IsTied (ties_from modules number list)
unfolding ties_from
items_valid modules number [] good small = tt
items_valid modules number (item ∷ list) good small =
    let sum = sum_by-cons item_size item list in
    every_append IsTied (item_ties modules number item) (ties_from modules (number + instance_count item) list) (item_valid modules number item good.0 (omega (arith, sum, small)))
    (items_valid modules (number + instance_count item) list good.1 (omega (arith, sum, small)))

-- what is tied in a module
pub ties_valid : (modules : List Module) (m : Module) → IsModule m → module_size m ≤ 268435456 → AllByRecursion IsTied (module_ties modules m)
unfolding module_ties
ties_valid modules m good small = items_valid modules 0 m.items good.items (omega (arith, small))

valid_at : (modules : List Module) (number : ℕ) (list : List ItemV) (i : ℕ) (item : ItemV) → item ≡ get_or list i item → i < length list → AllByRecursion IsItem list → list_size item_size list ≤ 268435456 → AllByRecursion IsTied (item_ties modules number item)
valid_at modules number [] i item is h good small = absurd (omega (arith, h))
valid_at modules number (x ∷ xs) zero item is h good small =
    subst (λ y. AllByRecursion IsTied (item_ties modules number y)) (sym is) (item_valid modules number x good.0 (omega (arith, sum_by-cons item_size x xs, small)))
valid_at modules number (x ∷ xs) (suc i) item is h good small = valid_at modules number xs i item is (omega (arith, h)) good.1 (omega (arith, sum_by-cons item_size x xs, small))

-- what is tied in an item of a module
pub item_ties_valid : (modules : List Module) (m : Module) (number : ℕ) (list : List ItemV) (i : ℕ) (item : ItemV) → list ≡ m.items → item ≡ get_or list i item → i < length list → IsModule m → module_size m ≤ 268435456 →
    AllByRecursion IsTied (item_ties modules number item)
item_ties_valid modules m number list i item e is h good small = valid_at modules number list i item is h (subst (AllByRecursion IsItem) (sym e) good.items) (omega (arith, ap (list_size item_size) e, small))

-- the literals

tied_spelled : (t : Tied) → IsTied t → AllByRecursion HasDigits (tied_literals t)
tied_spelled (Pin instance number port port_number size value) good = spelled_by_recursion value good
tied_spelled (Assign left right) good = every_append HasDigits (literals left) (literals right) (spelled_by_recursion left good.left_is) (spelled_by_recursion right good.right_is)
tied_spelled (Supply name constant) good = tt

-- the digits of the literals in ties
pub ties_spelled : (ties : List Tie) (ts : List Tied) → all_tied ties ≡ ts → AllByRecursion IsTied ts → All HasDigits (flat_map tie_literals ties)
ties_spelled ties ts e valid =
    let all = every_part IsTied HasDigits tied_literals tied_spelled ts valid in
    let same : flat_map tied_literals ts ≡ flat_map tie_literals ties = ap (flat_map tied_literals) (sym e) ∙ flat_map-map tied_literals tied ties in
    All-from_recursion HasDigits (flat_map tie_literals ties) (subst (AllByRecursion HasDigits) same all)
