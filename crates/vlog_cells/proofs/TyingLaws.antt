-- What the items of a module tie is what those of its part tie.
use Rattle.std.proofs.Common.{◌≡◌, ℕ, ◌+◌, ◌≤◌, List, [], ◌∷◌, ◌++◌, flat_map, map, refl, sym, ap, subst, ◌∙◌, arith}
use Rattle.std.specs.List.{AllByRecursion}
use Rattle.std.proofs.lemmas.List.Sums.{sum_by-cons}
use Rattle.vlog_design.specs.Design.{instance_count, item_joins, item_pairings, joins_from, module_joins, supply_joins, supply_node}
use Rattle.vlog_design.specs.Names.{Signal, instance_statement, signals}
use Rattle.vlog_values.specs.Sizes.{item_size, list_size, module_size}
use Rattle.vlog_values.specs.Values.{IsItem, IsModule, IsNetDecl}
use Rattle.vlog_values.specs.declared.declaration.NetDecl.{NetDecl}
use Rattle.vlog_values.specs.declared.declaration.NetKind.{NetKind}
use Rattle.vlog_values.specs.declared.declaration.NetKind.TheVariants as kinds
use Rattle.vlog_values.specs.declared.module.ItemV.{ItemV}
use Rattle.vlog_values.specs.declared.module.ItemV.TheVariants as items
use Rattle.vlog_values.specs.declared.module.Module.{Module}
use Rattle.vlog_cells.specs.Parts.{bare_net, tying_item, tying_items}

-- what is kept of a declaration of nets of this kind
abbrev kept_by : NetDecl → NetKind → List ItemV
kept_by decl kind = map (λ constant. items.Net (bare_net decl)) (supply_node kind)

-- ---- joins

module _ (modules : List Module) (table : List Signal) where
  -- an item without instances and joins is none
  nothing_joined : (number : ℕ) (is : List ItemV) → joins_from modules table (number + 0) is ≡ joins_from modules table number is
  nothing_joined number is = let e : number + 0 ≡ number = omega arith in ap (λ n. joins_from modules table n is) e

  kind_joined : (number : ℕ) (decl : NetDecl) (kind : NetKind) → decl.kind ≡ kind → (is : List ItemV)
      → joins_from modules table number (tying_item (items.Net decl) ++ is) ≡ item_joins modules table number (items.Net decl) ++ joins_from modules table number is
  kind_joined number decl kinds.Wire e is = subst (λ k. joins_from modules table number (kept_by decl k ++ is) ≡ flat_map (supply_joins table decl.names) (supply_node k) ++ joins_from modules table number is) (sym e) refl
  kind_joined number decl kinds.Tri e is = subst (λ k. joins_from modules table number (kept_by decl k ++ is) ≡ flat_map (supply_joins table decl.names) (supply_node k) ++ joins_from modules table number is) (sym e) refl
  kind_joined number decl kinds.Supply0 e is =
      subst (λ k. joins_from modules table number (kept_by decl k ++ is) ≡ item_joins modules table number (items.Net decl) ++ joins_from modules table number is) (sym e)
      (ap (λ l. item_joins modules table number (items.Net decl) ++ l) (nothing_joined number is))
  kind_joined number decl kinds.Supply1 e is =
      subst (λ k. joins_from modules table number (kept_by decl k ++ is) ≡ item_joins modules table number (items.Net decl) ++ joins_from modules table number is) (sym e)
      (ap (λ l. item_joins modules table number (items.Net decl) ++ l) (nothing_joined number is))

  joins_kept : (number : ℕ) (is : List ItemV) → joins_from modules table number (flat_map tying_item is) ≡ joins_from modules table number is
  unfolding item_pairings
  joins_kept number [] = refl
  joins_kept number (items.Port decl ∷ is) = joins_kept number is ∙ sym (nothing_joined number is)
  joins_kept number (items.Param decl ∷ is) = joins_kept number is ∙ sym (nothing_joined number is)
  joins_kept number (items.Defparam statement ∷ is) = joins_kept number is ∙ sym (nothing_joined number is)
  joins_kept number (items.Assign statement ∷ is) = ap (λ l. item_joins modules table number (items.Assign statement) ++ l) (joins_kept (number + 0) is)
  joins_kept number (items.Instances statement ∷ is) = ap (λ l. item_joins modules table number (items.Instances statement) ++ l) (joins_kept (number + instance_count (items.Instances statement)) is)
  joins_kept number (items.Net decl ∷ is) =
      kind_joined number decl decl.kind refl (flat_map tying_item is)
      ∙ ap (λ l. item_joins modules table number (items.Net decl) ++ l) (joins_kept number is ∙ sym (nothing_joined number is))

-- the joins of the part are those of the module
pub joins_tied : (modules : List Module) (m : Module) (table : List Signal) (list : List ItemV) → table ≡ signals m → list ≡ tying_items m → joins_from modules table 0 list ≡ module_joins modules m
unfolding module_joins
joins_tied modules m table list e f = (λ j. joins_from modules (e j) 0 (f j)) ∙ joins_kept modules (signals m) 0 m.items

-- ---- instances

net_states_none : (decl : NetDecl) (kind : NetKind) (is : List ItemV) → decl.kind ≡ kind → flat_map instance_statement (tying_item (items.Net decl) ++ is) ≡ flat_map instance_statement is
net_states_none decl kinds.Wire is e = subst (λ k. flat_map instance_statement (kept_by decl k ++ is) ≡ flat_map instance_statement is) (sym e) refl
net_states_none decl kinds.Tri is e = subst (λ k. flat_map instance_statement (kept_by decl k ++ is) ≡ flat_map instance_statement is) (sym e) refl
net_states_none decl kinds.Supply0 is e = subst (λ k. flat_map instance_statement (kept_by decl k ++ is) ≡ flat_map instance_statement is) (sym e) refl
net_states_none decl kinds.Supply1 is e = subst (λ k. flat_map instance_statement (kept_by decl k ++ is) ≡ flat_map instance_statement is) (sym e) refl

pub statements_kept : (is : List ItemV) → flat_map instance_statement (flat_map tying_item is) ≡ flat_map instance_statement is
statements_kept [] = refl
statements_kept (items.Port decl ∷ is) = statements_kept is
statements_kept (items.Net decl ∷ is) = net_states_none decl decl.kind (flat_map tying_item is) refl ∙ statements_kept is
statements_kept (items.Param decl ∷ is) = statements_kept is
statements_kept (items.Assign statement ∷ is) = statements_kept is
statements_kept (items.Instances statement ∷ is) = ap (λ l. statement ∷ l) (statements_kept is)
statements_kept (items.Defparam statement ∷ is) = statements_kept is

-- ---- what a text can have

net_valid : (decl : NetDecl) (kind : NetKind) (is : List ItemV) → decl.kind ≡ kind → IsNetDecl decl → AllByRecursion IsItem is → AllByRecursion IsItem (tying_item (items.Net decl) ++ is)
net_valid decl kinds.Wire is e good rest = subst (λ k. AllByRecursion IsItem (kept_by decl k ++ is)) (sym e) rest
net_valid decl kinds.Tri is e good rest = subst (λ k. AllByRecursion IsItem (kept_by decl k ++ is)) (sym e) rest
net_valid decl kinds.Supply0 is e good rest = subst (λ k. AllByRecursion IsItem (kept_by decl k ++ is)) (sym e) (record { attrs = tt; range = good.range; names = good.names }, rest)
net_valid decl kinds.Supply1 is e good rest = subst (λ k. AllByRecursion IsItem (kept_by decl k ++ is)) (sym e) (record { attrs = tt; range = good.range; names = good.names }, rest)

valid_kept : (is : List ItemV) → AllByRecursion IsItem is → AllByRecursion IsItem (flat_map tying_item is)
valid_kept [] good = tt
valid_kept (items.Port decl ∷ is) good = valid_kept is good.1
valid_kept (items.Net decl ∷ is) good = net_valid decl decl.kind (flat_map tying_item is) refl good.0 (valid_kept is good.1)
valid_kept (items.Param decl ∷ is) good = valid_kept is good.1
valid_kept (items.Assign statement ∷ is) good = (good.0, valid_kept is good.1)
valid_kept (items.Instances statement ∷ is) good = (good.0, valid_kept is good.1)
valid_kept (items.Defparam statement ∷ is) good = valid_kept is good.1

pub tying_valid : (m : Module) (list : List ItemV) → list ≡ tying_items m → IsModule m → AllByRecursion IsItem list
tying_valid m list e good = subst (AllByRecursion IsItem) (sym e) (valid_kept m.items good.items)

-- ---- sizes

net_small : (decl : NetDecl) (kind : NetKind) (is : List ItemV) → decl.kind ≡ kind → list_size item_size (tying_item (items.Net decl) ++ is) ≤ item_size (items.Net decl) + 1 + list_size item_size is
net_small decl kinds.Wire is e = subst (λ k. list_size item_size (kept_by decl k ++ is) ≤ item_size (items.Net decl) + 1 + list_size item_size is) (sym e) (omega arith)
net_small decl kinds.Tri is e = subst (λ k. list_size item_size (kept_by decl k ++ is) ≤ item_size (items.Net decl) + 1 + list_size item_size is) (sym e) (omega arith)
net_small decl kinds.Supply0 is e = subst (λ k. list_size item_size (kept_by decl k ++ is) ≤ item_size (items.Net decl) + 1 + list_size item_size is) (sym e) (omega (arith, sum_by-cons item_size (items.Net (bare_net decl)) is))
net_small decl kinds.Supply1 is e = subst (λ k. list_size item_size (kept_by decl k ++ is) ≤ item_size (items.Net decl) + 1 + list_size item_size is) (sym e) (omega (arith, sum_by-cons item_size (items.Net (bare_net decl)) is))

small_kept : (is : List ItemV) → list_size item_size (flat_map tying_item is) ≤ list_size item_size is
small_kept [] = omega arith
small_kept (items.Port decl ∷ is) = omega (arith, sum_by-cons item_size (items.Port decl) is, small_kept is)
small_kept (items.Net decl ∷ is) = omega (arith, sum_by-cons item_size (items.Net decl) is, net_small decl decl.kind (flat_map tying_item is) refl, small_kept is)
small_kept (items.Param decl ∷ is) = omega (arith, sum_by-cons item_size (items.Param decl) is, small_kept is)
small_kept (items.Assign statement ∷ is) = omega (arith, sum_by-cons item_size (items.Assign statement) is, sum_by-cons item_size (items.Assign statement) (flat_map tying_item is), small_kept is)
small_kept (items.Instances statement ∷ is) = omega (arith, sum_by-cons item_size (items.Instances statement) is, sum_by-cons item_size (items.Instances statement) (flat_map tying_item is), small_kept is)
small_kept (items.Defparam statement ∷ is) = omega (arith, sum_by-cons item_size (items.Defparam statement) is, small_kept is)

pub tying_small : (m : Module) (list : List ItemV) → list ≡ tying_items m → module_size m ≤ 268435456 → list_size item_size list ≤ 268435456
tying_small m list e h = omega (arith, ap (list_size item_size) e, small_kept m.items, h)
