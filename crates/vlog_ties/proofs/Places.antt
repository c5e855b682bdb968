-- The scope of a module by the place of its name, and the numbers of instances.
use Rattle.std.proofs.Common.{◌≡◌, ℕ, zero, suc, not, ◌+◌, ◌<◌, ◌≤◌, Bool, true, false, cond, List, [], ◌∷◌, Option, None, Some, bytes_eq, find, drop, get_or, length, map, sum_by, nat_lt, ◌++◌, append_assoc, append-nil, take, refl, sym, ap, subst, ◌∙◌, arith, add-one, drop-cons, drop_of_length-le}
use Rattle.std.specs.Prelude.{position}
use Rattle.std.specs.List.{position_or_len}
use Rattle.std.proofs.lemmas.Bool.{ltb-true, ltb-false}
use Rattle.std.proofs.lemmas.List.{get_or-map, length-map}
use Rattle.std.proofs.lemmas.List.Sums.{sum_by-cons, sum_by_more}
use Rattle.vlog_design.specs.Design.{instance_count}
use Rattle.vlog_design.specs.Names.{Name}
use Rattle.vlog_design.specs.Reach.{module_named}
use Rattle.vlog_rules.specs.declared.passes.ModuleScope.{ModuleScope}
use Rattle.vlog_values.specs.Sizes.{item_size, list_size, module_size}
use Rattle.vlog_values.specs.declared.module.ItemV.{ItemV}
use Rattle.vlog_values.specs.declared.module.ItemV.TheVariants as items
use Rattle.vlog_values.specs.declared.module.Module.{Module}
use Rattle.vlog_ties.specs.Ties.{item_ties, modules_in, ties_from}

abbrev module_names : List Module → List Name
module_names = map (λ m. m.name)

module_at : (modules : List Module) (name : Name) (d : Module) → position_or_len (bytes_eq name) (module_names modules) < length modules →
    module_named modules name ≡ Some (get_or modules (position_or_len (bytes_eq name) (module_names modules)) d)
unfolding module_named
module_at [] name d h = absurd (omega (arith, h))
module_at (m ∷ ms) name d h = by (bytes_eq name m.name) (module_at ms name d) h
  where
    by : (b : Bool) → (position_or_len (bytes_eq name) (module_names ms) < length ms → find (λ (x : Module). bytes_eq name x.name) ms ≡ Some (get_or ms (position_or_len (bytes_eq name) (module_names ms)) d))
        → cond (not b) (1 + position_or_len (bytes_eq name) (module_names ms)) 0 < suc (length ms)
        → cond b (Some m) (find (λ (x : Module). bytes_eq name x.name) ms) ≡ Some (get_or (m ∷ ms) (cond (not b) (1 + position_or_len (bytes_eq name) (module_names ms)) 0) d)
    by true next h = refl
    by false next h =
        let n = position_or_len (bytes_eq name) (module_names ms) in
        let e : suc n ≡ 1 + n = omega arith in
        subst (λ k. find (λ (x : Module). bytes_eq name x.name) ms ≡ Some (get_or (m ∷ ms) k d)) e (next (omega (arith, h)))

module_gone : (modules : List Module) (name : Name) → length modules ≤ position_or_len (bytes_eq name) (module_names modules) → module_named modules name ≡ None
unfolding module_named
module_gone [] name h = refl
module_gone (m ∷ ms) name h = by (bytes_eq name m.name) (module_gone ms name) h
  where
    by : (b : Bool) → (length ms ≤ position_or_len (bytes_eq name) (module_names ms) → find (λ (x : Module). bytes_eq name x.name) ms ≡ None)
        → suc (length ms) ≤ cond (not b) (1 + position_or_len (bytes_eq name) (module_names ms)) 0 → cond b (Some m) (find (λ (x : Module). bytes_eq name x.name) ms) ≡ None
    by true next h = absurd (omega (arith, h))
    by false next h = next (omega (arith, h))

record IsPlace (n size at : ℕ) : Type 0 where
  pub same : n ≡ at
  pub within : n < size

place_is : (n size at : ℕ) → cond (nat_lt n size) (Some n) None ≡ Some at → IsPlace n size at
place_is n size at e = by (nat_lt n size) refl e
  where
    by : (b : Bool) → nat_lt n size ≡ b → cond b (Some n) None ≡ Some at → IsPlace n size at
    by true t h = record { same = cc; within = ltb-true n size t }
    by false t h = absurd cc

place_gone : (n size : ℕ) → cond (nat_lt n size) (Some n) None ≡ None → size ≤ n
place_gone n size e = by (nat_lt n size) refl e
  where
    by : (b : Bool) → nat_lt n size ≡ b → ◌≡◌ {A = Option ℕ} (cond b (Some n) None) None → size ≤ n
    by true t h = absurd cc
    by false t h = ltb-false n size t

-- what the place of a name tells
pub record IsScopeAt (scopes : List ModuleScope) (name : Name) (at : ℕ) : Type 0 where
  pub within : at < length scopes
  pub found : (d : ModuleScope) → module_named (modules_in scopes) name ≡ Some (get_or scopes at d).module.now

pub scope_placed : (scopes : List ModuleScope) (name : Name) (at : ℕ) (names : List Name) → names ≡ module_names (modules_in scopes) → position (bytes_eq name) names ≡ Some at → IsScopeAt scopes name at
scope_placed scopes name at names e h =
    let modules = modules_in scopes in
    let n = position_or_len (bytes_eq name) (module_names modules) in
    let long : length (module_names modules) ≡ length modules = length-map modules _ in
    let short : length modules ≡ length scopes = length-map scopes _ in
    let is = place_is n (length (module_names modules)) at (ap (position (bytes_eq name)) (sym e) ∙ h) in
    let within : at < length scopes = omega (arith, is.same, is.within, long, short) in
    record {
      within = within;
      found = λ d. module_at modules name d.module.now (omega (arith, is.within, long)) ∙ (ap (λ k. Some (get_or modules k d.module.now)) is.same ∙ ap Some (get_or-map (λ (scope : ModuleScope). scope.module.now) scopes at d d.module.now within));
    }

pub no_scope_placed : (modules : List Module) (name : Name) (names : List Name) → names ≡ module_names modules → position (bytes_eq name) names ≡ None → module_named modules name ≡ None
no_scope_placed modules name names e h =
    let long : length (module_names modules) ≡ length modules = length-map modules _ in
    module_gone modules name (omega (arith, place_gone (position_or_len (bytes_eq name) (module_names modules)) (length (module_names modules)) (ap (position (bytes_eq name)) (sym e) ∙ h), long))

-- there are no more instances than items in lists

instances_of_item : (item : ItemV) → instance_count item ≤ item_size item
instances_of_item (items.Port decl) = omega arith
instances_of_item (items.Net decl) = omega arith
instances_of_item (items.Param decl) = omega arith
instances_of_item (items.Assign statement) = omega arith
instances_of_item (items.Instances statement) = omega arith
instances_of_item (items.Defparam statement) = omega arith

instances_of_items : (list : List ItemV) → sum_by instance_count list ≤ list_size item_size list
instances_of_items [] = omega arith
instances_of_items (item ∷ list) = omega (arith, sum_by-cons instance_count item list, sum_by-cons item_size item list, instances_of_item item, instances_of_items list)

pub instances_of_module : (m : Module) (list : List ItemV) → list ≡ m.items → module_size m ≤ 268435456 → sum_by instance_count list ≤ 268435456
instances_of_module m list e h = omega (arith, instances_of_items m.items, ap (sum_by instance_count) e, h)

-- steps of the loop over items

pub items_step : (modules : List Module) (number : ℕ) (list : List ItemV) (i : ℕ) (item : ItemV) → item ≡ get_or list i item → i < length list →
    ties_from modules number (drop i list) ≡ item_ties modules number item ++ ties_from modules (number + instance_count item) (drop (i + 1) list)
unfolding ties_from
items_step modules number list i item is h =
    ap (ties_from modules number) (drop-cons list i item h)
    ∙ (ap (λ k. item_ties modules number (get_or list i item) ++ ties_from modules (number + instance_count (get_or list i item)) (drop k list)) (sym (add-one i))
    ∙ ap (λ x. item_ties modules number x ++ ties_from modules (number + instance_count x) (drop (i + 1) list)) (sym is))

front_by : (modules : List Module) (number : ℕ) (list : List ItemV) (i : ℕ) (item : ItemV) → item ≡ get_or list i item → i < length list →
    ties_from modules number (take (suc i) list) ≡ ties_from modules number (take i list) ++ item_ties modules (number + sum_by instance_count (take i list)) item
unfolding ties_from
front_by modules number [] i item is h = absurd (omega (arith, h))
front_by modules number (x ∷ xs) zero item is h =
    let e : number ≡ number + 0 = omega arith in
    append-nil (item_ties modules number x) ∙ (ap (item_ties modules number) (sym is) ∙ ap (λ n. item_ties modules n item) e)
front_by modules number (x ∷ xs) (suc i) item is h =
    let next = number + instance_count x in
    let before = sum_by instance_count (take i xs) in
    let e : next + before ≡ number + sum_by instance_count (x ∷ take i xs) = omega (arith, sum_by-cons instance_count x (take i xs)) in
    ap (λ ts. item_ties modules number x ++ ts) (front_by modules next xs i item is (omega (arith, h)) ∙ ap (λ n. ties_from modules next (take i xs) ++ item_ties modules n item) e)
    ∙ sym (append_assoc (item_ties modules number x) (ties_from modules next (take i xs)) (item_ties modules (number + sum_by instance_count (x ∷ take i xs)) item))

-- what the items in front of the next one tie, and what that one does
pub items_front : (modules : List Module) (list : List ItemV) (i : ℕ) (item : ItemV) (number : ℕ) → item ≡ get_or list i item → i < length list → number ≡ sum_by instance_count (take i list) →
    ties_from modules 0 (take (i + 1) list) ≡ ties_from modules 0 (take i list) ++ item_ties modules number item
items_front modules list i item number is h counted =
    let e : 0 + sum_by instance_count (take i list) ≡ number = omega (arith, counted) in
    ap (λ k. ties_from modules 0 (take k list)) (add-one i)
    ∙ (front_by modules 0 list i item is h ∙ ap (λ n. ties_from modules 0 (take i list) ++ item_ties modules n item) e)

-- how many instances stand in front of the item behind this one
pub counted_on : (list : List ItemV) (i : ℕ) (item : ItemV) (number count : ℕ) → item ≡ get_or list i item → i < length list → number ≡ sum_by instance_count (take i list) → count ≡ instance_count item →
    number + count ≡ sum_by instance_count (take (i + 1) list)
counted_on list i item number count is h counted e =
    let more : sum_by instance_count (take (i + 1) list) ≡ sum_by instance_count (take i list) + instance_count (get_or list i item) = sum_by_more instance_count list i item h in
    let same : instance_count (get_or list i item) ≡ instance_count item = ap instance_count (sym is) in
    omega (arith, more, same, counted, e)

pub items_done : (modules : List Module) (number : ℕ) (list : List ItemV) (i : ℕ) → length list ≤ i → ties_from modules number (drop i list) ≡ []
unfolding ties_from
items_done modules number list i h = ap (ties_from modules number) (drop_of_length-le list {i = i} h)

pub instances_left : (list : List ItemV) (i : ℕ) (item : ItemV) → item ≡ get_or list i item → i < length list →
    sum_by instance_count (drop i list) ≡ instance_count item + sum_by instance_count (drop (i + 1) list)
instances_left list i item is h =
    ap (sum_by instance_count) (drop-cons list i item h)
    ∙ (sum_by-cons instance_count (get_or list i item) (drop (suc i) list)
    ∙ (ap (λ k. instance_count (get_or list i item) + sum_by instance_count (drop k list)) (sym (add-one i))
    ∙ ap (λ x. instance_count x + sum_by instance_count (drop (i + 1) list)) (sym is)))
