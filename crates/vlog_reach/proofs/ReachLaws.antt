-- The graph of modules.
use Rattle.std.proofs.Common.{◌≡◌, ℕ, zero, suc, ◌<◌, Bool, true, false, cond, List, [], ◌∷◌, ◌++◌, Some, None, bytes_eq, flat_map, length, map, nat_lt, slice_get, refl, sym, ap, subst, ◌∙◌, arith}
use Rattle.std.specs.Prelude.{option_to_list, position}
use Rattle.std.specs.List.{position_or_len}
use Rattle.std.proofs.lemmas.Bool.{ltb-true}
use Rattle.std.proofs.lemmas.List.{length-map}
use Rattle.net_graph.specs.Graph.{IsInRange}
use Rattle.vlog_design.specs.Names.{Name}
use Rattle.vlog_design.specs.Reach.{instance_modules, module_place, modules_below, numbers_below}
use Rattle.vlog_reach.specs.Places.{places_in}
use Rattle.vlog_values.specs.declared.module.Module.{Module}

abbrev module_names : List Module → List Name
module_names = map (λ m. m.name)

place_or_len : (modules : List Module) (name : Name) → position_or_len (bytes_eq name) (module_names modules) ≡ position_or_len (λ (m : Module). bytes_eq name m.name) modules
place_or_len [] name = refl
place_or_len (m ∷ ms) name = rw (place_or_len ms name) refl

place_same : (modules : List Module) (name : Name) → position (bytes_eq name) (module_names modules) ≡ module_place modules name
place_same modules name = rw (place_or_len modules name, length-map) refl

places_same : (modules : List Module) (names : List Name) → places_in (module_names modules) names ≡ flat_map (λ name. option_to_list (module_place modules name)) names
places_same modules [] = refl
places_same modules (name ∷ names) = rw (place_same modules name, places_same modules names) refl

each_below : (modules ms : List Module) → map (λ m. places_in (module_names modules) (instance_modules m)) ms ≡ map (numbers_below modules) ms
each_below modules [] = refl
each_below modules (m ∷ ms) = rw (places_same modules (instance_modules m), each_below modules ms) refl

pub graph_is : (modules : List Module) (names : List Name) → names ≡ module_names modules → map (λ m. places_in names (instance_modules m)) modules ≡ modules_below modules
unfolding modules_below
graph_is modules names e = ap (λ ns. map (λ m. places_in ns (instance_modules m)) modules) e ∙ each_below modules modules

pub graph_long : (modules : List Module) → length (modules_below modules) ≡ length modules
unfolding modules_below
graph_long modules = length-map modules (numbers_below modules)

-- numbers below a bound

abbrev AreLess : ℕ → List ℕ → Type 0
AreLess bound numbers = (place number : ℕ) → slice_get numbers place ≡ Some number → number < bound

less_append : (bound : ℕ) (xs ys : List ℕ) → AreLess bound xs → AreLess bound ys → AreLess bound (xs ++ ys)
less_append bound [] ys h k = k
less_append bound (x ∷ xs) ys h k = go (less_append bound xs ys (λ p n. h (suc p) n) k)
  where
    go : AreLess bound (xs ++ ys) → AreLess bound (x ∷ (xs ++ ys))
    go rest zero number e = h 0 number e
    go rest (suc place) number e = rest place number e

less_place : (p : Module → Bool) (modules : List Module) → AreLess (length modules) (option_to_list (position p modules))
less_place p modules = by (nat_lt (position_or_len p modules) (length modules)) refl
  where
    by : (b : Bool) → nat_lt (position_or_len p modules) (length modules) ≡ b → AreLess (length modules) (option_to_list (cond b (Some (position_or_len p modules)) None))
    by true e zero number h = let same : position_or_len p modules ≡ number = cc in subst (λ n. n < length modules) same (ltb-true (position_or_len p modules) (length modules) e)
    by true e (suc place) number h = absurd cc
    by false e place number h = absurd cc

less_below : (modules : List Module) (names : List Name) → AreLess (length modules) (flat_map (λ name. option_to_list (module_place modules name)) names)
less_below modules [] = λ place number e. absurd cc
less_below modules (name ∷ names) = less_append (length modules) (option_to_list (module_place modules name)) (flat_map (λ n. option_to_list (module_place modules n)) names) (less_place (λ m. bytes_eq name m.name) modules) (less_below modules names)

each_less : (modules ms : List Module) (outer : ℕ) (numbers : List ℕ) → slice_get (map (numbers_below modules) ms) outer ≡ Some numbers → AreLess (length modules) numbers
each_less modules [] outer numbers e = absurd cc
each_less modules (m ∷ ms) zero numbers e = let same : numbers_below modules m ≡ numbers = cc in subst (AreLess (length modules)) same (less_below modules (instance_modules m))
each_less modules (m ∷ ms) (suc outer) numbers e = each_less modules ms outer numbers e

-- each number in the graph is that of a module
pub in_range : (modules : List Module) (graph : List (List ℕ)) → graph ≡ modules_below modules → IsInRange graph
unfolding modules_below
in_range modules graph e = λ outer inner above.
    let long : length graph ≡ length modules = ap length e ∙ length-map modules (numbers_below modules) in
    let less : inner < length modules = each_less modules modules outer above.numbers (ap (λ g. slice_get g outer) (sym e) ∙ above.are_below) above.place inner above.is_there in
    omega (arith, long, less)
