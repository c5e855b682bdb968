-- Looking up a module by the place of its name.
use Rattle.std.proofs.Common.{◌≡◌, ℕ, suc, not, ◌||◌, ◌+◌, ◌<◌, ◌≤◌, Bool, true, false, cond, List, [], ◌∷◌, Option, None, Some, bytes_eq, find, get_or, length, map, nat_lt, option_map, is_some, refl, sym, ap, subst, ◌∙◌, arith}
use Rattle.std.specs.Prelude.{position}
use Rattle.std.specs.List.{position_or_len}
use Rattle.std.specs.Option.{option_map_or}
use Rattle.std.proofs.lemmas.Bool.{ltb-true, ltb-false}
use Rattle.std.proofs.lemmas.List.{length-map}
use Rattle.vlog_design.specs.Names.{Name, has_name, port_names}
use Rattle.vlog_design.specs.Reach.{module_named}
use Rattle.vlog_design.specs.Rules.{ports_named}
use Rattle.vlog_values.specs.declared.module.Module.{Module}

abbrev pub module_names : List Module → List Name
module_names = map (λ m. m.name)

-- the first module of this name, by the place of the first such name
module_at : (modules : List Module) (name : Name) (d : List Name) → position_or_len (bytes_eq name) (module_names modules) < length modules →
    option_map port_names (module_named modules name) ≡ Some (get_or (map port_names modules) (position_or_len (bytes_eq name) (module_names modules)) d)
unfolding module_named
module_at [] name d h = absurd (omega (arith, h))
module_at (m ∷ ms) name d h = by (bytes_eq name m.name) (module_at ms name d) h
  where
    by : (b : Bool) → (position_or_len (bytes_eq name) (module_names ms) < length ms → option_map port_names (find (λ (x : Module). bytes_eq name x.name) ms) ≡ Some (get_or (map port_names ms) (position_or_len (bytes_eq name) (module_names ms)) d))
        → cond (not b) (1 + position_or_len (bytes_eq name) (module_names ms)) 0 < suc (length ms)
        → option_map port_names (cond b (Some m) (find (λ (x : Module). bytes_eq name x.name) ms)) ≡ Some (get_or (port_names m ∷ map port_names ms) (cond (not b) (1 + position_or_len (bytes_eq name) (module_names ms)) 0) d)
    by true next h = refl
    by false next h =
        let n = position_or_len (bytes_eq name) (module_names ms) in
        let e : suc n ≡ 1 + n = omega arith in
        subst (λ k. option_map port_names (find (λ (x : Module). bytes_eq name x.name) ms) ≡ Some (get_or (port_names m ∷ map port_names ms) k d)) e (next (omega (arith, h)))

module_gone : (modules : List Module) (name : Name) → length modules ≤ position_or_len (bytes_eq name) (module_names modules) → module_named modules name ≡ None
unfolding module_named
module_gone [] name h = refl
module_gone (m ∷ ms) name h = by (bytes_eq name m.name) (module_gone ms name) h
  where
    by : (b : Bool) → (length ms ≤ position_or_len (bytes_eq name) (module_names ms) → find (λ (x : Module). bytes_eq name x.name) ms ≡ None)
        → suc (length ms) ≤ cond (not b) (1 + position_or_len (bytes_eq name) (module_names ms)) 0 → cond b (Some m) (find (λ (x : Module). bytes_eq name x.name) ms) ≡ None
    by true next h = absurd (omega (arith, h))
    by false next h = next (omega (arith, h))

record IsPlace (n size at : ℕ) : Type 0 where
  pub same : n ≡ at
  pub within : n < size

place_is : (n size at : ℕ) → cond (nat_lt n size) (Some n) None ≡ Some at → IsPlace n size at
place_is n size at e = by (nat_lt n size) refl e
  where
    by : (b : Bool) → nat_lt n size ≡ b → cond b (Some n) None ≡ Some at → IsPlace n size at
    by true t h = record { same = cc; within = ltb-true n size t }
    by false t h = absurd cc

place_gone : (n size : ℕ) → cond (nat_lt n size) (Some n) None ≡ None → size ≤ n
place_gone n size e = by (nat_lt n size) refl e
  where
    by : (b : Bool) → nat_lt n size ≡ b → ◌≡◌ {A = Option ℕ} (cond b (Some n) None) None → size ≤ n
    by true t h = absurd cc
    by false t h = ltb-false n size t

-- what the place of a name tells
pub record IsModuleAt (modules : List Module) (name : Name) (at : ℕ) : Type 0 where
  pub within : at < length modules
  pub ports : (d : List Name) → option_map port_names (module_named modules name) ≡ Some (get_or (map port_names modules) at d)

pub module_placed : (modules : List Module) (name : Name) (at : ℕ) (names : List Name) → names ≡ module_names modules → position (bytes_eq name) names ≡ Some at → IsModuleAt modules name at
module_placed modules name at names e h =
    let n = position_or_len (bytes_eq name) (module_names modules) in
    let long : length (module_names modules) ≡ length modules = length-map modules _ in
    let is = place_is n (length (module_names modules)) at (ap (position (bytes_eq name)) (sym e) ∙ h) in
    record {
      within = omega (arith, is.same, is.within, long);
      ports = λ d. module_at modules name d (omega (arith, is.within, long)) ∙ ap (λ k. Some (get_or (map port_names modules) k d)) is.same;
    }

pub no_module_placed : (modules : List Module) (name : Name) (names : List Name) → names ≡ module_names modules → position (bytes_eq name) names ≡ None → module_named modules name ≡ None
no_module_placed modules name names e h =
    let long : length (module_names modules) ≡ length modules = length-map modules _ in
    module_gone modules name (omega (arith, place_gone (position_or_len (bytes_eq name) (module_names modules)) (length (module_names modules)) (ap (position (bytes_eq name)) (sym e) ∙ h), long))

-- the ports of a module that was found
pub ports_found : (modules : List Module) (name : Name) (ports : List Name) → option_map port_names (module_named modules name) ≡ Some ports → ports_named modules name ≡ ports
unfolding ports_named
ports_found modules name ports e = by (module_named modules name) e
  where
    by : (o : Option Module) → option_map port_names o ≡ Some ports → option_map_or port_names o [] ≡ ports
    by None h = absurd cc
    by (Some m) h = cc

pub no_ports : (modules : List Module) (name : Name) → module_named modules name ≡ None → ports_named modules name ≡ []
unfolding ports_named
no_ports modules name e = rw e refl

pub some_module : (o : Option Module) (ports : List Name) → option_map port_names o ≡ Some ports → is_some o ≡ true
some_module None ports h = absurd cc
some_module (Some m) ports h = refl

-- a module is there where its name is
pub is_named : (modules : List Module) (name : Name) → has_name (module_names modules) name ≡ is_some (module_named modules name)
unfolding module_named
is_named [] name = refl
is_named (m ∷ ms) name = by (bytes_eq name m.name) (is_named ms name)
  where
    by : (b : Bool) → has_name (module_names ms) name ≡ is_some (find (λ (x : Module). bytes_eq name x.name) ms)
        → (b || has_name (module_names ms) name) ≡ is_some (cond b (Some m) (find (λ (x : Module). bytes_eq name x.name) ms))
    by true h = refl
    by false h = h
