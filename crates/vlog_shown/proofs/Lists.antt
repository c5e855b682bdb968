-- What modules show has their names, and tables can be made of it where they can be made of the modules.
use Rattle.std.proofs.Common.{◌≡◌, suc, ◌≤◌, List, [], ◌∷◌, map, refl, ap, arith}
use Rattle.std.specs.List.{AllByRecursion}
use Rattle.net_hier.specs.Valid.{Each}
use Rattle.vlog_design.specs.Rules.{declared_twice}
use Rattle.vlog_scopes.specs.Distinct.{AreDeclaredOnce, module_names}
use Rattle.vlog_values.specs.Sizes.{module_size}
use Rattle.vlog_values.specs.declared.module.Module.{Module}
use Rattle.vlog_shown.specs.Interfaces.{interface}
use Rattle.vlog_shown.proofs.ShownOnce.{shown_once, shown_small}

pub names_same : (ms : List Module) → module_names (map interface ms) ≡ module_names ms
names_same [] = refl
names_same (m ∷ ms) = ap (λ names. m.name ∷ names) (names_same ms)

pub all_once : (ms : List Module) → Each (λ m. declared_twice m ≡ []) ms → AreDeclaredOnce (map interface ms)
all_once [] h = tt
all_once (m ∷ ms) h = (shown_once m (h 0 m refl), all_once ms (λ i x e. h (suc i) x e))

pub all_small : (ms : List Module) → Each (λ m. module_size m ≤ 268435456) ms → AllByRecursion (λ m. module_size m ≤ 268435456) (map interface ms)
all_small [] h = tt
all_small (m ∷ ms) h = (omega (arith, shown_small m, h 0 m refl), all_small ms (λ i x e. h (suc i) x e))

-- the same, by recursion
pub once_shown : (ms : List Module) → AreDeclaredOnce ms → AreDeclaredOnce (map interface ms)
once_shown [] h = tt
once_shown (m ∷ ms) h = (shown_once m h.0, once_shown ms h.1)

pub small_shown : (ms : List Module) → AllByRecursion (λ m. module_size m ≤ 268435456) ms → AllByRecursion (λ m. module_size m ≤ 268435456) (map interface ms)
small_shown [] h = tt
small_shown (m ∷ ms) h = (omega (arith, shown_small m, h.0), small_shown ms h.1)
