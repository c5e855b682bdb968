-- The units of modules are few where their bits and the bits of their left sides are.
use Rattle.std.proofs.Common.{◌≡◌, ℕ, ◌+◌, ◌-◌, ◌^◌, ◌≤◌, List, [], ◌∷◌, arith, min, refl, suc, sum_by}
use Rattle.std.proofs.lemmas.List.Sums.{sum_by-cons}
use Rattle.net_hier.specs.Units.{units}
use Rattle.vlog_ties.specs.Ties.{module_bits, most_joins}
use Rattle.vlog_ties.proofs.MostJoins.{joins_few}
use Rattle.net_hier.specs.Valid.{Each}
use Rattle.std.specs.List.{AllByRecursion}
use Rattle.vlog_scopes.specs.Distinct.{AreDeclaredOnce}
use Rattle.vlog_values.specs.Sizes.{module_size}
use Rattle.vlog_values.specs.declared.module.Module.{Module}
use Rattle.vlog_elab.specs.Ready.{IsReady}
use Rattle.vlog_elab.specs.Units.{cells_from, module_units}
use Rattle.vlog_elab.proofs.Signals.{units_are}

units_few : (ms those : List Module) → sum_by (module_units ms) those ≤ sum_by module_bits those + sum_by (most_joins ms) those
units_few ms [] = omega arith
units_few ms (m ∷ those) =
    omega (arith, sum_by-cons (module_units ms) m those, sum_by-cons module_bits m those, sum_by-cons (most_joins ms) m those, joins_few ms m, units_few ms those)

-- the units of all modules, where those are within a limit
pub few_shown : (ms : List Module) (bits most : ℕ) → bits ≡ min (2 ^ 64 - 1) (sum_by module_bits ms) → most ≡ min (2 ^ 64 - 1) (sum_by (most_joins ms) ms) → min (bits + most) (2 ^ 64 - 1) ≤ 33554432
    → units (cells_from ms) ≤ 33554432
few_shown ms bits most are most_are le = omega (arith, units_are ms, units_few ms ms, are, most_are, le)

-- tables can be made of modules that are ready
pub ready_once : (ms those : List Module) → Each (IsReady ms) those → AreDeclaredOnce those
ready_once ms [] h = tt
ready_once ms (m ∷ those) h = ((h 0 m refl).once, ready_once ms those (λ i x e. h (suc i) x e))

pub ready_small : (ms those : List Module) → Each (IsReady ms) those → AllByRecursion (λ m. module_size m ≤ 268435456) those
ready_small ms [] h = tt
ready_small ms (m ∷ those) h = ((h 0 m refl).small, ready_small ms those (λ i x e. h (suc i) x e))
