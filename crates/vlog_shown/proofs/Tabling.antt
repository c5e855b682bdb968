-- What is known of each of the modules of which tables are made.
use Rattle.std.proofs.Common.{◌≡◌, ℕ, zero, suc, ◌<◌, ◌≤◌, List, [], ◌∷◌, get_or, length, sym, subst, arith}
use Rattle.std.specs.List.{AllByRecursion}
use Rattle.vlog_design.specs.Rules.{declared_twice}
use Rattle.vlog_scopes.specs.Distinct.{AreDeclaredOnce}
use Rattle.vlog_values.specs.Sizes.{module_size}
use Rattle.vlog_values.specs.declared.module.Module.{Module}

-- of the modules, the one at a place
pub once_at : (ms : List Module) (i : ℕ) (m : Module) → i < length ms → m ≡ get_or ms i m → AreDeclaredOnce ms → declared_twice m ≡ []
once_at [] i m h is once = absurd (omega (arith, h))
once_at (first ∷ rest) zero m h is once = subst (λ (o : Module). declared_twice o ≡ []) (sym is) once.0
once_at (first ∷ rest) (suc i) m h is once = once_at rest i m (omega (arith, h)) is once.1

pub small_at : (ms : List Module) (i : ℕ) (m : Module) → i < length ms → m ≡ get_or ms i m → AllByRecursion (λ m. module_size m ≤ 268435456) ms → module_size m ≤ 268435456
small_at [] i m h is small = absurd (omega (arith, h))
small_at (first ∷ rest) zero m h is small = subst (λ (o : Module). module_size o ≤ 268435456) (sym is) small.0
small_at (first ∷ rest) (suc i) m h is small = small_at rest i m (omega (arith, h)) is small.1
