-- Modules that are lent.
use Rattle.std.proofs.Common.{◌≡◌, ℕ, zero, suc, ◌+◌, ◌<◌, Bool, not, List, [], ◌∷◌, ◌++◌, drop, get_or, length, map, if◌then◌else◌, refl, sym, ap, subst, ◌∙◌, arith}
use Rattle.std.specs.Borrow.{Bor}
use Rattle.vlog_design.specs.Names.{Name, has_name}
use Rattle.vlog_design.specs.Rules.{declared_twice}
use Rattle.vlog_design.specs.Tables.{modules_of}
use Rattle.vlog_scopes.specs.Distinct.{AreDeclaredOnce, Distinct, module_names}
use Rattle.vlog_scopes.proofs.DistinctLaws.{set_more}
use Rattle.vlog_values.specs.declared.module.Module.{Module}

lent_modules : (modules : List (Bor Module)) → module_names (modules_of modules) ≡ map (λ m. m.now.name) modules
lent_modules [] = refl
lent_modules (m ∷ ms) = ap (λ rest. m.now.name ∷ rest) (lent_modules ms)

pub module_more : (modules : List (Bor Module)) (set after : List Name) (i : ℕ) (m : Bor Module) (new : Bool) → i < length modules → m ≡ get_or modules i m → Distinct (module_names (modules_of modules))
    → set ++ module_names (modules_of (drop i modules)) ≡ module_names (modules_of modules) → new ≡ not (has_name set m.now.name)
    → after ≡ set ++ (if new then m.now.name ∷ [] else []) → after ++ module_names (modules_of (drop (i + 1) modules)) ≡ module_names (modules_of modules)
module_more modules set after i m new h is distinct made n a =
    ap (λ names. after ++ names) (lent_modules (drop (i + 1) modules))
    ∙ (set_more (λ (x : Bor Module). x.now.name) modules set after i m new h is (subst Distinct (lent_modules modules) distinct)
    (ap (λ names. set ++ names) (sym (lent_modules (drop i modules))) ∙ (made ∙ lent_modules modules)) n a
    ∙ sym (lent_modules modules))

pub once_at : (modules : List (Bor Module)) (i : ℕ) (d m : Bor Module) → i < length modules → m ≡ get_or modules i d → AreDeclaredOnce (modules_of modules) → declared_twice m.now ≡ []
once_at [] i d m h is once = absurd (omega (arith, h))
once_at (x ∷ xs) zero d m h is once = ap (λ (y : Bor Module). declared_twice y.now) is ∙ once.0
once_at (x ∷ xs) (suc i) d m h is once = once_at xs i d m (omega (arith, h)) is once.1
