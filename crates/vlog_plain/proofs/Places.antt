-- The modules of a file of plain modules, found by their names (12.1).
use Rattle.std.proofs.Common.{◌≡◌, ℕ, zero, suc, ◌+◌, ◌<◌, not, Bool, true, false, cond, List, [], ◌∷◌, None, Some, bytes_eq, length, map, nat_lt, slice_get, refl, sym, ap, subst, ◌∙◌, arith, Contains}
use Rattle.std.specs.Prelude.{option_map}
use Rattle.std.specs.List.{position_or_len}
use Rattle.std.proofs.lemmas.Bool.Decides.{nat_tests}
use Rattle.std.proofs.lemmas.List.{length-map}
use Rattle.std.proofs.lemmas.Option.{slice_get-map, slice_get_within}
use Rattle.vlog_design.specs.Reach.{module_named, module_number, module_place}
use Rattle.vlog_values.specs.declared.module.Module.{Module}
use Rattle.vlog_written.specs.OwnNames.{AreDistinct}
use Rattle.vlog_written.specs.Written.{PlainModule, plain_module}
use Rattle.vlog_written.proofs.Members.{find_named, there_at, there_mapped}
use Rattle.vlog_plain.specs.Plain.{plain_modules}
use Rattle.vlog_plain.proofs.Lists.{differ, same}

pub module_at : (ps : List PlainModule) (place : ℕ) (p : PlainModule) → slice_get ps place ≡ Some p → slice_get (plain_modules ps) place ≡ Some (plain_module p)
module_at ps place p e = slice_get-map plain_module ps place ∙ ap (option_map plain_module) e

pub names_are : (ps : List PlainModule) → map (λ (m : Module). m.name) (plain_modules ps) ≡ map (λ (p : PlainModule). p.name) ps
names_are [] = refl
names_are (p ∷ ps) = ap (λ names. p.name ∷ names) (names_are ps)

-- the first of a name
pub found : (ps : List PlainModule) (place : ℕ) (p : PlainModule) → AreDistinct (map (λ (p : PlainModule). p.name) ps) → slice_get ps place ≡ Some p → module_named (plain_modules ps) p.name ≡ Some (plain_module p)
unfolding module_named
found ps place p d e = find_named (λ (m : Module). m.name) (plain_modules ps) place (plain_module p) (subst AreDistinct (sym (names_are ps)) d) (module_at ps place p e)

place_of : (ps : List PlainModule) (place : ℕ) (p : PlainModule) → AreDistinct (map (λ (p : PlainModule). p.name) ps) → slice_get ps place ≡ Some p → position_or_len (λ (m : Module). bytes_eq p.name m.name) (plain_modules ps) ≡ place
place_of [] place p d e = absurd (cc)
place_of (q ∷ ps) zero p d e =
    let h : q ≡ p = here q p e in
    ap (λ b. cond (not b) (1 + position_or_len (λ (m : Module). bytes_eq p.name m.name) (plain_modules ps)) 0) (same p.name q.name (sym (ap (λ (r : PlainModule). r.name) h)))
  where
    here : (a b : PlainModule) → Some a ≡ Some b → a ≡ b
    here a b e = cc
place_of (q ∷ ps) (suc place) p d e =
    let rest : position_or_len (λ (m : Module). bytes_eq p.name m.name) (plain_modules ps) ≡ place = place_of ps place p d.1 e in
    ap (λ b. cond (not b) (1 + position_or_len (λ (m : Module). bytes_eq p.name m.name) (plain_modules ps)) 0)
    (differ p.name q.name (λ h. d.0 (subst (Contains (map (λ (p : PlainModule). p.name) ps)) h (there_mapped (λ (p : PlainModule). p.name) ps p (there_at ps place p e)))))
    ∙ omega (arith, rest)

-- its number is its place
pub number_of : (ps : List PlainModule) (place : ℕ) (p : PlainModule) → AreDistinct (map (λ (p : PlainModule). p.name) ps) → slice_get ps place ≡ Some p → module_number (plain_modules ps) p.name ≡ place
unfolding module_number
number_of ps place p d e = place_of ps place p d e

pub found_at : (ps : List PlainModule) (place : ℕ) (p : PlainModule) → AreDistinct (map (λ (p : PlainModule). p.name) ps) → slice_get ps place ≡ Some p → module_place (plain_modules ps) p.name ≡ Some place
found_at ps place p d e =
    let n : position_or_len (λ (m : Module). bytes_eq p.name m.name) (plain_modules ps) ≡ place = place_of ps place p d e in
    let long : length (plain_modules ps) ≡ length ps = length-map ps plain_module in
    let within : place < length ps = slice_get_within ps place p e in
    ap (λ n. cond (nat_lt n (length (plain_modules ps))) (Some n) None) n ∙ by (nat_lt place (length (plain_modules ps))) (less place (length (plain_modules ps)) (omega (arith, long, within)))
  where
    less : (a b : ℕ) → a < b → nat_lt a b ≡ true
    less a b h = grind (arith, nat_tests)

    by : (b : Bool) → b ≡ true → cond b (Some place) None ≡ Some place
    by true e = refl
    by false e = absurd (cc)
