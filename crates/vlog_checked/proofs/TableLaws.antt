-- Tables can be made of the reached modules.
use Rattle.std.proofs.Common.{◌≡◌, ℕ, zero, suc, ◌+◌, ◌<◌, ◌≤◌, ◌^◌, Bool, true, false, List, [], ◌∷◌, ◌++◌, Some, None, bytes_eq, cond, get_or, length, map, nat_lt, not, refl, sym, ap, subst, ◌∙◌, arith}
use Rattle.std.specs.Borrow.{Bor}
use Rattle.std.specs.Prelude.{position}
use Rattle.std.specs.List.{AllByRecursion, position_or_len}
use Rattle.std.proofs.lemmas.Bool.{or_from, or_parts}
use Rattle.std.proofs.lemmas.Bool.Decides.{nat_tests}
use Rattle.std.proofs.lemmas.List.{length-map}
use Rattle.std.proofs.lemmas.List.Sums.{sum_by-cons}
use Rattle.net_graph.specs.Marks.{marks_of}
use Rattle.nl_base.specs.declared.rule.Rule.TheVariants.{G2, G3, G4, G5}
use Rattle.vlog_design.specs.Names.{Name, has_name}
use Rattle.vlog_design.specs.Reach.{marked, module_number, modules_below, reached}
use Rattle.vlog_design.specs.Rules.{declared_twice, in_modules, modules_twice, no_top, refused, unknown_modules, without_direction}
use Rattle.vlog_design.specs.Tables.{modules_of}
use Rattle.vlog_scopes.specs.Distinct.{AreDeclaredOnce, Distinct, module_names}
use Rattle.vlog_scopes.proofs.DistinctLaws.{unrepeated}
use Rattle.vlog_values.specs.Sizes.{list_size, module_size, vlog_size}
use Rattle.vlog_values.specs.Values.{IsModule, IsVlogValue}
use Rattle.vlog_values.specs.declared.module.Module.{Module}
use Rattle.vlog_values.specs.declared.module.VlogFile.{VlogFile}
use Rattle.vlog_checked.specs.Groups.{file_refusals, module_refusals}
use Rattle.vlog_checked.specs.Tabled.{CanHaveTables}
use Rattle.vlog_checked.proofs.ListLaws.{back_none, front_none, map_none}
use Rattle.vlog_checked.proofs.Lookup.{marked_few}
use Rattle.vlog_checked.proofs.Reaching as reaching

-- ---- marked modules

has_marked : (marks : List Bool) (ms : List Module) (name : Name) → has_name (module_names ms) name ≡ false → has_name (module_names (marked marks ms)) name ≡ false
has_marked [] ms name h = refl
has_marked (mark ∷ marks) [] name h = refl
has_marked (true ∷ marks) (m ∷ ms) name h =
    let parts = or_parts (bytes_eq name m.name) (has_name (module_names ms) name) h in
    or_from (bytes_eq name m.name) (has_name (module_names (marked marks ms)) name) parts.0 (has_marked marks ms name parts.1)
has_marked (false ∷ marks) (m ∷ ms) name h = has_marked marks ms name (or_parts (bytes_eq name m.name) (has_name (module_names ms) name) h).1

pub differ_marked : (marks : List Bool) (ms : List Module) → Distinct (module_names ms) → Distinct (module_names (marked marks ms))
differ_marked [] ms d = tt
differ_marked (mark ∷ marks) [] d = tt
differ_marked (true ∷ marks) (m ∷ ms) d = (has_marked marks ms m.name d.0, differ_marked marks ms d.1)
differ_marked (false ∷ marks) (m ∷ ms) d = differ_marked marks ms d.1

pub all_marked : (P : Module → Type 0) (marks : List Bool) (ms : List Module) → AllByRecursion P ms → AllByRecursion P (marked marks ms)
all_marked P [] ms h = tt
all_marked P (mark ∷ marks) [] h = tt
all_marked P (true ∷ marks) (m ∷ ms) h = (h.0, all_marked P marks ms h.1)
all_marked P (false ∷ marks) (m ∷ ms) h = all_marked P marks ms h.1

-- ---- modules

once_none : (ms : List Module) → in_modules G4 declared_twice ms ≡ [] → AreDeclaredOnce ms
once_none [] e = tt
once_none (m ∷ ms) e = (
  map_none (refused G4 m.name) (declared_twice m) (front_none (map (refused G4 m.name) (declared_twice m)) (in_modules G4 declared_twice ms) e),
  once_none ms (back_none (map (refused G4 m.name) (declared_twice m)) (in_modules G4 declared_twice ms) e),
)

all_small : (ms : List Module) → list_size module_size ms ≤ 268435456 → AllByRecursion (λ m. module_size m ≤ 268435456) ms
all_small [] h = tt
all_small (m ∷ ms) h = (omega (arith, sum_by-cons module_size m ms, h), all_small ms (omega (arith, sum_by-cons module_size m ms, h)))

-- of the modules that are lent, the one at a place
pub once_at : (modules : List (Bor Module)) (i : ℕ) (m : Bor Module) → i < length modules → m ≡ get_or modules i m → AreDeclaredOnce (modules_of modules) → declared_twice m.now ≡ []
once_at [] i m h is once = absurd (omega (arith, h))
once_at (first ∷ rest) zero m h is once = subst (λ (o : Bor Module). declared_twice o.now ≡ []) (sym is) once.0
once_at (first ∷ rest) (suc i) m h is once = once_at rest i m (omega (arith, h)) is once.1

pub all_at : (P : Module → Type 0) (modules : List (Bor Module)) (i : ℕ) (m : Bor Module) → i < length modules → m ≡ get_or modules i m → AllByRecursion P (modules_of modules) → P m.now
all_at P [] i m h is all = absurd (omega (arith, h))
all_at P (first ∷ rest) zero m h is all = subst (λ (o : Bor Module). P o.now) (sym is) all.0
all_at P (first ∷ rest) (suc i) m h is all = all_at P rest i m (omega (arith, h)) is all.1

pub small_at : (modules : List (Bor Module)) (i : ℕ) (m : Bor Module) → i < length modules → m ≡ get_or modules i m → AllByRecursion (λ m. module_size m ≤ 268435456) (modules_of modules) → module_size m.now ≤ 268435456
small_at = all_at (λ m. module_size m ≤ 268435456)

-- modules that the file has once have names that differ
pub differ_in : (file : VlogFile) → modules_twice file ≡ [] → Distinct (module_names file.modules)
differ_in file e = unrepeated (module_names file.modules) (map_none (λ name. refused G2 [] (name ∷ [])) _ e)

-- ---- numbers of names

module _ {A : Type 0} (test : A → Bool) where
  place_within : (xs : List A) → position_or_len test xs ≤ length xs
  place_within [] = omega arith
  place_within (x ∷ xs) = by (test x) (place_within xs)
    where
      by : (b : Bool) → position_or_len test xs ≤ length xs → cond (not b) (1 + position_or_len test xs) 0 ≤ suc (length xs)
      by true h = omega arith
      by false h = omega (arith, h)

  -- where nothing passes, the number is that of all
  pub none_place : (xs : List A) → position test xs ≡ None → length xs ≡ position_or_len test xs
  none_place xs e = by (nat_lt (position_or_len test xs) (length xs)) refl e
    where
      by : (b : Bool) → nat_lt (position_or_len test xs) (length xs) ≡ b → cond b (Some (position_or_len test xs)) None ≡ None → length xs ≡ position_or_len test xs
      by true h e = absurd (cc)
      by false h e = let w = place_within xs in grind (arith, nat_tests)

-- the number of a module by the place of its name
pub number_is : (ms : List Module) (name : Name) → position_or_len (bytes_eq name) (module_names ms) ≡ module_number ms name
unfolding module_number
number_is [] name = refl
number_is (m ∷ ms) name = rw (number_is ms name) refl

-- ---- a file

module _ (file : VlogFile) (top : Name) (named : file_refusals file top ≡ []) where
  pub has_top : no_top file top ≡ []
  unfolding file_refusals
  has_top = front_none (no_top file top) (modules_twice file) named

  pub once : modules_twice file ≡ []
  unfolding file_refusals
  once = back_none (no_top file top) (modules_twice file) named

  pub start_there : module_number file.modules top < length file.modules
  start_there = reaching.start_there file top has_top once

  pub top_within : module_number (reached file top) top < length (reached file top)
  top_within = reaching.top_within file top has_top once

  -- the number of a name among the names of the modules, and among those of the reached ones
  pub start_is : (names : List Name) (n : ℕ) → names ≡ module_names file.modules → n ≡ position_or_len (bytes_eq top) names → n ≡ module_number file.modules top
  start_is names n are is = is ∙ (ap (position_or_len (bytes_eq top)) are ∙ number_is file.modules top)

  pub start_within : (names : List Name) (n : ℕ) → names ≡ module_names file.modules → n ≡ position_or_len (bytes_eq top) names → n < length file.modules
  start_within names n are is = subst (λ k. k < length file.modules) (sym (start_is names n are is)) start_there

  pub names_few : vlog_size file ≤ 268435456 → (names : List Name) → names ≡ module_names file.modules → length names < 2 ^ 32
  unfolding vlog_size
  names_few small names are = omega (arith, ap length are, length-map file.modules (λ (m : Module). m.name), small)

  pub modules_few : vlog_size file ≤ 268435456 → length file.modules ≤ 2 ^ 32
  unfolding vlog_size
  modules_few small = omega (arith, small)

  -- the modules that are marked from the number of the top on are the reached ones
  pub reached_is : (modules : List Module) → modules ≡ file.modules → (n : ℕ) → n ≡ module_number file.modules top → marked (marks_of (modules_below modules) n) modules ≡ reached file top
  unfolding reached
  reached_is modules same n is = (λ j. marked (marks_of (modules_below (same j)) (is j)) (same j))

  module _ (items : List (Bor Module)) (reached_are : modules_of items ≡ reached file top) (names : List Name) (are : names ≡ module_names (modules_of items)) where
    pub names_are : names ≡ module_names (reached file top)
    names_are = are ∙ ap module_names reached_are

    pub top_is : (n : ℕ) → n ≡ position_or_len (bytes_eq top) names → n ≡ module_number (reached file top) top
    top_is n is = is ∙ (ap (position_or_len (bytes_eq top)) names_are ∙ number_is (reached file top) top)

    items_long : length items ≡ length (reached file top)
    items_long = sym (length-map items (λ (m : Bor Module). m.now)) ∙ ap length reached_are

    pub number_within : (n : ℕ) → n ≡ position_or_len (bytes_eq top) names → n < length items
    number_within n is = omega (arith, top_is n is, items_long, top_within)

  once_those : module_refusals file.modules (reached file top) ≡ [] → in_modules G4 declared_twice (reached file top) ≡ []
  unfolding module_refusals
  once_those declared =
      let those = reached file top in
      back_none (in_modules G3 (unknown_modules file.modules) those) (in_modules G4 declared_twice those)
      (front_none (in_modules G3 (unknown_modules file.modules) those ++ in_modules G4 declared_twice those) (in_modules G5 without_direction those) declared)

  -- the reached modules of a file of few items are those of which tables can be made
  pub can_have_tables : IsVlogValue file → vlog_size file ≤ 268435456 → module_refusals file.modules (reached file top) ≡ [] → CanHaveTables (reached file top)
  unfolding reached vlog_size
  can_have_tables value small declared =
      let marks = marks_of (modules_below file.modules) (module_number file.modules top) in
      record {
        differ = differ_marked marks file.modules (differ_in file once);
        once = once_none (reached file top) (once_those declared);
        valid = all_marked IsModule marks file.modules value;
        small = all_marked (λ m. module_size m ≤ 268435456) marks file.modules (all_small file.modules small);
        few = omega (arith, marked_few marks file.modules, small);
      }
