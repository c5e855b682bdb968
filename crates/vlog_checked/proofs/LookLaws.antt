-- What is seen of modules one after the other, and of all of them by what they show.
use Rattle.std.proofs.Common.{◌≡◌, ℕ, ◌+◌, ◌-◌, ◌^◌, ◌<◌, ◌≤◌, Bool, true, false, ◌&&◌, ◌||◌, List, [], ◌∷◌, ◌++◌, Option, Some, None, Result, Ok, Err, is_none, is_some, ap, arith, get_or, length, map, min, refl, subst, sum_by, sym, take, ◌∙◌}
use Rattle.std.specs.Prelude.{IfOk}
use Rattle.std.specs.List.{AllByRecursion, list_any}
use Rattle.std.proofs.lemmas.Bool.{false≢true}
use Rattle.std.proofs.lemmas.List.{map_more, take_all}
use Rattle.std.proofs.lemmas.List.Sums.{sum_by-append}
use Rattle.std.specs.Borrow.{Bor}
use Rattle.nl_base.specs.declared.rule.Refusal.{Refusal}
use Rattle.nl_base.specs.declared.rule.Rule.{Rule}
use Rattle.nl_base.specs.declared.rule.Rule.TheVariants.{G6, G7, G8, G12, G13, G15}
use Rattle.vlog_design.specs.Names.{implicit_names}
use Rattle.vlog_design.specs.Rules.{Objects, bad_selects, first_of, in_modules, other_ranges, refused, too_wide, unequal_widths, unknown_names, unsized}
use Rattle.vlog_design.specs.Tables.{modules_of}
use Rattle.vlog_rules.proofs.UseLaws.{none_refused}
use Rattle.vlog_rules.specs.WrongUses.{has_wrong_use}
use Rattle.vlog_ties.specs.Sides.{AreSides}
use Rattle.vlog_ties.specs.Ties.{module_bits, most_joins}
use Rattle.vlog_ties.specs.declared.sides.Sides.{Sides}
use Rattle.vlog_values.specs.declared.module.Module.{Module}
use Rattle.vlog_shown.specs.Interfaces.{interface}
use Rattle.vlog_shown.proofs.Showing.{unequal_same, unsized_same}
use Rattle.vlog_shown.proofs.Tied.{all_most_same}
use Rattle.vlog_checked.specs.ByTables.{AreLooked, IsFree, IsFreeAlone}
use Rattle.vlog_checked.specs.declared.looks.Look.{Look}
use Rattle.vlog_checked.proofs.Grouping.{none_first}
use Rattle.vlog_checked.proofs.ListLaws.{front_none, map_none}

-- ---- one module

-- a rule without a first refusal has no objects
pub no_objects : (rule : Rule) (objects : Module → Objects) (m : Module) (found : Option Refusal) → found ≡ first_of (map (refused rule m.name) (objects m)) → found ≡ None → objects m ≡ []
no_objects rule objects m found is none = map_none (refused rule m.name) (objects m) (none_first (map (refused rule m.name) (objects m)) (sym none ∙ is))

-- and neither has one without a refusal among those of one module
none_alone : (rule : Rule) (objects : Module → Objects) (m : Module) → in_modules rule objects (m ∷ []) ≡ [] → objects m ≡ []
none_alone rule objects m none = map_none (refused rule m.name) (objects m) (front_none (map (refused rule m.name) (objects m)) [] none)

no_sides : (rule : Rule) (objects : Module → Objects) (m : Module) → None ≡ first_of (in_modules rule objects (m ∷ [])) → objects m ≡ []
no_sides rule objects m none = none_alone rule objects m (none_first (in_modules rule objects (m ∷ [])) none)

both : (a b : Bool) → (a && b) ≡ true → (a ≡ true) × (b ≡ true)
both true b h = (refl, h)
both false b h = absurd (false≢true h)

is_empty : {A : Type 0} (o : Option A) → is_none o ≡ true → o ≡ None
is_empty None h = refl
is_empty (Some x) h = absurd (false≢true h)

all_three : (a b c d : Bool) → d ≡ (a && b && c) → d ≡ true → (a ≡ true) × ((b ≡ true) × (c ≡ true))
all_three a b c d is h = let r = both (a && b) c (sym is ∙ h) in let s = both a b r.0 in (s.0, (s.1, r.1))

-- what is seen of one module
pub looked_at : (modules : List Module) (m : Module) (sides : Sides) (look : Look) (free : Bool) → AreSides modules (m ∷ []) sides → (free ≡ true → IsFreeAlone m)
    → look.is_free ≡ (free && is_none sides.unequal && is_none sides.loose) → look.most ≡ sides.most → look.bits ≡ min (2 ^ 64 - 1) (module_bits m)
    → (look.is_declared ≡ true → implicit_names m ≡ []) → AreLooked modules (m ∷ []) look
looked_at modules m sides look free are alone is most bits declared = record {
  free = λ h. let r = all_three free (is_none sides.unequal) (is_none sides.loose) look.is_free is h in (
    record {
      alone = alone r.0;
      equal_widths = no_sides G8 (unequal_widths modules) m (sym (is_empty sides.unequal r.1.0) ∙ are.unequal_is);
      sized = no_sides G13 (unsized modules) m (sym (is_empty sides.loose r.1.1) ∙ are.loose_is);
    },
    tt,
  );
  most_is = most ∙ are.most_is;
  bits_is = bits ∙ omega arith;
  declared = λ h. (declared h, tt);
}

-- whether one of its uses of names is wrong
pub wrong_alone : (modules : List Module) (m : Module) (sides : Sides) → AreSides modules (m ∷ []) sides → sides.wrong ≡ has_wrong_use m
wrong_alone modules m sides are = are.wrong_is ∙ or_none (has_wrong_use m)
  where
    or_none : (b : Bool) → (b || false) ≡ b
    or_none true = refl
    or_none false = refl

not_some : {A : Type 0} (o : Option A) → is_some o ≡ false → o ≡ None
not_some None h = refl
not_some (Some x) h = absurd (false≢true (sym h))

-- what the rules on one module alone say of it
pub free_alone : (m : Module) (wrong : Bool) (wide other : Option Refusal) → wrong ≡ has_wrong_use m → wrong ≡ false → wide ≡ first_of (map (refused G12 m.name) (too_wide m)) → is_some wide ≡ false
    → other ≡ first_of (map (refused G15 m.name) (other_ranges m)) → is_some other ≡ false → IsFreeAlone m
free_alone m wrong wide other is right wide_is no_wide other_is no_other =
    let h : list_any has_wrong_use (m ∷ []) ≡ false = ap (λ b. b || false) (sym is ∙ right) in
    let r = none_refused (m ∷ []) h in
    record {
      known_names = none_alone G6 unknown_names m r.0;
      good_selects = none_alone G7 bad_selects m r.1;
      narrow = no_objects G12 too_wide m wide wide_is (not_some wide no_wide);
      one_range = no_objects G15 other_ranges m other other_is (not_some other no_other);
    }

-- ---- modules one after the other

all_join : {A : Type 0} (P : A → Type 0) (xs ys : List A) → AllByRecursion P xs → AllByRecursion P ys → AllByRecursion P (xs ++ ys)
all_join P [] ys h k = k
all_join P (x ∷ xs) ys h k = (h.0, all_join P xs ys h.1 k)

sum_both : (f : Module → ℕ) (front back : List Module) (limit one other both : ℕ) → one ≡ min limit (sum_by f front) → other ≡ min limit (sum_by f back) → both ≡ min (one + other) limit → both ≡ min limit (sum_by f (front ++ back))
sum_both f front back limit one other both e g is = let sums : sum_by f (front ++ back) ≡ sum_by f front + sum_by f back = sum_by-append f front back in grind arith

module _ (modules : List Module) where
  -- before the first module
  pub looked_begun : (lent : List (Bor Module)) → AreLooked modules (modules_of (take 0 lent)) (record { is_free = true; is_declared = true; most = 0; bits = 0 })
  looked_begun lent = record { free = λ h. tt; most_is = refl; bits_is = refl; declared = λ h. tt }

  -- one more module
  pub looked_more : (lent : List (Bor Module)) (i : ℕ) (m : Bor Module) → m ≡ get_or lent i m → i < length lent → (front back look : Look) → AreLooked modules (modules_of (take i lent)) front → AreLooked modules (m.now ∷ []) back
      → look.is_free ≡ (front.is_free && back.is_free) → look.is_declared ≡ (front.is_declared && back.is_declared) → look.most ≡ min (front.most + back.most) (2 ^ 64 - 1) → look.bits ≡ min (front.bits + back.bits) (2 ^ 64 - 1)
      → AreLooked modules (modules_of (take (i + 1) lent)) look
  looked_more lent i m is lt front back look a b free declared most bits =
      let those : List Module = modules_of (take i lent) in
      let more : modules_of (take (i + 1) lent) ≡ those ++ m.now ∷ [] = map_more (λ (o : Bor Module). o.now) lent i m lt ∙ ap (λ (o : Bor Module). those ++ o.now ∷ []) (sym is) in
      subst (λ all. AreLooked modules all look) (sym more) (record {
        free = λ h. let r = both front.is_free back.is_free (sym free ∙ h) in all_join (IsFree modules) those (m.now ∷ []) (a.free r.0) (b.free r.1);
        most_is = sum_both (most_joins modules) those (m.now ∷ []) (2 ^ 64 - 1) front.most back.most look.most a.most_is b.most_is most;
        bits_is = sum_both module_bits those (m.now ∷ []) (2 ^ 64 - 1) front.bits back.bits look.bits a.bits_is b.bits_is bits;
        declared = λ h. let r = both front.is_declared back.is_declared (sym declared ∙ h) in all_join (λ m. implicit_names m ≡ []) those (m.now ∷ []) (a.declared r.0) (b.declared r.1);
      })

  -- behind the last module
  pub looked_done : (lent : List (Bor Module)) (i : ℕ) (look : Look) → length lent ≤ i → AreLooked modules (modules_of (take i lent)) look → AreLooked modules (modules_of lent) look
  looked_done lent i look le are = subst (λ those. AreLooked modules (modules_of those) look) (take_all i lent le) are

-- ---- all modules, by what they show

free_shown : (ms : List Module) (those : List Module) → AllByRecursion (IsFree (map interface ms)) those → AllByRecursion (IsFree ms) those
free_shown ms [] h = tt
free_shown ms (m ∷ those) h = (record { alone = h.0.alone; equal_widths = sym (unequal_same ms m) ∙ h.0.equal_widths; sized = sym (unsized_same ms m) ∙ h.0.sized }, free_shown ms those h.1)

pub looked_shown : (ms those : List Module) (look : Look) → AreLooked (map interface ms) those look → AreLooked ms those look
looked_shown ms those look are = record {
  free = λ h. free_shown ms those (are.free h);
  most_is = are.most_is ∙ ap (min (2 ^ 64 - 1)) (all_most_same ms those);
  bits_is = are.bits_is;
  declared = are.declared;
}

pub looks_shown : (ms below : List Module) → below ≡ map interface ms → {E : Type 0} (result : Result Look E) → IfOk result (AreLooked below ms) → IfOk result (AreLooked ms ms)
looks_shown ms below are (Ok look) h = looked_shown ms ms look (subst (λ those. AreLooked those ms look) are h)
looks_shown ms below are (Err fault) h = h
