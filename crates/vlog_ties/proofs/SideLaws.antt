-- What the rules on two sides say of one module, and of modules one after the other.
use Rattle.std.proofs.Common.{◌≡◌, ◌+◌, ◌-◌, ◌^◌, ◌<◌, ◌≤◌, ◌||◌, ℕ, false, List, [], ◌∷◌, ◌++◌, None, Some, Option, ap, append-nil, arith, find, get_or, length, map, min, option_map, refl, subst, sum_by, sym, take, ◌∙◌}
use Rattle.std.specs.Option.{option_or}
use Rattle.std.proofs.lemmas.List.{map_more, take_all}
use Rattle.std.proofs.lemmas.List.Concat.{flat_map-append}
use Rattle.std.proofs.lemmas.List.Folds.{find-append}
use Rattle.std.proofs.lemmas.List.Sums.{sum_by-append}
use Rattle.nl_base.specs.declared.rule.Refusal.{Refusal}
use Rattle.nl_base.specs.declared.rule.Rule.{Rule}
use Rattle.nl_base.specs.declared.rule.Rule.TheVariants.{G8, G13}
use Rattle.vlog_design.specs.Names.{Signal, signals}
use Rattle.vlog_design.specs.Rules.{Objects, first_of, in_modules, refused, unequal_widths, unsized}
use Rattle.vlog_rules.specs.WrongUses.{has_wrong_use}
use Rattle.vlog_rules.specs.declared.passes.ModuleScope.{ModuleScope}
use Rattle.vlog_values.specs.declared.module.Module.{Module}
use Rattle.vlog_ties.specs.Sides.{AreSides, AreTieSides, tie_refusal}
use Rattle.vlog_ties.specs.Ties.{Tied, any_pairing, broken_objects, is_broken, module_ties, modules_in, most_joins, rule_number, tied_most, tied_names, ties_from}
use Rattle.vlog_ties.specs.declared.rules.TieRule.{TieRule}
use Rattle.vlog_ties.specs.declared.rules.TieRule.TheVariants.{EqualWidths, SizedLiterals}
use Rattle.vlog_ties.specs.declared.sides.Sides.{Sides}
use Rattle.vlog_ties.proofs.Broken.{broken_first}
use Rattle.vlog_ties.proofs.MostJoins.{module_most}
use Rattle.vlog_ties.proofs.WrongLaws.{any_alone, any_both}

map_or : {A B : Type 0} (f : A → B) (one other : Option A) → option_map f (option_or one other) ≡ option_or (option_map f one) (option_map f other)
map_or f None other = refl
map_or f (Some x) other = refl

-- the first refusal of one module, by the first of its ties that breaks the rule
pub module_first : (rule : TieRule) (modules : List Module) (m : Module) (table : List Signal) (ts : List Tied) (found : Option Refusal) → table ≡ signals m → ts ≡ module_ties modules m
    → found ≡ option_map (λ t. refused (rule_number rule) m.name (tied_names t)) (find (any_pairing (is_broken rule) table) ts) → found ≡ first_of (in_modules (rule_number rule) (broken_objects rule modules) (m ∷ []))
module_first rule modules m table ts found e f is =
    is
    ∙ (sym (broken_first rule modules m table ts (find (any_pairing (is_broken rule) table) ts) e f refl)
    ∙ ap first_of (sym (append-nil (map (refused (rule_number rule) m.name) (broken_objects rule modules m)))))

module _ (m : Module) (table : List Signal) where
  refusals_joined : (rule : TieRule) (front back : List Tied) (one other both : Option Refusal) → one ≡ tie_refusal rule m table front → other ≡ tie_refusal rule m table back → both ≡ option_or one other → both ≡ tie_refusal rule m table (front ++ back)
  refusals_joined rule front back one other both e f is =
      is
      ∙ ((λ j. option_or (e j) (f j))
      ∙ sym (ap (option_map (λ t. refused (rule_number rule) m.name (tied_names t))) (find-append (any_pairing (is_broken rule) table) front back)
      ∙ map_or (λ t. refused (rule_number rule) m.name (tied_names t)) (find (any_pairing (is_broken rule) table) front) (find (any_pairing (is_broken rule) table) back)))

  bits_joined : (front back : List Tied) (limit one other both : ℕ) → one ≡ min limit (sum_by (tied_most table) front) → other ≡ min limit (sum_by (tied_most table) back) → both ≡ min (one + other) limit
      → both ≡ min limit (sum_by (tied_most table) (front ++ back))
  bits_joined front back limit one other both e f is =
      let sums : sum_by (tied_most table) (front ++ back) ≡ sum_by (tied_most table) front + sum_by (tied_most table) back = sum_by-append (tied_most table) front back in
      grind arith

  -- before the first item
  pub ties_begun : (modules : List Module) (sides : Sides) → sides.unequal ≡ None → sides.loose ≡ None → sides.most ≡ 0 → AreTieSides m table (ties_from modules 0 []) sides
  unfolding ties_from
  ties_begun modules sides unequal loose most = record { unequal_is = unequal; loose_is = loose; most_is = most }

  -- more ties
  pub ties_more : (ties more all : List Tied) → all ≡ ties ++ more → (front back both : Sides) → AreTieSides m table ties front → AreTieSides m table more back
      → both.unequal ≡ option_or front.unequal back.unequal → both.loose ≡ option_or front.loose back.loose → both.most ≡ min (front.most + back.most) (2 ^ 64 - 1) → AreTieSides m table all both
  ties_more ties more all are front back both a b unequal loose most =
      subst (λ those. AreTieSides m table those both) (sym are) (record {
        unequal_is = refusals_joined EqualWidths ties more front.unequal back.unequal both.unequal a.unequal_is b.unequal_is unequal;
        loose_is = refusals_joined SizedLiterals ties more front.loose back.loose both.loose a.loose_is b.loose_is loose;
        most_is = bits_joined ties more (2 ^ 64 - 1) front.most back.most both.most a.most_is b.most_is most;
      })

-- the sides of a module are those of its ties
pub module_sides : (modules : List Module) (m : Module) (table : List Signal) (ts : List Tied) (sides : Sides) → table ≡ signals m → ts ≡ module_ties modules m → AreTieSides m table ts sides → sides.wrong ≡ has_wrong_use m
    → AreSides modules (m ∷ []) sides
module_sides modules m table ts sides e f are wrong = record {
  unequal_is = module_first EqualWidths modules m table ts sides.unequal e f are.unequal_is;
  loose_is = module_first SizedLiterals modules m table ts sides.loose e f are.loose_is;
  most_is = module_most modules m table ts (2 ^ 64 - 1) sides.most e f are.most_is;
  wrong_is = any_alone m sides.wrong wrong;
}

first_both : {A : Type 0} (xs ys : List A) → first_of (xs ++ ys) ≡ option_or (first_of xs) (first_of ys)
first_both [] ys = refl
first_both (x ∷ xs) ys = refl

modules_first : (rule : Rule) (objects : Module → Objects) (front back : List Module) (one other both : Option Refusal) → one ≡ first_of (in_modules rule objects front) → other ≡ first_of (in_modules rule objects back)
    → both ≡ option_or one other → both ≡ first_of (in_modules rule objects (front ++ back))
modules_first rule objects front back one other both e f is =
    is
    ∙ ((λ j. option_or (e j) (f j))
    ∙ sym (ap first_of (flat_map-append (λ m. map (refused rule m.name) (objects m)) front back) ∙ first_both (in_modules rule objects front) (in_modules rule objects back)))

module _ (modules : List Module) where
  most_both : (front back : List Module) (limit one other both : ℕ) → one ≡ min limit (sum_by (most_joins modules) front) → other ≡ min limit (sum_by (most_joins modules) back) → both ≡ min (one + other) limit
      → both ≡ min limit (sum_by (most_joins modules) (front ++ back))
  most_both front back limit one other both e f is =
      let sums : sum_by (most_joins modules) (front ++ back) ≡ sum_by (most_joins modules) front + sum_by (most_joins modules) back = sum_by-append (most_joins modules) front back in
      grind arith

  module _ (scopes : List ModuleScope) where
    -- before the first module
    pub sides_begun : (sides : Sides) → sides.unequal ≡ None → sides.loose ≡ None → sides.most ≡ 0 → sides.wrong ≡ false → AreSides modules (modules_in (take 0 scopes)) sides
    sides_begun sides unequal loose most wrong = record { unequal_is = unequal; loose_is = loose; most_is = most; wrong_is = wrong }

    -- one more module
    pub sides_more : (i : ℕ) (scope : ModuleScope) → scope ≡ get_or scopes i scope → i < length scopes → (front back both : Sides) → AreSides modules (modules_in (take i scopes)) front → AreSides modules (scope.module.now ∷ []) back
        → both.unequal ≡ option_or front.unequal back.unequal → both.loose ≡ option_or front.loose back.loose → both.most ≡ min (front.most + back.most) (2 ^ 64 - 1) → both.wrong ≡ (front.wrong || back.wrong)
        → AreSides modules (modules_in (take (i + 1) scopes)) both
    sides_more i scope is lt front back both a b unequal loose most wrong =
        let those : List Module = modules_in (take i scopes) in
        let more : modules_in (take (i + 1) scopes) ≡ those ++ scope.module.now ∷ [] = map_more (λ (s : ModuleScope). s.module.now) scopes i scope lt ∙ ap (λ (s : ModuleScope). those ++ s.module.now ∷ []) (sym is) in
        subst (λ all. AreSides modules all both) (sym more) (record {
          unequal_is = modules_first G8 (unequal_widths modules) those (scope.module.now ∷ []) front.unequal back.unequal both.unequal a.unequal_is b.unequal_is unequal;
          loose_is = modules_first G13 (unsized modules) those (scope.module.now ∷ []) front.loose back.loose both.loose a.loose_is b.loose_is loose;
          most_is = most_both those (scope.module.now ∷ []) (2 ^ 64 - 1) front.most back.most both.most a.most_is b.most_is most;
          wrong_is = any_both has_wrong_use those (scope.module.now ∷ []) front.wrong back.wrong both.wrong a.wrong_is b.wrong_is wrong;
        })

    -- behind the last module
    pub sides_done : (i : ℕ) (sides : Sides) → length scopes ≤ i → AreSides modules (modules_in (take i scopes)) sides → AreSides modules (modules_in scopes) sides
    sides_done i sides le are = subst (λ those. AreSides modules (modules_in those) sides) (take_all i scopes le) are
