-- The first refusal of lists in a row, where each is tried when those before it are empty.
use Rattle.std.proofs.Common.{◌≡◌, List, [], ◌∷◌, ◌++◌, flat_map, Option, Some, None, Result, Ok, Err, sym, refl, ap, ◌∙◌}
use Rattle.std.specs.Prelude.{IfOk}
use Rattle.nl_base.specs.declared.rule.Refusal.{Refusal}
use Rattle.vlog_design.specs.Rules.{first_of}
use Rattle.vlog_rules.proofs.RuleLaws.{first_behind, first_there}
use Rattle.vlog_rules.specs.declared.passes.ModuleScope.{ModuleScope}
use Rattle.vlog_ties.specs.Ties.{modules_in}
use Rattle.vlog_values.specs.declared.module.Module.{Module}

-- what is found behind an empty list
pub behind : {A : Type 0} (xs ys : List A) (found : Option A) → None ≡ first_of xs → found ≡ first_of ys → found ≡ first_of (xs ++ ys)
behind xs ys found none is = is ∙ sym (first_behind xs ys none)

ok_behind : {A E : Type 0} (xs ys : List A) → None ≡ first_of xs → (result : Result (Option A) E) → IfOk result (λ found. found ≡ first_of ys) → IfOk result (λ found. found ≡ first_of (xs ++ ys))
ok_behind xs ys none (Ok found) is = behind xs ys found none is
ok_behind xs ys none (Err fault) is = is

module _ {A : Type 0} (a b : List A) (one : Option A) (e : one ≡ first_of a) where
  pub two_first : (x : A) → one ≡ Some x → Some x ≡ first_of (a ++ b)
  two_first x is = first_there a b x (sym is ∙ e)

  pub two_last : one ≡ None → {E : Type 0} (result : Result (Option A) E) → IfOk result (λ found. found ≡ first_of b) → IfOk result (λ found. found ≡ first_of (a ++ b))
  two_last none result is = ok_behind a b (sym none ∙ e) result is

  module _ (c : List A) where
    pub three_first : (x : A) → one ≡ Some x → Some x ≡ first_of (a ++ b ++ c)
    three_first x is = first_there (a ++ b) c x (two_first x is)

    pub four_first : (d : List A) (x : A) → one ≡ Some x → Some x ≡ first_of (a ++ b ++ c ++ d)
    four_first d x is = first_there (a ++ b ++ c) d x (three_first x is)

    module _ (none : one ≡ None) (two : Option A) (f : two ≡ first_of b) where
      to_two : two ≡ first_of (a ++ b)
      to_two = behind a b two (sym none ∙ e) f

      pub three_second : (x : A) → two ≡ Some x → Some x ≡ first_of (a ++ b ++ c)
      three_second x is = first_there (a ++ b) c x (sym is ∙ to_two)

      pub three_last : two ≡ None → {E : Type 0} (result : Result (Option A) E) → IfOk result (λ found. found ≡ first_of c) → IfOk result (λ found. found ≡ first_of (a ++ b ++ c))
      three_last none result is = ok_behind (a ++ b) c (sym none ∙ to_two) result is

      module _ (d : List A) where
        pub four_second : (x : A) → two ≡ Some x → Some x ≡ first_of (a ++ b ++ c ++ d)
        four_second x is = first_there (a ++ b ++ c) d x (three_second x is)

        module _ (none_two : two ≡ None) (three : Option A) (g : three ≡ first_of c) where
          to_three : three ≡ first_of (a ++ b ++ c)
          to_three = behind (a ++ b) c three (sym none_two ∙ to_two) g

          pub four_third : (x : A) → three ≡ Some x → Some x ≡ first_of (a ++ b ++ c ++ d)
          four_third x is = first_there (a ++ b ++ c) d x (sym is ∙ to_three)

          pub four_last : three ≡ None → {E : Type 0} (result : Result (Option A) E) → IfOk result (λ found. found ≡ first_of d) → IfOk result (λ found. found ≡ first_of (a ++ b ++ c ++ d))
          four_last none result is = ok_behind (a ++ b ++ c) d (sym none ∙ to_three) result is

-- a rule on modules, over scopes
pub in_scopes : (f : Module → List Refusal) (scopes : List ModuleScope) → flat_map (λ scope. f scope.module.now) scopes ≡ flat_map f (modules_in scopes)
in_scopes f [] = refl
in_scopes f (scope ∷ scopes) = ap (λ rest. f scope.module.now ++ rest) (in_scopes f scopes)
