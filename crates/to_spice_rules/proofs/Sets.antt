-- Which names a set has with names more.
use Rattle.std.proofs.Common.{◌≡◌, ℕ, ◌||◌, Bool, true, false, List, [], ◌∷◌, refl, ◌∙◌, ap}
use Rattle.std.specs.List.{list_any}
use Rattle.net_bits.specs.Names.{NameSet, alike, has_name, with_name}
use Rattle.net_bits.proofs.CallerLaws.{has-with_name}
use Rattle.to_spice_rules.specs.Sets.{with_names}

-- names are told apart as before
pub case_kept : (set : NameSet) (names : List (List ℕ)) → (with_names set names).up_to_case ≡ set.up_to_case
case_kept set [] = refl
case_kept set (name ∷ names) = case_kept (with_name set name) names

three_or : (a b c : Bool) → ((a || b) || c) ≡ (b || (a || c))
three_or true true c = refl
three_or true false c = refl
three_or false true c = refl
three_or false false c = refl

or_false : (b : Bool) → b ≡ (b || false)
or_false true = refl
or_false false = refl

-- it has those that it had, and these
pub has_with_names : (set : NameSet) (names : List (List ℕ)) (other : List ℕ) → has_name (with_names set names) other ≡ (has_name set other || list_any (alike set.up_to_case other) names)
has_with_names set [] other = or_false (has_name set other)
has_with_names set (name ∷ names) other =
    has_with_names (with_name set name) names other
    ∙ (ap (λ b. b || list_any (alike set.up_to_case other) names) (has-with_name set name other)
    ∙ three_or (alike set.up_to_case other name) (has_name set other) (list_any (alike set.up_to_case other) names))
