-- Lists of refusals: what objects break, in file order, and the first refusal of the lowest rule.
use Rattle.std.specs.Prelude.{ℕ, ◌==◌, Bool, true, false, cond, List, [], ◌∷◌, ◌++◌, slice_get, Option, Some, None, nat_lt}
use Rattle.std.specs.List.{filter, flat_map, list_any}
use Rattle.nl_base.specs.Case.{same_bytes}
use Rattle.nl_base.specs.Rules.{rule_number}
use Rattle.nl_base.specs.declared.rule.Refusal.{Refusal}
use Rattle.nl_base.specs.declared.rule.Rule.{Rule}
use Rattle.nl_base.specs.declared.rule.Rule.TheVariants.{E1, E2, E3, E4, E5, E6, E7, E8, E9, E10, E11, E12, E13, G1, G2, G3, G4, G5, G6, G7, G8, G9, G10, G11, G12, G13, G14, G15, G16, G17, V1, V2, V3, V4, V5}

-- what f gives of each item and of those before it, one list after another, where these stand before the first
abbrev pub each_after : {A B : Type 0} → (List A → A → List B) → List A → List A → List B
each_after f before [] = []
each_after f before (item ∷ rest) = f before item ++ each_after f (before ++ item ∷ []) rest

-- what f gives of each item and of those before it, one list after another
abbrev pub in_order : {A B : Type 0} → (List A → A → List B) → List A → List B
in_order f = each_after f []

-- the refusal of this rule, where it is broken
abbrev pub broken : Bool → Rule → List ℕ → List (List ℕ) → List Refusal
broken true rule cell names = record { rule = rule; cell = cell; names = names } ∷ []
broken false rule cell names = []

-- what a reference with these candidates breaks: the rule, where it means nothing, and E6, where it may mean several
abbrev pub broken_reference : {X : Type 0} → List X → Rule → List ℕ → List (List ℕ) → List ℕ → List Refusal
broken_reference [] rule cell names spelling = broken true rule cell names
broken_reference (one ∷ []) rule cell names spelling = []
broken_reference (one ∷ (two ∷ rest)) rule cell names spelling = broken true E6 cell (spelling ∷ [])

-- what a thing breaks, where there is one
abbrev pub if_some : {X : Type 0} → Option X → (X → List Refusal) → List Refusal
if_some None f = []
if_some (Some x) f = f x

-- whether a name is among some names, byte for byte
abbrev pub is_in : List ℕ → List (List ℕ) → Bool
is_in name = list_any (same_bytes name)

-- all rules, from the lowest
abbrev pub all_rules : List Rule
all_rules =
    E1 ∷ (E2 ∷ (E3 ∷ (E4 ∷ (E5 ∷ (E6 ∷ (E7 ∷ (E8 ∷ (E9 ∷ (E10 ∷ (E11 ∷ (E12 ∷ (E13
    ∷ (G1 ∷ (G2 ∷ (G3 ∷ (G4 ∷ (G5 ∷ (G6 ∷ (G7 ∷ (G8 ∷ (G9 ∷ (G10 ∷ (G11 ∷ (G12 ∷ (G13 ∷ (G14 ∷ (G15 ∷ (G16 ∷ (G17
    ∷ (V1 ∷ (V2 ∷ (V3 ∷ (V4 ∷ (V5 ∷ []))))))))))))))))))))))))))))))))))

-- the objects that break one rule, in file order
abbrev pub breaking : Rule → List Refusal → List Refusal
breaking rule = filter (λ refusal. rule_number refusal.rule == rule_number rule)

-- the first object that breaks the lowest broken rule
abbrev pub first_refusal : List Refusal → Option Refusal
first_refusal refusals = slice_get (flat_map (λ rule. breaking rule refusals) all_rules) 0

-- of two answers the one of the lower rule, and the first of two of one rule
unfoldable pub lower : Option Refusal → Option Refusal → Option Refusal
lower None other = other
lower (Some refusal) None = Some refusal
lower (Some refusal) (Some other) = cond (nat_lt (rule_number other.rule) (rule_number refusal.rule)) (Some other) (Some refusal)

-- the same as `first_refusal`, one refusal after the other: this is how a walk of a file finds it
unfoldable pub lowest : List Refusal → Option Refusal
lowest [] = None
lowest (refusal ∷ rest) = lower (Some refusal) (lowest rest)
