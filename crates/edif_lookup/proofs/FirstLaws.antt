-- The first object of the least broken rule is the lowest refusal.
use Rattle.std.proofs.Common.{◌≡◌, ℕ, zero, suc, ◌+◌, ◌<◌, ◌≤◌, ◌≢◌, Bool, true, false, cond, List, [], ◌∷◌, ◌++◌, filter, Option, Some, None, refl, sym, ap, ◌∙◌, arith, slice_get}
use Rattle.std.specs.Prelude.{◌==◌, nat_lt}
use Rattle.std.proofs.lemmas.Bool.{false≢true}
use Rattle.std.proofs.lemmas.Bool.Decides.{Decides-eqb, nat_tests}
use Rattle.nl_base.specs.declared.rule.Refusal.{Refusal}
use Rattle.nl_base.specs.declared.rule.Rule.{Rule}
use Rattle.nl_base.specs.declared.rule.Rule.TheVariants.{E1, E2, E3, E4, E5, E6, E7, E8, E9, E10, E11, E12, E13, G1, G2, G3, G4, G5, G6, G7, G8, G9, G10, G11, G12, G13, G14, G15, G16, G17, V1, V2, V3, V4, V5}
use Rattle.nl_base.specs.Rules.{rule_number}
use Rattle.edif_lookup.specs.Refusals.{first_refusal, lower, lowest}

abbrev or_else : Option Refusal → Option Refusal → Option Refusal
or_else None y = y
or_else (Some x) y = Some x

abbrev of_number : ℕ → List Refusal → List Refusal
of_number n = filter (λ r. rule_number r.rule == n)

-- the refusals of k rules from the number a on, rule by rule
abbrev by_rule : ℕ → ℕ → List Refusal → List Refusal
by_rule a zero xs = []
by_rule a (suc k) xs = of_number a xs ++ by_rule (a + 1) k xs

abbrev head : List Refusal → Option Refusal
head xs = slice_get xs 0

head-append : (xs ys : List Refusal) → head (xs ++ ys) ≡ or_else (head xs) (head ys)
head-append [] ys = refl
head-append (x ∷ xs) ys = refl

head-one : (b : Bool) (x : Refusal) (xs : List Refusal) → head (cond b (x ∷ xs) xs) ≡ cond b (Some x) (head xs)
head-one true x xs = refl
head-one false x xs = refl

own_number : (a : ℕ) (xs : List Refusal) (y : Refusal) → head (of_number a xs) ≡ Some y → rule_number y.rule ≡ a
own_number a [] y h = cc
own_number a (x ∷ xs) y h = by (rule_number x.rule == a) refl (sym (head-one (rule_number x.rule == a) x (of_number a xs)) ∙ h) (own_number a xs y)
  where
    by : (b : Bool) → (rule_number x.rule == a) ≡ b → cond b (Some x) (head (of_number a xs)) ≡ Some y → (head (of_number a xs) ≡ Some y → rule_number y.rule ≡ a) → rule_number y.rule ≡ a
    by true e g rest = let same : x ≡ y = cc in ap (λ r. rule_number r.rule) (sym same) ∙ (Decides-eqb (rule_number x.rule) a).0 e
    by false e g rest = rest g

from_number : (k a : ℕ) (xs : List Refusal) (y : Refusal) → head (by_rule a k xs) ≡ Some y → a ≤ rule_number y.rule
from_number zero a xs y h = absurd (let e : None ≡ Some y = h in cc)
from_number (suc k) a xs y h = by (head (of_number a xs)) refl (sym (head-append (of_number a xs) (by_rule (a + 1) k xs)) ∙ h) (from_number k (a + 1) xs y)
  where
    by : (o : Option Refusal) → head (of_number a xs) ≡ o → or_else o (head (by_rule (a + 1) k xs)) ≡ Some y → (head (by_rule (a + 1) k xs) ≡ Some y → a + 1 ≤ rule_number y.rule) → a ≤ rule_number y.rule
    by None e g rest = let r : a + 1 ≤ rule_number y.rule = rest g in omega arith
    by (Some z) e g rest = let r : rule_number y.rule ≡ a = own_number a xs y (e ∙ g) in omega arith

keeps_own : (x : Refusal) (o : Option Refusal) → ((y : Refusal) → o ≡ Some y → rule_number x.rule ≤ rule_number y.rule) → Some x ≡ lower (Some x) o
unfolding lower
keeps_own x None h = refl
keeps_own x (Some y) h = let r : rule_number x.rule ≤ rule_number y.rule = h y refl in by (nat_lt (rule_number y.rule) (rule_number x.rule)) (let e : nat_lt (rule_number y.rule) (rule_number x.rule) ≡ false = grind (arith, nat_tests) in e)
  where
    by : (b : Bool) → b ≡ false → Some x ≡ cond b (Some y) (Some x)
    by true e = absurd (false≢true (sym e))
    by false e = refl

takes_lower : (x y : Refusal) → rule_number y.rule < rule_number x.rule → Some y ≡ lower (Some x) (Some y)
unfolding lower
takes_lower x y h = by (nat_lt (rule_number y.rule) (rule_number x.rule)) (let e : nat_lt (rule_number y.rule) (rule_number x.rule) ≡ true = grind (arith, nat_tests) in e)
  where
    by : (b : Bool) → b ≡ true → Some y ≡ cond b (Some y) (Some x)
    by true e = refl
    by false e = absurd (false≢true e)

-- one more refusal in front
in_front : (k a : ℕ) (x : Refusal) (xs : List Refusal) → a ≤ rule_number x.rule → rule_number x.rule < a + k → head (by_rule a k (x ∷ xs)) ≡ lower (Some x) (head (by_rule a k xs))
in_front zero a x xs low high = absurd (omega arith)
in_front (suc k) a x xs low high =
    head-append (of_number a (x ∷ xs)) (by_rule (a + 1) k (x ∷ xs))
    ∙ (ap (λ o. or_else o (head (by_rule (a + 1) k (x ∷ xs)))) (head-one (rule_number x.rule == a) x (of_number a xs))
    ∙ by (rule_number x.rule == a) refl (λ l h. in_front k (a + 1) x xs l h))
  where
    later : (o : Option Refusal) → head (of_number a xs) ≡ o → rule_number x.rule ≢ a → head (by_rule (a + 1) k (x ∷ xs)) ≡ lower (Some x) (head (by_rule (a + 1) k xs)) → or_else o (head (by_rule (a + 1) k (x ∷ xs))) ≡ lower (Some x) (or_else o (head (by_rule (a + 1) k xs)))
    later None e other rest = rest
    later (Some y) e other rest = let r : rule_number y.rule ≡ a = own_number a xs y e in takes_lower x y (omega arith)

    by : (b : Bool) → (rule_number x.rule == a) ≡ b → (a + 1 ≤ rule_number x.rule → rule_number x.rule < a + 1 + k → head (by_rule (a + 1) k (x ∷ xs)) ≡ lower (Some x) (head (by_rule (a + 1) k xs)))
        → or_else (cond b (Some x) (head (of_number a xs))) (head (by_rule (a + 1) k (x ∷ xs))) ≡ lower (Some x) (head (by_rule a (suc k) xs))
    by true e rest = let same : rule_number x.rule ≡ a = (Decides-eqb (rule_number x.rule) a).0 e in keeps_own x (head (by_rule a (suc k) xs)) (λ y h. let r : a ≤ rule_number y.rule = from_number (suc k) a xs y h in omega arith)
    by false e rest =
        let other : rule_number x.rule ≢ a = λ d. false≢true (sym e ∙ (Decides-eqb (rule_number x.rule) a).1 d) in
        later (head (of_number a xs)) refl other (rest (omega (arith, other)) (omega arith)) ∙ ap (lower (Some x)) (sym (head-append (of_number a xs) (by_rule (a + 1) k xs)))

numbers_within : (rule : Rule) → rule_number rule < 35
numbers_within E1 = omega arith
numbers_within E2 = omega arith
numbers_within E3 = omega arith
numbers_within E4 = omega arith
numbers_within E5 = omega arith
numbers_within E6 = omega arith
numbers_within E7 = omega arith
numbers_within E8 = omega arith
numbers_within E9 = omega arith
numbers_within E10 = omega arith
numbers_within E11 = omega arith
numbers_within E12 = omega arith
numbers_within E13 = omega arith
numbers_within G1 = omega arith
numbers_within G2 = omega arith
numbers_within G3 = omega arith
numbers_within G4 = omega arith
numbers_within G5 = omega arith
numbers_within G6 = omega arith
numbers_within G7 = omega arith
numbers_within G8 = omega arith
numbers_within G9 = omega arith
numbers_within G10 = omega arith
numbers_within G11 = omega arith
numbers_within G12 = omega arith
numbers_within G13 = omega arith
numbers_within G14 = omega arith
numbers_within G15 = omega arith
numbers_within G16 = omega arith
numbers_within G17 = omega arith
numbers_within V1 = omega arith
numbers_within V2 = omega arith
numbers_within V3 = omega arith
numbers_within V4 = omega arith
numbers_within V5 = omega arith

first_by_rule : (xs : List Refusal) → head (by_rule 0 35 xs) ≡ lowest xs
unfolding lowest
first_by_rule [] = refl
first_by_rule (x ∷ xs) = in_front 35 0 x xs (omega arith) (numbers_within x.rule) ∙ ap (lower (Some x)) (first_by_rule xs)

-- the first object of the lowest broken rule is the lowest refusal
pub first-lowest : (xs : List Refusal) → first_refusal xs ≡ lowest xs
first-lowest xs = first_by_rule xs
