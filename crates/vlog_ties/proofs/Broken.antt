-- The first tie that breaks a rule is the first object that breaks it.
use Rattle.std.proofs.Common.{◌≡◌, ℕ, zero, suc, ◌+◌, ◌<◌, ◌||◌, min, nat_eq, Bool, true, false, cond, List, [], ◌∷◌, ◌++◌, Option, None, Some, drop, filter, find, flat_map, get_or, length, map, option_map, refl, sym, ap, subst, ◌∙◌, arith, inl, inr}
use Rattle.std.specs.List.{AllByRecursion, list_any}
use Rattle.std.proofs.lemmas.Bool.{cases_lt}
use Rattle.std.proofs.lemmas.Bool.Decides.{nat_tests}
use Rattle.std.proofs.lemmas.List.{map-append}
use Rattle.vlog_design.specs.Design.{Pairing, pairing_of_assign, pairings}
use Rattle.vlog_design.specs.Names.{Name, Signal, Use, signals, uses}
use Rattle.vlog_design.specs.Rules.{first_of, refused, unequal_widths, unsized}
use Rattle.vlog_design.proofs.Steps.{flat_map_left}
use Rattle.vlog_rules.proofs.RuleLaws.{first_map}
use Rattle.vlog_rules.specs.declared.passes.ModuleScope.{ModuleScope}
use Rattle.vlog_values.specs.declared.expression.Expr.{Expr}
use Rattle.vlog_values.specs.declared.module.Module.{Module}
use Rattle.nl_base.specs.declared.rule.Rule.{Rule}
use Rattle.vlog_ties.specs.Ties.{Tied, Pin, Assign, Supply, broken_objects, is_broken, any_pairing, is_unequal, is_unsized, module_ties, modules_in, pairing_of_pin, rule_number, tied_names, tied_pairings}
use Rattle.vlog_ties.specs.declared.rules.TieRule.{TieRule}
use Rattle.vlog_ties.specs.declared.rules.TieRule.TheVariants.{EqualWidths, SizedLiterals}
use Rattle.vlog_ties.proofs.ModuleLaws.{module_paired}

-- the first pairing of which a condition holds is that of the first tie of which it holds
pairing_first : (condition : Pairing → Bool) (names : List Signal) (ts : List Tied) →
    first_of (map (λ (p : Pairing). p.names) (filter condition (flat_map (tied_pairings names) ts))) ≡ option_map tied_names (find (any_pairing condition names) ts)
pairing_first condition names [] = refl
pairing_first condition names (Pin instance number port port_number size value ∷ ts) = by (any_pairing condition names (Pin instance number port port_number size value)) (pairing_first condition names ts)
  where
    rest : List Pairing
    rest = filter condition (flat_map (tied_pairings names) ts)

    by : (b : Bool) → first_of (map (λ (p : Pairing). p.names) rest) ≡ option_map tied_names (find (any_pairing condition names) ts)
        → first_of (map (λ (p : Pairing). p.names) (cond b (pairing_of_pin names instance number port port_number size value ∷ rest) rest))
        ≡ option_map tied_names (cond b (Some (Pin instance number port port_number size value)) (find (any_pairing condition names) ts))
    by true h = refl
    by false h = h
pairing_first condition names (Assign left right ∷ ts) = by (any_pairing condition names (Assign left right)) (pairing_first condition names ts)
  where
    rest : List Pairing
    rest = filter condition (flat_map (tied_pairings names) ts)

    by : (b : Bool) → first_of (map (λ (p : Pairing). p.names) rest) ≡ option_map tied_names (find (any_pairing condition names) ts)
        → first_of (map (λ (p : Pairing). p.names) (cond b (pairing_of_assign names left right ∷ rest) rest))
        ≡ option_map tied_names (cond b (Some (Assign left right)) (find (any_pairing condition names) ts))
    by true h = refl
    by false h = h
pairing_first condition names (Supply name constant ∷ ts) = pairing_first condition names ts

of_module : (condition : Pairing → Bool) (modules : List Module) (m : Module) →
    first_of (map (λ (p : Pairing). p.names) (filter condition (pairings modules m))) ≡ option_map tied_names (find (any_pairing condition (signals m)) (module_ties modules m))
of_module condition modules m = ap (λ ps. first_of (map (λ (p : Pairing). p.names) (filter condition ps))) (sym (module_paired modules m)) ∙ pairing_first condition (signals m) (module_ties modules m)

pub objects_first : (rule : TieRule) (modules : List Module) (m : Module) →
    first_of (broken_objects rule modules m) ≡ option_map tied_names (find (any_pairing (is_broken rule) (signals m)) (module_ties modules m))
unfolding unequal_widths unsized
objects_first EqualWidths modules m = of_module is_unequal modules m
objects_first SizedLiterals modules m = of_module is_unsized modules m

twice : (number : Rule) (cell : Name) (o : Option Tied) → option_map (refused number cell) (option_map tied_names o) ≡ option_map (λ t. refused number cell (tied_names t)) o
twice number cell None = refl
twice number cell (Some t) = refl

-- the first object of a module that breaks the rule, by the first tie that was found
pub broken_first : (rule : TieRule) (modules : List Module) (m : Module) (table : List Signal) (ts : List Tied) (found : Option Tied) → table ≡ signals m → ts ≡ module_ties modules m → found ≡ find (any_pairing (is_broken rule) table) ts →
    first_of (map (refused (rule_number rule) m.name) (broken_objects rule modules m)) ≡ option_map (λ t. refused (rule_number rule) m.name (tied_names t)) found
broken_first rule modules m table ts found e f g =
    first_map (refused (rule_number rule) m.name) (broken_objects rule modules m)
    ∙ (ap (option_map (refused (rule_number rule) m.name)) (objects_first rule modules m)
    ∙ (twice (rule_number rule) m.name (find (any_pairing (is_broken rule) (signals m)) (module_ties modules m))
    ∙ ap (option_map (λ t. refused (rule_number rule) m.name (tied_names t))) (ap (λ names. find (any_pairing (is_broken rule) names) (module_ties modules m)) (sym e) ∙ (ap (find (any_pairing (is_broken rule) table)) (sym f) ∙ sym g))))

-- what holds of all modules holds of that of a scope
pub of_scope : (P : Module → Type 0) (scopes : List ModuleScope) (i : ℕ) (scope : ModuleScope) → scope ≡ get_or scopes i scope → i < length scopes → AllByRecursion P (modules_in scopes) → P scope.module.now
of_scope P [] i scope is h all = absurd (omega (arith, h))
of_scope P (s ∷ ss) zero scope is h all = subst (λ (x : ModuleScope). P x.module.now) (sym is) all.0
of_scope P (s ∷ ss) (suc i) scope is h all = of_scope P ss i scope is (omega (arith, h)) all.1

-- widths that stop at a limit

equal_capped : (a b : ℕ) → a < 18446744073709551615 → nat_eq a (min 18446744073709551615 b) ≡ nat_eq a b
equal_capped a b h = elim (cases_lt 18446744073709551615 b) [
  | inl lt ↦ let e : min 18446744073709551615 b ≡ 18446744073709551615 = omega arith in ap (nat_eq a) e ∙ (grind (arith, nat_tests))
  | inr le ↦ let e : min 18446744073709551615 b ≡ b = omega arith in ap (nat_eq a) e
]

-- names in expressions

abbrev pub names_in : List Expr → List Name
names_in parts = map (λ (u : Use). u.name) (flat_map uses parts)

pub names_left : (parts : List Expr) (i : ℕ) (part : Expr) → part ≡ get_or parts i part → i < length parts → names_in (drop i parts) ≡ map (λ (u : Use). u.name) (uses part) ++ names_in (drop (i + 1) parts)
names_left parts i part is h =
    ap (map (λ (u : Use). u.name)) (flat_map_left uses parts i part h)
    ∙ (map-append (λ (u : Use). u.name) (uses (get_or parts i part)) (flat_map uses (drop (i + 1) parts))
    ∙ ap (λ x. map (λ (u : Use). u.name) (uses x) ++ names_in (drop (i + 1) parts)) (sym is))

pub any_map : {A : Type 0} (f : A → Bool) (xs : List A) → list_any (λ b. b) (map f xs) ≡ list_any f xs
any_map f [] = refl
any_map f (x ∷ xs) = ap (λ b. f x || b) (any_map f xs)
