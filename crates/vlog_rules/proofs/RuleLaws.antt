-- The first object of a rule.
use Rattle.std.proofs.Common.{◌≡◌, ℕ, Bool, true, false, cond, List, [], ◌∷◌, ◌++◌, Option, None, Some, filter, find, is_none, map, option_map, refl}
use Rattle.nl_base.specs.declared.rule.Rule.{Rule}
use Rattle.nl_base.specs.declared.rule.Rule.TheVariants.{G4, G6, G7}
use Rattle.vlog_design.specs.Names.{Declaration, clashing, declarations, Signal, Use, module_uses, signal_named, signals}
use Rattle.vlog_design.specs.Rules.{bad_select_in, bad_selects, clash, declared_twice, first_of, refused, unknown_names}
use Rattle.vlog_values.specs.declared.module.Module.{Module}

pub first_map : {A B : Type 0} (f : A → B) (xs : List A) → first_of (map f xs) ≡ option_map f (first_of xs)
first_map f [] = refl
first_map f (x ∷ xs) = refl

first_cond : {A : Type 0} (b : Bool) (x : A) (xs : List A) (rest : Option A) → first_of xs ≡ rest → first_of (cond b (x ∷ xs) xs) ≡ cond b (Some x) rest
first_cond true x xs rest h = refl
first_cond false x xs rest h = h

pub first_filter : {A : Type 0} (p : A → Bool) (xs : List A) → first_of (filter p xs) ≡ find p xs
first_filter p [] = refl
first_filter p (x ∷ xs) = first_cond (p x) x (filter p xs) (find p xs) (first_filter p xs)

named_first : (rule : Rule) (cell : List ℕ) (o : Option Use) → option_map (refused rule cell) (option_map (λ (u : Use). u.name ∷ []) o) ≡ option_map (λ name. refused rule cell (name ∷ [])) (option_map (λ (u : Use). u.name) o)
named_first rule cell None = refl
named_first rule cell (Some u) = refl

pub unknown_first : (m : Module) (table : List Signal) (us : List Use) → table ≡ signals m → us ≡ module_uses m →
    first_of (map (refused G6 m.name) (unknown_names m)) ≡ option_map (λ name. refused G6 m.name (name ∷ [])) (option_map (λ u. u.name) (find (λ u. is_none (signal_named table u.name)) us))
unfolding unknown_names
unknown_first m table us e f = rw (e, f, first_map, first_map, first_filter) (named_first G6 m.name _)

pub bad_first : (m : Module) (table : List Signal) (us : List Use) → table ≡ signals m → us ≡ module_uses m →
    first_of (map (refused G7 m.name) (bad_selects m)) ≡ option_map (λ name. refused G7 m.name (name ∷ [])) (option_map (λ u. u.name) (find (bad_select_in table) us))
unfolding bad_selects
bad_first m table us e f = rw (e, f, first_map, first_map, first_filter) (named_first G7 m.name _)

-- the first of two lists, one after the other
pub first_there : {A : Type 0} (xs ys : List A) (x : A) → Some x ≡ first_of xs → Some x ≡ first_of (xs ++ ys)
first_there [] ys x h = cc
first_there (z ∷ xs) ys x h = h

pub first_behind : {A : Type 0} (xs ys : List A) → None ≡ first_of xs → first_of (xs ++ ys) ≡ first_of ys
first_behind [] ys h = refl
first_behind (z ∷ xs) ys h = cc

-- the first declaration that clashes

clash_named : (cell : List ℕ) (o : Option Declaration) → option_map (refused G4 cell) (option_map (λ (d : Declaration). d.name ∷ []) o) ≡ option_map (λ name. refused G4 cell (name ∷ [])) (option_map (λ (d : Declaration). d.name) o)
clash_named cell None = refl
clash_named cell (Some d) = refl

pub clash_first : (m : Module) (found : Option (List ℕ)) → found ≡ option_map (λ d. d.name) (first_of (clashing clash [] (declarations m))) →
    first_of (map (refused G4 m.name) (declared_twice m)) ≡ option_map (λ name. refused G4 m.name (name ∷ [])) found
unfolding declared_twice
clash_first m found e = rw (e, first_map, first_map) (clash_named m.name _)
