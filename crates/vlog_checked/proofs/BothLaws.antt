-- The refusals of rules that are tried on each module together: where there are none, no rule has one.
use Rattle.std.proofs.Common.{◌≡◌, List, [], ◌∷◌, ◌++◌, flat_map, Option, Some, None, false, is_some, refl}
use Rattle.nl_base.specs.declared.rule.Refusal.{Refusal}
use Rattle.vlog_design.specs.Rules.{first_of}
use Rattle.vlog_values.specs.declared.module.Module.{Module}

pub first_empty : {A : Type 0} (xs : List A) → first_of xs ≡ None → xs ≡ []
first_empty [] none = refl
first_empty (x ∷ xs) none = cc

left_nil : {A : Type 0} (xs ys : List A) → xs ++ ys ≡ [] → xs ≡ []
left_nil [] ys none = refl
left_nil (x ∷ xs) ys none = cc

right_nil : {A : Type 0} (xs ys : List A) → xs ++ ys ≡ [] → ys ≡ []
right_nil [] ys none = none
right_nil (x ∷ xs) ys none = cc

pub none_of_both : (f g : Module → List Refusal) (modules : List Module) → flat_map (λ m. f m ++ g m) modules ≡ [] → (flat_map f modules ≡ []) × (flat_map g modules ≡ [])
none_of_both f g [] none = (refl, refl)
none_of_both f g (m ∷ modules) none =
    let both = f m ++ g m in
    let others = flat_map (λ n. f n ++ g n) modules in
    let here : both ≡ [] = left_nil both others none in
    let rest : (flat_map f modules ≡ []) × (flat_map g modules ≡ []) = none_of_both f g modules (right_nil both others none) in
    ((λ j. left_nil (f m) (g m) here j ++ rest.0 j), (λ j. right_nil (f m) (g m) here j ++ rest.1 j))

pub none_of_three : (f g h : Module → List Refusal) (modules : List Module) → flat_map (λ m. f m ++ (g m ++ h m)) modules ≡ [] →
    (flat_map f modules ≡ []) × (flat_map g modules ≡ []) × (flat_map h modules ≡ [])
none_of_three f g h modules none =
    let first : (flat_map f modules ≡ []) × (flat_map (λ m. g m ++ h m) modules ≡ []) = none_of_both f (λ m. g m ++ h m) modules none in
    let rest : (flat_map g modules ≡ []) × (flat_map h modules ≡ []) = none_of_both g h modules first.1 in
    (first.0, rest.0, rest.1)

pub none_told : {A : Type 0} (found : Option A) → is_some found ≡ false → found ≡ None
none_told None told = refl
none_told (Some x) told = cc
