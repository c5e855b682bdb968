-- sets to which keys are added
use Rattle.std.proofs.Common.{◌≡◌, ◌++◌, ◌||◌, Bool, true, false, cond, List, [], ◌∷◌, refl, ◌∙◌, ap}
use Rattle.std.specs.Cmp.{IsEquivalence}
use Rattle.std.specs.List.{list_any}
use Rattle.std.proofs.lemmas.List.Folds.{list_any-append}
use Rattle.std.proofs.lemmas.Map.Steps.{list_any_congr}
use Rattle.indexmap.specs.IndexSet.{insert_key}

or_again : (a b : Bool) → (a ≡ true → b ≡ true) → b ≡ (a || b)
or_again true b h = h refl
or_again false b h = refl

or_comm : (a b : Bool) → (b || (a || false)) ≡ (a || b)
or_comm true true = refl
or_comm true false = refl
or_comm false true = refl
or_comm false false = refl

-- what a set finds after a key was put in
pub any-insert_key : {K : Type 0} {eq : K → K → Bool} (laws : IsEquivalence eq) (keys new : List K) (key : K) → new ≡ insert_key eq keys key → (other : K) → list_any (eq other) new ≡ (eq other key || list_any (eq other) keys)
any-insert_key {K} {eq} laws keys new key is_new other = ap (list_any (eq other)) is_new ∙ by (list_any (eq key) keys) refl
  where
    by : (b : Bool) → list_any (eq key) keys ≡ b → list_any (eq other) (cond b keys (keys ++ key ∷ [])) ≡ (eq other key || list_any (eq other) keys)
    by true h = or_again (eq other key) (list_any (eq other) keys) (λ e. list_any_congr laws other key keys e ∙ h)
    by false h = list_any-append (eq other) keys (key ∷ []) ∙ or_comm (eq other key) (list_any (eq other) keys)
