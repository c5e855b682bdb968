-- What holds of each item of lists that are made of others.
use Rattle.std.proofs.Common.{◌≡◌, ℕ, zero, suc, List, [], ◌∷◌, ◌++◌, Option, Some, None, IfSome, map, refl, subst, slice_get}
use Rattle.std.specs.Prelude.{slice_index_or}
use Rattle.std.specs.List.{AllByRecursion}
use Rattle.std.specs.Option.{option_and_then}
use Rattle.net_hier.specs.Valid.{Each}
use Rattle.edif_design_laws.proofs.Lists.{at_place}

-- each item that is made is such
pub all_made : {A B : Type 0} (Q : B → Type 0) (f : A → B) → ((x : A) → Q (f x)) → (xs : List A) → AllByRecursion Q (map f xs)
all_made Q f good [] = tt
all_made Q f good (x ∷ xs) = (good x, all_made Q f good xs)

-- the item at a place is such, where that which stands for none is
pub at_or : {A : Type 0} (P : A → Type 0) (xs : List A) (i : ℕ) (none : A) → P none → AllByRecursion P xs → P (slice_index_or xs i none)
at_or P [] i none d h = d
at_or P (x ∷ xs) zero none d h = h.0
at_or P (x ∷ xs) (suc i) none d h = at_or P xs i none d h.1

-- the item that stands at a place is such
pub item_at : {A : Type 0} (P : A → Type 0) (xs : List A) (i : ℕ) (x : A) → AllByRecursion P xs → slice_get xs i ≡ Some x → P x
item_at P xs i x h there = subst (λ o. IfSome o P) there (at_place P xs i h)

-- what is made of an item that there may be
pub then_good : {A B : Type 0} (Q : B → Type 0) (f : A → Option B) → ((x : A) → IfSome (f x) Q) → (o : Option A) → IfSome (option_and_then f o) Q
then_good Q f good None = tt
then_good Q f good (Some x) = good x

pub then_such : {A B : Type 0} (P : A → Type 0) (Q : B → Type 0) (f : A → Option B) → ((x : A) → P x → IfSome (f x) Q) → (o : Option A) → IfSome o P → IfSome (option_and_then f o) Q
then_such P Q f good None h = tt
then_such P Q f good (Some x) h = good x h

-- what follows of an item of which both facts hold
pub all_with : {A : Type 0} (P R Q : A → Type 0) → ((x : A) → P x → R x → Q x) → (xs : List A) → AllByRecursion P xs → Each R xs → AllByRecursion Q xs
all_with P R Q both [] h k = tt
all_with P R Q both (x ∷ xs) h k = (both x h.0 (k 0 x refl), all_with P R Q both xs h.1 (λ place item there. k (suc place) item there))

-- the front of a list
pub all_front : {A : Type 0} (P : A → Type 0) (xs ys : List A) → AllByRecursion P (xs ++ ys) → AllByRecursion P xs
all_front P [] ys h = tt
all_front P (x ∷ xs) ys h = (h.0, all_front P xs ys h.1)
