-- Lists of which each item keeps something.
use Rattle.std.proofs.Common.{arith, ◌≡◌, ℕ, zero, suc, ◌+◌, ◌<◌, List, [], ◌∷◌, ◌++◌, get_or, length, sym, subst}
use Rattle.std.specs.List.{AllByRecursion}

pub all_append : {A : Type 0} (P : A → Type 0) (xs ys : List A) → AllByRecursion P xs → AllByRecursion P ys → AllByRecursion P (xs ++ ys)
all_append P [] ys h k = k
all_append P (x ∷ xs) ys h k = (h.0, all_append P xs ys h.1 k)

pub all_push : {A : Type 0} (P : A → Type 0) (xs new : List A) (x : A) → AllByRecursion P xs → P x → new ≡ xs ++ x ∷ [] → AllByRecursion P new
all_push P xs new x h here is = subst (AllByRecursion P) (sym is) (all_append P xs (x ∷ []) h (here, tt))

pub all_at : {A : Type 0} (P : A → Type 0) (xs : List A) (i : ℕ) (x d : A) → AllByRecursion P xs → i < length xs → x ≡ get_or xs i d → P x
all_at P [] i x d h within is = absurd (omega arith)
all_at P (y ∷ ys) zero x d h within is = subst P (sym is) h.0
all_at P (y ∷ ys) (suc i) x d h within is = all_at P ys i x d h.1 (omega arith) is
