-- Elements of lists.
use Rattle.std.proofs.Common.{◌≡◌, ℕ, zero, suc, ◌<◌, List, [], ◌∷◌, refl, ◌∙◌, slice_get, get_or, Some, length, arith}
use Rattle.std.specs.Prelude.{Option, None, IsSome, MatchOption}
use Rattle.std.proofs.Common.{subst}
use Rattle.std.proofs.lemmas.Option.{slice_get_read}

-- an element that is read twice is one
pub same_element : {A : Type 0} (xs : List A) (i : ℕ) (x y : A) → slice_get xs i ≡ Some x → slice_get xs i ≡ Some y → x ≡ y
same_element xs i x y e f = cc

pub element_there : {A : Type 0} (xs : List A) (i : ℕ) → i < length xs → (x : A) × (slice_get xs i ≡ Some x)
element_there [] i h = absurd (omega arith)
element_there (x ∷ xs) zero h = (x, refl)
element_there (x ∷ xs) (suc i) h = element_there xs i (omega arith)

get_or_any : {A : Type 0} (xs : List A) (i : ℕ) (d x : A) → i < length xs → get_or xs i d ≡ get_or xs i x
get_or_any [] i d x h = absurd (omega arith)
get_or_any (y ∷ xs) zero d x h = refl
get_or_any (y ∷ xs) (suc i) d x h = get_or_any xs i d x (omega arith)

-- what is read within a list stands there
pub read_there : {A : Type 0} (xs : List A) (i : ℕ) (d x : A) → i < length xs → d ≡ get_or xs i d → x ≡ d → slice_get xs i ≡ Some x
read_there xs i d x lt is same = slice_get_read xs (length xs) i x refl lt (same ∙ (is ∙ get_or_any xs i d x lt))

pub empty_list : {A : Type 0} (xs : List A) → length xs ≡ 0 → xs ≡ []
empty_list [] h = refl
empty_list (x ∷ xs) h = absurd (omega arith)

-- what is said of an option, where it is known which it is
pub said_of_none : {A : Type 0} (o : Option A) (P : Type 0) (Q : A → Type 0) → o ≡ None → MatchOption o P Q → P
said_of_none None P Q e h = h
said_of_none (Some x) P Q e h = absurd (cc)

pub said_of_some : {A : Type 0} (o : Option A) (P : Type 0) (Q : A → Type 0) (x : A) → o ≡ Some x → MatchOption o P Q → Q x
said_of_some None P Q x e h = absurd (cc)
said_of_some (Some y) P Q x e h = let f : y ≡ x = cc in subst Q f h

pub some_is : {A : Type 0} (o : Option A) (x : A) → o ≡ Some x → IsSome o
some_is None x e = absurd (cc)
some_is (Some y) x e = refl
