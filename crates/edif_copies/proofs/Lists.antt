-- Lists, place by place.
use Rattle.std.proofs.Common.{arith, ◌≡◌, ℕ, zero, suc, ◌+◌, ◌<◌, ◌≤◌, Bool, true, false, cond, List, [], ◌∷◌, Some, filter, get_or, length, map, refl, sym, ap, ◌∙◌}
use Rattle.std.specs.Prelude.{slice_get}
use Rattle.edif_design.specs.Design.{counts_from}

-- two lists that show the same at each place
pub same_shown : {A B C : Type 0} (f : A → C) (g : B → C) (xs : List A) (ys : List B) → length xs ≡ length ys → ((i : ℕ) (x : A) (y : B) → slice_get xs i ≡ Some x → slice_get ys i ≡ Some y → f x ≡ g y) → map f xs ≡ map g ys
same_shown f g [] [] long same = refl
same_shown f g [] (y ∷ ys) long same = absurd (omega (arith, long))
same_shown f g (x ∷ xs) [] long same = absurd (omega (arith, long))
same_shown f g (x ∷ xs) (y ∷ ys) long same = λ j. same 0 x y refl refl j ∷ same_shown f g xs ys (omega (arith, long)) (λ i. same (suc i)) j

-- a list of one item
pub only_item : {A : Type 0} (xs : List A) (d : A) → length xs ≡ 1 → xs ≡ get_or xs 0 d ∷ []
only_item [] d one = absurd (omega (arith, one))
only_item (x ∷ []) d one = refl
only_item (x ∷ (y ∷ xs)) d one = absurd (omega (arith, one))

-- ---- which of the two constants pass a test

abbrev those : Bool → Bool → List Bool
those first second = cond first (false ∷ cond second (true ∷ []) []) (cond second (true ∷ []) [])

pub at_most_two : (test : Bool → Bool) → length (filter test (false ∷ (true ∷ []))) ≤ 2
at_most_two test = by (test false) (test true)
  where
    by : (first second : Bool) → length (those first second) ≤ 2
    by true true = omega arith
    by true false = omega arith
    by false true = omega arith
    by false false = omega arith

passes_at : (test : Bool → Bool) (first second : Bool) → test false ≡ first → test true ≡ second → (i : ℕ) (value : Bool) → slice_get (those first second) i ≡ Some value → test value ≡ true
passes_at test true second hz ho zero false e = hz
passes_at test true second hz ho zero true e = absurd cc
passes_at test true true hz ho (suc zero) true e = ho
passes_at test true true hz ho (suc zero) false e = absurd cc
passes_at test true true hz ho (suc (suc i)) value e = absurd cc
passes_at test true false hz ho (suc i) value e = absurd cc
passes_at test false true hz ho zero true e = ho
passes_at test false true hz ho zero false e = absurd cc
passes_at test false true hz ho (suc i) value e = absurd cc
passes_at test false false hz ho i value e = absurd cc

pub passed : (test : Bool → Bool) (i : ℕ) (value : Bool) → slice_get (filter test (false ∷ (true ∷ []))) i ≡ Some value → test value ≡ true
passed test = passes_at test (test false) (test true) refl refl

place_of : (first second : Bool) (i : ℕ) (value : Bool) → slice_get (those first second) i ≡ Some value → i ≡ cond value (cond first 1 0) 0
place_of true second zero false e = refl
place_of true second zero true e = absurd cc
place_of true true (suc zero) true e = refl
place_of true true (suc zero) false e = absurd cc
place_of true true (suc (suc i)) value e = absurd cc
place_of true false (suc i) value e = absurd cc
place_of false true zero true e = refl
place_of false true zero false e = absurd cc
place_of false true (suc i) value e = absurd cc
place_of false false i value e = absurd cc

-- each stands once
pub stands_once : (test : Bool → Bool) (i j : ℕ) (value : Bool) → slice_get (filter test (false ∷ (true ∷ []))) i ≡ Some value → slice_get (filter test (false ∷ (true ∷ []))) j ≡ Some value → i ≡ j
stands_once test i j value hi hj = place_of (test false) (test true) i value hi ∙ sym (place_of (test false) (test true) j value hj)

-- ---- counts

-- where all marks before a place are set, as many stand there
pub all_counted : (marks : List Bool) (count i : ℕ) → i < length marks → ((k : ℕ) → k < i → get_or marks k false ≡ true) → get_or (counts_from count marks) i 0 ≡ count + i
all_counted [] count i inside marked = absurd (omega (arith, inside))
all_counted (mark ∷ marks) count zero inside marked = (let e : count ≡ count + 0 = omega arith in e)
all_counted (mark ∷ marks) count (suc i) inside marked =
    all_counted marks (count + cond mark 1 0) i (omega (arith, inside)) (λ k h. marked (suc k) (omega (arith, h)))
    ∙ (ap (λ b. count + cond b 1 0 + i) (marked 0 (omega arith)) ∙ (let e : count + 1 + i ≡ count + suc i = omega arith in e))

-- two numbers with the same numbers below them
not_more : (a b : ℕ) → ((m : ℕ) → m < a → m < b) → a ≤ b
not_more zero b h = omega arith
not_more (suc a) b h = let l = h a (omega arith) in omega (arith, l)

pub as_many : (a b : ℕ) → ((m : ℕ) → m < a → m < b) → ((m : ℕ) → m < b → m < a) → a ≡ b
as_many a b h k = let l = not_more a b h in let m = not_more b a k in omega (arith, l, m)
