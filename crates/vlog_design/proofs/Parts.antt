-- What holds of the results of all parts holds of those of one part.
use Rattle.std.proofs.Common.{◌≡◌, ℕ, zero, suc, ◌+◌, ◌<◌, List, [], ◌∷◌, ◌++◌, All, flat_map, get_or, length, arith, subst, length-append, Some, find, bytes_eq, Bool, true, false, cond, option_map}
use Rattle.std.proofs.lemmas.List.{get_or_append_left, get_or-append-add}
use Rattle.vlog_design.specs.Names.{Signal, signal_named}
use Rattle.vlog_design.specs.declared.signals.Slot.{Slot}

pub all_left : {A : Type 0} (P : A → Type 0) (xs ys : List A) → All P (xs ++ ys) → All P xs
all_left P xs ys h = λ k d lt. subst P (get_or_append_left xs ys d k lt) (h k d (omega (arith, length-append xs ys)))

pub all_right : {A : Type 0} (P : A → Type 0) (xs ys : List A) → All P (xs ++ ys) → All P ys
all_right P xs ys h = λ k d lt. subst P (get_or-append-add xs ys k d) (h (length xs + k) d (omega (arith, length-append xs ys)))

pub all_of_part : {A B : Type 0} (P : B → Type 0) (f : A → List B) (xs : List A) (i : ℕ) (d : A) → i < length xs → All P (flat_map f xs) → All P (f (get_or xs i d))
all_of_part P f [] i d lt h = absurd (omega arith)
all_of_part P f (x ∷ xs) zero d lt h = all_left P (f x) (flat_map f xs) h
all_of_part P f (x ∷ xs) (suc i) d lt h = all_of_part P f xs i d (omega arith) (all_right P (f x) (flat_map f xs) h)

-- what holds of all signals holds of the one that is found
pub all_found : (P : Slot → Type 0) (signals : List Signal) (name : List ℕ) (slot : Slot) → All (λ (s : Signal). P s.slot) signals → signal_named signals name ≡ Some slot → P slot
unfolding signal_named
all_found P [] name slot all e = cc
all_found P (s ∷ rest) name slot all e =
    by (bytes_eq name s.name) (all_found P rest name slot (all_right (λ (s : Signal). P s.slot) (s ∷ []) rest all)) e
  where
    by : (b : Bool) → (option_map (λ (s : Signal). s.slot) (find (λ (s : Signal). bytes_eq name s.name) rest) ≡ Some slot → P slot) →
        option_map (λ (s : Signal). s.slot) (cond b (Some s) (find (λ (s : Signal). bytes_eq name s.name) rest)) ≡ Some slot → P slot
    by true next e = let f : s.slot ≡ slot = cc in subst P f (all 0 s (omega arith))
    by false next e = next e
