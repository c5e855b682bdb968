-- A look-up in a set of names is a look-up in their list.
use Rattle.std.proofs.Common.{◌≡◌, ◌∙◌, ◌+◌, ◌<◌, ◌≤◌, ◌||◌, ℕ, suc, Bool, true, false, cond, not, is_some, List, [], ◌∷◌, ◌++◌, bytes_eq, length, nat_lt, option_map, None, Some, refl, sym, ap, arith, length-append, inl, inr}
use Rattle.std.proofs.lemmas.Bool.{cases_lt, le-ltb, lt-ltb}
use Rattle.std.specs.Prelude.{position}
use Rattle.std.specs.Borrow.{Bor}
use Rattle.std.specs.List.{list_any, position_or_len}
use Rattle.std.proofs.lemmas.List.{length-map}
use Rattle.vlog_design.specs.Names.{has_name}
use Rattle.vlog_design.specs.Tables.{names_of}

pub any_name : (keys : List (Bor (List ℕ))) (test : Bor (List ℕ) → Bool) (name : List ℕ) → ((k : Bor (List ℕ)) → test k ≡ bytes_eq name k.now) → list_any test keys ≡ has_name (names_of keys) name
any_name [] test name same = refl
any_name (k ∷ keys) test name same = rw (same k, any_name keys test name same) refl

place_or_len : (keys : List (Bor (List ℕ))) (test : Bor (List ℕ) → Bool) (name : List ℕ) → ((k : Bor (List ℕ)) → test k ≡ bytes_eq name k.now) → position_or_len test keys ≡ position_or_len (bytes_eq name) (names_of keys)
place_or_len [] test name same = refl
place_or_len (k ∷ keys) test name same = rw (same k, place_or_len keys test name same) refl

pub place_of_name : (keys : List (Bor (List ℕ))) (test : Bor (List ℕ) → Bool) (name : List ℕ) → ((k : Bor (List ℕ)) → test k ≡ bytes_eq name k.now) → position test keys ≡ position (bytes_eq name) (names_of keys)
place_of_name keys test name same = rw (place_or_len keys test name same, length-map) refl

module _ {X : Type 0} (p : X → Bool) where
  -- a list has an item that passes where its first place is within it
  pub any_within : (xs : List X) → nat_lt (position_or_len p xs) (length xs) ≡ list_any p xs
  any_within [] = refl
  any_within (x ∷ xs) = by (p x) (any_within xs)
    where
      by : (b : Bool) → nat_lt (position_or_len p xs) (length xs) ≡ list_any p xs → nat_lt (cond (not b) (1 + position_or_len p xs) 0) (suc (length xs)) ≡ (b || list_any p xs)
      by true rest = lt-ltb 0 (suc (length xs)) (omega arith)
      by false rest = elim (cases_lt (position_or_len p xs) (length xs)) [
        | inl h ↦ lt-ltb (1 + position_or_len p xs) (suc (length xs)) (omega arith) ∙ (sym (lt-ltb (position_or_len p xs) (length xs) h) ∙ rest)
        | inr h ↦ le-ltb (1 + position_or_len p xs) (suc (length xs)) (omega arith) ∙ (sym (le-ltb (position_or_len p xs) (length xs) h) ∙ rest)
      ]

  some_place : (n size : ℕ) → is_some (cond (nat_lt n size) (Some n) None) ≡ nat_lt n size
  some_place n size = by (nat_lt n size)
    where
      by : (b : Bool) → is_some (cond b (Some n) None) ≡ b
      by true = refl
      by false = refl

  pub any_place : (xs : List X) → is_some (position p xs) ≡ list_any p xs
  any_place xs = some_place (position_or_len p xs) (length xs) ∙ any_within xs

  -- the first place in one list before another
  first_among : (xs ys : List X) → position_or_len p xs < length xs → position_or_len p (xs ++ ys) ≡ position_or_len p xs
  first_among [] ys lt = absurd (omega (arith, lt))
  first_among (x ∷ xs) ys lt = by (p x) (first_among xs ys) lt
    where
      by : (b : Bool) → (position_or_len p xs < length xs → position_or_len p (xs ++ ys) ≡ position_or_len p xs) → cond (not b) (1 + position_or_len p xs) 0 < suc (length xs) →
          cond (not b) (1 + position_or_len p (xs ++ ys)) 0 ≡ cond (not b) (1 + position_or_len p xs) 0
      by true rest lt = refl
      by false rest lt = ap (λ n. 1 + n) (rest (omega (arith, lt)))

  first_behind : (xs ys : List X) → length xs ≤ position_or_len p xs → position_or_len p (xs ++ ys) ≡ length xs + position_or_len p ys
  first_behind [] ys le = omega arith
  first_behind (x ∷ xs) ys le = by (p x) (first_behind xs ys) le
    where
      by : (b : Bool) → (length xs ≤ position_or_len p xs → position_or_len p (xs ++ ys) ≡ length xs + position_or_len p ys) → suc (length xs) ≤ cond (not b) (1 + position_or_len p xs) 0 →
          cond (not b) (1 + position_or_len p (xs ++ ys)) 0 ≡ suc (length xs) + position_or_len p ys
      by true rest le = absurd (omega (arith, le))
      by false rest le = omega (arith, rest (omega (arith, le)))

  pub place_first : (xs ys : List X) (n : ℕ) → n ≡ position_or_len p xs → n < length xs → Some n ≡ position p (xs ++ ys)
  place_first xs ys n is lt =
      let same : position_or_len p (xs ++ ys) ≡ n = first_among xs ys (omega (arith, is, lt)) ∙ sym is in
      sym (ap (λ k. cond (nat_lt k (length (xs ++ ys))) (Some k) None) same
      ∙ ap (λ b. cond b (Some n) None) (lt-ltb n (length (xs ++ ys)) (omega (arith, lt, length-append xs ys))))

  shifted : (a n size : ℕ) → cond (nat_lt (a + n) (a + size)) (Some (a + n)) None ≡ option_map (λ k. a + k) (cond (nat_lt n size) (Some n) None)
  shifted a n size = elim (cases_lt n size) [
    | inl h ↦ ap (λ b. cond b (Some (a + n)) None) (lt-ltb (a + n) (a + size) (omega (arith, h))) ∙ sym (ap (λ b. option_map (λ k. a + k) (cond b (Some n) None)) (lt-ltb n size h))
    | inr h ↦ ap (λ b. cond b (Some (a + n)) None) (le-ltb (a + n) (a + size) (omega (arith, h))) ∙ sym (ap (λ b. option_map (λ k. a + k) (cond b (Some n) None)) (le-ltb n size h))
  ]

  pub place_behind : (xs ys : List X) → length xs ≤ position_or_len p xs → option_map (λ k. length xs + k) (position p ys) ≡ position p (xs ++ ys)
  place_behind xs ys le =
      sym (ap (λ k. cond (nat_lt k (length (xs ++ ys))) (Some k) None) (first_behind xs ys le)
      ∙ (ap (λ size. cond (nat_lt (length xs + position_or_len p ys) size) (Some (length xs + position_or_len p ys)) None) (length-append xs ys)
      ∙ shifted (length xs) (position_or_len p ys) (length ys)))

-- the number of a name that is one of the first, and of one that is none of them
pub placed_first : (few keys : List (Bor (List ℕ))) (name : List ℕ) (n : ℕ) → n ≡ position_or_len (bytes_eq name) (names_of few) → n < length few →
    Some n ≡ position (bytes_eq name) (names_of (few ++ keys))
placed_first few keys name n is lt =
    place_first (λ k. bytes_eq name k.now) few keys n (is ∙ sym (place_or_len few _ name (λ k. refl))) lt ∙ place_of_name (few ++ keys) _ name (λ k. refl)

pub placed_behind : (few keys : List (Bor (List ℕ))) (test : Bor (List ℕ) → Bool) (name : List ℕ) (n : ℕ) → ((k : Bor (List ℕ)) → test k ≡ bytes_eq name k.now) →
    n ≡ position_or_len (bytes_eq name) (names_of few) → length few ≤ n → option_map (λ k. length few + k) (position test keys) ≡ position (bytes_eq name) (names_of (few ++ keys))
placed_behind few keys test name n same is le =
    let first : n ≡ position_or_len test few = is ∙ sym (place_or_len few test name same) in
    place_behind test few keys (omega (arith, first, le)) ∙ place_of_name (few ++ keys) test name same
