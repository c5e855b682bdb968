-- First items, lists that are empty, and names that repeat.
use Rattle.std.proofs.Common.{◌≡◌, ℕ, zero, suc, ◌+◌, ◌<◌, ◌||◌, Bool, true, false, cond, List, [], ◌∷◌, ◌++◌, None, Some, drop, take, get_or, length, map, filter, flat_map, option_map, slice_get, bytes_eq, refl, sym, ◌∙◌, ap, subst, arith}
use Rattle.std.specs.Prelude.{All}
use Rattle.std.specs.List.{list_any}
use Rattle.std.proofs.Math.Bool.{false-or}
use Rattle.std.proofs.lemmas.Bool.{false≢true, or_parts}
use Rattle.std.proofs.lemmas.List.{drop_more, map_more}
use Rattle.std.proofs.lemmas.List.Folds.{list_any-append}
use Rattle.std.proofs.lemmas.Slice.Eq.{bytes_eq-Decides}
use Rattle.net_flatten_rules.specs.Rules.{first_of, repeated}

-- ---- first items

pub first_there : {A : Type 0} (xs ys : List A) (x : A) → Some x ≡ first_of xs → Some x ≡ first_of (xs ++ ys)
first_there [] ys x e = absurd cc
first_there (z ∷ xs) ys x e = e

pub first_behind : {A : Type 0} (xs ys : List A) → None ≡ first_of xs → first_of (xs ++ ys) ≡ first_of ys
first_behind [] ys e = refl
first_behind (z ∷ xs) ys e = absurd cc

pub first_mapped : {A B : Type 0} (f : A → B) (xs : List A) → first_of (map f xs) ≡ option_map f (first_of xs)
first_mapped f [] = refl
first_mapped f (x ∷ xs) = refl

-- ---- empty lists

pub both_empty : {A : Type 0} (xs ys : List A) → xs ++ ys ≡ [] → (xs ≡ []) × (ys ≡ [])
both_empty [] ys e = (refl, e)
both_empty (x ∷ xs) ys e = absurd cc

pub map_empty : {A B : Type 0} (f : A → B) (xs : List A) → map f xs ≡ [] → xs ≡ []
map_empty f [] e = refl
map_empty f (x ∷ xs) e = absurd cc

pub each_empty : {A B : Type 0} (f : A → List B) (xs : List A) → flat_map f xs ≡ [] → (place : ℕ) (x : A) → slice_get xs place ≡ Some x → f x ≡ []
each_empty f [] e place x at = absurd cc
each_empty f (y ∷ ys) e zero x at = let same : y ≡ x = cc in subst (λ z. f z ≡ []) same (both_empty (f y) (flat_map f ys) e).0
each_empty f (y ∷ ys) e (suc place) x at = each_empty f ys (both_empty (f y) (flat_map f ys) e).1 place x at

pub none_pass : {A : Type 0} (p : A → Bool) (xs : List A) → filter p xs ≡ [] → (place : ℕ) (x : A) → slice_get xs place ≡ Some x → p x ≡ false
none_pass p [] e place x at = absurd cc
none_pass {A} p (y ∷ ys) e place x at = by (p y) refl (none_pass p ys) e place at
  where
    by : (b : Bool) → p y ≡ b → (filter p ys ≡ [] → (i : ℕ) (z : A) → slice_get ys i ≡ Some z → p z ≡ false) → cond b (y ∷ filter p ys) (filter p ys) ≡ [] → (i : ℕ) → slice_get (y ∷ ys) i ≡ Some x → p x ≡ false
    by true t rest f i there = absurd cc
    by false t rest f zero there = let same : y ≡ x = cc in subst (λ z. p z ≡ false) same t
    by false t rest f (suc i) there = rest f i x there

-- ---- names that repeat

first_if : {A : Type 0} (b : Bool) (x : A) (xs : List A) → first_of (cond b (x ∷ xs) xs) ≡ cond b (Some x) (first_of xs)
first_if true x xs = refl
first_if false x xs = refl

-- one step: a leaf before has the name of the leaf at i, or the search goes on behind it
pub repeated_left : (name : ℕ → List ℕ) (leaves : List ℕ) (i : ℕ) → i < length leaves →
    first_of (repeated (map name (take i leaves)) (map name (drop i leaves)))
    ≡ cond (list_any (bytes_eq (name (get_or leaves i 0))) (map name (take i leaves))) (Some (name (get_or leaves i 0))) (first_of (repeated (map name (take (i + 1) leaves)) (map name (drop (i + 1) leaves))))
repeated_left name leaves i lt =
    let leaf : ℕ = get_or leaves i 0 in
    let before : List (List ℕ) = map name (take i leaves) in
    let after : List (List ℕ) = map name (drop (i + 1) leaves) in
    ap (λ ls. first_of (repeated before (map name ls))) (drop_more leaves i 0 lt)
    ∙ (first_if (list_any (bytes_eq (name leaf)) before) (name leaf) (repeated (before ++ name leaf ∷ []) after)
    ∙ ap (λ ns. cond (list_any (bytes_eq (name leaf)) before) (Some (name leaf)) (first_of (repeated ns after))) (sym (map_more name leaves i 0 lt)))

-- a name is among all where it is among those of a kind that each leaf of this name is of
pub any_kept : (test : List ℕ → Bool) (name : ℕ → List ℕ) (has : ℕ → Bool) (xs : List ℕ) → All (λ x. test (name x) ≡ true → has x ≡ true) xs →
    list_any test (map name (filter has xs)) ≡ list_any test (map name xs)
any_kept test name has [] all = refl
any_kept test name has (x ∷ xs) all = by (has x) (test (name x)) refl (all 0 x (omega arith)) (any_kept test name has xs (λ k d lt. all (suc k) d (omega (arith, lt))))
  where
    by : (h t : Bool) → test (name x) ≡ t → (t ≡ true → h ≡ true) → list_any test (map name (filter has xs)) ≡ list_any test (map name xs) →
        list_any test (map name (cond h (x ∷ filter has xs) (filter has xs))) ≡ (t || list_any test (map name xs))
    by true t e f rest = λ j. e j || rest j
    by false true e f rest = absurd (false≢true (f refl))
    by false false e f rest = rest ∙ sym (false-or (list_any test (map name xs)))

-- no leaf has the name of a leaf before it, or one of these names
pub record NoneRepeated (name : ℕ → List ℕ) (before : List (List ℕ)) (leaves : List ℕ) : Type 0 where
  pub fresh : (place leaf : ℕ) → slice_get leaves place ≡ Some leaf → list_any (bytes_eq (name leaf)) before ≡ false
  pub own : (place oplace leaf oleaf : ℕ) → slice_get leaves place ≡ Some leaf → slice_get leaves oplace ≡ Some oleaf → name leaf ≡ name oleaf → place ≡ oplace

module _ (name : ℕ → List ℕ) where
  none_more : (before : List (List ℕ)) (x : ℕ) (xs : List ℕ) → list_any (bytes_eq (name x)) before ≡ false → NoneRepeated name (before ++ name x ∷ []) xs → NoneRepeated name before (x ∷ xs)
  none_more before x xs new rest = record { fresh = fresh; own = own }
    where
      parts : (place leaf : ℕ) → slice_get xs place ≡ Some leaf → (list_any (bytes_eq (name leaf)) before ≡ false) × (bytes_eq (name leaf) (name x) ≡ false)
      parts place leaf at =
          let p = or_parts (list_any (bytes_eq (name leaf)) before) (list_any (bytes_eq (name leaf)) (name x ∷ [])) (sym (list_any-append (bytes_eq (name leaf)) before (name x ∷ [])) ∙ rest.fresh place leaf at) in
          (p.0, (or_parts (bytes_eq (name leaf) (name x)) false p.1).0)

      apart : (place leaf : ℕ) → slice_get xs place ≡ Some leaf → ¬ (name leaf ≡ name x)
      apart place leaf at same = false≢true (sym (parts place leaf at).1 ∙ (bytes_eq-Decides (name leaf) (name x)).1 same)

      fresh : (place leaf : ℕ) → slice_get (x ∷ xs) place ≡ Some leaf → list_any (bytes_eq (name leaf)) before ≡ false
      fresh zero leaf at = let same : x ≡ leaf = cc in subst (λ l. list_any (bytes_eq (name l)) before ≡ false) same new
      fresh (suc place) leaf at = (parts place leaf at).0

      own : (place oplace leaf oleaf : ℕ) → slice_get (x ∷ xs) place ≡ Some leaf → slice_get (x ∷ xs) oplace ≡ Some oleaf → name leaf ≡ name oleaf → place ≡ oplace
      own zero zero leaf oleaf at oat e = refl
      own zero (suc oplace) leaf oleaf at oat e = let same : x ≡ leaf = cc in absurd (apart oplace oleaf oat (sym e ∙ ap name (sym same)))
      own (suc place) zero leaf oleaf at oat e = let same : x ≡ oleaf = cc in absurd (apart place leaf at (e ∙ ap name (sym same)))
      own (suc place) (suc oplace) leaf oleaf at oat e = ap suc (rest.own place oplace leaf oleaf at oat e)

  pub none_repeated : (before : List (List ℕ)) (leaves : List ℕ) → repeated before (map name leaves) ≡ [] → NoneRepeated name before leaves
  none_repeated before [] e = record { fresh = λ place leaf at. absurd cc; own = λ place oplace leaf oleaf at oat f. absurd cc }
  none_repeated before (x ∷ xs) e = by (list_any (bytes_eq (name x)) before) refl (none_repeated (before ++ name x ∷ []) xs) e
    where
      by : (b : Bool) → list_any (bytes_eq (name x)) before ≡ b → (repeated (before ++ name x ∷ []) (map name xs) ≡ [] → NoneRepeated name (before ++ name x ∷ []) xs) →
          cond b (name x ∷ repeated (before ++ name x ∷ []) (map name xs)) (repeated (before ++ name x ∷ []) (map name xs)) ≡ [] → NoneRepeated name before (x ∷ xs)
      by true t rest f = absurd cc
      by false t rest f = none_more before x xs t (rest f)
