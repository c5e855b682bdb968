-- Lists that agree place by place, and names that differ.
use Rattle.std.proofs.Common.{◌≡◌, inl, inr, ℕ, zero, suc, ◌+◌, ◌<◌, not, Bool, true, false, cond, List, [], ◌∷◌, ◌++◌, Some, bytes_eq, filter, length, map, slice_get, refl, sym, ap, subst, ◌∙◌, arith, Contains}
use Rattle.std.specs.List.{list_any, position_or_len}
use Rattle.std.proofs.lemmas.List.Elements.{Contains-append_cases, Contains-append_left, Contains-append_right}
use Rattle.std.proofs.lemmas.Option.{slice_get_within}
use Rattle.net_hier.specs.Valid.{HaveOwnNames}
use Rattle.net_graph.proofs.ListLaws.{element_there}
use Rattle.net_graph.proofs.OrderLaws.{StandsIn, contained}
use Rattle.vlog_design.specs.Names.{Name, clashing, has_name}
use Rattle.vlog_written.specs.OwnNames.{AreDistinct}
use Rattle.vlog_written.proofs.Contents.{image_of}
use Rattle.vlog_written.proofs.Members.{any_there, nothing_there, there_at, there_cases, there_here, there_later, there_mapped}
use Rattle.vlog_plain.proofs.Lists.{differ, same}

-- what stands at a place of the one list, stands there in the other
pub record IsMatched {B C : Type 0} (g : B → C) (ys : List B) (place : ℕ) (value : C) : Type 0 where
  pub item : B
  pub is_there : slice_get ys place ≡ Some item
  pub is_value : value ≡ g item

pub matched : {A B C : Type 0} (f : A → C) (g : B → C) (xs : List A) (ys : List B) → map f xs ≡ map g ys → (place : ℕ) (x : A) → slice_get xs place ≡ Some x → IsMatched g ys place (f x)
matched f g [] ys same place x e = absurd (cc)
matched f g (z ∷ xs) [] same place x e = absurd (cc)
matched {C = C} f g (z ∷ xs) (y ∷ ys) same zero x e =
    let h : z ≡ x = cc in
    record { item = y; is_there = refl; is_value = sym (ap f h) ∙ heads (f z) (g y) (map f xs) (map g ys) same }
  where
    heads : (a b : C) (rest more : List C) → a ∷ rest ≡ b ∷ more → a ≡ b
    heads a b rest more e = cc
matched {C = C} f g (z ∷ xs) (y ∷ ys) same (suc place) x e =
    let rest = matched f g xs ys (tails (f z) (g y) (map f xs) (map g ys) same) place x e in
    record { item = rest.item; is_there = rest.is_there; is_value = rest.is_value }
  where
    tails : (a b : C) (rest more : List C) → a ∷ rest ≡ b ∷ more → rest ≡ more
    tails a b rest more e = cc

-- what stands there in a list that is as long
pub as_long : {A B : Type 0} (xs : List A) (ys : List B) → length xs ≡ length ys → (place : ℕ) (x : A) → slice_get xs place ≡ Some x → (y : B) × (slice_get ys place ≡ Some y)
as_long xs ys long place x e = let lt : place < length xs = slice_get_within xs place x e in element_there ys place (omega (arith, lt, long))

-- items with names of their own
pub distinct_names : {A : Type 0} (name_of : A → Name) (xs : List A) → HaveOwnNames name_of xs → AreDistinct (map name_of xs)
distinct_names name_of [] own = tt
distinct_names {A} name_of (x ∷ xs) own = (fresh, distinct_names name_of xs (λ place other y z e f same. one_less place other (own (suc place) (suc other) y z e f same)))
  where
    one_less : (a b : ℕ) → suc a ≡ suc b → a ≡ b
    one_less a b e = omega (arith, e)

    not_first : (n : ℕ) → 0 ≡ suc n → ⊥
    not_first n e = omega (arith, e)

    fresh : ¬ Contains (map name_of xs) (name_of x)
    fresh m =
        let r = image_of name_of xs (name_of x) m in
        let s : StandsIn xs r.0 = contained xs r.0 r.1 in
        not_first s.place (own 0 (suc s.place) x r.0 refl s.is_there (sym r.2))

-- the place of a name among distinct ones
pub place_in : (names : List Name) (place : ℕ) (name : Name) → AreDistinct names → slice_get names place ≡ Some name → position_or_len (bytes_eq name) names ≡ place
place_in [] place name d e = absurd (cc)
place_in (other ∷ names) zero name d e =
    let h : other ≡ name = cc in
    ap (λ b. cond (not b) (1 + position_or_len (bytes_eq name) names) 0) (same name other (sym h))
place_in (other ∷ names) (suc place) name d e =
    let rest : position_or_len (bytes_eq name) names ≡ place = place_in names place name d.1 e in
    ap (λ b. cond (not b) (1 + position_or_len (bytes_eq name) names) 0) (differ name other (λ h. d.0 (subst (Contains names) h (there_at names place name e))))
    ∙ omega (arith, rest)

-- ---- names that differ

apart_before : (before : List Name) (name : Name) → list_any (bytes_eq name) before ≡ false → ¬ Contains before name
apart_before before name e m = absurd (not_both (any_there (bytes_eq name) before name m (same name name refl)) e)
  where
    not_both : {b : Bool} → b ≡ true → b ≡ false → ⊥
    not_both h k = cc

-- names without a clash differ from each other and from those before
record Differ (before names : List Name) : Type 0 where
  distinct : AreDistinct names
  apart : (name : Name) → Contains names name → ¬ Contains before name

one_first : (before : List Name) (name : Name) (names : List Name) → list_any (bytes_eq name) before ≡ false → Differ (before ++ name ∷ []) names → Differ before (name ∷ names)
one_first before name names e rest = record {
  distinct = ((λ m. rest.apart name m (Contains-append_right before (name ∷ []) name (there_here name []))), rest.distinct);
  apart = λ other m k. elim (there_cases name names other m) as (λ _. ⊥) [
    | inl h ↦ apart_before before name e (subst (Contains before) (sym h) k)
    | inr n ↦ rest.apart other n (Contains-append_left before (name ∷ []) other k)
  ];
}

none_clash : (before names : List Name) → clashing bytes_eq before names ≡ [] → Differ before names
unfolding clashing
none_clash before [] e = record { distinct = tt; apart = λ name m. absurd (nothing_there name m) }
none_clash before (name ∷ names) e = by (list_any (bytes_eq name) before) refl e (none_clash (before ++ name ∷ []) names)
  where
    by : (b : Bool) → list_any (bytes_eq name) before ≡ b → cond b (name ∷ clashing bytes_eq (before ++ name ∷ []) names) (clashing bytes_eq (before ++ name ∷ []) names) ≡ [] →
        (clashing bytes_eq (before ++ name ∷ []) names ≡ [] → Differ (before ++ name ∷ []) names) → Differ before (name ∷ names)
    by true f g rest = absurd (cc)
    by false f g rest = one_first before name names f (rest g)

own_of_distinct : {A : Type 0} (name_of : A → Name) (xs : List A) → AreDistinct (map name_of xs) → HaveOwnNames name_of xs
own_of_distinct name_of [] d place other y z e f same = absurd (cc)
own_of_distinct name_of (x ∷ xs) d zero zero y z e f same = refl
own_of_distinct name_of (x ∷ xs) d zero (suc other) y z e f same =
    let h : x ≡ y = cc in
    absurd (d.0 (subst (Contains (map name_of xs)) (sym (ap name_of h ∙ same)) (there_mapped name_of xs z (there_at xs other z f))))
own_of_distinct name_of (x ∷ xs) d (suc place) zero y z e f same =
    let h : x ≡ z = cc in
    absurd (d.0 (subst (Contains (map name_of xs)) (sym (ap name_of h ∙ sym same)) (there_mapped name_of xs y (there_at xs place y e))))
own_of_distinct name_of (x ∷ xs) d (suc place) (suc other) y z e f same = ap suc (own_of_distinct name_of xs d.1 place other y z e f same)

-- items of which no second has one name have names of their own
pub own_names : {A : Type 0} (name_of : A → Name) (xs : List A) → clashing bytes_eq [] (map name_of xs) ≡ [] → HaveOwnNames name_of xs
own_names name_of xs e = own_of_distinct name_of xs (none_clash [] (map name_of xs) e).distinct

-- names that pass no test
none_pass : (test : Name → Bool) (names : List Name) → filter test names ≡ [] → (name : Name) → Contains names name → test name ≡ false
none_pass test [] e name m = absurd (nothing_there name m)
none_pass test (first ∷ names) e name m = by (test first) refl e (λ g k. none_pass test names g name k)
  where
    by : (b : Bool) → test first ≡ b → cond b (first ∷ filter test names) (filter test names) ≡ [] → (filter test names ≡ [] → Contains names name → test name ≡ false) → test name ≡ false
    by true f g rest = absurd (cc)
    by false f g rest = elim (there_cases first names name m) as (λ _. test name ≡ false) [
      | inl h ↦ ap test (sym h) ∙ f
      | inr k ↦ rest g k
    ]

-- names of which none is among others are apart from them
pub none_shared : (names others : List Name) → filter (has_name others) names ≡ [] → (name : Name) → Contains names name → ¬ Contains others name
none_shared names others e name m = apart_before others name (none_pass (has_name others) names e name m)

-- distinct names that are apart from distinct names
pub distinct_both : (xs ys : List Name) → AreDistinct xs → AreDistinct ys → ((name : Name) → Contains xs name → ¬ Contains ys name) → AreDistinct (xs ++ ys)
distinct_both [] ys d e apart = e
distinct_both (x ∷ xs) ys d e apart = (fresh, distinct_both xs ys d.1 e (λ name m. apart name (there_later x xs name m)))
  where
    fresh : ¬ Contains (xs ++ ys) x
    fresh m = elim (Contains-append_cases xs ys x m) as (λ _. ⊥) [
      | inl k ↦ d.0 k
      | inr k ↦ apart x (there_here x xs) k
    ]

-- a new name behind distinct ones
pub distinct_more : (names : List Name) (name : Name) → AreDistinct names → ¬ Contains names name → AreDistinct (names ++ name ∷ [])
distinct_more names name d fresh =
    distinct_both names (name ∷ []) d ((λ m. nothing_there name m), tt) (λ other m k. elim (there_cases name [] other k) as (λ _. ⊥) [
      | inl h ↦ fresh (subst (Contains names) (sym h) m)
      | inr n ↦ nothing_there other n
    ])
