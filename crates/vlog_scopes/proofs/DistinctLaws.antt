-- Names that differ.
use Rattle.std.proofs.Common.{◌≡◌, ℕ, ◌+◌, ◌<◌, if◌then◌else◌, drop, get_or, length, append_assoc, Bool, true, false, not, ◌||◌, cond, List, [], ◌∷◌, ◌++◌, filter, flat_map, map, bytes_eq, refl, sym, ap, ◌∙◌, inl, inr, append-nil, subst}
use Rattle.std.specs.List.{list_any}
use Rattle.std.proofs.lemmas.Bool.{or_parts, or_from, or_cases, or_left, or_right, both_ways, false_from_ne_true, false≢true, not_from_true, true_from_ne_false}
use Rattle.std.proofs.lemmas.List.{drop_more, get_or_default, map-append, map-id}
use Rattle.std.proofs.lemmas.List.Concat.{flat_map-append}
use Rattle.std.proofs.lemmas.List.Folds.{list_any-append}
use Rattle.std.proofs.lemmas.Slice.Eq.{bytes_eq-Decides}
use Rattle.vlog_design.specs.Names.{Name, clashing, first_places, has_name}
use Rattle.vlog_scopes.specs.Distinct.{Distinct}

pub same_name : (name : Name) → bytes_eq name name ≡ true
same_name name = (bytes_eq-Decides name name).1 refl

pub other_way : (x y : Name) → bytes_eq x y ≡ false → bytes_eq y x ≡ false
other_way x y h = false_from_ne_true (bytes_eq y x) (λ e. both_ways (bytes_eq x y) h ((bytes_eq-Decides x y).1 (sym ((bytes_eq-Decides y x).0 e))))

pub has_append : (xs ys : List Name) (name : Name) → has_name (xs ++ ys) name ≡ (has_name xs name || has_name ys name)
has_append xs ys name = list_any-append (bytes_eq name) xs ys

has_filter : (p : Name → Bool) (xs : List Name) (name : Name) → has_name xs name ≡ false → has_name (filter p xs) name ≡ false
has_filter p [] name h = refl
has_filter p (x ∷ xs) name h = let parts = or_parts (bytes_eq name x) (has_name xs name) h in by (p x) parts.0 (has_filter p xs name parts.1)
  where
    by : (b : Bool) → bytes_eq name x ≡ false → has_name (filter p xs) name ≡ false → has_name (cond b (x ∷ filter p xs) (filter p xs)) name ≡ false
    by true e rest = or_from (bytes_eq name x) (has_name (filter p xs) name) e rest
    by false e rest = rest

-- a name among those that pass a test passes it, and is one of all
pub has_passed : (p : Name → Bool) (xs : List Name) (name : Name) → has_name (filter p xs) name ≡ true → p name ≡ true
has_passed p [] name h = absurd (false≢true h)
has_passed p (x ∷ xs) name h = by (p x) refl (has_passed p xs name) h
  where
    by : (b : Bool) → p x ≡ b → (has_name (filter p xs) name ≡ true → p name ≡ true) → has_name (cond b (x ∷ filter p xs) (filter p xs)) name ≡ true → p name ≡ true
    by true e next g = elim (or_cases (bytes_eq name x) (has_name (filter p xs) name) g) [ inl f ↦ ap p ((bytes_eq-Decides name x).0 f) ∙ e | inr f ↦ next f ]
    by false e next g = next g

pub has_all : (p : Name → Bool) (xs : List Name) (name : Name) → has_name (filter p xs) name ≡ true → has_name xs name ≡ true
has_all p xs name h = true_from_ne_false (has_name xs name) (λ e. both_ways (has_name (filter p xs) name) (has_filter p xs name e) h)

pub distinct_filter : (p : Name → Bool) (xs : List Name) → Distinct xs → Distinct (filter p xs)
distinct_filter p [] h = tt
distinct_filter p (x ∷ xs) h = by (p x) (has_filter p xs x h.0) (distinct_filter p xs h.1)
  where
    by : (b : Bool) → has_name (filter p xs) x ≡ false → Distinct (filter p xs) → Distinct (cond b (x ∷ filter p xs) (filter p xs))
    by true e rest = (e, rest)
    by false e rest = rest

pub distinct_append : (xs ys : List Name) → Distinct xs → Distinct ys → ((name : Name) → has_name xs name ≡ true → has_name ys name ≡ false) → Distinct (xs ++ ys)
distinct_append [] ys h k apart = k
distinct_append (x ∷ xs) ys h k apart = (
  (has_append xs ys x ∙ or_from (has_name xs x) (has_name ys x) h.0 (apart x (or_left (bytes_eq x x) (has_name xs x) (same_name x)))),
  distinct_append xs ys h.1 k (λ name e. apart name (or_right (bytes_eq name x) (has_name xs name) e)),
)

-- a name that stands behind others is none of them
pub not_before : (xs : List Name) (x : Name) (ys : List Name) → Distinct (xs ++ x ∷ ys) → has_name xs x ≡ false
not_before [] x ys h = refl
not_before (z ∷ zs) x ys h =
    let apart = or_parts (has_name zs z) (has_name (x ∷ ys) z) (sym (has_append zs (x ∷ ys) z) ∙ h.0) in
    or_from (bytes_eq x z) (has_name zs x) (other_way z x ((or_parts (bytes_eq z x) (has_name ys z) apart.1).0)) (not_before zs x ys h.1)

pub has_first : (xs : List Name) (name : Name) → has_name (first_places xs) name ≡ true → has_name xs name ≡ true
unfolding first_places
has_first [] name h = h
has_first (x ∷ xs) name h =
    elim (or_cases (bytes_eq name x) (has_name (filter (λ other. not (bytes_eq x other)) (first_places xs)) name) h) [
      | inl e ↦ or_left (bytes_eq name x) (has_name xs name) e
      | inr e ↦ or_right (bytes_eq name x) (has_name xs name) (has_first xs name (has_all (λ other. not (bytes_eq x other)) (first_places xs) name e))
    ]

pub distinct_first : (xs : List Name) → Distinct (first_places xs)
unfolding first_places
distinct_first [] = tt
distinct_first (x ∷ xs) = (
  false_from_ne_true (has_name (filter (λ other. not (bytes_eq x other)) (first_places xs)) x)
      (λ e. both_ways (not (bytes_eq x x)) (not_from_true (bytes_eq x x) (same_name x)) (has_passed (λ other. not (bytes_eq x other)) (first_places xs) x e)),
  distinct_filter (λ other. not (bytes_eq x other)) (first_places xs) (distinct_first xs),
)

-- where nothing clashes, the names of the parts differ, if two parts that share a name clash
module _ {A : Type 0} (clash : A → A → Bool) (part : A → List Name) (alone : (x : A) → Distinct (part x))
    (meets : (x y : A) (name : Name) → has_name (part x) name ≡ true → has_name (part y) name ≡ true → clash x y ≡ true) where
  pub record IsApart (before xs : List A) : Type 0 where
    pub distinct : Distinct (flat_map part xs)
    pub apart : (name : Name) → has_name (flat_map part xs) name ≡ true → has_name (flat_map part before) name ≡ false

  not_among : (x : A) (before : List A) (name : Name) → list_any (clash x) before ≡ false → has_name (part x) name ≡ true → has_name (flat_map part before) name ≡ false
  not_among x [] name h e = refl
  not_among x (y ∷ ys) name h e =
      let parts = or_parts (clash x y) (list_any (clash x) ys) h in
      has_append (part y) (flat_map part ys) name
      ∙ or_from (has_name (part y) name) (has_name (flat_map part ys) name)
      (false_from_ne_true (has_name (part y) name) (λ f. both_ways (clash x y) parts.0 (meets x y name e f)))
      (not_among x ys name parts.1 e)

  has_more : (before : List A) (x : A) (name : Name) → has_name (flat_map part (before ++ x ∷ [])) name ≡ (has_name (flat_map part before) name || has_name (part x) name)
  has_more before x name =
      ap (λ names. has_name names name) (flat_map-append part before (x ∷ []))
      ∙ (has_append (flat_map part before) (part x ++ []) name
      ∙ ap (λ names. has_name (flat_map part before) name || has_name names name) (append-nil (part x)))

  pub kept_apart : (before xs : List A) → clashing clash before xs ≡ [] → IsApart before xs
  unfolding clashing
  kept_apart before [] h = record { distinct = tt; apart = λ name e. absurd (false≢true e) }
  kept_apart before (x ∷ xs) h = by (list_any (clash x) before) refl (kept_apart (before ++ x ∷ []) xs) h
    where
      by : (b : Bool) → list_any (clash x) before ≡ b → (clashing clash (before ++ x ∷ []) xs ≡ [] → IsApart (before ++ x ∷ []) xs) → cond b (x ∷ clashing clash (before ++ x ∷ []) xs) (clashing clash (before ++ x ∷ []) xs) ≡ [] → IsApart before (x ∷ xs)
      by true e next g = absurd cc
      by false e next g =
          let rest = next g in
          record {
            distinct = distinct_append (part x) (flat_map part xs) (alone x) rest.distinct
                (λ name here. false_from_ne_true (has_name (flat_map part xs) name)
                (λ there. both_ways (has_name (flat_map part (before ++ x ∷ [])) name) (rest.apart name there)
                (has_more before x name ∙ or_right (has_name (flat_map part before) name) (has_name (part x) name) here)));
            apart = λ name here.
                elim (or_cases (has_name (part x) name) (has_name (flat_map part xs) name) (sym (has_append (part x) (flat_map part xs) name) ∙ here)) [
                  | inl own ↦ not_among x before name e own
                  | inr later ↦ (or_parts (has_name (flat_map part before) name) (has_name (part x) name) (sym (has_more before x name) ∙ rest.apart name later)).0
                ];
          }

  pub parts_differ : (xs : List A) → clashing clash [] xs ≡ [] → Distinct (flat_map part xs)
  parts_differ xs h = (kept_apart [] xs h).distinct

-- names of which none is repeated differ
pub one_name : (name other : Name) → has_name (name ∷ []) other ≡ true → other ≡ name
one_name name other h = elim (or_cases (bytes_eq other name) false h) [ inl e ↦ (bytes_eq-Decides other name).0 e | inr e ↦ absurd (false≢true e) ]

pub alone_are : (names : List Name) → flat_map (λ name. name ∷ []) names ≡ names
alone_are [] = refl
alone_are (name ∷ names) = ap (λ rest. name ∷ rest) (alone_are names)

pub unrepeated : (names : List Name) → clashing bytes_eq [] names ≡ [] → Distinct names
unrepeated names h =
    subst Distinct (alone_are names)
    (parts_differ bytes_eq (λ name. name ∷ []) (λ name. (refl, tt)) (λ x y name e f. (bytes_eq-Decides x y).1 (sym (one_name x name e) ∙ one_name y name f)) names h)

-- the next of elements whose names differ is new, and moves to those that were added
pub push_more : {K A : Type 0} (f : K → A) (name : A → Name) (keys : List K) (set after : List A) (i : ℕ) (k : K) (new : Bool) → i < length keys → k ≡ get_or keys i k → Distinct (map name (map f keys))
    → set ++ map f (drop i keys) ≡ map f keys → (has_name (map name set) (name (f k)) ≡ false → new ≡ true)
    → after ≡ set ++ (if new then f k ∷ [] else []) → after ++ map f (drop (i + 1) keys) ≡ map f keys
push_more f name keys set after i k new h is distinct made fresh a =
    let rest = map f (drop (i + 1) keys) in
    let whole : set ++ f k ∷ rest ≡ map f keys = ap (λ y. set ++ f y ∷ rest) is ∙ (ap (λ ys. set ++ map f ys) (sym (drop_more keys i k h)) ∙ made) in
    let apart : Distinct (map name set ++ name (f k) ∷ map name rest) = subst Distinct (ap (map name) (sym whole) ∙ map-append name set (f k ∷ rest)) distinct in
    ap (λ ys. ys ++ rest) (a ∙ ap (λ b. set ++ (if b then f k ∷ [] else [])) (fresh (not_before (map name set) (name (f k)) (map name rest) apart)))
    ∙ (append_assoc set (f k ∷ []) rest ∙ whole)

pub set_more : {K : Type 0} (f : K → Name) (keys : List K) (set after : List Name) (i : ℕ) (k : K) (new : Bool) → i < length keys → k ≡ get_or keys i k → Distinct (map f keys)
    → set ++ map f (drop i keys) ≡ map f keys → new ≡ not (has_name set (f k))
    → after ≡ set ++ (if new then f k ∷ [] else []) → after ++ map f (drop (i + 1) keys) ≡ map f keys
set_more f keys set after i k new h is distinct made n a =
    push_more f (λ x. x) keys set after i k new h is (subst Distinct (sym (map-id (map f keys))) distinct) made
    (λ e. n ∙ ap not (ap (λ names. has_name names (f k)) (sym (map-id set)) ∙ e)) a

pub set_more_at : {K : Type 0} (f : K → Name) (keys : List K) (set after : List Name) (i : ℕ) (d : K) (new : Bool) → i < length keys → Distinct (map f keys)
    → set ++ map f (drop i keys) ≡ map f keys → new ≡ not (has_name set (f (get_or keys i d)))
    → after ≡ set ++ (if new then f (get_or keys i d) ∷ [] else []) → after ++ map f (drop (i + 1) keys) ≡ map f keys
set_more_at f keys set after i d new h distinct made n a = set_more f keys set after i (get_or keys i d) new h (get_or_default keys i d (get_or keys i d) h) distinct made n a
