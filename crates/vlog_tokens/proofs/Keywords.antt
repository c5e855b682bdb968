-- A keyword is found among those of its first letter.
use Rattle.std.proofs.Common.{arith, ◌≡◌, ◌∙◌, inl, inr, sym, ap, subst, refl, ℕ, zero, suc, ◌+◌, ◌-◌, ◌<◌, ◌≤◌, eqb, ltb, eq-eqb, nat_le, Bool, cond, true, false, ◌&&◌, ◌||◌, List, [], ◌∷◌, length, get_or}
use Rattle.std.proofs.lemmas.Bool.{cases_order}
use Rattle.std.proofs.lemmas.Bool.Decides.{nat_tests}
use Rattle.std.specs.Str.{bytes_eq}
use Rattle.std.proofs.lemmas.Slice.Eq.{bytes_eq-Decides}
use Rattle.std.specs.List.{list_any, list_all}
use Rattle.nl_base.specs.Case.{same_bytes}
use Rattle.vlog_tokens.specs.Keywords.{keywords, is_keyword, is_small, is_like_keyword, shape_at, shape_of, start_at, bound, part, of_letter, words_from, word}

-- whether a test passes for each number below a bound
abbrev passes_below : (ℕ → Bool) → ℕ → Bool
passes_below test zero = true
passes_below test (suc bound) = test bound && passes_below test bound

both : (s t : Bool) → (s && t) ≡ true → (s ≡ true) × (t ≡ true)
both true t h = (refl, h)
both false t h = absurd cc

below : (test : ℕ → Bool) (bound n : ℕ) → passes_below test bound ≡ true → n < bound → test n ≡ true
below test zero n h lt = absurd (omega arith)
below test (suc bound) n h lt = elim (cases_order n bound) [
  | inl e ↦ subst (λ m. test m ≡ true) (sym e) (both (test bound) _ h).0
  | inr (inl less) ↦ below test bound n (both (test bound) _ h).1 less
  | inr (inr more) ↦ absurd (omega arith)
]

abbrev in_order : ℕ → Bool
in_order n = nat_le (bound n) (bound (n + 1)) && nat_le (bound (n + 1)) 776

all_in_order : passes_below in_order 124 ≡ true
unfolding bound
all_in_order = refl

pub bounds : (n : ℕ) → n < 124 → (bound n ≤ bound (n + 1)) × (bound (n + 1) ≤ 776)
bounds n lt =
    let h : in_order n ≡ true = below in_order 124 n all_in_order lt in
    let parts = both (nat_le (bound n) (bound (n + 1))) (nat_le (bound (n + 1)) 776) h in
    (grind (arith, nat_tests, parts.0), grind (arith, nat_tests, parts.1))

abbrev starts_within : ℕ → Bool
starts_within n = nat_le (start_at n) 124

all_within : passes_below starts_within 27 ≡ true
unfolding start_at
all_within = refl

pub start_most : (n : ℕ) → n < 27 → start_at n ≤ 124
start_most n lt = let h : starts_within n ≡ true = below starts_within 27 n all_within lt in grind (arith, nat_tests, h)

abbrev has_shape : ℕ → Bool
has_shape n = eqb (shape_at n) (shape_of (word n))

all_shapes : passes_below has_shape 124 ≡ true
unfolding shape_at part bound
all_shapes = refl

-- a name of another shape is another word
pub other_shape : (name : List ℕ) (shape n : ℕ) → n < 124 → shape ≡ shape_of name → (shape_at n ≡ shape → ⊥) → same_bytes name (word n) ≡ false
other_shape name shape n lt is other = go (same_bytes name (word n)) refl
  where
    has : shape_at n ≡ shape_of (word n)
    has = let h : has_shape n ≡ true = below has_shape 124 n all_shapes lt in grind (arith, nat_tests, h)

    go : (t : Bool) → same_bytes name (word n) ≡ t → t ≡ false
    go true e = absurd (other (has ∙ (ap shape_of (sym ((bytes_eq-Decides name (word n)).0 e)) ∙ sym is)))
    go false e = refl

-- ---- words of one letter

abbrev begins : ℕ → List ℕ → Bool
begins c [] = false
begins c (b ∷ bs) = eqb b c

abbrev with_letter : ℕ → List (List ℕ) → List (List ℕ)
with_letter c [] = []
with_letter c (w ∷ ws) = cond (begins c w) (w ∷ with_letter c ws) (with_letter c ws)

same_first : (c : ℕ) (bs w : List ℕ) → same_bytes (c ∷ bs) w ≡ true → begins c w ≡ true
same_first c bs w h = let e : c ∷ bs ≡ w = (bytes_eq-Decides (c ∷ bs) w).0 h in subst (λ x. begins c x ≡ true) e (eq-eqb c c refl)

-- a word is looked for among those of its letter
any_letter : (c : ℕ) (bs : List ℕ) (ws : List (List ℕ)) → list_any (same_bytes (c ∷ bs)) (with_letter c ws) ≡ list_any (same_bytes (c ∷ bs)) ws
any_letter c bs [] = refl
any_letter c bs (w ∷ ws) = go (begins c w) refl (same_bytes (c ∷ bs) w) refl (any_letter c bs ws)
  where
    go : (t : Bool) → begins c w ≡ t → (s : Bool) → same_bytes (c ∷ bs) w ≡ s → list_any (same_bytes (c ∷ bs)) (with_letter c ws) ≡ list_any (same_bytes (c ∷ bs)) ws
        → list_any (same_bytes (c ∷ bs)) (cond t (w ∷ with_letter c ws) (with_letter c ws)) ≡ (s || list_any (same_bytes (c ∷ bs)) ws)
    go true e s f rest = rw (f, rest) refl
    go false e true f rest = absurd (cc (e, same_first c bs w f))
    go false e false f rest = rest

abbrev same_words : List (List ℕ) → List (List ℕ) → Bool
same_words [] [] = true
same_words [] (w ∷ ws) = false
same_words (v ∷ vs) [] = false
same_words (v ∷ vs) (w ∷ ws) = bytes_eq v w && same_words vs ws

words_are : (vs ws : List (List ℕ)) → same_words vs ws ≡ true → vs ≡ ws
words_are [] [] h = refl
words_are [] (w ∷ ws) h = absurd cc
words_are (v ∷ vs) [] h = absurd cc
words_are (v ∷ vs) (w ∷ ws) h =
    let parts = both (bytes_eq v w) (same_words vs ws) h in
    let e : v ≡ w = (bytes_eq-Decides v w).0 parts.0 in
    let f = words_are vs ws parts.1 in
    ap (λ x. x ∷ vs) e ∙ ap (λ xs. w ∷ xs) f

abbrev is_row : ℕ → Bool
is_row n = same_words (of_letter n) (with_letter (97 + n) keywords)

all_rows : passes_below is_row 26 ≡ true
unfolding part bound start_at
all_rows = refl

by_letter : (c : ℕ) (bs : List ℕ) → 97 ≤ c → c ≤ 122 → list_any (same_bytes (c ∷ bs)) (of_letter (c - 97)) ≡ is_keyword (c ∷ bs)
unfolding is_keyword
by_letter c bs low high =
    let row = words_are (of_letter (c - 97)) (with_letter (97 + (c - 97)) keywords) (below is_row 26 (c - 97) all_rows (omega arith)) in
    let letter : 97 + (c - 97) ≡ c = omega arith in
    ap (λ ws. list_any (same_bytes (c ∷ bs)) ws) (row ∙ ap (λ n. with_letter n keywords) letter) ∙ any_letter c bs keywords

small_within : (b : ℕ) → is_small b ≡ true → (97 ≤ b) × (b ≤ 122)
small_within b h =
    let parts = both (nat_le 97 b) (nat_le b 122) h in
    (grind (arith, nat_tests, parts.0), grind (arith, nat_tests, parts.1))

found_by_letter : (name : List ℕ) (d : ℕ) → 0 < length name → is_small (get_or name 0 d) ≡ true → list_any (same_bytes name) (of_letter (get_or name 0 d - 97)) ≡ is_keyword name
found_by_letter [] d some h = absurd (omega arith)
found_by_letter (c ∷ bs) d some h = let w = small_within c h in by_letter c bs w.0 w.1

-- ---- names that are not like a keyword

none_like : (name : List ℕ) (ws : List (List ℕ)) → is_like_keyword name ≡ false → list_all is_like_keyword ws ≡ true → list_any (same_bytes name) ws ≡ false
none_like name [] h all = refl
none_like name (w ∷ ws) h all =
    let parts = both (is_like_keyword w) (list_all is_like_keyword ws) all in
    go (same_bytes name w) refl (none_like name ws h parts.1) parts.0
  where
    go : (s : Bool) → same_bytes name w ≡ s → list_any (same_bytes name) ws ≡ false → is_like_keyword w ≡ true → (s || list_any (same_bytes name) ws) ≡ false
    go true f rest like = let e : name ≡ w = (bytes_eq-Decides name w).0 f in absurd (cc (h, like, ap is_like_keyword e))
    go false f rest like = rest

all_like : list_all is_like_keyword keywords ≡ true
unfolding is_like_keyword
all_like = refl

pub not_like : (name : List ℕ) → is_like_keyword name ≡ false → is_keyword name ≡ false
unfolding is_keyword
not_like name h = none_like name keywords h all_like

-- a name that is like a keyword begins with a small letter
pub like_first : (name : List ℕ) (d : ℕ) → is_like_keyword name ≡ true → (0 < length name) × (is_small (get_or name 0 d) ≡ true)
unfolding is_like_keyword
like_first [] d h = absurd cc
like_first (a ∷ bs) d h = (omega arith, go (ltb (suc (length bs)) 2 || ltb 19 (suc (length bs))) (is_small a) (is_small (get_or (a ∷ bs) 1 0)) h)
  where
    go : (s t u : Bool) → cond s false (cond t u false) ≡ true → t ≡ true
    go true t u h = absurd cc
    go false true u h = refl
    go false false u h = absurd cc

pub first_within : (name : List ℕ) (d : ℕ) → is_like_keyword name ≡ true → (97 ≤ get_or name 0 d) × (get_or name 0 d ≤ 122)
first_within name d h = small_within (get_or name 0 d) (like_first name d h).1

-- ---- the search

pub turn : (name : List ℕ) (end i : ℕ) → i < end → list_any (same_bytes name) (words_from (end - i) i) ≡ (same_bytes name (word i) || list_any (same_bytes name) (words_from (end - (i + 1)) (i + 1)))
turn name end i lt =
    let n : end - i ≡ suc (end - (i + 1)) = omega arith in
    ap (λ k. list_any (same_bytes name) (words_from k i)) n

pub none_left : (name : List ℕ) (end i : ℕ) → end ≤ i → list_any (same_bytes name) (words_from (end - i) i) ≡ false
none_left name end i le = let n : end - i ≡ 0 = omega arith in ap (λ k. list_any (same_bytes name) (words_from k i)) n

pub by_table : (name : List ℕ) (d letter start end : ℕ) → is_like_keyword name ≡ true → letter ≡ get_or name 0 d - 97 → start ≡ start_at letter → end ≡ start_at (letter + 1)
    → list_any (same_bytes name) (words_from (end - start) start) ≡ is_keyword name
by_table name d letter start end like letter-is start-is end-is =
    let first = like_first name d like in
    rw (start-is, end-is, letter-is) (found_by_letter name d first.0 first.1)

pub end_most : (name : List ℕ) (d letter end : ℕ) → is_like_keyword name ≡ true → letter ≡ get_or name 0 d - 97 → end ≡ start_at (letter + 1) → end ≤ 124
end_most name d letter end like letter-is end-is = let w = first_within name d like in omega (arith, end-is, start_most (letter + 1) (omega (arith, w)))

pub turn_on : (name : List ℕ) (end i : ℕ) → i < end → same_bytes name (word i) ≡ false → list_any (same_bytes name) (words_from (end - (i + 1)) (i + 1)) ≡ list_any (same_bytes name) (words_from (end - i) i)
turn_on name end i lt other = sym (turn name end i lt ∙ ap (λ t. t || list_any (same_bytes name) (words_from (end - (i + 1)) (i + 1))) other)
