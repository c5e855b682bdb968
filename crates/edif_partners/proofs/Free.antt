-- Names of which none stands before itself.
use Rattle.std.proofs.Common.{arith, ◌≡◌, ℕ, zero, suc, ◌<◌, Bool, true, false, ◌||◌, List, [], ◌∷◌, ◌++◌, Some, append-nil, append_assoc, length, map, refl, sym, ap, ◌∙◌, subst}
use Rattle.std.specs.Prelude.{slice_get}
use Rattle.std.proofs.lemmas.Bool.{false≢true}
use Rattle.std.proofs.lemmas.List.{map-append}
use Rattle.std.proofs.lemmas.Slice.Eq.{bytes_eq-Decides}
use Rattle.nl_base.specs.Case.{same_bytes}
use Rattle.edif_lookup.specs.Refusals.{is_in}
use Rattle.net_hier.specs.Valid.{HaveOwnNames}
use Rattle.edif_plans.specs.Made.{AreFree}

-- ---- places

pub get_left : {A : Type 0} (xs ys : List A) (i : ℕ) (x : A) → slice_get xs i ≡ Some x → slice_get (xs ++ ys) i ≡ Some x
get_left [] ys i x there = absurd cc
get_left (y ∷ xs) ys zero x there = there
get_left (y ∷ xs) ys (suc i) x there = get_left xs ys i x there

pub get_end : {A : Type 0} (xs : List A) (x : A) (ys : List A) → slice_get (xs ++ x ∷ ys) (length xs) ≡ Some x
get_end [] x ys = refl
get_end (y ∷ xs) x ys = get_end xs x ys

pub within : {A : Type 0} (xs : List A) (i : ℕ) (x : A) → slice_get xs i ≡ Some x → i < length xs
within [] i x there = absurd cc
within (y ∷ xs) zero x there = omega arith
within (y ∷ xs) (suc i) x there = let l = within xs i x there in omega (arith, l)

-- an item of a list that is shown by another one
pub record IsShownBy {A B : Type 0} (f : A → B) (xs : List A) (i : ℕ) (b : B) : Type 0 where
  pub item : A
  pub is_there : slice_get xs i ≡ Some item
  pub shows : f item ≡ b

pub shown_at : {A B : Type 0} (f : A → B) (xs : List A) (i : ℕ) (b : B) → slice_get (map f xs) i ≡ Some b → IsShownBy f xs i b
shown_at f [] i b there = absurd cc
shown_at f (x ∷ xs) zero b there = record { item = x; is_there = refl; shows = cc }
shown_at f (x ∷ xs) (suc i) b there = let r = shown_at f xs i b there in record { item = r.item; is_there = r.is_there; shows = r.shows }

-- ---- names

-- two places with one name are one
abbrev pub AreOwn : List (List ℕ) → Type 0
AreOwn names = (i j : ℕ) (name : List ℕ) → slice_get names i ≡ Some name → slice_get names j ≡ Some name → i ≡ j

pub names_own : {A : Type 0} (name : A → List ℕ) (xs : List A) → HaveOwnNames name xs → AreOwn (map name xs)
names_own name xs own i j n hi hj =
    let a = shown_at name xs i n hi in
    let b = shown_at name xs j n hj in
    own i j a.item b.item a.is_there b.is_there (a.shows ∙ sym b.shows)

in_at : (name : List ℕ) (names : List (List ℕ)) → is_in name names ≡ true → (k : ℕ) × (slice_get names k ≡ Some name)
in_at name [] h = absurd (false≢true h)
in_at name (first ∷ names) h = by (same_bytes name first) refl h (in_at name names)
  where
    by : (b : Bool) → same_bytes name first ≡ b → (b || is_in name names) ≡ true → (is_in name names ≡ true → (k : ℕ) × (slice_get names k ≡ Some name)) → (k : ℕ) × (slice_get (first ∷ names) k ≡ Some name)
    by true e t rest = (0, ap Some (sym ((bytes_eq-Decides name first).0 e)))
    by false e t rest = let r = rest t in (suc r.0, r.1)

not_true : (b : Bool) → (b ≡ true → ⊥) → b ≡ false
not_true true h = absurd (h refl)
not_true false h = refl

new_name : (before : List (List ℕ)) (name : List ℕ) (after : List (List ℕ)) → AreOwn (before ++ name ∷ after) → is_in name before ≡ false
new_name before name after own = not_true (is_in name before) (λ t.
    let at = in_at name before t in
    let l = within before at.0 name at.1 in
    let e : at.0 ≡ length before = own at.0 (length before) name (get_left before (name ∷ after) at.0 name at.1) (get_end before name after) in
    omega (arith, l, e))

pub own_free : (before names : List (List ℕ)) → AreOwn (before ++ names) → AreFree before names
unfolding AreFree
own_free before [] own = tt
own_free before (name ∷ names) own = (new_name before name names own, own_free (before ++ name ∷ []) names (subst AreOwn (sym (append_assoc before (name ∷ []) names)) own))

pub free_append : (before xs ys : List (List ℕ)) → AreFree before xs → AreFree (before ++ xs) ys → AreFree before (xs ++ ys)
unfolding AreFree
free_append before [] ys fx fy = subst (λ b. AreFree b ys) (append-nil before) fy
free_append before (x ∷ xs) ys fx fy = (fx.0, free_append (before ++ x ∷ []) xs ys fx.1 (subst (λ b. AreFree b ys) (sym (append_assoc before (x ∷ []) xs)) fy))

free_split : (first before : List (List ℕ)) (name : List ℕ) (after names : List (List ℕ)) → before ++ name ∷ after ≡ names → AreFree first names → is_in name (first ++ before) ≡ false
unfolding AreFree
free_split first [] name after [] e free = absurd cc
free_split first [] name after (other ∷ names) e free =
    let s : name ≡ other = cc in
    subst (λ n. is_in n (first ++ []) ≡ false) (sym s) (subst (λ b. is_in other b ≡ false) (sym (append-nil first)) free.0)
free_split first (x ∷ before) name after [] e free = absurd cc
free_split first (x ∷ before) name after (other ∷ names) e free =
    let s : x ≡ other = cc in
    let rest : before ++ name ∷ after ≡ names = cc in
    subst (λ y. is_in name (first ++ y ∷ before) ≡ false) (sym s) (subst (λ b. is_in name b ≡ false) (append_assoc first (other ∷ []) before) (free_split (first ++ other ∷ []) before name after names rest free.1))

-- of things whose names are free none stands behind one of its name
pub none_earlier : {A : Type 0} (name : A → List ℕ) (xs : List A) (names : List (List ℕ)) → map name xs ≡ names → AreFree [] names → (before : List A) (x : A) (after : List A) → before ++ x ∷ after ≡ xs → is_in (name x) (map name before) ≡ false
none_earlier name xs names are free before x after e =
    free_split [] (map name before) (name x) (map name after) names (sym (map-append name before (x ∷ after)) ∙ (ap (map name) e ∙ are)) free
