-- A set that is made of a list has the names of the list.
use Rattle.std.proofs.Common.{◌≡◌, ℕ, ◌+◌, ◌<◌, Bool, true, false, not, cond, ◌||◌, List, [], ◌∷◌, ◌++◌, Option, None, Some, flat_map, if◌then◌else◌, bytes_eq, drop, filter, find, get_or, length, refl, sym, ap, ◌∙◌, add-one, append-nil, drop-cons}
use Rattle.std.specs.Borrow.{Bor}
use Rattle.std.proofs.lemmas.List.Folds.{list_any-append}
use Rattle.std.proofs.lemmas.Slice.Eq.{bytes_eq-Decides}
use Rattle.vlog_design.specs.Names.{Name, has_name}
use Rattle.vlog_design.specs.Rules.{first_of}
use Rattle.vlog_design.specs.Tables.{names_of}
use Rattle.vlog_rules.proofs.RuleLaws.{first_filter}
use Rattle.vlog_design.proofs.Steps.{flat_map_left}

regroup : (a b c : Bool) → ((a || (b || false)) || c) ≡ (a || (b || c))
regroup true b c = refl
regroup false true c = refl
regroup false false c = refl

known : (a b c : Bool) → (b ≡ true → a ≡ true) → (a || c) ≡ (a || (b || c))
known true b c h = refl
known false false c h = refl
known false true c h = absurd (never (h refl))
  where
    never : false ≡ true → ⊥
    never e = cc

one_of : (there new : Bool) → new ≡ not there → new ≡ false → there ≡ true
one_of true new e f = refl
one_of false new e f = cc

has_first : (keys : List (Bor (List ℕ))) (i : ℕ) (d : Bor (List ℕ)) (name : Name) → i < length keys → has_name (names_of (drop i keys)) name ≡ (bytes_eq name (get_or keys i d).now || has_name (names_of (drop (i + 1) keys)) name)
has_first keys i d name h = rw (drop-cons keys i d h, add-one) refl

pub set_step : (set after : List Name) (keys : List (Bor (List ℕ))) (i : ℕ) (d : Bor (List ℕ)) (new : Bool) → i < length keys → new ≡ not (has_name set (get_or keys i d).now) →
    after ≡ set ++ (if new then (get_or keys i d).now ∷ [] else []) → (name : Name) → (has_name after name || has_name (names_of (drop (i + 1) keys)) name) ≡ (has_name set name || has_name (names_of (drop i keys)) name)
set_step set after keys i d true h e a name =
    let key = (get_or keys i d).now in
    let rest = has_name (names_of (drop (i + 1) keys)) name in
    ap (λ names. has_name names name || rest) a ∙ (ap (λ b. b || rest) (list_any-append (bytes_eq name) set (key ∷ [])) ∙ (regroup (has_name set name) (bytes_eq name key) rest ∙ ap (λ b. has_name set name || b) (sym (has_first keys i d name h))))
set_step set after keys i d false h e a name =
    let key = (get_or keys i d).now in
    let rest = has_name (names_of (drop (i + 1) keys)) name in
    let there : has_name set key ≡ true = one_of (has_name set key) false e refl in
    let same : bytes_eq name key ≡ true → has_name set name ≡ true = λ b. ap (has_name set) ((bytes_eq-Decides name key).0 b) ∙ there in
    ap (λ names. has_name names name || rest) (a ∙ append-nil set) ∙ (known (has_name set name) (bytes_eq name key) rest same ∙ ap (λ b. has_name set name || b) (sym (has_first keys i d name h)))

pub find_same : {A : Type 0} (p q : A → Bool) (xs : List A) → ((x : A) → p x ≡ q x) → find p xs ≡ find q xs
find_same p q [] same = refl
find_same p q (x ∷ xs) same = rw (same x, find_same p q xs same) refl

-- the first name that is in neither a list nor its set
pub outside : (set others names : List Name) (found : Option Name) → found ≡ find (λ name. not (has_name set name)) names → ((name : List ℕ) → has_name set name ≡ has_name others name) →
    found ≡ first_of (filter (λ name. not (has_name others name)) names)
outside set others names found e same =
    e ∙ (find_same (λ name. not (has_name set name)) (λ name. not (has_name others name)) names (λ name. ap not (same name)) ∙ sym (first_filter (λ name. not (has_name others name)) names))

-- the first element in one list after another

find_there : {A : Type 0} (p : A → Bool) (xs ys : List A) (x : A) → Some x ≡ find p xs → find p (xs ++ ys) ≡ Some x
find_there p [] ys x e = absurd cc
find_there p (z ∷ xs) ys x e = by (p z) (find_there p xs ys x) e
  where
    by : (b : Bool) → (Some x ≡ find p xs → find p (xs ++ ys) ≡ Some x) → Some x ≡ cond b (Some z) (find p xs) → cond b (Some z) (find p (xs ++ ys)) ≡ Some x
    by true next h = sym h
    by false next h = next h

find_behind : {A : Type 0} (p : A → Bool) (xs ys : List A) → None ≡ find p xs → find p (xs ++ ys) ≡ find p ys
find_behind p [] ys e = refl
find_behind p (z ∷ xs) ys e = by (p z) (find_behind p xs ys) e
  where
    by : (b : Bool) → (None ≡ find p xs → find p (xs ++ ys) ≡ find p ys) → None ≡ cond b (Some z) (find p xs) → cond b (Some z) (find p (xs ++ ys)) ≡ find p ys
    by true next h = absurd cc
    by false next h = next h

module _ {A B : Type 0} (p : B → Bool) (g : A → List B) (xs : List A) (i : ℕ) (d x : A) (within : i < length xs) (is : x ≡ get_or xs i d) where
  pub found_in_part : (y : B) → Some y ≡ find p (g x) → find p (flat_map g (drop i xs)) ≡ Some y
  found_in_part y e = ap (find p) (flat_map_left g xs i d within) ∙ find_there p (g (get_or xs i d)) (flat_map g (drop (i + 1) xs)) y (e ∙ ap (λ z. find p (g z)) is)

  pub found_behind : None ≡ find p (g x) → find p (flat_map g (drop i xs)) ≡ find p (flat_map g (drop (i + 1) xs))
  found_behind e = ap (find p) (flat_map_left g xs i d within) ∙ find_behind p (g (get_or xs i d)) (flat_map g (drop (i + 1) xs)) (e ∙ ap (λ z. find p (g z)) is)
