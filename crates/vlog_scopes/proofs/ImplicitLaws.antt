-- The names of nets without a declaration.
use Rattle.std.proofs.Common.{◌≡◌, length, Bool, true, false, not, ◌||◌, ◌&&◌, cond, List, [], ◌∷◌, ◌++◌, filter, bytes_eq, if◌then◌else◌, refl, sym, ap, ◌∙◌, append-nil}
use Rattle.std.specs.List.{list_any}
use Rattle.std.proofs.lemmas.List.Elements.{filter_agree}
use Rattle.std.proofs.lemmas.Slice.Eq.{bytes_eq-Decides}
use Rattle.vlog_design.specs.Names.{Declaration, Name, Use, declarations, first_places, has_name, implicit_names, is_declared, is_implicit, is_whole, module_uses, target_uses}
use Rattle.vlog_scopes.specs.Implicit.{declared_names, new_places, undeclared, used_names}
use Rattle.vlog_scopes.proofs.DistinctLaws.{has_append, other_way}
use Rattle.vlog_values.specs.declared.module.Module.{Module}

filter_twice : (p q : Name → Bool) (xs : List Name) → filter p (filter q xs) ≡ filter (λ x. q x && p x) xs
filter_twice p q [] = refl
filter_twice p q (x ∷ xs) = by (q x) (p x) (filter_twice p q xs)
  where
    by : (b c : Bool) → filter p (filter q xs) ≡ filter (λ y. q y && p y) xs → filter p (cond b (x ∷ filter q xs) (filter q xs)) ≡ cond (b && p x) (x ∷ filter (λ y. q y && p y) xs) (filter (λ y. q y && p y) xs)
    by true c h = ap (λ rest. cond (p x) (x ∷ rest) rest) h
    by false c h = h

-- a name that stood before is left out anyway
known_anyway : (before : List Name) (x : Name) → has_name before x ≡ true → (y : Name) → (not (bytes_eq x y) && not (has_name before y)) ≡ not (has_name before y)
known_anyway before x h y = by (bytes_eq x y) refl
  where
    by : (b : Bool) → bytes_eq x y ≡ b → (not b && not (has_name before y)) ≡ not (has_name before y)
    by true e = sym (ap not (ap (has_name before) (sym ((bytes_eq-Decides x y).0 e)) ∙ h))
    by false e = refl

both_left_out : (before : List Name) (x y : Name) → (not (bytes_eq x y) && not (has_name before y)) ≡ not (has_name (before ++ x ∷ []) y)
both_left_out before x y = by (bytes_eq x y) (has_name before y) refl refl ∙ sym (ap not (has_append before (x ∷ []) y))
  where
    by : (b c : Bool) → bytes_eq x y ≡ b → has_name before y ≡ c → (not b && not c) ≡ not (c || (bytes_eq y x || false))
    by true true e f = refl
    by true false e f = sym (ap (λ d. not (d || false)) ((bytes_eq-Decides y x).1 (sym ((bytes_eq-Decides x y).0 e))))
    by false true e f = refl
    by false false e f = sym (ap (λ d. not (d || false)) (other_way x y e))

new_is : (test : Name → Bool) (before names : List Name) → new_places test before names ≡ filter (λ name. not (has_name before name)) (first_places (filter test names))
unfolding first_places
new_is test before [] = refl
new_is test before (x ∷ xs) = by (test x) (has_name before x) refl (λ more. new_is test more xs)
  where
    places : List Name
    places = first_places (filter test xs)

    by : (b c : Bool) → has_name before x ≡ c → ((more : List Name) → new_places test more xs ≡ filter (λ name. not (has_name more name)) (first_places (filter test xs))) →
        (if b && not c then x ∷ [] else []) ++ new_places test (before ++ (if b && not c then x ∷ [] else [])) xs
        ≡ filter (λ name. not (has_name before name)) (first_places (cond b (x ∷ filter test xs) (filter test xs)))
    by false c e next = ap (λ names. new_places test names xs) (append-nil before) ∙ next before
    by true true e next =
        ap (λ names. new_places test names xs) (append-nil before)
        ∙ (next before
        ∙ sym (ap (λ b. cond (not b) (x ∷ filter (λ name. not (has_name before name)) (filter (λ other. not (bytes_eq x other)) places)) (filter (λ name. not (has_name before name)) (filter (λ other. not (bytes_eq x other)) places))) e
        ∙ (filter_twice (λ name. not (has_name before name)) (λ other. not (bytes_eq x other)) places
        ∙ filter_agree (λ y. not (bytes_eq x y) && not (has_name before y)) (λ name. not (has_name before name)) (known_anyway before x e) places)))
    by true false e next =
        ap (λ names. x ∷ names) (next (before ++ x ∷ [])
        ∙ sym (filter_twice (λ name. not (has_name before name)) (λ other. not (bytes_eq x other)) places
        ∙ filter_agree (λ y. not (bytes_eq x y) && not (has_name before y)) (λ name. not (has_name (before ++ x ∷ []) name)) (both_left_out before x) places))
        ∙ sym (ap (λ b. cond (not b) (x ∷ filter (λ name. not (has_name before name)) (filter (λ other. not (bytes_eq x other)) places)) (filter (λ name. not (has_name before name)) (filter (λ other. not (bytes_eq x other)) places))) e)

all_kept : (xs : List Name) → filter (λ name. true) xs ≡ xs
all_kept [] = refl
all_kept (x ∷ xs) = ap (λ rest. x ∷ rest) (all_kept xs)

-- each name at its first place
pub new_first : (test : Name → Bool) (names : List Name) → new_places test [] names ≡ first_places (filter test names)
new_first test names = new_is test [] names ∙ all_kept (first_places (filter test names))

pub declared_has : (m : Module) (name : Name) → has_name (declared_names (declarations m)) name ≡ is_declared m name
unfolding is_declared
declared_has m name = go (declarations m)
  where
    go : (ds : List Declaration) → has_name (declared_names ds) name ≡ list_any (λ d. bytes_eq name d.name) ds
    go [] = refl
    go (d ∷ ds) = ap (λ b. bytes_eq name d.name || b) (go ds)

-- the set of the names that stand whole and are not declared

named_or : (name : Name) (u : Use) (us : List Use) (b : Bool) → has_name (used_names (cond b (u ∷ us) us)) name ≡ cond b (bytes_eq name u.name || has_name (used_names us) name) (has_name (used_names us) name)
named_or name u us true = refl
named_or name u us false = refl

not_true : false ≡ true → ⊥
not_true e = cc

one_more : (whole known same there more : Bool) → (same ≡ true → there ≡ known) →
    cond (whole && not known) (same || (not there && more)) (not there && more) ≡ (not there && ((same && whole) || more))
one_more false known true there more h = refl
one_more false known false there more h = refl
one_more true false false there more h = refl
one_more true true false there more h = refl
one_more true false true false more h = refl
one_more true false true true more h = absurd (not_true (sym (h refl)))
one_more true true true true more h = refl
one_more true true true false more h = absurd (not_true (h refl))

none_there : (there : Bool) → false ≡ (not there && false)
none_there true = refl
none_there false = refl

pub undeclared_has : (declared : List Name) (uses : List Use) (name : Name) →
    has_name (undeclared declared uses) name ≡ (not (has_name declared name) && list_any (λ u. bytes_eq name u.name && is_whole u.select) uses)
undeclared_has declared [] name = none_there (has_name declared name)
undeclared_has declared (u ∷ us) name =
    let kept = is_whole u.select && not (has_name declared u.name) in
    let more = list_any (λ v. bytes_eq name v.name && is_whole v.select) us in
    named_or name u (filter (λ v. is_whole v.select && not (has_name declared v.name)) us) kept
    ∙ (ap (λ there. cond kept (bytes_eq name u.name || there) there) (undeclared_has declared us name)
    ∙ one_more (is_whole u.select) (has_name declared u.name) (bytes_eq name u.name) (has_name declared name) more (λ e. ap (has_name declared) ((bytes_eq-Decides name u.name).0 e)))

pub none_kept : (test : Name → Bool) (xs : List Name) → ((name : Name) → test name ≡ false) → filter test xs ≡ []
none_kept test [] h = refl
none_kept test (x ∷ xs) h = rw (h x) (none_kept test xs h)

-- without implicit nets there are none
pub none_implicit : (m : Module) → m.implicit ≡ false → implicit_names m ≡ []
unfolding implicit_names is_implicit first_places
none_implicit m h = ap first_places (none_kept (is_implicit m) (used_names (module_uses m)) (λ name. ap (λ b. b && not (is_declared m name) && list_any (λ u. bytes_eq name u.name && is_whole u.select) (target_uses m)) h))

no_name : (nets : List Name) → length nets ≡ 0 → (name : Name) → has_name nets name ≡ false
no_name [] h name = refl
no_name (net ∷ nets) h name = absurd cc

-- the names that are not declared and stand whole are those of the implicit nets
module _ (m : Module) (nets : List Name) (allowed : m.implicit ≡ true)
    (are : (name : Name) → has_name nets name ≡ (not (is_declared m name) && list_any (λ u. bytes_eq name u.name && is_whole u.select) (target_uses m))) where
  has_implicit : (name : Name) → has_name nets name ≡ is_implicit m name
  unfolding is_implicit
  has_implicit name = are name ∙ sym (ap (λ b. b && not (is_declared m name) && list_any (λ u. bytes_eq name u.name && is_whole u.select) (target_uses m)) allowed)

  pub implicit_are : (used : List Use) → used ≡ module_uses m → new_places (has_name nets) [] (used_names used) ≡ implicit_names m
  unfolding implicit_names
  implicit_are used u =
      new_first (has_name nets) (used_names used)
      ∙ (ap (λ us. first_places (filter (has_name nets) (used_names us))) u
      ∙ ap first_places (filter_agree (has_name nets) (is_implicit m) has_implicit (used_names (module_uses m))))

  -- where there are none, no net is implicit
  pub none_undeclared : length nets ≡ 0 → implicit_names m ≡ []
  unfolding implicit_names first_places
  none_undeclared none = ap first_places (none_kept (is_implicit m) (used_names (module_uses m)) (λ name. sym (has_implicit name) ∙ no_name nets none name))
