-- Where no name is declared twice, each name has at most one direction and at most one net declaration.
use Rattle.std.proofs.Common.{◌≡◌, ℕ, suc, ◌+◌, ◌≤◌, Bool, true, false, ◌&&◌, ◌||◌, cond, List, [], ◌∷◌, ◌++◌, bytes_eq, filter, flat_map, length, map, refl, sym, ap, ◌∙◌, length-append, arith}
use Rattle.std.specs.List.{list_any}
use Rattle.std.proofs.lemmas.Bool.{false≢true}
use Rattle.std.proofs.lemmas.List.Elements.{filter-append}
use Rattle.std.proofs.lemmas.List.Folds.{list_any-append}
use Rattle.std.proofs.lemmas.Slice.Eq.{bytes_eq-Decides}
use Rattle.vlog_design.specs.Names.{Declaration, Name, clashing, declarations, declared_as, declared_in_header, declared_in_item, declared_params, declared_port}
use Rattle.vlog_design.specs.Rules.{clash, declared_twice, same_kind}
use Rattle.vlog_design.specs.declared.signals.Kind.{Kind}
use Rattle.vlog_design.specs.declared.signals.Kind.TheVariants.{InHeader, Direction, NetDeclaration, Instance, Parameter}
use Rattle.vlog_values.specs.declared.module.Module.{Module}

pub or_right : (a b : Bool) → b ≡ true → (a || b) ≡ true
or_right true b h = refl
or_right false b h = h

-- elements of which no two may stand together
module _ {A : Type 0} (clash : A → A → Bool) (q : A → Bool) (apart : (x y : A) → q x ≡ true → q y ≡ true → clash x y ≡ true) where
  clash_one : (x : A) (before : List A) → q x ≡ true → list_any q before ≡ true → list_any (clash x) before ≡ true
  clash_one x [] h any = any
  clash_one x (y ∷ ys) h any = by (q y) refl (clash_one x ys h) any
    where
      by : (b : Bool) → q y ≡ b → (list_any q ys ≡ true → list_any (clash x) ys ≡ true) → (b || list_any q ys) ≡ true → (clash x y || list_any (clash x) ys) ≡ true
      by true e next any = ap (λ b. b || list_any (clash x) ys) (apart x y h e)
      by false e next any = or_right (clash x y) _ (next any)

  any_left : (before : List A) (x : A) → list_any q before ≡ true → list_any q (before ++ x ∷ []) ≡ true
  any_left before x h = list_any-append q before (x ∷ []) ∙ ap (λ b. b || list_any q (x ∷ [])) h

  any_last : (before : List A) (x : A) → q x ≡ true → list_any q (before ++ x ∷ []) ≡ true
  any_last before x h = list_any-append q before (x ∷ []) ∙ or_right (list_any q before) _ (ap (λ b. b || false) h)

  no_clash : (b : Bool) (x : A) (xs : List A) → cond b (x ∷ xs) xs ≡ [] → (b ≡ false) × (xs ≡ [])
  no_clash true x xs h = absurd cc
  no_clash false x xs h = (refl, h)

  none_more : (before xs : List A) → clashing clash before xs ≡ [] → list_any q before ≡ true → filter q xs ≡ []
  unfolding clashing
  none_more before [] h any = refl
  none_more before (x ∷ xs) h any = by (q x) refl (no_clash (list_any (clash x) before) x (clashing clash (before ++ x ∷ []) xs) h) (λ e. none_more (before ++ x ∷ []) xs e (any_left before x any))
    where
      by : (b : Bool) → q x ≡ b → (list_any (clash x) before ≡ false) × (clashing clash (before ++ x ∷ []) xs ≡ []) → (clashing clash (before ++ x ∷ []) xs ≡ [] → filter q xs ≡ []) → cond b (x ∷ filter q xs) (filter q xs) ≡ []
      by true e gone next = absurd (false≢true (sym gone.0 ∙ clash_one x before e any))
      by false e gone next = next gone.1

  at_most_one : (before xs : List A) → clashing clash before xs ≡ [] → length (filter q xs) ≤ 1
  unfolding clashing
  at_most_one before [] h = omega arith
  at_most_one before (x ∷ xs) h = by (q x) refl (no_clash (list_any (clash x) before) x (clashing clash (before ++ x ∷ []) xs) h) (λ e. at_most_one (before ++ x ∷ []) xs e)
    where
      by : (b : Bool) → q x ≡ b → (list_any (clash x) before ≡ false) × (clashing clash (before ++ x ∷ []) xs ≡ []) → (clashing clash (before ++ x ∷ []) xs ≡ [] → length (filter q xs) ≤ 1) → length (cond b (x ∷ filter q xs) (filter q xs)) ≤ 1
      by true e gone next = let none : length (filter q xs) ≡ 0 = ap length (none_more (before ++ x ∷ []) xs gone.1 (any_last before x e)) in omega (arith, none)
      by false e gone next = next gone.1

-- declarations of one kind and name

abbrev pub is_of : Kind → Name → Declaration → Bool
is_of kind key declaration = same_kind kind declaration.kind && bytes_eq key declaration.name

and_left : (a b : Bool) → (a && b) ≡ true → a ≡ true
and_left true b h = refl
and_left false b h = h

and_right : (a b : Bool) → (a && b) ≡ true → b ≡ true
and_right true b h = h
and_right false b h = absurd (false≢true h)

all_three : (a b c : Bool) → a ≡ true → b ≡ true → (a && (b || c)) ≡ true
all_three a b c h k = (λ j. h j && (k j || c))

-- the kinds of which a name has one declaration
pub record IsSingle (kind : Kind) : Type 0 where
  pub itself : same_kind kind kind ≡ true
  pub only : (other : Kind) → same_kind kind other ≡ true → other ≡ kind

pub direction_single : IsSingle Direction
direction_single = record { itself = refl; only = by }
  where
    by : (other : Kind) → same_kind Direction other ≡ true → other ≡ Direction
    by InHeader h = absurd (false≢true h)
    by Direction h = refl
    by NetDeclaration h = absurd (false≢true h)
    by Instance h = absurd (false≢true h)
    by Parameter h = absurd (false≢true h)

pub net_single : IsSingle NetDeclaration
net_single = record { itself = refl; only = by }
  where
    by : (other : Kind) → same_kind NetDeclaration other ≡ true → other ≡ NetDeclaration
    by InHeader h = absurd (false≢true h)
    by Direction h = absurd (false≢true h)
    by NetDeclaration h = refl
    by Instance h = absurd (false≢true h)
    by Parameter h = absurd (false≢true h)

clash_of : (kind : Kind) → IsSingle kind → (key : Name) (x y : Declaration) → is_of kind key x ≡ true → is_of kind key y ≡ true → clash x y ≡ true
clash_of kind single key x y hx hy =
    let kx : x.kind ≡ kind = single.only x.kind (and_left _ _ hx) in
    let ky : y.kind ≡ kind = single.only y.kind (and_left _ _ hy) in
    let nx : key ≡ x.name = (bytes_eq-Decides key x.name).0 (and_right _ _ hx) in
    let ny : key ≡ y.name = (bytes_eq-Decides key y.name).0 (and_right _ _ hy) in
    all_three (bytes_eq x.name y.name) (same_kind x.kind y.kind) _ ((bytes_eq-Decides x.name y.name).1 (sym nx ∙ ny)) ((λ j. same_kind (kx j) (ky j)) ∙ single.itself)

none_of_map : {A B : Type 0} (f : A → B) (xs : List A) → map f xs ≡ [] → xs ≡ []
none_of_map f [] h = refl
none_of_map f (x ∷ xs) h = absurd cc

-- how many declarations of a kind and name
abbrev pub count_of : Kind → Name → List Declaration → ℕ
count_of kind key ds = length (filter (is_of kind key) ds)

pub count_both : (kind : Kind) (key : Name) (ds es : List Declaration) → count_of kind key (ds ++ es) ≡ count_of kind key ds + count_of kind key es
count_both kind key ds es = ap length (filter-append (is_of kind key) ds es) ∙ length-append (filter (is_of kind key) ds) (filter (is_of kind key) es)

-- at most one in the header and the items
pub once : (m : Module) (kind : Kind) (key : Name) → IsSingle kind → declared_twice m ≡ [] → count_of kind key (declared_in_header m.header) + count_of kind key (flat_map declared_in_item m.items) ≤ 1
unfolding declared_twice declarations
once m kind key single h =
    let ps = flat_map declared_params m.params in
    let hs = declared_in_header m.header in
    let is = flat_map declared_in_item m.items in
    let one : count_of kind key (ps ++ hs ++ is) ≤ 1 = at_most_one clash (is_of kind key) (clash_of kind single key) [] (ps ++ hs ++ is) (none_of_map _ _ h) in
    omega (arith, one, count_both kind key (ps ++ hs) is, count_both kind key ps hs)

-- how often a name stands among names
abbrev pub count_name : Name → List Name → ℕ
count_name key names = length (filter (bytes_eq key) names)

kept_cond : {A : Type 0} (b c : Bool) (x : A) (xs : List A) → b ≡ true → length (cond (b && c) (x ∷ xs) xs) ≡ length (cond c (x ∷ xs) xs)
kept_cond b c x xs h = ap (λ b. length (cond (b && c) (x ∷ xs) xs)) h

more_cond : {A B : Type 0} (c : Bool) (x : A) (xs : List A) (y : B) (ys : List B) → length xs ≡ length ys → length (cond c (x ∷ xs) xs) ≡ length (cond c (y ∷ ys) ys)
more_cond true x xs y ys h = ap suc h
more_cond false x xs y ys h = h

pub count_declared : (kind : Kind) (key : Name) → IsSingle kind → (names : List Name) → count_of kind key (declared_as kind names) ≡ count_name key names
count_declared kind key single [] = refl
count_declared kind key single (n ∷ ns) = kept_cond (same_kind kind kind) (bytes_eq key n) _ _ single.itself ∙ more_cond (bytes_eq key n) _ _ n _ (count_declared kind key single ns)

pub count_ports : (key : Name) (names : List Name) → count_of Direction key (flat_map declared_port names) ≡ count_name key names
count_ports key [] = refl
count_ports key (n ∷ ns) = more_cond (bytes_eq key n) _ _ n _ (count_ports key ns)
