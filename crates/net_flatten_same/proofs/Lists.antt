-- what stands in the lists of a flattened design
use Rattle.std.proofs.Common.{◌≡◌, ℕ, zero, suc, ◌+◌, ◌<◌, inl, inr, List, [], ◌∷◌, ◌++◌, refl, sym, ◌∙◌, ap, subst, slice_get, Some, None, Option, Bool, true, false, not, ◌==◌, ◌||◌, length, map, arith, option_map}
use Rattle.std.specs.Prelude.{Contains, bytes_eq, if◌then◌else◌, nat_le}
use Rattle.std.specs.List.{flat_map, list_any, range_with_len}
use Rattle.std.proofs.lemmas.Bool.Decides.{Decides-eqb}
use Rattle.std.proofs.lemmas.List.Elements.{Contains-append_cases, Contains-append_left, Contains-append_right}
use Rattle.std.proofs.lemmas.Option.{slice_get-map}
use Rattle.std.proofs.lemmas.Slice.Eq.{bytes_eq-Decides}
use Rattle.net_graph.proofs.MarkLaws.{or_left, or_right}
use Rattle.net_graph.proofs.OrderLaws.{StandsIn, contained}
use Rattle.net_hier.specs.Cells.{width_of}
use Rattle.net_hier.specs.declared.cells.HPort.{HPort}
use Rattle.net_hier.specs.declared.nodes.Join.{Join}
use Rattle.flat_classes.specs.Groups.{AreInOrder, group_at, places_of}
use Rattle.flat_classes.specs.Terminals.{FlatValue, bits_of_ports}
use Rattle.flat_classes.specs.declared.flat.Terminal.{Terminal}
use Rattle.flat_classes.proofs.KindLaws.{first_or_rest, in_first, in_range_list, nothing_in}
use Rattle.flat_classes.proofs.LeafLists.{below_range, from_filter, to_filter}
use Rattle.flat_numbers.proofs.Linking.{contains_there}
use Rattle.net_flatten_rules.specs.FlatDesign.{inner, join_at, joins_from, place_in, wired}
use Rattle.net_flatten_rules.specs.Rules.{repeated}

clash : (b : Bool) → b ≡ false → ¬ (b ≡ true)
clash b e f = cc

-- ---- the place of a number
pub place_there : (xs : List ℕ) (n : ℕ) → Contains xs n → slice_get xs (place_in xs n) ≡ Some n
place_there [] n c = absurd (nothing_in n c)
place_there (x ∷ xs) n c = by (x == n) refl (λ r. place_there xs n r)
  where
    by : (b : Bool) → (x == n) ≡ b → (Contains xs n → slice_get xs (place_in xs n) ≡ Some n) → slice_get (x ∷ xs) (if b then 0 else suc (place_in xs n)) ≡ Some n
    by true e rest = ap Some ((Decides-eqb x n).0 e)
    by false e rest = elim (first_or_rest x xs n c) as (λ _. slice_get xs (place_in xs n) ≡ Some n) [
      | inl s ↦ absurd (clash (x == n) e ((Decides-eqb x n).1 s))
      | inr r ↦ rest r
    ]

-- ---- some element fits
pub any_of : {A : Type 0} (p : A → Bool) (xs : List A) (x : A) → Contains xs x → p x ≡ true → list_any p xs ≡ true
any_of p [] x c e = absurd (nothing_in x c)
any_of p (y ∷ ys) x c e = elim (first_or_rest y ys x c) as (λ _. (p y || list_any p ys) ≡ true) [
  | inl s ↦ or_left (p y) (list_any p ys) (subst (λ z. p z ≡ true) (sym s) e)
  | inr r ↦ or_right (p y) (list_any p ys) (any_of p ys x r e)
]

-- ---- names of which none stands among those before
record Fresh (before : List (List ℕ)) (name : List ℕ) (names : List (List ℕ)) : Type 0 where
  new : ¬ Contains before name
  rest : repeated (before ++ name ∷ []) names ≡ []

fresh : (before : List (List ℕ)) (name : List ℕ) (names : List (List ℕ)) → repeated before (name ∷ names) ≡ [] → Fresh before name names
fresh before name names e = by (list_any (bytes_eq name) before) refl e
  where
    by : (b : Bool) → list_any (bytes_eq name) before ≡ b → (if b then name ∷ repeated (before ++ name ∷ []) names else repeated (before ++ name ∷ []) names) ≡ [] → Fresh before name names
    by true f g = absurd (cc)
    by false f g = record { new = λ c. clash (list_any (bytes_eq name) before) f (any_of (bytes_eq name) before name c ((bytes_eq-Decides name name).1 refl)); rest = g }

not_before : (before names : List (List ℕ)) → repeated before names ≡ [] → (i : ℕ) (name : List ℕ) → slice_get names i ≡ Some name → ¬ Contains before name
not_before before [] e i name at c = absurd (cc)
not_before before (first ∷ names) e zero name at c =
    let f : Fresh before first names = fresh before first names e in
    let same : first ≡ name = cc in
    f.new (subst (Contains before) (sym same) c)
not_before before (first ∷ names) e (suc i) name at c =
    let f : Fresh before first names = fresh before first names e in
    not_before (before ++ first ∷ []) names f.rest i name at (Contains-append_left before (first ∷ []) name c)

-- of names of which none is repeated no two are one
pub names_differ : (before names : List (List ℕ)) → repeated before names ≡ [] → (i j : ℕ) (name : List ℕ) → slice_get names i ≡ Some name → slice_get names j ≡ Some name → i ≡ j
names_differ before [] e i j name a b = absurd (cc)
names_differ before (first ∷ names) e zero zero name a b = refl
names_differ before (first ∷ names) e zero (suc j) name a b =
    let f : Fresh before first names = fresh before first names e in
    let same : first ≡ name = cc in
    absurd (not_before (before ++ first ∷ []) names f.rest j name b (Contains-append_right before (first ∷ []) name (subst (Contains (first ∷ [])) same (in_first first []))))
names_differ before (first ∷ names) e (suc i) zero name a b =
    let f : Fresh before first names = fresh before first names e in
    let same : first ≡ name = cc in
    absurd (not_before (before ++ first ∷ []) names f.rest i name a (Contains-append_right before (first ∷ []) name (subst (Contains (first ∷ [])) same (in_first first []))))
names_differ before (first ∷ names) e (suc i) (suc j) name a b =
    let f : Fresh before first names = fresh before first names e in
    ap suc (names_differ (before ++ first ∷ []) names f.rest i j name a b)

pub nothing_before : {A : Type 0} (xs ys : List A) → xs ++ ys ≡ [] → xs ≡ []
nothing_before [] ys e = refl
nothing_before (x ∷ xs) ys e = absurd (cc)

pub nothing_mapped : {A B : Type 0} (f : A → B) (xs : List A) → map f xs ≡ [] → xs ≡ []
nothing_mapped f [] e = refl
nothing_mapped f (x ∷ xs) e = absurd (cc)

-- ---- elements of lists that are made of others
pub mapped_at : {A B : Type 0} (f : A → B) (xs : List A) (i : ℕ) (y : B) → slice_get (map f xs) i ≡ Some y → (x : A) × (slice_get xs i ≡ Some x) × (f x ≡ y)
mapped_at f xs i y e = by (slice_get xs i) refl (sym (slice_get-map f xs i) ∙ e)
  where
    by : (o : Option _) → slice_get xs i ≡ o → option_map f o ≡ Some y → (x : _) × (slice_get xs i ≡ Some x) × (f x ≡ y)
    by None g h = absurd (cc)
    by (Some x) g h = (x, g, cc)

pub map_at : {A B : Type 0} (f : A → B) (xs : List A) (i : ℕ) (x : A) → slice_get xs i ≡ Some x → slice_get (map f xs) i ≡ Some (f x)
map_at f xs i x e = slice_get-map f xs i ∙ ap (option_map f) e

from_map : {A B : Type 0} (f : A → B) (xs : List A) (y : B) → Contains (map f xs) y → (x : A) × Contains xs x × (f x ≡ y)
from_map f xs y c =
    let s : StandsIn (map f xs) y = contained (map f xs) y c in
    let (x, there, e) = mapped_at f xs s.place y s.is_there in
    (x, contains_there xs s.place x there, e)

to_map : {A B : Type 0} (f : A → B) (xs : List A) (x : A) → Contains xs x → Contains (map f xs) (f x)
to_map f xs x c = let s : StandsIn xs x = contained xs x c in contains_there (map f xs) s.place (f x) (map_at f xs s.place x s.is_there)

pub to_flat : {A B : Type 0} (f : A → List B) (xs : List A) (x : A) (y : B) → Contains xs x → Contains (f x) y → Contains (flat_map f xs) y
to_flat f [] x y c d = absurd (nothing_in x c)
to_flat f (first ∷ xs) x y c d = elim (first_or_rest first xs x c) as (λ _. Contains (flat_map f (first ∷ xs)) y) [
  | inl e ↦ Contains-append_left (f first) (flat_map f xs) y (subst (λ w. Contains (f w) y) (sym e) d)
  | inr r ↦ Contains-append_right (f first) (flat_map f xs) y (to_flat f xs x y r d)
]

to_range : (n k : ℕ) → k < n → Contains (range_with_len 0 n) k
to_range n k lt = subst (Contains (range_with_len 0 n)) (zero_on k) (in_range_list n 0 k lt)
  where
    zero_on : (k : ℕ) → 0 + k ≡ k
    zero_on k = omega arith

-- the bit of a port stands in the list of bits
pub to_bits : {A : Type 0} (make : ℕ → ℕ → A) (first : ℕ) (ports : List HPort) (i bit : ℕ) (port : HPort) → slice_get ports i ≡ Some port → bit < width_of port.range → Contains (bits_of_ports make first ports) (make (first + i) bit)
to_bits make first [] i bit port e lt = absurd (cc)
to_bits make first (p ∷ ports) zero bit port e lt =
    let same : p ≡ port = cc in
    let inside : bit < width_of p.range = subst (λ (q : HPort). bit < width_of q.range) (sym same) lt in
    Contains-append_left (map (make first) (range_with_len 0 (width_of p.range))) (bits_of_ports make (suc first) ports) (make (first + 0) bit)
    (subst (λ n. Contains (map (make first) (range_with_len 0 (width_of p.range))) (make n bit)) (and_zero first) (to_map (make first) (range_with_len 0 (width_of p.range)) bit (to_range (width_of p.range) bit inside)))
  where
    and_zero : (n : ℕ) → n ≡ n + 0
    and_zero n = omega arith
to_bits make first (p ∷ ports) (suc i) bit port e lt =
    Contains-append_right (map (make first) (range_with_len 0 (width_of p.range))) (bits_of_ports make (suc first) ports) (make (first + suc i) bit)
    (subst (λ n. Contains (bits_of_ports make (suc first) ports) (make n bit)) (one_on first i) (to_bits make (suc first) ports i bit port e lt))
  where
    one_on : (n i : ℕ) → suc n + i ≡ n + suc i
    one_on n i = omega arith

-- ---- the leaves below the top
below_top : (n : ℕ) → ¬ (n ≡ 0) → not (n == 0) ≡ true
below_top n differ = grind (arith, differ)

no_top : (n : ℕ) → not (n == 0) ≡ true → ¬ (n ≡ 0)
no_top n e f = grind (arith, e, f)

pub to_inner : (leaves : List ℕ) (leaf : ℕ) → Contains leaves leaf → ¬ (leaf ≡ 0) → Contains (inner leaves) leaf
to_inner leaves leaf c differ = to_filter (λ n. not (n == 0)) leaves leaf c (below_top leaf differ)

pub from_inner : (leaves : List ℕ) (leaf : ℕ) → Contains (inner leaves) leaf → Contains leaves leaf × (¬ (leaf ≡ 0))
from_inner leaves leaf c = let r = from_filter (λ n. not (n == 0)) leaves leaf c in (r.0, no_top leaf r.1)

-- ---- groups of two or more
pub record IsGroup (flat : FlatValue) (members : List ℕ) : Type 0 where
  pub group : ℕ
  pub is : members ≡ places_of flat.groups group

pub from_wired : (flat : FlatValue) (k : ℕ) (members : List ℕ) → slice_get (wired flat) k ≡ Some members → IsGroup flat members
from_wired flat k members e =
    let (listed, two) = from_filter (λ (m : List ℕ). nat_le 2 (length m)) (map (places_of flat.groups) (range_with_len 0 flat.count)) members (contains_there (wired flat) k members e) in
    let (group, there, is) = from_map (places_of flat.groups) (range_with_len 0 flat.count) members listed in
    record { group = group; is = sym is }

pub member_group : (flat : FlatValue) (members : List ℕ) (g : IsGroup flat members) (place : ℕ) → Contains members place → (group_at flat.groups place ≡ g.group) × (place < length flat.groups)
member_group flat members g place c =
    let (there, is) = from_filter (λ p. group_at flat.groups p == g.group) (range_with_len 0 (length flat.groups)) place (subst (λ m. Contains m place) g.is c) in
    ((Decides-eqb (group_at flat.groups place) g.group).0 is, below_range (length flat.groups) place there)

two_there : (xs : List ℕ) (i j : ℕ) → Contains xs i → Contains xs j → ¬ (i ≡ j) → nat_le 2 (length xs) ≡ true
two_there [] i j a b differ = absurd (nothing_in i a)
two_there (x ∷ []) i j a b differ = absurd (differ (only x i a ∙ sym (only x j b)))
  where
    only : (x i : ℕ) → Contains (x ∷ []) i → i ≡ x
    only x i c = elim (first_or_rest x [] i c) [ inl e ↦ sym e | inr r ↦ absurd (nothing_in i r) ]
two_there (x ∷ y ∷ xs) i j a b differ = grind arith

-- two places of one group stand together in a list of members
pub record Together (flat : FlatValue) (i j : ℕ) : Type 0 where
  pub net : ℕ
  pub members : List ℕ
  pub is_there : slice_get (wired flat) net ≡ Some members
  pub first : Contains members i
  pub second : Contains members j

pub together : (flat : FlatValue) → AreInOrder flat.groups flat.count → (i j : ℕ) → i < length flat.groups → j < length flat.groups → ¬ (i ≡ j) → group_at flat.groups i ≡ group_at flat.groups j → Together flat i j
together flat in_order i j li lj differ same =
    let g : ℕ = group_at flat.groups j in
    let has : (p : ℕ) → p < length flat.groups → group_at flat.groups p ≡ g → Contains (places_of flat.groups g) p =
    λ p lt e. to_filter (λ q. group_at flat.groups q == g) (range_with_len 0 (length flat.groups)) p (to_range (length flat.groups) p lt) ((Decides-eqb (group_at flat.groups p) g).1 e) in
    let a : Contains (places_of flat.groups g) i = has i li same in
    let b : Contains (places_of flat.groups g) j = has j lj refl in
    let listed : Contains (map (places_of flat.groups) (range_with_len 0 flat.count)) (places_of flat.groups g) =
    to_map (places_of flat.groups) (range_with_len 0 flat.count) g (to_range flat.count g (in_order.within j lj)) in
    let s : StandsIn (wired flat) (places_of flat.groups g) =
    contained (wired flat) (places_of flat.groups g) (to_filter (λ (m : List ℕ). nat_le 2 (length m)) (map (places_of flat.groups) (range_with_len 0 flat.count)) (places_of flat.groups g) listed (two_there (places_of flat.groups g) i j a b differ)) in
    record { net = s.place; members = places_of flat.groups g; is_there = s.is_there; first = a; second = b }

-- ---- the joins of nets
pub record IsNetJoin (terminals : List Terminal) (leaves : List ℕ) (net : ℕ) (lists : List (List ℕ)) (join : Join) : Type 0 where
  pub number : ℕ
  pub members : List ℕ
  pub is_there : slice_get lists number ≡ Some members
  pub place : ℕ
  pub is_member : Contains members place
  pub is : join ≡ join_at terminals leaves (net + number) place

module _ (terminals : List Terminal) (leaves : List ℕ) where
  pub from_joins : (net : ℕ) (lists : List (List ℕ)) (join : Join) → Contains (joins_from terminals leaves net lists) join → IsNetJoin terminals leaves net lists join
  from_joins net [] join c = absurd (nothing_in join c)
  from_joins net (members ∷ lists) join c = elim (Contains-append_cases (map (join_at terminals leaves net) members) (joins_from terminals leaves (suc net) lists) join c) [
    | inl d ↦
        let (place, is_member, e) = from_map (join_at terminals leaves net) members join d in
        record { number = 0; members = members; is_there = refl; place = place; is_member = is_member; is = sym e ∙ ap (λ n. join_at terminals leaves n place) (and_zero net) }
    | inr d ↦
        let r : IsNetJoin terminals leaves (suc net) lists join = from_joins (suc net) lists join d in
        record { number = suc r.number; members = r.members; is_there = r.is_there; place = r.place; is_member = r.is_member; is = r.is ∙ ap (λ n. join_at terminals leaves n r.place) (one_on net r.number) }
  ]
    where
      and_zero : (n : ℕ) → n ≡ n + 0
      and_zero n = omega arith

      one_on : (n i : ℕ) → suc n + i ≡ n + suc i
      one_on n i = omega arith

  pub to_joins : (net : ℕ) (lists : List (List ℕ)) (number : ℕ) (members : List ℕ) (place : ℕ) → slice_get lists number ≡ Some members → Contains members place → Contains (joins_from terminals leaves net lists) (join_at terminals leaves (net + number) place)
  to_joins net [] number members place e c = absurd (cc)
  to_joins net (first ∷ lists) zero members place e c =
      let same : first ≡ members = cc in
      Contains-append_left (map (join_at terminals leaves net) first) (joins_from terminals leaves (suc net) lists) (join_at terminals leaves (net + 0) place)
      (subst (λ n. Contains (map (join_at terminals leaves net) first) (join_at terminals leaves n place)) (and_zero net) (to_map (join_at terminals leaves net) first place (subst (λ m. Contains m place) (sym same) c)))
    where
      and_zero : (n : ℕ) → n ≡ n + 0
      and_zero n = omega arith
  to_joins net (first ∷ lists) (suc number) members place e c =
      Contains-append_right (map (join_at terminals leaves net) first) (joins_from terminals leaves (suc net) lists) (join_at terminals leaves (net + suc number) place)
      (subst (λ n. Contains (joins_from terminals leaves (suc net) lists) (join_at terminals leaves n place)) (one_on net number) (to_joins (suc net) lists number members place e c))
    where
      one_on : (n i : ℕ) → suc n + i ≡ n + suc i
      one_on n i = omega arith
