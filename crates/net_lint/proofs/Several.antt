-- The sets of several drivers, by the first drivers of the groups.
use Rattle.std.proofs.Common.{◌≡◌, ℕ, zero, suc, ◌<◌, ◌≤◌, inl, inr, List, [], ◌∷◌, refl, sym, ◌∙◌, ap, subst, slice_get, get_or, Some, Bool, true, length, map, arith}
use Rattle.std.specs.Prelude.{Contains}
use Rattle.std.specs.List.{range_with_len}
use Rattle.std.proofs.lemmas.Bool.{eqb-true}
use Rattle.net_hier.specs.Constants.{ConstantNames}
use Rattle.net_hier.specs.Design.{Design}
use Rattle.net_hier.specs.Valid.{IsValid}
use Rattle.flat_numbers.proofs.Linking.{contains_there}
use Rattle.flat_classes.specs.Groups.{group_at, places_of}
use Rattle.flat_classes.specs.Terminals.{AreFlatClasses, FlatValue}
use Rattle.flat_classes.proofs.FlatLaws.{filtered_range}
use Rattle.flat_classes.proofs.KindLaws.{first_or_rest, in_first, in_rest, nothing_in}
use Rattle.flat_classes.proofs.LeafLists.{below_range, from_filter, to_filter}
use Rattle.net_lint.specs.Findings.{AreSeveral, AreThose, IsDriverOf, IsSeveral, View}
use Rattle.net_lint.specs.Groups.{drivers_among, drivers_at, first_drivers, is_first, roles_of, sets_of}
use Rattle.net_lint.specs.Lint.{view_of}
use Rattle.net_lint.proofs.Chosen.{chosen_holds, counted, eqb_same, one_those}
use Rattle.net_lint.proofs.Meaning.{drivers_are, grouped, many}

-- a set of which this is the first has two or more, and begins with it
first_two : (drivers : List ℕ) (place : ℕ) → is_first drivers place ≡ true → (rest : List ℕ) × (drivers ≡ place ∷ rest) × (2 ≤ length drivers)
first_two [] place e = absurd (cc)
first_two (first ∷ []) place e = absurd (cc)
first_two (first ∷ second ∷ others) place e = let same : first ≡ place = eqb-true first place e in (second ∷ others, ap (λ p. p ∷ second ∷ others) same, omega arith)

two_first : (first second : ℕ) (others : List ℕ) → is_first (first ∷ second ∷ others) first ≡ true
two_first first second others = eqb_same first first refl

head_same : (a b : ℕ) (xs ys : List ℕ) → a ∷ xs ≡ b ∷ ys → a ≡ b
head_same a b xs ys e = cc

-- what is mapped stands in the list of what is mapped
in_map : {X Y : Type 0} (f : X → Y) (xs : List X) (x : X) → Contains xs x → Contains (map f xs) (f x)
in_map f [] x c = absurd (nothing_in x c)
in_map f (y ∷ ys) x c = elim (first_or_rest y ys x c) as (λ _. Contains (map f (y ∷ ys)) (f x)) [
  | inl e ↦ subst (λ z. Contains (f y ∷ map f ys) (f z)) e (in_first (f y) (map f ys))
  | inr r ↦ in_rest (f y) (map f ys) (f x) (in_map f ys x r)
]

from_map : {X Y : Type 0} (f : X → Y) (xs : List X) (y : Y) → Contains (map f xs) y → (x : X) × Contains xs x × (f x ≡ y)
from_map f [] y c = absurd (nothing_in y c)
from_map f (x ∷ xs) y c = elim (first_or_rest (f x) (map f xs) y c) [
  | inl e ↦ (x, in_first x xs, e)
  | inr r ↦ let (z, there, e) = from_map f xs y r in (z, in_rest x xs z there, e)
]

map_read : {X Y : Type 0} (f : X → Y) (xs : List X) (i : ℕ) (y : Y) → slice_get (map f xs) i ≡ Some y → (x : X) × (slice_get xs i ≡ Some x) × (f x ≡ y)
map_read f [] i y e = absurd (cc)
map_read f (x ∷ xs) zero y e = (x, refl, cc)
map_read f (x ∷ xs) (suc i) y e = map_read f xs i y e

module _ (names : ConstantNames) (design : Design) (valid : IsValid design) (flat : FlatValue) (are : AreFlatClasses names design flat) (drivers : List (List ℕ)) (are_drivers : (group : ℕ) → group < flat.count → get_or drivers group [] ≡ drivers_among (roles_of design.cells flat) (places_of flat.groups group)) where
  abbrev view : View
  view = view_of names design flat

  abbrev firsts : List ℕ
  firsts = first_drivers flat.groups drivers

  abbrev test : ℕ → Bool
  test place = is_first (drivers_at flat.groups drivers place) place

  long : length flat.groups ≡ length flat.terminals
  long = many names design valid flat are

  -- the set of a place holds the drivers that are connected to it
  set_are : (place : ℕ) → place < length flat.terminals → AreThose (IsDriverOf view place) (range_with_len 0 (length flat.terminals)) (drivers_at flat.groups drivers place)
  set_are place lt =
      let l = long in
      let below : group_at flat.groups place < flat.count = are.are_numbers.in_order.within place (omega (arith, lt, l)) in
      subst (AreThose (IsDriverOf view place) (range_with_len 0 (length flat.terminals))) (sym (are_drivers (group_at flat.groups place) below)) (drivers_are names design valid flat are place lt)

  first_facts : (first : ℕ) → Contains firsts first → (first < length flat.terminals) × (is_first (drivers_at flat.groups drivers first) first ≡ true)
  first_facts first c =
      let (there, e) = from_filter test (range_with_len 0 (length flat.groups)) first c in
      let lt = below_range (length flat.groups) first there in
      let l = long in
      (omega (arith, lt, l), e)

  listed_set : (set : List ℕ) → Contains (sets_of flat.groups drivers firsts) set → IsSeveral view set
  listed_set set c =
      let (first, there, e) = from_map (drivers_at flat.groups drivers) firsts set c in
      let (lt, is) = first_facts first there in
      let (rest, begins, two) = first_two (drivers_at flat.groups drivers first) first is in
      record { place = first; is_there = lt; are = subst (AreThose (IsDriverOf view first) (range_with_len 0 (length flat.terminals))) e (set_are first lt); two = subst (λ s. 2 ≤ length s) e two }

  -- a set of several is that of its first driver
  by_first : (place : ℕ) (set : List ℕ) → drivers_at flat.groups drivers place ≡ set → AreThose (IsDriverOf view place) (range_with_len 0 (length flat.terminals)) set → 2 ≤ length set → Contains (sets_of flat.groups drivers firsts) set
  by_first place [] e those two = absurd (omega (arith, two))
  by_first place (first ∷ []) e those two = absurd (omega (arith, two))
  by_first place (first ∷ second ∷ others) e those two =
      let (there, drives) = chosen_holds those first (in_first first (second ∷ others)) in
      let group = grouped names design valid flat are place first drives.connected in
      let same : drivers_at flat.groups drivers first ≡ first ∷ second ∷ others = ap (λ g. get_or drivers g []) group ∙ e in
      let l = long in
      let lt = below_range (length flat.terminals) first there in
      let inside : first < length flat.groups = omega (arith, l, lt) in
      let chosen : Contains firsts first = to_filter test (range_with_len 0 (length flat.groups)) first (counted (length flat.groups) first inside) (ap (λ s. is_first s first) same ∙ two_first first second others) in
      subst (Contains (sets_of flat.groups drivers firsts)) same (in_map (drivers_at flat.groups drivers) firsts first chosen)

  several_set : (set : List ℕ) → IsSeveral view set → Contains (sets_of flat.groups drivers firsts) set
  several_set set is = by_first is.place set (one_those (set_are is.place is.is_there) is.are) is.are is.two

  pub several_are : AreSeveral view (sets_of flat.groups drivers firsts)
  several_are = record {
    are = λ set. (listed_set set, several_set set);
    in_order = λ i j first other rest others lt e f.
        let (a, at_i, same) = map_read (drivers_at flat.groups drivers) firsts i (first ∷ rest) e in
        let (b, at_j, alike) = map_read (drivers_at flat.groups drivers) firsts j (other ∷ others) f in
        let (la, is_a) = first_facts a (contains_there firsts i a at_i) in
        let (lb, is_b) = first_facts b (contains_there firsts j b at_j) in
        let (more, begins, two) = first_two (drivers_at flat.groups drivers a) a is_a in
        let (further, starts, pair) = first_two (drivers_at flat.groups drivers b) b is_b in
        let p : first ≡ a = head_same first a rest more (sym same ∙ begins) in
        let q : other ≡ b = head_same other b others further (sym alike ∙ starts) in
        let less = filtered_range test (length flat.groups) 0 i j a b lt at_i at_j in
        omega (arith, p, q, less);
  }
