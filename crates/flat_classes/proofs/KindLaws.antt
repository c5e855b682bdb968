-- links, leaves and constant cells of the first cells
use Rattle.std.proofs.Common.{◌≡◌, ℕ, zero, suc, ◌+◌, ◌<◌, ◌≤◌, ◌⊎◌, ◌↔◌, inl, inr, List, [], ◌∷◌, ◌++◌, refl, sym, ◌∙◌, ap, subst, slice_get, get_or, map, Some, Option, Bool, true, false, length, length-append, sum_by, arith, Vec, Global}
use Rattle.std.specs.Prelude.{Contains, IsTrue}
use Rattle.std.specs.List.{flat_map, range_with_len}
use Rattle.std.proofs.lemmas.List.Elements.{Contains-append_cases}
use Rattle.std.proofs.lemmas.List.Sums.{sum_by-cons}
use Rattle.std.proofs.lemmas.List.{append-nil}
use Rattle.std.proofs.lemmas.Grind.{flat_map-append}
use Rattle.flat_numbers.proofs.Reading.{range_last}
use Rattle.std.proofs.lemmas.Option.{slice_get_within}
use Rattle.net_graph.proofs.OrderLaws.{contained, get_front, get_last}
use Rattle.net_hier.specs.Cells.{IsConstantCell, IsLeaf}
use Rattle.net_hier.specs.Constants.{ConstantNames}
use Rattle.net_hier.specs.Design.{Design, IsCell}
use Rattle.net_hier.specs.Units.{cell_units}
use Rattle.net_hier.specs.Valid.{IsGoodCell, IsHier, IsNode}
use Rattle.net_hier.specs.declared.cells.HCell.{HCell}
use Rattle.net_hier.specs.declared.nodes.Join.{Join}
use Rattle.net_hier.specs.declared.nodes.Node.{Node}
use Rattle.net_hier.proofs.PathLaws.{same_element}
use Rattle.net_bits.specs.Classes.{AreClasses, ClassTable, class_of, members_of}
use Rattle.net_bits.proofs.CallerLaws.{connected_classes, member_of_class}
use Rattle.flat_numbers.specs.FlatJoins.{joins_in, links_in, or_own}
use Rattle.flat_classes.specs.Kinds.{AreKinds, IsKindOf, star, stars}
use Rattle.flat_numbers.specs.Numbers.{AreLinks}
use Rattle.flat_classes.specs.declared.kinds.Kind.{Kind}
use Rattle.flat_classes.specs.declared.kinds.Kinds.{Kinds}
use Rattle.flat_numbers.proofs.OwnLinks.{row_links}
use Rattle.flat_numbers.proofs.Linking.{contains_there}
use Rattle.flat_numbers.proofs.Rows.{last_or_less}
use Rattle.flat_classes.proofs.Stars.{star_links}

-- ---- what stands in a list that is made of another
pub in_first : {X : Type 0} (x : X) (xs : List X) → Contains (x ∷ xs) x
in_first x xs = contains_there (x ∷ xs) 0 x refl

pub in_rest : {X : Type 0} (x : X) (xs : List X) (y : X) → Contains xs y → Contains (x ∷ xs) y
in_rest x xs y c = let s = contained xs y c in contains_there (x ∷ xs) (suc s.place) y s.is_there

pub first_or_rest : {X : Type 0} (x : X) (xs : List X) (y : X) → Contains (x ∷ xs) y → (x ≡ y) ⊎ Contains xs y
first_or_rest x xs y c = let s = contained (x ∷ xs) y c in by s.place s.is_there
  where
    by : (place : ℕ) → slice_get (x ∷ xs) place ≡ Some y → (x ≡ y) ⊎ Contains xs y
    by zero e = inl (cc)
    by (suc place) e = inr (contains_there xs place y e)

pub nothing_in : {X : Type 0} (x : X) → ¬ Contains [] x
nothing_in x c = let lt = c.1 in omega (arith, lt)

in_front : {X : Type 0} (xs ys : List X) (y : X) → Contains xs y → Contains (xs ++ ys) y
in_front xs ys y c = let s = contained xs y c in contains_there (xs ++ ys) s.place y (get_front xs ys s.place y s.is_there)

in_behind : {X : Type 0} (xs ys : List X) (y : X) → Contains ys y → Contains (xs ++ ys) y
in_behind [] ys y c = c
in_behind (x ∷ xs) ys y c = in_rest x (xs ++ ys) y (in_behind xs ys y c)

in_flat : {X Y : Type 0} (f : X → List Y) (xs : List X) (x : X) (y : Y) → Contains xs x → Contains (f x) y → Contains (flat_map f xs) y
in_flat f [] x y c d = absurd (nothing_in x c)
in_flat f (first ∷ xs) x y c d = elim (first_or_rest first xs x c) as (λ _. Contains (flat_map f (first ∷ xs)) y) [
  | inl e ↦ in_front (f first) (flat_map f xs) y (subst (λ w. Contains (f w) y) (sym e) d)
  | inr r ↦ in_behind (f first) (flat_map f xs) y (in_flat f xs x y r d)
]

pub from_flat : {X Y : Type 0} (f : X → List Y) (xs : List X) (y : Y) → Contains (flat_map f xs) y → (x : X) × Contains xs x × Contains (f x) y
from_flat f [] y c = absurd (nothing_in y c)
from_flat f (first ∷ xs) y c = elim (Contains-append_cases (f first) (flat_map f xs) y c) [
  | inl d ↦ (first, in_first first xs, d)
  | inr d ↦ let (x, there, e) = from_flat f xs y d in (x, in_rest first xs x there, e)
]

pub in_range_list : (n a k : ℕ) → k < n → Contains (range_with_len a n) (a + k)
in_range_list zero a k lt = absurd (omega arith)
in_range_list (suc n) a zero lt = subst (Contains (a ∷ range_with_len (a + 1) n)) (more a) (in_first a (range_with_len (a + 1) n))
  where
    more : (a : ℕ) → a ≡ a + 0
    more a = omega arith
in_range_list (suc n) a (suc k) lt = subst (Contains (a ∷ range_with_len (a + 1) n)) (shift a k) (in_rest a (range_with_len (a + 1) n) ((a + 1) + k) (in_range_list n (a + 1) k (omega arith)))
  where
    shift : (a k : ℕ) → (a + 1) + k ≡ a + suc k
    shift a k = omega arith

-- ---- stars
in_star : (hub : Node) (others : List Node) (b : Node) → Contains others b → Contains (star (hub ∷ others)) (record { a = hub; b = b })
in_star hub [] b c = absurd (nothing_in b c)
in_star hub (first ∷ others) b c = elim (first_or_rest first others b c) as (λ _. Contains (star (hub ∷ (first ∷ others))) (record { a = hub; b = b })) [
  | inl e ↦ subst (λ w. Contains (star (hub ∷ (first ∷ others))) (record { a = hub; b = w })) e (in_first (record { a = hub; b = first }) (star (hub ∷ others)))
  | inr r ↦ in_rest (record { a = hub; b = first }) (star (hub ∷ others)) (record { a = hub; b = b }) (in_star hub others b r)
]

from_rays : (hub : Node) (others : List Node) (a b : Node) → Contains (star (hub ∷ others)) (record { a = a; b = b }) → (hub ≡ a) × Contains others b
from_rays hub [] a b c = absurd (nothing_in (record { a = a; b = b }) c)
from_rays hub (first ∷ others) a b c = elim (first_or_rest (record { a = hub; b = first }) (star (hub ∷ others)) (record { a = a; b = b }) c) as (λ _. (hub ≡ a) × Contains (first ∷ others) b) [
  | inl e ↦ (ap (λ (w : Join). w.a) e, subst (Contains (first ∷ others)) (ap (λ (w : Join). w.b) e) (in_first first others))
  | inr r ↦ let (p, d) = from_rays hub others a b r in (p, in_rest first others b d)
]

from_star : (nodes : List Node) (a b : Node) → Contains (star nodes) (record { a = a; b = b }) → (rest : List Node) × (nodes ≡ a ∷ rest) × Contains rest b
from_star [] a b c = absurd (nothing_in (record { a = a; b = b }) c)
from_star (hub ∷ others) a b c = let (p, d) = from_rays hub others a b c in (others, ap (λ w. w ∷ others) p, d)

zero_and : (k : ℕ) → 0 + k ≡ k
zero_and k = omega arith

end_of : (join : Join) (x : Node) → Contains (join.a ∷ (join.b ∷ [])) x → (join.a ≡ x) ⊎ (join.b ≡ x)
end_of join x c = elim (first_or_rest join.a (join.b ∷ []) x c) [ inl e ↦ inl e | inr r ↦ elim (first_or_rest join.b [] x r) [ inl e ↦ inr e | inr n ↦ absurd (nothing_in x n) ] ]

-- the stars of a cell's classes are links of it
pub stars_are_links : (cells : List HCell) (cell : HCell) (classes : ClassTable) → IsGoodCell cells cell → AreClasses cell classes → AreLinks cells cell (stars classes)
stars_are_links cells cell classes good are = star_links cells cell (class_of classes) (members_of classes) (stars classes) (record {
  same = connected_classes cell classes are;
  are_nodes = λ x k e.
      let (join, there, end) = from_flat (λ (j : Join). j.a ∷ (j.b ∷ [])) cell.joins x ((are.joined x).1 (k, e)) in
      let s = contained cell.joins join there in
      let nodes = good.joins_in_range s.place join s.is_there in
      elim (end_of join x end) as (λ _. IsNode cells cell x) [ inl p ↦ subst (IsNode cells cell) p nodes.0 | inr p ↦ subst (IsNode cells cell) p nodes.1 ];
  are_members = λ k x. ((member_of_class cell classes are x k).1, (member_of_class cell classes are x k).0);
  are_links = λ a b. (
    λ c. let (k, there, ray) = from_flat (λ class. star (members_of classes class)) (range_with_len 0 classes.count) (record { a = a; b = b }) c in
        let (rest, e, d) = from_star (members_of classes k) a b ray in
        (k, rest, e, d),
    λ h.
        let k : ℕ = h.0 in
        let rest : List Node = h.1 in
        let e : members_of classes k ≡ a ∷ rest = h.2 in
        let member : Contains (members_of classes k) a = subst (λ w. Contains w a) (sym e) (in_first a rest) in
        let lt = are.below a k ((member_of_class cell classes are a k).1 member) in
        in_flat (λ class. star (members_of classes class)) (range_with_len 0 classes.count) k (record { a = a; b = b })
        (subst (Contains (range_with_len 0 classes.count)) (zero_and k) (in_range_list classes.count 0 k lt))
        (subst (λ w. Contains (star w) (record { a = a; b = b })) (sym e) (in_star a rest b h.3)),
  );
})

pub stars_next : (classes : ClassTable) (class : ℕ) (old new : List Join) (nodes : List Node) → new ≡ old ++ star nodes → nodes ≡ members_of classes class →
    old ≡ flat_map (λ k. star (members_of classes k)) (range_with_len 0 class) → new ≡ flat_map (λ k. star (members_of classes k)) (range_with_len 0 (class + 1))
stars_next classes class old new nodes e f g =
    let F : ℕ → List Join = λ k. star (members_of classes k) in
    let z : 0 + class ≡ class = zero_and class in
    let r : range_with_len 0 (class + 1) ≡ range_with_len 0 class ++ class ∷ [] = range_last 0 class ∙ ap (λ n. range_with_len 0 class ++ n ∷ []) z in
    e ∙ (ap (λ w. w ++ star nodes) g ∙ (ap (λ w. flat_map F (range_with_len 0 class) ++ star w) f ∙ (ap (λ w. flat_map F (range_with_len 0 class) ++ w) (sym (append-nil (F class))) ∙ (sym (flat_map-append F (range_with_len 0 class) (class ∷ [])) ∙ ap (flat_map F) (sym r)))))

-- ---- few joins
pub part_of_sum : {X : Type 0} (f : X → ℕ) (xs : List X) (i : ℕ) (x : X) → slice_get xs i ≡ Some x → f x ≤ sum_by f xs
part_of_sum f [] i x e = absurd (cc)
part_of_sum f (y ∷ xs) zero x e = let p : y ≡ x = cc in let q = ap f p in omega (arith, q, sum_by-cons f y xs)
part_of_sum f (y ∷ xs) (suc i) x e = let le = part_of_sum f xs i x e in omega (arith, le, sum_by-cons f y xs)

pub few_joins : (design : Design) → IsHier design → (number : ℕ) (cell : HCell) → IsCell design.cells number cell → length cell.joins ≤ 33554432
few_joins design hier number cell is = let le = part_of_sum cell_units design.cells number cell is in omega (arith, le, hier.few_units)

pub both_values : (names : ConstantNames) (cell : HCell) (found : Option Bool) → ((found ≡ Some false) ↔ IsConstantCell names false cell) → ((found ≡ Some true) ↔ IsConstantCell names true cell) → (value : Bool) → (found ≡ Some value) ↔ IsConstantCell names value cell
both_values names cell found of_zero of_one false = of_zero
both_values names cell found of_zero of_one true = of_one

-- ---- the first cells
pub record AreKindsUpTo (names : ConstantNames) (cells : List HCell) (done : ℕ) (links : List (Vec Join Global)) (leaves : List Bool) (constants : List (Option Bool)) : Type 0 where
  pub within : done ≤ length cells
  pub links_len : length links ≡ done
  pub leaves_len : length leaves ≡ done
  pub constants_len : length constants ≡ done
  pub links_are : (number : ℕ) (cell : HCell) → number < done → IsCell cells number cell → AreLinks cells cell (links_in cells links number)
  pub leaves_are : (number : ℕ) (cell : HCell) → number < done → IsCell cells number cell → (slice_get leaves number ≡ Some true) ↔ IsLeaf cell
  pub constants_are : (number : ℕ) (cell : HCell) (value : Bool) → number < done → IsCell cells number cell → (slice_get constants number ≡ Some (Some value)) ↔ IsConstantCell names value cell

read_before : {X : Type 0} (xs : List X) (x : X) (i : ℕ) → i < length xs → slice_get (xs ++ x ∷ []) i ≡ slice_get xs i
read_before [] x i lt = absurd (omega arith)
read_before (y ∷ xs) x zero lt = refl
read_before (y ∷ xs) x (suc i) lt = read_before xs x i (omega arith)

abbrev row_in : List (Vec Join Global) → ℕ → List Join
row_in rows number = get_or (map (λ row. row.items) rows) number []

row_before : (rows : List (Vec Join Global)) (row : Vec Join Global) (i : ℕ) → i < length rows → row_in (rows ++ row ∷ []) i ≡ row_in rows i
row_before [] row i lt = absurd (omega arith)
row_before (first ∷ rows) row zero lt = refl
row_before (first ∷ rows) row (suc i) lt = row_before rows row i (omega arith)

row_last : (rows : List (Vec Join Global)) (row : Vec Join Global) → row_in (rows ++ row ∷ []) (length rows) ≡ row.items
row_last [] row = refl
row_last (first ∷ rows) row = row_last rows row

truth_of : (b : Bool) → (Some b ≡ Some true) ↔ IsTrue b
truth_of true = (λ e. refl, λ e. refl)
truth_of false = (λ e. absurd (cc), λ e. absurd (cc))

last_len : {X : Type 0} (xs : List X) (x : X) (n : ℕ) → length xs ≡ n → length (xs ++ x ∷ []) ≡ n + 1
last_len xs x n e = let l = length-append xs (x ∷ []) in omega (arith, l, e)

module _ (names : ConstantNames) (cells : List HCell) where
  pub kinds_first : AreKindsUpTo names cells 0 [] [] []
  kinds_first = record {
    within = omega arith;
    links_len = refl;
    leaves_len = refl;
    constants_len = refl;
    links_are = λ number cell lt is. absurd (omega (arith, lt));
    leaves_are = λ number cell lt is. absurd (omega (arith, lt));
    constants_are = λ number cell value lt is. absurd (omega (arith, lt));
  }

  pub kinds_next : (done : ℕ) (links more_links : List (Vec Join Global)) (leaves more_leaves : List Bool) (constants more_constants : List (Option Bool)) (kind : Kind) (cell : HCell) →
      IsCell cells done cell → IsGoodCell cells cell → more_links ≡ links ++ kind.links ∷ [] → more_leaves ≡ leaves ++ kind.leaf ∷ [] → more_constants ≡ constants ++ kind.constant ∷ [] →
      IsKindOf names cells cell kind → AreKindsUpTo names cells done links leaves constants → AreKindsUpTo names cells (done + 1) more_links more_leaves more_constants
  kinds_next done links more_links leaves more_leaves constants more_constants kind cell is good e f g is_kind k = record {
    within = let lt = slice_get_within cells done cell is in omega (arith, lt);
    links_len = ap length e ∙ last_len links kind.links done k.links_len;
    leaves_len = ap length f ∙ last_len leaves kind.leaf done k.leaves_len;
    constants_len = ap length g ∙ last_len constants kind.constant done k.constants_len;
    links_are = λ number other lt is_other. elim (last_or_less number done lt) as (λ _. AreLinks cells other (links_in cells more_links number)) [
      | inl less ↦ subst (λ w. AreLinks cells other (or_own w (joins_in cells number))) (sym (ap (λ w. row_in w number) e ∙ row_before links kind.links number (omega (arith, less, k.links_len)))) (k.links_are number other less is_other)
      | inr p ↦
          let same : cell ≡ other = same_element cells number cell other (subst (λ n. IsCell cells n cell) (sym p) is) is_other in
          let here : row_in more_links number ≡ kind.links.items = ap (λ w. row_in w number) e ∙ (ap (row_in (links ++ kind.links ∷ [])) (p ∙ sym k.links_len) ∙ row_last links kind.links) in
          subst (λ w. AreLinks cells other (or_own w (joins_in cells number))) (sym here) (row_links cells number other is_other (subst (IsGoodCell cells) same good) kind.links.items (subst (λ (c : HCell). (kind.links.items ≡ []) ⊎ AreLinks cells c kind.links.items) same is_kind.links))
    ];
    leaves_are = λ number other lt is_other. elim (last_or_less number done lt) as (λ _. (slice_get more_leaves number ≡ Some true) ↔ IsLeaf other) [
      | inl less ↦
          let r : slice_get more_leaves number ≡ slice_get leaves number = ap (λ w. slice_get w number) f ∙ read_before leaves kind.leaf number (omega (arith, less, k.leaves_len)) in
          let old = k.leaves_are number other less is_other in
          (λ h. old.0 (sym r ∙ h), λ h. r ∙ old.1 h)
      | inr p ↦
          let same : cell ≡ other = same_element cells number cell other (subst (λ n. IsCell cells n cell) (sym p) is) is_other in
          let r : slice_get more_leaves number ≡ Some kind.leaf = ap (λ w. slice_get w number) f ∙ (ap (slice_get (leaves ++ kind.leaf ∷ [])) (p ∙ sym k.leaves_len) ∙ get_last leaves kind.leaf) in
          (λ h. subst IsLeaf same (is_kind.leaf.0 ((truth_of kind.leaf).0 (sym r ∙ h))), λ h. r ∙ (truth_of kind.leaf).1 (is_kind.leaf.1 (subst IsLeaf (sym same) h)))
    ];
    constants_are = λ number other value lt is_other. elim (last_or_less number done lt) as (λ _. (slice_get more_constants number ≡ Some (Some value)) ↔ IsConstantCell names value other) [
      | inl less ↦
          let r : slice_get more_constants number ≡ slice_get constants number = ap (λ w. slice_get w number) g ∙ read_before constants kind.constant number (omega (arith, less, k.constants_len)) in
          let old = k.constants_are number other value less is_other in
          (λ h. old.0 (sym r ∙ h), λ h. r ∙ old.1 h)
      | inr p ↦
          let same : cell ≡ other = same_element cells number cell other (subst (λ n. IsCell cells n cell) (sym p) is) is_other in
          let r : slice_get more_constants number ≡ Some kind.constant = ap (λ w. slice_get w number) g ∙ (ap (slice_get (constants ++ kind.constant ∷ [])) (p ∙ sym k.constants_len) ∙ get_last constants kind.constant) in
          (λ h. subst (IsConstantCell names value) same ((is_kind.constant value).0 (inner_some kind.constant value (sym r ∙ h))), λ h. r ∙ ap Some ((is_kind.constant value).1 (subst (IsConstantCell names value) (sym same) h)))
    ];
  }
    where
      inner_some : (o : Option Bool) (value : Bool) → Some o ≡ Some (Some value) → o ≡ Some value
      inner_some o value e = cc

  pub kinds_whole : (done : ℕ) (kinds : Kinds) → length cells ≤ done → AreKindsUpTo names cells done kinds.links.items kinds.leaves.items kinds.constants.items → AreKinds names cells kinds
  kinds_whole done kinds le k = record {
    links = record { len = omega (arith, k.links_len, le, k.within); are = λ number cell is. k.links_are number cell (below number cell is) is };
    leaves = record { len = omega (arith, k.leaves_len, le, k.within); are = λ number cell is. k.leaves_are number cell (below number cell is) is };
    constants = record { len = omega (arith, k.constants_len, le, k.within); are = λ number cell value is. k.constants_are number cell value (below number cell is) is };
  }
    where
      below : (number : ℕ) (cell : HCell) → IsCell cells number cell → number < done
      below number cell is = let lt = slice_get_within cells number cell is in omega (arith, lt, le)
