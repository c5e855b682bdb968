-- tables of classes
use Rattle.std.proofs.Common.{◌≡◌, ℕ, zero, suc, ◌+◌, ◌-◌, ◌<◌, Bool, true, false, List, [], ◌∷◌, Option, Some, None, length, get_or, map, position, slice_get, refl, sym, ◌∙◌, ap, subst, arith, inl, inr, All, HoldsAt, IsSorted, Ordering, Less, Equal, Greater, is_eq, is_lt, is_some, nat_lt, IfSome, option_and_then, option_copied, Bor}
use Rattle.std.specs.List.Sorted.{IsNonDecreasingBy, IsPartitionPoint, IsStrictlySortedBy}
use Rattle.std.specs.List.{position_or_len}
use Rattle.std.specs.Ordering.{ordering_index, ordering_reverse}
use Rattle.std.proofs.lemmas.Bool.{cases_lt}
use Rattle.std.proofs.lemmas.Bool.Decides.{nat_tests}
use Rattle.std.proofs.lemmas.List.{length-map}
use Rattle.std.proofs.lemmas.List.Quantifiers.{position-Some}
use Rattle.std.proofs.lemmas.List.Sorted.{searchable_from_sorted}
use Rattle.std.proofs.lemmas.List.Sums.{position_or_len_is}
use Rattle.std.proofs.lemmas.Map.Keys.{Less-from_sorted}
use Rattle.std.proofs.lemmas.Option.{slice_get-get_or, slice_get_past, slice_get_within, get_or_from_slice_get}
use Rattle.net_hier.specs.Nodes.{node_cmp, node_cmp_total}
use Rattle.net_hier.specs.declared.cells.HCell.{HCell}
use Rattle.net_hier.specs.declared.nodes.Node.{Node}
use Rattle.net_hier.specs.declared.nodes.Node.TheVariants.{Zero}
use Rattle.net_bits.specs.Classes.{AreClasses, AreMembers, ClassTable, HasMembers, class_of, is_number}
use Rattle.net_bits.specs.Flood.{AreNumbered, IsNext, number}
use Rattle.net_bits.specs.Neighbours.{AreNeighbours, Neighbours, same_node}
use Rattle.net_bits.specs.Parts.{AreGroups, AreStarts, part, parts}
use Rattle.net_bits.proofs.Items.{place_of, Contains-place}
use Rattle.net_bits.proofs.Nodes.{once, same_node-Decides, same_node-other}
use Rattle.net_bits.proofs.PartLaws.{items_picked, length-parts, part-map, part_at, picked_passes}
use Rattle.net_bits.proofs.Transport.{links_of_nodes}

pub number-some : (numbers : List ℕ) (i : ℕ) → number (map Some numbers) i ≡ slice_get numbers i
number-some [] i = refl
number-some (n ∷ numbers) zero = refl
number-some (n ∷ numbers) (suc i) = number-some numbers i

position_is : {X : Type 0} (p : X → Bool) (xs : List X) (i : ℕ) → i < length xs → position_or_len p xs ≡ i → position p xs ≡ Some i
position_is p xs i h e = grind (arith, nat_tests)

same_some_number : (o : Option ℕ) (a b : ℕ) → o ≡ Some a → o ≡ Some b → a ≡ b
same_some_number o a b p q = cc

module _ (table : ClassTable) (sorted : IsStrictlySortedBy node_cmp table.nodes) where
  -- the class of the node at a place
  pub class_at : (i : ℕ) (x : Node) → slice_get table.nodes i ≡ Some x → class_of table x ≡ slice_get table.numbers i
  class_at i x h =
      let in' = slice_get_within table.nodes i x h in
      let first = position_or_len_is (same_node x) table.nodes i x (omega arith)
      (λ k l. same_node-other x (get_or table.nodes k x)
      (λ e. let s = once table.nodes sorted k i x (slice_get-get_or table.nodes k x (omega arith) ∙ ap Some (sym e)) h in omega arith))
      (λ _. (same_node-Decides x (get_or table.nodes i x)).1 (sym (get_or_from_slice_get table.nodes i x x h))) in
      ap (option_and_then (slice_get table.numbers)) (position_is (same_node x) table.nodes i in' first)

  -- the place of a node that has a class
  pub place_of_class : (x : Node) (k : ℕ) → class_of table x ≡ Some k → (i : ℕ) × (slice_get table.nodes i ≡ Some x) × (slice_get table.numbers i ≡ Some k)
  place_of_class x k = by (position (same_node x) table.nodes) refl
    where
      by : (o : Option ℕ) → position (same_node x) table.nodes ≡ o → option_and_then (slice_get table.numbers) o ≡ Some k → (i : ℕ) × (slice_get table.nodes i ≡ Some x) × (slice_get table.numbers i ≡ Some k)
      by None e h = absurd (cc)
      by (Some i) e h =
          let found = position-Some (same_node x) table.nodes i x e in
          (i, slice_get-get_or table.nodes i x found.0 ∙ ap Some (sym ((same_node-Decides x (get_or table.nodes i x)).0 found.1)), h)

-- each class is below the number of classes
pub numbers_below : (step : ℕ → ℕ → Type 0) (numbers : List ℕ) (count : ℕ) → AreNumbered step (map Some numbers) count → All (λ n. n < count) numbers
numbers_below step numbers count by k d h =
    let n = by.all k (omega (arith, h, length-map numbers Some)) in
    subst (λ t. t < count) (same_some_number (slice_get numbers k) n.0 (get_or numbers k d) (sym (number-some numbers k) ∙ n.2) (slice_get-get_or numbers k d h)) n.1

-- the nodes at the places of each class are its members
pub members_there : (table : ClassTable) → IsStrictlySortedBy node_cmp table.nodes → (starts places : List ℕ) (members : List Node) → length table.numbers ≡ length table.nodes
    → AreGroups table.numbers table.count starts places → members ≡ map (λ k. get_or table.nodes k Zero) places → AreMembers table (parts starts members)
members_there table sorted starts places members len grouped is =
    let node_at : ℕ → Node = λ k. get_or table.nodes k Zero in
    record {
      len = length-parts starts members ∙ (let l = grouped.sums.len in omega (arith, l));
      members = λ class h.
          let p : Node → Bool = λ node. is_number class (class_of table node) in
          let here = items_picked node_at 0 table.numbers table.nodes class (sym len) (λ k x e. let none : 0 + k ≡ k = omega arith in ap node_at none ∙ get_or_from_slice_get table.nodes k x Zero e) in
          let passes = picked_passes p table.numbers table.nodes class (sym len) (λ k n x e f. ap (is_number class) (class_at table sorted k x e ∙ f)) in
          part_at starts members class (omega (arith, h, grouped.sums.len))
          ∙ (ap (λ ms. part starts ms class) is
          ∙ (part-map node_at starts places class
          ∙ (ap (map node_at) (grouped.each class h) ∙ (here ∙ passes))));
    }

-- what a table of these nodes keeps
pub has_members : (nodes kept : List Node) (numbers lent starts places lent_places : List ℕ) (members : List Node) (count : ℕ) → IsStrictlySortedBy node_cmp nodes → kept ≡ nodes
    → length numbers ≡ length nodes → lent ≡ numbers → count < 4294967296 → AreGroups lent count starts places → lent_places ≡ places
    → members ≡ map (λ k. get_or nodes k Zero) lent_places → HasMembers (record { nodes = kept; numbers = numbers; count = length starts - 1 }) starts members
has_members nodes kept numbers lent starts places lent_places members count sorted same len e few grouped f is =
    let table : List Node → ClassTable = λ ns. record { nodes = ns; numbers = numbers; count = length starts - 1 } in
    let counted : count ≡ length starts - 1 = let l = grouped.sums.len in omega (arith, l) in
    let groups = subst (λ n. AreGroups numbers n starts places) counted (subst (λ l. AreGroups l count starts places) e grouped) in
    let all = is ∙ ap (map (λ k. get_or nodes k Zero)) f in
    let long : length members ≡ length places = ap length all ∙ length-map places (λ k. get_or nodes k Zero) in
    subst (λ ns. HasMembers (table ns) starts members) (sym same) (record {
      in_order = sorted;
      few = let l = grouped.sums.len in omega (arith, l, few);
      are_starts = subst (AreStarts starts) (sym long) groups.are_starts;
      are_members = members_there (table nodes) sorted starts places members len groups all;
    })

-- the class of the node that a search found
pub class_found : (table : ClassTable) → IsStrictlySortedBy node_cmp table.nodes → (node : Node) (i : ℕ) → i < length table.nodes → HoldsAt (λ y. node_cmp y node ≡ Equal) table.nodes i
    → class_of table node ≡ slice_get table.numbers i
class_found table sorted node i h holds =
    let x = get_or table.nodes i Zero in
    let same : x ≡ node = (same_node-Decides x node).0 (ap is_eq (holds Zero)) in
    class_at table sorted i node (slice_get-get_or table.nodes i Zero h ∙ ap Some same)

equal_of_test : (o : Ordering) → is_eq o ≡ true → o ≡ Equal
equal_of_test Less e = cc
equal_of_test Equal e = refl
equal_of_test Greater e = cc

not_less : (a b : Ordering) → a ≡ Less → b ≡ ordering_reverse a → is_lt b ≡ false
not_less a b e f = ap is_lt (f ∙ ap ordering_reverse e)

-- nodes in order are sorted
pub is_sorted : (nodes : List Node) → IsStrictlySortedBy node_cmp nodes → IsSorted node_cmp nodes
is_sorted nodes sorted k d h l = not_less (node_cmp (get_or nodes k d) (get_or nodes (k + 1) d)) (node_cmp (get_or nodes (k + 1) d) (get_or nodes k d))
    (Less-from_sorted node_cmp nodes k (k + 1) d sorted (omega arith) l) (node_cmp_total.antisymm (get_or nodes (k + 1) d) (get_or nodes k d))

-- a node that a search did not find has no class
pub class_missing : (table : ClassTable) → IsStrictlySortedBy node_cmp table.nodes → (node : Node) (i : ℕ)
    → (IsNonDecreasingBy (λ y. ordering_index (node_cmp y node)) table.nodes → IsPartitionPoint (λ y. node_cmp y node ≡ Less) (λ y. node_cmp y node ≡ Greater) table.nodes i)
    → class_of table node ≡ None
class_missing table sorted node i search = by (position (same_node node) table.nodes) refl
  where
    point : IsPartitionPoint (λ y. node_cmp y node ≡ Less) (λ y. node_cmp y node ≡ Greater) table.nodes i
    point = search (searchable_from_sorted node_cmp_total (λ x. x) table.nodes node (is_sorted table.nodes sorted))

    no_place : (k : ℕ) → k < length table.nodes → same_node node (get_or table.nodes k node) ≡ true → ⊥
    no_place k h e =
        let x = get_or table.nodes k node in
        let same : node ≡ x = (same_node-Decides node x).0 e in
        let equal : node_cmp x node ≡ Equal = equal_of_test (node_cmp x node) ((same_node-Decides x node).1 (sym same)) in
        elim (cases_lt k i) as (λ _. ⊥) [
          | inl before ↦ let less = point.0 k node (omega arith) before in let bad = sym equal ∙ less in cc
          | inr behind ↦ let greater = point.1 k node behind h in let bad = sym equal ∙ greater in cc
        ]

    by : (o : Option ℕ) → position (same_node node) table.nodes ≡ o → class_of table node ≡ None
    by None e = ap (option_and_then (slice_get table.numbers)) e
    by (Some k) e = let found = position-Some (same_node node) table.nodes k node e in absurd (no_place k found.0 found.1)

-- the numbers of the neighbour lists are the classes of the cell
pub are_classes : (cell : HCell) (neighbours : Neighbours) → AreNeighbours cell neighbours → (numbers : List ℕ) (count : ℕ) → length numbers ≡ length neighbours.nodes
    → AreNumbered (IsNext neighbours.lists) (map Some numbers) count → AreClasses cell (record { nodes = neighbours.nodes; numbers = numbers; count = count })
are_classes cell neighbours are numbers count len by =
    let nodes = neighbours.nodes in
    let table : ClassTable = record { nodes = nodes; numbers = numbers; count = count } in
    let sorted = are.nodes.in_order in
    let all_len : length (map Some numbers) ≡ length nodes = length-map numbers Some ∙ len in
    record {
      nodes = are.nodes;
      joined = λ x. (
        λ h. let p = place_of nodes x ((are.nodes.joined x).1 h) in
            let n = by.all p.0 (let l = slice_get_within nodes p.0 x p.1 in omega (arith, all_len, l)) in
            (n.0, class_at table sorted p.0 x p.1 ∙ (sym (number-some numbers p.0) ∙ n.2)),
        λ h. let p = place_of_class table sorted x h.0 h.1 in (are.nodes.joined x).0 (Contains-place nodes p.0 x p.1),
      );
      below = λ x k h.
          let p = place_of_class table sorted x k h in
          let n = by.all p.0 (let l = slice_get_within nodes p.0 x p.1 in omega (arith, all_len, l)) in
          subst (λ t. t < count) (same_some_number (slice_get numbers p.0) n.0 k (sym (number-some numbers p.0) ∙ n.2) p.2) n.1;
      same = λ x y j k hj hk.
          let p = place_of_class table sorted x j hj in
          let q = place_of_class table sorted y k hk in
          let np = number-some numbers p.0 ∙ p.2 in
          let nq = number-some numbers q.0 ∙ q.2 in
          let s = by.same p.0 q.0 (let l = slice_get_within nodes p.0 x p.1 in omega (arith, all_len, l)) (let l = slice_get_within nodes q.0 y q.1 in omega (arith, all_len, l)) in
          let links = links_of_nodes cell neighbours are p.0 q.0 x y p.1 q.1 in (
            λ e. links.0 (s.0 (np ∙ (ap Some e ∙ sym nq))),
            λ c. same_some_number (number (map Some numbers) q.0) j k (sym (s.1 (links.1 c)) ∙ np) nq,
          );
      used = λ k l.
          let u = by.used k l in
          let n = sym (number-some numbers u.0) ∙ u.1 in
          let here = slice_get-get_or nodes u.0 Zero (let l = slice_get_within numbers u.0 k n in omega (arith, len, l)) in
          (get_or nodes u.0 Zero, class_at table sorted u.0 (get_or nodes u.0 Zero) here ∙ n);
      ordered = λ x c d h l.
          let p = place_of_class table sorted x c h in
          let u = by.ordered p.0 c d (number-some numbers p.0 ∙ p.2) l in
          let n = sym (number-some numbers u.0) ∙ u.2 in
          let in' = slice_get_within nodes p.0 x p.1 in
          let here = slice_get-get_or nodes u.0 x (omega (arith, in', u.1)) in
          let less = Less-from_sorted node_cmp nodes u.0 p.0 x sorted u.1 in' in
          (get_or nodes u.0 x, ap (node_cmp (get_or nodes u.0 x)) (sym (get_or_from_slice_get nodes p.0 x x p.1)) ∙ less, class_at table sorted u.0 (get_or nodes u.0 x) here ∙ n);
    }

-- the element that a slice's `get` lends
pub copied_get : (xs : List ℕ) (i : ℕ) (r : Option (Bor ℕ)) → is_some r ≡ nat_lt i (length xs) → IfSome r (λ x. x.now ≡ get_or xs i x.now) → option_copied r ≡ slice_get xs i
copied_get xs i None h e = sym (slice_get_past xs i (grind (arith, nat_tests)))
copied_get xs i (Some x) h e = ap Some e ∙ sym (slice_get-get_or xs i x.now (grind (arith, nat_tests)))
