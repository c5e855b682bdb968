-- what is at the other ends of joins, by the numbers of their ends
use Rattle.std.proofs.Common.{◌≡◌, ℕ, zero, suc, ◌+◌, ◌-◌, ◌*◌, ◌%◌, ◌<◌, ◌++◌, ◌==◌, Bool, true, false, cond, List, [], ◌∷◌, Some, None, length, get_or, map, drop, slice_get, sum_by, All, eqb, if◌then◌else◌, refl, sym, ◌∙◌, ap, subst, arith}
use Rattle.std.specs.List.{range_with_len}
use Rattle.std.specs.List.Sorted.{IsStrictlySortedBy}
use Rattle.std.proofs.lemmas.Bool.{cond-false, cond-true, eq-eqb, eqb-true, ne_eqb}
use Rattle.std.proofs.lemmas.List.{get_or-map, length-map, map-append}
use Rattle.std.proofs.lemmas.Option.{get_or_from_slice_get, slice_get_within}
use Rattle.net_hier.specs.Nodes.{node_cmp}
use Rattle.net_hier.specs.declared.nodes.Join.{Join}
use Rattle.net_hier.specs.declared.nodes.Node.{Node}
use Rattle.net_hier.specs.declared.nodes.Node.TheVariants.{Zero}
use Rattle.net_bits.specs.Ends.{AreEndNumbers, other_number, partner_of}
use Rattle.net_bits.specs.Neighbours.{AreOtherEnds, ends, other_ends, same_node}
use Rattle.net_bits.specs.Parts.{AreGroups, AreStarts, part, parts}
use Rattle.net_bits.proofs.Counting.{below-all}
use Rattle.net_bits.proofs.EndKeys.{length-ends}
use Rattle.net_bits.proofs.Nodes.{once, same_node-Decides, same_node-other}
use Rattle.net_bits.proofs.PartLaws.{items_picked, length-parts, part-map, part_at, picked, sum-parts}

-- ---- the numbers at the other ends

-- each two numbers the other way round
abbrev swapped : List ℕ → List ℕ
swapped [] = []
swapped (a ∷ []) = a ∷ []
swapped (a ∷ b ∷ ns) = b ∷ a ∷ swapped ns

length-swapped : (ns : List ℕ) → length (swapped ns) ≡ length ns
length-swapped [] = refl
length-swapped (a ∷ []) = refl
length-swapped (a ∷ b ∷ ns) = ap (λ n. suc (suc n)) (length-swapped ns)

odd_of : (n : ℕ) → eqb n 0 ≡ false → 0 < n
odd_of zero e = absurd (cc)
odd_of (suc n) e = omega arith

partner-more : (k : ℕ) → partner_of (suc (suc k)) ≡ suc (suc (partner_of k))
partner-more k = by (eqb (k % 2) 0) refl
  where
    by : (b : Bool) → eqb (k % 2) 0 ≡ b → partner_of (suc (suc k)) ≡ suc (suc (partner_of k))
    by true e =
        let z = eqb-true (k % 2) 0 e in
        let later = cond-true (suc (suc k) % 2 == 0) (suc (suc k) + 1) (suc (suc k) - 1) (eq-eqb (suc (suc k) % 2) 0 (omega (arith, z))) in
        let now = cond-true (k % 2 == 0) (k + 1) (k - 1) e in
        omega (arith, later, now)
    by false e =
        let odd = odd_of (k % 2) e in
        let later = cond-false (suc (suc k) % 2 == 0) (suc (suc k) + 1) (suc (suc k) - 1) (ne_eqb (suc (suc k) % 2) 0 (λ z. omega (arith, z, odd))) in
        let now = cond-false (k % 2 == 0) (k + 1) (k - 1) e in
        omega (arith, later, now, odd)

other_swapped : (ns : List ℕ) (half k : ℕ) → length ns ≡ 2 * half → get_or ns (partner_of k) 0 ≡ get_or (swapped ns) k 0
other_swapped [] half k e = refl
other_swapped (a ∷ []) half k e = absurd (omega (arith, e))
other_swapped (a ∷ b ∷ ns) half zero e = refl
other_swapped (a ∷ b ∷ ns) half (suc zero) e = refl
other_swapped (a ∷ b ∷ ns) half (suc (suc k)) e = ap (λ n. get_or (a ∷ b ∷ ns) n 0) (partner-more k) ∙ other_swapped ns (half - 1) k (omega (arith, e))

-- ---- the numbers that are picked are those of the other ends

same_item : (nodes : List Node) (a : ℕ) (p q : Node) → slice_get nodes a ≡ Some p → slice_get nodes a ≡ Some q → p ≡ q
same_item nodes a p q h k = cc

module _ (nodes : List Node) (sorted : IsStrictlySortedBy node_cmp nodes) (v : ℕ) (x : Node) (at : slice_get nodes v ≡ Some x) where
  -- one end of a join, by number and by node
  end_at : (a b : ℕ) (p q : Node) → slice_get nodes a ≡ Some p → slice_get nodes b ≡ Some q
      → map (slice_get nodes) (if a == v then b ∷ [] else []) ≡ map Some (if same_node p x then q ∷ [] else [])
  end_at a b p q ha hb = by (eqb a v) refl
    where
      by : (t : Bool) → eqb a v ≡ t → map (slice_get nodes) (if t then b ∷ [] else []) ≡ map Some (if same_node p x then q ∷ [] else [])
      by true e =
          let same : p ≡ x = same_item nodes v p x (subst (λ n. slice_get nodes n ≡ Some p) (eqb-true a v e) ha) at in
          ap (λ o. o ∷ []) hb ∙ ap (λ t. map Some (if t then q ∷ [] else [])) (sym ((same_node-Decides p x).1 same))
      by false e =
          let apart : p ≡ x → ⊥ = λ s. let n = once nodes sorted a v x (subst (λ z. slice_get nodes a ≡ Some z) s ha) at in let f = eq-eqb a v n in cc in
          ap (λ t. map Some (if t then q ∷ [] else [])) (sym (same_node-other p x apart))

  two_picked : (s t : Bool) (a b : ℕ) (rest : List ℕ) → cond s (b ∷ cond t (a ∷ rest) rest) (cond t (a ∷ rest) rest) ≡ ((if s then b ∷ [] else []) ++ (if t then a ∷ [] else [])) ++ rest
  two_picked true true a b rest = refl
  two_picked true false a b rest = refl
  two_picked false true a b rest = refl
  two_picked false false a b rest = refl

  ends_picked : (joins : List Join) (ns : List ℕ) → map (slice_get nodes) ns ≡ map Some (ends joins) → map (slice_get nodes) (picked ns (swapped ns) v) ≡ map Some (other_ends x joins)
  ends_picked [] [] e = refl
  ends_picked [] (n ∷ ns) e = absurd (let l = ap length e in omega (arith, l))
  ends_picked (join ∷ joins) [] e = absurd (let l = ap length e in omega (arith, l))
  ends_picked (join ∷ joins) (a ∷ []) e = absurd (let l = ap length e in omega (arith, l))
  ends_picked (join ∷ joins) (a ∷ b ∷ ns) e =
      let ha : slice_get nodes a ≡ Some join.a = ap (λ l. get_or l 0 None) e in
      let hb : slice_get nodes b ≡ Some join.b = ap (λ l. get_or l 1 None) e in
      let tail : map (slice_get nodes) ns ≡ map Some (ends joins) = ap (drop 2) e in
      let rest = picked ns (swapped ns) v in
      let first = if a == v then b ∷ [] else [] in
      let second = if b == v then a ∷ [] else [] in
      let left = if same_node join.a x then join.b ∷ [] else [] in
      let right = if same_node join.b x then join.a ∷ [] else [] in
      ap (map (slice_get nodes)) (two_picked (a == v) (b == v) a b rest)
      ∙ (map-append (slice_get nodes) (first ++ second) rest
      ∙ (ap (λ l. l ++ map (slice_get nodes) rest) (map-append (slice_get nodes) first second)
      ∙ ((λ i. (end_at a b join.a join.b ha hb i ++ end_at b a join.b join.a hb ha i) ++ ends_picked joins ns tail i)
      ∙ (ap (λ l. l ++ map Some (other_ends x joins)) (sym (map-append Some left right))
      ∙ sym (map-append Some (left ++ right) (other_ends x joins))))))

-- ---- the lists of neighbours

module _ (joins : List Join) (nodes : List Node) (numbers : List ℕ) (are : AreEndNumbers (ends joins) nodes numbers) where
  pub numbers_long : length numbers ≡ 2 * length joins
  numbers_long = sym (length-map numbers (slice_get nodes)) ∙ (ap length are.by_number ∙ (length-map (ends joins) Some ∙ length-ends joins))

  -- each number is that of a node
  pub numbers_there : All (λ n. n < length nodes) numbers
  numbers_there k d h =
      let inside : k < length (ends joins) = omega (arith, h, numbers_long, length-ends joins) in
      let there : slice_get nodes (get_or numbers k d) ≡ Some (get_or (ends joins) k Zero) = sym (get_or-map (slice_get nodes) numbers k d None h) ∙ (ap (λ l. get_or l k None) are.by_number ∙ get_or-map Some (ends joins) k Zero None inside) in
      slice_get_within nodes (get_or numbers k d) (get_or (ends joins) k Zero) there

module _ (joins : List Join) (nodes : List Node) (numbers starts places others : List ℕ) (are : AreEndNumbers (ends joins) nodes numbers)
    (grouped : AreGroups numbers (length nodes) starts places) (is : others ≡ map (other_number numbers) places) where
  long : length others ≡ length places
  long = ap length is ∙ length-map places (other_number numbers)

  pub starts_there : AreStarts starts (length others)
  starts_there = subst (AreStarts starts) (sym long) grouped.are_starts

  pub are_other_ends : AreOtherEnds nodes joins (parts starts others)
  are_other_ends = record {
    len = length-parts starts others ∙ (let l = grouped.sums.len in omega (arith, l));
    ends = λ v x at.
        let inside = slice_get_within nodes v x at in
        let here = items_picked (other_number numbers) 0 numbers (swapped numbers) v (length-swapped numbers)
        (λ k y e.
        let none : 0 + k ≡ k = omega arith in
        ap (other_number numbers) none ∙ (other_swapped numbers (length joins) k (numbers_long joins nodes numbers are) ∙ get_or_from_slice_get (swapped numbers) k y 0 e)) in
        ap (map (slice_get nodes))
        (part_at starts others v (omega (arith, inside, grouped.sums.len))
        ∙ (ap (λ os. part starts os v) is
        ∙ (part-map (other_number numbers) starts places v
        ∙ (ap (map (other_number numbers)) (grouped.each v inside) ∙ here))))
        ∙ ends_picked nodes are.in_order v x at joins numbers are.by_number;
  }

  pub all_neighbours : sum_by length (parts starts others) ≡ 2 * length joins
  all_neighbours =
      let count : length starts - 1 ≡ length nodes = let l = grouped.sums.len in omega (arith, l) in
      ap (λ n. sum_by length (map (part starts others) (range_with_len 0 n))) count
      ∙ (sum-parts numbers (length nodes) starts others grouped.sums starts_there (length nodes) (omega arith)
      ∙ (below-all numbers (length nodes) (numbers_there joins nodes numbers are) ∙ numbers_long joins nodes numbers are))

-- what is said of lists that are lent is said of the lists
pub lent_groups : (nodes : List Node) (numbers lent starts places : List ℕ) (count : ℕ) → count ≡ length nodes → lent ≡ numbers → AreGroups lent count starts places → AreGroups numbers (length nodes) starts places
lent_groups nodes numbers lent starts places count n e are = subst (λ m. AreGroups numbers m starts places) n (subst (λ l. AreGroups l count starts places) e are)

pub lent_others : (numbers lent places lent_places others : List ℕ) → lent ≡ numbers → lent_places ≡ places → others ≡ map (other_number lent) lent_places → others ≡ map (other_number numbers) places
lent_others numbers lent places lent_places others e f is = is ∙ (λ i. map (other_number (e i)) (f i))
