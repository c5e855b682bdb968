-- the lists of places of the groups
use Rattle.std.proofs.Common.{◌≡◌, ℕ, zero, suc, ◌+◌, ◌<◌, inl, inr, List, [], ◌∷◌, refl, sym, ◌∙◌, ap, subst, get_or, length, map, ◌==◌, arith}
use Rattle.std.specs.Prelude.{All, Contains}
use Rattle.std.specs.List.{range_with_len}
use Rattle.std.proofs.lemmas.List.FromFn.{length-map-range_with_len}
use Rattle.flat_classes.specs.Groups.{AreMembers, group_at, places_of}
use Rattle.flat_classes.specs.Terminals.{FlatValue}
use Rattle.flat_classes.proofs.KindLaws.{first_or_rest, nothing_in}
use Rattle.flat_classes.proofs.LeafLists.{all_of, from_filter}
use Rattle.flat_report.specs.Report.{groups_of}

-- lists with equal elements at each place are one
pub same_list : {A : Type 0} (d : A) (xs ys : List A) → length xs ≡ length ys → ((i : ℕ) → i < length xs → get_or xs i d ≡ get_or ys i d) → xs ≡ ys
same_list d [] [] len each = refl
same_list d [] (y ∷ ys) len each = absurd (omega (arith, len))
same_list d (x ∷ xs) [] len each = absurd (omega (arith, len))
same_list d (x ∷ xs) (y ∷ ys) len each =
    let first : x ≡ y = each 0 (omega arith) in
    let rest : xs ≡ ys = same_list d xs ys (omega (arith, len)) (λ i lt. each (suc i) (omega (arith, lt))) in
    subst (λ w. x ∷ xs ≡ w ∷ ys) first (ap (λ w. x ∷ w) rest)

range_read : {A : Type 0} (f : ℕ → A) (a n i : ℕ) (d : A) → i < n → get_or (map f (range_with_len a n)) i d ≡ f (a + i)
range_read f a zero i d lt = absurd (omega (arith, lt))
range_read f a (suc n) zero d lt = let z : a ≡ a + 0 = omega arith in ap f z
range_read f a (suc n) (suc i) d lt = let z : (a + 1) + i ≡ a + suc i = omega arith in range_read f (a + 1) n i d (omega (arith, lt)) ∙ ap f z

pub members_are : (flat : FlatValue) (lists : List (List ℕ)) → AreMembers flat.groups flat.count lists → lists ≡ groups_of flat
members_are flat lists are =
    let long : length (groups_of flat) ≡ flat.count = length-map-range_with_len (places_of flat.groups) 0 flat.count in
    same_list [] lists (groups_of flat) (are.len ∙ sym long) (λ i lt.
    let z : 0 + i ≡ i = omega arith in
    let within : i < flat.count = omega (arith, lt, are.len) in
    are.members i within ∙ sym (range_read (places_of flat.groups) 0 flat.count i [] within ∙ ap (places_of flat.groups) z))

range_within : (a n k : ℕ) → Contains (range_with_len a n) k → k < a + n
range_within a zero k c = absurd (nothing_in k c)
range_within a (suc n) k c = elim (first_or_rest a (range_with_len (a + 1) n) k c) [
  | inl e ↦ omega (arith, e)
  | inr r ↦ let lt = range_within (a + 1) n k r in omega (arith, lt)
]

-- the places of a group are places of terminals
pub places_within : (groups : List ℕ) (group bound : ℕ) → length groups ≡ bound → All (λ place. place < bound) (places_of groups group)
places_within groups group bound e = all_of (λ place. place < bound) (places_of groups group) (λ place c.
    let (there, is) = from_filter (λ p. group_at groups p == group) (range_with_len 0 (length groups)) place c in
    let lt = range_within 0 (length groups) place there in
    omega (arith, lt, e))

-- a list among those of the groups
pub member_within : (flat : FlatValue) (lists : List (List ℕ)) (i bound : ℕ) → AreMembers flat.groups flat.count lists → i < length lists → length flat.groups ≡ bound → All (λ place. place < bound) (get_or lists i [])
member_within flat lists i bound are lt e = subst (All (λ place. place < bound)) (sym (are.members i (omega (arith, lt, are.len)))) (places_within flat.groups i bound e)
