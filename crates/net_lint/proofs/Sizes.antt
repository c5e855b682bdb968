-- How many places the groups have together.
use Rattle.std.proofs.Common.{◌≡◌, ℕ, zero, suc, ◌+◌, ◌<◌, ◌≤◌, List, [], ◌∷◌, refl, sym, ◌∙◌, ap, subst, get_or, nat_lt, Bool, true, false, cond, ◌==◌, filter, length, map, arith}
use Rattle.std.specs.Prelude.{sum_by}
use Rattle.std.specs.List.{range_with_len}
use Rattle.std.proofs.lemmas.Bool.Decides.{nat_tests}
use Rattle.std.proofs.lemmas.List.FromFn.{sum_by-map-range_with_len_more}
use Rattle.flat_classes.specs.Groups.{AreMembers, group_at, places_of}
use Rattle.flat_classes.specs.Terminals.{FlatValue}
use Rattle.flat_report.proofs.GroupTexts.{members_are}
use Rattle.net_bits.specs.Parts.{count_below, count_of}

-- ---- how many of a list are below a number
none_step : (x n : ℕ) → n ≡ 0 → cond (nat_lt x 0) (n + 1) n ≡ 0
none_step x n e = grind (arith, nat_tests)

none_below : (xs : List ℕ) → count_below xs 0 ≡ 0
none_below [] = refl
none_below (x ∷ xs) = none_step x (count_below xs 0) (none_below xs)

more_step : (x number a b c : ℕ) → a ≡ b + c → cond (nat_lt x (number + 1)) (a + 1) a ≡ cond (nat_lt x number) (b + 1) b + cond (x == number) (c + 1) c
more_step x number a b c e = grind (arith, nat_tests)

more_below : (xs : List ℕ) (number : ℕ) → count_below xs (number + 1) ≡ count_below xs number + count_of xs number
more_below [] number = refl
more_below (x ∷ xs) number = more_step x number (count_below xs (number + 1)) (count_below xs number) (count_of xs number) (more_below xs number)

few_step : (x number a n : ℕ) → a ≤ n → cond (nat_lt x number) (a + 1) a ≤ n + 1
few_step x number a n few = grind (arith, nat_tests)

few_below : (xs : List ℕ) (number : ℕ) → count_below xs number ≤ length xs
few_below [] number = omega arith
few_below (x ∷ xs) number = let few = few_step x number (count_below xs number) (length xs) (few_below xs number) in omega (arith, few)

-- ---- the sizes of groups
-- how often a number stands in a list, by what stands at each place
places_counted : (f : ℕ → ℕ) (from number : ℕ) (xs : List ℕ) → ((k : ℕ) → k < length xs → f (from + k) ≡ get_or xs k 0) → length (filter (λ place. f place == number) (range_with_len from (length xs))) ≡ count_of xs number
places_counted f from number [] reads = refl
places_counted f from number (x ∷ xs) reads =
    let here : from + 0 ≡ from = omega arith in
    let first : f from ≡ x = ap f (sym here) ∙ reads 0 (omega arith) in
    let rest = places_counted f (from + 1) number xs (λ k lt. let there : from + 1 + k ≡ from + suc k = omega arith in ap f there ∙ reads (suc k) (omega (arith, lt))) in
    ap (λ y. length (cond (y == number) (from ∷ filter (λ place. f place == number) (range_with_len (from + 1) (length xs))) (filter (λ place. f place == number) (range_with_len (from + 1) (length xs))))) first
    ∙ by (x == number) (filter (λ place. f place == number) (range_with_len (from + 1) (length xs))) (count_of xs number) rest
  where
    by : (b : Bool) (others : List ℕ) (n : ℕ) → length others ≡ n → length (cond b (from ∷ others) others) ≡ cond b (n + 1) n
    by true others n e = omega (arith, e)
    by false others n e = e

group_size : (groups : List ℕ) (group : ℕ) → length (places_of groups group) ≡ count_of groups group
group_size groups group = places_counted (group_at groups) 0 group groups (λ k lt. let there : 0 + k ≡ k = omega arith in ap (group_at groups) there)

-- so many groups have as many places as there are numbers below this one
groups_size : (groups : List ℕ) (count : ℕ) → sum_by length (map (places_of groups) (range_with_len 0 count)) ≡ count_below groups count
groups_size groups zero = sym (none_below groups)
groups_size groups (suc count) =
    let next : suc count ≡ count + 1 = omega arith in
    let so_far = groups_size groups count in
    let size = group_size groups count in
    let more = more_below groups count in
    let all = sum_by-map-range_with_len_more length (places_of groups) 0 count count (omega arith) in
    let here : sum_by length (map (places_of groups) (range_with_len 0 (count + 1))) ≡ count_below groups (count + 1) = omega (arith, all, so_far, size, more) in
    subst (λ n. sum_by length (map (places_of groups) (range_with_len 0 n)) ≡ count_below groups n) (sym next) here

-- the groups have no more places than there are terminals
pub members_few : (flat : FlatValue) (members : List (List ℕ)) → AreMembers flat.groups flat.count members → sum_by length members ≤ length flat.groups
members_few flat members of =
    let all = ap (sum_by length) (members_are flat members of) in
    let size = groups_size flat.groups flat.count in
    let within = few_below flat.groups flat.count in
    omega (arith, all, size, within)
