-- Classes of connected numbers, by lists of neighbours.
use Rattle.std.specs.Prelude.{◌≡◌, ℕ, ◌+◌, ◌<◌, ◌≤◌, List, [], ◌∷◌, Option, Some, None, length, slice_index_or, Contains, ◌⊎◌, ◌↔◌}
use Rattle.net_graph.specs.Walks.{IsLinked}

-- the second number stands in the list of the first
abbrev pub IsNext : List (List ℕ) → ℕ → ℕ → Type 0
IsNext lists a b = Contains (slice_index_or lists a []) b

-- neighbours have lists, and each stands in the list of the other
pub record AreMutual (lists : List (List ℕ)) : Type 0 where
  pub below : (v w : ℕ) → IsNext lists v w → w < length lists
  pub both : (v w : ℕ) → IsNext lists v w → IsNext lists w v

-- the class of a number, if it has one yet
abbrev pub number : List (Option ℕ) → ℕ → Option ℕ
number numbers node = slice_index_or numbers node None

-- the numbers below `done` have a class below `count`, and so have those that are connected to them, as far as the numbers that wait to be visited allow
pub record IsNumbered (step : ℕ → ℕ → Type 0) (numbers : List (Option ℕ)) (done count : ℕ) (waiting : List ℕ) : Type 0 where
  pub before : (v : ℕ) → number numbers v ≡ None → done ≤ v
  pub within : (v c : ℕ) → number numbers v ≡ Some c → c < count
  pub used : (c : ℕ) → c < count → (v : ℕ) × (v < done) × (number numbers v ≡ Some c)
  pub same : (v w c : ℕ) → number numbers v ≡ Some c → number numbers w ≡ Some c → IsLinked step v w
  pub closed : (v c : ℕ) → number numbers v ≡ Some c → Contains waiting v ⊎ ((w : ℕ) → step v w → number numbers w ≡ Some c)
  pub ordered : (v c d : ℕ) → number numbers v ≡ Some c → d < c → (u : ℕ) × (u < v) × (number numbers u ≡ Some d)

-- how many neighbours there are of the numbers without a class
abbrev pub unspent : List (Option ℕ) → List (List ℕ) → ℕ
unspent [] lists = 0
unspent (n ∷ numbers) [] = 0
unspent (None ∷ numbers) (list ∷ lists) = length list + unspent numbers lists
unspent (Some c ∷ numbers) (list ∷ lists) = unspent numbers lists

-- each number has a class, two have the same exactly where they are linked, and the classes are numbered in the order of the least number in each
pub record AreNumbered (step : ℕ → ℕ → Type 0) (numbers : List (Option ℕ)) (count : ℕ) : Type 0 where
  pub all : (v : ℕ) → v < length numbers → (c : ℕ) × (c < count) × (number numbers v ≡ Some c)
  pub same : (v w : ℕ) → v < length numbers → w < length numbers → (number numbers v ≡ number numbers w) ↔ IsLinked step v w
  pub used : (c : ℕ) → c < count → (v : ℕ) × (number numbers v ≡ Some c)
  pub ordered : (v c d : ℕ) → number numbers v ≡ Some c → d < c → (u : ℕ) × (u < v) × (number numbers u ≡ Some d)
