-- Numbers that are linked by joins.
use Rattle.std.specs.Prelude.{◌≡◌, ℕ, ◌<◌, ◌⊎◌, ◌↔◌, List, length, slice_index_or, Contains}
use Rattle.net_graph.specs.Walks.{IsLinked}
use Rattle.flat_numbers.specs.declared.joins.NumberJoin.{NumberJoin}

-- one of the joins has the two numbers, in either order
abbrev pub HasJoin : List NumberJoin → ℕ → ℕ → Type 0
HasJoin joins a b = Contains joins (record { a = a; b = b }) ⊎ Contains joins (record { a = b; b = a })

-- the label of a number
abbrev pub label : List ℕ → ℕ → ℕ
label labels number = slice_index_or labels number 0

-- joins have numbers below the count, each such number has a label below it, and two have one label exactly where joins link them
pub record AreLabels (count : ℕ) (joins : List NumberJoin) (labels : List ℕ) : Type 0 where
  pub len : length labels ≡ count
  pub joins_below : (u v : ℕ) → HasJoin joins u v → (u < count) × (v < count)
  pub below : (u : ℕ) → u < count → label labels u < count
  pub same : (u v : ℕ) → u < count → v < count → (label labels u ≡ label labels v) ↔ IsLinked (HasJoin joins) u v

-- two lists of labels say the same
pub record AreAlike (labels others : List ℕ) : Type 0 where
  pub len : length labels ≡ length others
  pub same : (u : ℕ) → u < length others → label labels u ≡ label others u
