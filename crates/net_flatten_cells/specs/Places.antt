-- Places of numbers in a list.
use Rattle.std.specs.Prelude.{◌≡◌, ℕ, ◌<◌, List, length, slice_index}
use Rattle.net_flatten_rules.specs.FlatDesign.{place_in}

-- numbers, and the count below which they are
pub record Numbers : Type 0 where
  pub numbers : List ℕ
  pub count : ℕ

-- for each number below the count its place among the numbers
pub record ArePlaces (numbers : List ℕ) (count : ℕ) (places : List ℕ) : Type 0 where
  pub len : length places ≡ count
  pub are : (number : ℕ) → number < count → slice_index places number ≡ place_in numbers number
