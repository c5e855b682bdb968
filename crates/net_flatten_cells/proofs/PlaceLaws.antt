-- places of numbers
use Rattle.std.proofs.Common.{◌≡◌, ℕ, ◌+◌, ◌<◌, ◌≤◌, List, get_or, length, drop}
use Rattle.net_flatten_rules.specs.FlatDesign.{place_in}

-- the table has the places of the last numbers, from this place on
pub record PlacesFrom (numbers : List ℕ) (count place : ℕ) (places : List ℕ) : Type 0 where
  pub within : place ≤ length numbers
  pub len : length places ≡ count
  pub are : (number : ℕ) → number < count → get_or places number 0 ≡ place + place_in (drop place numbers) number
