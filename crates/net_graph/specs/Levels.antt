-- Levels of the numbers of a graph.
use Rattle.std.specs.Prelude.{◌≡◌, ℕ, ◌<◌, ◌≤◌, List, length, get_or, slice_get, Some}
use Rattle.net_graph.specs.Graph.{HasList}

-- the level of a number; one without a level has 0
abbrev pub level_at : List ℕ → ℕ → ℕ
level_at levels number = get_or levels number 0

-- the numbers have at most this level
abbrev pub AreUpTo : List ℕ → ℕ → List ℕ → Type 0
AreUpTo levels level numbers = (place number : ℕ) → slice_get numbers place ≡ Some number → level_at levels number ≤ level

-- the numbers have a lesser level
abbrev pub AreBelow : List ℕ → ℕ → List ℕ → Type 0
AreBelow levels level numbers = (place number : ℕ) → slice_get numbers place ≡ Some number → level_at levels number < level

-- no step down leads to a greater level
abbrev pub LevelsFall : List (List ℕ) → List ℕ → Type 0
LevelsFall graph levels = (outer : ℕ) (numbers : List ℕ) → HasList graph outer numbers → AreUpTo levels (level_at levels outer) numbers

-- each step down from the number leads to a lesser level
abbrev pub FallsAt : List (List ℕ) → List ℕ → ℕ → Type 0
FallsAt graph levels number = (numbers : List ℕ) → HasList graph number numbers → AreBelow levels (level_at levels number) numbers

-- the first number from which some step down does not lead to a lesser level
pub record IsFirstKept (graph : List (List ℕ)) (levels : List ℕ) (number : ℕ) : Type 0 where
  pub is_number : number < length graph
  pub is_kept : ¬ FallsAt graph levels number
  pub first : (earlier : ℕ) → earlier < number → FallsAt graph levels earlier
