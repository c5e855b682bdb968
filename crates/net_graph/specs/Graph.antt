-- Graphs of numbers. A graph gives each number the list of the numbers below it.
use Rattle.std.specs.Prelude.{◌≡◌, ℕ, ◌<◌, List, [], ◌∷◌, ◌++◌, length, slice_get, Some, Contains}
use Rattle.net_graph.specs.Walks.{IsLinked}

-- these are the numbers below the number
abbrev pub HasList : List (List ℕ) → ℕ → List ℕ → Type 0
HasList graph number numbers = slice_get graph number ≡ Some numbers

-- the inner number stands in the list of the outer one
pub record IsAbove (graph : List (List ℕ)) (outer inner : ℕ) : Type 0 where
  pub numbers : List ℕ
  pub are_below : HasList graph outer numbers
  pub place : ℕ
  pub is_there : slice_get numbers place ≡ Some inner

-- steps down lead from one number to the other; each number is reached from itself
abbrev pub IsReached : List (List ℕ) → ℕ → ℕ → Type 0
IsReached graph = IsLinked (IsAbove graph)

-- one or more steps down lead from the number back to it
pub record ReachesItself (graph : List (List ℕ)) (number : ℕ) : Type 0 where
  pub below : ℕ
  pub first : IsAbove graph number below
  pub back : IsReached graph below number

-- each number in a list is one of the graph
abbrev pub IsInRange : List (List ℕ) → Type 0
IsInRange graph = (outer inner : ℕ) → IsAbove graph outer inner → inner < length graph

mutual
  -- the depth-first walk comes to the number after it has listed the numbers before, and has listed those after when it leaves it: it follows the list of the number in order, and lists each number once, after those below it
  pub data Visits (graph : List (List ℕ)) : List ℕ → ℕ → List ℕ → Type 0 where
    again : {before : List ℕ} {number : ℕ} → Contains before number → Visits graph before number before
    first : {before middle : List ℕ} {number : ℕ} {numbers : List ℕ} → ¬ Contains before number → HasList graph number numbers →
        VisitsEach graph before numbers middle → Visits graph before number (middle ++ number ∷ [])

  pub data VisitsEach (graph : List (List ℕ)) : List ℕ → List ℕ → List ℕ → Type 0 where
    none : {before : List ℕ} → VisitsEach graph before [] before
    next : {before middle after : List ℕ} {number : ℕ} {rest : List ℕ} → Visits graph before number middle → VisitsEach graph middle rest after → VisitsEach graph before (number ∷ rest) after

-- the postorder of the depth-first walk from the start
abbrev pub IsPostorder : List (List ℕ) → ℕ → List ℕ → Type 0
IsPostorder graph start order = Visits graph [] start order

-- the first place in the number's list of a number from which it is reached
pub record IsClosing (graph : List (List ℕ)) (number place : ℕ) : Type 0 where
  pub numbers : List ℕ
  pub are_below : HasList graph number numbers
  pub inner : ℕ
  pub is_there : slice_get numbers place ≡ Some inner
  pub closes : IsReached graph inner number
  pub first_place : (earlier other : ℕ) → earlier < place → slice_get numbers earlier ≡ Some other → ¬ IsReached graph other number

-- the named number is this one, and the place is its closing place
pub record IsRecursionAt (graph : List (List ℕ)) (number named place : ℕ) : Type 0 where
  pub same_number : named ≡ number
  pub closing : IsClosing graph named place

-- the least number that reaches itself, and its closing place
pub record IsFirstRecursion (graph : List (List ℕ)) (number place : ℕ) : Type 0 where
  pub closing : IsClosing graph number place
  pub first_number : (earlier : ℕ) → earlier < number → ¬ ReachesItself graph earlier
