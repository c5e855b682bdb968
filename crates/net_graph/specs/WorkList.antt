-- What a walk over a graph keeps that lets numbers wait.
use Rattle.std.specs.Prelude.{◌≡◌, ℕ, ◌+◌, ◌==◌, ◌⊎◌, Bool, true, List, length}
use Rattle.std.specs.List.{list_any}
use Rattle.net_graph.specs.Graph.{IsAbove}
use Rattle.net_graph.specs.Marks.{IsReachable, count, has_below, is_marked}

-- what stands below a marked number is marked
abbrev pub AreClosed : List (List ℕ) → List Bool → Type 0
AreClosed graph marks = (outer inner : ℕ) → is_marked marks outer ≡ true → IsAbove graph outer inner → is_marked marks inner ≡ true

-- the number stands in the list
abbrev pub has : List ℕ → ℕ → Bool
has numbers number = list_any (λ n. n == number) numbers

-- the numbers were marked, and those that had no mark now wait
pub record MarksNumbers (old : List Bool) (waiting numbers : List ℕ) (new : List Bool) (waits : List ℕ) : Type 0 where
  pub long : length new ≡ length old
  pub keeps : (k : ℕ) → is_marked old k ≡ true → is_marked new k ≡ true
  pub marks_all : (k : ℕ) → has numbers k ≡ true → is_marked new k ≡ true
  pub marks_only : (k : ℕ) → is_marked new k ≡ true → (is_marked old k ≡ true) ⊎ (has numbers k ≡ true)
  pub waits_on : (k : ℕ) → has waiting k ≡ true → has waits k ≡ true
  pub waits_new : (k : ℕ) → is_marked new k ≡ true → (is_marked old k ≡ true) ⊎ (has waits k ≡ true)
  pub waits_only : (k : ℕ) → has waits k ≡ true → (has waiting k ≡ true) ⊎ (has numbers k ≡ true)
  pub same_work : length waits + count old ≡ length waiting + count new

-- what holds at each turn: the marked numbers were marked before or are reachable, and what is below them is marked, unless they still wait
pub record IsUnderWay (graph : List (List ℕ)) (before : List Bool) (start : ℕ) (marks : List Bool) (waiting : List ℕ) : Type 0 where
  pub long : length marks ≡ length graph
  pub kept : (k : ℕ) → is_marked before k ≡ true → is_marked marks k ≡ true
  pub sound : (k : ℕ) → is_marked marks k ≡ true → (is_marked before k ≡ true) ⊎ IsReachable graph start k
  pub started : is_marked marks start ≡ true
  pub waits_marked : (k : ℕ) → has waiting k ≡ true → is_marked marks k ≡ true
  pub waits_reached : (k : ℕ) → has waiting k ≡ true → IsReachable graph start k
  pub closed : (outer k : ℕ) → is_marked marks outer ≡ true → has_below graph outer k ≡ true → (is_marked marks k ≡ true) ⊎ (has waiting outer ≡ true)
