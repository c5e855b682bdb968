-- What is reached in a graph, as marks that are computed.
use Rattle.std.specs.Prelude.{◌≡◌, ℕ, zero, suc, ◌+◌, Bool, true, false, ◌||◌, ◌&&◌, ◌==◌, cond, List, [], ◌∷◌, length, slice_set, get_or, replicate}
use Rattle.std.specs.List.{list_any}

-- the mark of a number
abbrev pub is_marked : List Bool → ℕ → Bool
is_marked marks number = get_or marks number false

-- a number has another one below it
abbrev pub has_below : List (List ℕ) → ℕ → ℕ → Bool
has_below graph outer number = list_any (λ n. n == number) (get_or graph outer [])

-- a marked number has this one below it
abbrev pub is_next : List Bool → List (List ℕ) → ℕ → Bool
is_next [] graph number = false
is_next (mark ∷ marks) [] number = false
is_next (mark ∷ marks) (numbers ∷ graph) number = (mark && list_any (λ n. n == number) numbers) || is_next marks graph number

-- marks also what marked numbers have below them
abbrev pub spread_from : List (List ℕ) → List Bool → ℕ → List Bool → List Bool
spread_from graph all number [] = []
spread_from graph all number (mark ∷ marks) = (mark || is_next all graph number) ∷ spread_from graph all (number + 1) marks

-- one round of marking
abbrev pub spread : List (List ℕ) → List Bool → List Bool
spread graph marks = spread_from graph marks 0 marks

-- so many rounds of marking
abbrev pub spread_times : List (List ℕ) → ℕ → List Bool → List Bool
spread_times graph zero marks = marks
spread_times graph (suc times) marks = spread graph (spread_times graph times marks)

-- one mark alone
abbrev pub only_mark : ℕ → ℕ → List Bool
only_mark size start = slice_set (replicate size false) start true

-- a mark for each number: whether it is the start or is reached from it. As many rounds as there are numbers reach all
abbrev pub marks_of : List (List ℕ) → ℕ → List Bool
marks_of graph start = spread_times graph (length graph) (only_mark (length graph) start)

-- the same as a relation: the number is the start, or stands below one that is reached
pub data IsReachable (graph : List (List ℕ)) (start : ℕ) : ℕ → Type 0 where
  itself : IsReachable graph start start
  below : {outer number : ℕ} → IsReachable graph start outer → has_below graph outer number ≡ true → IsReachable graph start number

-- how many marks there are
abbrev pub count : List Bool → ℕ
count [] = 0
count (mark ∷ marks) = cond mark 1 0 + count marks
