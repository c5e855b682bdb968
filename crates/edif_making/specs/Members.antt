-- Lists of nodes that lie one behind the other.
use Rattle.std.specs.Prelude.{◌≡◌, ℕ, ◌+◌, ◌<◌, ◌≤◌, List, [], ◌∷◌, get_or, length, slice_range}
use Rattle.net_hier.specs.declared.nodes.Node.{Node}

-- the lists, each from where it begins to where the next one does
abbrev pub lists_of : List ℕ → List Node → List (List Node)
lists_of [] nodes = []
lists_of (from ∷ []) nodes = []
lists_of (from ∷ to ∷ starts) nodes = slice_range nodes from to ∷ lists_of (to ∷ starts) nodes

-- each list begins no earlier than the one before it, and behind the last one all nodes end
abbrev pub IsLaid : List ℕ → ℕ → Type 0
IsLaid [] count = ⊥
IsLaid (from ∷ []) count = from ≡ count
IsLaid (from ∷ to ∷ starts) count = (from ≤ to) × IsLaid (to ∷ starts) count

-- these lists lie so
pub record AreLaid (lists : List (List Node)) (starts : List ℕ) (nodes : List Node) : Type 0 where
  pub is_laid : IsLaid starts (length nodes)
  pub are : lists_of starts nodes ≡ lists

-- where the list at a place begins and ends, and that it is what lies there
pub record IsListAt (starts : List ℕ) (nodes : List Node) (place : ℕ) : Type 0 where
  pub next : place + 1 < length starts
  pub rising : get_or starts place 0 ≤ get_or starts (place + 1) 0
  pub within : get_or starts (place + 1) 0 ≤ length nodes
  pub is : slice_range nodes (get_or starts place 0) (get_or starts (place + 1) 0) ≡ get_or (lists_of starts nodes) place []
