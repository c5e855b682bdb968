-- Parents of numbers, which lead to a label of each.
use Rattle.std.specs.Prelude.{◌≡◌, ℕ, ◌<◌, ◌≤◌, List, length, slice_index_or}
use Rattle.flat_numbers.specs.FlatJoins.{Extends}
use Rattle.flat_numbers.specs.Linked.{AreLabels, label}
use Rattle.flat_numbers.specs.declared.joins.NumberJoin.{NumberJoin}

-- the parent of a number
abbrev pub parent : List ℕ → ℕ → ℕ
parent parents number = slice_index_or parents number 0

-- no parent is greater than its number; a number has the label of its parent, and one that is its own parent is its own label
pub record HasLabels (parents labels : List ℕ) : Type 0 where
  pub len : length labels ≡ length parents
  pub down : (u : ℕ) → u < length parents → parent parents u ≤ u
  pub same : (u : ℕ) → u < length parents → label labels (parent parents u) ≡ label labels u
  pub root : (u : ℕ) → u < length parents → parent parents u ≡ u → label labels u ≡ u

-- the parents lead to labels that are equal exactly where these joins link
pub record IsLinkedUp (count : ℕ) (joins : List NumberJoin) (parents : List ℕ) : Type 0 where
  pub len : length parents ≡ count
  pub labels : List ℕ
  pub has : HasLabels parents labels
  pub are : AreLabels count joins labels

-- the parents lead to the labels of some joins
abbrev pub IsForest : ℕ → List ℕ → Type 0
IsForest count parents = (joins : List NumberJoin) × IsLinkedUp count joins parents

-- whatever joins the old parents have the labels of, the new ones have the labels of these and those that are told
abbrev pub LinksMore : ℕ → List ℕ → List ℕ → (ℕ → ℕ → Type 0) → Type 0
LinksMore count old new IsNew = (joins : List NumberJoin) → IsLinkedUp count joins old → (more : List NumberJoin) × Extends joins more IsNew × IsLinkedUp count more new
