-- The size of a tree of user data, by its variants.
use Rattle.std.proofs.Common.{◌≡◌, ◌∙◌, ap, sym, ℕ, ℤ, ◌+◌, List, map, length, sum_by}
use Rattle.std.proofs.lemmas.List.{length-map}
use Rattle.std.proofs.lemmas.List.Sums.{sum-map}
use Rattle.edif_values.specs.declared.user.UserTree.{UserTree}
use Rattle.edif_values.specs.declared.user.UserTree.TheFolds.{fold-roll-UserTree}
use Rattle.edif_values.specs.declared.user.UserTree.TheOpen.{UserTree-F}
use Rattle.edif_values.specs.declared.user.UserTree.TheVariants as tree
use Rattle.edif_values.specs.declared.user.UserTree.TheVariants.{rolls-Word, rolls-Number, rolls-Str, rolls-List}
use Rattle.edif_values.specs.Sizes.{list_size, tree_step, tree_size}

pub size-Word : (w : List ℕ) → tree_size (tree.Word w) ≡ 0
unfolding tree_size
size-Word w = ap tree_size (sym (rolls-Word w)) ∙ fold-roll-UserTree ℕ tree_step (UserTree-F.Word w)

pub size-Number : (n : ℤ) → tree_size (tree.Number n) ≡ 0
unfolding tree_size
size-Number n = ap tree_size (sym (rolls-Number n)) ∙ fold-roll-UserTree ℕ tree_step (UserTree-F.Number n)

pub size-Str : (s : List ℕ) → tree_size (tree.Str s) ≡ 0
unfolding tree_size
size-Str s = ap tree_size (sym (rolls-Str s)) ∙ fold-roll-UserTree ℕ tree_step (UserTree-F.Str s)

pub size-List : (ts : List UserTree) → tree_size (tree.List ts) ≡ list_size tree_size ts
unfolding tree_size
size-List ts = ap tree_size (sym (rolls-List ts)) ∙ (fold-roll-UserTree ℕ tree_step (UserTree-F.List ts) ∙ (ap (λ n. n + length (map tree_size ts)) (sum-map tree_size ts) ∙ ap (λ n. sum_by tree_size ts + n) (length-map ts tree_size)))

-- for a tree by its variants
pub ruleset tree_sizes = (size-Word, size-Number, size-Str, size-List)
