-- The forms of trees of user data.
use Rattle.std.proofs.Common.{◌≡◌, ℕ, List, sym, ap, ◌∙◌}
use Rattle.std.specs.Prelude.{ℤ}
use Rattle.edif_values.specs.declared.user.UserTree.{UserTree}
use Rattle.edif_values.specs.declared.user.UserTree.TheFolds.{fold-roll-UserTree}
use Rattle.edif_values.specs.declared.user.UserTree.TheOpen.{UserTree-F}
use Rattle.edif_values.specs.declared.user.UserTree.TheVariants.{rolls-Word, rolls-Number, rolls-Str, rolls-List}
use Rattle.edif_values.specs.declared.user.UserTree.TheVariants as tree
use Rattle.edif_writer.specs.Layout.{Form, Word, Number, Str, Group, each}
use Rattle.edif_writer.specs.Forms.{tree_step, tree_form}

pub word_form : (w : List ℕ) → tree_form (tree.Word w) ≡ Word w
word_form w = ap tree_form (sym (rolls-Word w)) ∙ fold-roll-UserTree Form tree_step (UserTree-F.Word w)

pub number_form : (n : ℤ) → tree_form (tree.Number n) ≡ Number n
number_form n = ap tree_form (sym (rolls-Number n)) ∙ fold-roll-UserTree Form tree_step (UserTree-F.Number n)

pub str_form : (s : List ℕ) → tree_form (tree.Str s) ≡ Str s
str_form s = ap tree_form (sym (rolls-Str s)) ∙ fold-roll-UserTree Form tree_step (UserTree-F.Str s)

pub list_form : (ts : List UserTree) → tree_form (tree.List ts) ≡ Group (each tree_form ts)
list_form ts = ap tree_form (sym (rolls-List ts)) ∙ fold-roll-UserTree Form tree_step (UserTree-F.List ts)
