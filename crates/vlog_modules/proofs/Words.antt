-- Whether an item begins with a word is told by its spelling, and attributes begin with `(*`.
use Rattle.std.proofs.Common.{◌≡◌, ◌∙◌, sym, ap, refl, ℕ, Bool, true, false, cond, List, Option, Some, None, is_some}
use Rattle.vlog_tokens.specs.declared.token.VFound.{VFound}
use Rattle.vlog_tokens.specs.declared.token.VToken.{VToken}
use Rattle.vlog_tokens.specs.declared.token.VToken.TheVariants.{Name, Keyword, AttrStart}
use Rattle.vlog_tokens.specs.Items.{word_token}
use Rattle.vlog_tokens.specs.Keywords.{is_keyword}
use Rattle.vlog_exprs.specs.Reasons.{meant_by}
use Rattle.vlog_items.specs.declared.item.ItemWord.{ItemWord}
use Rattle.vlog_items.specs.Grammar.{item_words}
use Rattle.vlog_modules.specs.Grammar.{at_item, word_start}
use Rattle.vlog_modules.specs.Starts.{is_taken, begins_item, begins_by}

starts : (o : Option ItemWord) → is_taken (word_start o) ≡ is_some o
starts (Some word) = refl
starts None = refl

pub word_begins : (x : VFound) (w : List ℕ) → x.token ≡ word_token w → begins_item x ≡ begins_by w
unfolding begins_item
word_begins x w e = ap (λ (t : VToken). is_taken (at_item t)) e ∙ by (is_keyword w)
  where
    by : (t : Bool) → is_taken (at_item (cond t (Keyword w) (Name w))) ≡ cond t (is_some (meant_by item_words w)) true
    by true = starts (meant_by item_words w)
    by false = refl

pub group_begins : (x : VFound) → x.token ≡ AttrStart → true ≡ begins_item x
unfolding begins_item
group_begins x e = sym (ap (λ (t : VToken). is_taken (at_item t)) e)
