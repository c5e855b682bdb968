-- What the judges of tokens of modules and files refuse fits.
use Rattle.std.proofs.Common.{◌≡◌, ℕ, Bool, true, false, cond, List, Ok, Err, sym, Option, Some, None}
use Rattle.std.specs.Prelude.{codes}
use Rattle.nl_base.specs.Case.{same_bytes}
use Rattle.nl_base.specs.declared.fault.Reason.{Reason}
use Rattle.nl_base.specs.declared.fault.Reason.TheVariants as reasons
use Rattle.vlog_tokens.specs.declared.token.VToken.TheVariants as t
use Rattle.vlog_exprs.specs.Reasons as say
use Rattle.vlog_items.specs.Grammar.{item_words}
use Rattle.vlog_modules.specs.Grammar.{ItemStart, word_start, at_item, PieceStart, module_start, directive_start, at_piece, directive_of, net_type_of}
use Rattle.vlog_items.specs.declared.item.ItemWord.{ItemWord}
use Rattle.vlog_faults.specs.Fitting.{FitsToken}
use Rattle.vlog_faults.proofs.Judges.{JudgeFits, GlanceFits, no, err, err_of, astray, word_by}

word_start_by : (o : Option ItemWord) (r : Reason) → word_start o ≡ no ItemStart r → ⊥
word_start_by None r e = cc
word_start_by (Some w) r e = cc

module_start_by : (b : Bool) (r : Reason) → module_start b ≡ no PieceStart r → ⊥
module_start_by true r e = cc
module_start_by false r e = cc

directive_start_by : (w : List ℕ) (r : Reason) → directive_start (directive_of w) ≡ no PieceStart r → ⊥
directive_start_by w r h = by (directive_of w) h
  where
    by : (o : Option _) → directive_start o ≡ no PieceStart r → ⊥
    by None h = cc
    by (Some d) h = cc

none_by : (n : List ℕ) (test : Bool) (r : Reason) → cond test (Ok false) (Err reasons.Unexpected) ≡ err Bool r → FitsToken (t.Name n) r
none_by n true r e = absurd cc
none_by n false r e = sym (err_of {A = Bool} reasons.Unexpected r e)

pub at_item_fits : GlanceFits at_item
at_item_fits (t.Name n) r e = absurd cc
at_item_fits (t.Keyword w) r e = absurd (word_start_by (say.meant_by item_words w) r e)
at_item_fits (t.Number n) r e = absurd cc
at_item_fits (t.Real x) r e = absurd cc
at_item_fits (t.Based d) r e = absurd cc
at_item_fits (t.Str s) r e = absurd cc
at_item_fits (t.Punct b) r e = absurd cc
at_item_fits t.AttrStart r e = absurd cc
at_item_fits t.AttrStop r e = absurd cc
at_item_fits (t.Symbol b) r e = absurd cc
at_item_fits (t.Directive w) r e = absurd cc

pub at_piece_fits : GlanceFits at_piece
at_piece_fits (t.Name n) r e = absurd cc
at_piece_fits (t.Keyword w) r e = absurd (module_start_by (same_bytes w (codes "module")) r e)
at_piece_fits (t.Number n) r e = absurd cc
at_piece_fits (t.Real x) r e = absurd cc
at_piece_fits (t.Based d) r e = absurd cc
at_piece_fits (t.Str s) r e = absurd cc
at_piece_fits (t.Punct b) r e = absurd cc
at_piece_fits t.AttrStart r e = absurd cc
at_piece_fits t.AttrStop r e = absurd cc
at_piece_fits (t.Symbol b) r e = absurd cc
at_piece_fits (t.Directive w) r e = absurd (directive_start_by w r e)

pub net_type_fits : JudgeFits net_type_of
net_type_fits (t.Name n) r e = none_by n (same_bytes n (codes "none")) r e
net_type_fits (t.Keyword w) r e = word_by w (same_bytes w (codes "wire")) true r e
net_type_fits (t.Number n) r e = astray (t.Number n) r e
net_type_fits (t.Real x) r e = astray (t.Real x) r e
net_type_fits (t.Based d) r e = astray (t.Based d) r e
net_type_fits (t.Str s) r e = astray (t.Str s) r e
net_type_fits (t.Punct b) r e = astray (t.Punct b) r e
net_type_fits t.AttrStart r e = astray t.AttrStart r e
net_type_fits t.AttrStop r e = astray t.AttrStop r e
net_type_fits (t.Symbol b) r e = astray (t.Symbol b) r e
net_type_fits (t.Directive w) r e = astray (t.Directive w) r e
