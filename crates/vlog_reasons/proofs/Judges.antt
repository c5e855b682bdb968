-- What each judge of a token says where the token stands.
use Rattle.std.proofs.Common.{◌≡◌, refl, sym, subst, ℕ, eqb, Bool, true, false, cond, List, [], Ok, Err, Option, Some, None}
use Rattle.std.specs.Prelude.{codes}
use Rattle.std.proofs.lemmas.Bool.{eqb-true}
use Rattle.grammar.specs.Part.{takes, leaves}
use Rattle.nl_base.specs.Case.{same_bytes}
use Rattle.nl_base.specs.declared.fault.Reason.TheVariants as reasons
use Rattle.vlog_tokens.specs.declared.token.VToken.{VToken}
use Rattle.vlog_tokens.specs.declared.token.VToken.TheVariants as t
use Rattle.vlog_exprs.specs.Reasons as say
use Rattle.vlog_items.specs.Grammar.{item_words}
use Rattle.vlog_items.specs.declared.item.ItemWord.{ItemWord}
use Rattle.vlog_modules.specs.Grammar.{word_start, at_item, module_start, directive_start, at_piece, directive_of, net_type_of}
use Rattle.vlog_reasons.specs.Context.{Tokens, Brace, Context, after}
use Rattle.vlog_reasons.specs.Rows.{reason_of}
use Rattle.vlog_reasons.proofs.Tracking.{Before, Judged, Seen}
use Rattle.vlog_reasons.proofs.Standing.{IsCalm, calm_fine, In, Opens, Ahead}

-- the token is given no other reason where it is out of place
abbrev pub Plain : Context → VToken → Type 0
Plain c u = say.misplaced u ≡ reason_of c u

-- behind a token that says nothing of what follows
abbrev pub quiet : (bs : List Brace) (c : Context) (u : VToken) (b : Tokens) → IsCalm (after c u) → (after c u).braces ≡ bs → In bs (after c u) b
quiet bs c u b calm e = (e, calm_fine (after c u) b calm)

module _ (bs : List Brace) (c : Context) (b : Tokens) (e : c.braces ≡ bs) where
  pub name_by : (u : VToken) → Plain c u → Judged c (λ v d. In bs d b) u (say.name_of u)
  name_by (t.Name n) h = quiet bs c (t.Name n) b (record { bound = refl; size = refl; brace = refl }) e
  name_by (t.Keyword w) h = h
  name_by (t.Number n) h = h
  name_by (t.Real x) h = h
  name_by (t.Based d) h = h
  name_by (t.Str s) h = h
  name_by (t.Punct m) h = h
  name_by t.AttrStart h = h
  name_by t.AttrStop h = h
  name_by (t.Symbol m) h = h
  name_by (t.Directive w) h = h

  pub group_end_by : (u : VToken) → Plain c u → Judged c (λ v d. In bs d b) u (say.group_end_of u)
  group_end_by (t.Name n) h = h
  group_end_by (t.Keyword w) h = h
  group_end_by (t.Number n) h = h
  group_end_by (t.Real x) h = h
  group_end_by (t.Based d) h = h
  group_end_by (t.Str s) h = h
  group_end_by (t.Punct m) h = h
  group_end_by t.AttrStart h = h
  group_end_by t.AttrStop h = quiet bs c t.AttrStop b (record { bound = refl; size = refl; brace = refl }) e
  group_end_by (t.Symbol m) h = h
  group_end_by (t.Directive w) h = h

-- a mark, with what holds behind it
module _ (P : Before) (c : Context) (b : Tokens) (due : ℕ) (behind_it : P (after c (t.Punct due)) b) where
  judged_mark : (m : ℕ) (test : Bool) → eqb m due ≡ test → reasons.Unexpected ≡ reason_of c (t.Punct m)
      → Judged c (λ (_ : Unit {0}) d. P d b) (t.Punct m) (cond test (Ok tt) (Err reasons.Unexpected))
  judged_mark m true is h = subst (λ z. P (after c (t.Punct z)) b) (sym (eqb-true m due is)) behind_it
  judged_mark m false is h = h

  pub mark_by : (u : VToken) → Plain c u → Judged c (λ (_ : Unit {0}) d. P d b) u (say.mark_of due u)
  mark_by (t.Name n) h = h
  mark_by (t.Keyword w) h = h
  mark_by (t.Number n) h = h
  mark_by (t.Real x) h = h
  mark_by (t.Based d) h = h
  mark_by (t.Str s) h = h
  mark_by (t.Punct m) h = judged_mark m (eqb m due) refl h
  mark_by t.AttrStart h = h
  mark_by t.AttrStop h = h
  mark_by (t.Symbol m) h = h
  mark_by (t.Directive w) h = h

  seen_mark : (L : Type 0) (m : ℕ) (test : Bool) → eqb m due ≡ test → L
      → Seen (λ (_ : Unit {0}) d. P d b) L c (t.Punct m) (cond test (takes tt) leaves)
  seen_mark L m true is h = subst (λ z. P (after c (t.Punct z)) b) (sym (eqb-true m due is)) behind_it
  seen_mark L m false is h = h

  pub at_mark_by : (L : Type 0) (u : VToken) → L → Seen (λ (_ : Unit {0}) d. P d b) L c u (say.at_mark due u)
  at_mark_by L (t.Name n) h = h
  at_mark_by L (t.Keyword w) h = h
  at_mark_by L (t.Number n) h = h
  at_mark_by L (t.Real x) h = h
  at_mark_by L (t.Based d) h = h
  at_mark_by L (t.Str s) h = h
  at_mark_by L (t.Punct m) h = seen_mark L m (eqb m due) refl h
  at_mark_by L t.AttrStart h = h
  at_mark_by L t.AttrStop h = h
  at_mark_by L (t.Symbol m) h = h
  at_mark_by L (t.Directive w) h = h

-- outside braces
module _ (c : Context) (b : Tokens) (e : c.braces ≡ []) where
  -- behind a word an expression may begin, for all that is known
  pub behind_word : (u : VToken) → Opens u → (after c u).braces ≡ [] → Ahead (after c u) b
  behind_word u o f = (u, o, f, refl)

  word_ahead : (w : List ℕ) → Ahead (after c (t.Keyword w)) b
  word_ahead w = behind_word (t.Keyword w) (record { no_bound = refl; no_minus = refl; no_size = refl; no_number = refl; sizes = refl }) e

  name_ahead : (n : List ℕ) → Ahead (after c (t.Name n)) b
  name_ahead n = behind_word (t.Name n) (record { no_bound = refl; no_minus = refl; no_size = refl; no_number = refl; sizes = refl }) e

  pub group_ahead : Ahead (after c t.AttrStart) b
  group_ahead = behind_word t.AttrStart (record { no_bound = refl; no_minus = refl; no_size = refl; no_number = refl; sizes = refl }) e

  directive_ahead : (w : List ℕ) → Ahead (after c (t.Directive w)) b
  directive_ahead w = behind_word (t.Directive w) (record { no_bound = refl; no_minus = refl; no_size = refl; no_number = refl; sizes = refl }) e

  judged_word : {A : Type 0} (w : List ℕ) (test : Bool) (v : A)
      → Judged c (λ _ d. Ahead d b) (t.Keyword w) (cond test (Ok v) (Err (reasons.NotInProfile w)))
  judged_word w true v = word_ahead w
  judged_word w false v = refl

  judged_choice : {A : Type 0} (w : List ℕ) (o : Option A) → Judged c (λ _ d. Ahead d b) (t.Keyword w) (say.choice_by w o)
  judged_choice w None = refl
  judged_choice w (Some a) = word_ahead w

  seen_choice : {A : Type 0} (L : Type 0) (w : List ℕ) (o : Option A) → L → Seen (λ _ d. Ahead d b) L c (t.Keyword w) (say.glance_of o)
  seen_choice L w None h = h
  seen_choice L w (Some a) h = word_ahead w

  pub keyword_by : (due : List ℕ) (u : VToken) → Plain c u → Judged c (λ _ d. Ahead d b) u (say.keyword_of due u)
  keyword_by due (t.Name n) h = h
  keyword_by due (t.Keyword w) h = judged_word w (same_bytes w due) tt
  keyword_by due (t.Number n) h = h
  keyword_by due (t.Real x) h = h
  keyword_by due (t.Based d) h = h
  keyword_by due (t.Str s) h = h
  keyword_by due (t.Punct m) h = h
  keyword_by due t.AttrStart h = h
  keyword_by due t.AttrStop h = h
  keyword_by due (t.Symbol m) h = h
  keyword_by due (t.Directive w) h = h

  pub choice_by : {A : Type 0} (words : List (List ℕ × A)) (u : VToken) → Plain c u → Judged c (λ _ d. Ahead d b) u (say.choice_of words u)
  choice_by words (t.Name n) h = h
  choice_by words (t.Keyword w) h = judged_choice w (say.meant_by words w)
  choice_by words (t.Number n) h = h
  choice_by words (t.Real x) h = h
  choice_by words (t.Based d) h = h
  choice_by words (t.Str s) h = h
  choice_by words (t.Punct m) h = h
  choice_by words t.AttrStart h = h
  choice_by words t.AttrStop h = h
  choice_by words (t.Symbol m) h = h
  choice_by words (t.Directive w) h = h

  pub at_choice_by : {A : Type 0} (words : List (List ℕ × A)) (L : Type 0) (u : VToken) → L → Seen (λ _ d. Ahead d b) L c u (say.at_choice words u)
  at_choice_by words L (t.Name n) h = h
  at_choice_by words L (t.Keyword w) h = seen_choice L w (say.meant_by words w) h
  at_choice_by words L (t.Number n) h = h
  at_choice_by words L (t.Real x) h = h
  at_choice_by words L (t.Based d) h = h
  at_choice_by words L (t.Str s) h = h
  at_choice_by words L (t.Punct m) h = h
  at_choice_by words L t.AttrStart h = h
  at_choice_by words L t.AttrStop h = h
  at_choice_by words L (t.Symbol m) h = h
  at_choice_by words L (t.Directive w) h = h

  pub at_group_by : (L : Type 0) (u : VToken) → L → Seen (λ _ d. Ahead d b) L c u (say.at_group u)
  at_group_by L (t.Name n) h = h
  at_group_by L (t.Keyword w) h = h
  at_group_by L (t.Number n) h = h
  at_group_by L (t.Real x) h = h
  at_group_by L (t.Based d) h = h
  at_group_by L (t.Str s) h = h
  at_group_by L (t.Punct m) h = h
  at_group_by L t.AttrStart h = group_ahead
  at_group_by L t.AttrStop h = h
  at_group_by L (t.Symbol m) h = h
  at_group_by L (t.Directive w) h = h

  pub at_name_by : (L : Type 0) (u : VToken) → L → Seen (λ _ d. Ahead d b) L c u (say.at_name u)
  at_name_by L (t.Name n) h = name_ahead n
  at_name_by L (t.Keyword w) h = h
  at_name_by L (t.Number n) h = h
  at_name_by L (t.Real x) h = h
  at_name_by L (t.Based d) h = h
  at_name_by L (t.Str s) h = h
  at_name_by L (t.Punct m) h = h
  at_name_by L t.AttrStart h = h
  at_name_by L t.AttrStop h = h
  at_name_by L (t.Symbol m) h = h
  at_name_by L (t.Directive w) h = h

  judged_none : (n : List ℕ) (test : Bool) → Judged c (λ _ d. Ahead d b) (t.Name n) (cond test (Ok false) (Err reasons.Unexpected))
  judged_none n true = name_ahead n
  judged_none n false = refl

  pub net_type_by : (u : VToken) → Plain c u → Judged c (λ _ d. Ahead d b) u (net_type_of u)
  net_type_by (t.Name n) h = judged_none n (same_bytes n (codes "none"))
  net_type_by (t.Keyword w) h = judged_word w (same_bytes w (codes "wire")) true
  net_type_by (t.Number n) h = h
  net_type_by (t.Real x) h = h
  net_type_by (t.Based d) h = h
  net_type_by (t.Str s) h = h
  net_type_by (t.Punct m) h = h
  net_type_by t.AttrStart h = h
  net_type_by t.AttrStop h = h
  net_type_by (t.Symbol m) h = h
  net_type_by (t.Directive w) h = h

  seen_word : (L : Type 0) (w : List ℕ) (o : Option ItemWord) → L → Seen (λ _ d. Ahead d b) L c (t.Keyword w) (word_start o)
  seen_word L w None h = h
  seen_word L w (Some a) h = word_ahead w

  pub at_item_by : (L : Type 0) (u : VToken) → L → Seen (λ _ d. Ahead d b) L c u (at_item u)
  at_item_by L (t.Name n) h = name_ahead n
  at_item_by L (t.Keyword w) h = seen_word L w (say.meant_by item_words w) h
  at_item_by L (t.Number n) h = h
  at_item_by L (t.Real x) h = h
  at_item_by L (t.Based d) h = h
  at_item_by L (t.Str s) h = h
  at_item_by L (t.Punct m) h = h
  at_item_by L t.AttrStart h = group_ahead
  at_item_by L t.AttrStop h = h
  at_item_by L (t.Symbol m) h = h
  at_item_by L (t.Directive w) h = h

  seen_module : (L : Type 0) (w : List ℕ) (test : Bool) → L → Seen (λ _ d. Ahead d b) L c (t.Keyword w) (module_start test)
  seen_module L w true h = word_ahead w
  seen_module L w false h = h

  seen_directive : (L : Type 0) (w : List ℕ) (o : Option _) → L → Seen (λ _ d. Ahead d b) L c (t.Directive w) (directive_start o)
  seen_directive L w None h = h
  seen_directive L w (Some a) h = directive_ahead w

  pub at_piece_by : (L : Type 0) (u : VToken) → L → Seen (λ _ d. Ahead d b) L c u (at_piece u)
  at_piece_by L (t.Name n) h = h
  at_piece_by L (t.Keyword w) h = seen_module L w (same_bytes w (codes "module")) h
  at_piece_by L (t.Number n) h = h
  at_piece_by L (t.Real x) h = h
  at_piece_by L (t.Based d) h = h
  at_piece_by L (t.Str s) h = h
  at_piece_by L (t.Punct m) h = h
  at_piece_by L t.AttrStart h = group_ahead
  at_piece_by L t.AttrStop h = h
  at_piece_by L (t.Symbol m) h = h
  at_piece_by L (t.Directive w) h = seen_directive L w (directive_of w) h
