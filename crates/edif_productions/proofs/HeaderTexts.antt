-- The header of a file is read as the extended BNF has it.
use Rattle.std.proofs.Common.{◌≡◌, ◌∙◌, sym, ap, subst, refl, inl, inr, ℕ, Bool, true, false, if◌then◌else◌, ℤ, pos, List, [], ◌∷◌, ◌++◌, append_assoc, append-nil, Option, Some, None, Ok, Err}
use Rattle.std.specs.Ordering.{int_eq}
use Rattle.std.proofs.lemmas.Bool.Decides.{Decides-int_eq}
use Rattle.grammar.specs.Texts.{Spells}
use Rattle.grammar.specs.Whole.{proper, end}
use Rattle.nl_base.specs.declared.fault.Reason.{Reason}
use Rattle.nl_base.specs.declared.fault.Reason.TheVariants as reasons
use Rattle.readers.specs.Parts.{one}
use Rattle.edif_values.specs.declared.token.Token.{Token}
use Rattle.edif_values.specs.declared.token.Token.TheVariants.{LeftParen, RightParen, Word, Number, Str}
use Rattle.edif_values.specs.declared.keyword.Keyword.{Keyword}
use Rattle.edif_values.specs.declared.keyword.Keyword.TheVariants as k
use Rattle.edif_values.specs.Keywords.{has, same_keyword}
use Rattle.edif_keywords.specs.Aliases.{Alias, means, one_more}
use Rattle.edif_keywords.specs.Reasons as say
use Rattle.edif_keywords.specs.Grammar as grammar
use Rattle.edif_keywords.specs.Grammar.{closing, forms, version_number, level_number, keyword_level_number, new_word, known_word, map_keywords, map_keyword, map_form, map_item, map_items}
use Rattle.edif_productions.specs.Production.{Production, single, form, meaning, ◌·◌, ◌∣◌, Tokens, IsToken, IsKeyword, Texts, number, new_ident, known_ident, HasTextsOf}
use Rattle.edif_productions.specs.Header.{version, level, alias, remark}
use Rattle.edif_productions.proofs.OneToken.{alone, one_token, KeywordIs, meant_is, has_only, has_first, has_later, has_first_or}
use Rattle.edif_productions.proofs.Combining.{ReadsOn, then_on, ends_on, ends_plainly, ends_bare, whole_form}
use Rattle.edif_productions.proofs.Alike.{SameTexts, on_same}
use Rattle.edif_productions.proofs.Repeating.{many_strings}

-- ---- numbers that are due

due_by : (n m : ℤ) (u : Unit {0}) (why : Reason) (b : Bool) → int_eq n m ≡ b → (if b then Ok tt else Err why) ≡ Ok u → n ≡ m
due_by n m u why true e h = (Decides-int_eq n m).0 e
due_by n m u why false e h = absurd cc

is_due : (n : ℤ) → say.version_of n (Number n) ≡ Ok tt
is_due n = let e : int_eq n n ≡ true = (Decides-int_eq n n).1 refl in rw e refl

version_is : (due : ℤ) (t : Token) (u : Unit {0}) → say.version_of due t ≡ Ok u → t ≡ Number due
version_is due (Number n) u h = ap Number (due_by n due u reasons.Version (int_eq n due) refl h)
version_is due LeftParen u h = absurd cc
version_is due RightParen u h = absurd cc
version_is due (Word w) u h = absurd cc
version_is due (Str s) u h = absurd cc

level_is : (t : Token) (u : Unit {0}) → say.level_of t ≡ Ok u → t ≡ Number (pos 0)
level_is (Number n) u h = ap Number (due_by n (pos 0) u reasons.Level (int_eq n (pos 0)) refl h)
level_is LeftParen u h = absurd cc
level_is RightParen u h = absurd cc
level_is (Word w) u h = absurd cc
level_is (Str s) u h = absurd cc

version_numbers : (n : ℕ) → HasTextsOf (version_number (pos n)) (number n)
version_numbers n =
    one_token (λ _ t. say.version_of (pos n) t) (λ _ t _. t ≡ Number (pos n)) (λ k t u h. version_is (pos n) t u h)
    (λ k t u e. ap (say.version_of (pos n)) e ∙ is_due (pos n))

level_numbers : HasTextsOf level_number (number 0)
level_numbers = one_token (λ _ t. say.level_of t) (λ _ t _. t ≡ Number (pos 0)) (λ k t u h. level_is t u h) (λ k t u e. ap say.level_of e)

pub levels : HasTextsOf grammar.level level
unfolding grammar.level
levels = whole_form k.EdifLevel (ends_bare level_numbers)

-- a number, for no value
bare : (n : ℕ) → SameTexts (number n) (meaning (λ _. tt) (number n))
bare n = record { to = λ k ts v t. (tt, t, refl); from = λ k ts v t. t.1 }

pub versions : HasTextsOf grammar.version version
unfolding grammar.version
versions =
    whole_form k.EdifVersion (then_on (λ _ _. tt) (version_numbers 2)
    (λ _. then_on (λ _ _. tt) (version_numbers 0) (λ _. on_same (bare 0) (ends_bare (version_numbers 0)))))

-- ---- the keyword level

-- the number of a level, which has aliases or not
abbrev pub level_of : Bool → ℕ
level_of false = 0
level_of true = 1

-- the token is the number of the level
abbrev pub IsLevel : Token → Bool → Type 0
IsLevel t b = t ≡ Number (pos (level_of b))

second_level : (n : ℤ) (b c : Bool) → int_eq n (pos 1) ≡ b → (if b then Ok true else Err reasons.KeywordLevel) ≡ Ok c → IsLevel (Number n) c
second_level n true c e h = let same : true ≡ c = cc in subst (IsLevel (Number n)) same (ap Number ((Decides-int_eq n (pos 1)).0 e))
second_level n false c e h = absurd cc

first_level : (n : ℤ) (b c : Bool) → int_eq n (pos 0) ≡ b
    → (if b then Ok false else (if int_eq n (pos 1) then Ok true else Err reasons.KeywordLevel)) ≡ Ok c → IsLevel (Number n) c
first_level n true c e h = let same : false ≡ c = cc in subst (IsLevel (Number n)) same (ap Number ((Decides-int_eq n (pos 0)).0 e))
first_level n false c e h = second_level n (int_eq n (pos 1)) c refl h

keyword_level_is : (t : Token) (b : Bool) → say.keyword_level_of t ≡ Ok b → IsLevel t b
keyword_level_is (Number n) b h = first_level n (int_eq n (pos 0)) b refl h
keyword_level_is LeftParen b h = absurd cc
keyword_level_is RightParen b h = absurd cc
keyword_level_is (Word w) b h = absurd cc
keyword_level_is (Str s) b h = absurd cc

is_keyword_level : (t : Token) (b : Bool) → IsLevel t b → say.keyword_level_of t ≡ Ok b
is_keyword_level t false e = ap say.keyword_level_of e
is_keyword_level t true e = ap say.keyword_level_of e

keyword_level_numbers : HasTextsOf keyword_level_number (single (λ _ t b. IsLevel t b))
keyword_level_numbers =
    one_token (λ _ t. say.keyword_level_of t) (λ _ t b. IsLevel t b) (λ k t b h. keyword_level_is t b h) (λ k t b e. is_keyword_level t b e)

pub keyword_levels : HasTextsOf grammar.keyword_level (form k.KeywordLevel (single (λ _ t b. IsLevel t b)))
unfolding grammar.keyword_level
keyword_levels = whole_form k.KeywordLevel (ends_plainly keyword_level_numbers)

-- ---- aliases

new_by_is : (w v : List ℕ) (m : Option Keyword) → say.new_by w m ≡ Ok v → (m ≡ None) × (w ≡ v)
new_by_is w v None h = let e : w ≡ v = cc in (refl, e)
new_by_is w v (Some q) h = absurd cc

-- the token is a word that means no keyword yet
abbrev IsNew : List Alias → Token → List ℕ → Type 0
IsNew aliases t w = (t ≡ Word w) × (means aliases w ≡ None)

new_word_is : (aliases : List Alias) (t : Token) (v : List ℕ) → say.new_word_of aliases t ≡ Ok v → IsNew aliases t v
new_word_is aliases (Word w) v h = let m = new_by_is w v (means aliases w) h in (ap Word m.1, subst (λ z. means aliases z ≡ None) m.1 m.0)
new_word_is aliases LeftParen v h = absurd cc
new_word_is aliases RightParen v h = absurd cc
new_word_is aliases (Number n) v h = absurd cc
new_word_is aliases (Str s) v h = absurd cc

new_words : HasTextsOf new_word new_ident
new_words =
    one_token (λ aliases t. say.new_word_of aliases t) (λ aliases t w. IsNew aliases t w) new_word_is
    (λ aliases t w m. ap (say.new_word_of aliases) m.0 ∙ ap (say.new_by w) m.1)

known_by_is : (m : Option Keyword) (q : Keyword) → say.known_by m ≡ Ok q → m ≡ Some q
known_by_is None q h = absurd cc
known_by_is (Some p) q h = let e : p ≡ q = cc in ap Some e

-- the token is a word that means the keyword
abbrev IsKnown : List Alias → Token → Keyword → Type 0
IsKnown aliases t q = (w : List ℕ) × (t ≡ Word w) × (means aliases w ≡ Some q)

known_word_is : (aliases : List Alias) (t : Token) (q : Keyword) → say.known_word_of aliases t ≡ Ok q → IsKnown aliases t q
known_word_is aliases (Word w) q h = (w, refl, known_by_is (means aliases w) q h)
known_word_is aliases LeftParen q h = absurd cc
known_word_is aliases RightParen q h = absurd cc
known_word_is aliases (Number n) q h = absurd cc
known_word_is aliases (Str s) q h = absurd cc

known_words : HasTextsOf known_word known_ident
known_words =
    one_token (λ aliases t. say.known_word_of aliases t) (λ aliases t q. IsKnown aliases t q) known_word_is
    (λ aliases t q m. ap (say.known_word_of aliases) m.1 ∙ ap say.known_by m.2)

-- behind `( keywordAlias`: these aliases and the one that is made
abbrev Made : List Alias → Production (List Alias)
Made table = meaning (λ x. one_more table x.0 x.1) (new_ident · known_ident)

aliases_made : (table : List Alias) → ReadsOn (grammar.alias table) (Made table)
unfolding grammar.alias
aliases_made table = then_on (λ w q. one_more table w q) new_words (λ w. ends_on (λ q. one_more table w q) known_words)

-- ---- the keywords of a map

map_keyword_is : (allowed : List Keyword) (aliases : List Alias) (t : Token) (q : Keyword) → say.map_keyword_of allowed aliases t ≡ Ok q
    → KeywordIs allowed aliases t q
map_keyword_is allowed aliases (Word w) q h =
    let m = meant_is say.above_level allowed w q (means aliases w) h in
    record { spelling = w; is = refl; meaning = m.0; may = m.1 }
map_keyword_is allowed aliases LeftParen q h = absurd cc
map_keyword_is allowed aliases RightParen q h = absurd cc
map_keyword_is allowed aliases (Number n) q h = absurd cc
map_keyword_is allowed aliases (Str s) q h = absurd cc

module _ (b : Bool) (table : List Alias) where
  pub map_keyword_text : (ts : Tokens) (q : Keyword) → Spells table (map_keyword b) ts q → IsKeyword table q ts × (has (map_keywords b) q ≡ true)
  unfolding one
  map_keyword_text ts q (proper x, e, h) =
      let is = map_keyword_is (map_keywords b) table x.token q h in
      ((is.spelling, (x, e, is.is), is.meaning), is.may)
  map_keyword_text ts q (end p, e, h) = absurd cc

  pub text_map_keyword : (ts : Tokens) (q : Keyword) → IsKeyword table q ts → has (map_keywords b) q ≡ true → Spells table (map_keyword b) ts q
  unfolding one
  text_map_keyword ts q (w, (x, e, is), m) may =
      let says : say.map_keyword_of (map_keywords b) table (Word w) ≡ Ok q = rw (m, may) refl in
      (proper x, e, ap (say.map_keyword_of (map_keywords b) table) is ∙ says)

-- {alias | comment}, by the level
abbrev pub MapItem : Bool → Production (List Alias)
MapItem false = remark
MapItem true = alias ∣ remark

-- a form of a map: its keyword, what is read behind it, and the aliases behind it
pub record MapForm (b : Bool) (table : List Alias) (ts : Tokens) (all : List Alias) : Type 0 where
  pub key : Keyword
  pub before : Tokens
  pub word : Tokens
  pub behind : Tokens
  pub is : ts ≡ before ++ (word ++ behind)
  pub opens : IsToken LeftParen before
  pub means_key : IsKeyword table key word
  pub may : has (map_keywords b) key ≡ true
  pub text : Spells table (map_form table (same_keyword key k.KeywordAlias)) behind all

-- the aliases that a form makes
pub record Step (b : Bool) (table : List Alias) (ts : Tokens) (all : List Alias) : Type 0 where
  pub made : List Alias
  pub value : all ≡ table ++ made
  pub text : Texts table (MapItem b) ts made

alias_step : (table : List Alias) (ts : Tokens) (all : List Alias) (f : MapForm true table ts all) → f.key ≡ k.KeywordAlias → Step true table ts all
alias_step table ts all f same =
    let r = (aliases_made table).is_text table f.behind all
    (subst (λ z. Spells table (map_form table (same_keyword z k.KeywordAlias)) f.behind all) same f.text) in
    record {
      made = one_more [] r.text.0.0 r.text.0.1;
      value = r.text.2;
      text = inl (record {
        before = f.before;
        inside = f.word ++ r.inside;
        behind = r.behind;
        is = f.is ∙ ap (λ z. f.before ++ z) (ap (λ z. f.word ++ z) r.is ∙ sym (append_assoc f.word r.inside r.behind));
        opens = f.opens;
        text = record {
          word = f.word;
          rest = r.inside;
          is = refl;
          key = subst (λ z. IsKeyword table z f.word) same f.means_key;
          text = (r.text.0, r.text.1, refl);
        };
        closes = r.closes;
      });
    }

-- a comment makes no alias
record Remark (table : List Alias) (ts : Tokens) (all : List Alias) : Type 0 where
  same_aliases : all ≡ table
  text : Texts table remark ts []

comment_step : (b : Bool) (table : List Alias) (ts : Tokens) (all : List Alias) (f : MapForm b table ts all) → f.key ≡ k.Comment → Remark table ts all
comment_step b table ts all f same =
    let s = subst (λ z. Spells table (map_form table (same_keyword z k.KeywordAlias)) f.behind all) same f.text in
    let r = many_strings.is_text table f.behind s.0 (subst (λ z. Spells table grammar.comment z s.0) (sym (s.3 ∙ alone s.1 s.2 s.5.0)) s.4) in
    record {
      same_aliases = s.5.1;
      text = (
        s.0,
        record {
          before = f.before;
          inside = f.word ++ r.inside;
          behind = r.behind;
          is = f.is ∙ ap (λ z. f.before ++ z) (ap (λ z. f.word ++ z) r.is ∙ sym (append_assoc f.word r.inside r.behind));
          opens = f.opens;
          text = record { word = f.word; rest = r.inside; is = refl; key = subst (λ z. IsKeyword table z f.word) same f.means_key; text = r.text };
          closes = r.closes;
        },
        refl,
      );
    }

pub step_of : (b : Bool) (table : List Alias) (ts : Tokens) (all : List Alias) → MapForm b table ts all → Step b table ts all
step_of false table ts all f =
    let r = comment_step false table ts all f (has_only k.Comment f.key f.may) in
    record { made = []; value = r.same_aliases ∙ sym (append-nil table); text = r.text }
step_of true table ts all f = elim (has_first_or k.KeywordAlias (k.Comment ∷ []) f.key f.may) [
  | inl same ↦ alias_step table ts all f same
  | inr may ↦ let r = comment_step true table ts all f (has_only k.Comment f.key may) in
      record { made = []; value = r.same_aliases ∙ sym (append-nil table); text = inr r.text }
]

-- the other way round
comment_may : (b : Bool) → has (map_keywords b) k.Comment ≡ true
comment_may false = has_first k.Comment []
comment_may true = has_later k.KeywordAlias (k.Comment ∷ []) k.Comment (has_first k.Comment [])

remark_form : (b : Bool) (table : List Alias) (ts : Tokens) (made : List Alias) → Texts table remark ts made → MapForm b table ts (table ++ made)
remark_form b table ts made (u, l, e) =
    let m = l.text in
    record {
      key = k.Comment;
      before = l.before;
      word = m.word;
      behind = m.rest ++ l.behind;
      is = l.is ∙ ap (λ z. l.before ++ z) (ap (λ z. z ++ l.behind) m.is ∙ append_assoc m.word m.rest l.behind);
      opens = l.opens;
      means_key = m.key;
      may = comment_may b;
      text = (
        u,
        m.rest ++ l.behind,
        [],
        sym (append-nil (m.rest ++ l.behind)),
        many_strings.is_spelled table (m.rest ++ l.behind) u
            (record { inside = m.rest; behind = l.behind; is = refl; text = m.text; closes = l.closes }),
        (refl, ap (λ z. table ++ z) e ∙ append-nil table),
      );
    }

alias_form : (table : List Alias) (ts : Tokens) (made : List Alias) → Texts table alias ts made → MapForm true table ts (table ++ made)
alias_form table ts made l =
    let m = l.text in
    record {
      key = k.KeywordAlias;
      before = l.before;
      word = m.word;
      behind = m.rest ++ l.behind;
      is = l.is ∙ ap (λ z. l.before ++ z) (ap (λ z. z ++ l.behind) m.is ∙ append_assoc m.word m.rest l.behind);
      opens = l.opens;
      means_key = m.key;
      may = has_first k.KeywordAlias (k.Comment ∷ []);
      text = (aliases_made table).is_spelled table (m.rest ++ l.behind) (table ++ made)
          (record { inside = m.rest; behind = l.behind; is = refl; text = (m.text.0, m.text.1, ap (λ z. table ++ z) m.text.2); closes = l.closes });
    }

pub form_for : (b : Bool) (table : List Alias) (ts : Tokens) (made : List Alias) → Texts table (MapItem b) ts made
    → MapForm b table ts (table ++ made)
form_for false table ts made t = remark_form false table ts made t
form_for true table ts made (inl t) = alias_form table ts made t
form_for true table ts made (inr t) = remark_form true table ts made t
