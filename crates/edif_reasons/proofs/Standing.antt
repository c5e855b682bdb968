-- Which rows fit in a form that has no row of its own, and directly after a `(`.
use Rattle.std.proofs.Common.{◌≡◌, refl, ℕ, Bool, true, false, not, ◌&&◌, List, [], ◌∷◌, Some, None}
use Rattle.nl_base.specs.declared.fault.Reason.TheVariants as reasons
use Rattle.edif_values.specs.declared.token.Token.{Token}
use Rattle.edif_values.specs.declared.token.Token.TheVariants.{LeftParen, RightParen, Word, Number, Str}
use Rattle.edif_values.specs.declared.keyword.Keyword.{Keyword}
use Rattle.edif_values.specs.declared.keyword.Keyword.TheVariants as k
use Rattle.edif_values.specs.Keywords.{same_keyword}
use Rattle.edif_keywords.specs.Aliases.{means}
use Rattle.edif_reasons.specs.Context.{Element, Form, Said, Context, is_keyword, open_lists, at_keyword, said_by}
use Rattle.edif_reasons.specs.Rows.{is_at, is_level_0, in_plain_map, is_over, reason_of}

-- a form with a keyword and what stands behind it
abbrev pub form : Keyword → List Element → Form
form q es = record { keyword = Some q; elements = es }

-- the same without a keyword
abbrev pub bare : List Element → Form
bare es = record { keyword = None; elements = es }

-- ---- none of some tests holds

abbrev pub no_test : List Bool → Bool
no_test [] = true
no_test (b ∷ bs) = not b && no_test bs

abbrev pub NoneHolds : List Bool → Type 0
NoneHolds [] = Unit {0}
NoneHolds (b ∷ bs) = (b ≡ false) × NoneHolds bs

pub none_holds : (bs : List Bool) → no_test bs ≡ true → NoneHolds bs
none_holds [] h = tt
none_holds (true ∷ bs) h = absurd cc
none_holds (false ∷ bs) h = (refl, none_holds bs h)

-- ---- keywords whose forms have no row of their own

abbrev pub plain_tests : Keyword → List Bool
plain_tests q =
    same_keyword q k.UserData ∷ same_keyword q k.EdifVersion ∷ same_keyword q k.EdifLevel ∷ same_keyword q k.KeywordLevel ∷ same_keyword q k.ViewType
    ∷ same_keyword q k.KeywordAlias ∷ same_keyword q k.KeywordMap ∷ []

pub record IsPlain (q : Keyword) : Type 0 where
  pub user : same_keyword q k.UserData ≡ false
  pub version : same_keyword q k.EdifVersion ≡ false
  pub level : same_keyword q k.EdifLevel ≡ false
  pub keyword_level : same_keyword q k.KeywordLevel ≡ false
  pub view_type : same_keyword q k.ViewType ≡ false
  pub alias : same_keyword q k.KeywordAlias ≡ false
  pub map : same_keyword q k.KeywordMap ≡ false

pub plain_by : (q : Keyword) → no_test (plain_tests q) ≡ true → IsPlain q
plain_by q h =
    let n = none_holds (plain_tests q) h in
    record {
      user = n.0;
      version = n.1.0;
      level = n.1.1.0;
      keyword_level = n.1.1.1.0;
      view_type = n.1.1.1.1.0;
      alias = n.1.1.1.1.1.0;
      map = n.1.1.1.1.1.1.0;
    }

-- ---- no row but the last fits

abbrev pub place_tests : List Form → List Bool
place_tests forms =
    is_at k.EdifVersion 0 forms ∷ is_at k.EdifVersion 1 forms ∷ is_at k.EdifVersion 2 forms ∷ is_at k.EdifLevel 0 forms ∷ is_at k.KeywordLevel 0 forms
    ∷ is_at k.ViewType 0 forms ∷ is_at k.KeywordAlias 0 forms ∷ is_at k.KeywordAlias 1 forms ∷ is_over forms ∷ []

-- no row speaks of where a token stands
pub record IsCalm (forms : List Form) : Type 0 where
  pub lists : open_lists forms ≡ None
  pub version_0 : is_at k.EdifVersion 0 forms ≡ false
  pub version_1 : is_at k.EdifVersion 1 forms ≡ false
  pub version_2 : is_at k.EdifVersion 2 forms ≡ false
  pub level : is_at k.EdifLevel 0 forms ≡ false
  pub keyword_level : is_at k.KeywordLevel 0 forms ≡ false
  pub view_type : is_at k.ViewType 0 forms ≡ false
  pub alias_0 : is_at k.KeywordAlias 0 forms ≡ false
  pub alias_1 : is_at k.KeywordAlias 1 forms ≡ false
  pub over : is_over forms ≡ false

pub calm_by : (forms : List Form) → open_lists forms ≡ None → NoneHolds (place_tests forms) → IsCalm forms
calm_by forms outside n = record {
  lists = outside;
  version_0 = n.0;
  version_1 = n.1.0;
  version_2 = n.1.1.0;
  level = n.1.1.1.0;
  keyword_level = n.1.1.1.1.0;
  view_type = n.1.1.1.1.1.0;
  alias_0 = n.1.1.1.1.1.1.0;
  alias_1 = n.1.1.1.1.1.1.1.0;
  over = n.1.1.1.1.1.1.1.1.0;
}

-- in such a place each token is unexpected
pub unexpected : (c : Context) → IsCalm c.forms → at_keyword c.forms ≡ false → (t : Token) → reasons.Unexpected ≡ reason_of c t
unexpected c calm out LeftParen = rw (calm.lists, calm.over) refl
unexpected c calm out RightParen = rw calm.over refl
unexpected c calm out (Word w) = rw (calm.view_type, calm.alias_0, calm.alias_1, out, calm.over) refl
unexpected c calm out (Number n) = rw (calm.version_0, calm.version_1, calm.version_2, calm.level, calm.keyword_level, calm.over) refl
unexpected c calm out (Str s) = rw calm.over refl

abbrev pub IsWord : Token → Type 0
IsWord (Word w) = Unit {0}
IsWord t = ⊥

-- directly after a `(` each token but a word is
pub no_word : (c : Context) → IsCalm c.forms → (t : Token) → (IsWord t → ⊥) → reasons.Unexpected ≡ reason_of c t
no_word c calm LeftParen isnt = rw (calm.lists, calm.over) refl
no_word c calm RightParen isnt = rw calm.over refl
no_word c calm (Word w) isnt = absurd (isnt tt)
no_word c calm (Number n) isnt = rw (calm.version_0, calm.version_1, calm.version_2, calm.level, calm.keyword_level, calm.over) refl
no_word c calm (Str s) isnt = rw calm.over refl

-- ---- in a form, and directly after a `(`

pub lists_in : (f : Form) (around : List Form) → is_keyword f.keyword k.UserData ≡ false → open_lists around ≡ None → open_lists (f ∷ around) ≡ None
unfolding open_lists
lists_in f around e o = rw (e, o) refl

pub begun : (q : Keyword) (es : List Element) (g : Form) (around : List Form) → at_keyword (form q es ∷ g ∷ around) ≡ false
unfolding at_keyword
begun q es g around = refl

not_here : (a b : Bool) → a ≡ false → (a && b) ≡ false
not_here a b e = rw e refl

pub calm_in : (q : Keyword) (es : List Element) (g : Form) (around : List Form) → IsPlain q → open_lists (g ∷ around) ≡ None
    → IsCalm (form q es ∷ g ∷ around)
unfolding is_at is_over
calm_in q es g around plain outside =
    calm_by (form q es ∷ g ∷ around) (lists_in (form q es) (g ∷ around) plain.user outside) (
      not_here (same_keyword q k.EdifVersion) _ plain.version,
      (
        not_here (same_keyword q k.EdifVersion) _ plain.version,
        (
          not_here (same_keyword q k.EdifVersion) _ plain.version,
          (
            not_here (same_keyword q k.EdifLevel) _ plain.level,
            (
              not_here (same_keyword q k.KeywordLevel) _ plain.keyword_level,
              (
                not_here (same_keyword q k.ViewType) _ plain.view_type,
                (
                  not_here (same_keyword q k.KeywordAlias) _ plain.alias,
                  (not_here (same_keyword q k.KeywordAlias) _ plain.alias, (refl, tt)),
                ),
              ),
            ),
          ),
        ),
      ),
    )

pub calm_bare : (es : List Element) (g : Form) (around : List Form) → open_lists (g ∷ around) ≡ None → IsCalm (bare es ∷ g ∷ around)
unfolding is_at is_over
calm_bare es g around outside =
    calm_by (bare es ∷ g ∷ around) (lists_in (bare es) (g ∷ around) refl outside)
    (refl, (refl, (refl, (refl, (refl, (refl, (refl, (refl, (refl, tt)))))))))

pub takes_keyword : (g : Form) (around : List Form) → open_lists (g ∷ around) ≡ None → at_keyword (bare [] ∷ g ∷ around) ≡ true
unfolding at_keyword
takes_keyword g around outside = rw outside refl

-- whether a form is a keywordMap whose level is 0
abbrev pub is_plain_map : Said → Form → Bool
is_plain_map said g = is_keyword g.keyword k.KeywordMap && is_level_0 said.level

pub map_is : (said : Said) (f g : Form) (around : List Form) → in_plain_map said (f ∷ g ∷ around) ≡ is_plain_map said g
unfolding in_plain_map
map_is said f g around = refl

pub no_map : (said : Said) (g : Form) → is_keyword g.keyword k.KeywordMap ≡ false → is_plain_map said g ≡ false
no_map said g e = rw e refl

-- what a form without a row of its own says at its end
pub says_nothing : (said : Said) (q : Keyword) (es : List Element) → IsPlain q → said_by said (form q es) ≡ said
says_nothing said q es plain = rw (plain.keyword_level, plain.alias) refl

-- ---- a word directly after a `(`

module _ (c : Context) (calm : IsCalm c.forms) (here : at_keyword c.forms ≡ true) (w : List ℕ) where
  pub unknown : (b : Bool) → in_plain_map c.said c.forms ≡ b → means c.said.aliases w ≡ None → reasons.UnknownWord w ≡ reason_of c (Word w)
  unknown true m e = rw (calm.view_type, calm.alias_0, calm.alias_1, here, m, e) refl
  unknown false m e = rw (calm.view_type, calm.alias_0, calm.alias_1, here, m, e) refl

  pub elsewhere : (q : Keyword) → in_plain_map c.said c.forms ≡ false → means c.said.aliases w ≡ Some q
      → reasons.NotInProfile w ≡ reason_of c (Word w)
  elsewhere q m e = rw (calm.view_type, calm.alias_0, calm.alias_1, here, m, e) refl

  pub no_alias : (q : Keyword) → in_plain_map c.said c.forms ≡ true → means c.said.aliases w ≡ Some q → same_keyword q k.KeywordAlias ≡ false
      → reasons.NotInProfile w ≡ reason_of c (Word w)
  no_alias q m e is = rw (calm.view_type, calm.alias_0, calm.alias_1, here, m, e, is) refl

  pub above_level : (q : Keyword) → in_plain_map c.said c.forms ≡ true → means c.said.aliases w ≡ Some q → same_keyword q k.KeywordAlias ≡ true
      → reasons.KeywordLevel ≡ reason_of c (Word w)
  above_level q m e is = rw (here, m, e, is) refl
