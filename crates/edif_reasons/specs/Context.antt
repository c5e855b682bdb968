-- What stands before a token of an EDIF text: the forms that are open, what of each has been read,
-- and what the header has said of words (EDIF 2 0 0, keywordLevel, keywordAlias and userData).
use Rattle.std.specs.Prelude.{ℕ, ℤ, ◌+◌, Bool, true, false, ◌&&◌, ◌==◌, if◌then◌else◌, List, [], ◌∷◌, ◌++◌, length, Option, Some, None, is_none, option_map}
use Rattle.grammar.specs.Whole.{Terminal, proper, end}
use Rattle.nl_base.specs.declared.place.Place.{Place}
use Rattle.edif_tokens.specs.declared.token.Found.{Found}
use Rattle.edif_values.specs.declared.token.Token.{Token}
use Rattle.edif_values.specs.declared.token.Token.TheVariants.{LeftParen, RightParen, Word, Number, Str}
use Rattle.edif_values.specs.declared.keyword.Keyword.{Keyword}
use Rattle.edif_values.specs.declared.keyword.Keyword.TheVariants as k
use Rattle.edif_values.specs.Keywords.{same_keyword}
use Rattle.edif_keywords.specs.Aliases.{Alias, means, one_more}

-- tokens of a text, of which the end of the input may be the last
abbrev pub Tokens : Type 0
Tokens = List (Terminal Found Place)

-- an element of a form: a token, or a whole form
pub data Element : Type 0 where
  Single : Token → Element
  Group : Element

-- an open form: its keyword, where it has one, and the elements that have been read behind it
pub record Form : Type 0 where
  pub keyword : Option Keyword
  pub elements : List Element

-- what the header has said of words: the keyword level, and the aliases that are in force
pub record Said : Type 0 where
  pub level : Option ℤ
  pub aliases : List Alias

-- where a token stands: what the header has said, and the open forms from the innermost one out, of
-- which the last is no form but the text itself
pub record Context : Type 0 where
  pub said : Said
  pub forms : List Form

abbrev pub placed : Said → List Form → Context
placed said forms = record { said = said; forms = forms }

-- nothing of the form has been read
abbrev pub untouched : Form
untouched = record { keyword = None; elements = [] }

-- the form with one more element
abbrev pub with_element : Form → Element → Form
with_element f e = record { keyword = f.keyword; elements = f.elements ++ e ∷ [] }

-- whether a form that has this keyword, or none, is one of the given keyword
abbrev pub is_keyword : Option Keyword → Keyword → Bool
is_keyword None given = false
is_keyword (Some q) given = same_keyword q given

-- how many lists of user data are open, one in another; None outside user data
unfoldable pub open_lists : List Form → Option ℕ
open_lists [] = None
open_lists (f ∷ around) =
    if is_keyword f.keyword k.UserData then Some 0 else option_map (λ n. n + 1) (open_lists around)

-- whether nothing of a form has been read
abbrev pub is_untouched : Form → Bool
is_untouched f = is_none f.keyword && length f.elements == 0

-- whether the next token stands directly after the `(` of a form: nothing of the innermost one has
-- been read, and it is no list of user data
unfoldable pub at_keyword : List Form → Bool
at_keyword [] = false
at_keyword (text ∷ []) = false
at_keyword (f ∷ g ∷ around) = is_untouched f && is_none (open_lists (g ∷ around))

-- ---- one token further

-- an element of the innermost form
abbrev pub add : Element → List Form → List Form
add e [] = []
add e (f ∷ around) = with_element f e ∷ around

-- a word where a keyword stands gives the form that keyword; any other word is an element
abbrev pub add_word : Bool → Option Keyword → List ℕ → List Form → List Form
add_word true (Some q) w [] = []
add_word true (Some q) w (f ∷ around) = record { keyword = Some q; elements = [] } ∷ around
add_word true None w forms = add (Single (Word w)) forms
add_word false meaning w forms = add (Single (Word w)) forms

-- the aliases, and a word for the keyword that another one means
abbrev pub with_alias : Said → List ℕ → Option Keyword → Said
with_alias said w None = said
with_alias said w (Some q) = record { level = said.level; aliases = one_more said.aliases w q }

-- a keywordLevel says its number
abbrev pub level_said : Said → List Element → Said
level_said said (Single (Number n) ∷ []) = record { level = Some n; aliases = said.aliases }
level_said said elements = said

-- a keywordAlias says that its first word means what its second word means
abbrev pub alias_said : Said → List Element → Said
alias_said said (Single (Word w) ∷ Single (Word v) ∷ []) = with_alias said w (means said.aliases v)
alias_said said elements = said

-- what a form has said at its end
abbrev pub said_by : Said → Form → Said
said_by said f =
    if is_keyword f.keyword k.KeywordLevel then level_said said f.elements
    else (if is_keyword f.keyword k.KeywordAlias then alias_said said f.elements else said)

-- the innermost form ends, and is an element of the one around it
abbrev pub close : Said → List Form → Context
close said [] = placed said []
close said (text ∷ []) = placed said (text ∷ [])
close said (f ∷ g ∷ around) = placed (said_by said f) (with_element g Group ∷ around)

-- behind one more token
abbrev pub after : Context → Token → Context
after c LeftParen = placed c.said (untouched ∷ c.forms)
after c RightParen = close c.said c.forms
after c (Word w) = placed c.said (add_word (at_keyword c.forms) (means c.said.aliases w) w c.forms)
after c (Number n) = placed c.said (add (Single (Number n)) c.forms)
after c (Str s) = placed c.said (add (Single (Str s)) c.forms)

-- the same, where the end of the input changes nothing
abbrev pub behind : Context → Terminal Found Place → Context
behind c (proper x) = after c x.token
behind c (end p) = c

-- behind some tokens, one after the other
abbrev pub behind_all : Context → Tokens → Context
behind_all c [] = c
behind_all c (x ∷ xs) = behind_all (behind c x) xs

-- nothing has been read
abbrev pub at_start : Context
at_start = placed (record { level = None; aliases = [] }) (untouched ∷ [])
