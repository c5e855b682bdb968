-- What a token says at its place, or the reason for which it may not stand there: one definition for each kind of place.
-- The order is that of the reasons, of which the first that fits is given: the end of the input, the faults within a token, and TooDeep,
-- which the trees of user data say, come before all of these.
use Rattle.std.specs.Prelude.{ℕ, Bool, true, false, List, Option, Some, None, option_map, Result, Ok, Err, ℤ, pos, codes, map, if◌then◌else◌}
use Rattle.std.specs.Borrow.{Bor}
use Rattle.std.specs.Ordering.{int_eq}
use Rattle.std.specs.List.{find}
use Rattle.grammar.specs.Part.{Glance, takes, leaves}
use Rattle.nl_base.specs.Case.{same_up_to_case}
use Rattle.nl_base.specs.declared.fault.Reason.{Reason}
use Rattle.nl_base.specs.declared.fault.Reason.TheVariants as reasons
use Rattle.edif_tokens.specs.declared.token.Found.{Found}
use Rattle.edif_values.specs.declared.token.Token.{Token}
use Rattle.edif_values.specs.declared.token.Token.TheVariants.{LeftParen, RightParen, Word, Number, Str}
use Rattle.edif_values.specs.declared.keyword.Keyword.{Keyword}
use Rattle.edif_values.specs.declared.keyword.Keyword.TheVariants as k
use Rattle.edif_values.specs.Keywords.{has, same_keyword}
use Rattle.edif_keywords.specs.Aliases.{Alias, means}

-- Version: in edifVersion, an integer other than the one that is due
abbrev pub version_of : ℤ → Token → Result (Unit {0}) Reason
version_of due (Number n) = if int_eq n due then Ok tt else Err reasons.Version
version_of due t = Err reasons.Unexpected

-- Level: in edifLevel, an integer other than 0
abbrev pub level_of : Token → Result (Unit {0}) Reason
level_of (Number n) = if int_eq n (pos 0) then Ok tt else Err reasons.Level
level_of t = Err reasons.Unexpected

-- KeywordLevel: in keywordLevel, an integer other than 0 and 1; level 1 has aliases
abbrev pub keyword_level_of : Token → Result Bool Reason
keyword_level_of (Number n) = if int_eq n (pos 0) then Ok false else (if int_eq n (pos 1) then Ok true else Err reasons.KeywordLevel)
keyword_level_of t = Err reasons.Unexpected

-- ViewType: in viewType, a word other than NETLIST
abbrev pub view_type_by : List ℕ → Bool → Result (Unit {0}) Reason
view_type_by w true = Ok tt
view_type_by w false = Err (reasons.ViewType w)

-- the same of a token
abbrev pub view_type_of : Token → Result (Unit {0}) Reason
view_type_of (Word w) = view_type_by w (same_up_to_case w (codes "NETLIST"))
view_type_of t = Err reasons.Unexpected

-- AliasClash: the first word of an alias, where it means a keyword already
abbrev pub new_by : List ℕ → Option Keyword → Result (List ℕ) Reason
new_by w None = Ok w
new_by w (Some keyword) = Err reasons.AliasClash

-- the same of a token, under the aliases before
abbrev pub new_word_of : List Alias → Token → Result (List ℕ) Reason
new_word_of table (Word w) = new_by w (means table w)
new_word_of table t = Err reasons.Unexpected

-- AliasUnknown: the second word of an alias, where it means no keyword
abbrev pub known_by : Option Keyword → Result Keyword Reason
known_by None = Err reasons.AliasUnknown
known_by (Some keyword) = Ok keyword

-- the same of a token, under the aliases before; it says the keyword
abbrev pub known_word_of : List Alias → Token → Result Keyword Reason
known_word_of table (Word w) = known_by (means table w)
known_word_of table t = Err reasons.Unexpected

-- NotInProfile: after `(`, a word that means a keyword which may not stand there; UnknownWord: a word that means none
abbrev pub keyword_by : (Keyword → List ℕ → Reason) → List Keyword → List ℕ → Option Keyword → Result Keyword Reason
keyword_by why allowed w None = Err (reasons.UnknownWord w)
keyword_by why allowed w (Some keyword) = if has allowed keyword then Ok keyword else Err (why keyword w)

-- a keyword at a place where others stand
abbrev pub elsewhere : Keyword → List ℕ → Reason
elsewhere keyword w = reasons.NotInProfile w

-- one of the allowed keywords, under the aliases of the text
abbrev pub keyword_of : List Keyword → List Alias → Token → Result Keyword Reason
keyword_of allowed table (Word w) = keyword_by elsewhere allowed w (means table w)
keyword_of allowed table t = Err reasons.Unexpected

-- the same in a keywordMap, where keywordAlias is refused as KeywordLevel where the level has no aliases
abbrev pub above_level : Keyword → List ℕ → Reason
above_level keyword w = if same_keyword keyword k.KeywordAlias then reasons.KeywordLevel else reasons.NotInProfile w

-- one of the keywords of a keywordMap, under the aliases before
abbrev pub map_keyword_of : List Keyword → List Alias → Token → Result Keyword Reason
map_keyword_of allowed table (Word w) = keyword_by above_level allowed w (means table w)
map_keyword_of allowed table t = Err reasons.Unexpected

-- Trailing: a token after the end of the file's form
abbrev pub trailing : {X : Type 0} → X → Reason
trailing x = reasons.Trailing

-- Unexpected: every other token
-- a word
abbrev pub word_of : Token → Result (List ℕ) Reason
word_of (Word w) = Ok w
word_of t = Err reasons.Unexpected

-- a string
abbrev pub string_of : Token → Result (List ℕ) Reason
string_of (Str s) = Ok s
string_of t = Err reasons.Unexpected

-- an integer
abbrev pub integer_of : Token → Result ℤ Reason
integer_of (Number n) = Ok n
integer_of t = Err reasons.Unexpected

-- (
abbrev pub opening_of : Token → Result (Unit {0}) Reason
opening_of LeftParen = Ok tt
opening_of t = Err reasons.Unexpected

-- )
abbrev pub closing_of : Token → Result (Unit {0}) Reason
closing_of RightParen = Ok tt
closing_of t = Err reasons.Unexpected

-- one of some words, up to case, each for a value; none of them is a keyword
unfoldable pub meant_by : {A : Type 0} → List (List ℕ × A) → List ℕ → Option A
meant_by words w = option_map (λ row. row.1) (find (λ row. same_up_to_case w row.0) words)

-- words and values as the program has them
abbrev pub rows : {A : Type 0} → List (Bor (List ℕ) × A) → List (List ℕ × A)
rows = map (λ row. (row.0.now, row.1))

-- a word that is none of them is unexpected
abbrev pub choice_by : {A : Type 0} → Option A → Result A Reason
choice_by None = Err reasons.Unexpected
choice_by (Some a) = Ok a

-- the value of the word that a token is
abbrev pub choice_of : {A : Type 0} → List (List ℕ × A) → Token → Result A Reason
choice_of words (Word w) = choice_by (meant_by words w)
choice_of words t = Err reasons.Unexpected

-- ---- tokens that need not be taken

-- `(`, which begins a form or a list
abbrev pub at_opening : Token → Glance (Unit {0}) Reason
at_opening LeftParen = takes tt
at_opening t = leaves

-- a string
abbrev pub at_string : Token → Glance (List ℕ) Reason
at_string (Str s) = takes s
at_string t = leaves

-- whether a token is `(`
abbrev pub is_opening : Token → Bool
is_opening LeftParen = true
is_opening t = false

-- whether a token is a string
abbrev pub is_string : Token → Bool
is_string (Str s) = true
is_string t = false

-- whether a token at its place is `(`
unfoldable pub opens : Found → Bool
opens x = is_opening x.token

-- whether a token at its place is a string
unfoldable pub has_string : Found → Bool
has_string x = is_string x.token
