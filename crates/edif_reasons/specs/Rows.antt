-- The table of the reasons of first faults in EDIF texts: its rows from top to bottom, of which the
-- first that fits says the reason. Whether a row fits is said by what stands before a token and by
-- the token itself (EDIF 2 0 0, the forms that the rows name).
use Rattle.std.specs.Prelude.{ℕ, ℤ, pos, ◌==◌, Bool, true, false, not, ◌&&◌, ◌||◌, List, [], ◌∷◌, length, Option, Some, None, is_some, is_none, codes}
use Rattle.std.specs.Ordering.{int_eq}
use Rattle.grammar.specs.Whole.{Terminal, proper, end}
use Rattle.nl_base.specs.Case.{same_up_to_case}
use Rattle.nl_base.specs.declared.place.Place.{Place}
use Rattle.nl_base.specs.declared.fault.Reason.{Reason}
use Rattle.nl_base.specs.declared.fault.Reason.TheVariants as reasons
use Rattle.edif_tokens.specs.declared.token.Found.{Found}
use Rattle.edif_values.specs.declared.token.Token.{Token}
use Rattle.edif_values.specs.declared.token.Token.TheVariants.{LeftParen, Word, Number}
use Rattle.edif_values.specs.declared.keyword.Keyword.{Keyword}
use Rattle.edif_values.specs.declared.keyword.Keyword.TheVariants as k
use Rattle.edif_keywords.specs.Aliases.{means}
use Rattle.edif_reasons.specs.Context.{Tokens, Form, Said, Context, is_keyword, open_lists, at_keyword, behind_all, at_start}

-- what a row says: its reason where it fits
abbrev pub Row : Type 0
Row = Option Reason

-- the reason, where this is so
abbrev pub when : Bool → Reason → Row
when true reason = Some reason
when false reason = None

-- ---- where a token stands

-- whether the innermost form is of a keyword, and has so many elements behind it
unfoldable pub is_at : Keyword → ℕ → List Form → Bool
is_at q n [] = false
is_at q n (f ∷ around) = is_keyword f.keyword q && length f.elements == n

-- whether the next token stands in a form that stands in a keywordMap whose level is 0
abbrev pub is_level_0 : Option ℤ → Bool
is_level_0 None = false
is_level_0 (Some n) = int_eq n (pos 0)

unfoldable pub in_plain_map : Said → List Form → Bool
in_plain_map said [] = false
in_plain_map said (f ∷ []) = false
in_plain_map said (f ∷ g ∷ around) = is_keyword g.keyword k.KeywordMap && is_level_0 said.level

-- whether the file's last `)` has been read: no form is open, and something stands in the text
unfoldable pub is_over : List Form → Bool
is_over [] = false
is_over (text ∷ []) = not (length text.elements == 0)
is_over (f ∷ g ∷ around) = false

-- the keyword that a word means under the aliases in force
abbrev pub meaning : Context → List ℕ → Option Keyword
meaning c w = means c.said.aliases w

-- ---- the rows

-- TooDeep: a `(` in user data where 64 lists are open
abbrev pub is_full : Option ℕ → Bool
is_full None = false
is_full (Some n) = n == 64

abbrev pub too_deep : Context → Token → Row
too_deep c LeftParen = when (is_full (open_lists c.forms)) reasons.TooDeep
too_deep c t = None

-- Version: an integer other than the one due in edifVersion, where 2, 0 and 0 are due
abbrev pub version : Context → Token → Row
version c (Number n) =
    when
    ((is_at k.EdifVersion 0 c.forms && not (int_eq n (pos 2)))
    || (is_at k.EdifVersion 1 c.forms && not (int_eq n (pos 0)))
    || (is_at k.EdifVersion 2 c.forms && not (int_eq n (pos 0))))
    reasons.Version
version c t = None

-- Level: an integer other than 0 in edifLevel
abbrev pub level : Context → Token → Row
level c (Number n) = when (is_at k.EdifLevel 0 c.forms && not (int_eq n (pos 0))) reasons.Level
level c t = None

-- KeywordLevel: an integer other than 0 and 1 in keywordLevel; the word keywordAlias directly after
-- a `(` in a keywordMap whose level is 0
abbrev pub keyword_level : Context → Token → Row
keyword_level c (Number n) =
    when (is_at k.KeywordLevel 0 c.forms && not (int_eq n (pos 0)) && not (int_eq n (pos 1)))
    reasons.KeywordLevel
keyword_level c (Word w) =
    when
    (at_keyword c.forms && in_plain_map c.said c.forms && is_keyword (meaning c w) k.KeywordAlias)
    reasons.KeywordLevel
keyword_level c t = None

-- ViewType: a word other than NETLIST in viewType
abbrev pub view_type : Context → Token → Row
view_type c (Word w) =
    when (is_at k.ViewType 0 c.forms && not (same_up_to_case w (codes "NETLIST")))
    (reasons.ViewType w)
view_type c t = None

-- AliasClash: the first word of an alias, where it means a keyword already
abbrev pub alias_clash : Context → Token → Row
alias_clash c (Word w) =
    when (is_at k.KeywordAlias 0 c.forms && is_some (meaning c w)) reasons.AliasClash
alias_clash c t = None

-- AliasUnknown: the second word of an alias, where it means no keyword
abbrev pub alias_unknown : Context → Token → Row
alias_unknown c (Word w) =
    when (is_at k.KeywordAlias 1 c.forms && is_none (meaning c w)) reasons.AliasUnknown
alias_unknown c t = None

-- NotInProfile: directly after a `(` at which a form may begin, a word that means a keyword, which
-- may not stand there. Where the tokens before go on to a file, a form may begin at each `(` of
-- theirs that opens no list of user data.
abbrev pub not_in_profile : Context → Token → Row
not_in_profile c (Word w) =
    when (at_keyword c.forms && is_some (meaning c w)) (reasons.NotInProfile w)
not_in_profile c t = None

-- UnknownWord: directly after a `(` at which a form may begin, a word that means no keyword
abbrev pub unknown_word : Context → Token → Row
unknown_word c (Word w) = when (at_keyword c.forms && is_none (meaning c w)) (reasons.UnknownWord w)
unknown_word c t = None

-- Trailing: a token after the file's last `)`
abbrev pub trailing : Context → Token → Row
trailing c t = when (is_over c.forms) reasons.Trailing

-- Unexpected: every other token
abbrev pub unexpected : Context → Token → Row
unexpected c t = Some reasons.Unexpected

-- the rows for a token, from top to bottom
abbrev pub rows : List (Context → Token → Row)
rows =
    too_deep ∷ version ∷ level ∷ keyword_level ∷ view_type ∷ alias_clash ∷ alias_unknown ∷
    not_in_profile ∷ unknown_word ∷ trailing ∷ unexpected ∷ []

-- the reason of the first row that fits; the last one always does
abbrev pub or_next : Row → Reason → Reason
or_next (Some reason) next = reason
or_next None next = next

abbrev pub first_that_fits : List (Context → Token → Row) → Context → Token → Reason
first_that_fits [] c t = reasons.Unexpected
first_that_fits (row ∷ below) c t = or_next (row c t) (first_that_fits below c t)

-- the reason that these rows give a token where it stands
abbrev pub reason_of : Context → Token → Reason
reason_of c t = first_that_fits rows c t

-- The reason that the table gives a token, or the end of the input, where it stands. Above these
-- rows stand EndOfInput, of the end, and those of bytes that are no token, which have their own.
unfoldable pub reason_at : Context → Terminal Found Place → Reason
reason_at c (proper x) = reason_of c x.token
reason_at c (end p) = reasons.EndOfInput

-- The reason that the table gives a token, or the end of the input, after some tokens.
abbrev pub reason_row : Tokens → Terminal Found Place → Reason
reason_row before x = reason_at (behind_all at_start before) x
