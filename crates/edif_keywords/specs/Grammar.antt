-- The parts of the grammar that all forms are made of, and the productions of the header and of comments (EDIF 2 0 0, forms
-- edifVersion, edifLevel, keywordMap, keywordAlias and comment). Each production reads on after its keyword.
use Rattle.std.specs.Prelude.{ℕ, Bool, true, false, List, [], ◌∷◌, ◌++◌, ℤ, pos}
use Rattle.grammar.specs.Part.{gives, sequence, under, ◌>>=◌}
use Rattle.readers.specs.Parts.{one, if_next, while_next}
use Rattle.edif_values.specs.declared.keyword.Keyword.{Keyword}
use Rattle.edif_values.specs.declared.keyword.Keyword.TheVariants as k
use Rattle.edif_values.specs.Keywords.{same_keyword}
use Rattle.edif_keywords.specs.Aliases.{Alias, one_more}
use Rattle.edif_keywords.specs.Language.{Edif}
use Rattle.edif_keywords.specs.Reasons as say

-- ---- one token

-- IDENT
abbrev pub word : Edif (List ℕ)
word = one (λ _ x. say.word_of x.token)

-- STR
abbrev pub string : Edif (List ℕ)
string = one (λ _ x. say.string_of x.token)

-- INT
abbrev pub integer : Edif ℤ
integer = one (λ _ x. say.integer_of x.token)

-- (
abbrev pub opening : Edif (Unit {0})
opening = one (λ _ x. say.opening_of x.token)

-- )
abbrev pub closing : Edif (Unit {0})
closing = one (λ _ x. say.closing_of x.token)

-- one of some words, each for a value
abbrev pub choice : {A : Type 0} → List (List ℕ × A) → Edif A
choice words = one (λ _ x. say.choice_of words x.token)

-- NETLIST in viewType
abbrev pub view_type : Edif (Unit {0})
view_type = one (λ _ x. say.view_type_of x.token)

-- one of some keywords
abbrev pub keyword : List Keyword → Edif Keyword
keyword allowed = one (λ table x. say.keyword_of allowed table x.token)

-- ---- forms

-- ( and one of some keywords
unfoldable pub begin : List Keyword → Edif Keyword
begin allowed = do
  _ ← opening
  keyword allowed

-- {( round } rest: as long as a form begins, a round in the state so far, and then the rest
unfoldable pub forms : {S A : Type 0} → (S → Edif S) → (S → Edif A) → S → Edif A
forms round rest = while_next (λ _ _ x. say.at_opening x.token) (λ s _. round s) rest

-- ( keyword rest, or another part that does not begin with `(`
unfoldable pub form_or : {A : Type 0} → List Keyword → (Keyword → Edif A) → Edif A → Edif A
form_or allowed rest other = if_next (λ _ x. say.at_opening x.token) (λ _. sequence (keyword allowed) rest) other

-- a form with one of some keywords, from its `(` on
abbrev pub item : {I : Type 0} → List Keyword → (Keyword → Edif I) → Edif I
item allowed rest = sequence (begin allowed) rest

-- {( keyword rest} ): the items up to the end of the form around them, after some; those before say which keywords may come
unfoldable pub items : {I : Type 0} → (List I → List Keyword) → (Keyword → Edif I) → List I → Edif (List I)
items allowed rest = forms (λ so_far. sequence (sequence (keyword (allowed so_far)) rest) (λ i. gives (so_far ++ i ∷ []))) (λ so_far. sequence closing (λ _. gives so_far))

-- {STR} ), after some strings
unfoldable pub strings : List (List ℕ) → Edif (List (List ℕ))
strings = while_next (λ _ _ x. say.at_string x.token) (λ so_far s. gives (so_far ++ s ∷ [])) (λ so_far. sequence closing (λ _. gives so_far))

-- comment   = ( comment {STR} )
abbrev pub comment : Edif (List (List ℕ))
comment = strings []

-- ---- the header

-- the number that is due in edifVersion
abbrev pub version_number : ℤ → Edif (Unit {0})
version_number due = one (λ _ x. say.version_of due x.token)

-- ( edifVersion 2 0 0 )
unfoldable pub version : Edif (Unit {0})
version = do
  _ ← begin (k.EdifVersion ∷ [])
  _ ← version_number (pos 2)
  _ ← version_number (pos 0)
  _ ← version_number (pos 0)
  closing

-- the number 0 in edifLevel
abbrev pub level_number : Edif (Unit {0})
level_number = one (λ _ x. say.level_of x.token)

-- ( edifLevel 0 )
unfoldable pub level : Edif (Unit {0})
level = do
  _ ← begin (k.EdifLevel ∷ [])
  _ ← level_number
  closing

-- the number of keywordLevel: whether that level has aliases
abbrev pub keyword_level_number : Edif Bool
keyword_level_number = one (λ _ x. say.keyword_level_of x.token)

-- ( keywordLevel N )                                                     N is 0 or 1
unfoldable pub keyword_level : Edif Bool
keyword_level = do
  _ ← begin (k.KeywordLevel ∷ [])
  n ← keyword_level_number
  _ ← closing
  gives n

-- a word that means no keyword yet
abbrev pub new_word : Edif (List ℕ)
new_word = one (λ table x. say.new_word_of table x.token)

-- a word that means a keyword, and which
abbrev pub known_word : Edif Keyword
known_word = one (λ table x. say.known_word_of table x.token)

-- alias     = ( keywordAlias IDENT IDENT )                               only where N is 1
-- Under some aliases it gives them and one more.
unfoldable pub alias : List Alias → Edif (List Alias)
alias table = do
  w ← new_word
  q ← known_word
  _ ← closing
  gives (one_more table w q)

-- the keywords that may stand in a keywordMap
abbrev pub map_keywords : Bool → List Keyword
map_keywords true = k.KeywordAlias ∷ k.Comment ∷ []
map_keywords false = k.Comment ∷ []

-- one of the keywords that may stand in a keywordMap
abbrev pub map_keyword : Bool → Edif Keyword
map_keyword with_aliases = one (λ table x. say.map_keyword_of (map_keywords with_aliases) table x.token)

-- an alias, or a comment that changes nothing
abbrev pub map_form : List Alias → Bool → Edif (List Alias)
map_form table true = alias table
map_form table false = sequence comment (λ _. gives table)

-- alias | comment, under the aliases before it
unfoldable pub map_item : Bool → List Alias → Edif (List Alias)
map_item with_aliases table = under table (sequence (map_keyword with_aliases) (λ q. map_form table (same_keyword q k.KeywordAlias)))

-- {alias | comment} )
unfoldable pub map_items : Bool → List Alias → Edif (List Alias)
map_items with_aliases = forms (map_item with_aliases) (λ table. sequence closing (λ _. gives table))

-- map       = ( keywordMap ( keywordLevel N ) {alias | comment} )
unfoldable pub keyword_map : List Alias → Edif (List Alias)
keyword_map table = do
  _ ← begin (k.KeywordMap ∷ [])
  n ← keyword_level
  map_items n table

-- ( edifVersion 2 0 0 ) ( edifLevel 0 ) map
-- Under the aliases at its beginning it gives those of what follows it.
unfoldable pub header : List Alias → Edif (List Alias)
header table = do
  _ ← version
  _ ← level
  keyword_map table
