-- From each place in a part some tokens lead to its end, and none of its texts goes on to another: for the parts that all forms are
-- made of, the comment and the header.
use Rattle.std.proofs.Common.{◌≡◌, refl, ℕ, Bool, true, false, List, [], ◌∷◌, ◌++◌, Some, Ok, ℤ, pos, codes}
use Rattle.grammar.specs.Part.{gives, sequence, leaves}
use Rattle.grammar.specs.Clear.{IsLive}
use Rattle.nl_base.specs.Place.{place_at_start}
use Rattle.edif_tokens.specs.declared.token.Found.{Found}
use Rattle.edif_values.specs.declared.token.Token.{Token}
use Rattle.edif_values.specs.declared.token.Token.TheVariants.{LeftParen, RightParen, Word, Number, Str}
use Rattle.readers.proofs.Shapes.{live_one, live_while, Shut, shut_gives, shut_one, shut_then, shut_while}
use Rattle.edif_values.specs.declared.keyword.Keyword.{Keyword}
use Rattle.edif_values.specs.declared.keyword.Keyword.TheVariants as k
use Rattle.edif_values.specs.Keywords.{spelling, has, same_keyword}
use Rattle.edif_keywords.specs.Aliases.{Alias, means}
use Rattle.edif_keywords.specs.Language.{Edif}
use Rattle.edif_keywords.specs.Reasons as say
use Rattle.edif_keywords.specs.Grammar.{word, string, integer, opening, closing, choice, view_type, keyword, begin, forms, items, strings, comment, version_number, version, level, keyword_level, new_word, known_word, alias, map_keywords, map_form, map_item, map_items, keyword_map, header}
use Rattle.edif_values.proofs.Spelled.{found_by_spelling}
use Rattle.edif_keywords.proofs.Free.{numbered, unused}

-- a token somewhere
abbrev pub seen : Token → Found
seen t = record { place = place_at_start; stop = 0; token = t }

-- live under all aliases
abbrev pub Lives : {A : Type 0} → Edif A → Type 0
Lives p = (table : List Alias) → IsLive table p

-- closed under all aliases
abbrev pub Closes : {A : Type 0} → Edif A → Type 0
Closes p = (table : List Alias) → Shut table p

-- ---- one token

pub live_word : Lives word
live_word table = live_one (λ _ x. say.word_of x.token) table (seen (Word (codes "a"))) (codes "a") refl

pub live_string : Lives string
live_string table = live_one (λ _ x. say.string_of x.token) table (seen (Str [])) [] refl

pub live_integer : Lives integer
live_integer table = live_one (λ _ x. say.integer_of x.token) table (seen (Number (pos 0))) (pos 0) refl

pub live_opening : Lives opening
live_opening table = live_one (λ _ x. say.opening_of x.token) table (seen LeftParen) tt refl

pub live_closing : Lives closing
live_closing table = live_one (λ _ x. say.closing_of x.token) table (seen RightParen) tt refl

pub live_choice : {A : Type 0} (words : List (List ℕ × A)) (w : List ℕ) (a : A) → say.meant_by words w ≡ Some a → Lives (choice words)
live_choice words w a h table = live_one (λ _ x. say.choice_of words x.token) table (seen (Word w)) a (rw h refl)

pub live_view_type : Lives view_type
live_view_type table = live_one (λ _ x. say.view_type_of x.token) table (seen (Word (codes "NETLIST"))) tt refl

-- a keyword means itself by its spelling
pub means_itself : (table : List Alias) (q : Keyword) → means table (spelling q) ≡ Some q
unfolding means
means_itself table q = rw (found_by_spelling q) refl

-- one of the keywords can always stand, by its spelling
pub live_keyword : (q : Keyword) (allowed : List Keyword) → has allowed q ≡ true → Lives (keyword allowed)
live_keyword q allowed h table = live_one (λ table x. say.keyword_of allowed table x.token) table (seen (Word (spelling q))) q (rw (means_itself table q, h) refl)

pub live_begin : (q : Keyword) (allowed : List Keyword) → has allowed q ≡ true → Lives (begin allowed)
unfolding begin
live_begin q allowed h table = (live_opening table, λ _. live_keyword q allowed h table)

pub closed_keyword : (allowed : List Keyword) → Closes (keyword allowed)
closed_keyword allowed table = shut_one table (λ table x. say.keyword_of allowed table x.token)

pub closed_opening : Closes opening
closed_opening table = shut_one table (λ _ x. say.opening_of x.token)

pub closed_closing : Closes closing
closed_closing table = shut_one table (λ _ x. say.closing_of x.token)

pub closed_begin : (allowed : List Keyword) → Closes (begin allowed)
unfolding begin
closed_begin allowed table = shut_then (closed_opening table) (λ _. closed_keyword allowed table)

-- ---- what begins no form, and no string

pub closing_leaves : (t : Token) (u : Unit {0}) → say.closing_of t ≡ Ok u → say.at_opening t ≡ leaves
closing_leaves LeftParen u h = absurd cc
closing_leaves RightParen u h = refl
closing_leaves (Word w) u h = refl
closing_leaves (Number n) u h = refl
closing_leaves (Str s) u h = refl

pub closing_no_string : (t : Token) (u : Unit {0}) → say.closing_of t ≡ Ok u → say.at_string t ≡ leaves
closing_no_string LeftParen u h = refl
closing_no_string RightParen u h = refl
closing_no_string (Word w) u h = refl
closing_no_string (Number n) u h = refl
closing_no_string (Str s) u h = absurd cc

pub word_leaves : (t : Token) (w : List ℕ) → say.word_of t ≡ Ok w → say.at_opening t ≡ leaves
word_leaves LeftParen w h = absurd cc
word_leaves RightParen w h = refl
word_leaves (Word v) w h = refl
word_leaves (Number n) w h = refl
word_leaves (Str s) w h = refl

pub integer_leaves : (t : Token) (n : ℤ) → say.integer_of t ≡ Ok n → say.at_opening t ≡ leaves
integer_leaves LeftParen n h = absurd cc
integer_leaves RightParen n h = refl
integer_leaves (Word w) n h = refl
integer_leaves (Number m) n h = refl
integer_leaves (Str s) n h = refl

-- ---- forms and strings

module _ {I : Type 0} (allowed : List I → List Keyword) (rest : Keyword → Edif I) (so_far : List I) where
  pub live_items : ((s : List I) → Lives (keyword (allowed s))) → ((q : Keyword) → Lives (rest q)) → Lives (items allowed rest so_far)
  unfolding items forms
  live_items h r table = live_while (λ _ _ x. say.at_opening x.token) _ _ so_far table (λ s _. ((h s table, λ q. r q table), λ i. tt)) (λ s. (live_closing table, λ _. tt))

  pub closed_items : ((q : Keyword) → Closes (rest q)) → Closes (items allowed rest so_far)
  unfolding items forms
  closed_items r table =
      shut_while table (λ _ _ x. say.at_opening x.token) (λ s _. sequence (sequence (keyword (allowed s)) rest) (λ i. gives (s ++ i ∷ []))) (λ _ _ x. say.closing_of x.token) (λ s _. gives s) so_far
      (λ s _. shut_then (shut_then (closed_keyword (allowed s) table) (λ q. r q table)) (λ i. shut_gives table (s ++ i ∷ []))) (λ s _. shut_gives table s) (λ s x b h. closing_leaves x.token b h)

pub live_strings : (so_far : List (List ℕ)) → Lives (strings so_far)
unfolding strings
live_strings so_far table = live_while (λ _ _ x. say.at_string x.token) _ _ so_far table (λ s t. tt) (λ s. (live_closing table, λ _. tt))

pub closed_strings : (so_far : List (List ℕ)) → Closes (strings so_far)
unfolding strings
closed_strings so_far table =
    shut_while table (λ _ _ x. say.at_string x.token) (λ s t. gives (s ++ t ∷ [])) (λ _ _ x. say.closing_of x.token) (λ s _. gives s) so_far
    (λ s t. shut_gives table (s ++ t ∷ [])) (λ s _. shut_gives table s) (λ s x b h. closing_no_string x.token b h)

pub live_comment : Lives comment
live_comment = live_strings []

pub closed_comment : Closes comment
closed_comment = closed_strings []

-- ---- the header

live_version_number : (n : ℕ) → say.version_of (pos n) (Number (pos n)) ≡ Ok tt → Lives (version_number (pos n))
live_version_number n h table = live_one (λ _ x. say.version_of (pos n) x.token) table (seen (Number (pos n))) tt h

live_version : Lives version
unfolding version has
live_version table =
    (live_begin k.EdifVersion (k.EdifVersion ∷ []) refl table, λ _. (live_version_number 2 refl table, λ _. (live_version_number 0 refl table, λ _. (live_version_number 0 refl table, λ _. live_closing table))))

closed_version : Closes version
unfolding version
closed_version table =
    shut_then (closed_begin (k.EdifVersion ∷ []) table) (λ _. shut_then (shut_one table (λ _ x. say.version_of (pos 2) x.token))
    (λ _. shut_then (shut_one table (λ _ x. say.version_of (pos 0) x.token)) (λ _. shut_then (shut_one table (λ _ x. say.version_of (pos 0) x.token)) (λ _. closed_closing table))))

live_level : Lives level
unfolding level has
live_level table = (live_begin k.EdifLevel (k.EdifLevel ∷ []) refl table, λ _. (live_one (λ _ x. say.level_of x.token) table (seen (Number (pos 0))) tt refl, λ _. live_closing table))

closed_level : Closes level
unfolding level
closed_level table = shut_then (closed_begin (k.EdifLevel ∷ []) table) (λ _. shut_then (shut_one table (λ _ x. say.level_of x.token)) (λ _. closed_closing table))

live_keyword_level : Lives keyword_level
unfolding keyword_level has
live_keyword_level table =
    (live_begin k.KeywordLevel (k.KeywordLevel ∷ []) refl table, λ _. (live_one (λ _ x. say.keyword_level_of x.token) table (seen (Number (pos 0))) false refl, λ n. (live_closing table, λ _. tt)))

closed_keyword_level : Closes keyword_level
unfolding keyword_level
closed_keyword_level table =
    shut_then (closed_begin (k.KeywordLevel ∷ []) table) (λ _. shut_then (shut_one table (λ _ x. say.keyword_level_of x.token)) (λ n. shut_then (closed_closing table) (λ _. shut_gives table n)))

-- after `( keywordAlias` some word can always follow: one that means nothing yet
live_new_word : Lives new_word
live_new_word table = let w = unused table in live_one (λ table x. say.new_word_of table x.token) table (seen (Word (numbered w.0))) (numbered w.0) (rw w.2 refl)

live_known_word : Lives known_word
live_known_word table = live_one (λ table x. say.known_word_of table x.token) table (seen (Word (spelling k.Edif))) k.Edif (rw (means_itself table k.Edif) refl)

live_alias : (t : List Alias) → Lives (alias t)
unfolding alias
live_alias t table = (live_new_word table, λ w. (live_known_word table, λ q. (live_closing table, λ _. tt)))

closed_alias : (t : List Alias) → Closes (alias t)
unfolding alias
closed_alias t table =
    shut_then (shut_one table (λ table x. say.new_word_of table x.token)) (λ w. shut_then (shut_one table (λ table x. say.known_word_of table x.token)) (λ q. shut_then (closed_closing table) (λ _. shut_gives table _)))

live_map_form : (t : List Alias) (b : Bool) → Lives (map_form t b)
live_map_form t true table = live_alias t table
live_map_form t false table = (live_comment table, λ _. tt)

closed_map_form : (t : List Alias) (b : Bool) → Closes (map_form t b)
closed_map_form t true table = closed_alias t table
closed_map_form t false table = shut_then (closed_comment table) (λ _. shut_gives table t)

has_comment : (b : Bool) → has (map_keywords b) k.Comment ≡ true
unfolding has
has_comment true = refl
has_comment false = refl

live_map_item : (b : Bool) (t : List Alias) → Lives (map_item b t)
unfolding map_item
live_map_item b t table =
    (live_one (λ table x. say.map_keyword_of (map_keywords b) table x.token) t (seen (Word (spelling k.Comment))) k.Comment (rw (means_itself t k.Comment, has_comment b) refl), λ q. live_map_form t (same_keyword q k.KeywordAlias) t)

live_map_items : (b : Bool) (t : List Alias) → Lives (map_items b t)
unfolding map_items forms
live_map_items b t table = live_while (λ _ _ x. say.at_opening x.token) _ _ t table (λ s _. live_map_item b s table) (λ s. (live_closing table, λ _. tt))

closed_map_item : (b : Bool) (t : List Alias) → Closes (map_item b t)
unfolding map_item
closed_map_item b t table = record { closed = (shut_then (shut_one t (λ table x. say.map_keyword_of (map_keywords b) table x.token)) (λ q. closed_map_form t (same_keyword q k.KeywordAlias) t)).closed }

closed_map_items : (b : Bool) (t : List Alias) → Closes (map_items b t)
unfolding map_items forms
closed_map_items b t table =
    shut_while table (λ _ _ x. say.at_opening x.token) (λ s _. map_item b s) (λ _ _ x. say.closing_of x.token) (λ s _. gives s) t
    (λ s _. closed_map_item b s table) (λ s _. shut_gives table s) (λ s x b h. closing_leaves x.token b h)

live_keyword_map : (t : List Alias) → Lives (keyword_map t)
unfolding keyword_map has
live_keyword_map t table = (live_begin k.KeywordMap (k.KeywordMap ∷ []) refl table, λ _. (live_keyword_level table, λ n. live_map_items n t table))

closed_keyword_map : (t : List Alias) → Closes (keyword_map t)
unfolding keyword_map
closed_keyword_map t table = shut_then (closed_begin (k.KeywordMap ∷ []) table) (λ _. shut_then (closed_keyword_level table) (λ n. closed_map_items n t table))

pub live_header : (t : List Alias) → Lives (header t)
unfolding header
live_header t table = (live_version table, λ _. (live_level table, λ _. live_keyword_map t table))

pub closed_header : (t : List Alias) → Closes (header t)
unfolding header
closed_header t table = shut_then (closed_version table) (λ _. shut_then (closed_level table) (λ _. closed_keyword_map t table))
