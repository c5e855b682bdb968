-- The table of reasons, computed on texts: the tokens before, the token, and the reason.
use Rattle.std.proofs.Common.{◌≡◌, refl, ℕ, List, [], ◌∷◌, ◌++◌, pos, codes, replicate}
use Rattle.grammar.specs.Whole.{Terminal, proper, end}
use Rattle.nl_base.specs.Place.{place_at_start}
use Rattle.nl_base.specs.declared.place.Place.{Place}
use Rattle.nl_base.specs.declared.fault.Reason.TheVariants as reasons
use Rattle.edif_tokens.specs.declared.token.Found.{Found}
use Rattle.edif_values.specs.declared.token.Token.{Token}
use Rattle.edif_values.specs.declared.token.Token.TheVariants.{LeftParen, RightParen, Word, Number}
use Rattle.edif_values.specs.Keywords.{keyword_of}
use Rattle.edif_keywords.specs.Aliases.{alias_of, means}
use Rattle.edif_reasons.specs.Context.{Tokens, open_lists, at_keyword}
use Rattle.edif_reasons.specs.Rows.{is_at, in_plain_map, is_over, reason_at, reason_row}

abbrev seen : Token → Terminal Found Place
seen t = proper (record { place = place_at_start; stop = 0; token = t })

-- `(` and a word
abbrev opens : List ℕ → Tokens
opens w = seen LeftParen ∷ seen (Word w) ∷ []

abbrev word : List ℕ → Terminal Found Place
word w = seen (Word w)

abbrev number : ℕ → Terminal Found Place
number n = seen (Number (pos n))

-- (edif a
abbrev named : Tokens
named = opens (codes "edif") ++ word (codes "a") ∷ []

-- (edif a(edifVersion 2 0 0
abbrev versioned : Tokens
versioned = named ++ opens (codes "edifVersion") ++ number 2 ∷ number 0 ∷ number 0 ∷ []

-- (edif a(edifVersion 2 0 0)(edifLevel 0)(keywordMap
abbrev mapped : Tokens
mapped = versioned ++ seen RightParen ∷ opens (codes "EDIFLEVEL") ++ number 0 ∷ seen RightParen ∷ opens (codes "keywordMap")

-- the same, and the form keywordLevel
abbrev levelled : ℕ → Tokens
levelled n = mapped ++ opens (codes "keywordLevel") ++ number n ∷ seen RightParen ∷ []

-- the same with level 1, and (keywordAlias kc cell))
abbrev aliased : Tokens
aliased = levelled 1 ++ opens (codes "keywordAlias") ++ word (codes "kc") ∷ word (codes "cell") ∷ seen RightParen ∷ seen RightParen ∷ []

-- nothing at all; (edi; (edif a 5; (edif a(library
pub at_the_end : reason_row [] (end place_at_start) ≡ reasons.EndOfInput
unfolding reason_at
at_the_end = refl

pub no_form : reason_row [] (word (codes "edif")) ≡ reasons.Unexpected
unfolding means keyword_of alias_of reason_at is_at at_keyword open_lists in_plain_map is_over
no_form = refl

pub no_keyword : reason_row (seen LeftParen ∷ []) (word (codes "edi")) ≡ reasons.UnknownWord (codes "edi")
unfolding means keyword_of alias_of reason_at is_at at_keyword open_lists in_plain_map is_over
no_keyword = refl

pub too_early : reason_row (named ++ seen LeftParen ∷ []) (word (codes "Library")) ≡ reasons.NotInProfile (codes "Library")
unfolding means keyword_of alias_of reason_at is_at at_keyword open_lists in_plain_map is_over
too_early = refl

-- (edif a(edifVersion 2 1; (edif a(edifVersion 2 0 0 0; (edif a(edifVersion x
pub other_version : reason_row (named ++ opens (codes "edifVersion") ++ number 2 ∷ []) (number 1) ≡ reasons.Version
unfolding means keyword_of alias_of reason_at is_at at_keyword open_lists in_plain_map is_over
other_version = refl

pub no_number_due : reason_row versioned (number 0) ≡ reasons.Unexpected
unfolding means keyword_of alias_of reason_at is_at at_keyword open_lists in_plain_map is_over
no_number_due = refl

pub no_number : reason_row (named ++ opens (codes "edifVersion")) (word (codes "x")) ≡ reasons.Unexpected
unfolding means keyword_of alias_of reason_at is_at at_keyword open_lists in_plain_map is_over
no_number = refl

-- (edifLevel 1
pub other_level : reason_row (versioned ++ seen RightParen ∷ opens (codes "edifLevel")) (number 1) ≡ reasons.Level
unfolding means keyword_of alias_of reason_at is_at at_keyword open_lists in_plain_map is_over
other_level = refl

-- (keywordLevel 2; (keywordMap(keywordLevel 0)(keywordAlias; (keywordMap(keywordAlias
pub other_keyword_level : reason_row (mapped ++ opens (codes "keywordLevel")) (number 2) ≡ reasons.KeywordLevel
unfolding means keyword_of alias_of reason_at is_at at_keyword open_lists in_plain_map is_over
other_keyword_level = refl

pub no_aliases : reason_row (levelled 0 ++ seen LeftParen ∷ []) (word (codes "keywordAlias")) ≡ reasons.KeywordLevel
unfolding means keyword_of alias_of reason_at is_at at_keyword open_lists in_plain_map is_over
no_aliases = refl

pub no_level_yet : reason_row (mapped ++ seen LeftParen ∷ []) (word (codes "keywordAlias")) ≡ reasons.NotInProfile (codes "keywordAlias")
unfolding means keyword_of alias_of reason_at is_at at_keyword open_lists in_plain_map is_over
no_level_yet = refl

-- (keywordAlias view; (keywordAlias kc sell; (kc, where kc means cell
pub clash : reason_row (levelled 1 ++ opens (codes "keywordAlias")) (word (codes "view")) ≡ reasons.AliasClash
unfolding means keyword_of alias_of reason_at is_at at_keyword open_lists in_plain_map is_over
clash = refl

pub unknown : reason_row (levelled 1 ++ opens (codes "keywordAlias") ++ word (codes "kc") ∷ []) (word (codes "sell")) ≡ reasons.AliasUnknown
unfolding means keyword_of alias_of reason_at is_at at_keyword open_lists in_plain_map is_over
unknown = refl

pub alias_means : reason_row (aliased ++ seen LeftParen ∷ []) (word (codes "KC")) ≡ reasons.NotInProfile (codes "KC")
unfolding means keyword_of alias_of reason_at is_at at_keyword open_lists in_plain_map is_over
alias_means = refl

-- (userData u and 64 lists in one another, and one more
pub deep : reason_row (aliased ++ opens (codes "userData") ++ word (codes "u") ∷ replicate 64 (seen LeftParen)) (seen LeftParen) ≡ reasons.TooDeep
unfolding means keyword_of alias_of reason_at is_at at_keyword open_lists in_plain_map is_over
deep = refl

pub trailing : reason_row (aliased ++ seen RightParen ∷ []) (seen LeftParen) ≡ reasons.Trailing
unfolding means keyword_of alias_of reason_at is_at at_keyword open_lists in_plain_map is_over
trailing = refl

pub view_type : reason_row (aliased ++ opens (codes "viewType")) (word (codes "SCHEMATIC")) ≡ reasons.ViewType (codes "SCHEMATIC")
unfolding means keyword_of alias_of reason_at is_at at_keyword open_lists in_plain_map is_over
view_type = refl

-- (edif a(); (userData(
pub no_word : reason_row (named ++ seen LeftParen ∷ []) (seen RightParen) ≡ reasons.Unexpected
unfolding means keyword_of alias_of reason_at is_at at_keyword open_lists in_plain_map is_over
no_word = refl

pub no_user_data_yet : reason_row (aliased ++ opens (codes "userData")) (seen LeftParen) ≡ reasons.Unexpected
unfolding means keyword_of alias_of reason_at is_at at_keyword open_lists in_plain_map is_over
no_user_data_yet = refl

-- (keywordAlias ka keywordAlias)(ka view: an alias of keywordAlias begins one
pub by_an_alias : reason_row (levelled 1 ++ opens (codes "keywordAlias") ++ word (codes "ka") ∷ word
    (codes "keywordAlias") ∷ seen RightParen ∷ opens (codes "ka")) (word (codes "view")) ≡ reasons.AliasClash
unfolding means keyword_of alias_of reason_at is_at at_keyword open_lists in_plain_map is_over
by_an_alias = refl
