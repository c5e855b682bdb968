-- Comments and the header of a file in the words of the extended BNF (EDIF 2 0 0, forms comment,
-- edifVersion, edifLevel, keywordMap, keywordLevel, keywordAlias).
use Rattle.std.specs.Prelude.{◌≡◌, ℕ, List, [], ◌++◌}
use Rattle.edif_values.specs.declared.keyword.Keyword.TheVariants as k
use Rattle.edif_keywords.specs.Aliases.{Alias, one_more}
use Rattle.edif_productions.specs.Production.{Production, many, form, meaning, growing, ◌·◌, ◌∣◌, Tokens, Texts, str, number, new_ident, known_ident}

-- comment   = ( comment {STR} )
abbrev pub comment : Production (List (List ℕ))
comment = form k.Comment (many str)

-- ( edifVersion 2 0 0 )
abbrev pub version : Production (Unit {0})
version = form k.EdifVersion (meaning (λ _. tt) (number 2 · number 0 · number 0))

-- ( edifLevel 0 )
abbrev pub level : Production (Unit {0})
level = form k.EdifLevel (number 0)

-- ( keywordLevel N )
abbrev pub keyword_level : ℕ → Production (Unit {0})
keyword_level n = form k.KeywordLevel (number n)

-- alias     = ( keywordAlias IDENT IDENT )                               only where N is 1
-- The first IDENT means no keyword yet, and from then on the keyword that the second one means.
abbrev pub alias : Production (List Alias)
alias = form k.KeywordAlias (meaning (λ x. one_more [] x.0 x.1) (new_ident · known_ident))

-- a comment, which makes no alias
abbrev pub remark : Production (List Alias)
remark = meaning (λ _. []) comment

-- map       = ( keywordMap ( keywordLevel N ) {alias | comment} )        N is 0 or 1
abbrev pub keyword_map : Production (List Alias)
keyword_map =
    form k.KeywordMap (meaning (λ x. x.1) (keyword_level 0 · growing remark)
    ∣ meaning (λ x. x.1) (keyword_level 1 · growing (alias ∣ remark)))

-- ( edifVersion 2 0 0 ) ( edifLevel 0 ) map, which makes the aliases of what follows it
unfoldable pub header : Production (List Alias)
header = meaning (λ x. x.1.1) (version · level · keyword_map)

-- The tokens are a header under these aliases, and all are these and those that it makes.
abbrev pub HeaderText : List Alias → Tokens → List Alias → Type 0
HeaderText aliases ts all =
    (made : List Alias) × (all ≡ aliases ++ made) × Texts aliases header ts made
