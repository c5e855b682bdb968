-- The aliases of a text, and what a word means under them (EDIF 2 0 0, keywordAlias).
use Rattle.std.specs.Prelude.{ℕ, List, [], ◌∷◌, ◌++◌, map, Option, Some, None, option_map, Vec}
use Rattle.std.specs.List.{find}
use Rattle.std.specs.declared.alloc.Global.{Global}
use Rattle.nl_base.specs.Case.{small, same_bytes}
use Rattle.edif_values.specs.declared.keyword.Keyword.{Keyword}
use Rattle.edif_values.specs.Keywords.{keyword_of}

-- a word, in small letters, and the keyword that it means
pub record Alias : Type 0 where
  pub word : List ℕ
  pub keyword : Keyword

-- the keyword of the alias that is a word up to case
unfoldable pub alias_of : List Alias → List ℕ → Option Keyword
alias_of table word = option_map (λ a. a.keyword) (find (λ a. same_bytes (map small word) a.word) table)

-- a keyword that is known, else that of the alias that a word is
abbrev pub or_alias : Option Keyword → List Alias → List ℕ → Option Keyword
or_alias (Some keyword) table word = Some keyword
or_alias None table word = alias_of table word

-- the keyword that a word means: its own, else that of its alias
unfoldable pub means : List Alias → List ℕ → Option Keyword
means table word = or_alias (keyword_of word) table word

-- the aliases, and one more
abbrev pub one_more : List Alias → List ℕ → Keyword → List Alias
one_more table alias keyword = table ++ (record { word = map small alias; keyword = keyword }) ∷ []

-- the aliases that a map from small letters to keywords has
abbrev pub aliases_in : List (Vec ℕ Global × Keyword) → List Alias
aliases_in = map (λ e. record { word = e.0.items; keyword = e.1 })
