-- The map that holds the aliases, and what a word means by it.
use Rattle.std.proofs.Common.{arith, ◌≡◌, ◌∙◌, sym, ap, refl, ℕ, ◌+◌, ◌≤◌, Bool, true, false, cond, Option, Some, None, List, [], ◌∷◌, ◌++◌, map, length, drop}
use Rattle.std.proofs.lemmas.List.{at_drop_more, at_drop_all, map-append}
use Rattle.std.proofs.lemmas.Option.{slice_get_within, get_or_from_slice_get}
use Rattle.std.specs.List.{find, slice_get}
use Rattle.std.specs.Map.{lookup}
use Rattle.std.specs.Prelude.{Vec, is_some, option_map}
use Rattle.std.specs.Str.{bytes_eq}
use Rattle.std.specs.declared.alloc.Global.{Global}
use Rattle.indexmap.specs.IndexMap.{IndexMap, get, insert_entry}
use Rattle.indexmap.proofs.CallerLemmas.{insert_entry-new}
use Rattle.nl_base.specs.Case.{small, same_bytes}
use Rattle.edif_values.specs.declared.keyword.Keyword.{Keyword}
use Rattle.edif_values.specs.Keywords.{keyword_of}
use Rattle.edif_keywords.specs.Aliases.{Alias, alias_of, aliases_in, means, or_alias, one_more}

-- the alias of a word is what the map has at the word in small letters
pub alias_of-lookup : (word : List ℕ) (es : List (Vec ℕ Global × Keyword)) → alias_of (aliases_in es) word ≡ lookup (λ key. same_bytes (map small word) key.items) es
unfolding alias_of
alias_of-lookup word [] = refl
alias_of-lookup word (e ∷ es) = go (same_bytes (map small word) e.0.items) (alias_of-lookup word es)
  where
    go : (b : Bool) → option_map (λ a. a.keyword) (find (λ a. same_bytes (map small word) a.word) (aliases_in es)) ≡ lookup (λ key. same_bytes (map small word) key.items) es
        → option_map (λ a. a.keyword) (cond b (Some (record { word = e.0.items; keyword = e.1 })) (find (λ a. same_bytes (map small word) a.word) (aliases_in es))) ≡ cond b (Some e.1) (lookup (λ key. same_bytes (map small word) key.items) es)
    go true h = refl
    go false h = h

pub none_in_empty : (word : List ℕ) (es : List (Vec ℕ Global × Keyword)) → length es ≡ 0 → alias_of (aliases_in es) word ≡ None
unfolding alias_of
none_in_empty word [] e = refl
none_in_empty word (x ∷ xs) e = absurd (omega arith)

-- a turn of the search
module _ (word : List ℕ) (es : List (Vec ℕ Global × Keyword)) (i : ℕ) (key : Vec ℕ Global) (keyword : Keyword) (at : slice_get es i ≡ Some (key, keyword)) where
  turn : alias_of (aliases_in (drop i es)) word ≡ alias_of (aliases_in ((key, keyword) ∷ drop (i + 1) es)) word
  turn =
      at_drop_more (λ rest. alias_of (aliases_in rest) word) es i (key, keyword) (slice_get_within es i (key, keyword) at)
      ∙ ap (λ e. alias_of (aliases_in (e ∷ drop (i + 1) es)) word) (get_or_from_slice_get es i (key, keyword) (key, keyword) at)

  pub turn_found : same_bytes (map small word) key.items ≡ true → alias_of (aliases_in (drop i es)) word ≡ Some keyword
  turn_found h = turn ∙ alias_of-lookup word ((key, keyword) ∷ drop (i + 1) es) ∙ ap (λ b. cond b (Some keyword) (lookup (λ k. same_bytes (map small word) k.items) (drop (i + 1) es))) h

  pub turn_passes : same_bytes (map small word) key.items ≡ false → alias_of (aliases_in (drop i es)) word ≡ alias_of (aliases_in (drop (i + 1) es)) word
  turn_passes h =
      turn ∙ alias_of-lookup word ((key, keyword) ∷ drop (i + 1) es) ∙ ap (λ b. cond b (Some keyword) (lookup (λ k. same_bytes (map small word) k.items) (drop (i + 1) es))) h
      ∙ sym (alias_of-lookup word (drop (i + 1) es))

pub none_left : (word : List ℕ) (es : List (Vec ℕ Global × Keyword)) (i : ℕ) → length es ≤ i → alias_of (aliases_in (drop i es)) word ≡ None
none_left word es i le = at_drop_all (λ rest. alias_of (aliases_in rest) word) es i le ∙ none_in_empty word [] refl

-- a word that means nothing has no alias
pub means_none : (table : List Alias) (word : List ℕ) → means table word ≡ None → alias_of table word ≡ None
unfolding means
means_none table word e = go (keyword_of word) e
  where
    go : (k : Option Keyword) → or_alias k table word ≡ None → alias_of table word ≡ None
    go None e = e
    go (Some k) e = absurd cc

pub none_of : {X : Type 0} (x : Option X) → is_some x ≡ false → x ≡ None
none_of None e = refl
none_of (Some y) e = absurd cc

-- a new alias stands after the others
pub new_alias : {S : Type 0} (old new : IndexMap (Vec ℕ Global) Keyword S) (table : List Alias) (alias : List ℕ) (key : Vec ℕ Global) (keyword : Keyword)
    → aliases_in old.entries ≡ table → means table alias ≡ None → key.items ≡ map small alias
    → new.entries ≡ insert_entry (λ x y. bytes_eq x.items y.items) old.entries key keyword → aliases_in new.entries ≡ one_more table alias keyword
new_alias old new table alias key keyword same none is_key is_new =
    let unlisted : get (λ x y. bytes_eq x.items y.items) old key ≡ None =
    ap (λ l. lookup (λ y. bytes_eq l y.items) old.entries) is_key ∙ sym (alias_of-lookup alias old.entries) ∙ ap (λ t. alias_of t alias) same ∙ means_none table alias none in
    let entries = is_new ∙ insert_entry-new (λ x y. bytes_eq x.items y.items) old key keyword unlisted in
    ap aliases_in entries ∙ map-append (λ e. record { word = e.0.items; keyword = e.1 }) old.entries ((key, keyword) ∷ [])
    ∙ ap (λ t. t ++ (record { word = key.items; keyword = keyword }) ∷ []) same ∙ ap (λ l. table ++ (record { word = l; keyword = keyword }) ∷ []) is_key
