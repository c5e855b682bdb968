-- A file takes no end of the input.
use Rattle.std.proofs.Common.{refl, Bool, true, false, List, [], ◌∷◌, Result}
use Rattle.grammar.specs.Texts.{Spells}
use Rattle.grammar.specs.Whole.{Terminal}
use Rattle.nl_base.specs.declared.fault.Reason.{Reason}
use Rattle.nl_base.specs.declared.place.Place.{Place}
use Rattle.readers.specs.Parts.{one, while_next}
use Rattle.edif_tokens.specs.declared.token.Found.{Found}
use Rattle.edif_values.specs.declared.keyword.Keyword.TheVariants as k
use Rattle.edif_values.specs.Keywords.{has, same_keyword}
use Rattle.edif_keywords.specs.Aliases.{Alias}
use Rattle.edif_keywords.specs.Language.{Edif}
use Rattle.edif_keywords.specs.Reasons as say
use Rattle.edif_keywords.specs.Grammar.{begin, forms, comment, version, level, keyword_level, alias, map_keywords, map_form, map_item, map_items, keyword_map, header}
use Rattle.edif_names.specs.Grammar.{name}
use Rattle.edif_values.specs.declared.file.EdifFile.{EdifFile}
use Rattle.edif_library.specs.Grammar.{file, file_body}
use Rattle.grammar_laws.specs.GoesOn.{AllOf}
use Rattle.grammar_laws.proofs.Ending.{IsToken}
use Rattle.grammar_laws.proofs.GoingOn.{taken_of}
use Rattle.grammar_laws.proofs.Refusing.{AllFit, text_has}
use Rattle.edif_faults.specs.GoesOn.{CanStand}
use Rattle.edif_faults.proofs.Base.{Lives, one_takes, look_takes, live_begin, live_comment, live_level}
use Rattle.edif_faults.proofs.NamesLive.{live_name}
use Rattle.edif_faults.proofs.FileLive.{live_file_body}
use Rattle.edif_faults.proofs.Header.{live_version, live_keyword_level}

-- of a reason nothing is said
abbrev Whatever : Terminal Found Place → Reason → Type 0
Whatever x r = Unit {0}

abbrev Takes : {A : Type 0} → Edif A → Type 0
Takes p = (table : List Alias) → AllFit Whatever IsToken table p

takes_one : {A : Type 0} (f : List Alias → Found → Result A Reason) → Takes (one f)
unfolding one
takes_one f table = (λ _ _ _. tt, λ x a e. one_takes (f table) x a e)

takes_of : {A : Type 0} (p : Edif A) → Lives p → Takes p
takes_of p h table = taken_of CanStand IsToken table p (h table)

takes_alias : (t : List Alias) → Takes (alias t)
unfolding alias
takes_alias t table = (takes_one (λ table x. say.new_word_of table x.token) table, λ w. (takes_one (λ table x. say.known_word_of table x.token) table, λ q. (takes_one (λ _ x. say.closing_of x.token) table, λ _. tt)))

takes_map_form : (t : List Alias) (b : Bool) → Takes (map_form t b)
takes_map_form t true table = takes_alias t table
takes_map_form t false table = (takes_of comment live_comment table, λ _. tt)

takes_map_item : (b : Bool) (t : List Alias) → Takes (map_item b t)
unfolding map_item
takes_map_item b t table = (takes_one (λ table x. say.map_keyword_of (map_keywords b) table x.token) t, λ q. takes_map_form t (same_keyword q k.KeywordAlias) t)

takes_map_items : (b : Bool) (t : List Alias) → Takes (map_items b t)
unfolding map_items forms while_next
takes_map_items b t table = (λ _ _ _ _. tt, λ s x c e. look_takes (λ x. say.at_opening x.token) x c e, λ s x c e. takes_map_item b s table, λ s. (takes_one (λ _ x. say.closing_of x.token) table, λ _. tt))

takes_keyword_map : (t : List Alias) → Takes (keyword_map t)
unfolding keyword_map has
takes_keyword_map t table = (takes_of (begin (k.KeywordMap ∷ [])) (live_begin k.KeywordMap (k.KeywordMap ∷ []) refl) table, λ _. (takes_of keyword_level live_keyword_level table, λ n. takes_map_items n t table))

takes_header : (t : List Alias) → Takes (header t)
unfolding header
takes_header t table = (takes_of version live_version table, λ _. (takes_of level live_level table, λ _. takes_keyword_map t table))

takes_file : Takes (file [])
unfolding file has
takes_file table = (takes_of (begin (k.Edif ∷ [])) (live_begin k.Edif (k.Edif ∷ []) refl) table, λ _. (takes_of name live_name table, λ n. (takes_header [] table, λ aliases. takes_of (file_body n) (live_file_body n) aliases)))

-- a file has tokens alone
pub tokens_alone : (ts : List (Terminal Found Place)) (v : EdifFile) → Spells [] (file []) ts v → AllOf IsToken ts
tokens_alone ts v h = text_has Whatever IsToken [] (file []) (takes_file []) ts v h
