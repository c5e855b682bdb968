-- Ported: live by proper tokens.
use Rattle.std.proofs.Common.{refl, ℕ, zero, suc, List, [], ◌∷◌, None, ℤ}
use Rattle.grammar.specs.Part.{gives, sequence}
use Rattle.edif_faults.proofs.Base.{live_if, live_while}
use Rattle.edif_values.specs.declared.keyword.Keyword.{Keyword}
use Rattle.edif_values.specs.declared.keyword.Keyword.TheVariants as k
use Rattle.edif_values.specs.Keywords.{has, same_keyword}
use Rattle.edif_keywords.specs.Language.{Edif}
use Rattle.edif_keywords.specs.Reasons as say
use Rattle.edif_keywords.specs.Grammar.{closing, keyword, form_or, comment}
use Rattle.edif_faults.proofs.Base.{Lives, live_as_item, live_one_of, live_word, live_string, live_integer, live_closing, live_keyword, live_begin, live_items, live_comment}
use Rattle.edif_values.specs.declared.user.UserTree.{UserTree}
use Rattle.edif_status.specs.Grammar.{TreeStart, Whole, Opens, tree_of, tree_rest, trees_by, trees, user, note, clock, stamp, version_text, no_version, maybe_version, author, program, data_origin, written_item, written_keywords, written_rest, written, status_item, status_keywords, status_rest, status}

live_rest : (inner : Edif (List UserTree)) (c : TreeStart) → Lives inner → Lives (tree_rest inner c)
live_rest inner (Whole t) h table = tt
live_rest inner Opens h table = (h table, λ _. tt)

live_trees_by : (room : ℕ) (inner : Edif (List UserTree)) (so_far : List UserTree) → Lives inner → Lives (trees_by room inner so_far)
unfolding trees_by
live_trees_by room inner so_far h table = live_while (λ _ _ x. tree_of room x.token) _ _ so_far table (λ s c. (live_rest inner c h table, λ _. tt)) (λ s. (live_closing table, λ _. tt))

pub live_trees : (room : ℕ) (so_far : List UserTree) → Lives (trees room so_far)
unfolding trees
live_trees zero so_far = live_trees_by zero (gives []) so_far (λ _. tt)
live_trees (suc room) so_far = live_trees_by (suc room) (trees room []) so_far (live_trees room [])

pub live_user : Lives user
unfolding user
live_user table = (live_word table, λ _. (live_trees 64 [] table, λ _. tt))

pub live_note : (q : Keyword) → Lives (note q)
live_note q = live_one_of (same_keyword q k.Comment) _ _ (live_as_item comment live_comment) (live_as_item user live_user)

live_clock : (year month day : ℤ) → Lives (clock year month day)
unfolding clock
live_clock year month day table = (live_integer table, λ _. (live_integer table, λ _. (live_integer table, λ _. (live_closing table, λ _. tt))))

live_stamp : Lives stamp
unfolding stamp
live_stamp table = (live_integer table, λ y. (live_integer table, λ m. (live_integer table, λ d. live_clock y m d table)))

live_version_text : Lives version_text
unfolding version_text
live_version_text table = (live_string table, λ _. (live_closing table, λ _. (live_closing table, λ _. tt)))

live_maybe_version : Lives maybe_version
unfolding maybe_version form_or no_version has
live_maybe_version table =
    live_if (λ _ x. say.at_opening x.token) (λ _. sequence (keyword (k.Version ∷ [])) (λ _. version_text)) (sequence closing (λ _. gives None)) table
    (λ _. (live_keyword k.Version (k.Version ∷ []) refl table, λ _. live_version_text table)) (live_closing table, λ _. tt)

live_author : Lives author
unfolding author
live_author table = (live_string table, λ _. (live_closing table, λ _. tt))

live_program : Lives program
unfolding program
live_program table = (live_string table, λ _. (live_maybe_version table, λ _. tt))

live_data_origin : Lives data_origin
unfolding data_origin
live_data_origin table = (live_string table, λ _. (live_maybe_version table, λ _. tt))

live_written_item : (q : Keyword) → Lives (written_item q)
live_written_item q =
    live_one_of (same_keyword q k.Author) author _ live_author
    (live_one_of (same_keyword q k.Program) program _ live_program
    (live_one_of (same_keyword q k.DataOrigin) data_origin _ live_data_origin (live_as_item (note q) (live_note q))))

live_written_rest : (so_far : List _) → Lives (written_rest so_far)
unfolding written_rest has
live_written_rest so_far = live_items (λ _. written_keywords) written_item so_far (λ s. live_keyword k.Author written_keywords refl) live_written_item

pub live_written : Lives written
unfolding written has
live_written table = (live_begin k.TimeStamp (k.TimeStamp ∷ []) refl table, λ _. (live_stamp table, λ _. (live_written_rest [] table, λ _. tt)))

live_status_item : (q : Keyword) → Lives (status_item q)
live_status_item q = live_one_of (same_keyword q k.Written) _ _ (live_as_item written live_written) (live_as_item (note q) (live_note q))

live_status_rest : (so_far : List _) → Lives (status_rest so_far)
unfolding status_rest has
live_status_rest so_far = live_items (λ _. status_keywords) status_item so_far (λ s. live_keyword k.Written status_keywords refl) live_status_item

pub live_status : Lives status
unfolding status
live_status table = (live_status_rest [] table, λ _. tt)
