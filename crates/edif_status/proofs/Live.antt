-- From each place in user data, a note or a status some tokens lead to its end, and none of its texts goes on to another.
use Rattle.std.proofs.Common.{◌≡◌, refl, ℕ, zero, suc, List, [], ◌∷◌, ◌++◌, None, Ok, ℤ}
use Rattle.grammar.specs.Part.{gives, sequence, leaves}
use Rattle.edif_values.specs.declared.token.Token.{Token}
use Rattle.edif_values.specs.declared.token.Token.TheVariants.{LeftParen, RightParen, Word, Number, Str}
use Rattle.readers.proofs.Items.{live_as_item, closed_as_item, live_one_of, closed_one_of}
use Rattle.readers.proofs.Shapes.{live_if, live_while, shut_gives, shut_one, shut_then, shut_if, shut_while}
use Rattle.edif_values.specs.declared.keyword.Keyword.{Keyword}
use Rattle.edif_values.specs.declared.keyword.Keyword.TheVariants as k
use Rattle.edif_values.specs.Keywords.{has, same_keyword}
use Rattle.edif_keywords.specs.Language.{Edif}
use Rattle.edif_keywords.specs.Reasons as say
use Rattle.edif_keywords.specs.Grammar.{string, integer, closing, keyword, form_or, comment}
use Rattle.edif_keywords.proofs.Live.{Lives, Closes, live_word, live_string, live_integer, live_closing, live_keyword, live_begin, closed_keyword, closed_closing, closed_begin, closing_leaves, live_items, closed_items, live_comment, closed_comment}
use Rattle.edif_values.specs.declared.user.UserTree.{UserTree}
use Rattle.edif_status.specs.Grammar.{TreeStart, Whole, Opens, tree_of, tree_rest, trees_by, trees, user, note, clock, stamp, version_text, no_version, maybe_version, author, program, data_origin, written_item, written_keywords, written_rest, written, status_item, status_keywords, status_rest, status}

-- ---- user data

closing_no_tree : (room : ℕ) (t : Token) (u : Unit {0}) → say.closing_of t ≡ Ok u → tree_of room t ≡ leaves
closing_no_tree room LeftParen u h = absurd cc
closing_no_tree room RightParen u h = refl
closing_no_tree room (Word w) u h = absurd cc
closing_no_tree room (Number n) u h = absurd cc
closing_no_tree room (Str s) u h = absurd cc

live_rest : (inner : Edif (List UserTree)) (c : TreeStart) → Lives inner → Lives (tree_rest inner c)
live_rest inner (Whole t) h table = tt
live_rest inner Opens h table = (h table, λ _. tt)

closed_rest : (inner : Edif (List UserTree)) (c : TreeStart) → Closes inner → Closes (tree_rest inner c)
closed_rest inner (Whole t) h table = shut_gives table t
closed_rest inner Opens h table = shut_then (h table) (λ ts. shut_gives table _)

live_trees_by : (room : ℕ) (inner : Edif (List UserTree)) (so_far : List UserTree) → Lives inner → Lives (trees_by room inner so_far)
unfolding trees_by
live_trees_by room inner so_far h table = live_while (λ _ _ x. tree_of room x.token) _ _ so_far table (λ s c. (live_rest inner c h table, λ _. tt)) (λ s. (live_closing table, λ _. tt))

closed_trees_by : (room : ℕ) (inner : Edif (List UserTree)) (so_far : List UserTree) → Closes inner → Closes (trees_by room inner so_far)
unfolding trees_by
closed_trees_by room inner so_far h table =
    shut_while table (λ _ _ x. tree_of room x.token) (λ s c. sequence (tree_rest inner c) (λ t. gives (s ++ t ∷ []))) (λ _ _ x. say.closing_of x.token) (λ s _. gives s) so_far
    (λ s c. shut_then (closed_rest inner c h table) (λ t. shut_gives table (s ++ t ∷ []))) (λ s _. shut_gives table s) (λ s x b h. closing_no_tree room x.token b h)

pub live_trees : (room : ℕ) (so_far : List UserTree) → Lives (trees room so_far)
unfolding trees
live_trees zero so_far = live_trees_by zero (gives []) so_far (λ _. tt)
live_trees (suc room) so_far = live_trees_by (suc room) (trees room []) so_far (live_trees room [])

pub closed_trees : (room : ℕ) (so_far : List UserTree) → Closes (trees room so_far)
unfolding trees
closed_trees zero so_far = closed_trees_by zero (gives []) so_far (λ table. shut_gives table [])
closed_trees (suc room) so_far = closed_trees_by (suc room) (trees room []) so_far (closed_trees room [])

pub live_user : Lives user
unfolding user
live_user table = (live_word table, λ _. (live_trees 64 [] table, λ _. tt))

pub closed_user : Closes user
unfolding user
closed_user table = shut_then (shut_one table (λ _ x. say.word_of x.token)) (λ _. shut_then (closed_trees 64 [] table) (λ _. shut_gives table _))

-- ---- notes

pub live_note : (q : Keyword) → Lives (note q)
live_note q = live_one_of (same_keyword q k.Comment) _ _ (live_as_item comment live_comment) (live_as_item user live_user)

pub closed_note : (q : Keyword) → Closes (note q)
closed_note q = closed_one_of (same_keyword q k.Comment) _ _ (closed_as_item closed_comment) (closed_as_item closed_user)

-- ---- written

closed_integer : Closes integer
closed_integer table = shut_one table (λ _ x. say.integer_of x.token)

closed_string : Closes string
closed_string table = shut_one table (λ _ x. say.string_of x.token)

live_clock : (year month day : ℤ) → Lives (clock year month day)
unfolding clock
live_clock year month day table = (live_integer table, λ _. (live_integer table, λ _. (live_integer table, λ _. (live_closing table, λ _. tt))))

closed_clock : (year month day : ℤ) → Closes (clock year month day)
unfolding clock
closed_clock year month day table =
    shut_then (closed_integer table) (λ _. shut_then (closed_integer table) (λ _. shut_then (closed_integer table) (λ _. shut_then (closed_closing table) (λ _. shut_gives table _))))

live_stamp : Lives stamp
unfolding stamp
live_stamp table = (live_integer table, λ y. (live_integer table, λ m. (live_integer table, λ d. live_clock y m d table)))

closed_stamp : Closes stamp
unfolding stamp
closed_stamp table = shut_then (closed_integer table) (λ y. shut_then (closed_integer table) (λ m. shut_then (closed_integer table) (λ d. closed_clock y m d table)))

live_version_text : Lives version_text
unfolding version_text
live_version_text table = (live_string table, λ _. (live_closing table, λ _. (live_closing table, λ _. tt)))

closed_version_text : Closes version_text
unfolding version_text
closed_version_text table = shut_then (closed_string table) (λ _. shut_then (closed_closing table) (λ _. shut_then (closed_closing table) (λ _. shut_gives table _)))

live_maybe_version : Lives maybe_version
unfolding maybe_version form_or no_version has
live_maybe_version table =
    live_if (λ _ x. say.at_opening x.token) (λ _. sequence (keyword (k.Version ∷ [])) (λ _. version_text)) (sequence closing (λ _. gives None)) table
    (λ _. (live_keyword k.Version (k.Version ∷ []) refl table, λ _. live_version_text table)) (live_closing table, λ _. tt)

closed_maybe_version : Closes maybe_version
unfolding maybe_version form_or no_version
closed_maybe_version table =
    shut_if table (λ _ x. say.at_opening x.token) (λ _. sequence (keyword (k.Version ∷ [])) (λ _. version_text)) (λ _ x. say.closing_of x.token) (λ _. gives None)
    (λ _. shut_then (closed_keyword (k.Version ∷ []) table) (λ _. closed_version_text table)) (λ _. shut_gives table None) (λ x b h. closing_leaves x.token b h)

live_author : Lives author
unfolding author
live_author table = (live_string table, λ _. (live_closing table, λ _. tt))

closed_author : Closes author
unfolding author
closed_author table = shut_then (closed_string table) (λ _. shut_then (closed_closing table) (λ _. shut_gives table _))

live_program : Lives program
unfolding program
live_program table = (live_string table, λ _. (live_maybe_version table, λ _. tt))

closed_program : Closes program
unfolding program
closed_program table = shut_then (closed_string table) (λ _. shut_then (closed_maybe_version table) (λ _. shut_gives table _))

live_data_origin : Lives data_origin
unfolding data_origin
live_data_origin table = (live_string table, λ _. (live_maybe_version table, λ _. tt))

closed_data_origin : Closes data_origin
unfolding data_origin
closed_data_origin table = shut_then (closed_string table) (λ _. shut_then (closed_maybe_version table) (λ _. shut_gives table _))

live_written_item : (q : Keyword) → Lives (written_item q)
live_written_item q =
    live_one_of (same_keyword q k.Author) author _ live_author
    (live_one_of (same_keyword q k.Program) program _ live_program (live_one_of (same_keyword q k.DataOrigin) data_origin _ live_data_origin (live_as_item (note q) (live_note q))))

closed_written_item : (q : Keyword) → Closes (written_item q)
closed_written_item q =
    closed_one_of (same_keyword q k.Author) author _ closed_author
    (closed_one_of (same_keyword q k.Program) program _ closed_program (closed_one_of (same_keyword q k.DataOrigin) data_origin _ closed_data_origin (closed_as_item (closed_note q))))

live_written_rest : (so_far : List _) → Lives (written_rest so_far)
unfolding written_rest has
live_written_rest so_far = live_items (λ _. written_keywords) written_item so_far (λ s. live_keyword k.Author written_keywords refl) live_written_item

closed_written_rest : (so_far : List _) → Closes (written_rest so_far)
unfolding written_rest
closed_written_rest so_far = closed_items (λ _. written_keywords) written_item so_far closed_written_item

pub live_written : Lives written
unfolding written has
live_written table = (live_begin k.TimeStamp (k.TimeStamp ∷ []) refl table, λ _. (live_stamp table, λ _. (live_written_rest [] table, λ _. tt)))

pub closed_written : Closes written
unfolding written
closed_written table = shut_then (closed_begin (k.TimeStamp ∷ []) table) (λ _. shut_then (closed_stamp table) (λ _. shut_then (closed_written_rest [] table) (λ _. shut_gives table _)))

-- ---- status

live_status_item : (q : Keyword) → Lives (status_item q)
live_status_item q = live_one_of (same_keyword q k.Written) _ _ (live_as_item written live_written) (live_as_item (note q) (live_note q))

closed_status_item : (q : Keyword) → Closes (status_item q)
closed_status_item q = closed_one_of (same_keyword q k.Written) _ _ (closed_as_item closed_written) (closed_as_item (closed_note q))

live_status_rest : (so_far : List _) → Lives (status_rest so_far)
unfolding status_rest has
live_status_rest so_far = live_items (λ _. status_keywords) status_item so_far (λ s. live_keyword k.Written status_keywords refl) live_status_item

closed_status_rest : (so_far : List _) → Closes (status_rest so_far)
unfolding status_rest
closed_status_rest so_far = closed_items (λ _. status_keywords) status_item so_far closed_status_item

pub live_status : Lives status
unfolding status
live_status table = (live_status_rest [] table, λ _. tt)

pub closed_status : Closes status
unfolding status
closed_status table = shut_then (closed_status_rest [] table) (λ _. shut_gives table _)
