-- The productions of names, properties, user data, notes and status depend on no place.
use Rattle.std.proofs.Common.{ℕ, zero, suc, Bool, true, false, List, []}
use Rattle.grammar.specs.Part.{gives, sequence}
use Rattle.edif_values.specs.declared.keyword.Keyword.{Keyword}
use Rattle.edif_values.specs.declared.keyword.Keyword.TheVariants as k
use Rattle.edif_values.specs.Keywords.{same_keyword}
use Rattle.edif_keywords.specs.Language.{Edif}
use Rattle.edif_keywords.specs.Grammar.{closing, comment}
use Rattle.readers.specs.Items.{as_item}
use Rattle.edif_values.specs.declared.name.PortName.TheVariants.{Single}
use Rattle.edif_names.specs.Grammar.{renamed, plain, name, array, port_form, port_name, exponential, whole, scaled, string_value, integer_value, number_value, boolean_value, value_form, value, owner, tail_form, tails, property}
use Rattle.edif_values.specs.declared.user.UserTree.{UserTree}
use Rattle.edif_status.specs.Grammar.{TreeStart, Whole, Opens, tree_of, tree_rest, trees_by, trees, user, note, clock, stamp, version_text, no_version, maybe_version, author, program, data_origin, written_item, written_rest, written, status_item, status_rest, status}
use Rattle.edif_texts_go_on.proofs.AlikeParts.{Alike, as_item_alike, while_alike, either_alike, word_alike, string_alike, integer_alike, closing_alike, begin_alike, end_alike, form_or_alike, items_alike, comment_alike}

-- ---- names and properties

renamed_alike : Alike renamed
unfolding renamed
renamed_alike table = (word_alike table, λ _. (string_alike table, λ _. (closing_alike table, λ _. tt)))

plain_alike : Alike plain
unfolding plain
plain_alike table = (word_alike table, λ _. tt)

pub name_alike : Alike name
unfolding name
name_alike = form_or_alike _ (λ _. renamed) plain (λ _. renamed_alike) plain_alike

port_form_alike : (b : Bool) → Alike (port_form b)
unfolding array
port_form_alike true table = (name_alike table, λ _. (integer_alike table, λ _. (closing_alike table, λ _. tt)))
port_form_alike false table = (renamed_alike table, λ _. tt)

pub port_name_alike : Alike port_name
unfolding port_name
port_name_alike =
    form_or_alike _ (λ q. port_form (same_keyword q k.Array)) (as_item Single plain) (λ q. port_form_alike (same_keyword q k.Array)) (as_item_alike plain plain_alike)

exponential_alike : Alike exponential
unfolding exponential
exponential_alike table = (integer_alike table, λ _. (integer_alike table, λ _. (closing_alike table, λ _. tt)))

whole_alike : Alike whole
unfolding whole
whole_alike table = (integer_alike table, λ _. tt)

pub scaled_alike : Alike scaled
unfolding scaled
scaled_alike = form_or_alike _ (λ _. exponential) whole (λ _. exponential_alike) whole_alike

string_value_alike : Alike string_value
unfolding string_value
string_value_alike table = (string_alike table, λ _. (closing_alike table, λ _. tt))

integer_value_alike : Alike integer_value
unfolding integer_value
integer_value_alike table = (integer_alike table, λ _. (closing_alike table, λ _. tt))

number_value_alike : Alike number_value
unfolding number_value
number_value_alike table = (scaled_alike table, λ _. (closing_alike table, λ _. tt))

boolean_value_alike : Alike boolean_value
unfolding boolean_value
boolean_value_alike table = (begin_alike _ table, λ _. (closing_alike table, λ _. (closing_alike table, λ _. tt)))

value_form_alike : (q : Keyword) → Alike (value_form q)
unfolding value_form
value_form_alike q =
    either_alike (same_keyword q k.String) string_value _ string_value_alike
    (either_alike (same_keyword q k.Integer) integer_value _ integer_value_alike (either_alike (same_keyword q k.Number) number_value boolean_value number_value_alike boolean_value_alike))

value_alike : Alike value
unfolding value
value_alike table = (begin_alike _ table, λ q. value_form_alike q table)

owner_alike : Alike owner
unfolding owner
owner_alike table = (string_alike table, λ _. (closing_alike table, λ _. tt))

tail_form_alike : (q : Keyword) → Alike (tail_form q)
unfolding tail_form
tail_form_alike q = either_alike (same_keyword q k.Owner) owner _ owner_alike (as_item_alike comment comment_alike)

tails_alike : Alike (tails [])
unfolding tails
tails_alike = items_alike _ tail_form [] tail_form_alike

pub property_alike : Alike property
unfolding property
property_alike table = (name_alike table, λ _. (value_alike table, λ _. (tails_alike table, λ _. tt)))

-- ---- user data and notes

tree_rest_alike : (inner : Edif (List UserTree)) (c : TreeStart) → Alike inner → Alike (tree_rest inner c)
tree_rest_alike inner (Whole t) h table = tt
tree_rest_alike inner Opens h table = (h table, λ _. tt)

trees_by_alike : (room : ℕ) (inner : Edif (List UserTree)) (so_far : List UserTree) → Alike inner → Alike (trees_by room inner so_far)
unfolding trees_by
trees_by_alike room inner so_far h =
    while_alike (tree_of room) _ (λ so_far. sequence closing (λ _. gives so_far)) so_far (λ s c table. (tree_rest_alike inner c h table, λ _. tt)) end_alike

trees_alike : (room : ℕ) (so_far : List UserTree) → Alike (trees room so_far)
unfolding trees
trees_alike zero so_far = trees_by_alike zero (gives []) so_far (λ _. tt)
trees_alike (suc room) so_far = trees_by_alike (suc room) (trees room []) so_far (trees_alike room [])

user_alike : Alike user
unfolding user
user_alike table = (word_alike table, λ _. (trees_alike 64 [] table, λ _. tt))

pub note_alike : (q : Keyword) → Alike (note q)
note_alike q = either_alike (same_keyword q k.Comment) _ _ (as_item_alike comment comment_alike) (as_item_alike user user_alike)

-- ---- status

stamp_alike : Alike stamp
unfolding stamp clock
stamp_alike table =
    (integer_alike table, λ _. (integer_alike table, λ _. (integer_alike table, λ _. (integer_alike table, λ _. (integer_alike table, λ _. (integer_alike table, λ _. (closing_alike table, λ _. tt)))))))

version_text_alike : Alike version_text
unfolding version_text
version_text_alike table = (string_alike table, λ _. (closing_alike table, λ _. (closing_alike table, λ _. tt)))

no_version_alike : Alike no_version
unfolding no_version
no_version_alike table = (closing_alike table, λ _. tt)

maybe_version_alike : Alike maybe_version
unfolding maybe_version
maybe_version_alike = form_or_alike _ (λ _. version_text) no_version (λ _. version_text_alike) no_version_alike

author_alike : Alike author
unfolding author
author_alike table = (string_alike table, λ _. (closing_alike table, λ _. tt))

program_alike : Alike program
unfolding program
program_alike table = (string_alike table, λ _. (maybe_version_alike table, λ _. tt))

data_origin_alike : Alike data_origin
unfolding data_origin
data_origin_alike table = (string_alike table, λ _. (maybe_version_alike table, λ _. tt))

written_item_alike : (q : Keyword) → Alike (written_item q)
written_item_alike q =
    either_alike (same_keyword q k.Author) author _ author_alike
    (either_alike (same_keyword q k.Program) program _ program_alike
    (either_alike (same_keyword q k.DataOrigin) data_origin _ data_origin_alike (as_item_alike (note q) (note_alike q))))

written_rest_alike : Alike (written_rest [])
unfolding written_rest
written_rest_alike = items_alike _ written_item [] written_item_alike

written_alike : Alike written
unfolding written
written_alike table = (begin_alike _ table, λ _. (stamp_alike table, λ _. (written_rest_alike table, λ _. tt)))

status_item_alike : (q : Keyword) → Alike (status_item q)
status_item_alike q = either_alike (same_keyword q k.Written) _ _ (as_item_alike written written_alike) (as_item_alike (note q) (note_alike q))

status_rest_alike : Alike (status_rest [])
unfolding status_rest
status_rest_alike = items_alike _ status_item [] status_item_alike

pub status_alike : Alike status
unfolding status
status_alike table = (status_rest_alike table, λ _. tt)
