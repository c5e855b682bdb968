-- The productions of ports, instances and nets depend on no place.
use Rattle.std.proofs.Common.{[]}
use Rattle.edif_values.specs.declared.keyword.Keyword.{Keyword}
use Rattle.edif_values.specs.declared.keyword.Keyword.TheVariants as k
use Rattle.edif_values.specs.Keywords.{same_keyword}
use Rattle.edif_names.specs.Grammar.{property}
use Rattle.edif_status.specs.Grammar.{note}
use Rattle.edif_nets.specs.Grammar.{designator, direction_words, direction, port_item, port_rest, port, library_named, no_library, maybe_library, cell_ref, view_ref, instance_item, instance_rest, instance, member, whole_port, port_or_member, instance_named, no_instance, maybe_instance, port_ref, joined_rest, joined, net_item, net_rest, net}
use Rattle.edif_texts_go_on.proofs.AlikeParts.{Alike, as_item_alike, either_alike, word_alike, string_alike, integer_alike, closing_alike, choice_alike, begin_alike, form_or_alike, items_alike}
use Rattle.edif_texts_go_on.proofs.AlikeNames.{name_alike, port_name_alike, property_alike, note_alike}

pub designator_alike : Alike designator
unfolding designator
designator_alike table = (string_alike table, λ _. (closing_alike table, λ _. tt))

-- ---- ports

direction_alike : Alike direction
unfolding direction
direction_alike table = (choice_alike direction_words table, λ _. (closing_alike table, λ _. tt))

port_item_alike : (q : Keyword) → Alike (port_item q)
unfolding port_item
port_item_alike q =
    either_alike (same_keyword q k.Direction) direction _ direction_alike
    (either_alike (same_keyword q k.Property) _ _ (as_item_alike property property_alike)
    (either_alike (same_keyword q k.Designator) _ _ (as_item_alike designator designator_alike) (as_item_alike (note q) (note_alike q))))

port_rest_alike : Alike (port_rest [])
unfolding port_rest
port_rest_alike = items_alike _ port_item [] port_item_alike

pub port_alike : Alike port
unfolding port
port_alike table = (port_name_alike table, λ _. (port_rest_alike table, λ _. tt))

-- ---- instances

library_named_alike : Alike library_named
unfolding library_named
library_named_alike table = (word_alike table, λ _. (closing_alike table, λ _. (closing_alike table, λ _. tt)))

no_library_alike : Alike no_library
unfolding no_library
no_library_alike table = (closing_alike table, λ _. tt)

maybe_library_alike : Alike maybe_library
unfolding maybe_library
maybe_library_alike = form_or_alike _ (λ _. library_named) no_library (λ _. library_named_alike) no_library_alike

cell_ref_alike : Alike cell_ref
unfolding cell_ref
cell_ref_alike table = (begin_alike _ table, λ _. (word_alike table, λ _. (maybe_library_alike table, λ _. tt)))

view_ref_alike : Alike view_ref
unfolding view_ref
view_ref_alike table = (begin_alike _ table, λ _. (word_alike table, λ _. (cell_ref_alike table, λ _. (closing_alike table, λ _. tt))))

instance_item_alike : (q : Keyword) → Alike (instance_item q)
unfolding instance_item
instance_item_alike q =
    either_alike (same_keyword q k.Property) _ _ (as_item_alike property property_alike)
    (either_alike (same_keyword q k.Designator) _ _ (as_item_alike designator designator_alike) (as_item_alike (note q) (note_alike q)))

instance_rest_alike : Alike (instance_rest [])
unfolding instance_rest
instance_rest_alike = items_alike _ instance_item [] instance_item_alike

pub instance_alike : Alike instance
unfolding instance
instance_alike table = (name_alike table, λ _. (view_ref_alike table, λ _. (instance_rest_alike table, λ _. tt)))

-- ---- nets

member_alike : Alike member
unfolding member
member_alike table = (word_alike table, λ _. (integer_alike table, λ _. (closing_alike table, λ _. tt)))

whole_port_alike : Alike whole_port
unfolding whole_port
whole_port_alike table = (word_alike table, λ _. tt)

port_or_member_alike : Alike port_or_member
unfolding port_or_member
port_or_member_alike = form_or_alike _ (λ _. member) whole_port (λ _. member_alike) whole_port_alike

instance_named_alike : Alike instance_named
unfolding instance_named
instance_named_alike table = (word_alike table, λ _. (closing_alike table, λ _. (closing_alike table, λ _. tt)))

no_instance_alike : Alike no_instance
unfolding no_instance
no_instance_alike table = (closing_alike table, λ _. tt)

maybe_instance_alike : Alike maybe_instance
unfolding maybe_instance
maybe_instance_alike = form_or_alike _ (λ _. instance_named) no_instance (λ _. instance_named_alike) no_instance_alike

port_ref_alike : Alike port_ref
unfolding port_ref
port_ref_alike table = (port_or_member_alike table, λ _. (maybe_instance_alike table, λ _. tt))

joined_alike : Alike joined
unfolding joined joined_rest
joined_alike table = (begin_alike _ table, λ _. items_alike _ (λ _. port_ref) [] (λ _. port_ref_alike) table)

net_item_alike : (q : Keyword) → Alike (net_item q)
unfolding net_item
net_item_alike q = either_alike (same_keyword q k.Property) _ _ (as_item_alike property property_alike) (as_item_alike (note q) (note_alike q))

net_rest_alike : Alike (net_rest [])
unfolding net_rest
net_rest_alike = items_alike _ net_item [] net_item_alike

pub net_alike : Alike net
unfolding net
net_alike table = (name_alike table, λ _. (joined_alike table, λ _. (net_rest_alike table, λ _. tt)))
