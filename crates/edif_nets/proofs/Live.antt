-- From each place in a port, an instance or a net some tokens lead to its end, and none of its texts goes on to another.
use Rattle.std.proofs.Common.{◌≡◌, refl, Bool, true, false, List, [], ◌∷◌, None, codes}
use Rattle.grammar.specs.Part.{gives, sequence}
use Rattle.nl_base.specs.declared.value.Dir.TheVariants as dirs
use Rattle.readers.proofs.Items.{live_as_item, closed_as_item, live_one_of, closed_one_of}
use Rattle.edif_names.specs.Grammar.{property}
use Rattle.edif_status.specs.Grammar.{note}
use Rattle.readers.proofs.Shapes.{live_if, shut_gives, shut_one, shut_then, shut_if}
use Rattle.edif_values.specs.declared.keyword.Keyword.{Keyword}
use Rattle.edif_values.specs.declared.keyword.Keyword.TheVariants as k
use Rattle.edif_values.specs.Keywords.{has, same_keyword}
use Rattle.edif_keywords.specs.Reasons as say
use Rattle.edif_keywords.specs.Reasons.{meant_by}
use Rattle.edif_keywords.specs.Grammar.{closing, keyword, form_or}
use Rattle.edif_keywords.proofs.Live.{Lives, Closes, live_word, live_string, live_integer, live_closing, live_choice, live_keyword, live_begin, closed_keyword, closed_closing, closed_begin, closing_leaves, word_leaves, live_items, closed_items}
use Rattle.edif_names.proofs.Live.{closed_word, closed_string, closed_integer, live_name, closed_name, live_port_name, closed_port_name, live_property, closed_property}
use Rattle.edif_status.proofs.Live.{live_note, closed_note}
use Rattle.edif_values.specs.declared.port.PortItem.{PortItem}
use Rattle.edif_values.specs.declared.instance.InstanceItem.{InstanceItem}
use Rattle.edif_values.specs.declared.net.PortRef.{PortRef}
use Rattle.edif_values.specs.declared.net.NetItem.{NetItem}
use Rattle.edif_nets.specs.Grammar.{designator, direction_words, direction, port_item, has_direction, port_keywords, port_rest, port, library_named, no_library, maybe_library, cell_ref, view_ref, instance_item, instance_keywords, instance_rest, instance, member, whole_port, port_or_member, instance_named, no_instance, maybe_instance, port_ref, joined_keywords, joined_rest, joined, net_item, net_keywords, net_rest, net}

-- ---- ports

pub live_designator : Lives designator
unfolding designator
live_designator table = (live_string table, λ _. (live_closing table, λ _. tt))

pub closed_designator : Closes designator
unfolding designator
closed_designator table = shut_then (closed_string table) (λ s. shut_then (closed_closing table) (λ _. shut_gives table s))

live_direction : Lives direction
unfolding direction meant_by
live_direction table = (live_choice direction_words (codes "INPUT") dirs.Input refl table, λ _. (live_closing table, λ _. tt))

closed_direction : Closes direction
unfolding direction
closed_direction table = shut_then (shut_one table (λ _ x. say.choice_of direction_words x.token)) (λ _. shut_then (closed_closing table) (λ _. shut_gives table _))

live_port_item : (q : Keyword) → Lives (port_item q)
unfolding port_item
live_port_item q =
    live_one_of (same_keyword q k.Direction) direction _ live_direction
    (live_one_of (same_keyword q k.Property) _ _ (live_as_item property live_property)
    (live_one_of (same_keyword q k.Designator) _ _ (live_as_item designator live_designator) (live_as_item (note q) (live_note q))))

closed_port_item : (q : Keyword) → Closes (port_item q)
unfolding port_item
closed_port_item q =
    closed_one_of (same_keyword q k.Direction) direction _ closed_direction
    (closed_one_of (same_keyword q k.Property) _ _ (closed_as_item closed_property)
    (closed_one_of (same_keyword q k.Designator) _ _ (closed_as_item closed_designator) (closed_as_item (closed_note q))))

has_property : (b : Bool) → has (port_keywords b) k.Property ≡ true
unfolding has port_keywords
has_property true = refl
has_property false = refl

live_port_rest : (so_far : List PortItem) → Lives (port_rest so_far)
unfolding port_rest
live_port_rest so_far = live_items (λ is. port_keywords (has_direction is)) port_item so_far (λ is. live_keyword k.Property (port_keywords (has_direction is)) (has_property (has_direction is))) live_port_item

closed_port_rest : (so_far : List PortItem) → Closes (port_rest so_far)
unfolding port_rest
closed_port_rest so_far = closed_items (λ is. port_keywords (has_direction is)) port_item so_far closed_port_item

pub live_port : Lives port
unfolding port
live_port table = (live_port_name table, λ _. (live_port_rest [] table, λ _. tt))

pub closed_port : Closes port
unfolding port
closed_port table = shut_then (closed_port_name table) (λ _. shut_then (closed_port_rest [] table) (λ _. shut_gives table _))

-- ---- instances

live_library_named : Lives library_named
unfolding library_named
live_library_named table = (live_word table, λ _. (live_closing table, λ _. (live_closing table, λ _. tt)))

closed_library_named : Closes library_named
unfolding library_named
closed_library_named table = shut_then (closed_word table) (λ _. shut_then (closed_closing table) (λ _. shut_then (closed_closing table) (λ _. shut_gives table _)))

live_maybe_library : Lives maybe_library
unfolding maybe_library form_or no_library has
live_maybe_library table =
    live_if (λ _ x. say.at_opening x.token) (λ _. sequence (keyword (k.LibraryRef ∷ [])) (λ _. library_named)) (sequence closing (λ _. gives None)) table
    (λ _. (live_keyword k.LibraryRef (k.LibraryRef ∷ []) refl table, λ _. live_library_named table)) (live_closing table, λ _. tt)

closed_maybe_library : Closes maybe_library
unfolding maybe_library form_or no_library
closed_maybe_library table =
    shut_if table (λ _ x. say.at_opening x.token) (λ _. sequence (keyword (k.LibraryRef ∷ [])) (λ _. library_named)) (λ _ x. say.closing_of x.token) (λ _. gives None)
    (λ _. shut_then (closed_keyword (k.LibraryRef ∷ []) table) (λ _. closed_library_named table)) (λ _. shut_gives table None) (λ x b h. closing_leaves x.token b h)

live_cell_ref : Lives cell_ref
unfolding cell_ref has
live_cell_ref table = (live_begin k.CellRef (k.CellRef ∷ []) refl table, λ _. (live_word table, λ _. (live_maybe_library table, λ _. tt)))

closed_cell_ref : Closes cell_ref
unfolding cell_ref
closed_cell_ref table = shut_then (closed_begin (k.CellRef ∷ []) table) (λ _. shut_then (closed_word table) (λ _. shut_then (closed_maybe_library table) (λ _. shut_gives table _)))

live_view_ref : Lives view_ref
unfolding view_ref has
live_view_ref table = (live_begin k.ViewRef (k.ViewRef ∷ []) refl table, λ _. (live_word table, λ _. (live_cell_ref table, λ _. (live_closing table, λ _. tt))))

closed_view_ref : Closes view_ref
unfolding view_ref
closed_view_ref table =
    shut_then (closed_begin (k.ViewRef ∷ []) table) (λ _. shut_then (closed_word table) (λ _. shut_then (closed_cell_ref table) (λ _. shut_then (closed_closing table) (λ _. shut_gives table _))))

live_instance_item : (q : Keyword) → Lives (instance_item q)
unfolding instance_item
live_instance_item q =
    live_one_of (same_keyword q k.Property) _ _ (live_as_item property live_property)
    (live_one_of (same_keyword q k.Designator) _ _ (live_as_item designator live_designator) (live_as_item (note q) (live_note q)))

closed_instance_item : (q : Keyword) → Closes (instance_item q)
unfolding instance_item
closed_instance_item q =
    closed_one_of (same_keyword q k.Property) _ _ (closed_as_item closed_property)
    (closed_one_of (same_keyword q k.Designator) _ _ (closed_as_item closed_designator) (closed_as_item (closed_note q)))

live_instance_rest : (so_far : List InstanceItem) → Lives (instance_rest so_far)
unfolding instance_rest has
live_instance_rest so_far = live_items (λ _. instance_keywords) instance_item so_far (λ _. live_keyword k.Property instance_keywords refl) live_instance_item

closed_instance_rest : (so_far : List InstanceItem) → Closes (instance_rest so_far)
unfolding instance_rest
closed_instance_rest so_far = closed_items (λ _. instance_keywords) instance_item so_far closed_instance_item

pub live_instance : Lives instance
unfolding instance
live_instance table = (live_name table, λ _. (live_view_ref table, λ _. (live_instance_rest [] table, λ _. tt)))

pub closed_instance : Closes instance
unfolding instance
closed_instance table = shut_then (closed_name table) (λ _. shut_then (closed_view_ref table) (λ _. shut_then (closed_instance_rest [] table) (λ _. shut_gives table _)))

-- ---- nets

live_member : Lives member
unfolding member
live_member table = (live_word table, λ _. (live_integer table, λ _. (live_closing table, λ _. tt)))

closed_member : Closes member
unfolding member
closed_member table = shut_then (closed_word table) (λ _. shut_then (closed_integer table) (λ _. shut_then (closed_closing table) (λ _. shut_gives table _)))

live_whole_port : Lives whole_port
unfolding whole_port
live_whole_port table = (live_word table, λ _. tt)

live_port_or_member : Lives port_or_member
unfolding port_or_member form_or has
live_port_or_member table =
    live_if (λ _ x. say.at_opening x.token) (λ _. sequence (keyword (k.Member ∷ [])) (λ _. member)) whole_port table
    (λ _. (live_keyword k.Member (k.Member ∷ []) refl table, λ _. live_member table)) (live_whole_port table)

closed_port_or_member : Closes port_or_member
unfolding port_or_member form_or whole_port
closed_port_or_member table =
    shut_if table (λ _ x. say.at_opening x.token) (λ _. sequence (keyword (k.Member ∷ [])) (λ _. member)) (λ _ x. say.word_of x.token) _
    (λ _. shut_then (closed_keyword (k.Member ∷ []) table) (λ _. closed_member table)) (λ w. shut_gives table _) (λ x w h. word_leaves x.token w h)

live_instance_named : Lives instance_named
unfolding instance_named
live_instance_named table = (live_word table, λ _. (live_closing table, λ _. (live_closing table, λ _. tt)))

closed_instance_named : Closes instance_named
unfolding instance_named
closed_instance_named table = shut_then (closed_word table) (λ _. shut_then (closed_closing table) (λ _. shut_then (closed_closing table) (λ _. shut_gives table _)))

live_maybe_instance : Lives maybe_instance
unfolding maybe_instance form_or no_instance has
live_maybe_instance table =
    live_if (λ _ x. say.at_opening x.token) (λ _. sequence (keyword (k.InstanceRef ∷ [])) (λ _. instance_named)) (sequence closing (λ _. gives None)) table
    (λ _. (live_keyword k.InstanceRef (k.InstanceRef ∷ []) refl table, λ _. live_instance_named table)) (live_closing table, λ _. tt)

closed_maybe_instance : Closes maybe_instance
unfolding maybe_instance form_or no_instance
closed_maybe_instance table =
    shut_if table (λ _ x. say.at_opening x.token) (λ _. sequence (keyword (k.InstanceRef ∷ [])) (λ _. instance_named)) (λ _ x. say.closing_of x.token) (λ _. gives None)
    (λ _. shut_then (closed_keyword (k.InstanceRef ∷ []) table) (λ _. closed_instance_named table)) (λ _. shut_gives table None) (λ x b h. closing_leaves x.token b h)

live_port_ref : Lives port_ref
unfolding port_ref
live_port_ref table = (live_port_or_member table, λ _. (live_maybe_instance table, λ _. tt))

closed_port_ref : Closes port_ref
unfolding port_ref
closed_port_ref table = shut_then (closed_port_or_member table) (λ _. shut_then (closed_maybe_instance table) (λ _. shut_gives table _))

live_joined_rest : (so_far : List PortRef) → Lives (joined_rest so_far)
unfolding joined_rest has
live_joined_rest so_far = live_items (λ _. joined_keywords) (λ _. port_ref) so_far (λ _. live_keyword k.PortRef joined_keywords refl) (λ _. live_port_ref)

closed_joined_rest : (so_far : List PortRef) → Closes (joined_rest so_far)
unfolding joined_rest
closed_joined_rest so_far = closed_items (λ _. joined_keywords) (λ _. port_ref) so_far (λ _. closed_port_ref)

live_joined : Lives joined
unfolding joined has
live_joined table = (live_begin k.Joined (k.Joined ∷ []) refl table, λ _. live_joined_rest [] table)

closed_joined : Closes joined
unfolding joined
closed_joined table = shut_then (closed_begin (k.Joined ∷ []) table) (λ _. closed_joined_rest [] table)

live_net_item : (q : Keyword) → Lives (net_item q)
unfolding net_item
live_net_item q = live_one_of (same_keyword q k.Property) _ _ (live_as_item property live_property) (live_as_item (note q) (live_note q))

closed_net_item : (q : Keyword) → Closes (net_item q)
unfolding net_item
closed_net_item q = closed_one_of (same_keyword q k.Property) _ _ (closed_as_item closed_property) (closed_as_item (closed_note q))

live_net_rest : (so_far : List NetItem) → Lives (net_rest so_far)
unfolding net_rest has
live_net_rest so_far = live_items (λ _. net_keywords) net_item so_far (λ _. live_keyword k.Property net_keywords refl) live_net_item

closed_net_rest : (so_far : List NetItem) → Closes (net_rest so_far)
unfolding net_rest
closed_net_rest so_far = closed_items (λ _. net_keywords) net_item so_far closed_net_item

pub live_net : Lives net
unfolding net
live_net table = (live_name table, λ _. (live_joined table, λ _. (live_net_rest [] table, λ _. tt)))

pub closed_net : Closes net
unfolding net
closed_net table = shut_then (closed_name table) (λ _. shut_then (closed_joined table) (λ _. shut_then (closed_net_rest [] table) (λ _. shut_gives table _)))
