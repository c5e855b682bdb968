-- What ports, instances and nets read.
use Rattle.std.proofs.Common.{refl, ℕ, Bool, true, false, List, [], ◌∷◌, Option, Some, None}
use Rattle.grammar.specs.Part.{gives, sequence}
use Rattle.edif_keywords.specs.Grammar.{word, closing}
use Rattle.edif_values.specs.declared.keyword.Keyword.TheVariants as k
use Rattle.edif_values.specs.declared.port.PortItem.{PortItem}
use Rattle.edif_values.specs.declared.port.PortItem.TheVariants as port_items
use Rattle.edif_values.specs.declared.instance.InstanceItem.{InstanceItem}
use Rattle.edif_values.specs.declared.instance.InstanceItem.TheVariants as instance_items
use Rattle.edif_values.specs.declared.net.PortRef.{PortRef}
use Rattle.edif_values.specs.declared.net.NetItem.{NetItem}
use Rattle.edif_values.specs.declared.net.NetItem.TheVariants as net_items
use Rattle.edif_nets.specs.Grammar.{designator, direction_words, direction, port_item, has_direction, port_keywords, port_rest, port, library_named, no_library, maybe_library, instance_item, instance_keywords, instance_rest, cell_ref, view_ref, instance, member, whole_port, port_or_member, instance_named, no_instance, maybe_instance, port_ref, joined_keywords, joined_rest, joined, net_item, net_keywords, net_rest, net}
use Rattle.edif_reasons.proofs.Forms.{Stays, Ends, Reads, ReadsLast, stays_gives, stays_then, ends_then, ends_as, reads_as, reads_plainly, stays_word, stays_string, stays_integer, stays_choice, ends_with, reads_last}
use Rattle.edif_reasons.proofs.Items.{Each, stays_item, stays_or, ends_or, ends_items}
use Rattle.edif_reasons.proofs.Names.{stays_name, stays_port_name, reads_property}
use Rattle.edif_reasons.proofs.Trees.{reads_notes}

ends_designator : Ends designator
unfolding designator
ends_designator = ends_then stays_string (λ s. ends_with s)

pub reads_designator : Reads k.Designator designator
reads_designator = reads_plainly k.Designator refl ends_designator

-- ---- ports

ends_direction : Ends direction
unfolding direction
ends_direction = ends_then (stays_choice direction_words) (λ d. ends_with (port_items.Direction d))

each_port : (b : Bool) → Each (port_keywords b) (λ q. Reads q (port_item q))
unfolding port_keywords port_item
each_port false = (
  reads_plainly k.Direction refl ends_direction,
  (
    reads_as port_items.Property k.Property reads_property,
    (reads_as port_items.Designator k.Designator reads_designator, reads_notes port_items.Note),
  ),
)
each_port true = (
  reads_as port_items.Property k.Property reads_property,
  (reads_as port_items.Designator k.Designator reads_designator, reads_notes port_items.Note),
)

ends_port_rest : (so_far : List PortItem) → Ends (port_rest so_far)
unfolding port_rest
ends_port_rest so_far = ends_items (λ s. port_keywords (has_direction s)) port_item (λ s. each_port (has_direction s)) so_far

ends_port : Ends port
unfolding port
ends_port = ends_then stays_port_name (λ n. ends_as (λ is. record { name = n; items = is }) (ends_port_rest []))

pub reads_port : Reads k.Port port
reads_port = reads_plainly k.Port refl ends_port

-- ---- instances

reads_library_named : ReadsLast k.LibraryRef library_named
unfolding library_named
reads_library_named = reads_last (λ w. Some w) k.LibraryRef refl stays_word

ends_no_library : Ends no_library
unfolding no_library
ends_no_library = ends_with None

ends_maybe_library : Ends maybe_library
unfolding maybe_library
ends_maybe_library = ends_or (k.LibraryRef ∷ []) (λ _. library_named) no_library (reads_library_named, tt) ends_no_library

each_instance : Each instance_keywords (λ q. Reads q (instance_item q))
unfolding instance_item
each_instance = (
  reads_as instance_items.Property k.Property reads_property,
  (reads_as instance_items.Designator k.Designator reads_designator, reads_notes instance_items.Note),
)

ends_instance_rest : (so_far : List InstanceItem) → Ends (instance_rest so_far)
unfolding instance_rest
ends_instance_rest so_far = ends_items (λ _. instance_keywords) instance_item (λ _. each_instance) so_far

-- IDENT [( libraryRef IDENT )] ), after `( cellRef`
ends_cell_named : Ends {A = List ℕ × Option (List ℕ)} (sequence word (λ c. sequence maybe_library (λ l. gives (c, l))))
ends_cell_named = ends_then stays_word (λ c. ends_as (λ l. (c, l)) ends_maybe_library)

stays_cell_ref : Stays cell_ref
unfolding cell_ref
stays_cell_ref = stays_item (k.CellRef ∷ []) (λ _. sequence word (λ c. sequence maybe_library (λ l. gives (c, l))))
    (reads_plainly k.CellRef refl ends_cell_named, tt)

ends_view_named : Ends {A = List ℕ × List ℕ × Option (List ℕ)} (sequence word
    (λ v. sequence cell_ref (λ c. sequence closing (λ _. gives (v, c.0, c.1)))))
ends_view_named = ends_then stays_word (λ v. ends_then stays_cell_ref (λ c. ends_with (v, c.0, c.1)))

stays_view_ref : Stays view_ref
unfolding view_ref
stays_view_ref = stays_item (k.ViewRef ∷ []) (λ _. sequence word (λ v. sequence cell_ref (λ c. sequence closing (λ _. gives (v, c.0, c.1)))))
    (reads_plainly k.ViewRef refl ends_view_named, tt)

ends_instance : Ends instance
unfolding instance
ends_instance = ends_then stays_name (λ n. ends_then stays_view_ref
    (λ v. ends_as (λ is. record { name = n; view = v.0; cell = v.1; library = v.2; items = is }) (ends_instance_rest [])))

pub reads_instance : Reads k.Instance instance
reads_instance = reads_plainly k.Instance refl ends_instance

-- ---- nets

ends_member : Ends member
unfolding member
ends_member = ends_then stays_word (λ w. ends_then stays_integer (λ i. ends_with (w, Some i)))

stays_whole_port : Stays whole_port
unfolding whole_port
stays_whole_port = stays_then stays_word (λ w. stays_gives (w, None))

stays_port_or_member : Stays port_or_member
unfolding port_or_member
stays_port_or_member = stays_or (k.Member ∷ []) (λ _. member) whole_port (reads_plainly k.Member refl ends_member, tt) stays_whole_port

reads_instance_named : ReadsLast k.InstanceRef instance_named
unfolding instance_named
reads_instance_named = reads_last (λ w. Some w) k.InstanceRef refl stays_word

ends_no_instance : Ends no_instance
unfolding no_instance
ends_no_instance = ends_with None

ends_maybe_instance : Ends maybe_instance
unfolding maybe_instance
ends_maybe_instance = ends_or (k.InstanceRef ∷ []) (λ _. instance_named) no_instance (reads_instance_named, tt) ends_no_instance

ends_port_ref : Ends port_ref
unfolding port_ref
ends_port_ref = ends_then stays_port_or_member (λ p. ends_as (λ u. record { port = p.0; member = p.1; instance = u }) ends_maybe_instance)

ends_joined_rest : (so_far : List PortRef) → Ends (joined_rest so_far)
unfolding joined_rest
ends_joined_rest so_far = ends_items (λ _. joined_keywords) (λ _. port_ref) (λ _. (reads_plainly k.PortRef refl ends_port_ref, tt)) so_far

stays_joined : Stays joined
unfolding joined
stays_joined = stays_item (k.Joined ∷ []) (λ _. joined_rest []) (reads_plainly k.Joined refl (ends_joined_rest []), tt)

each_net : Each net_keywords (λ q. Reads q (net_item q))
unfolding net_item
each_net = (reads_as net_items.Property k.Property reads_property, reads_notes net_items.Note)

ends_net_rest : (so_far : List NetItem) → Ends (net_rest so_far)
unfolding net_rest
ends_net_rest so_far = ends_items (λ _. net_keywords) net_item (λ _. each_net) so_far

ends_net : Ends net
unfolding net
ends_net = ends_then stays_name (λ n. ends_then stays_joined (λ j. ends_as (λ is. record { name = n; joined = j; items = is }) (ends_net_rest [])))

pub reads_net : Reads k.Net net
reads_net = reads_plainly k.Net refl ends_net
