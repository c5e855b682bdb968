-- Ports, instances and nets are read as the extended BNF has them.
use Rattle.std.proofs.Common.{◌≡◌, ap, refl, inl, inr, false, List, [], ◌∷◌, Some, None, codes}
use Rattle.nl_base.specs.declared.value.Dir.{Dir}
use Rattle.nl_base.specs.declared.value.Dir.TheVariants as dirs
use Rattle.edif_values.specs.declared.keyword.Keyword.TheVariants as k
use Rattle.edif_keywords.specs.Aliases.{Alias}
use Rattle.edif_keywords.specs.Grammar.{choice, item}
use Rattle.edif_status.specs.Grammar.{note_keywords}
use Rattle.edif_values.specs.declared.port.PortItem.{PortItem}
use Rattle.edif_values.specs.declared.port.PortItem.TheVariants as port_items
use Rattle.edif_values.specs.declared.instance.InstanceItem.TheVariants as instance_items
use Rattle.edif_values.specs.declared.net.NetItem.{NetItem}
use Rattle.edif_values.specs.declared.net.NetItem.TheVariants as net_items
use Rattle.edif_nets.specs.Grammar as grammar
use Rattle.edif_nets.specs.Grammar.{direction_words, port_item, is_direction, has_direction, port_keywords, port_rest, library_named, no_library, maybe_library, instance_item, instance_keywords, instance_rest, cell_ref, member, whole_port, instance_named, no_instance, maybe_instance, joined_keywords, joined_rest, joined, net_item, net_keywords, net_rest}
use Rattle.edif_productions.specs.Production.{Production, optional, many, form, meaning, ◌·◌, ◌∣◌, Tokens, Texts, ident, int, capitals, HasTextsOf, form_of}
use Rattle.edif_productions.specs.Names.{property}
use Rattle.edif_productions.specs.Notes.{note}
use Rattle.edif_productions.specs.Nets.{designator, direction, port_part, port, view_ref, instance_part, instance, port_or_member, port_ref, net}
use Rattle.edif_productions.proofs.OneToken.{words, strings, integers}
use Rattle.edif_productions.proofs.Combining.{ReadsOn, then_on, ends_on, ends_plainly, gives_on, gives_so, whole_form, meant}
use Rattle.edif_productions.proofs.Alternatives.{or_form, form_or_part, optional_form}
use Rattle.edif_productions.proofs.Alike.{has_same, on_same, plain_meaning, meaning_out}
use Rattle.edif_productions.proofs.Repeating.{many_forms, once_forms}
use Rattle.edif_productions.proofs.Choices.{or_word, one_word}
use Rattle.edif_productions.proofs.NameTexts.{names, port_names_read, properties}
use Rattle.edif_productions.proofs.NoteTexts.{note_among}

pub designators : HasTextsOf (form_of k.Designator grammar.designator) designator
unfolding designator grammar.designator
designators = whole_form k.Designator (ends_plainly strings)

-- ---- ports

-- INPUT | OUTPUT | INOUT
abbrev Directions : Production Dir
Directions = capitals (codes "INPUT") dirs.Input ∣ capitals (codes "OUTPUT") dirs.Output ∣ capitals (codes "INOUT") dirs.Inout

directions : HasTextsOf (choice direction_words) Directions
directions =
    or_word (codes "INPUT") dirs.Input ((codes "OUTPUT", dirs.Output) ∷ (codes "INOUT", dirs.Inout) ∷ []) refl
    (or_word (codes "OUTPUT") dirs.Output ((codes "INOUT", dirs.Inout) ∷ []) refl (one_word (codes "INOUT") dirs.Inout))

port_directions : HasTextsOf (form_of k.Direction grammar.direction) (meaning (λ d. port_items.Direction d) direction)
unfolding direction grammar.direction
port_directions =
    has_same (meaning_out k.Direction (λ d. port_items.Direction d) Directions)
    (whole_form k.Direction (ends_on (λ d. port_items.Direction d) directions))

port_parts : HasTextsOf (item (k.Property ∷ k.Designator ∷ note_keywords) port_item) port_part
unfolding port_item
port_parts =
    or_form port_item k.Property (k.Designator ∷ note_keywords) (meant (k.Property ∷ []) (λ p. port_items.Property p) properties)
    (or_form port_item k.Designator note_keywords (meant (k.Designator ∷ []) (λ s. port_items.Designator s) designators)
    (note_among (λ n. port_items.Note n) port_item refl refl))

first_port_parts : HasTextsOf (item (k.Direction ∷ k.Property ∷ k.Designator ∷ note_keywords) port_item)
    (meaning (λ d. port_items.Direction d) direction ∣ port_part)
unfolding port_item
first_port_parts = or_form port_item k.Direction (k.Property ∷ k.Designator ∷ note_keywords) port_directions port_parts

no_direction : (aliases : List Alias) (ts : Tokens) (i : PortItem) → Texts aliases port_part ts i → is_direction i ≡ false
unfolding is_direction
no_direction aliases ts i (inl (p, t, e)) = ap is_direction e
no_direction aliases ts i (inr (inl (s, t, e))) = ap is_direction e
no_direction aliases ts i (inr (inr (n, t, e))) = ap is_direction e

pub ports : HasTextsOf (form_of k.Port grammar.port) port
unfolding port grammar.port port_rest has_direction port_keywords is_direction
ports =
    whole_form k.Port (then_on (λ n is. record { name = n; items = is }) port_names_read
    (λ n. gives_on (λ is. record { name = n; items = is })
    (once_forms is_direction port_keywords (λ d. port_items.Direction d) first_port_parts port_parts (λ d. refl) no_direction)))

-- ---- instances

libraries_named : ReadsOn maybe_library (optional (form k.LibraryRef ident))
unfolding maybe_library library_named no_library
libraries_named = optional_form k.LibraryRef words

cells_named : HasTextsOf cell_ref (form k.CellRef (ident · optional (form k.LibraryRef ident)))
unfolding cell_ref
cells_named =
    whole_form k.CellRef (on_same (plain_meaning (ident · optional (form k.LibraryRef ident)))
    (then_on (λ c l. (c, l)) words (λ c. gives_on (λ l. (c, l)) libraries_named)))

views_named : HasTextsOf grammar.view_ref view_ref
unfolding grammar.view_ref
views_named = whole_form k.ViewRef (then_on (λ v c. (v, c.0, c.1)) words (λ v. ends_on (λ c. (v, c.0, c.1)) cells_named))

instance_parts : HasTextsOf (item instance_keywords instance_item) instance_part
unfolding instance_item
instance_parts =
    or_form instance_item k.Property (k.Designator ∷ note_keywords) (meant (k.Property ∷ []) (λ p. instance_items.Property p) properties)
    (or_form instance_item k.Designator note_keywords (meant (k.Designator ∷ []) (λ s. instance_items.Designator s) designators)
    (note_among (λ n. instance_items.Note n) instance_item refl refl))

pub instances : HasTextsOf (form_of k.Instance grammar.instance) instance
unfolding instance grammar.instance instance_rest
instances =
    whole_form k.Instance (then_on (λ n x. record { name = n; view = x.0.0; cell = x.0.1; library = x.0.2; items = x.1 }) names
    (λ n. then_on (λ v is. record { name = n; view = v.0; cell = v.1; library = v.2; items = is }) views_named
    (λ v. gives_on (λ is. record { name = n; view = v.0; cell = v.1; library = v.2; items = is }) (many_forms instance_keywords instance_parts))))

-- ---- nets

members : ReadsOn member (meaning (λ x. (x.0, Some x.1)) (ident · int))
unfolding member
members = then_on (λ w i. (w, Some i)) words (λ w. ends_on (λ i. (w, Some i)) integers)

ports_or_members : HasTextsOf grammar.port_or_member port_or_member
unfolding grammar.port_or_member whole_port
ports_or_members = form_or_part (k.Member ∷ []) (gives_so (λ w. (w, None)) words) (whole_form k.Member members)

instances_named : ReadsOn maybe_instance (optional (form k.InstanceRef ident))
unfolding maybe_instance instance_named no_instance
instances_named = optional_form k.InstanceRef words

port_refs : HasTextsOf (form_of k.PortRef grammar.port_ref) port_ref
unfolding port_ref grammar.port_ref
port_refs =
    whole_form k.PortRef (then_on (λ p u. record { port = p.0; member = p.1; instance = u }) ports_or_members
    (λ p. gives_on (λ u. record { port = p.0; member = p.1; instance = u }) instances_named))

all_joined : HasTextsOf joined (form k.Joined (many port_ref))
unfolding joined joined_rest
all_joined = whole_form k.Joined (many_forms joined_keywords port_refs)

-- property | note
abbrev NetPart : Production NetItem
NetPart = meaning (λ p. net_items.Property p) property ∣ meaning (λ n. net_items.Note n) note

net_parts : HasTextsOf (item net_keywords net_item) NetPart
unfolding net_item
net_parts =
    or_form net_item k.Property note_keywords (meant (k.Property ∷ []) (λ p. net_items.Property p) properties)
    (note_among (λ n. net_items.Note n) net_item refl refl)

pub nets : HasTextsOf (form_of k.Net grammar.net) net
unfolding net grammar.net net_rest
nets =
    whole_form k.Net (then_on (λ n x. record { name = n; joined = x.0; items = x.1 }) names
    (λ n. then_on (λ j is. record { name = n; joined = j; items = is }) all_joined
    (λ j. gives_on (λ is. record { name = n; joined = j; items = is }) (many_forms net_keywords net_parts))))
