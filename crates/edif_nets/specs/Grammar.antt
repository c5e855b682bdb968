-- The productions of ports, instances and nets (EDIF 2 0 0, forms port, direction, designator, instance, viewRef, cellRef, libraryRef, net,
-- joined, portRef, member, instanceRef). Each reads on after its keyword, up to the `)` of the form.
use Rattle.std.specs.Prelude.{ℕ, ℤ, Bool, true, false, List, [], ◌∷◌, Option, Some, None, codes, cond}
use Rattle.std.specs.List.{list_any}
use Rattle.readers.specs.Items.{as_item}
use Rattle.grammar.specs.Part.{gives, ◌>>=◌}
use Rattle.nl_base.specs.declared.value.Dir.{Dir}
use Rattle.nl_base.specs.declared.value.Dir.TheVariants as dirs
use Rattle.edif_values.specs.declared.keyword.Keyword.{Keyword}
use Rattle.edif_values.specs.declared.keyword.Keyword.TheVariants as k
use Rattle.edif_values.specs.Keywords.{same_keyword}
use Rattle.edif_keywords.specs.Language.{Edif}
use Rattle.edif_keywords.specs.Grammar.{word, string, integer, closing, choice, begin, items, form_or}
use Rattle.edif_names.specs.Grammar.{name, port_name, property}
use Rattle.edif_status.specs.Grammar.{note, note_keywords}
use Rattle.edif_values.specs.declared.port.PortItem.{PortItem}
use Rattle.edif_values.specs.declared.port.PortItem.TheVariants as port_items
use Rattle.edif_values.specs.declared.port.Port.{Port}
use Rattle.edif_values.specs.declared.instance.InstanceItem.{InstanceItem}
use Rattle.edif_values.specs.declared.instance.InstanceItem.TheVariants as instance_items
use Rattle.edif_values.specs.declared.instance.Instance.{Instance}
use Rattle.edif_values.specs.declared.net.PortRef.{PortRef}
use Rattle.edif_values.specs.declared.net.NetItem.{NetItem}
use Rattle.edif_values.specs.declared.net.NetItem.TheVariants as net_items
use Rattle.edif_values.specs.declared.net.Net.{Net}

-- designator= ( designator STR )
unfoldable pub designator : Edif (List ℕ)
designator = do
  s ← string
  _ ← closing
  gives s

-- ---- ports

-- DIR is INPUT, OUTPUT or INOUT
abbrev pub direction_words : List (List ℕ × Dir)
direction_words = (codes "INPUT", dirs.Input) ∷ (codes "OUTPUT", dirs.Output) ∷ (codes "INOUT", dirs.Inout) ∷ []

-- direction = ( direction DIR )
unfoldable pub direction : Edif PortItem
direction = do
  d ← choice direction_words
  _ ← closing
  gives (port_items.Direction d)

-- direction | property | designator | note
unfoldable pub port_item : Keyword → Edif PortItem
port_item q =
    cond (same_keyword q k.Direction) direction
    (cond (same_keyword q k.Property) (as_item port_items.Property property)
    (cond (same_keyword q k.Designator) (as_item port_items.Designator designator)
    (as_item port_items.Note (note q))))

-- whether an item is a direction
unfoldable pub is_direction : PortItem → Bool
is_direction (port_items.Direction d) = true
is_direction (port_items.Property p) = false
is_direction (port_items.Designator s) = false
is_direction (port_items.Note n) = false

-- whether some items have a direction
unfoldable pub has_direction : List PortItem → Bool
has_direction is = list_any is_direction is

-- the keywords that may stand in a port, which has a direction already or not: at most one direction
unfoldable pub port_keywords : Bool → List Keyword
port_keywords false = k.Direction ∷ k.Property ∷ k.Designator ∷ note_keywords
port_keywords true = k.Property ∷ k.Designator ∷ note_keywords

-- {direction | property | designator | note} ), after some
unfoldable pub port_rest : List PortItem → Edif (List PortItem)
port_rest = items (λ so_far. port_keywords (has_direction so_far)) port_item

-- port      = ( port PORTNAME {direction | property | designator | note} )
unfoldable pub port : Edif Port
port = do
  n ← port_name
  is ← port_rest []
  gives (record { name = n; items = is })

-- ---- instances

-- IDENT ) ), after `( libraryRef`: with the `)` of the form around it
unfoldable pub library_named : Edif (Option (List ℕ))
library_named = do
  w ← word
  _ ← closing
  _ ← closing
  gives (Some w)

-- ), where no library is named
unfoldable pub no_library : Edif (Option (List ℕ))
no_library = do
  _ ← closing
  gives None

-- [( libraryRef IDENT )] ), with the `)` of the form around it
unfoldable pub maybe_library : Edif (Option (List ℕ))
maybe_library = form_or (k.LibraryRef ∷ []) (λ _. library_named) no_library

-- property | designator | note
unfoldable pub instance_item : Keyword → Edif InstanceItem
instance_item q =
    cond (same_keyword q k.Property) (as_item instance_items.Property property)
    (cond (same_keyword q k.Designator) (as_item instance_items.Designator designator)
    (as_item instance_items.Note (note q)))

-- the keywords that may stand behind the reference of an instance
abbrev pub instance_keywords : List Keyword
instance_keywords = k.Property ∷ k.Designator ∷ note_keywords

-- {property | designator | note} ), after some
unfoldable pub instance_rest : List InstanceItem → Edif (List InstanceItem)
instance_rest = items (λ _. instance_keywords) instance_item

-- ( cellRef IDENT [( libraryRef IDENT )] )
unfoldable pub cell_ref : Edif (List ℕ × Option (List ℕ))
cell_ref = do
  _ ← begin (k.CellRef ∷ [])
  c ← word
  l ← maybe_library
  gives (c, l)

-- ( viewRef IDENT ( cellRef IDENT [( libraryRef IDENT )] ) )
unfoldable pub view_ref : Edif (List ℕ × List ℕ × Option (List ℕ))
view_ref = do
  _ ← begin (k.ViewRef ∷ [])
  v ← word
  c ← cell_ref
  _ ← closing
  gives (v, c.0, c.1)

-- instance  = ( instance NAME ( viewRef IDENT ( cellRef IDENT [( libraryRef IDENT )] ) ) {property | designator | note} )
unfoldable pub instance : Edif Instance
instance = do
  n ← name
  v ← view_ref
  is ← instance_rest []
  gives (record { name = n; view = v.0; cell = v.1; library = v.2; items = is })

-- ---- nets

-- IDENT INT ), after `( member`
unfoldable pub member : Edif (List ℕ × Option ℤ)
member = do
  w ← word
  i ← integer
  _ ← closing
  gives (w, Some i)

-- IDENT as a reference to a whole port
unfoldable pub whole_port : Edif (List ℕ × Option ℤ)
whole_port = do
  w ← word
  gives (w, None)

-- PREF      = IDENT | ( member IDENT INT )
unfoldable pub port_or_member : Edif (List ℕ × Option ℤ)
port_or_member = form_or (k.Member ∷ []) (λ _. member) whole_port

-- IDENT ) ), after `( instanceRef`: with the `)` of the form around it
unfoldable pub instance_named : Edif (Option (List ℕ))
instance_named = do
  w ← word
  _ ← closing
  _ ← closing
  gives (Some w)

-- ), where no instance is named
unfoldable pub no_instance : Edif (Option (List ℕ))
no_instance = do
  _ ← closing
  gives None

-- [( instanceRef IDENT )] ), with the `)` of the form around it
unfoldable pub maybe_instance : Edif (Option (List ℕ))
maybe_instance = form_or (k.InstanceRef ∷ []) (λ _. instance_named) no_instance

-- portRef   = ( portRef PREF [( instanceRef IDENT )] )
unfoldable pub port_ref : Edif PortRef
port_ref = do
  p ← port_or_member
  u ← maybe_instance
  gives (record { port = p.0; member = p.1; instance = u })

-- the keyword that may stand in joined
abbrev pub joined_keywords : List Keyword
joined_keywords = k.PortRef ∷ []

-- {portRef} ), after some
unfoldable pub joined_rest : List PortRef → Edif (List PortRef)
joined_rest = items (λ _. joined_keywords) (λ _. port_ref)

-- ( joined {portRef} )
unfoldable pub joined : Edif (List PortRef)
joined = do
  _ ← begin (k.Joined ∷ [])
  joined_rest []

-- property | note
unfoldable pub net_item : Keyword → Edif NetItem
net_item q =
    cond (same_keyword q k.Property) (as_item net_items.Property property)
    (as_item net_items.Note (note q))

-- the keywords that may stand behind what a net joins
abbrev pub net_keywords : List Keyword
net_keywords = k.Property ∷ note_keywords

-- {property | note} ), after some
unfoldable pub net_rest : List NetItem → Edif (List NetItem)
net_rest = items (λ _. net_keywords) net_item

-- net       = ( net NAME ( joined {portRef} ) {property | note} )
unfoldable pub net : Edif Net
net = do
  n ← name
  j ← joined
  is ← net_rest []
  gives (record { name = n; joined = j; items = is })
