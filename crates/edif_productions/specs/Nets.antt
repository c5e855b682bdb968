-- Ports, instances and nets in the words of the extended BNF (EDIF 2 0 0, forms port, direction,
-- designator, instance, viewRef, cellRef, libraryRef, net, joined, portRef, member, instanceRef).
use Rattle.std.specs.Prelude.{ℕ, ℤ, List, Option, Some, None, codes}
use Rattle.nl_base.specs.declared.value.Dir.{Dir}
use Rattle.nl_base.specs.declared.value.Dir.TheVariants as dirs
use Rattle.edif_values.specs.declared.keyword.Keyword.TheVariants as k
use Rattle.edif_values.specs.declared.port.PortItem.{PortItem}
use Rattle.edif_values.specs.declared.port.PortItem.TheVariants as port_items
use Rattle.edif_values.specs.declared.port.Port.{Port}
use Rattle.edif_values.specs.declared.instance.InstanceItem.{InstanceItem}
use Rattle.edif_values.specs.declared.instance.InstanceItem.TheVariants as instance_items
use Rattle.edif_values.specs.declared.instance.Instance.{Instance}
use Rattle.edif_values.specs.declared.net.PortRef.{PortRef}
use Rattle.edif_values.specs.declared.net.NetItem.TheVariants as net_items
use Rattle.edif_values.specs.declared.net.Net.{Net}
use Rattle.edif_nets.specs.Grammar.{is_direction}
use Rattle.edif_productions.specs.Production.{Production, optional, many, form, meaning, such, ◌·◌, ◌∣◌, ident, int, str, capitals, AtMostOne}
use Rattle.edif_productions.specs.Names.{name, port_name, property}
use Rattle.edif_productions.specs.Notes.{note}

-- designator= ( designator STR )
unfoldable pub designator : Production (List ℕ)
designator = form k.Designator str

-- direction = ( direction DIR )                         DIR is INPUT, OUTPUT or INOUT
unfoldable pub direction : Production Dir
direction =
    form k.Direction (capitals (codes "INPUT") dirs.Input
    ∣ capitals (codes "OUTPUT") dirs.Output
    ∣ capitals (codes "INOUT") dirs.Inout)

-- property | designator | note
abbrev pub port_part : Production PortItem
port_part =
    meaning (λ p. port_items.Property p) property
    ∣ meaning (λ s. port_items.Designator s) designator
    ∣ meaning (λ n. port_items.Note n) note

-- port      = ( port PORTNAME {direction | property | designator | note} )   at most one direction
unfoldable pub port : Production Port
port =
    form k.Port (meaning (λ x. record { name = x.0; items = x.1 })
    (port_name
    · such (λ is. AtMostOne is_direction is)
    (many (meaning (λ d. port_items.Direction d) direction ∣ port_part))))

-- ( viewRef IDENT ( cellRef IDENT [( libraryRef IDENT )] ) )
abbrev pub view_ref : Production (List ℕ × List ℕ × Option (List ℕ))
view_ref =
    form k.ViewRef (meaning (λ x. (x.0, x.1.0, x.1.1))
    (ident · form k.CellRef (ident · optional (form k.LibraryRef ident))))

-- property | designator | note
abbrev pub instance_part : Production InstanceItem
instance_part =
    meaning (λ p. instance_items.Property p) property
    ∣ meaning (λ s. instance_items.Designator s) designator
    ∣ meaning (λ n. instance_items.Note n) note

-- instance  = ( instance NAME ( viewRef IDENT ( cellRef IDENT [( libraryRef IDENT )] ) )
--               {property | designator | note} )
unfoldable pub instance : Production Instance
instance =
    form k.Instance (meaning (λ x. record {
      name = x.0;
      view = x.1.0.0;
      cell = x.1.0.1;
      library = x.1.0.2;
      items = x.1.1;
    }) (name · view_ref · many instance_part))

-- PREF      = IDENT | ( member IDENT INT )
abbrev pub port_or_member : Production (List ℕ × Option ℤ)
port_or_member =
    meaning (λ w. (w, None)) ident ∣ form k.Member (meaning (λ x. (x.0, Some x.1)) (ident · int))

-- portRef   = ( portRef PREF [( instanceRef IDENT )] )
unfoldable pub port_ref : Production PortRef
port_ref =
    form k.PortRef (meaning (λ x. record { port = x.0.0; member = x.0.1; instance = x.1 })
    (port_or_member · optional (form k.InstanceRef ident)))

-- net       = ( net NAME ( joined {portRef} ) {property | note} )
unfoldable pub net : Production Net
net =
    form k.Net (meaning (λ x. record { name = x.0; joined = x.1.0; items = x.1.1 })
    (name · form k.Joined (many port_ref)
    · many (meaning (λ p. net_items.Property p) property ∣ meaning (λ n. net_items.Note n) note)))
