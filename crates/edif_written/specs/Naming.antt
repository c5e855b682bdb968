-- Names that are written with an identifier (EDIF 2 0 0, rename, array and property).
use Rattle.std.specs.Prelude.{ℕ, ◌<◌, ◌^◌, ◌++◌, List, [], cond, Option, Some, None, ⊤, pos, nat_abs, map}
use Rattle.std.specs.Borrow.{Bor}
use Rattle.nl_base.specs.Case.{same_bytes}
use Rattle.nl_base.specs.Ranges.{Bounds, bracketed, range_bits, square}
use Rattle.edif_values.specs.Names.{original}
use Rattle.edif_values.specs.declared.name.NameDef.{NameDef}
use Rattle.edif_values.specs.declared.name.PortName.{PortName}
use Rattle.edif_values.specs.declared.name.PortName.TheVariants.{Single, Array}
use Rattle.edif_values.specs.declared.property.Property.{Property}
use Rattle.net_hier.specs.declared.cells.HProp.{HProp}

-- the name with this identifier and this original name: the identifier alone, where it is the name
abbrev pub name_for : List ℕ → List ℕ → NameDef
name_for ident name = record { ident = ident; text = cond (same_bytes ident name) None (Some name) }

-- the text of an array: its name and its range in brackets
abbrev pub array_text : List ℕ → Bounds → List ℕ
array_text name range = name ++ bracketed square range

-- the name of a port with this identifier, this name and this range
abbrev pub port_name_for : List ℕ → List ℕ → Option Bounds → PortName
port_name_for ident name None = Single (name_for ident name)
port_name_for ident name (Some range) = Array (record { ident = ident; text = Some (array_text name range) }) (pos (range_bits range))

-- both indexes are at most 2^31-1 in absolute value
abbrev pub IsSmallRange : Option Bounds → Type 0
IsSmallRange None = ⊤
IsSmallRange (Some range) = (nat_abs range.left < 2 ^ 31) × (nat_abs range.right < 2 ^ 31)

-- the property with this identifier
abbrev pub property_for : List ℕ → HProp → Property
property_for ident prop = record { name = name_for ident prop.name; value = prop.value; tail = [] }

-- the property under its original name
abbrev pub value_of : Property → HProp
value_of property = record { name = original property.name; value = property.value }

-- its original name
abbrev pub name_of : Property → List ℕ
name_of property = original property.name

-- its identifier
abbrev pub ident_of : Property → List ℕ
ident_of property = property.name.ident

-- the things behind some borrows
abbrev pub seen : {A : Type 0} → List (Bor A) → List A
seen = map (λ borrowed. borrowed.now)
