-- The original names of objects and of ports (EDIF 2 0 0, rename and array).
use Rattle.std.specs.Prelude.{◌≡◌, ℕ, ◌≤◌, ◌⊎◌, List, Option, Some, None, ℤ, pos, negsuc, ◌-ℤ◌, ⊤}
use Rattle.nl_base.specs.Ranges.{Bounds, HasRangeForm, HasNoRangeForm}
use Rattle.nl_base.specs.RangeForm.{range_form}
use Rattle.edif_values.specs.declared.name.NameDef.{NameDef}
use Rattle.edif_values.specs.declared.name.PortName.{PortName}
use Rattle.edif_values.specs.declared.name.PortName.TheVariants.{Single, Array}

-- the text of a rename, else the identifier
abbrev pub renamed_as : Option (List ℕ) → List ℕ → List ℕ
renamed_as None ident = ident
renamed_as (Some text) ident = text

-- the original name of an object: the text of its rename, else its identifier
abbrev pub original : NameDef → List ℕ
original name = renamed_as name.text name.ident

-- the base and the range of a text in range form for a size, which is none below 1
abbrev pub sized_form : List ℕ → ℤ → Option (List ℕ × Bounds)
sized_form text (pos size) = range_form text size
sized_form text (negsuc n) = None

-- the base and the range, where the text has the range form; else the whole text, and the range SIZE-1:0
abbrev pub named_array : List ℕ → ℤ → Option (List ℕ × Bounds) → List ℕ × Bounds
named_array text size None = (text, record { left = size -ℤ pos 1; right = pos 0 })
named_array text size (Some form) = form

-- the original name and the range of an array of this text and size; member 0 has the left index
abbrev pub array_name : List ℕ → ℤ → List ℕ × Bounds
array_name text size = named_array text size (sized_form text size)

-- The base and the range are those of an array of this text and this many bits: of the range form, where the text has it; else the
-- whole text, and the range SIZE-1:0.
abbrev pub NamesArray : List ℕ → ℕ → List ℕ → Bounds → Type 0
NamesArray text size base range = HasRangeForm text size base range ⊎ (HasNoRangeForm text size × (base ≡ text) × (range ≡ record { left = pos size -ℤ pos 1; right = pos 0 }))

-- the original name of a port, and its range where it is an array
abbrev pub port_original : PortName → List ℕ × Option Bounds
port_original (Single name) = (original name, None)
port_original (Array name size) = ((array_name (original name) size).0, Some (array_name (original name) size).1)

-- The text and the range are the original name of a port and its range: those of an array, or an object's original name and none.
abbrev pub NamesPort : PortName → List ℕ → Option Bounds → Type 0
NamesPort (Single name) text range = (text ≡ original name) × (range ≡ None)
NamesPort (Array name (pos size)) text (Some range) = NamesArray (original name) size text range
NamesPort (Array name (pos size)) text None = ⊥
NamesPort (Array name (negsuc n)) text range = ⊥

-- a size of an array of at most 65,536 bits
abbrev pub IsSize : ℤ → Type 0
IsSize (pos size) = (1 ≤ size) × (size ≤ 65536)
IsSize (negsuc n) = ⊥

-- the size is such a one, where the port is an array
abbrev pub HasSize : PortName → Type 0
HasSize (Single name) = ⊤
HasSize (Array name size) = IsSize size
