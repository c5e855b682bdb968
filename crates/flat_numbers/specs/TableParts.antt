-- What the tables of a design hold, by plain lists.
use Rattle.std.specs.Prelude.{ℕ, ◌≤◌, List}
use Rattle.net_hier.specs.Design.{Design}
use Rattle.flat_numbers.specs.Layout.{base_of}
use Rattle.flat_numbers.specs.Tables.{AreTables, rows_in}
use Rattle.flat_numbers.specs.declared.numbers.Tables.{Tables}
use Rattle.flat_numbers.specs.declared.spots.Spot.{Spot}

-- the spots
abbrev pub spots_in : Tables → List Spot
spots_in tables = tables.layout.spots.items

-- the first number of a spot
abbrev pub bases_in : Tables → ℕ → ℕ
bases_in tables = base_of tables.layout.bases.items tables.layout.count

-- the tables are those of a design of a flat count within the limit
abbrev pub HasTables : Design → Tables → Type 0
HasTables design tables = (count : ℕ) × AreTables design.cells design.top count tables.layout tables.belows (rows_in tables.offsets.items) × (count ≤ 2000000)
