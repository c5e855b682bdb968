-- The text of a report. Each part is told before what follows it.
use Rattle.std.specs.Prelude.{◌≡◌, ℕ, ◌<◌, List, [], ◌∷◌, ◌++◌, Bool, nat_le, if◌then◌else◌, length, map, slice_get, slice_index_or, Option, Some, None, codes, decimal}
use Rattle.std.specs.Fmt.{signed_decimal}
use Rattle.std.specs.List.{filter, range_with_len}
use Rattle.nl_base.specs.Ranges.{Bounds, index_at}
use Rattle.edif_writer.specs.Strings.{quoted}
use Rattle.net_hier.specs.Constants.{ConstantNames}
use Rattle.net_hier.specs.Design.{Design}
use Rattle.net_hier.specs.Paths.{Path}
use Rattle.net_hier.specs.declared.cells.HCell.{HCell}
use Rattle.net_hier.specs.declared.cells.HPort.{HPort}
use Rattle.flat_numbers.specs.declared.spots.Spot.{Spot}
use Rattle.flat_classes.specs.Groups.{places_of}
use Rattle.flat_classes.specs.Ways.{ArePaths, path_at}
use Rattle.flat_classes.specs.Terminals.{AreFlatClasses, FlatValue, cell_of, ports_at}
use Rattle.flat_classes.specs.declared.flat.Terminal.{Terminal}
use Rattle.flat_classes.specs.declared.flat.Terminal.TheVariants.{Port, Pin, Zero, One}

-- names as strings, the last first, each with `/` behind it
abbrev pub names_then : List (List ℕ) → List ℕ → List ℕ
names_then [] rest = rest
names_then (name ∷ outer) rest = names_then outer (quoted name (codes "/" ++ rest))

-- a path: its names as strings, the outermost first, with `/` between them; `.` is that of the top
abbrev pub path_then : Path → List ℕ → List ℕ
path_then [] rest = codes "." ++ rest
path_then (name ∷ outer) rest = names_then outer (quoted name rest)

-- the index of a bit, where there is a range
abbrev pub index_then : Option Bounds → ℕ → List ℕ → List ℕ
index_then None bit rest = rest
index_then (Some range) bit rest = codes " " ++ (signed_decimal (index_at range bit) ++ rest)

-- the name of a port, and the index of the bit where the port has a range
abbrev pub bit_then : HPort → ℕ → List ℕ → List ℕ
bit_then port bit rest = quoted port.name (index_then port.range bit rest)

-- the same of a port, if there is one
abbrev pub port_then : Option HPort → ℕ → List ℕ → List ℕ
port_then None bit rest = rest
port_then (Some port) bit rest = bit_then port bit rest

-- the name of a cell, if there is one
abbrev pub name_then : Option HCell → List ℕ → List ℕ
name_then None rest = rest
name_then (Some cell) rest = quoted cell.name rest

-- the port of this number of the cell at a spot
abbrev pub port_of : List HCell → List Spot → ℕ → ℕ → Option HPort
port_of cells spots spot port = slice_get (ports_at cells spots spot) port

-- the words of a terminal, after two blanks
abbrev pub words_then : List HCell → List Spot → List Path → Terminal → List ℕ → List ℕ
words_then cells spots paths (Port port bit) rest = codes "  port " ++ port_then (port_of cells spots 0 port) bit rest
words_then cells spots paths (Pin spot port bit) rest = codes "  pin " ++ path_then (path_at paths spot) (codes " " ++ port_then (port_of cells spots spot port) bit rest)
words_then cells spots paths Zero rest = codes "  zero" ++ rest
words_then cells spots paths One rest = codes "  one" ++ rest

-- the line of a terminal, if there is one
abbrev pub terminal_then : List HCell → List Spot → List Path → Option Terminal → List ℕ → List ℕ
terminal_then cells spots paths None rest = rest
terminal_then cells spots paths (Some terminal) rest = words_then cells spots paths terminal (codes "\n" ++ rest)

-- the lines of the terminals at these places
abbrev pub terminals_then : List HCell → List Spot → List Path → List Terminal → List ℕ → List ℕ → List ℕ
terminals_then cells spots paths terminals [] rest = rest
terminals_then cells spots paths terminals (place ∷ places) rest =
    terminal_then cells spots paths (slice_get terminals place) (terminals_then cells spots paths terminals places rest)

-- there are two items or more
abbrev pub has_two : List ℕ → Bool
has_two places = nat_le 2 (length places)

-- a group of two terminals or more: the line `net` and the lines of its terminals. One terminal alone has no line.
abbrev pub net_then : List HCell → List Spot → List Path → List Terminal → List ℕ → List ℕ → List ℕ
net_then cells spots paths terminals places rest = if has_two places then codes "net\n" ++ terminals_then cells spots paths terminals places rest else rest

-- groups, one after the other
abbrev pub nets_then : List HCell → List Spot → List Path → List Terminal → List (List ℕ) → List ℕ → List ℕ
nets_then cells spots paths terminals [] rest = rest
nets_then cells spots paths terminals (places ∷ groups) rest = net_then cells spots paths terminals places (nets_then cells spots paths terminals groups rest)

-- the line of a leaf: its path and its cell's name
abbrev pub leaf_then : List HCell → List Spot → List Path → ℕ → List ℕ → List ℕ
leaf_then cells spots paths leaf rest =
    codes "leaf " ++ path_then (path_at paths leaf) (codes " " ++ name_then (cell_of cells (slice_get spots leaf)) (codes "\n" ++ rest))

-- the lines of leaves
abbrev pub leaves_then : List HCell → List Spot → List Path → List ℕ → List ℕ → List ℕ
leaves_then cells spots paths [] rest = rest
leaves_then cells spots paths (leaf ∷ leaves) rest = leaf_then cells spots paths leaf (leaves_then cells spots paths leaves rest)

-- a line of a word and a number
abbrev pub count_then : List ℕ → ℕ → List ℕ → List ℕ
count_then word count rest = word ++ (codes " " ++ (decimal count ++ (codes "\n" ++ rest)))

-- the line of the top's name
abbrev pub design_then : Option HCell → List ℕ → List ℕ
design_then top rest = codes "design " ++ name_then top (codes "\n" ++ rest)

-- for each group the places of its terminals, in the order of the groups' first terminals
abbrev pub groups_of : FlatValue → List (List ℕ)
groups_of flat = map (places_of flat.groups) (range_with_len 0 flat.count)

-- the lines of a report
abbrev pub report_then : Design → FlatValue → List Path → List ℕ → List ℕ
report_then design flat paths rest =
    design_then (slice_get design.cells design.top)
    (count_then (codes "leaves") (length flat.leaves) (leaves_then design.cells flat.spots paths flat.leaves
    (count_then (codes "nets") (length (filter has_two (groups_of flat))) (nets_then design.cells flat.spots paths flat.terminals (groups_of flat) rest))))

-- the text is the report of the design
pub record IsReport (names : ConstantNames) (design : Design) (text : List ℕ) : Type 0 where
  pub flat : FlatValue
  pub are_classes : AreFlatClasses names design flat
  pub paths : List Path
  pub are_paths : ArePaths design.cells flat.spots paths
  pub is : text ≡ report_then design flat paths []
