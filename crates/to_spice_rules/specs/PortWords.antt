-- The words of the port bits of a cell: `p`, or `p[index]` where the port has a range.
use Rattle.std.specs.Prelude.{ℕ, List, [], map, flat_map, slice_get}
use Rattle.std.specs.List.{range_with_len}
use Rattle.std.specs.Option.{option_map_or}
use Rattle.net_hier.specs.Cells.{IsPortBit, width_of}
use Rattle.net_hier.specs.declared.cells.HCell.{HCell}
use Rattle.net_hier.specs.declared.cells.HPort.{HPort}
use Rattle.net_hier.specs.declared.nodes.Node.{Node}
use Rattle.net_hier.specs.declared.nodes.Node.TheVariants.{Port, Pin, Net, Zero, One}
use Rattle.net_live.specs.Live.{bit_word}

-- the words of the bits of a port, in order
abbrev pub bit_words : HPort → List (List ℕ)
bit_words port = map (bit_word port) (range_with_len 0 (width_of port.range))

-- the words of the port bits of a cell, in order
abbrev pub port_words : HCell → List (List ℕ)
port_words cell = flat_map bit_words cell.ports

-- the node is a bit of a port of the cell
abbrev pub IsOwnBit : HCell → Node → Type 0
IsOwnBit cell (Port port bit) = IsPortBit cell port bit
IsOwnBit cell (Pin instance port bit) = ⊥
IsOwnBit cell (Net net) = ⊥
IsOwnBit cell Zero = ⊥
IsOwnBit cell One = ⊥

-- the word of a port bit
abbrev pub word_of : HCell → Node → List ℕ
word_of cell (Port port bit) = option_map_or (λ p. bit_word p bit) (slice_get cell.ports port) []
word_of cell (Pin instance port bit) = []
word_of cell (Net net) = []
word_of cell Zero = []
word_of cell One = []
