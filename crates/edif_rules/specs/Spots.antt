-- Bits of ports as nodes.
use Rattle.std.specs.Prelude.{◌≡◌, ℕ, zero, suc, ◌+◌, ◌*◌, ◌/◌, ◌%◌, ◌^◌, ◌<◌, Bool, false, ◌&&◌, ◌==◌, if◌then◌else◌, List, [], ◌∷◌, ◌++◌, map, length, All, Option, Some, None, bit_or, unwrap_or, nat_lt, slice_index_or, slice_set}
use Rattle.std.specs.Int.{bit_at}
use Rattle.std.specs.List.{flat_map, IsDistinct}
use Rattle.std.specs.Map.{keys_of, lookup}
use Rattle.indexmap.specs.IndexMap.{insert_entry}
use Rattle.net_hier.specs.declared.nodes.Node.{Node}
use Rattle.net_hier.specs.declared.nodes.Node.TheVariants.{Port, Pin}
use Rattle.edif_rules.specs.declared.bits.BitSpot.{BitSpot}
use Rattle.edif_rules.specs.declared.bits.OwnWord.{OwnWord}
use Rattle.edif_rules.specs.declared.bits.PinBit.{PinBit}

-- the bit of a port of the cell, or of an instance
abbrev pub node_of_bit : Option ℕ → ℕ → ℕ → Node
node_of_bit None port bit = Port port bit
node_of_bit (Some instance) port bit = Pin instance port bit

-- the node that the bit is
abbrev pub node_at : BitSpot → Node
node_at spot = node_of_bit spot.instance spot.port spot.bit

-- the word of a bit of a port of the cell: 64 bits stand together, and their number has a lower and an upper half
abbrev pub own_word : ℕ → ℕ → OwnWord
own_word port bit = record { port = port; low = bit / 64 % 4294967296; high = bit / 64 / 4294967296 }

-- whether the words are one
abbrev pub same_word : OwnWord → OwnWord → Bool
same_word a b = a.port == b.port && a.low == b.low && a.high == b.high

-- whether the mask has the bit of this number
abbrev pub has_bit : ℕ → ℕ → Bool
has_bit mask i = bit_at mask i == 1

-- the mask with the bit of this number
abbrev pub with_bit : ℕ → ℕ → ℕ
with_bit mask i = bit_or mask (2 ^ i)

-- the node that the bit of this number in the word is
abbrev pub word_node : OwnWord → ℕ → Node
word_node word i = Port word.port (64 * (word.low + 4294967296 * word.high) + i)

-- the nodes of so many first bits that the mask has, where each bit is the node of its number
unfoldable pub first_nodes : (ℕ → Node) → ℕ → ℕ → List Node
first_nodes node mask zero = []
first_nodes node mask (suc i) = first_nodes node mask i ++ (if has_bit mask i then node i ∷ [] else [])

-- the nodes of the bits of ports of the cell, by words and their masks
abbrev pub own_nodes : List (OwnWord × ℕ) → List Node
own_nodes entries = flat_map (λ e. first_nodes (word_node e.0) e.1 64) entries

-- the mask of the word, or 0
abbrev pub mask_of : List (OwnWord × ℕ) → OwnWord → ℕ
mask_of entries word = unwrap_or (lookup (same_word word) entries) 0

-- the words and their masks with one more bit of a port of the cell
abbrev pub with_own : List (OwnWord × ℕ) → ℕ → ℕ → List (OwnWord × ℕ)
with_own entries port bit = insert_entry same_word entries (own_word port bit) (with_bit (mask_of entries (own_word port bit)) (bit % 64))

-- the lower half of the word's number is below 2 ^ 32, so that no other halves are those of the same number
abbrev pub HasHalves : OwnWord → Type 0
HasHalves word = word.low < 4294967296

-- the words have halves, and no two are one
pub record AreWords (entries : List (OwnWord × ℕ)) : Type 0 where
  pub halves : All HasHalves (keys_of entries)
  pub apart : IsDistinct same_word (keys_of entries)

-- the node that a bit of a port of an instance is
abbrev pub pin_node : PinBit → Node
pin_node key = Pin key.instance key.port key.bit

-- the node of the first bit of this port of the instance
abbrev pub first_node : ℕ → ℕ → Node
first_node instance port = Pin instance port 0

-- the nodes of the first bits of ports of instances, by the masks of the instances from this number on
abbrev pub nodes_from : ℕ → List ℕ → List Node
nodes_from instance [] = []
nodes_from instance (mask ∷ masks) = first_nodes (first_node instance) mask 64 ++ nodes_from (suc instance) masks

-- whether the bit is the first one of a port that has a place in the masks of so many instances
abbrev pub is_first : PinBit → ℕ → Bool
is_first key instances = key.bit == 0 && (nat_lt key.port 64 && nat_lt key.instance instances)

-- whether the masks have the first bit of the port
abbrev pub has_first : List ℕ → PinBit → Bool
has_first masks key = has_bit (slice_index_or masks key.instance 0) key.port

-- the masks with the first bit of the port
abbrev pub with_first : List ℕ → PinBit → List ℕ
with_first masks key = slice_set masks key.instance (with_bit (slice_index_or masks key.instance 0) key.port)

-- no bit among the others has a place in the masks of so many instances
abbrev pub AreOthers : ℕ → List PinBit → Type 0
AreOthers instances keys = All (λ key. is_first key instances ≡ false) keys

-- the nodes of the bits of ports of instances, by the masks of the first bits, and the other bits
abbrev pub pin_nodes : List ℕ → List PinBit → List Node
pin_nodes masks keys = nodes_from 0 masks ++ map pin_node keys

-- the words are words, and each bit of a port of an instance has one place, in a mask or among the others
pub record AreTaken (entries : List (OwnWord × ℕ)) (masks : List ℕ) (keys : List PinBit) : Type 0 where
  pub words : AreWords entries
  pub others : AreOthers (length masks) keys
