-- The names of nodes.
use Rattle.std.specs.Prelude.{◌≡◌, ℕ, ◌<◌, ◌^◌, ◌&&◌, ◌++◌, Bool, true, not, nat_le, List, map, length, slice_get, codes, Option, None, Some, if◌then◌else◌}
use Rattle.net_bits.specs.Names.{IsFresh, NameSet, has_name}
use Rattle.net_hier.specs.Cells.{IsLocallyConnected}
use Rattle.net_hier.specs.declared.cells.HCell.{HCell}
use Rattle.net_hier.specs.declared.cells.HNet.{HNet}
use Rattle.net_hier.specs.declared.nodes.Node.{Node}
use Rattle.net_hier.specs.declared.nodes.Node.TheVariants.{Net}
use Rattle.spice_text.specs.Words.{is_spice_word}
use Rattle.to_spice_rules.specs.PortWords.{port_words}

-- pins, and the nodes that they have
abbrev pub Given : Type 0
Given = List (Node × List ℕ)

-- the names that are used: the words of the port bits, and the nodes so far; they are told apart up to case
abbrev pub used_names : HCell → Given → NameSet
used_names cell given = record { up_to_case = true; names = port_words cell ++ map (λ pin. pin.1) given }

-- whether the name of a net can be that of a node: a SPICE word of at most 1,024 bytes that is not used
abbrev pub is_free : NameSet → List ℕ → Bool
is_free used name = is_spice_word name && nat_le (length name) 1024 && not (has_name used name)

-- the name, where it can be that of a node
abbrev pub if_free : NameSet → Option (List ℕ) → Option (List ℕ)
if_free used None = None
if_free used (Some name) = if is_free used name then Some name else None

-- the net of this name is the first one that is connected to the node
pub record IsFirstNet (cell : HCell) (node : Node) (name : List ℕ) : Type 0 where
  pub number : ℕ
  pub net : HNet
  pub is_there : slice_get cell.nets number ≡ Some net
  pub is_named : net.name ≡ name
  pub is_connected : IsLocallyConnected cell node (Net number)
  pub is_first : (lesser : ℕ) → lesser < number → ¬ IsLocallyConnected cell node (Net lesser)

-- the name of the first net that is connected to the node, or none is
abbrev pub IsNetOf : HCell → Node → Option (List ℕ) → Type 0
IsNetOf cell node None = (number : ℕ) → number < length cell.nets → ¬ IsLocallyConnected cell node (Net number)
IsNetOf cell node (Some name) = IsFirstNet cell node name

-- a new name: the one that is free, else `n` with the least number that is, which has 64 bits
abbrev pub IsNewName : NameSet → Option (List ℕ) → List ℕ → Type 0
IsNewName used (Some free) name = name ≡ free
IsNewName used None name = (number : ℕ) × (number < 2 ^ 64) × IsFresh used (codes "n") name number
