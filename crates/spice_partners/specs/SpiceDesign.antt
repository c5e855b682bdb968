-- The design that subcircuits say. Names are the same where they are alike up to case.
use Rattle.std.specs.Prelude.{ℕ, ◌-◌, true, List, [], ◌++◌, map, flat_map, length, None}
use Rattle.std.specs.List.{enumerate_from, position_or_len, range_with_len}
use Rattle.nl_base.specs.Case.{same_up_to_case}
use Rattle.nl_base.specs.declared.value.Dir.TheVariants.{Inout}
use Rattle.net_hier.specs.Design.{Design}
use Rattle.net_hier.specs.declared.cells.HCell.{HCell}
use Rattle.net_hier.specs.declared.cells.HInst.{HInst}
use Rattle.net_hier.specs.declared.cells.HNet.{HNet}
use Rattle.net_hier.specs.declared.cells.HPort.{HPort}
use Rattle.net_hier.specs.declared.nodes.Join.{Join}
use Rattle.net_hier.specs.declared.nodes.Node.{Node}
use Rattle.net_hier.specs.declared.nodes.Node.TheVariants.{Port, Pin, Net}
use Rattle.spice_text.specs.declared.file.Call.{Call}
use Rattle.spice_text.specs.declared.file.SpiceFile.{SpiceFile}
use Rattle.spice_text.specs.declared.file.Subckt.{Subckt}
use Rattle.to_spice_rules.specs.Sets.{with_names}

-- the words among the ports and nodes of a subcircuit
abbrev pub words_in : Subckt → List (List ℕ)
words_in subckt = subckt.ports ++ flat_map (λ call. call.nodes) subckt.calls

-- of these words the different ones
abbrev pub different : List (List ℕ) → List (List ℕ)
different words = (with_names (record { up_to_case = true; names = [] }) words).names

-- a scalar inout port of this name
abbrev pub scalar_port : List ℕ → HPort
scalar_port word = record { name = word; range = None; dir = Inout; props = [] }

-- the number of the word among these
abbrev pub number_in : List (List ℕ) → List ℕ → ℕ
number_in words word = position_or_len (same_up_to_case word) words

-- the join of the net of a word to a node
abbrev pub join_to : List (List ℕ) → Node → List ℕ → Join
join_to words node word = record { a = Net (number_in words word); b = node }

-- the joins of the ports of these words, numbered from a number on
abbrev pub port_joins : List (List ℕ) → List (List ℕ) → List Join
port_joins words ports = map (λ port. join_to words (Port port.0 0) port.1) (enumerate_from 0 ports)

-- the joins of the nodes of the call of this number
abbrev pub call_joins : List (List ℕ) → (ℕ × Call) → List Join
call_joins words call = map (λ node. join_to words (Pin call.0 node.0 0) node.1) (enumerate_from 0 call.1.nodes)

-- the joins of a subcircuit: of each word's net to the port of that word, and to each pin at whose place it stands in a call
abbrev pub joins_in : Subckt → List Join
joins_in subckt = port_joins (different (words_in subckt)) subckt.ports ++ flat_map (call_joins (different (words_in subckt))) (enumerate_from 0 subckt.calls)

-- the number of the subcircuit of this name
abbrev pub subckt_named : List Subckt → List ℕ → ℕ
subckt_named subckts name = position_or_len (λ subckt. same_up_to_case name subckt.name) subckts

-- the instance of a call
abbrev pub instance_in : List Subckt → Call → HInst
instance_in subckts call = record { name = call.name; cell = subckt_named subckts call.cell; props = [] }

-- the net of a word
abbrev pub net_of_word : List ℕ → HNet
net_of_word word = record { name = word; props = [] }

-- the cell of a subcircuit
abbrev pub cell_in : List Subckt → Subckt → HCell
cell_in subckts subckt = record {
  name = subckt.name;
  ports = map scalar_port subckt.ports;
  instances = map (instance_in subckts) subckt.calls;
  nets = map net_of_word (different (words_in subckt));
  joins = joins_in subckt;
  props = [];
}

-- the design of a file: a cell for each subcircuit, in order, of which the last one is the top
abbrev pub spice_design : SpiceFile → Design
spice_design file = record {
  cells = map (cell_in file.cells) file.cells;
  top = length file.cells - 1;
  props = [];
  order = range_with_len 0 (length file.cells);
}
