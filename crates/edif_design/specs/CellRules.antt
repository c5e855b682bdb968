-- What the parts of a reached cell break: E2 to E12 of its ports, instances and nets, each part's refusals in file order.
use Rattle.std.specs.Prelude.{ℕ, ◌==◌, ◌&&◌, ◌||◌, Bool, true, false, not, cond, List, [], ◌∷◌, ◌++◌, map, get_or, Option, Some, None, is_some, option_map, codes, ℤ, pos, nat_abs, int_lt}
use Rattle.std.specs.Fmt.{signed_decimal}
use Rattle.std.specs.List.{filter_map, flat_map, list_any}
use Rattle.std.specs.Option.{option_and_then}
use Rattle.nl_base.specs.Ranges.{Bounds, index_at}
use Rattle.nl_base.specs.declared.rule.Refusal.{Refusal}
use Rattle.nl_base.specs.declared.rule.Rule.TheVariants.{E2, E3, E4, E5, E7, E8, E9, E10, E11, E12}
use Rattle.edif_values.specs.Names.{original, port_original}
use Rattle.edif_values.specs.declared.name.PortName.{PortName}
use Rattle.edif_values.specs.declared.name.PortName.TheVariants.{Single, Array}
use Rattle.edif_values.specs.declared.instance.Instance.{Instance}
use Rattle.edif_values.specs.declared.net.Net.{Net}
use Rattle.edif_values.specs.declared.net.PortRef.{PortRef}
use Rattle.edif_values.specs.declared.port.Port.{Port}
use Rattle.net_hier.specs.declared.nodes.Node.{Node}
use Rattle.net_hier.specs.declared.nodes.Node.TheVariants as nodes
use Rattle.edif_values.specs.declared.cell.Cell.{Cell}
use Rattle.edif_values.specs.declared.file.EdifFile.{EdifFile}
use Rattle.edif_values.specs.declared.view.ContentsItem.{ContentsItem}
use Rattle.edif_values.specs.declared.view.ContentsItem.TheVariants as contents_items
use Rattle.edif_lookup.specs.Candidates.{candidates, the_only}
use Rattle.edif_design.specs.Parts.{cell_contents, instance_in, instances, net_in, numbered, ports, views}
use Rattle.edif_design.specs.References.{CellPlace, LinkedCell, cell_candidates, cell_meant, library_candidates, library_meant, linked_cell}
use Rattle.edif_lookup.specs.Refusals.{broken, broken_reference, if_some, in_order, is_in}

-- ---- ports

-- the identifier by which references name a port
abbrev pub ident_of : PortName → List ℕ
ident_of (Single name) = name.ident
ident_of (Array name size) = name.ident

abbrev pub port_ident : Port → List ℕ
port_ident port = ident_of port.name

-- the original name of a port
abbrev pub port_name : Port → List ℕ
port_name port = (port_original port.name).0

-- the size of an array port, as it is written
abbrev pub size_of : PortName → Option ℤ
size_of (Single name) = None
size_of (Array name size) = Some size

-- a size outside 1 to 65,536
abbrev pub is_bad_size : Option ℤ → Bool
is_bad_size None = false
is_bad_size (Some size) = int_lt size (pos 1) || int_lt (pos 65536) size

-- E5 and E12 of a port: by whether an earlier port has its identifier, whether one has its original name, and by its size
abbrev pub port_refusals_by : List ℕ → Bool → Bool → List ℕ → List ℕ → Option ℤ → List Refusal
port_refusals_by cell ident_taken name_taken ident name size =
    broken ident_taken E5 cell (codes "port" ∷ (ident ∷ []))
    ++ broken (is_bad_size size) E12 cell (codes "size" ∷ (name ∷ []))
    ++ broken name_taken E12 cell (codes "port" ∷ (name ∷ []))

-- E5 and E12 of a port of the cell of this name, after these ports
abbrev pub port_refusals : List ℕ → List Port → Port → List Refusal
port_refusals cell earlier port =
    port_refusals_by cell (is_in (port_ident port) (map port_ident earlier)) (is_in (port_name port) (map port_name earlier)) (port_ident port) (port_name port) (size_of port.name)

-- ---- instances

-- E2, E3 and E6 of a cellRef and its libraryRef, which stand in this library and in the cell of this name
abbrev pub link_refusals : EdifFile → ℕ → List ℕ → Option (List ℕ) → List ℕ → List Refusal
link_refusals file home cell library spelling =
    if_some library (λ name. broken_reference (library_candidates file name) E2 cell (name ∷ []) name)
    ++ if_some (library_meant file home library) (λ number. broken_reference (cell_candidates file number spelling) E3 cell (spelling ∷ []) spelling)

-- whether a viewRef of this spelling means the view of the cell
abbrev pub means_view : Cell → List ℕ → Bool
means_view cell spelling = is_some (the_only (candidates (λ view. view.name.ident) (numbered (views cell)) spelling))

-- E4 of an instance whose cell is meant
abbrev pub view_refusals : List ℕ → List ℕ → Option Cell → List Refusal
view_refusals cell view meant = if_some meant (λ below. broken (not (means_view below view)) E4 cell (view ∷ []))

-- the cell that an instance in this library is of
abbrev pub inner_cell : EdifFile → ℕ → Instance → Option Cell
inner_cell file home instance = option_map (λ place. place.1.cell) (cell_meant file home instance)

-- E2 to E6 and E12 of an instance in this library and in the cell of this name, after these instances
abbrev pub instance_refusals : EdifFile → ℕ → List ℕ → List Instance → Instance → List Refusal
instance_refusals file home cell earlier instance =
    broken (is_in instance.name.ident (map (λ other. other.name.ident) earlier)) E5 cell (codes "instance" ∷ (instance.name.ident ∷ []))
    ++ link_refusals file home cell instance.library instance.cell
    ++ view_refusals cell instance.view (inner_cell file home instance)
    ++ broken (is_in (original instance.name) (map (λ other. original other.name) earlier)) E12 cell (codes "instance" ∷ (original instance.name ∷ []))

-- ---- what a reference to a port means

-- the candidates for an instanceRef and for a portRef
abbrev pub instance_candidates : Cell → List ℕ → List (ℕ × Instance)
instance_candidates cell = candidates (λ instance. instance.name.ident) (numbered (instances cell))

abbrev pub port_candidates : Cell → List ℕ → List (ℕ × Port)
port_candidates cell = candidates port_ident (numbered (ports cell))

-- the cell whose port a reference names, and the instance of it where the reference names one
abbrev pub Owner : Type 0
Owner = Option (ℕ × Instance) × Cell

-- the instance with the cell that it is of
abbrev pub owner_at : List (Option (ℕ × Cell)) → (ℕ × Instance) → Option Owner
owner_at below instance = option_map (λ inner. (Some instance, inner.1)) (get_or below instance.0 None)

-- the owner of the port that a reference names: the cell itself, or the instance that the instanceRef means. Where its cell is not meant there is none
abbrev pub owner_of : LinkedCell → Option (List ℕ) → Option Owner
owner_of linked None = Some (None, linked.cell)
owner_of linked (Some spelling) = option_and_then (owner_at linked.below) (the_only (instance_candidates linked.cell spelling))

-- the original name of the instance, where there is one
abbrev pub owner_names : Owner → List (List ℕ)
owner_names (None, cell) = []
owner_names (Some instance, cell) = original instance.1.name ∷ []

-- a member of a scalar port, or an index outside 0 to SIZE-1
abbrev pub is_no_member : Option ℤ → ℤ → Bool
is_no_member None index = true
is_no_member (Some size) index = int_lt index (pos 0) || not (int_lt index size)

-- a port of two or more bits
abbrev pub is_wide : Option ℤ → Bool
is_wide None = false
is_wide (Some size) = int_lt (pos 1) size

-- the bit that a reference without a member means: that of a port of one bit
abbrev pub only_bit : Option ℤ → Option ℕ
only_bit None = Some 0
only_bit (Some size) = cond (int_lt size (pos 1) || int_lt (pos 1) size) None (Some 0)

-- the bit of a port of this size that a reference with this member means, from the left: member 0 is the leftmost bit
abbrev pub bit_of : Option ℤ → Option ℤ → Option ℕ
bit_of size None = only_bit size
bit_of size (Some index) = cond (is_no_member size index) None (Some (nat_abs index))

-- the bit of the port of this number, of the cell itself or of the instance
abbrev pub node_of : Owner → ℕ → ℕ → Node
node_of (None, cell) port bit = nodes.Port port bit
node_of (Some instance, cell) port bit = nodes.Pin instance.0 port bit

-- the bit of a port of this owner that a reference with this member means
abbrev pub owner_bit : PortRef → Owner → Option Node
owner_bit ref owner =
    option_and_then (λ port. option_map (node_of owner port.0) (bit_of (size_of port.1.name) ref.member)) (the_only (port_candidates owner.1 ref.port))

-- the port bit or pin bit that a reference means
abbrev pub bit_meant : LinkedCell → PortRef → Option Node
bit_meant linked ref = option_and_then (owner_bit ref) (owner_of linked ref.instance)

-- the port bits and pin bits that some nets have
abbrev pub bits_of_nets : LinkedCell → List Net → List Node
bits_of_nets linked earlier = filter_map (bit_meant linked) (flat_map (λ net. net.joined) earlier)

-- ---- nets

-- whether two nodes are the same
abbrev pub same_node : Node → Node → Bool
same_node (nodes.Port port bit) (nodes.Port oport obit) = port == oport && bit == obit
same_node (nodes.Pin instance port bit) (nodes.Pin oinstance oport obit) = instance == oinstance && (port == oport && bit == obit)
same_node (nodes.Net net) (nodes.Net onet) = net == onet
same_node nodes.Zero nodes.Zero = true
same_node nodes.One nodes.One = true
same_node _ _ = false

-- the index of a bit in decimal, where the port has a range
abbrev pub index_names : Option Bounds → ℕ → List (List ℕ)
index_names None bit = []
index_names (Some range) bit = signed_decimal (index_at range bit) ∷ []

-- E9 and E10 of a reference with this member to a port of this size
abbrev pub member_refusals : List ℕ → List (List ℕ) → Option ℤ → Option ℤ → List Refusal
member_refusals cell names size None = broken (is_wide size) E10 cell names
member_refusals cell names size (Some index) = broken (is_no_member size index) E9 cell (names ++ signed_decimal index ∷ [])

-- E9, E10 and E11 of a reference to a port, where earlier nets have these bits
abbrev pub bit_refusals : List ℕ → List ℕ → List Node → Owner → (ℕ × Port) → Option ℤ → List Refusal
bit_refusals cell net taken owner port member =
    let named = port_original port.1.name in
    let names = net ∷ (owner_names owner ++ named.0 ∷ []) in
    member_refusals cell names (size_of port.1.name) member
    ++ if_some (bit_of (size_of port.1.name) member) (λ bit. broken (list_any (same_node (node_of owner port.0 bit)) taken) E11 cell (names ++ index_names named.1 bit))

-- E6 and E8 to E11 of a reference to a port of this owner
abbrev pub port_ref_refusals : List ℕ → List ℕ → List Node → PortRef → Owner → List Refusal
port_ref_refusals cell net taken ref owner =
    broken_reference (port_candidates owner.1 ref.port) E8 cell (net ∷ (owner_names owner ++ ref.port ∷ [])) ref.port
    ++ if_some (the_only (port_candidates owner.1 ref.port)) (λ port. bit_refusals cell net taken owner port ref.member)

-- E6 and E7 of an instanceRef
abbrev pub instance_ref_refusals : Cell → List ℕ → List ℕ → List Refusal
instance_ref_refusals cell net spelling = broken_reference (instance_candidates cell spelling) E7 (original cell.name) (net ∷ (spelling ∷ [])) spelling

-- E6 to E11 of a reference in the net of this name, where earlier nets have these bits. A port of an instance that is not meant, or whose cell is not meant, is not looked up
abbrev pub ref_refusals : LinkedCell → List ℕ → List Node → PortRef → List Refusal
ref_refusals linked net taken ref =
    if_some ref.instance (instance_ref_refusals linked.cell net)
    ++ if_some (owner_of linked ref.instance) (port_ref_refusals (original linked.cell.name) net taken ref)

-- E5 of a net after these nets, and E6 to E11 of what it joins
abbrev pub net_refusals : LinkedCell → List Net → Net → List Refusal
net_refusals linked earlier net =
    broken (is_in net.name.ident (map (λ other. other.name.ident) earlier)) E5 (original linked.cell.name) (codes "net" ∷ (net.name.ident ∷ []))
    ++ flat_map (ref_refusals linked (original net.name) (bits_of_nets linked earlier)) net.joined

-- ---- the cell

-- what a part of the contents breaks, after these parts
abbrev pub contents_refusals : EdifFile → CellPlace → List ContentsItem → ContentsItem → List Refusal
contents_refusals file place before (contents_items.Instance instance) = instance_refusals file place.library (original place.cell.name) (filter_map instance_in before) instance
contents_refusals file place before (contents_items.Net net) = net_refusals (linked_cell file place) (filter_map net_in before) net
contents_refusals file place before (contents_items.Note note) = []

-- what the parts of a cell break: its interface stands before its contents
unfoldable pub cell_refusals : EdifFile → CellPlace → List Refusal
cell_refusals file place =
    in_order (port_refusals (original place.cell.name)) (ports place.cell) ++ in_order (contents_refusals file place) (cell_contents place.cell)

-- no array port of the cell has a size outside 1 to 65,536
abbrev pub has_good_sizes : Cell → Bool
has_good_sizes cell = not (list_any (λ port. is_bad_size (size_of port.name)) (ports cell))
