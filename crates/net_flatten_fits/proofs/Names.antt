-- The names of a flattened design are short, where those of the design are made of bytes.
use Rattle.std.proofs.Common.{ℕ, ◌+◌, ◌<◌, ◌≤◌, ◌^◌, List, [], ◌∷◌, ◌++◌, Option, Some, None, IfSome, map, sym, subst, length, length-append, arith}
use Rattle.std.specs.Prelude.{codes, decimal, nat_le}
use Rattle.std.specs.List.{AllByRecursion, range_with_len}
use Rattle.std.proofs.lemmas.Fmt.{IsAscii-decimal, length-decimal-le}
use Rattle.std.proofs.lemmas.List.FromFn.{length-map-range_with_len}
use Rattle.edif_design_laws.proofs.Lists.{all_places}
use Rattle.edif_values.specs.Proper.{AreBytes}
use Rattle.flat_classes.specs.Groups.{places_of}
use Rattle.flat_classes.specs.Terminals.{AreFlatClasses, FlatValue}
use Rattle.flat_numbers.specs.Spots.{IsSpotBelow, IsSpotOf}
use Rattle.flat_numbers.specs.declared.spots.Spot.{Spot}
use Rattle.flat_classes.specs.Ways.{ArePaths, path_at}
use Rattle.net_flatten.specs.Flattening.{IsFlattening}
use Rattle.net_flatten_cells.proofs.NetLaws.{groups_few}
use Rattle.net_flatten_cells.proofs.SizeLaws.{filtered_few}
use Rattle.net_flatten_fits.proofs.Instances.{instance_good}
use Rattle.net_flatten_fits.proofs.Lists.{all_made, all_with, at_or, item_at}
use Rattle.net_flatten_fits.specs.Named.{HaveByteNames, IsCellByBytes, IsInstanceByBytes, IsNamedByBytes, IsPortByBytes}
use Rattle.net_flatten_refusals.specs.Named as kept
use Rattle.net_flatten_refusals.proofs.ShortLaws.{short_design, short_names}
use Rattle.net_flatten_rules.specs.FlatDesign.{cell_or_none, stub, flat_cells, flat_top, inner, leaf_cells, leaf_instance, no_cell, numbered_net, props_of, wired}
use Rattle.net_flatten_rules.specs.Joined.{instance_at, joined, name_at, names_before}
use Rattle.net_hier.specs.Constants.{ConstantNames}
use Rattle.net_hier.specs.Design.{Design}
use Rattle.net_hier.specs.Paths.{Path}
use Rattle.net_hier.specs.declared.cells.HCell.{HCell}
use Rattle.net_hier.specs.declared.cells.HInst.{HInst}
use Rattle.net_hier.specs.declared.cells.HNet.{HNet}
use Rattle.net_hier.specs.declared.cells.HPort.{HPort}
use Rattle.net_hier.specs.declared.cells.HProp.{HProp}
use Rattle.net_values.specs.ShortNames.{HasShortNames, HaveShortNames, IsShort, IsShortCell}
use Rattle.vlog_design_laws.proofs.Lists.{all_append, all_below, all_map, all_such, ascii_bytes}

-- ---- joined names

before_bytes : (path : Path) → AllByRecursion AreBytes path → AreBytes (names_before path)
before_bytes [] h = tt
before_bytes (name ∷ outer) h = all_append (λ b. b < 256) (names_before outer) (name ++ codes "/") (before_bytes outer h.1) (all_append (λ b. b < 256) name (codes "/") h.0 (omega arith, tt))

joined_bytes : (path : Path) → AllByRecursion AreBytes path → AreBytes (joined path)
joined_bytes [] h = tt
joined_bytes (name ∷ outer) h = all_append (λ b. b < 256) (names_before outer) name (before_bytes outer h.1) h.0

module _ (cells : List HCell) (spots : List Spot) (named : AllByRecursion (λ (cell : HCell). AllByRecursion IsInstanceByBytes cell.instances) cells) where
  -- the names of a path are those of instances
  path_bytes : (path : Path) (number : ℕ) → IsSpotOf cells spots path number → AllByRecursion AreBytes path
  path_bytes [] number at = tt
  path_bytes (name ∷ outer) number at =
      let b : IsSpotBelow cells spots at.0 name number = at.2 in
      let instances : AllByRecursion IsInstanceByBytes b.cell.instances = item_at (λ (cell : HCell). AllByRecursion IsInstanceByBytes cell.instances) cells b.above.cell b.cell named b.is_cell in
      let instance : IsInstanceByBytes b.instance = item_at IsInstanceByBytes b.cell.instances b.spot.instance b.instance instances b.is_there in
      (subst AreBytes b.is_named instance.0, path_bytes outer at.0 at.1)

  name_bytes : (paths : List Path) → ArePaths cells spots paths → (leaf : ℕ) → AreBytes (name_at paths leaf)
  name_bytes paths are leaf =
      let each : AllByRecursion (AllByRecursion AreBytes) paths = all_places (AllByRecursion AreBytes) paths (λ number path there. path_bytes path number (are.are number path there)) in
      joined_bytes (path_at paths leaf) (at_or (AllByRecursion AreBytes) paths leaf [] tt each)

-- ---- the names of nets

abbrev IsShortNet : HNet → Type 0
IsShortNet net = IsShort net.name × HaveShortNames net.props

net_short : (number : ℕ) → number < 2 ^ 32 → IsShortNet (numbered_net number)
net_short number lt =
    let digits : length (decimal number) ≤ 10 = length-decimal-le 10 number (omega arith) (omega (arith, lt)) (omega (arith, lt)) in
    let long = length-append (codes "n") (decimal number) in (
      record {
        bytes = all_append (λ b. b < 256) (codes "n") (decimal number) (omega arith, tt) (ascii_bytes (decimal number) (IsAscii-decimal number (omega (arith, lt))));
        short = omega (arith, digits, long);
      },
      tt,
    )

-- a flattened design has fewer nets than 2^32
nets_few : (names : ConstantNames) (design : Design) (flat : FlatValue) → AreFlatClasses names design flat → length (wired flat) < 2 ^ 32
nets_few names design flat are =
    let f = filtered_few (λ members. nat_le 2 (length members)) (map (places_of flat.groups) (range_with_len 0 flat.count)) in
    let l = length-map-range_with_len (places_of flat.groups) 0 flat.count in
    let g = groups_few flat.groups flat.count (length flat.terminals) are.are_numbers in
    let s = are.are_numbers.few in
    omega (arith, f, l, g, s)

-- ---- cells

-- the names of a cell are made of bytes, and those of its nets are short
record IsReady (cell : HCell) : Type 0 where
  bytes : IsCellByBytes cell
  nets : AllByRecursion IsShortNet cell.nets

props_bytes : (o : Option HInst) → IfSome o IsInstanceByBytes → HaveByteNames (props_of o)
props_bytes None h = tt
props_bytes (Some instance) h = h.1

module _ (names : ConstantNames) (design : Design) (named : IsNamedByBytes design) (paths : List Path) (flat : FlatValue) (classes : AreFlatClasses names design flat) (are : ArePaths design.cells flat.spots paths) where
  cell_bytes : (number : ℕ) → IsCellByBytes (cell_or_none design.cells number)
  cell_bytes number = at_or IsCellByBytes design.cells number no_cell (record { name = tt; props = tt; ports = tt; instances = tt }) named.cells

  stub_ready : (number : ℕ) → IsReady (stub (cell_or_none design.cells number))
  stub_ready number = let h = cell_bytes number in record { bytes = record { name = h.name; props = h.props; ports = h.ports; instances = tt }; nets = tt }

  instances_bytes : AllByRecursion (λ (cell : HCell). AllByRecursion IsInstanceByBytes cell.instances) design.cells
  instances_bytes = all_such IsCellByBytes (λ (cell : HCell). AllByRecursion IsInstanceByBytes cell.instances) (λ cell h. h.instances) design.cells named.cells

  leaf_bytes : (leaf : ℕ) → IsInstanceByBytes (leaf_instance design.cells flat.spots paths (leaf_cells design.order flat.spots (inner flat.leaves)) leaf)
  leaf_bytes leaf = (
    name_bytes design.cells flat.spots instances_bytes paths are leaf,
    props_bytes (instance_at design.cells flat.spots leaf) (instance_good IsInstanceByBytes design.cells instances_bytes flat.spots leaf),
  )

  top_ready : IsReady (flat_top design paths flat)
  top_ready = let h = cell_bytes design.top in
      let few = nets_few names design flat classes in
      record {
        bytes = record {
          name = h.name;
          props = h.props;
          ports = h.ports;
          instances = all_made IsInstanceByBytes (leaf_instance design.cells flat.spots paths (leaf_cells design.order flat.spots (inner flat.leaves))) leaf_bytes (inner flat.leaves);
        };
        nets = all_map (λ number. number < 0 + length (wired flat)) IsShortNet numbered_net (λ number lt. net_short number (omega (arith, lt, few))) (range_with_len 0 (length (wired flat))) (all_below 0 (length (wired flat)));
      }

  cells_ready : AllByRecursion IsReady (flat_cells design paths flat)
  cells_ready = all_append IsReady (map (λ number. stub (cell_or_none design.cells number)) (leaf_cells design.order flat.spots (inner flat.leaves))) (flat_top design paths flat ∷ [])
      (all_made IsReady (λ number. stub (cell_or_none design.cells number)) stub_ready (leaf_cells design.order flat.spots (inner flat.leaves))) (top_ready, tt)

-- ---- short names

name_short : (name : List ℕ) → AreBytes name → kept.IsShort name → IsShort name
name_short name all short = record { bytes = all; short = omega (arith, short) }

props_short : (props : List HProp) → HaveByteNames props → kept.HaveShortNames props → HaveShortNames props
props_short props all short = all_with (λ (prop : HProp). AreBytes prop.name) (λ (prop : HProp). kept.IsShort prop.name) (λ (prop : HProp). IsShort prop.name) (λ prop h k. name_short prop.name h k) props all short

cell_short : (cell : HCell) → IsReady cell → kept.HasShortNames cell → IsShortCell cell
cell_short cell h k = record {
  name = name_short cell.name h.bytes.name k.name;
  props = props_short cell.props h.bytes.props k.props;
  ports = all_with IsPortByBytes kept.IsShortPort (λ (port : HPort). IsShort port.name × HaveShortNames port.props) (λ port a b. (name_short port.name a.0 b.name, props_short port.props a.1 b.props)) cell.ports h.bytes.ports k.ports;
  instances = all_with IsInstanceByBytes kept.IsShortInstance (λ (instance : HInst). IsShort instance.name × HaveShortNames instance.props)
      (λ instance a b. (name_short instance.name a.0 b.name, props_short instance.props a.1 b.props)) cell.instances h.bytes.instances k.instances;
  nets = h.nets;
}

pub flattened_short : (names : ConstantNames) (design flat : Design) → IsNamedByBytes design → IsFlattening names design flat → HasShortNames flat
flattened_short names design flat named is =
    let made = is.is_flattened in
    record {
      cells = subst (AllByRecursion IsShortCell) (sym made.same_cells)
          (all_with IsReady kept.HasShortNames IsShortCell cell_short (flat_cells design made.paths made.flat) (cells_ready names design named made.paths made.flat made.are_classes made.are_paths)
          (short_names design made.paths made.flat is.no_refusals));
      props = subst HaveShortNames (sym made.same_props) (props_short design.props named.props (short_design design made.paths made.flat is.no_refusals));
    }
