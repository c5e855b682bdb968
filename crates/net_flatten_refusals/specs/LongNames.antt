-- The refusals of names that are too long, in parts.
use Rattle.std.specs.Prelude.{ℕ, ◌++◌, List, codes, map}
use Rattle.std.specs.List.{flat_map}
use Rattle.net_hier.specs.Design.{Design}
use Rattle.net_hier.specs.Paths.{Path}
use Rattle.net_hier.specs.declared.cells.HCell.{HCell}
use Rattle.flat_numbers.specs.declared.spots.Spot.{Spot}
use Rattle.net_flatten_rules.specs.FlatDesign.{cell_or_none, leaf_cells, props_of}
use Rattle.net_flatten_rules.specs.Joined.{instance_at, name_at}
use Rattle.net_flatten_rules.specs.Rules.{long_stub, long_in_design, long_object, refused}
use Rattle.net_flatten_rules.specs.declared.refusal.Broken.{Broken}
use Rattle.net_flatten_rules.specs.declared.refusal.FlattenRule.TheVariants.{F2}

-- the refusals of the objects of a cell of this name
abbrev pub refused_in : List ℕ → List (List (List ℕ)) → List Broken
refused_in cell objects = map (refused F2 cell) objects

-- those of a cell's own name, its properties and its ports
abbrev pub refused_stub : HCell → List Broken
refused_stub cell = refused_in cell.name (long_stub cell)

-- those of the cells of these numbers
abbrev pub refused_stubs : List HCell → List ℕ → List Broken
refused_stubs cells numbers = flat_map (λ number. refused_stub (cell_or_none cells number)) numbers

-- the joined name of a leaf and the names of the properties of its instance, where they are too long
unfoldable pub long_leaf : List HCell → List Spot → List Path → ℕ → List (List (List ℕ))
long_leaf cells spots paths leaf = long_object (codes "instance") (name_at paths leaf) (props_of (instance_at cells spots leaf))

-- the refusals of the instances of leaves in a cell of this name
abbrev pub refused_leaves : List HCell → List Spot → List Path → List ℕ → List ℕ → List Broken
refused_leaves cells spots paths cell leaves = flat_map (λ leaf. refused_in cell (long_leaf cells spots paths leaf)) leaves

-- those of the top, and of the instances of the leaves in it
abbrev pub refused_top : Design → List Spot → List Path → List ℕ → List Broken
refused_top design spots paths leaves = let top = cell_or_none design.cells design.top in refused_stub top ++ refused_leaves design.cells spots paths top.name leaves

-- those of all names of the flattened design
abbrev pub refused_names : Design → List Spot → List Path → List ℕ → List Broken
refused_names design spots paths leaves = refused_stubs design.cells (leaf_cells design.order spots leaves) ++ (refused_top design spots paths leaves ++ long_in_design design)
