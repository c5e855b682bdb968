-- Why a design is not taken apart.
use Rattle.std.specs.Prelude.{◌≡◌, ◌<◌}
use Rattle.net_hier.specs.Design.{Design}
use Rattle.flat_classes.specs.FlatSums.{flat_count, flat_limit}
use Rattle.flat_classes.specs.declared.flat.FlatFault.{FlatFault}
use Rattle.flat_classes.specs.declared.flat.FlatFault.TheVariants.{TooLarge, NoMemory}

-- the flat count is above the limit, and it is told; want of memory has no cause
abbrev pub IsFlatFault : Design → FlatFault → Type 0
IsFlatFault design (TooLarge count) = (count ≡ flat_count design.cells design.top) × (flat_limit < count)
IsFlatFault design NoMemory = Unit {0}
