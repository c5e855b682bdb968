-- The joined names of paths.
use Rattle.std.specs.Prelude.{ℕ, List, [], ◌∷◌, ◌++◌, codes, slice_get, Option}
use Rattle.std.specs.Option.{option_and_then}
use Rattle.net_hier.specs.Paths.{Path}
use Rattle.net_hier.specs.declared.cells.HCell.{HCell}
use Rattle.net_hier.specs.declared.cells.HInst.{HInst}
use Rattle.flat_numbers.specs.declared.spots.Spot.{Spot}
use Rattle.flat_classes.specs.Ways.{path_at}
use Rattle.flat_classes.specs.Ways.{instance_of}

-- the names of a path, the outermost first, each with `/` behind it
abbrev pub names_before : Path → List ℕ
names_before [] = []
names_before (name ∷ outer) = names_before outer ++ (name ++ codes "/")

-- the names of a path, the outermost first, with `/` between them
abbrev pub joined : Path → List ℕ
joined [] = []
joined (name ∷ outer) = names_before outer ++ name

-- the joined name of the spot of this number
abbrev pub name_at : List Path → ℕ → List ℕ
name_at paths number = joined (path_at paths number)

-- the instance that a spot other than the top's is
abbrev pub instance_at : List HCell → List Spot → ℕ → Option HInst
instance_at cells spots number = option_and_then (instance_of cells spots) (slice_get spots number)
