use Rattle.std.proofs.Common.{◌≡◌, List, length, take}
use Rattle.net_hier.specs.Paths.{Path}
use Rattle.flat_classes.specs.Ways.{ArePaths}
use Rattle.net_flatten_refusals.specs.PathDigests.{digests_of}
use Rattle.net_flatten_refusals.proofs.digests.digests_of.Given as goal

abbrev pub invariant-loop-spot : goal.invariant-loop-spot
invariant-loop-spot l = (length l.digests.items ≡ l.spot) × ((paths : List Path) → ArePaths l.hier.cells l.spots paths → l.digests.items ≡ take l.spot (digests_of paths))
