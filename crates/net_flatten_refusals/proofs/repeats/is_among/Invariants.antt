use Rattle.std.proofs.Common.{◌≡◌, List, bytes_eq, drop, map}
use Rattle.std.specs.List.{list_any}
use Rattle.net_hier.specs.Paths.{Path}
use Rattle.flat_classes.specs.Ways.{ArePaths}
use Rattle.net_flatten_rules.specs.Joined.{name_at}
use Rattle.net_flatten_refusals.proofs.repeats.is_among.Given as goal

abbrev pub invariant-loop-other : goal.invariant-loop-other
invariant-loop-other l = (paths : List Path) → ArePaths l.hier.cells l.spots paths →
    list_any (bytes_eq (name_at paths l.spot)) (map (name_at paths) (drop l.other-index l.others)) ≡ list_any (bytes_eq (name_at paths l.spot)) (map (name_at paths) l.others)
