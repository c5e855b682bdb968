use Rattle.std.proofs.Common.{◌≡◌, take}
use Rattle.std.specs.List.{flat_map}
use Rattle.edif_design.specs.Parts.{numbered}
use Rattle.edif_rules.specs.Lists.{seen}
use Rattle.edif_rules.specs.Scopes.{lists_of}
use Rattle.edif_cells.specs.Values.{joins_of}
use Rattle.edif_cells.proofs.joins.joins_made.Given as goal

abbrev pub invariant-loop-number : goal.invariant-loop-number
invariant-loop-number l = l.made ≡ flat_map (λ net. joins_of (lists_of l.scope) net.0 net.1.joined) (numbered (seen (take l.number l.nets)))
