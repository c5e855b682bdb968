use Rattle.std.proofs.Common.{◌≡◌, ◌++◌, take}
use Rattle.edif_rules.specs.Scopes.{lists_of}
use Rattle.edif_cells.specs.Values.{joins_of}
use Rattle.edif_cells.proofs.joins.push_joins.Given as goal

abbrev pub invariant-loop-reference : goal.invariant-loop-reference
invariant-loop-reference l = l.joins ≡ l.initial.joins ++ joins_of (lists_of l.scope) l.net (take l.reference-index l.joined)
