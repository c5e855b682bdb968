use Rattle.std.proofs.Common.{◌≡◌, ◌||◌, ℕ, List, drop}
use Rattle.vlog_design.specs.Names.{has_name}
use Rattle.vlog_design.specs.Tables.{names_of}
use Rattle.vlog_rules.proofs.lists.name_set.Given as goal

abbrev pub invariant-loop-name : goal.invariant-loop-name
invariant-loop-name l = (name : List ℕ) → (has_name l.set name || has_name (names_of (drop l.name-index l.names)) name) ≡ has_name (names_of l.names) name
