use Rattle.std.proofs.Common.{◌≡◌, ◌++◌, drop, flat_map}
use Rattle.vlog_design.specs.Names.{instance_statement}
use Rattle.vlog_design.specs.Reach.{statement_modules}
use Rattle.vlog_reach.specs.Places.{places_in}
use Rattle.vlog_reach.proofs.reach.below.Given as goal

abbrev pub invariant-loop-item : goal.invariant-loop-item
invariant-loop-item l = l.numbers ++ places_in l.names (flat_map statement_modules (flat_map instance_statement (drop l.item-index l.fn.m.items))) ≡ places_in l.names (flat_map statement_modules (flat_map instance_statement l.fn.m.items))
