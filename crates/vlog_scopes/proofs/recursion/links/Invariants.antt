use Rattle.std.proofs.Common.{◌≡◌, ◌++◌, drop, flat_map}
use Rattle.vlog_design.specs.Names.{instance_statement}
use Rattle.vlog_design.specs.Rules.{statement_names}
use Rattle.vlog_scopes.specs.Instances.{links_in, links_of}
use Rattle.vlog_scopes.proofs.recursion.links.Given as goal

abbrev pub invariant-loop-item : goal.invariant-loop-item
invariant-loop-item l = links_of l.found.items ++ links_in l.names (flat_map statement_names (flat_map instance_statement (drop l.item-index l.fn.m.items))) ≡ links_in l.names (flat_map statement_names (flat_map instance_statement l.fn.m.items))
