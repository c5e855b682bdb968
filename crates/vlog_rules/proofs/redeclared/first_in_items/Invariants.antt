use Rattle.std.proofs.Common.{◌≡◌, drop, filter, flat_map}
use Rattle.vlog_design.specs.Names.{net_decl}
use Rattle.vlog_design.specs.Rules.{first_of}
use Rattle.vlog_rules.specs.Redeclared.{other_in}
use Rattle.vlog_rules.proofs.redeclared.first_in_items.Given as goal

abbrev pub invariant-loop-item : goal.invariant-loop-item
invariant-loop-item l = first_of (flat_map (λ decl. filter (other_in l.table decl.range) decl.names) (flat_map net_decl (drop l.item-index l.items))) ≡ first_of (flat_map (λ decl. filter (other_in l.table decl.range) decl.names) (flat_map net_decl l.items))
