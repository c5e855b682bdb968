use Rattle.std.proofs.Common.{◌≡◌, drop, flat_map}
use Rattle.vlog_design.specs.Names.{instance_statement}
use Rattle.vlog_design.specs.Rules.{first_of}
use Rattle.vlog_rules.proofs.statements.first_in_items.Given as goal

abbrev pub invariant-loop-item : goal.invariant-loop-item
invariant-loop-item g l = first_of (flat_map (g.R.StatementRule.objects l.rule) (flat_map instance_statement (drop l.item-index l.items))) ≡ first_of (flat_map (g.R.StatementRule.objects l.rule) (flat_map instance_statement l.items))
