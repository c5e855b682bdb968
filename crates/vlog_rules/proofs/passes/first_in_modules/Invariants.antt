use Rattle.std.proofs.Common.{◌≡◌, drop, flat_map}
use Rattle.vlog_design.specs.Rules.{first_of}
use Rattle.vlog_design.specs.Tables.{modules_of}
use Rattle.vlog_rules.proofs.passes.first_in_modules.Given as goal

abbrev pub invariant-loop-m : goal.invariant-loop-m
invariant-loop-m g l = first_of (flat_map (g.R.ModuleRule.refusals l.rule) (modules_of (drop l.m-index l.modules))) ≡ first_of (flat_map (g.R.ModuleRule.refusals l.rule) (modules_of l.modules))
