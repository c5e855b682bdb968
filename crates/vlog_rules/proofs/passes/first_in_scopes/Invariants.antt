use Rattle.std.proofs.Common.{◌≡◌, drop, flat_map}
use Rattle.vlog_design.specs.Rules.{first_of}
use Rattle.vlog_rules.proofs.passes.first_in_scopes.Given as goal

abbrev pub invariant-loop-scope : goal.invariant-loop-scope
invariant-loop-scope g l = first_of (flat_map (λ scope. g.R.ScopeRule.refusals l.rule scope.module.now) (drop l.scope-index l.scopes)) ≡ first_of (flat_map (λ scope. g.R.ScopeRule.refusals l.rule scope.module.now) l.scopes)
