use Rattle.std.proofs.Common.{◌≤◌}
use Rattle.vlog_values.specs.Sizes.{module_size}
use Rattle.vlog_values.specs.Values.{IsModule}
use Rattle.vlog_ties.specs.Ties.{modules_in}
use Rattle.vlog_ties.proofs.Broken.{of_scope}
use Rattle.vlog_ties.proofs.SideLaws.{sides_begun, sides_done, sides_more}
use Rattle.vlog_ties.proofs.sides.sides_of.Goals as goal

pub sides_in_scope-requires-clause-valid : goal.sides_in_scope-requires-clause-valid
sides_in_scope-requires-clause-valid c = of_scope IsModule c.args.scopes.now c.loop-scope.scope-index c.scope-item.result c.scope-item.is c.loop-scope-test.true c.requires.valid

pub sides_in_scope-requires-clause-small : goal.sides_in_scope-requires-clause-small
sides_in_scope-requires-clause-small c = of_scope (λ m. module_size m ≤ 268435456) c.args.scopes.now c.loop-scope.scope-index c.scope-item.result c.scope-item.is c.loop-scope-test.true c.requires.small

pub loop-scope-init : goal.loop-scope-init
loop-scope-init c = sides_begun (modules_in c.args.scopes.now) c.args.scopes.now _ c.no_sides-sides.ensures.unequal c.no_sides-sides.ensures.loose c.no_sides-sides.ensures.most c.no_sides-sides.ensures.wrong

pub loop-scope-preserved : goal.loop-scope-preserved
loop-scope-preserved c =
    sides_more (modules_in c.args.scopes.now) c.args.scopes.now c.loop-scope.scope-index c.scope-item.result c.scope-item.is c.loop-scope-test.true c.loop-scope.sides c.in_ok-next.next c.joined-sides.result
    c.loop-scope.invariant c.in_ok-next.ensures c.joined-sides.ensures.unequal c.joined-sides.ensures.loose c.joined-sides.ensures.most c.joined-sides.ensures.wrong

pub returns : goal.returns
returns c = sides_done (modules_in c.args.scopes.now) c.args.scopes.now c.loop-scope.scope-index c.loop-scope.sides c.loop-scope-test.false c.loop-scope.invariant
