use Rattle.std.proofs.Common.{◌∙◌, ◌-◌, ◌^◌}
use Rattle.vlog_elab.proofs.Answering.{ready_there, units_done, units_more}
use Rattle.vlog_elab.proofs.units.units_of.Goals as goal

pub units_of_module-requires-clause-ready : goal.units_of_module-requires-clause-ready
units_of_module-requires-clause-ready c = ready_there c.args.names.now c.args.scopes.now c.loop-scope.scope-index c.scope-item.result c.requires c.loop-scope-test.true c.scope-item.is

pub loop-scope-preserved : goal.loop-scope-preserved
loop-scope-preserved c =
    c.saturating_add-count.ensures
    ∙ units_more c.args.scopes.now c.loop-scope.scope-index c.scope-item.result (2 ^ 64 - 1) c.loop-scope.count c.in_ok-more.more c.loop-scope-test.true c.scope-item.is c.loop-scope.invariant c.in_ok-more.ensures

pub returns : goal.returns
returns c = units_done c.args.scopes.now c.loop-scope.scope-index c.loop-scope.count c.loop-scope-test.false c.loop-scope.invariant
