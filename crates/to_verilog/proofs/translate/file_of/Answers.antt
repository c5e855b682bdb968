use Rattle.std.proofs.Common.{subst}
use Rattle.to_verilog.specs.Answers.{AreModules}
use Rattle.to_verilog.proofs.NoRefusal.{writable}
use Rattle.to_verilog.proofs.Whole.{all_modules, module_more, number_there, translated, value_is}
use Rattle.to_verilog.proofs.translate.file_of.Goals as goal

pub module_of-requires-clause-is_cell : goal.module_of-requires-clause-is_cell
module_of-requires-clause-is_cell c = number_there c.args.hier.now c.order-order.ensures.valid.valid c.order-order.result.now c.loop-number.number-index 0 c.order-order.ensures.order c.loop-number-test.true

pub module_of-requires-clause-writable : goal.module_of-requires-clause-writable
module_of-requires-clause-writable c = λ cell is. writable c.args.hier.now.cells c.args.hier.now.top c.args.hier.now.props c.args.params.now c.requires _ cell is

pub loop-number-preserved : goal.loop-number-preserved
loop-number-preserved c =
    module_more c.args.hier.now c.args.params.now c.order-order.result.now c.loop-number.number-index 0 c.loop-number.modules _ c.in_ok-module.module c.loop-number-test.true
    c.loop-number.invariant c.in_ok-push.ensures.added c.in_ok-module.ensures.written c.in_ok-module.ensures.plain

pub returns-clause-translated : goal.returns-clause-translated
returns-clause-translated c =
    translated c.args.hier.now c.args.params.now c.loop-number.modules c.order-order.ensures.valid c.requires
    (subst (λ l. AreModules c.args.hier.now c.args.params.now l c.loop-number.modules) c.order-order.ensures.order
    (all_modules c.args.hier.now c.args.params.now c.order-order.result.now c.loop-number.number-index c.loop-number.modules c.loop-number-test.false c.loop-number.invariant))

pub returns-clause-value : goal.returns-clause-value
returns-clause-value c = λ sound.
    value_is c.args.hier.now c.args.params.now c.loop-number.modules c.order-order.ensures.valid c.requires
    (subst (λ l. AreModules c.args.hier.now c.args.params.now l c.loop-number.modules) c.order-order.ensures.order
    (all_modules c.args.hier.now c.args.params.now c.order-order.result.now c.loop-number.number-index c.loop-number.modules c.loop-number-test.false c.loop-number.invariant)) sound
