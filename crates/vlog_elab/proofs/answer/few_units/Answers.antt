use Rattle.std.proofs.Common.{arith}
use Rattle.std.proofs.lemmas.Bool.Decides.{nat_tests}
use Rattle.vlog_design.specs.Tables.{modules_of}
use Rattle.vlog_elab.proofs.FewUnits.{few_shown, ready_once, ready_small}
use Rattle.vlog_elab.proofs.answer.few_units.Goals as goal

pub scopes_of-requires-clause-once : goal.scopes_of-requires-clause-once
scopes_of-requires-clause-once c = ready_once (modules_of c.args.modules.now) (modules_of c.args.modules.now) c.requires.ready.each

pub scopes_of-requires-clause-small : goal.scopes_of-requires-clause-small
scopes_of-requires-clause-small c = ready_small (modules_of c.args.modules.now) (modules_of c.args.modules.now) c.requires.ready.each

pub returns-then-saturating_add-le-UNIT_LIMIT : goal.returns-then-saturating_add-le-UNIT_LIMIT
returns-then-saturating_add-le-UNIT_LIMIT c =
    few_shown (modules_of c.args.modules.now) c.args.bits c.args.most c.requires.bits c.requires.most
    (let sum = c.saturating_add.ensures in let le = c.if-saturating_add-le-UNIT_LIMIT.true in grind (arith, nat_tests))
