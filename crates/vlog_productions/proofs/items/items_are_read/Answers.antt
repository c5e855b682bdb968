use Rattle.vlog_productions.proofs.ConnectionTexts.{maybe_exprs, all_conns, all_insts, all_overrides, assignments}
use Rattle.vlog_productions.proofs.ItemTexts.{all_items, attributed_items}
use Rattle.vlog_productions.proofs.items.items_are_read.Goals as goal

pub returns-clause-expr : goal.returns-clause-expr
returns-clause-expr c = maybe_exprs

pub returns-clause-conns : goal.returns-clause-conns
returns-clause-conns c = all_conns

pub returns-clause-inst : goal.returns-clause-inst
returns-clause-inst c = all_insts

pub returns-clause-overrides : goal.returns-clause-overrides
returns-clause-overrides c = all_overrides

pub returns-clause-assignment : goal.returns-clause-assignment
returns-clause-assignment c = assignments

pub returns-clause-item : goal.returns-clause-item
returns-clause-item c = all_items

pub returns-clause-attributed : goal.returns-clause-attributed
returns-clause-attributed c = attributed_items
