use Rattle.std.proofs.Common.{sym, ◌∙◌}
use Rattle.vlog_design.specs.Names.{item_targets, uses}
use Rattle.vlog_rules.proofs.UseLaws.{any_done, any_here}
use Rattle.vlog_scopes.specs.Implicit.{is_unknown}
use Rattle.vlog_scopes.proofs.known.has_unknown.Goals as goal

pub returns-then-unknown : goal.returns-then-unknown
returns-then-unknown c =
    any_here (is_unknown c.args.table.now) uses item_targets c.args.items.now c.loop-item.item-index c.item-item.result c.item-item.is c.loop-item-test.true (sym c.if-unknown.true ∙ c.in_ok-unknown.ensures) ∙ c.loop-item.invariant

pub returns : goal.returns
returns c = any_done (is_unknown c.args.table.now) uses item_targets c.args.items.now c.loop-item.item-index c.loop-item-test.false ∙ c.loop-item.invariant
