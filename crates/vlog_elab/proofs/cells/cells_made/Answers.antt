use Rattle.std.proofs.Common.{ap, length, sym, ◌∙◌}
use Rattle.std.proofs.lemmas.Iterator.Adapters.{YieldsList-from_vec}
use Rattle.std.proofs.lemmas.Iterator.Consumers.{YieldsList-end, YieldsList-turn}
use Rattle.std.proofs.lemmas.List.{map-id}
use Rattle.vlog_shown.specs.Interfaces.{cell_shown, cells_shown}
use Rattle.vlog_ties.specs.Ties.{modules_in}
use Rattle.vlog_elab.proofs.Making.{flat_more, taken_there}
use Rattle.vlog_elab.proofs.cells.cells_made.Goals as goal

pub push_cell-requires-clause-fits : goal.push_cell-requires-clause-fits
push_cell-requires-clause-fits c =
    let source = YieldsList-from_vec c.args.modules (c.into_iter-m-iterator.ensures.into_iter_gives.0 ∙ c.into_vec-m-items.ensures)
    (c.into_iter-m-iterator.ensures.into_iter_gives.1 ∙ (c.into_vec-m-items.result.ok.0 ∙ ap length c.into_vec-m-items.ensures)) in
    let turn = YieldsList-turn source c.loop-m.yielded _ c.loop-m.yielded_by _ c.next.new.self c.in-Some.m c.in-Some.is c.next.ensures.steps in
    c.requires.fit (length c.loop-m.yielded) c.in-Some.m (taken_there c.args.modules (length c.loop-m.yielded) c.in-Some.m turn)

pub loop-m-preserved : goal.loop-m-preserved
loop-m-preserved c = flat_more (cell_shown (modules_in c.args.scopes.now)) c.loop-m.yielded c.in-Some.m c.loop-m.cells c.push_cell.new.cells c.loop-m.invariant c.in_ok-push_cell.ensures.added

pub returns : goal.returns
returns c =
    let source = YieldsList-from_vec c.args.modules (c.into_iter-m-iterator.ensures.into_iter_gives.0 ∙ c.into_vec-m-items.ensures)
    (c.into_iter-m-iterator.ensures.into_iter_gives.1 ∙ (c.into_vec-m-items.result.ok.0 ∙ ap length c.into_vec-m-items.ensures)) in
    let end = YieldsList-end source c.loop-m.yielded _ c.loop-m.yielded_by _ c.next.new.self c.in-None.is c.next.ensures.steps in
    c.loop-m.invariant ∙ ap (cells_shown (modules_in c.args.scopes.now)) (sym (map-id c.loop-m.yielded) ∙ end.0)
