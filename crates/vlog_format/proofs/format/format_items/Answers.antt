use Rattle.std.proofs.Common.{refl, [], ◌∷◌, ◌++◌, Ok, Err}
use Rattle.std.proofs.lemmas.Result.{err_from_is_err_and}
use Rattle.vlog_format.proofs.Rounds.{goes_first_item, look_at_item_fails, end_fails, all_items_read, item_fails, goes_on_item}
use Rattle.vlog_format.proofs.format.format_items.Goals as goal

pub loop-cursor-init : goal.loop-cursor-init
loop-cursor-init g c = ([], (λ ms heading is. is), goes_first_item c.args.cursor.now (g.S.Source.supply c.args.source.now))

pub returns-in_err-at_item : goal.returns-in_err-at_item
returns-in_err-at_item g c =
    let p = err_from_is_err_and c.from_residual.result c.from_residual.ensures.1 in
    let so_far = c.loop-cursor.invariant.0 in
    rw (p.1, p.2) (
      Err c.in_err-at_item.field-0.0,
      look_at_item_fails so_far c.args.cursor.now c.loop-cursor.cursor c.at_item.new.cursor (g.S.Source.supply c.args.source.now) (g.S.Source.supply c.loop-cursor.source) (g.S.Source.supply c.at_item.new.source)
          c.loop-cursor.invariant.2 c.in_err-at_item.field-0.0 c.in_err-at_item.ensures,
      refl,
    )

pub returns-in_err-item : goal.returns-in_err-item
returns-in_err-item g c =
    let p = err_from_is_err_and c.from_residual-in_err-item.result c.from_residual-in_err-item.ensures.1 in
    let so_far = c.loop-cursor.invariant.0 in
    rw (p.1, p.2) (
      Err c.in_err-item.field-0.0,
      item_fails so_far c.args.cursor.now c.loop-cursor.cursor c.at_item.new.cursor (g.S.Source.supply c.args.source.now) (g.S.Source.supply c.loop-cursor.source) (g.S.Source.supply c.at_item.new.source)
          c.loop-cursor.invariant.2 c.read_item.new.cursor (g.S.Source.supply c.read_item.new.source) (rw c.if-branch.true at c.in_ok-at_item.ensures) c.in_err-item.field-0.0 c.in_err-item.ensures.reads,
      refl,
    )

pub loop-cursor-preserved : goal.loop-cursor-preserved
loop-cursor-preserved g c =
    let so_far = c.loop-cursor.invariant.0 in (
      so_far ++ c.in_ok-item.item ∷ [],
      (λ ms heading is. c.add_item.ensures ms heading so_far (c.loop-cursor.invariant.1 ms heading is)),
      goes_on_item so_far c.args.cursor.now c.loop-cursor.cursor c.at_item.new.cursor (g.S.Source.supply c.args.source.now) (g.S.Source.supply c.loop-cursor.source) (g.S.Source.supply c.at_item.new.source)
          c.loop-cursor.invariant.2 c.read_item.new.cursor (g.S.Source.supply c.read_item.new.source) (rw c.if-branch.true at c.in_ok-at_item.ensures) c.in_ok-item.item c.in_ok-item.ensures.reads,
    )

pub returns-in_err-keyword : goal.returns-in_err-keyword
returns-in_err-keyword g c =
    let p = err_from_is_err_and c.from_residual-in_err-keyword.result c.from_residual-in_err-keyword.ensures.1 in
    let so_far = c.loop-cursor.invariant.0 in
    rw (p.1, p.2) (
      Err c.in_err-keyword.field-0.0,
      end_fails so_far c.args.cursor.now c.loop-cursor.cursor c.at_item.new.cursor (g.S.Source.supply c.args.source.now) (g.S.Source.supply c.loop-cursor.source) (g.S.Source.supply c.at_item.new.source)
          c.loop-cursor.invariant.2 c.keyword.new.self (g.S.Source.supply c.keyword.new.source) (rw c.if-branch.false at c.in_ok-at_item.ensures) c.in_err-keyword.field-0.0 c.in_err-keyword.ensures,
      refl,
    )

pub returns : goal.returns
returns g c =
    let so_far = c.loop-cursor.invariant.0 in (
      Ok so_far,
      all_items_read so_far c.args.cursor.now c.loop-cursor.cursor c.at_item.new.cursor (g.S.Source.supply c.args.source.now) (g.S.Source.supply c.loop-cursor.source) (g.S.Source.supply c.at_item.new.source)
          c.loop-cursor.invariant.2 c.keyword.new.self (g.S.Source.supply c.keyword.new.source) (rw c.if-branch.false at c.in_ok-at_item.ensures) c.in_ok-keyword.ensures,
      (λ ms heading is. c.end.ensures ms heading so_far (c.loop-cursor.invariant.1 ms heading is)),
    )
