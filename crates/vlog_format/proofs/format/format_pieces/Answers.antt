use Rattle.std.proofs.Common.{refl, Ok, Err}
use Rattle.std.proofs.lemmas.Result.{err_from_is_err_and}
use Rattle.vlog_format.proofs.Rounds.{at_start, goes_first, look_fails, all_read, piece_failed, piece_made}
use Rattle.vlog_format.proofs.format.format_pieces.Goals as goal

pub loop-made-init : goal.loop-made-init
loop-made-init g c = (at_start, record { implicit = refl; text = c.new.ensures }, goes_first c.args.cursor.now (g.S.Source.supply c.args.source.now))

pub returns-in_err-at_piece : goal.returns-in_err-at_piece
returns-in_err-at_piece g c =
    let p = err_from_is_err_and c.from_residual.result c.from_residual.ensures.1 in
    let so_far = c.loop-made.invariant.0 in
    rw (p.1, p.2) (
      Err c.in_err-at_piece.field-0.0,
      look_fails so_far c.args.cursor.now c.loop-made.cursor c.at_piece.new.cursor (g.S.Source.supply c.args.source.now) (g.S.Source.supply c.loop-made.source) (g.S.Source.supply c.at_piece.new.source)
          c.loop-made.invariant.2 c.in_err-at_piece.field-0.0 c.in_err-at_piece.ensures,
      refl,
    )

pub returns-in_err-made : goal.returns-in_err-made
returns-in_err-made g c =
    let p = err_from_is_err_and c.from_residual-in_err-made.result c.from_residual-in_err-made.ensures.1 in
    let so_far = c.loop-made.invariant.0 in
    rw (p.1, p.2) (piece_failed so_far c.args.cursor.now c.loop-made.cursor c.at_piece.new.cursor (g.S.Source.supply c.args.source.now) (g.S.Source.supply c.loop-made.source) (g.S.Source.supply c.at_piece.new.source)
    c.loop-made.invariant.2 (rw c.if-branch.true at c.in_ok-at_piece.ensures) c.format_piece.new.cursor (g.S.Source.supply c.format_piece.new.source)
    c.loop-made.made c.loop-made.invariant.1.implicit c.in_err-made.field-0.0 c.in_err-made.ensures)

pub loop-made-preserved : goal.loop-made-preserved
loop-made-preserved g c =
    let so_far = c.loop-made.invariant.0 in
    piece_made so_far c.args.cursor.now c.loop-made.cursor c.at_piece.new.cursor (g.S.Source.supply c.args.source.now) (g.S.Source.supply c.loop-made.source) (g.S.Source.supply c.at_piece.new.source)
    c.loop-made.invariant.2 (rw c.if-branch.true at c.in_ok-at_piece.ensures) c.format_piece.new.cursor (g.S.Source.supply c.format_piece.new.source)
    c.loop-made.made c.in_ok-made.made c.loop-made.invariant.1 c.in_ok-made.ensures

pub returns : goal.returns
returns g c =
    let so_far = c.loop-made.invariant.0 in (
      Ok (record { modules = so_far.modules }),
      all_read so_far c.args.cursor.now c.loop-made.cursor c.at_piece.new.cursor (g.S.Source.supply c.args.source.now) (g.S.Source.supply c.loop-made.source) (g.S.Source.supply c.at_piece.new.source)
          c.loop-made.invariant.2 (record { modules = so_far.modules }) refl (rw c.if-branch.false at c.in_ok-at_piece.ensures),
      c.loop-made.invariant.1.text,
    )
