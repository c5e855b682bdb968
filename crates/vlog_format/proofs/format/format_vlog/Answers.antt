use Rattle.std.proofs.lemmas.Result.{err_from_is_err_and}
use Rattle.vlog_modules.proofs.Reading.{new_is_fresh}
use Rattle.vlog_format.proofs.Exits.{never_made, pieces_fail, end_fails, text_fails, text_is_made}
use Rattle.vlog_format.proofs.format.format_vlog.Goals as goal

pub returns-in_default : goal.returns-in_default
returns-in_default g c = never_made (g.S.Source.supply c.args.source.now)

pub returns-in_err-text : goal.returns-in_err-text
returns-in_err-text g c =
    let p = err_from_is_err_and c.from_residual.result c.from_residual.ensures.1 in
    rw (p.1, p.2) (pieces_fail c.new-cursor.result (new_is_fresh _ _ c.in-Ok.ensures c.new-cursor.ensures) c.in_err-text.field-0.0 c.format_pieces.new.cursor (g.S.Source.supply c.args.source.now) (g.S.Source.supply c.format_pieces.new.source) c.in_err-text.ensures)

pub returns-in_err-end_of_input : goal.returns-in_err-end_of_input
returns-in_err-end_of_input g c =
    let p = err_from_is_err_and c.from_residual-in_err-end_of_input.result c.from_residual-in_err-end_of_input.ensures.1 in
    rw (p.1, p.2) (end_fails c.new-cursor.result (new_is_fresh _ _ c.in-Ok.ensures c.new-cursor.ensures) c.in_ok-text.text c.in_err-end_of_input.field-0.0 c.format_pieces.new.cursor c.end_of_input.new.self
    (g.S.Source.supply c.args.source.now) (g.S.Source.supply c.format_pieces.new.source) (g.S.Source.supply c.end_of_input.new.source) c.in_ok-text.ensures c.in_err-end_of_input.ensures)

pub returns-in-Ok-finish : goal.returns-in-Ok-finish
returns-in-Ok-finish g c =
    text_is_made c.new-cursor.result (new_is_fresh _ _ c.in-Ok.ensures c.new-cursor.ensures) c.in_ok-text.text c.format_pieces.new.cursor c.end_of_input.new.self
    (g.S.Source.supply c.args.source.now) (g.S.Source.supply c.format_pieces.new.source) (g.S.Source.supply c.end_of_input.new.source) c.in-Ok-finish.bytes c.in-Ok-finish.ensures c.in_ok-text.ensures c.in_ok-end_of_input.ensures

pub returns : goal.returns
returns g c =
    text_fails c.new-cursor.result (new_is_fresh _ _ c.in-Ok.ensures c.new-cursor.ensures) c.in_ok-text.text c.format_pieces.new.cursor c.end_of_input.new.self
    (g.S.Source.supply c.args.source.now) (g.S.Source.supply c.format_pieces.new.source) (g.S.Source.supply c.end_of_input.new.source) c.in_ok-text.ensures c.in_ok-end_of_input.ensures
