use Rattle.std.proofs.lemmas.Result.{err_from_is_err_and}
use Rattle.edif_library.proofs.Reading.{new_is_fresh}
use Rattle.edif_format.proofs.Exits.{never_made, file_not_made, end_fails, text_fails, text_is_made, taken_whole}
use Rattle.edif_format.proofs.file.format_edif.Goals as goal

pub returns-in_default : goal.returns-in_default
returns-in_default g c = never_made (g.S.Source.supply c.args.source.now)

pub returns-in_err-format_file : goal.returns-in_err-format_file
returns-in_err-format_file g c =
    let p = err_from_is_err_and c.from_residual.result c.from_residual.ensures.1 in
    rw (p.1, p.2) (file_not_made c.new-cursor.result (new_is_fresh _ _ c.in-Ok.ensures c.new-cursor.ensures) c.in_err-format_file.field-0.0 _ _ _ c.in_err-format_file.ensures)

pub returns-in_err-end_of_input : goal.returns-in_err-end_of_input
returns-in_err-end_of_input g c =
    let p = err_from_is_err_and c.from_residual-in_err-end_of_input.result c.from_residual-in_err-end_of_input.ensures.1 in
    rw (p.1, p.2) (end_fails c.new-cursor.result (new_is_fresh _ _ c.in-Ok.ensures c.new-cursor.ensures) _ _ _ _ _ c.in_err-end_of_input.field-0.0 c.in_ok-format_file.ensures c.in_err-end_of_input.ensures)

pub returns-in-Ok-finish : goal.returns-in-Ok-finish
returns-in-Ok-finish g c =
    text_is_made c.new-cursor.result (new_is_fresh _ _ c.in-Ok.ensures c.new-cursor.ensures) _ _ _ _ _ _
    (λ v lines. taken_whole _ _ _ _ _ _ c.new-sink.ensures c.new-output.ensures lines c.in-Ok-finish.ensures c.into_bytes.ensures) c.in_ok-format_file.ensures c.in_ok-end_of_input.ensures

pub returns : goal.returns
returns g c = text_fails c.new-cursor.result (new_is_fresh _ _ c.in-Ok.ensures c.new-cursor.ensures) _ _ _ _ _ c.in_ok-format_file.ensures c.in_ok-end_of_input.ensures
