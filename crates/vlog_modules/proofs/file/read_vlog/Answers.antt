use Rattle.std.proofs.lemmas.Result.{err_from_is_err_and}
use Rattle.vlog_modules.proofs.Reading.{new_is_fresh, no_memory_first, file_fails, ending_fails, file_is_read, file_within}
use Rattle.vlog_modules.proofs.file.read_vlog.Goals as goal

pub returns-in_default-clause-reads : goal.returns-in_default-clause-reads
returns-in_default-clause-reads g c = no_memory_first _

pub returns-in_err-file-clause-reads : goal.returns-in_err-file-clause-reads
returns-in_err-file-clause-reads g c =
    let p = err_from_is_err_and c.from_residual.result c.from_residual.ensures.1 in
    rw (p.1, p.2) (file_fails c.new-cursor.result (new_is_fresh _ _ c.in-Ok.ensures c.new-cursor.ensures) _ _ _ _ c.in_err-file.ensures.reads)

pub returns-in_err-end_of_input-clause-reads : goal.returns-in_err-end_of_input-clause-reads
returns-in_err-end_of_input-clause-reads g c =
    let p = err_from_is_err_and c.from_residual-in_err-end_of_input.result c.from_residual-in_err-end_of_input.ensures.1 in
    rw (p.1, p.2) (ending_fails c.new-cursor.result (new_is_fresh _ _ c.in-Ok.ensures c.new-cursor.ensures) _ _ _ _ _ _ _ c.in_ok-file.ensures.reads c.in_err-end_of_input.ensures)

pub returns-clause-reads : goal.returns-clause-reads
returns-clause-reads g c = file_is_read c.new-cursor.result (new_is_fresh _ _ c.in-Ok.ensures c.new-cursor.ensures) _ _ _ _ _ _ c.in_ok-file.ensures.reads c.in_ok-end_of_input.ensures

pub returns-clause-value : goal.returns-clause-value
returns-clause-value g c = c.in_ok-file.ensures.value

pub returns-clause-size : goal.returns-clause-size
returns-clause-size g c = file_within c.new-cursor.result (new_is_fresh _ _ c.in-Ok.ensures c.new-cursor.ensures) _ c.in_ok-file.ensures.size
