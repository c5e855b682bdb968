use Rattle.std.proofs.Common.{Err, refl}
use Rattle.std.proofs.lemmas.Result.{err_from_is_err_and}
use Rattle.edif_format.proofs.Steps.{begin_fails, name_fails, header_fails, file_put}
use Rattle.edif_format.proofs.file.format_file.Goals as goal

pub returns-in_err-begin : goal.returns-in_err-begin
returns-in_err-begin g c =
    let p = err_from_is_err_and c.from_residual.result c.from_residual.ensures.1 in
    rw (p.1, p.2) (Err c.in_err-begin.field-0.0, begin_fails _ _ refl c.in_err-begin.ensures.reads, refl)

pub returns-in_err-name : goal.returns-in_err-name
returns-in_err-name g c =
    let p = err_from_is_err_and c.from_residual-in_err-name.result c.from_residual-in_err-name.ensures.1 in
    rw (p.1, p.2) (Err c.in_err-name.field-0.0, name_fails _ _ _ refl c.in_ok-begin.ensures.reads c.in_err-name.ensures.reads, refl)

pub returns-in_err-header : goal.returns-in_err-header
returns-in_err-header g c =
    let p = err_from_is_err_and c.from_residual-in_err-header.result c.from_residual-in_err-header.ensures.1 in
    rw (p.1, p.2) (Err c.in_err-header.field-0.0, header_fails _ _ _ refl c.in_ok-begin.ensures.reads c.in_ok-name.ensures.reads _ c.in_err-header.ensures, refl)

pub returns : goal.returns
returns g c = file_put _ _ _ refl c.in_ok-begin.ensures.reads c.in_ok-name.ensures.reads c.in_ok-header.ensures _ c.format_body.ensures
