use Rattle.std.proofs.lemmas.Result.{err_from_is_err_and}
use Rattle.vlog_format.proofs.PieceLaws.{beginning_failed, directive_made, items_failed, module_made}
use Rattle.vlog_format.proofs.format.format_piece.Goals as goal

pub returns-in_err-implicit : goal.returns-in_err-implicit
returns-in_err-implicit g c =
    let p = err_from_is_err_and c.from_residual.result c.from_residual.ensures.1 in
    rw (p.1, p.2) (beginning_failed c.args.made _ _ _ _ c.in_err-implicit.field-0.0 c.in_err-implicit.ensures.reads)

pub returns-in-Implicit : goal.returns-in-Implicit
returns-in-Implicit g c = directive_made c.args.made _ _ _ _ c.in-Implicit.implicit (rw c.in-Implicit.is at c.in_ok-implicit.ensures.reads)

pub returns-in_err-format_items-in-Module : goal.returns-in_err-format_items-in-Module
returns-in_err-format_items-in-Module g c =
    let p = err_from_is_err_and c.from_residual-in_err-format_items-in-Module.result c.from_residual-in_err-format_items-in-Module.ensures.1 in
    rw (p.1, p.2) (items_failed c.args.made _ _ _ _ c.in-Module.heading (rw c.in-Module.is at c.in_ok-implicit.ensures.reads) _ _ _ _ c.in_err-format_items-in-Module.field-0.0 c.in_err-format_items-in-Module.ensures)

pub returns-in_ok-format_items-in-Module : goal.returns-in_ok-format_items-in-Module
returns-in_ok-format_items-in-Module g c =
    module_made c.args.made _ _ _ _ c.in-Module.heading (rw c.in-Module.is at c.in_ok-implicit.ensures.reads) _ _ _ _ c.begin_module.ensures c.in_ok-format_items-in-Module.field-0 c.in_ok-format_items-in-Module.ensures
