use Rattle.std.proofs.lemmas.Result.{err_from_is_err_and}
use Rattle.vlog_modules.proofs.Beginnings.{beginning_fails, directive_read, items_fail, module_read}
use Rattle.vlog_modules.proofs.file.read_piece.Goals as goal

pub returns-in_err-implicit-clause-reads : goal.returns-in_err-implicit-clause-reads
returns-in_err-implicit-clause-reads g c =
    let p = err_from_is_err_and c.from_residual.result c.from_residual.ensures.1 in
    rw (p.1, p.2) (beginning_fails c.args.implicit _ _ _ _ c.in_err-implicit.field-0.0 c.in_err-implicit.ensures.reads)

pub returns-in_err-items-in-Module-clause-reads : goal.returns-in_err-items-in-Module-clause-reads
returns-in_err-items-in-Module-clause-reads g c =
    let p = err_from_is_err_and c.from_residual-in_err-items-in-Module.result c.from_residual-in_err-items-in-Module.ensures.1 in
    rw (p.1, p.2) (items_fail c.args.implicit _ _ _ _ c.in-Module.heading (rw c.in-Module.is at c.in_ok-implicit.ensures.reads) _ _ c.in_err-items-in-Module.field-0.0 c.in_err-items-in-Module.ensures.reads)

pub returns-in-Implicit-clause-reads : goal.returns-in-Implicit-clause-reads
returns-in-Implicit-clause-reads g c = directive_read c.args.implicit _ _ _ _ c.in-Implicit.implicit (rw c.in-Implicit.is at c.in_ok-implicit.ensures.reads)

pub returns-in_ok-items-in-Module-clause-reads : goal.returns-in_ok-items-in-Module-clause-reads
returns-in_ok-items-in-Module-clause-reads g c =
    rw c.with_items.ensures (module_read c.args.implicit _ _ _ _ c.in-Module.heading (rw c.in-Module.is at c.in_ok-implicit.ensures.reads) _ _ c.in_ok-items-in-Module.items c.in_ok-items-in-Module.ensures.reads)
