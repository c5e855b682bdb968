use Rattle.std.proofs.Common.{◌≡◌, ap, subst, sym, true, ◌∙◌}
use Rattle.std.specs.Prelude.{IfOk}
use Rattle.net_hier.specs.Valid.{Each}
use Rattle.vlog_shown.specs.Interfaces.{cells_shown, is_shown}
use Rattle.vlog_elab.specs.Ready.{CanBeCell}
use Rattle.vlog_ties.specs.Ties.{modules_in}
use Rattle.vlog_elab.proofs.cells.cells_of.Goals as goal

pub cells_made-requires-clause-fit : goal.cells_made-requires-clause-fit
cells_made-requires-clause-fit c = subst (λ ms. Each (λ m. is_shown ms m ≡ true → CanBeCell c.args.is_declared m) c.args.file.modules) (sym (ap modules_in c.deref.ensures.value ∙ c.in_ok-scopes.ensures)) c.requires.fit

pub returns : goal.returns
returns c = subst (λ ms. IfOk c.cells_made.result (λ cells. cells ≡ cells_shown ms c.args.file.modules)) (ap modules_in c.deref.ensures.value ∙ c.in_ok-scopes.ensures) c.cells_made.ensures
