use Rattle.std.proofs.Common.{Some, ap, sym, ◌∙◌}
use Rattle.vlog_rules.specs.declared.passes.ModuleScope.{ModuleScope}
use Rattle.vlog_ties.specs.Ties.{modules_in}
use Rattle.vlog_ties.proofs.Places.{no_scope_placed, scope_placed}
use Rattle.vlog_ties.proofs.ties.scope_named.Goals as goal

pub returns-in-None : goal.returns-in-None
returns-in-None c = no_scope_placed (modules_in c.args.scopes.now) c.args.name.now c.args.names.now c.requires (sym c.in-None.ensures)

pub returns-in-Some : goal.returns-in-Some
returns-in-Some c =
    let at = scope_placed c.args.scopes.now c.args.name.now c.in-Some.place c.args.names.now c.requires (sym c.in-Some.ensures) in
    at.found c.index-scopes-place.result ∙ ap (λ (scope : ModuleScope). Some scope.module.now) (sym c.index-scopes-place.is)
