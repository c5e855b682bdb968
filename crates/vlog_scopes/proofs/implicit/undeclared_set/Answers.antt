use Rattle.std.proofs.Common.{◌∙◌, ap}
use Rattle.vlog_design.specs.Names.{has_name, target_uses}
use Rattle.vlog_design.specs.Tables.{names_of}
use Rattle.vlog_design.specs.Uses.{uses_of}
use Rattle.vlog_scopes.specs.Implicit.{undeclared}
use Rattle.vlog_scopes.proofs.ImplicitLaws.{undeclared_has}
use Rattle.vlog_scopes.proofs.implicit.undeclared_set.Goals as goal

pub returns : goal.returns
returns c = λ name.
    c.in_ok-set.ensures name
    ∙ (ap (λ names. has_name names name) (ap names_of c.deref-2.ensures.value ∙ (c.in_ok-names.ensures ∙ ap (undeclared c.args.declared.now) (ap uses_of c.deref.ensures.value ∙ c.in_ok-uses.ensures)))
    ∙ undeclared_has c.args.declared.now (target_uses c.args.m.now) name)
