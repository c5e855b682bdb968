use Rattle.std.proofs.Common.{◌∙◌, ap}
use Rattle.vlog_design.specs.Names.{has_name}
use Rattle.vlog_design.specs.Tables.{names_of}
use Rattle.vlog_rules.specs.Seen.{declarations_of}
use Rattle.vlog_scopes.specs.Implicit.{declared_names}
use Rattle.vlog_scopes.proofs.ImplicitLaws.{declared_has}
use Rattle.vlog_scopes.proofs.lists.declared_set.Goals as goal

pub returns : goal.returns
returns c = λ name.
    c.in_ok-set.ensures name
    ∙ (ap (λ names. has_name names name) (ap names_of c.deref-2.ensures.value ∙ (c.in_ok-names.ensures ∙ ap declared_names (ap declarations_of c.deref.ensures.value ∙ c.in_ok-declarations.ensures)))
    ∙ declared_has c.args.m.now name)
