use Rattle.std.proofs.Common.{◌∙◌, ap, subst, sym}
use Rattle.vlog_design.specs.Tables.{names_of}
use Rattle.vlog_scopes.specs.Distinct.{Distinct}
use Rattle.vlog_scopes.proofs.Declarations.{ports_distinct}
use Rattle.vlog_scopes.proofs.lists.port_set.Goals as goal

pub distinct-requires : goal.distinct-requires
distinct-requires c = subst Distinct (sym (ap names_of c.deref.ensures.value ∙ c.in_ok-names.ensures)) (ports_distinct c.args.m.now c.requires)

pub returns : goal.returns
returns c = c.in_ok-set.ensures ∙ (ap names_of c.deref.ensures.value ∙ c.in_ok-names.ensures)
