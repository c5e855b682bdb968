use Rattle.std.proofs.Common.{◌∙◌, ap, subst, sym}
use Rattle.vlog_design.specs.Tables.{names_of}
use Rattle.vlog_scopes.specs.Distinct.{Distinct, module_names}
use Rattle.vlog_checked.proofs.TableLaws.{differ_in}
use Rattle.vlog_checked.proofs.modules.file_names.Goals as goal

pub distinct-requires : goal.distinct-requires
distinct-requires c = subst Distinct (sym (ap names_of c.deref.ensures.value ∙ (c.in_ok-names.ensures ∙ ap module_names c.items.ensures))) (differ_in c.args.file.now c.requires)
