use Rattle.std.proofs.Common.{◌∙◌, ap, sym}
use Rattle.std.specs.List.{list_any}
use Rattle.vlog_rules.specs.Defparams.{is_defparam}
use Rattle.vlog_rules.proofs.StatementLaws.{none_set}
use Rattle.vlog_rules.proofs.defparams.unknown_instance.Goals as goal

pub returns-then-not-has_defparams : goal.returns-then-not-has_defparams
returns-then-not-has_defparams c =
    none_set c.args.m.now (ap (list_any is_defparam) (sym c.items.ensures) ∙ sym c.if-not-has_defparams.ensures)
