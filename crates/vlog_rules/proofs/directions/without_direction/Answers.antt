use Rattle.std.proofs.Common.{◌∷◌, [], ◌∙◌, None, Some, ap, option_copied, sym}
use Rattle.nl_base.specs.declared.rule.Rule.TheVariants.{G5}
use Rattle.vlog_design.specs.Rules.{refused}
use Rattle.vlog_rules.proofs.StatementLaws.{direction_first}
use Rattle.vlog_rules.proofs.directions.without_direction.Goals as goal

pub returns-in-None : goal.returns-in-None
returns-in-None c = sym (direction_first c.args.m.now None (sym (ap option_copied c.in-None.is) ∙ c.in_ok-found.ensures))

pub returns-in_ok-refuse-in-Some : goal.returns-in_ok-refuse-in-Some
returns-in_ok-refuse-in-Some c =
    let name = c.in-Some.name.now in
    ap Some (c.in_ok-refuse-in-Some.ensures ∙ ap (λ cell. refused G5 cell (name ∷ [])) c.bytes.ensures)
    ∙ sym (direction_first c.args.m.now (Some name) (sym (ap option_copied c.in-Some.is) ∙ c.in_ok-found.ensures))
