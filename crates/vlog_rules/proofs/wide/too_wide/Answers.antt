use Rattle.std.proofs.Common.{◌∷◌, [], ◌∙◌, None, Some, ap, sym}
use Rattle.nl_base.specs.declared.rule.Rule.TheVariants.{G12}
use Rattle.vlog_design.specs.Rules.{refused}
use Rattle.vlog_rules.proofs.WideLaws.{wide_first}
use Rattle.vlog_rules.proofs.wide.too_wide.Goals as goal

pub returns-in-None : goal.returns-in-None
returns-in-None c = sym (wide_first c.args.m.now c.args.table.now None c.requires c.in-None.ensures)

pub returns-in_ok-refuse-in-Some : goal.returns-in_ok-refuse-in-Some
returns-in_ok-refuse-in-Some c =
    let name = c.in-Some.name.now in
    ap Some (c.in_ok-refuse-in-Some.ensures ∙ ap (λ cell. refused G12 cell (name ∷ [])) c.bytes.ensures)
    ∙ sym (wide_first c.args.m.now c.args.table.now (Some name) c.requires c.in-Some.ensures)
