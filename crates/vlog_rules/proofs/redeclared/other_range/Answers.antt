use Rattle.std.proofs.Common.{◌∷◌, [], ◌∙◌, None, Some, ap, sym}
use Rattle.nl_base.specs.declared.rule.Rule.TheVariants.{G15}
use Rattle.vlog_design.specs.Rules.{refused}
use Rattle.vlog_rules.proofs.PortLaws.{range_first}
use Rattle.vlog_rules.proofs.redeclared.other_range.Goals as goal

pub returns-in-None : goal.returns-in-None
returns-in-None c = sym (range_first c.args.m.now c.args.table.now _ None c.requires c.items.ensures c.in-None.ensures)

pub returns-in_ok-refuse-in-Some : goal.returns-in_ok-refuse-in-Some
returns-in_ok-refuse-in-Some c =
    let name = c.in-Some.name.now in
    ap Some (c.in_ok-refuse-in-Some.ensures ∙ ap (λ cell. refused G15 cell (name ∷ [])) c.bytes.ensures)
    ∙ sym (range_first c.args.m.now c.args.table.now _ (Some name) c.requires c.items.ensures c.in-Some.ensures)
