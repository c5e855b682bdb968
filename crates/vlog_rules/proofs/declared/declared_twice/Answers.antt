use Rattle.std.proofs.Common.{◌∷◌, [], ◌∙◌, Some, ap, option_copied, option_map, sym}
use Rattle.nl_base.specs.declared.rule.Rule.TheVariants.{G4}
use Rattle.vlog_design.specs.Rules.{refused}
use Rattle.vlog_rules.proofs.RuleLaws.{clash_first}
use Rattle.vlog_rules.proofs.declared.declared_twice.Goals as goal

pub returns-in-None : goal.returns-in-None
returns-in-None c = sym (clash_first c.args.m.now (option_copied c.in_ok-clash.clash) c.in_ok-clash.ensures ∙ ap (λ found. option_map (λ name. refused G4 c.args.m.now.name (name ∷ [])) (option_copied found)) c.in-None.is)

pub returns-in_ok-refuse-in-Some : goal.returns-in_ok-refuse-in-Some
returns-in_ok-refuse-in-Some c =
    ap Some (c.in_ok-refuse-in-Some.ensures ∙ ap (λ cell. refused G4 cell (c.in-Some.name.now ∷ [])) c.bytes.ensures)
    ∙ sym (clash_first c.args.m.now (option_copied c.in_ok-clash.clash) c.in_ok-clash.ensures ∙ ap (λ found. option_map (λ name. refused G4 c.args.m.now.name (name ∷ [])) (option_copied found)) c.in-Some.is)
