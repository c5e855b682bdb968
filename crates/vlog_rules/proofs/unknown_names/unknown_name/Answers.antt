use Rattle.std.proofs.Common.{◌∷◌, [], ◌∙◌, Some, ap, option_copied, option_map, sym, List, ℕ}
use Rattle.nl_base.specs.declared.rule.Rule.TheVariants.{G6}
use Rattle.vlog_design.specs.Rules.{refused}
use Rattle.vlog_design.specs.Uses.{uses_of}
use Rattle.vlog_rules.proofs.RuleLaws.{unknown_first}
use Rattle.vlog_rules.proofs.unknown_names.unknown_name.Goals as goal

pub returns-in-None : goal.returns-in-None
returns-in-None c =
    let first = unknown_first c.args.m.now c.args.table.now _ c.requires (ap uses_of c.deref.ensures.value ∙ c.in_ok-uses.ensures) in
    sym (first ∙ ap (option_map (λ (name : List ℕ). refused G6 c.args.m.now.name (name ∷ []))) (sym c.first_unknown.ensures ∙ ap option_copied c.in-None.is))

pub returns : goal.returns
returns c =
    let first = unknown_first c.args.m.now c.args.table.now _ c.requires (ap uses_of c.deref.ensures.value ∙ c.in_ok-uses.ensures) in
    ap Some (c.in_ok-refuse-in-Some.ensures ∙ ap (λ cell. refused G6 cell (c.in-Some.name.now ∷ [])) c.bytes.ensures)
    ∙ sym (first ∙ ap (option_map (λ (name : List ℕ). refused G6 c.args.m.now.name (name ∷ []))) (sym c.first_unknown.ensures ∙ ap option_copied c.in-Some.is))
