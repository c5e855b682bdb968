use Rattle.std.proofs.Common.{Some, ap, option_map, ◌∙◌}
use Rattle.vlog_design.specs.Rules.{refused}
use Rattle.vlog_ties.specs.Ties.{Tied, rule_number, tied, tied_names}
use Rattle.vlog_ties.proofs.rules.first_refusal.Goals as goal

pub returns-in-None : goal.returns-in-None
returns-in-None c = ap (option_map (λ (t : Tied). refused (rule_number c.args.rule) c.args.scope.now.module.now.name (tied_names t))) c.in-None.ensures

pub returns-in_ok-refuse_tie-in-Some : goal.returns-in_ok-refuse_tie-in-Some
returns-in_ok-refuse_tie-in-Some c =
    let t = tied c.in-Some.tie in
    let names = ap (λ n. refused n c.bytes-cell.result.now (tied_names t)) c.rule_number.ensures ∙ ap (λ cell. refused (rule_number c.args.rule) cell (tied_names t)) c.bytes-cell.ensures in
    ap Some (c.in_ok-refuse_tie-in-Some.ensures ∙ names)
    ∙ ap (option_map (λ (x : Tied). refused (rule_number c.args.rule) c.args.scope.now.module.now.name (tied_names x))) c.in-Some.ensures
