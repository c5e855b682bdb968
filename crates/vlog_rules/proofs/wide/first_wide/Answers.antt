use Rattle.std.proofs.Common.{◌∙◌, ◌<◌, ap, option_map, subst, sym}
use Rattle.vlog_design.specs.Names.{Signal}
use Rattle.vlog_rules.proofs.WideLaws.{narrow_at, wide_at}
use Rattle.vlog_rules.proofs.wide.first_wide.Goals as goal

pub returns-in-Some : goal.returns-in-Some
returns-in-Some c = sym (ap (option_map (λ (signal : Signal). signal.name)) (sym c.loop-number.invariant) ∙ wide_at c.args.table.now c.loop-number.number c.in-Some.name.now c.in-Some.ensures)

pub loop-number-preserved : goal.loop-number-preserved
loop-number-preserved c =
    let within = subst (λ n. c.loop-number.number < n) c.len-number-end.ensures c.loop-number-test.true in
    sym (narrow_at c.args.table.now c.loop-number.number within c.in_default.ensures) ∙ c.loop-number.invariant
