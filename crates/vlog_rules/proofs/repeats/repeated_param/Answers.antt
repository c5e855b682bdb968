use Rattle.std.proofs.Common.{◌≡◌, arith, length, map, sym}
use Rattle.std.proofs.lemmas.List.{length-map}
use Rattle.vlog_values.specs.declared.declaration.ParamSet.{ParamSet}
use Rattle.vlog_rules.proofs.Clashes.{alone}
use Rattle.vlog_rules.proofs.repeats.repeated_param.Goals as goal

pub returns-then-sets-lt2 : goal.returns-then-sets-lt2
returns-then-sets-lt2 c =
    let long : length (map (λ (set : ParamSet). set.name) c.args.sets.now) ≡ length c.args.sets.now = length-map c.args.sets.now _ in
    sym (alone (map (λ (set : ParamSet). set.name) c.args.sets.now) (omega (arith, long, c.if-sets-lt2.true)))
