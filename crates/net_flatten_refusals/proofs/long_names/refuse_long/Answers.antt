use Rattle.std.proofs.Common.{ap, sym, ◌∙◌, Some, option_map}
use Rattle.net_flatten_rules.specs.Rules.{object_of, refused}
use Rattle.net_flatten_rules.specs.declared.refusal.FlattenRule.TheVariants.{F2}
use Rattle.net_flatten_refusals.proofs.LongLaws.{refused_first}
use Rattle.net_flatten_refusals.proofs.long_names.refuse_long.Goals as goal

pub returns-in-None : goal.returns-in-None
returns-in-None c = λ objects is. ap (option_map (λ long. refused F2 c.args.cell.now (object_of long))) (sym c.in-None.is) ∙ refused_first c.args.cell.now objects c.args.found is

pub returns-in_ok-broken-in-Some : goal.returns-in_ok-broken-in-Some
returns-in_ok-broken-in-Some c = λ objects is.
    ap Some c.in_ok-broken-in-Some.ensures
    ∙ (ap (option_map (λ long. refused F2 c.args.cell.now (object_of long))) (sym c.in-Some.is) ∙ refused_first c.args.cell.now objects c.args.found is)
