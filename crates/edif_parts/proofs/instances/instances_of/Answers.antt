use Rattle.std.proofs.Common.{◌≡◌, ◌+◌, ◌<◌, ◌++◌, List, arith, ap, drop, length, map, subst, sym, ◌∙◌}
use Rattle.std.specs.List.{AllByRecursion}
use Rattle.net_hier.specs.Valid.{Each}
use Rattle.edif_written.specs.Sound.{IsShort}
use Rattle.edif_plans.specs.Summaries.{added_summary, instance_summary, instance_ident, own_summary}
use Rattle.edif_plans.specs.Plans.{constant_number}
use Rattle.edif_plans.specs.declared.added.Added.{Added}
use Rattle.edif_parts.proofs.InstanceLaws.{same_length}
use Rattle.edif_parts.proofs.instances.instances_of.Goals as goal

pub own_instances-requires-clause-idents : goal.own_instances-requires-clause-idents
own_instances-requires-clause-idents c = let e = ap length c.items-idents.ensures in omega (arith, c.requires.idents, e)

pub with_added-requires-clause-heads : goal.with_added-requires-clause-heads
with_added-requires-clause-heads c = subst (λ (l : List Added). Each (λ (one : Added). constant_number c.args.plan.now one.value < length c.args.plan.now.heads) l) (sym c.items-added.ensures) c.requires.constants

pub with_added-requires-clause-idents : goal.with_added-requires-clause-idents
with_added-requires-clause-idents c =
    ap (λ n. n + length c.items-added.result.now) (same_length instance_summary (own_summary c.args.plan.now) c.in_ok-first.first c.args.own.now c.in_ok-first.ensures.summaries)
    ∙ (ap (λ (l : List Added). length c.args.own.now + length l) c.items-added.ensures ∙ (c.requires.idents ∙ ap length (sym c.items-idents.ensures)))

pub with_added-requires-clause-named : goal.with_added-requires-clause-named
with_added-requires-clause-named c =
    subst (λ n. map instance_ident c.in_ok-first.first ++ drop n c.items-idents.result.now ≡ c.items-idents.result.now)
    (sym (same_length instance_summary (own_summary c.args.plan.now) c.in_ok-first.first c.args.own.now c.in_ok-first.ensures.summaries)) c.in_ok-first.ensures.idents

pub returns-clause-summaries : goal.returns-clause-summaries
returns-clause-summaries c = c.in_ok-made.ensures.summaries ∙ (λ j. c.in_ok-first.ensures.summaries j ++ map (added_summary c.args.plan.now) (c.items-added.ensures j))

pub returns-clause-sound : goal.returns-clause-sound
returns-clause-sound c = λ h k. c.in_ok-made.ensures.sound (c.in_ok-first.ensures.sound h) (subst (AllByRecursion (λ (one : Added). IsShort one.name)) (sym c.items-added.ensures) k)

pub returns-clause-no_spare_text : goal.returns-clause-no_spare_text
returns-clause-no_spare_text c = c.in_ok-made.ensures.no_spare_text c.in_ok-first.ensures.no_spare_text
