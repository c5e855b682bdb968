use Rattle.std.proofs.Common.{◌+◌, ◌++◌, List, ap, length, map, subst, sym, ◌∙◌}
use Rattle.std.specs.List.{AllByRecursion}
use Rattle.net_hier.specs.Valid.{Each}
use Rattle.net_hier.specs.declared.cells.HInst.{HInst}
use Rattle.edif_plans.specs.Summaries.{added_summary, own_summary}
use Rattle.edif_plans.specs.Plans.{HasHead}
use Rattle.edif_plans.specs.Sound.{IsSoundInstance}
use Rattle.edif_making.proofs.contents.instances_made.Goals as goal

pub instances_of-requires-clause-heads : goal.instances_of-requires-clause-heads
instances_of-requires-clause-heads c = subst (Each (λ (i : HInst). HasHead c.args.plan.now i.cell)) (sym c.items.ensures) c.requires.heads

pub instances_of-requires-clause-idents : goal.instances_of-requires-clause-idents
instances_of-requires-clause-idents c = ap (λ (l : List HInst). length l + length c.args.instances.now.added) c.items.ensures ∙ c.requires.idents

pub returns : goal.returns
returns c = record {
  idents = c.in_ok-made.ensures.idents;
  summaries = c.in_ok-made.ensures.summaries ∙ ap (λ (l : List HInst). map (own_summary c.args.plan.now) l ++ map (added_summary c.args.plan.now) c.args.instances.now.added) c.items.ensures;
  no_spare_text = c.in_ok-made.ensures.no_spare_text;
  sound = λ h. c.in_ok-made.ensures.sound (subst (AllByRecursion IsSoundInstance) (sym c.items.ensures) h) c.requires.short;
}
