use Rattle.std.proofs.Common.{◌<◌, subst, sym, refl, rules}
use Rattle.edif_design.specs.CellRules.{port_ident}
use Rattle.edif_values.specs.Values.{IsPort}
use Rattle.edif_plans.specs.Summaries.{summary_for, summary_of}
use Rattle.edif_written.proofs.Lists.{all_push}
use Rattle.edif_values.specs.declared.port.Port.{Port}
use Rattle.edif_plans.specs.PortNames.{HasPlainText}
use Rattle.edif_plans.specs.Sound.{IsSoundPort}
use Rattle.edif_plans.proofs.Lists.{all_turn, item_turn, map_turn}
use Rattle.edif_parts.proofs.ports.ports_of.Goals as goal

pub loop-place-preserved : goal.loop-place-preserved
loop-place-preserved c = record {
  idents = item_turn port_ident c.args.idents.now c.loop-place.place _ c.index-idents-place.result c.index-idents-place.result _ _ c.in_ok-port.port _
      (subst (λ n. c.loop-place.place < n) (sym c.requires) c.loop-place-test.true) (search rules) c.loop-place.invariant.idents c.in_ok-push.ensures.items c.in_ok-port.ensures.ident refl;
  summaries = map_turn summary_of summary_for c.args.ports.now c.loop-place.place c.index-ports-place.result c.index-ports-place.result _ _ c.in_ok-port.port _ c.loop-place-test.true (search rules) c.loop-place.invariant.summaries c.in_ok-push.ensures.items c.in_ok-port.ensures.summary;
  sound = all_turn IsSoundPort IsPort c.args.ports.now c.loop-place.place c.index-ports-place.result c.index-ports-place.result _ _ c.in_ok-port.port c.loop-place-test.true (search rules) c.loop-place.invariant.sound c.in_ok-push.ensures.items c.in_ok-port.ensures.sound;
  texts = all_push (λ (port : Port). HasPlainText port.name) c.loop-place.made.items _ c.in_ok-port.port c.loop-place.invariant.texts c.in_ok-port.ensures.text c.in_ok-push.ensures.items;
}
