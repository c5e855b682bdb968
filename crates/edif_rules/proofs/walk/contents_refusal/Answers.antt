use Rattle.std.proofs.Common.{◌∙◌, ap, arith, refl}
use Rattle.std.specs.List.{list_any}
use Rattle.edif_design.specs.CellRules.{same_node}
use Rattle.edif_design.specs.References.{place_in}
use Rattle.edif_rules.specs.Walks.{is_renamed}
use Rattle.edif_rules.proofs.FirstIdents.{any_seen}
use Rattle.edif_rules.proofs.SizeLaws.{few_contents}
use Rattle.edif_rules.proofs.WalkTurns.{walks_whole}
use Rattle.edif_rules.proofs.walk.contents_refusal.Goals as goal

pub meet_cell-requires-clause-scope : goal.meet_cell-requires-clause-scope
meet_cell-requires-clause-scope c = c.requires.scope

pub meet_cell-requires-clause-few : goal.meet_cell-requires-clause-few
meet_cell-requires-clause-few c = omega (arith, c.requires.few, few_contents c.args.cell.now)

pub returns : goal.returns
returns c =
    walks_whole c.args.tables.now (place_in c.args.home c.args.cell.now) _ _ _ c.in_ok-found.ensures (record {
      instances_met = refl;
      renamed_is = c.any_renamed.ensures ∙ (any_seen is_renamed c.instances-instances.result.now ∙ ap (list_any is_renamed) (c.instances-instances.ensures ∙ c.requires.scope.instances_are));
      originals_met = λ is name. c.new.ensures name;
      nets_met = λ name. c.in_ok-with_room.ensures name;
      bits_met = λ node. ap (list_any (same_node node)) c.in_ok-empty.ensures;
    })
