use Rattle.std.proofs.Common.{ap, flat_map, ◌∙◌}
use Rattle.vlog_design.specs.Design.{def_sets, module_cell}
use Rattle.vlog_design.specs.Names.{instance_statement}
use Rattle.vlog_ties.specs.Ties.{modules_in}
use Rattle.vlog_cells.specs.Instances.{instances_by, sets_for}
use Rattle.vlog_cells.proofs.InstanceLaws.{instances_are}
use Rattle.vlog_cells.proofs.PartLaws.{sets_kept}
use Rattle.vlog_cells.proofs.TyingLaws.{joins_tied, statements_kept}
use Rattle.vlog_cells.proofs.cell.pins_of.Goals as goal

pub returns : goal.returns
unfolding module_cell
returns c =
    let modules = modules_in c.args.scopes.now in
    let found = c.in_ok-found.found in
    let made = instances_by c.args.names.now found in
    record {
      joins = λ m table tying. c.in_ok-pins.ensures.joins ∙ joins_tied modules m _ _ table tying;
      instances = λ m declared tying.
          c.in_ok-pins.ensures.instances
          ∙ (ap (λ is. flat_map made (flat_map instance_statement is)) tying
          ∙ (ap (flat_map made) (statements_kept m.items)
          ∙ instances_are modules m c.args.names.now found c.requires.named (λ key. c.in_ok-found.ensures key ∙ ap (sets_for key) (ap def_sets declared ∙ sets_kept m))));
    }
