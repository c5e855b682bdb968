use Rattle.std.proofs.Common.{◌∙◌, ap, length, map}
use Rattle.std.proofs.lemmas.List.{length-map}
use Rattle.edif_design.specs.Parts.{instances, numbered, ports}
use Rattle.edif_design.specs.References.{file_cells}
use Rattle.edif_cells.specs.Values.{instance_at}
use Rattle.edif_cells.proofs.CellLaws.{cell_made}
use Rattle.edif_cells.proofs.cell.cell_of.Goals as goal

pub returns : goal.returns
returns c =
    cell_made c.args.numbers.now (file_cells c.args.tables.now) c.args.cell.now c.args.below.now _ (c.in_ok-name.ensures ∙ c.original.ensures) c.in_ok-ports.ensures
    (c.in_ok-instances.ensures ∙ ap (λ n. map (instance_at c.args.numbers.now c.args.below.now n) (numbered (instances c.args.cell.now))) (ap length c.requires.port_tables ∙ length-map (file_cells c.args.tables.now) ports))
    c.in_ok-nets.ensures c.in_ok-joins.ensures c.in_ok-props.ensures
