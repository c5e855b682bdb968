use Rattle.std.proofs.Common.{◌∙◌}
use Rattle.vlog_design.specs.Design.{module_cell}
use Rattle.vlog_cells.proofs.cell.cell_by.Goals as goal

pub returns : goal.returns
unfolding module_cell
returns c =
    let made = c.in_ok-made.ensures in
    let cell = c.in_ok-cell.ensures in
    (λ j. record {
      name = (cell.name ∙ (c.in_ok-name.ensures ∙ c.bytes.ensures)) j;
      ports = (cell.ports ∙ made.ports) j;
      instances = (cell.instances ∙ made.instances) j;
      nets = (cell.nets ∙ made.nets) j;
      joins = (cell.joins ∙ made.joins) j;
      props = (cell.props ∙ made.props) j;
    })
