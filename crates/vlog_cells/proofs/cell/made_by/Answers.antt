use Rattle.std.proofs.Common.{ap, ◌∙◌}
use Rattle.vlog_design.specs.Design.{attr_props, module_cell}
use Rattle.vlog_values.specs.declared.module.Module.{Module}
use Rattle.vlog_cells.proofs.cell.made_by.Goals as goal

pub returns : goal.returns
unfolding module_cell
returns c = record {
  ports = c.in_ok-ports.ensures;
  instances = c.in_ok-pins.ensures.instances;
  joins = c.in_ok-pins.ensures.joins;
  nets = c.in_ok-nets.ensures;
  props = λ m declared. c.in_ok-props.ensures ∙ ap attr_props (c.items.ensures ∙ ap (λ (n : Module). n.attrs) declared);
}
