use Rattle.std.proofs.Common.{◌≡◌, ◌∙◌, ap, false, map, subst, sym}
use Rattle.std.specs.List.{list_any}
use Rattle.edif_design.specs.Design.{port_value}
use Rattle.edif_rules.specs.Lists.{seen}
use Rattle.edif_cells.specs.Values.{is_bad_port}
use Rattle.edif_cells.proofs.GoodSizes.{good_own}
use Rattle.edif_cells.proofs.cell.cell_ports.Goals as goal

pub ports_made-requires : goal.ports_made-requires
ports_made-requires c = subst (λ ps. list_any is_bad_port ps ≡ false) (sym (ap seen c.as_slice.ensures.value ∙ c.in_ok-ports.ensures)) (good_own c.args.cell.now c.requires)

pub returns : goal.returns
returns c = c.in_ok-made.ensures ∙ ap (map port_value) (ap seen c.as_slice.ensures.value ∙ c.in_ok-ports.ensures)
