use Rattle.to_verilog_values.proofs.Broken.{good_design, named_cell, own_cells}
use Rattle.to_verilog_values.proofs.laws.no_rule_is_broken.Goals as goal

pub returns-clause-names : goal.returns-clause-names
returns-clause-names c = named_cell

pub returns-clause-cells : goal.returns-clause-cells
returns-clause-cells c = own_cells

pub returns-clause-design : goal.returns-clause-design
returns-clause-design c = good_design
