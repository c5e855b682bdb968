use Rattle.to_verilog_values.proofs.Plain.{cat_is, constant_is, port_is, port_is_left, wire_is, wire_is_left}
use Rattle.to_verilog_values.proofs.laws.expressions_are_values.Goals as goal

pub returns-clause-ports : goal.returns-clause-ports
returns-clause-ports c = λ levels port bit name range within. (port_is levels port bit name range within, port_is_left port bit)

pub returns-clause-wires : goal.returns-clause-wires
returns-clause-wires c = λ levels wire name. (wire_is levels wire name, wire_is_left wire)

pub returns-clause-constants : goal.returns-clause-constants
returns-clause-constants c = constant_is

pub returns-clause-concatenations : goal.returns-clause-concatenations
returns-clause-concatenations c = cat_is
