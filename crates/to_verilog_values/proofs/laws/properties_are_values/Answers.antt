use Rattle.to_verilog_values.proofs.Written.{attributes_are, given_are, parameters_are}
use Rattle.to_verilog_values.proofs.laws.properties_are_values.Goals as goal

pub returns-clause-attributes : goal.returns-clause-attributes
returns-clause-attributes c = attributes_are

pub returns-clause-given : goal.returns-clause-given
returns-clause-given c = given_are

pub returns-clause-parameters : goal.returns-clause-parameters
returns-clause-parameters c = parameters_are
