use Rattle.to_verilog_values.proofs.Written.{attribute_is, parameter_is}
use Rattle.to_verilog_values.proofs.laws.constants_are_values.Goals as goal

pub returns-clause-attributes : goal.returns-clause-attributes
returns-clause-attributes c = attribute_is

pub returns-clause-parameters : goal.returns-clause-parameters
returns-clause-parameters c = parameter_is
