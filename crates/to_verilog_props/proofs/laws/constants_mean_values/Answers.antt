use Rattle.to_verilog_props.proofs.Meanings.{attribute_means, parameter_means}
use Rattle.to_verilog_props.proofs.laws.constants_mean_values.Goals as goal

pub returns-clause-attributes : goal.returns-clause-attributes
returns-clause-attributes c = attribute_means

pub returns-clause-parameters : goal.returns-clause-parameters
returns-clause-parameters c = parameter_means
