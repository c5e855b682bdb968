use Rattle.to_verilog_props.proofs.Meanings.{attributes_are, attributes_keep}
use Rattle.to_verilog_props.proofs.laws.attributes_mean_properties.Goals as goal

pub returns-clause-last : goal.returns-clause-last
returns-clause-last c = attributes_are

pub returns-clause-values : goal.returns-clause-values
returns-clause-values c = attributes_keep
