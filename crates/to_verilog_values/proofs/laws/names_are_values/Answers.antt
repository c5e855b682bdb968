use Rattle.to_verilog_values.proofs.Written.{name_is}
use Rattle.to_verilog_values.proofs.laws.names_are_values.Goals as goal

pub returns : goal.returns
returns c = name_is
