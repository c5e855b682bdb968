use Rattle.to_verilog_values.proofs.Plain.{module_is}
use Rattle.to_verilog_values.proofs.laws.plain_modules_are_values.Goals as goal

pub returns : goal.returns
returns c = module_is
