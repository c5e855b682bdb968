use Rattle.net_flatten_fits.proofs.Files.{edif_fits, value_fits, verilog_fits}
use Rattle.net_flatten_fits.proofs.laws.flattened_files_fit.Goals as goal

pub returns : goal.returns
returns c = record { edif = edif_fits; verilog = verilog_fits; value = value_fits }
