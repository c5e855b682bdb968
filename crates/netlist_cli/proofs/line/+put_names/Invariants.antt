use Rattle.std.proofs.Common.{length}
use Rattle.netlist_cli.proofs.line.+put_names.Given as goal

abbrev pub decreases-put_names : goal.decreases-put_names
decreases-put_names g l = length l.names.now
