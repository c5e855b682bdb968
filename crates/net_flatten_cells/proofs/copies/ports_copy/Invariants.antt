use Rattle.std.proofs.Common.{◌≡◌, take}
use Rattle.net_flatten_cells.proofs.copies.ports_copy.Given as goal

abbrev pub invariant-loop-port : goal.invariant-loop-port
invariant-loop-port l = l.copies ≡ take l.port-index l.ports
