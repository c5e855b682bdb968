use Rattle.std.proofs.Common.{◌≡◌, ◌++◌, drop}
use Rattle.edif_written.specs.Naming.{seen}
use Rattle.edif_making.proofs.nets.lent.Given as goal

abbrev pub invariant-loop-name : goal.invariant-loop-name
invariant-loop-name l = seen l.lent.items ++ drop l.name-index l.names ≡ l.names
