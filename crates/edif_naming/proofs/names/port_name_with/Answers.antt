use Rattle.std.proofs.Common.{sym, subst}
use Rattle.edif_written.specs.Naming.{IsSmallRange}
use Rattle.edif_naming.proofs.names.port_name_with.Goals as goal

pub returns-in_ok-name-in-Some-clause-small : goal.returns-in_ok-name-in-Some-clause-small
returns-in_ok-name-in-Some-clause-small c = subst IsSmallRange (sym c.in-Some.is) c.in_ok-name-in-Some.ensures.small
