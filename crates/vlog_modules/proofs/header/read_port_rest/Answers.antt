use Rattle.std.proofs.Common.{arith}
use Rattle.vlog_values.specs.Values.{IsName}
use Rattle.vlog_items.proofs.Lists.{one_length, one_made}
use Rattle.vlog_modules.proofs.header.read_port_rest.Goals as goal

pub returns-clause-value : goal.returns-clause-value
returns-clause-value g c = record { attrs = c.requires; range = c.in_ok-range.ensures.value; names = one_made c.one.ensures IsName c.in_ok-name.ensures.value }

pub returns-clause-size : goal.returns-clause-size
returns-clause-size g c =
    omega (arith, one_length c.one.ensures, c.in_ok-kind.ensures.value.2, c.in_ok-signed.ensures.value.2, c.in_ok-range.ensures.reads.value.2, c.in_ok-name.ensures.reads.value.2)
