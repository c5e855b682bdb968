use Rattle.vlog_writer.proofs.Names.{none_bare}
use Rattle.vlog_writer.proofs.file.put_nettype.Goals as goal

pub returns-then-implicit : goal.returns-then-implicit
returns-then-implicit g c = rw c.if-implicit.true c.put.ensures

pub returns : goal.returns
returns g c = rw (c.if-implicit.false, none_bare) c.put-2.ensures
