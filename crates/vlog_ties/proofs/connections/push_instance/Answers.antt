use Rattle.vlog_ties.proofs.Connected.{among_signals}
use Rattle.vlog_ties.proofs.connections.push_instance.Goals as goal

pub returns : goal.returns
returns c =
    let below = c.args.below.now in
    record { added = (rw (c.bytes.ensures, among_signals below.module.now below.table c.args.instance.now.conns below.is_whole) at c.push_conns.ensures.added) }
