use Rattle.vlog_scopes.proofs.ModuleLaws.{once_at}
use Rattle.vlog_scopes.proofs.library.port_sets.Goals as goal

pub port_set-requires : goal.port_set-requires
port_set-requires c = once_at c.args.modules.now c.loop-m.m-index _ c.m-item.result c.loop-m-test.true c.m-item.is c.requires
