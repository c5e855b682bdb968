use Rattle.vlog_shown.proofs.Tabling.{once_at, small_at}
use Rattle.vlog_shown.proofs.tables.scopes_shown.Goals as goal

pub scope_of-requires-clause-once : goal.scope_of-requires-clause-once
scope_of-requires-clause-once c = once_at c.args.shown.now c.loop-m.m-index c.m-item.result c.loop-m-test.true c.m-item.is c.requires.once

pub scope_of-requires-clause-small : goal.scope_of-requires-clause-small
scope_of-requires-clause-small c = small_at c.args.shown.now c.loop-m.m-index c.m-item.result c.loop-m-test.true c.m-item.is c.requires.small
