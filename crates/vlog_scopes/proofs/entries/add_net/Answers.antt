use Rattle.vlog_scopes.proofs.FilledLaws.{net_new, net_there}
use Rattle.vlog_scopes.proofs.entries.add_net.Goals as goal

pub returns-then-new-clause-added : goal.returns-then-new-clause-added
returns-then-new-clause-added c =
    net_new c.args.out.now c.add.new.self c.args.first c.bits_of.result (record { name = c.args.name.now; range = c.args.decl.now.range }) c.in_ok-new.new c.in_ok-new.ensures.new c.in_ok-new.ensures.added c.if-new.true c.bits_of.ensures.width

pub returns-clause-added : goal.returns-clause-added
returns-clause-added c =
    net_there c.args.out.now c.add.new.self c.args.first (record { name = c.args.name.now; range = c.args.decl.now.range }) c.in_ok-new.new c.in_ok-new.ensures.new c.in_ok-new.ensures.added c.if-new.false
