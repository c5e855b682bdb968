use Rattle.std.proofs.Common.{ap, arith, flat_map, length}
use Rattle.vlog_scopes.specs.Filled.{item_nets}
use Rattle.vlog_scopes.proofs.FewNames.{few_nets}
use Rattle.vlog_scopes.proofs.FilledLaws.{declared_are}
use Rattle.vlog_scopes.proofs.entries.add_declared.Goals as goal

pub add_items_nets-requires : goal.add_items_nets-requires
add_items_nets-requires c = omega (arith, ap (λ items. length (flat_map item_nets items)) c.items.ensures, few_nets c.args.m.now 268435456 c.requires.small)

pub returns-clause-added : goal.returns-clause-added
returns-clause-added c =
    (declared_are c.args.m.now c.add_ports.new.out c.add_items_nets.new.out c.in_ok-next.next c.items.result.now c.requires.once c.in_ok-add_ports.ensures.added c.items.ensures c.in_ok-next.ensures.added).table_is

pub returns-clause-behind : goal.returns-clause-behind
returns-clause-behind c =
    (declared_are c.args.m.now c.add_ports.new.out c.add_items_nets.new.out c.in_ok-next.next c.items.result.now c.requires.once c.in_ok-add_ports.ensures.added c.items.ensures c.in_ok-next.ensures.added).next_is
