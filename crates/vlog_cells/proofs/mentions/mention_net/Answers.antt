use Rattle.std.proofs.Common.{None, [], ap, arith, filter, get_or, length, ◌++◌, ◌∷◌, ◌∙◌}
use Rattle.vlog_cells.specs.Nets.{names_port}
use Rattle.vlog_cells.specs.Ports.{said_in_names, said_of}
use Rattle.vlog_cells.proofs.Turns.{kept_turn}
use Rattle.vlog_cells.proofs.mentions.mention_net.Goals as goal

pub loop-name-preserved : goal.loop-name-preserved
loop-name-preserved c = λ key.
    let decl = c.args.decl.now in
    let i = c.loop-name.name-index in
    let name = c.bytes.result.now in
    let port = names_port c.args.table.now in
    let is = c.name-item.is ∙ ap (λ names. get_or names i c.name-item.result) c.items-name-items.ensures in
    let more = c.in_ok-mention_port_net.ensures.added key ∙ ap (λ attrs. said_of c.loop-name.found key ++ said_in_names (record { dir = None; attrs = attrs }) (filter port (name ∷ [])) key) c.items.ensures in
    kept_turn port (record { dir = None; attrs = decl.attrs }) decl.names i c.name-item.result c.name-item.result key c.loop-name.found c.mention_port_net.new.found _ name (omega (arith, ap length c.items-name-items.ensures)) is c.bytes.ensures (c.loop-name.invariant key) more
