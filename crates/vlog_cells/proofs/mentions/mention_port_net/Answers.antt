use Rattle.vlog_cells.specs.Nets.{names_port}
use Rattle.vlog_cells.proofs.Turns.{port_noted}
use Rattle.vlog_cells.proofs.mentions.mention_port_net.Goals as goal

pub returns : goal.returns
returns c = record { added = λ key. port_noted (names_port c.args.table.now c.args.name.now) c.args.mention key c.args.name.now c.args.found.now c.add.new.self c.if-not-names_port.ensures (c.in_ok-add.ensures.added key) }
