use Rattle.std.proofs.Common.{arith}
use Rattle.readers.specs.Readers.{room}
use Rattle.readers.proofs.Choices.{loops}
use Rattle.vlog_values.specs.Values.{IsPortDecl}
use Rattle.vlog_values.specs.Sizes.{list_size, port_size}
use Rattle.vlog_items.proofs.Lists.{room_added, size_added, some_added, collects}
use Rattle.vlog_modules.proofs.Sizes.{turned, closed}
use Rattle.vlog_modules.specs.States.{ports_size}
use Rattle.vlog_modules.specs.Grammar.{port_decls}
use Rattle.vlog_modules.proofs.header.read_port_decls.Goals as goal

pub loop-decls-init : goal.loop-decls-init
unfolding port_decls
loop-decls-init g c = collects (grind (arith, loops)) c.requires (omega arith)

pub loop-decls-preserved : goal.loop-decls-preserved
unfolding port_decls
loop-decls-preserved g c =
    collects (grind (arith, loops)) c.in_ok-decls.ensures.value
    (turned (ports_size c.args.first) (ports_size c.loop-decls.decls) (ports_size c.in_ok-decls.decls) (room c.args.cursor.now) (room c.loop-decls.cursor) (room c.takes.new.self) (room c.read_port_turn.new.cursor) c.loop-decls.invariant.room c.in_ok-takes.ensures.value.2 c.in_ok-decls.ensures.reads.value.2 c.in_ok-decls.ensures.size)

pub returns-clause-value : goal.returns-clause-value
returns-clause-value g c = some_added c.in_ok-add.ensures IsPortDecl c.loop-decls.invariant.good.0 c.loop-decls.invariant.good.1

pub returns-clause-size : goal.returns-clause-size
returns-clause-size g c =
    closed (ports_size c.args.first) (ports_size c.loop-decls.decls) (list_size port_size c.add.new.list) (room c.args.cursor.now) (room c.loop-decls.cursor) (room c.takes.new.self) (room c.mark.new.self) (room c.add.new.self) c.loop-decls.invariant.room c.in_ok-takes.ensures.value.2 c.in_ok-mark.ensures.value.2 (size_added c.in_ok-add.ensures port_size) (room_added c.in_ok-add.ensures)
