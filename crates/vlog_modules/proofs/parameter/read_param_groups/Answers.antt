use Rattle.std.proofs.Common.{arith}
use Rattle.readers.specs.Readers.{room}
use Rattle.readers.proofs.Choices.{loops}
use Rattle.vlog_values.specs.Values.{IsParamGroup}
use Rattle.vlog_values.specs.Sizes.{list_size, param_size}
use Rattle.vlog_items.proofs.Lists.{room_added, all_added, size_added, collects}
use Rattle.vlog_modules.proofs.Sizes.{turned, closed}
use Rattle.vlog_modules.specs.States.{groups_size}
use Rattle.vlog_modules.specs.Grammar.{param_groups}
use Rattle.vlog_modules.proofs.parameter.read_param_groups.Goals as goal

pub loop-groups-init : goal.loop-groups-init
unfolding param_groups
loop-groups-init g c = collects (grind (arith, loops)) c.requires (omega arith)

pub loop-groups-preserved : goal.loop-groups-preserved
unfolding param_groups
loop-groups-preserved g c =
    collects (grind (arith, loops)) c.in_ok-groups.ensures.value
    (turned (groups_size c.args.first) (groups_size c.loop-groups.groups) (groups_size c.in_ok-groups.groups) (room c.args.cursor.now) (room c.loop-groups.cursor) (room c.takes.new.self) (room c.read_param_turn.new.cursor) c.loop-groups.invariant.room c.in_ok-takes.ensures.value.2 c.in_ok-groups.ensures.reads.value.2 c.in_ok-groups.ensures.size)

pub returns-clause-value : goal.returns-clause-value
returns-clause-value g c = all_added c.in_ok-add.ensures IsParamGroup c.loop-groups.invariant.good.0 c.loop-groups.invariant.good.1

pub returns-clause-size : goal.returns-clause-size
returns-clause-size g c =
    closed (groups_size c.args.first) (groups_size c.loop-groups.groups) (list_size param_size c.add.new.list) (room c.args.cursor.now) (room c.loop-groups.cursor) (room c.takes.new.self) (room c.mark.new.self) (room c.add.new.self) c.loop-groups.invariant.room c.in_ok-takes.ensures.value.2 c.in_ok-mark.ensures.value.2 (size_added c.in_ok-add.ensures param_size) (room_added c.in_ok-add.ensures)
