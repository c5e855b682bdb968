use Rattle.std.proofs.Common.{◌+◌, ◌++◌, ◌∙◌, ap, sym, option_copied, drop, flat_map}
use Rattle.to_verilog_classes.specs.Roots.{open_bits}
use Rattle.to_verilog_classes.proofs.RootLaws.{open_end, open_turn}
use Rattle.to_verilog_classes.proofs.roots.roots_of.Goals as goal
use Rattle.to_verilog_classes.proofs.roots.roots_of.Goals.{in-Some+in_ok-push_open_bits, in_default}

pub loop-number-preserved : goal.loop-number-preserved
loop-number-preserved c =
    elim c.match-get_index.branch [
      | in-Some+in_ok-push_open_bits w ↦ open_turn (open_bits c.args.hier.now.cells c.args.cell.now c.args.groups.now) c.args.ports.now.keys c.loop-number.number w.in-Some.port.now c.loop-number.roots.items c.match-get_index.roots.items
          (sym c.get_index.ensures.key ∙ ap option_copied w.in-Some.is) c.loop-number.invariant (ap (λ v. v.items) w.roots-is ∙ w.in_ok-push_open_bits.ensures.added)
      | in_default w ↦ ap (λ v. v.items ++ flat_map (open_bits c.args.hier.now.cells c.args.cell.now c.args.groups.now) (drop (c.loop-number.number + 1) c.args.ports.now.keys)) w.roots-is
          ∙ open_end (open_bits c.args.hier.now.cells c.args.cell.now c.args.groups.now) c.args.ports.now.keys c.loop-number.number c.loop-number.roots.items (sym c.get_index.ensures.key ∙ ap option_copied w.in_default.is) c.loop-number.invariant
    ]
