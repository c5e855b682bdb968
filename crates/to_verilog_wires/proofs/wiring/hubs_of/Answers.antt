use Rattle.std.proofs.Common.{arith, subst, sym, take, []}
use Rattle.std.proofs.lemmas.List.{take_all, take_more}
use Rattle.net_hier.specs.declared.nodes.Node.TheVariants.{Port}
use Rattle.to_verilog_wires.specs.Given.{GivesHubs}
use Rattle.to_verilog_wires.proofs.MadeLaws.{given_more, given_start}
use Rattle.to_verilog_wires.proofs.wiring.hubs_of.Goals as goal

pub loop-root-init : goal.loop-root-init
loop-root-init c = subst (λ entries. GivesHubs c.args.cell.now c.args.groups.now [] entries c.args.wires.now) (sym c.new-hubs.ensures.empty) (given_start c.args.cell.now c.args.groups.now c.args.wires.now c.requires)

pub loop-root-preserved : goal.loop-root-preserved
loop-root-preserved c =
    let at = c.loop-root.root-index in
    subst (λ done. GivesHubs c.args.cell.now c.args.groups.now done c.add_hub.new.hubs.entries c.add_hub.new.wires) (sym (take_more c.args.roots.now at (Port 0 0) (omega arith)))
    (given_more c.args.cell.now c.args.groups.now (take at c.args.roots.now) _ c.loop-root.hubs.entries c.add_hub.new.hubs.entries c.loop-root.wires c.add_hub.new.wires c.loop-root.invariant c.in_ok-add_hub.ensures)

pub add_hub-requires : goal.add_hub-requires
add_hub-requires c = c.loop-root.invariant.are_made.next

pub returns : goal.returns
returns c = subst (λ done. GivesHubs c.args.cell.now c.args.groups.now done c.loop-root.hubs.entries c.loop-root.wires) (take_all c.loop-root.root-index c.args.roots.now (omega arith)) c.loop-root.invariant
