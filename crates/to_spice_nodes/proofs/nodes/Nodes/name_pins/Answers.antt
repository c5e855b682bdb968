use Rattle.std.proofs.Common.{◌+◌, ◌∷◌, [], ◌++◌, subst, sym, take, get_or}
use Rattle.std.proofs.lemmas.List.{take_more}
use Rattle.std.proofs.lemmas.Option.{slice_get-get_or}
use Rattle.net_hier.specs.declared.nodes.Node.TheVariants.{Port}
use Rattle.to_spice_nodes.specs.Table.{GivesNodes}
use Rattle.to_spice_nodes.proofs.Giving.{gives_more, gives_none}
use Rattle.to_spice_nodes.proofs.nodes.Nodes.name_pins.Goals as goal

pub loop-pin-init : goal.loop-pin-init
loop-pin-init c = (
  subst (GivesNodes c.args.cell.now c.args.classes.now [] c.args.self.now c.args.self.now) (sym c.empty-names.ensures) (gives_none c.args.cell.now c.args.classes.now c.args.self.now),
  c.requires.next,
)

pub name_pin-requires-clause-pin : goal.name_pin-requires-clause-pin
name_pin-requires-clause-pin c = c.requires.pins c.loop-pin.pin-index _ (slice_get-get_or c.args.pins.now c.loop-pin.pin-index (Port 0 0) c.loop-pin-test.true)

pub loop-pin-preserved : goal.loop-pin-preserved
loop-pin-preserved c = (
  subst (GivesNodes c.args.cell.now c.args.classes.now (take (c.loop-pin.pin-index + 1) c.args.pins.now) c.args.self.now c.name_pin.new.self) (sym c.in_ok-push.ensures.added)
      (subst (λ l. GivesNodes c.args.cell.now c.args.classes.now l c.args.self.now c.name_pin.new.self (c.loop-pin.names ++ c.in_ok-name.name ∷ [])) (sym (take_more c.args.pins.now c.loop-pin.pin-index (Port 0 0) c.loop-pin-test.true))
      (gives_more c.args.cell.now c.args.classes.now (take c.loop-pin.pin-index c.args.pins.now) (get_or c.args.pins.now c.loop-pin.pin-index (Port 0 0)) c.args.self.now c.loop-pin.self c.name_pin.new.self c.loop-pin.names c.in_ok-name.name
      c.loop-pin.invariant.0 c.in_ok-name.ensures.node)),
  c.in_ok-name.ensures.next,
)
