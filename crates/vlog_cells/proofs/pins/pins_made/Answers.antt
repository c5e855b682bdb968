use Rattle.std.proofs.Common.{◌≡◌, [], ◌∷◌, flat_map, ap, arith, reverse, sym, ◌++◌, ◌∙◌}
use Rattle.std.specs.Vec.{vec_len}
use Rattle.vlog_design.specs.Design.{joins_from}
use Rattle.vlog_design.specs.Names.{instance_statement}
use Rattle.vlog_ties.specs.Ties.{modules_in}
use Rattle.vlog_cells.specs.Instances.{instances_by}
use Rattle.vlog_cells.proofs.PinLaws.{instances_done, instances_turn, joins_done, joins_turn, known_taken, no_items}
use Rattle.vlog_cells.proofs.pins.pins_made.Goals as goal

pub loop-item-init : goal.loop-item-init
loop-item-init c =
    let modules = modules_in c.args.scopes.now in
    let items = reverse c.args.items.items in
    record {
      valid = c.requires.valid;
      small = omega (arith, c.requires.small);
      joined = ap (λ l. l ++ joins_from modules c.args.table.now 0 items) c.in_ok-pins.ensures.joins;
      made = ap (λ l. l ++ flat_map (instances_by c.args.names.now c.args.found.now) (flat_map instance_statement items)) c.in_ok-pins.ensures.instances;
    }

pub add_pins-requires-clause-few : goal.add_pins-requires-clause-few
add_pins-requires-clause-few c = (known_taken c.loop-item.number c.in-Some.item c.loop-item.items.items c.pop.new.self.items c.in-Some.ensures.items c.loop-item.invariant.valid c.loop-item.invariant.small).few

pub add_pins-requires-clause-valid : goal.add_pins-requires-clause-valid
add_pins-requires-clause-valid c = (known_taken c.loop-item.number c.in-Some.item c.loop-item.items.items c.pop.new.self.items c.in-Some.ensures.items c.loop-item.invariant.valid c.loop-item.invariant.small).valid

pub add_pins-requires-clause-small : goal.add_pins-requires-clause-small
add_pins-requires-clause-small c = (known_taken c.loop-item.number c.in-Some.item c.loop-item.items.items c.pop.new.self.items c.in-Some.ensures.items c.loop-item.invariant.valid c.loop-item.invariant.small).small

pub instance_count-count-requires : goal.instance_count-count-requires
instance_count-count-requires c = omega (arith, (known_taken c.loop-item.number c.in-Some.item c.loop-item.items.items c.pop.new.self.items c.in-Some.ensures.items c.loop-item.invariant.valid c.loop-item.invariant.small).few)

pub overflow_add-number : goal.overflow_add-number
overflow_add-number c = omega (arith, (known_taken c.loop-item.number c.in-Some.item c.loop-item.items.items c.pop.new.self.items c.in-Some.ensures.items c.loop-item.invariant.valid c.loop-item.invariant.small).few, c.instance_count-count.ensures)

pub loop-item-preserved : goal.loop-item-preserved
loop-item-preserved c =
    let modules = modules_in c.args.scopes.now in
    let item = c.in-Some.item in
    let old = c.loop-item.items.items in
    let new = c.give_back.new.items.items in
    let is : old ≡ new ++ item ∷ [] = c.in-Some.ensures.items ∙ ap (λ l. l ++ item ∷ []) (sym c.give_back.ensures) in
    let known = known_taken c.loop-item.number item old new is c.loop-item.invariant.valid c.loop-item.invariant.small in
    record {
      valid = known.others;
      small = omega (arith, known.fewer, c.instance_count-count.ensures);
      joined = joins_turn modules c.args.table.now c.loop-item.number _ item old new c.loop-item.pins.joins c.add_pins.new.pins.joins _ is c.instance_count-count.ensures c.in_ok-add_pins.ensures.joins c.loop-item.invariant.joined;
      made = instances_turn (instances_by c.args.names.now c.args.found.now) item old new c.loop-item.pins.instances c.add_pins.new.pins.instances _ is c.in_ok-add_pins.ensures.instances c.loop-item.invariant.made;
    }

pub returns : goal.returns
returns c =
    let items = c.loop-item.items in
    let none : vec_len items ≡ 0 = c.in_default.ensures.cases.0 in
    let empty : items.items ≡ [] = no_items items.items (omega (arith, none, items.ok)) in
    record {
      joins = joins_done (modules_in c.args.scopes.now) c.args.table.now c.loop-item.number items.items c.loop-item.pins.joins _ empty c.loop-item.invariant.joined;
      instances = instances_done (instances_by c.args.names.now c.args.found.now) items.items c.loop-item.pins.instances _ empty c.loop-item.invariant.made;
    }
