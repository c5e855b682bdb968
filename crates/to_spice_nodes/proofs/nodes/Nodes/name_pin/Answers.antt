use Rattle.std.proofs.Common.{◌∙◌, refl, subst, sym}
use Rattle.to_spice_nodes.specs.Table.{GivesName, root}
use Rattle.to_spice_nodes.proofs.Giving.{gives_class, gives_port, name_next}
use Rattle.to_spice_nodes.proofs.Loops.{port_there, port_within, word_is}
use Rattle.to_spice_nodes.proofs.Firsts.{port_root}
use Rattle.to_spice_nodes.proofs.nodes.Nodes.name_pin.Goals as goal

pub bounds-items-port : goal.bounds-items-port
bounds-items-port c =
    let r = port_root c.args.cell.now c.args.classes.now c.requires.classes c.requires.own c.args.pin.now c.requires.pin c.in-Port.port c.in-Port.bit (sym c.root_of-root.ensures ∙ c.in-Port.is) in
    port_within c.args.cell.now c.in-Port.port c.in-Port.bit c.items.result.now r.0 c.items.ensures

pub bit_word-requires : goal.bit_word-requires
bit_word-requires c =
    let r = port_root c.args.cell.now c.args.classes.now c.requires.classes c.requires.own c.args.pin.now c.requires.pin c.in-Port.port c.in-Port.bit (sym c.root_of-root.ensures ∙ c.in-Port.is) in
    (port_there c.args.cell.now c.in-Port.port c.in-Port.bit c.items.result.now c.index-items-port.result r.0 c.items.ensures c.index-items-port.is).1

pub returns-in_ok-word-in-Port-clause-node : goal.returns-in_ok-word-in-Port-clause-node
returns-in_ok-word-in-Port-clause-node c =
    let e = sym c.root_of-root.ensures ∙ c.in-Port.is in
    let r = port_root c.args.cell.now c.args.classes.now c.requires.classes c.requires.own c.args.pin.now c.requires.pin c.in-Port.port c.in-Port.bit e in
    let p = port_there c.args.cell.now c.in-Port.port c.in-Port.bit c.items.result.now c.index-items-port.result r.0 c.items.ensures c.index-items-port.is in
    gives_port c.args.cell.now c.args.classes.now c.requires.classes c.requires.own c.args.pin.now c.requires.pin c.args.self.now c.args.self.now c.in_ok-word-in-Port.word c.in-Port.port c.in-Port.bit e
    p.2 (c.in_ok-word-in-Port.ensures ∙ sym (word_is c.args.cell.now c.in-Port.port c.in-Port.bit c.index-items-port.result p.0)) refl

pub returns-in_ok-name-in_default : goal.returns-in_ok-name-in_default
returns-in_ok-name-in_default c =
    let own = c.in_ok-name-in_default.ensures in
    record {
      node = gives_class c.args.cell.now c.args.classes.now c.requires.classes c.requires.own c.args.pin.now c.requires.pin c.args.self.now c.name_class.new.self c.in_ok-name-in_default.name
          (λ port. c.in_default.not-Port port.0 port.1 (c.root_of-root.ensures ∙ port.2))
          (subst (λ n. GivesName c.args.cell.now n (root c.args.classes.now c.args.pin.now) c.args.self.now c.name_class.new.self c.in_ok-name-in_default.name) c.around.ensures
          (subst (λ r. GivesName c.args.cell.now c.around.result.now r c.args.self.now c.name_class.new.self c.in_ok-name-in_default.name) c.root_of-root.ensures own));
      next = name_next c.args.cell.now c.around.result.now c.root_of-root.result c.args.self.now c.name_class.new.self c.in_ok-name-in_default.name c.requires.next own;
    }
