use Rattle.std.proofs.Common.{◌∙◌, ap}
use Rattle.net_bits.specs.Names.{with_name}
use Rattle.to_spice_nodes.proofs.Giving.{name_added}
use Rattle.to_spice_nodes.proofs.nodes.Nodes.add_name.Goals as goal

pub returns-in-Ok : goal.returns-in-Ok
returns-in-Ok c =
    name_added c.args.cell.now c.args.nodes.now c.args.root c.args.self.now c.new_name.new.self (record { names = c.self.inside.names.entries; used = c.self.inside.used; next = c.self.inside.next })
    c.insert.new.self.entries c.add.new.self c.in_ok-name.name c.in_ok-kept.kept c.requires.new c.in_ok-name.ensures.named c.in_ok-name.ensures.kept c.in_ok-name.ensures.next c.self.view_is
    c.in-Ok.ensures.updates.0 (c.in_ok-kept.ensures ∙ c.bytes-2.ensures) (c.in_ok-add.ensures.added ∙ ap (with_name c.self.inside.used) c.bytes.ensures)
