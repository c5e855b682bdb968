use Rattle.std.proofs.Common.{◌≡◌, ◌++◌, ◌∙◌, ap, arith, flat_map, length, refl, vec_len}
use Rattle.vlog_design.specs.Design.{wire_nets}
use Rattle.vlog_design.specs.Names.{net_decl}
use Rattle.vlog_cells.specs.Nets.{late_nets, wires_in}
use Rattle.vlog_cells.proofs.NetLaws.{nets_are}
use Rattle.vlog_cells.proofs.PartLaws.{items_kept}
use Rattle.vlog_values.specs.declared.module.Module.{Module}
use Rattle.vlog_cells.proofs.nets.nets_made.Goals as goal

pub returns : goal.returns
returns c = λ m is whole.
    let table = c.args.table.now in
    let declared = c.add_items.new.made.items in
    let count : vec_len c.add_items.new.made ≡ length declared = omega (arith, c.add_items.new.made.ok.0) in
    c.of.ensures
    ∙ (c.in_ok-add_implicit.ensures.added
    ∙ (ap (λ n. declared ++ late_nets n table) (c.len-from.ensures ∙ count)
    ∙ nets_are m table declared whole (c.in_ok-add_items.ensures.added
    ∙ (ap (λ l. l ++ flat_map wire_nets (wires_in table (flat_map net_decl c.items.result.now))) c.in_ok-made.ensures.items
    ∙ ap (λ decls. flat_map wire_nets (wires_in table decls)) (ap (flat_map net_decl) (c.items.ensures ∙ ap (λ (n : Module). n.items) is) ∙ items_kept net_decl (λ s. refl) (λ s. refl) m.items)))))
