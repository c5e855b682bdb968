use Rattle.std.proofs.Common.{ap, arith, length, ◌∙◌}
use Rattle.std.proofs.lemmas.List.{length-map}
use Rattle.edif_rules.proofs.SizeLaws.{few_ports}
use Rattle.edif_rules.proofs.tables.PortTable.of.Goals as goal

pub port_entries-requires : goal.port_entries-requires
port_entries-requires c =
    omega (arith, c.requires, few_ports c.args.cell.now, ap length c.in_ok-ports.ensures, length-map c.in_ok-ports.ports.items (λ r. r.now), ap length c.as_slice.ensures.value)
