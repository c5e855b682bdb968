use Rattle.std.proofs.Common.{subst, sym}
use Rattle.to_verilog_wires.specs.Given.{GivesHubs}
use Rattle.to_verilog_classes.specs.Groups.{HasMarks}
use Rattle.to_verilog_wires.specs.IsWiring.{IsWiring}
use Rattle.to_verilog_wires.proofs.WiringLaws.{wiring_is}
use Rattle.to_verilog_wires.proofs.wiring.Wiring.of_cell.Goals as goal

pub returns : goal.returns
returns c =
    let cells = c.args.hier.now.cells in
    let cell = c.args.cell.now in
    let groups = c.in_ok-groups.groups in
    let ports = c.in_ok-ports.ports.keys in
    let entries = c.in_ok-hubs.hubs.entries in
    let made = c.hubs_of.new.wires in
    let marks : HasMarks groups = subst HasMarks c.groups.view_is c.groups.invariant in
    let gives : GivesHubs cell groups c.in_ok-roots.roots.items entries made = subst (λ roots. GivesHubs cell groups roots entries made) c.deref.ensures.value c.in_ok-hubs.ensures in
    subst (λ names. IsWiring cells cell (record { groups = groups; ports = ports; hubs = entries; names = names }) c.into_parts-names.result.1) (sym c.into_parts-names.ensures.names)
    (subst (IsWiring cells cell (record { groups = groups; ports = ports; hubs = entries; names = made.names })) (sym c.into_parts-names.ensures.decls)
    (wiring_is cells cell groups c.in_ok-groups.ensures marks c.requires.good ports c.in_ok-roots.roots.items c.in_ok-ports.ensures c.in_ok-roots.ensures entries made gives))
