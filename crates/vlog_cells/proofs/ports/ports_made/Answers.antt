use Rattle.std.proofs.Common.{ap, map, ◌++◌, ◌∙◌}
use Rattle.vlog_design.specs.Names.{header_names}
use Rattle.vlog_cells.specs.Ports.{port_by, said_in_module}
use Rattle.vlog_cells.proofs.PartLaws.{said_kept}
use Rattle.vlog_cells.proofs.PortLaws.{ports_are}
use Rattle.vlog_values.specs.declared.module.Module.{Module}
use Rattle.vlog_cells.proofs.ports.ports_made.Goals as goal

pub returns : goal.returns
returns c = λ m is whole once.
    let table = c.args.table.now in
    c.in_ok-add_header.ensures.added
    ∙ (ap (λ l. l ++ map (port_by table c.in_ok-found.found) (header_names c.args.declared.now.header)) c.empty-made.ensures
    ∙ (ap (λ (n : Module). map (port_by table c.in_ok-found.found) (header_names n.header)) is
    ∙ ports_are m table c.in_ok-found.found whole once (λ key. c.in_ok-found.ensures key ∙ (ap (said_in_module table key) is ∙ said_kept table key m))))
