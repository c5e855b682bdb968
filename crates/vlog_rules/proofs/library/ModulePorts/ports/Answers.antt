use Rattle.std.proofs.Common.{◌∙◌, Some, ap, get_or, sym}
use Rattle.vlog_design.specs.Tables.{modules_of}
use Rattle.vlog_rules.proofs.LibraryLaws.{module_placed, no_module_placed}
use Rattle.vlog_rules.proofs.library.ModulePorts.ports.Goals as goal

pub returns-in-None : goal.returns-in-None
returns-in-None c =
    let l = c.args.self.now in
    no_module_placed (modules_of l.modules.items) c.args.name.now l.names l.are_named (sym c.in-None.ensures)

pub returns-in-Some : goal.returns-in-Some
returns-in-Some c =
    let l = c.args.self.now in
    let placed = module_placed (modules_of l.modules.items) c.args.name.now c.in-Some.place l.names l.are_named (sym c.in-Some.ensures) in
    placed.ports c.index.result.now ∙ (ap (λ ps. Some (get_or ps c.in-Some.place c.index.result.now)) (sym l.have_ports) ∙ ap Some (sym c.index.ensures))
