use Rattle.std.proofs.Common.{◌∙◌, ap, length, sym}
use Rattle.vlog_design.specs.Tables.{modules_of}
use Rattle.vlog_rules.proofs.LibraryLaws.{no_ports, ports_found}
use Rattle.vlog_rules.proofs.library.ModulePorts.port_count.Goals as goal

pub returns-in-None : goal.returns-in-None
returns-in-None c = ap length (sym (no_ports (modules_of c.args.self.now.modules.items) c.args.name.now c.in-None.ensures))

pub returns-in-Some : goal.returns-in-Some
returns-in-Some c = c.len.ensures ∙ ap length (sym (ports_found (modules_of c.args.self.now.modules.items) c.args.name.now c.in-Some.ports.now c.in-Some.ensures))
