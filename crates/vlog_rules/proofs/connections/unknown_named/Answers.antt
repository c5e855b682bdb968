use Rattle.std.proofs.Common.{List, ◌∙◌, ap, find, map, not, sym}
use Rattle.vlog_design.specs.Names.{Name, has_name}
use Rattle.vlog_design.specs.Tables.{modules_of}
use Rattle.vlog_values.specs.declared.statement.NamedConn.{NamedConn}
use Rattle.vlog_rules.proofs.LibraryLaws.{no_ports, ports_found}
use Rattle.vlog_rules.proofs.connections.unknown_named.Goals as goal

pub returns-in-None : goal.returns-in-None
returns-in-None c =
    c.first_named.ensures
    ∙ ap (λ (names : List Name). find (λ port. not (has_name names port)) (map (λ (conn : NamedConn). conn.port) c.args.conns.now)) (sym (no_ports (modules_of c.args.library.now.modules.items) c.args.of.now c.in-None.ensures))

pub returns-in-Some : goal.returns-in-Some
returns-in-Some c =
    c.first_outside.ensures
    ∙ ap (λ (names : List Name). find (λ port. not (has_name names port)) (map (λ (conn : NamedConn). conn.port) c.args.conns.now)) (sym (ports_found (modules_of c.args.library.now.modules.items) c.args.of.now c.in-Some.ports.now c.in-Some.ensures))
