use Rattle.std.proofs.Common.{◌≡◌, ◌++◌, drop, map}
use Rattle.vlog_written.specs.Written.{port_decl_of}
use Rattle.to_verilog_items.specs.Header.{plain_port}
use Rattle.to_verilog_items.proofs.header.decls_of.Given as goal

abbrev pub invariant-loop-port : goal.invariant-loop-port
invariant-loop-port l = l.decls ++ map (λ port. port_decl_of (plain_port port)) (drop l.port-index l.ports) ≡ map (λ port. port_decl_of (plain_port port)) l.ports
