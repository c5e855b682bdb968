-- The declarations of ports in a header.
use Rattle.std.proofs.Common.{◌≡◌, ◌==◌, ◌≤◌, true, false, List, [], ◌∷◌, map, length, refl, ap, arith}
use Rattle.net_hier.specs.declared.cells.HPort.{HPort}
use Rattle.vlog_values.specs.declared.module.Header.TheVariants.{Decls}
use Rattle.vlog_written.specs.Written.{plain_header, port_decl_of}
use Rattle.to_verilog_items.specs.Header.{plain_port}

decls_are : (ports : List HPort) → map (λ port. port_decl_of (plain_port port)) ports ≡ map port_decl_of (map plain_port ports)
decls_are [] = refl
decls_are (port ∷ ports) = ap (λ l. port_decl_of (plain_port port) ∷ l) (decls_are ports)

pub is_some : (ports : List HPort) → (length ports == 0) ≡ false → 1 ≤ length ports
is_some [] e = absurd (let f : true ≡ false = e in cc)
is_some (port ∷ ports) e = omega arith

pub header_is : (ports : List HPort) → 1 ≤ length ports → Decls (map (λ port. port_decl_of (plain_port port)) ports) ≡ plain_header (map plain_port ports)
header_is [] h = absurd (omega (arith, h))
header_is (port ∷ ports) h = ap Decls (decls_are (port ∷ ports))
