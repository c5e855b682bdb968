-- Lists of references to the parts of a cell.
use Rattle.std.specs.Prelude.{List, map}
use Rattle.std.specs.Borrow.{Bor}
use Rattle.std.specs.List.{filter_map}
use Rattle.edif_values.specs.declared.view.View.{View}
use Rattle.edif_values.specs.declared.port.Port.{Port}
use Rattle.edif_design.specs.Parts.{port_in}

-- the things that references lead to
abbrev pub seen : {A : Type 0} → List (Bor A) → List A
seen = map (λ reference. reference.now)

-- the ports of a view's interface
abbrev pub interface_ports : View → List Port
interface_ports view = filter_map port_in view.interface
