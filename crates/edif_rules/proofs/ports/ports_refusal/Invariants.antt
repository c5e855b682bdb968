use Rattle.std.proofs.Common.{◌≡◌, List, ℕ, map, take}
use Rattle.edif_lookup.specs.Refusals.{in_order, is_in, lowest}
use Rattle.edif_design.specs.CellRules.{port_ident, port_name, port_refusals}
use Rattle.edif_rules.specs.Lists.{seen}
use Rattle.edif_rules.proofs.ports.ports_refusal.Given as goal

abbrev pub invariant-loop-port : goal.invariant-loop-port
invariant-loop-port l = record {
  best : l.best ≡ lowest (in_order (port_refusals l.cell) (take l.port-index (seen l.ports)));
  idents : (other : List ℕ) → is_in other l.idents ≡ is_in other (map port_ident (take l.port-index (seen l.ports)));
  names : (other : List ℕ) → is_in other l.names ≡ is_in other (map port_name (take l.port-index (seen l.ports)));
}
