use Rattle.std.proofs.Common.{◌≡◌, ◌++◌, drop, map}
use Rattle.std.specs.List.{AllByRecursion}
use Rattle.edif_design.specs.CellRules.{port_ident}
use Rattle.edif_values.specs.Values.{IsPort}
use Rattle.edif_plans.specs.Summaries.{summary_for, summary_of}
use Rattle.edif_values.specs.declared.port.Port.{Port}
use Rattle.edif_plans.specs.PortNames.{HasPlainText}
use Rattle.edif_plans.specs.Sound.{IsSoundPort}
use Rattle.edif_parts.proofs.ports.ports_of.Given as goal

abbrev pub invariant-loop-place : goal.invariant-loop-place
invariant-loop-place l = record {
  idents : map port_ident l.made.items ++ drop l.place l.idents ≡ l.idents;
  summaries : map summary_of l.made.items ++ map summary_for (drop l.place l.ports) ≡ map summary_for l.ports;
  sound : AllByRecursion IsSoundPort l.ports → AllByRecursion IsPort l.made.items;
  texts : AllByRecursion (λ (port : Port). HasPlainText port.name) l.made.items;
}
