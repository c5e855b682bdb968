-- What is read of the ports and instances that are written (EDIF 2 0 0, port, direction, instance, viewRef, cellRef, libraryRef).
use Rattle.std.specs.Prelude.{ℕ, List, Option, Some, None, ℤ, pos, map, [], ◌++◌}
use Rattle.std.specs.List.{filter_map}
use Rattle.nl_base.specs.Ranges.{Bounds, range_bits}
use Rattle.edif_values.specs.Names.{original}
use Rattle.edif_values.specs.declared.instance.Instance.{Instance}
use Rattle.edif_values.specs.declared.port.Port.{Port}
use Rattle.net_hier.specs.declared.cells.HInst.{HInst}
use Rattle.net_hier.specs.declared.cells.HPort.{HPort}
use Rattle.net_hier.specs.declared.cells.HProp.{HProp}
use Rattle.net_live.specs.Last.{last_of}
use Rattle.edif_design.specs.CellRules.{size_of}
use Rattle.edif_design.specs.Design.{instance_property, port_value}
use Rattle.edif_written.specs.Written.{netlist, work}
use Rattle.edif_plans.specs.Plans.{constant_head, head_of}
use Rattle.edif_plans.specs.declared.added.Added.{Added}
use Rattle.edif_plans.specs.declared.plan.Plan.{Plan}

-- a port with the last value of each of its properties
abbrev pub kept_port : HPort → HPort
kept_port port = record { name = port.name; range = port.range; dir = port.dir; props = last_of port.props }

-- the size that an array of this range has
abbrev pub size_for : Option Bounds → Option ℤ
size_for None = None
size_for (Some range) = Some (pos (range_bits range))

-- what references and rules see of a port besides its identifier
pub record PortSummary : Type 0 where
  pub value : HPort
  pub size : Option ℤ

abbrev pub summary_of : Port → PortSummary
summary_of port = record { value = port_value port; size = size_of port.name }

abbrev pub summary_for : HPort → PortSummary
summary_for port = record { value = kept_port port; size = size_for port.range }

-- what references and rules see of an instance besides its identifier
pub record InstanceSummary : Type 0 where
  pub name : List ℕ
  pub view : List ℕ
  pub cell : List ℕ
  pub library : Option (List ℕ)
  pub props : List HProp

abbrev pub instance_ident : Instance → List ℕ
instance_ident instance = instance.name.ident

abbrev pub instance_summary : Instance → InstanceSummary
instance_summary instance = record { name = original instance.name; view = instance.view; cell = instance.cell; library = instance.library; props = filter_map instance_property instance.items }

-- the summary of an instance of this name, of the cell of this identifier, with these properties
abbrev pub summary_with : List ℕ → List ℕ → List HProp → InstanceSummary
summary_with name cell props = record { name = name; view = netlist; cell = cell; library = Some work; props = props }

-- that of an instance of the design, with the last value of each of its properties
abbrev pub own_summary : Plan → HInst → InstanceSummary
own_summary plan instance = summary_with instance.name (head_of plan instance.cell).cell (last_of instance.props)

-- that of an instance that is added for a constant
abbrev pub added_summary : Plan → Added → InstanceSummary
added_summary plan added = summary_with added.name (constant_head plan added.value).cell []

-- those of a cell's own instances and then of the added ones
abbrev pub instance_summaries : Plan → List HInst → List Added → List InstanceSummary
instance_summaries plan own added = map (own_summary plan) own ++ map (added_summary plan) added

-- the names of a cell's own instances and of those that are added
abbrev pub instance_names : List HInst → List Added → List (List ℕ)
instance_names own added = map (λ instance. instance.name) own ++ map (λ one. one.name) added
