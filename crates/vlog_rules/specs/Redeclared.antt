-- Ports that are declared again as nets.
use Rattle.std.specs.Prelude.{Bool, true, false, not, ◌&&◌, List, Option}
use Rattle.std.specs.Option.{option_map_or}
use Rattle.nl_base.specs.Ranges.{Bounds}
use Rattle.vlog_design.specs.Names.{Name, Signal, signal_named}
use Rattle.vlog_design.specs.Rules.{same_range}
use Rattle.vlog_design.specs.declared.signals.SignalAt.{SignalAt}
use Rattle.vlog_design.specs.declared.signals.SignalAt.TheVariants.{AtPort, AtNet}
use Rattle.vlog_design.specs.declared.signals.Slot.{Slot}

abbrev pub is_port : SignalAt → Bool
is_port (AtPort number) = true
is_port (AtNet first) = false

-- a port of another range than this
abbrev pub other_slot : Option Bounds → Slot → Bool
other_slot range slot = is_port slot.place && not (same_range range slot.range)

-- the name is that of a port of another range than this
unfoldable pub other_in : List Signal → Option Bounds → Name → Bool
other_in signals range name = option_map_or (other_slot range) (signal_named signals name) false
