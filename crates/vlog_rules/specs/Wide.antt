-- Ports and nets of too many bits.
use Rattle.std.specs.Prelude.{ℕ, nat_lt, if◌then◌else◌, List, Option, Some, None}
use Rattle.net_hier.specs.Cells.{width_of}
use Rattle.vlog_design.specs.Names.{Signal}

-- the name of a port or net of more than 65,536 bits
abbrev pub wide_name : Option Signal → Option (List ℕ)
wide_name None = None
wide_name (Some signal) = if nat_lt 65536 (width_of signal.slot.range) then Some signal.name else None
