-- What is known of the numbers in a table and in an expression before nets are made.
use Rattle.std.specs.Prelude.{ℕ, ◌+◌, ◌≤◌, ◌^◌}
use Rattle.vlog_values.specs.Bits.{AreDigits}
use Rattle.net_hier.specs.Cells.{width_of}
use Rattle.vlog_values.specs.declared.literal.Literal.{Literal}
use Rattle.vlog_design.specs.declared.signals.SignalAt.{SignalAt}
use Rattle.vlog_design.specs.declared.signals.SignalAt.TheVariants.{AtPort, AtNet}
use Rattle.vlog_design.specs.declared.signals.Slot.{Slot}

-- the number of the first net of a name; the bits of a port are counted by themselves
abbrev pub first_number : SignalAt → ℕ
first_number (AtPort number) = 0
first_number (AtNet first) = first

-- a port or net is not too wide, and the numbers of its bits fit
pub record HasNumbers (slot : Slot) : Type 0 where
  pub narrow : width_of slot.range ≤ 65536
  pub fits : first_number slot.place + width_of slot.range ≤ 2 ^ 32

-- the digits of a literal are spelled in its base
abbrev pub HasDigits : Literal → Type 0
HasDigits literal = AreDigits literal.based.base literal.based.digits
