-- What a select of a name means (IEEE 1364-2005, 5.2.1).
use Rattle.std.specs.Prelude.{ℕ, ◌+◌, ◌-◌, ◌&&◌, ◌||◌, nat_le, Option, Some, None, ℤ, ◌-ℤ◌, int_le, nat_abs, if◌then◌else◌}
use Rattle.nl_base.specs.Ranges.{Bounds}
use Rattle.net_hier.specs.Cells.{width_of}
use Rattle.vlog_design.specs.declared.signals.Span.{Span}
use Rattle.vlog_values.specs.declared.expression.Select.{Select}
use Rattle.vlog_values.specs.declared.expression.Select.TheVariants.{All, One, Slice}

-- the position from the left that an index has, where the range holds the index
unfoldable pub position_of : Bounds → ℤ → Option ℕ
position_of range index =
    if (int_le range.right index && int_le index range.left) || (int_le range.left index && int_le index range.right)
    then Some (nat_abs (range.left -ℤ index))
    else None

-- the positions from the first to the second, where these stand in this order
abbrev pub span_between : Option ℕ → Option ℕ → Option Span
span_between None q = None
span_between (Some p) None = None
span_between (Some p) (Some q) = if nat_le p q then Some (record { first = p; count = q - p + 1 }) else None

-- the position alone
abbrev pub span_at : Option ℕ → Option Span
span_at p = span_between p p

-- the positions that a select means on a range; it means none on what has no range, outside the range, and against its direction
unfoldable pub selected : Option Bounds → Select → Option Span
selected range All = Some (record { first = 0; count = width_of range })
selected None (One index) = None
selected None (Slice from to) = None
selected (Some range) (One index) = span_at (position_of range index)
selected (Some range) (Slice from to) = span_between (position_of range from) (position_of range to)
