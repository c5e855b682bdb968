-- The width and the bits of an expression (IEEE 1364-2005, 5.1.14 and 5.2).
use Rattle.std.specs.Prelude.{ℕ, zero, suc, ◌+◌, ◌*◌, Bool, true, false, List, [], ◌∷◌, ◌++◌, map, flat_map, sum, count_by, is_some, Option, Some, None, ℤ, pos, negsuc}
use Rattle.std.specs.Option.{option_map_or}
use Rattle.std.specs.List.{list_any, range_with_len}
use Rattle.net_hier.specs.declared.nodes.Node.{Node}
use Rattle.net_hier.specs.declared.nodes.Node.TheVariants.{Port, Net, Zero, One}
use Rattle.vlog_values.specs.Bits.{literal_bits}
use Rattle.vlog_design.specs.Names.{Signal, signal_named}
use Rattle.vlog_design.specs.declared.signals.SignalAt.{SignalAt}
use Rattle.vlog_design.specs.declared.signals.SignalAt.TheVariants.{AtPort, AtNet}
use Rattle.vlog_design.specs.declared.signals.Slot.{Slot}
use Rattle.vlog_design.specs.Ranges.{selected}
use Rattle.vlog_design.specs.declared.signals.Span.{Span}
use Rattle.vlog_values.specs.declared.literal.Literal.{Literal}
use Rattle.vlog_values.specs.declared.expression.Expr.{Expr}
use Rattle.vlog_values.specs.declared.expression.Expr.TheOpen.{Expr-F}
use Rattle.vlog_values.specs.declared.expression.Expr.TheFolds.{fold-Expr}
use Rattle.vlog_values.specs.declared.expression.Select.{Select}
use Rattle.vlog_values.specs.declared.literal.Bit.{Bit}
use Rattle.vlog_values.specs.declared.literal.Bit.TheVariants.{Zero as ZeroBit, One as OneBit, X, Z}

-- how often a replication repeats its parts
abbrev pub times : ℤ → ℕ
times (pos n) = n
times (negsuc n) = 0

-- the positions that a select of a port or net means
abbrev pub span_of : Option Slot → Select → Option Span
span_of None select = None
span_of (Some slot) select = selected slot.range select

-- how many positions these are
abbrev pub span_count : Option Span → ℕ
span_count None = 0
span_count (Some span) = span.count

-- the width of an expression by those of its parts
abbrev pub width_step : List Signal → Expr-F ℕ → ℕ
width_step signals (Expr-F.Ref select name) = span_count (span_of (signal_named signals name) select)
width_step signals (Expr-F.Lit literal) = literal.size
width_step signals (Expr-F.LooseNumber number) = 0
width_step signals (Expr-F.Loose based) = 0
width_step signals (Expr-F.Cat parts) = sum parts
width_step signals (Expr-F.Rep count parts) = times count * sum parts

-- how many bits an expression has, beside its unsized literals
unfoldable pub width : List Signal → Expr → ℕ
width signals = fold-Expr ℕ (width_step signals)

-- the node of a bit, by its position from the left
abbrev pub node_at : SignalAt → ℕ → Node
node_at (AtPort number) bit = Port number bit
node_at (AtNet first) bit = Net (first + bit)

-- the nodes of positions
abbrev pub span_bits : SignalAt → Span → List (Option Node)
span_bits place span = map (λ bit. Some (node_at place bit)) (range_with_len span.first span.count)

-- the nodes of the bits that a select of a name means
abbrev pub signal_bits : Option Slot → Select → List (Option Node)
signal_bits None select = []
signal_bits (Some slot) select = option_map_or (span_bits slot.place) (selected slot.range select) []

-- the constant that a bit of a literal is; x and z are nothing (4.1)
abbrev pub constant_bit : Bit → Option Node
constant_bit ZeroBit = Some Zero
constant_bit OneBit = Some One
constant_bit X = None
constant_bit Z = None

-- the bits of parts, one after another (5.1.14)
abbrev pub joined_bits : List (List (Option Node)) → List (Option Node)
joined_bits = flat_map (λ bits. bits)

-- bits so many times (5.1.14)
unfoldable pub repeated : ℕ → List (Option Node) → List (Option Node)
repeated zero bits = []
repeated (suc n) bits = bits ++ repeated n bits

-- the bits of an expression by those of its parts
abbrev pub bits_step : List Signal → Expr-F (List (Option Node)) → List (Option Node)
bits_step signals (Expr-F.Ref select name) = signal_bits (signal_named signals name) select
bits_step signals (Expr-F.Lit literal) = map constant_bit (literal_bits literal)
bits_step signals (Expr-F.LooseNumber number) = []
bits_step signals (Expr-F.Loose based) = []
bits_step signals (Expr-F.Cat parts) = joined_bits parts
bits_step signals (Expr-F.Rep count parts) = repeated (times count) (joined_bits parts)

-- for each bit of an expression, from the left, its port bit, its net, or its constant; x and z are nothing
unfoldable pub bits : List Signal → Expr → List (Option Node)
bits signals = fold-Expr (List (Option Node)) (bits_step signals)

-- a bit that is something
abbrev pub is_live : Bit → Bool
is_live bit = is_some (constant_bit bit)

-- the live width of an expression by those of its parts
abbrev pub live_step : List Signal → Expr-F ℕ → ℕ
live_step signals (Expr-F.Ref select name) = span_count (span_of (signal_named signals name) select)
live_step signals (Expr-F.Lit literal) = count_by is_live (literal_bits literal)
live_step signals (Expr-F.LooseNumber number) = 0
live_step signals (Expr-F.Loose based) = 0
live_step signals (Expr-F.Cat parts) = sum parts
live_step signals (Expr-F.Rep count parts) = times count * sum parts

-- how many bits of an expression are something: its width without the bits x and z
unfoldable pub live_width : List Signal → Expr → ℕ
live_width signals = fold-Expr ℕ (live_step signals)

-- whether an unsized literal stands in an expression, by its parts
abbrev pub loose_step : Expr-F Bool → Bool
loose_step (Expr-F.Ref select name) = false
loose_step (Expr-F.Lit literal) = false
loose_step (Expr-F.LooseNumber number) = true
loose_step (Expr-F.Loose based) = true
loose_step (Expr-F.Cat parts) = list_any (λ part. part) parts
loose_step (Expr-F.Rep count parts) = list_any (λ part. part) parts

-- an unsized literal stands in the expression
unfoldable pub has_loose : Expr → Bool
has_loose = fold-Expr Bool loose_step

-- the literals of an expression by those of its parts
abbrev pub literals_step : Expr-F (List Literal) → List Literal
literals_step (Expr-F.Ref select name) = []
literals_step (Expr-F.Lit literal) = literal ∷ []
literals_step (Expr-F.LooseNumber number) = []
literals_step (Expr-F.Loose based) = []
literals_step (Expr-F.Cat parts) = flat_map (λ part. part) parts
literals_step (Expr-F.Rep count parts) = flat_map (λ part. part) parts

-- the sized literals in an expression, from the left
unfoldable pub literals : Expr → List Literal
literals = fold-Expr (List Literal) literals_step
