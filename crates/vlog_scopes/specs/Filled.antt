-- The names of a module as they are added to a table.
use Rattle.std.specs.Prelude.{ℕ, ◌+◌, List, [], ◌∷◌, ◌++◌, Option, None, Some, if◌then◌else◌}
use Rattle.std.specs.Borrow.{Bor}
use Rattle.net_hier.specs.Cells.{width_of}
use Rattle.vlog_design.specs.Names.{Signal, has_name}
use Rattle.vlog_design.specs.Tables.{signals_of}
use Rattle.vlog_design.specs.declared.signals.Slot.{Slot}
use Rattle.vlog_design.specs.declared.signals.SignalAt.TheVariants.{AtNet}
use Rattle.vlog_scopes.specs.Distinct.{signal_names}
use Rattle.vlog_scopes.specs.Ranged.{RangedName, ranged_nets}
use Rattle.vlog_values.specs.declared.module.ItemV.{ItemV}
use Rattle.vlog_values.specs.declared.module.ItemV.TheVariants.{Net}

-- the few names of a table, or all where there are more
abbrev pub filled : List (Bor (List ℕ) × Slot) → Option (List Signal) → List Signal
filled few None = signals_of few
filled few (Some many) = many

-- a table, and the number of the bit behind its last net
abbrev pub Numbered : Type 0
Numbered = List Signal × ℕ

-- the table with the net at its end, where it did not have the name
unfoldable pub net_added : Numbered → RangedName → Numbered
net_added numbered one = if has_name (signal_names numbered.0) one.name then numbered else (numbered.0 ++ record { name = one.name; slot = record { range = one.range; place = AtNet numbered.1 } } ∷ [], numbered.1 + width_of one.range)

-- the table with these nets, each where it did not have the name
abbrev pub nets_added : Numbered → List RangedName → Numbered
nets_added numbered [] = numbered
nets_added numbered (one ∷ rest) = nets_added (net_added numbered one) rest

-- the nets that an item declares
abbrev pub item_nets : ItemV → List RangedName
item_nets (Net decl) = ranged_nets decl
item_nets _ = []

-- the table with the nets that the items declare, each where it did not have the name
abbrev pub items_added : Numbered → List ItemV → Numbered
items_added numbered [] = numbered
items_added numbered (item ∷ items) = items_added (nets_added numbered (item_nets item)) items
