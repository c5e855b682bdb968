use Rattle.std.proofs.Common.{take}
use Rattle.edif_design.specs.References.{place_in}
use Rattle.edif_rules.specs.Walks.{Walks}
use Rattle.edif_rules.proofs.walk.meet_items.Given as goal

abbrev pub invariant-loop-item : goal.invariant-loop-item
invariant-loop-item l = Walks l.tables (place_in l.home l.cell) (take l.item-index l.items) l.initial.met l.best l.met
