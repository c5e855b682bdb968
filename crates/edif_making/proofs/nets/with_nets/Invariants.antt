use Rattle.std.proofs.Common.{◌≡◌, ◌+◌, drop, length, reverse, take}
use Rattle.edif_making.specs.CellPlans.{cell_plan_of}
use Rattle.edif_making.specs.Nets.{AreNetsOf, HaveNets}
use Rattle.edif_making.proofs.nets.with_nets.Given as goal

abbrev pub invariant-loop-ident : goal.invariant-loop-ident
invariant-loop-ident l = record {
  others : reverse l.left.items ≡ drop l.place l.fn.idents;
  counted : l.place + length l.left.items ≡ length l.fn.idents;
  have : HaveNets l.fn.first.items (AreNetsOf (cell_plan_of l.scope) (take l.place l.fn.idents) (take l.place l.members)) l.items.items;
}

abbrev pub decreases-loop-ident : goal.decreases-loop-ident
decreases-loop-ident l = length l.left.items
