use Rattle.std.proofs.Common.{◌≡◌, ◌++◌, drop, flat_map}
use Rattle.vlog_design.specs.Exprs.{bits}
use Rattle.vlog_design.proofs.bits.+bits.Given as goal

abbrev pub invariant-push_parts-loop-part : goal.invariant-push_parts-loop-part
invariant-push_parts-loop-part l = l.out ++ flat_map (bits l.table) (drop l.part-index l.parts) ≡ l.initial.out ++ flat_map (bits l.table) l.parts
