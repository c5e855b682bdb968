use Rattle.std.proofs.Common.{◌≡◌, drop}
use Rattle.std.specs.List.{list_any}
use Rattle.vlog_design.specs.Exprs.{has_loose}
use Rattle.vlog_ties.proofs.expressions.+loose.Given as goal

abbrev pub invariant-any_loose-loop-part : goal.invariant-any_loose-loop-part
invariant-any_loose-loop-part l = list_any has_loose (drop l.part-index l.parts) ≡ list_any has_loose l.parts
