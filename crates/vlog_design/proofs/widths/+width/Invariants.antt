use Rattle.std.proofs.Common.{◌≡◌, ◌+◌, ◌≤◌, drop, map, min, sum}
use Rattle.vlog_design.specs.Exprs.{width}
use Rattle.vlog_design.proofs.widths.+width.Given as goal

abbrev pub invariant-parts_width-loop-part : goal.invariant-parts_width-loop-part
invariant-parts_width-loop-part l = record {
  capped : l.total ≤ 18446744073709551615;
  is_sum : min 18446744073709551615 (l.total + sum (map (width l.table) (drop l.part-index l.parts))) ≡ min 18446744073709551615 (sum (map (width l.table) l.parts));
}
