use Rattle.std.proofs.Common.{◌≡◌, ◌++◌, drop, flat_map, length}
use Rattle.vlog_design.specs.Design.{joins_between}
use Rattle.vlog_design.specs.Exprs.{bits}
use Rattle.vlog_design.proofs.node_joins.push_parts_joins.Given as goal

abbrev pub invariant-loop-part : goal.invariant-loop-part
invariant-loop-part l = record {
  joined : l.out.items ++ joins_between l.rest (flat_map (bits l.table) (drop l.part-index l.parts)) ≡ l.initial.out.items ++ joins_between l.initial.rest (flat_map (bits l.table) l.parts);
  left : drop (length (flat_map (bits l.table) (drop l.part-index l.parts))) l.rest ≡ drop (length (flat_map (bits l.table) l.parts)) l.initial.rest;
}
