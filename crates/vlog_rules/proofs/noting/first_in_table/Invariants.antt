use Rattle.std.proofs.Common.{◌≡◌, [], drop, take}
use Rattle.vlog_design.specs.Names.{Name, clashing}
use Rattle.vlog_design.specs.Rules.{clash, first_of}
use Rattle.vlog_rules.specs.Kinds.{kept_kinds, kinds_among}
use Rattle.vlog_rules.specs.Seen.{declarations_of}
use Rattle.vlog_rules.proofs.noting.first_in_table.Given as goal

abbrev pub invariant-loop-declaration : goal.invariant-loop-declaration
invariant-loop-declaration l = record {
  met : (name : Name) → kept_kinds l.met name ≡ kinds_among (declarations_of (take l.declaration-index l.declarations)) name;
  left : first_of (clashing clash (declarations_of (take l.declaration-index l.declarations)) (declarations_of (drop l.declaration-index l.declarations))) ≡ first_of (clashing clash [] (declarations_of l.declarations));
}
