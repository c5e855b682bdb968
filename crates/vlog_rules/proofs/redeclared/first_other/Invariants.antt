use Rattle.std.proofs.Common.{◌≡◌, drop, find}
use Rattle.vlog_rules.specs.Redeclared.{other_in}
use Rattle.vlog_rules.proofs.redeclared.first_other.Given as goal

abbrev pub invariant-loop-name : goal.invariant-loop-name
invariant-loop-name l = find (other_in l.table l.fn.decl.range) (drop l.name-index l.fn.decl.names) ≡ find (other_in l.table l.fn.decl.range) l.fn.decl.names
