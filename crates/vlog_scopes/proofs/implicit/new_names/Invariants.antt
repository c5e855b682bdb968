use Rattle.std.proofs.Common.{◌≡◌, ◌++◌, [], drop}
use Rattle.vlog_design.specs.Names.{has_name}
use Rattle.vlog_design.specs.Tables.{names_of}
use Rattle.vlog_design.specs.Uses.{uses_of}
use Rattle.vlog_scopes.specs.Implicit.{new_places, used_names}
use Rattle.vlog_scopes.proofs.implicit.new_names.Given as goal

abbrev pub invariant-loop-u : goal.invariant-loop-u
invariant-loop-u l = record {
  seen : l.seen ≡ names_of l.names.items;
  added : names_of l.names.items ++ new_places (has_name l.nets) (names_of l.names.items) (used_names (uses_of (drop l.u-index l.uses))) ≡ new_places (has_name l.nets) [] (used_names (uses_of l.uses));
}
