-- Declarations, as the code keeps them.
use Rattle.std.specs.Prelude.{List, ℕ, map}
use Rattle.std.specs.Borrow.{Bor}
use Rattle.vlog_design.specs.Names.{Declaration}
use Rattle.vlog_design.specs.declared.signals.Kind.{Kind}

abbrev pub declaration_of : Kind × Bor (List ℕ) → Declaration
declaration_of key = record { kind = key.0; name = key.1.now }

abbrev pub declarations_of : List (Kind × Bor (List ℕ)) → List Declaration
declarations_of = map declaration_of
