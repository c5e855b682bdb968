-- Names in expressions, as the code keeps them.
use Rattle.std.specs.Prelude.{List, map}
use Rattle.vlog_design.specs.Names.{Use}
use Rattle.vlog_design.specs.declared.uses.UseOf.{UseOf}

abbrev pub use_of : UseOf → Use
use_of u = record { name = u.name.now; select = u.select }

abbrev pub uses_of : List UseOf → List Use
uses_of = map use_of
