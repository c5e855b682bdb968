use Rattle.std.proofs.Common.{rules}
use Rattle.edif_values.proofs.Names.{port_named}
use Rattle.edif_values.proofs.original_name.port_original.Goals as goal

-- the name and the range are those of the array, since they are its original name and range
pub returns-in-Array-clause-names : goal.returns-in-Array-clause-names
returns-in-Array-clause-names c = port_named _ _ _ c.requires (search rules)
