-- What the identifiers of ports and instances mean among those of a cell.
use Rattle.std.specs.Prelude.{ℕ, List}
use Rattle.edif_lookup.specs.Candidates.{candidates}
use Rattle.edif_lookup.specs.Tables.{meant_by}
use Rattle.edif_lookup.specs.declared.definitions.Meaning.{Meaning}
use Rattle.edif_values.specs.declared.instance.Instance.{Instance}
use Rattle.edif_values.specs.declared.port.Port.{Port}
use Rattle.edif_design.specs.CellRules.{port_ident}
use Rattle.edif_design.specs.Parts.{numbered}

-- the identifier by which references name an instance
abbrev pub instance_ident : Instance → List ℕ
instance_ident instance = instance.name.ident

-- what a portRef means among ports, and an instanceRef among instances
abbrev pub ports_meaning : List Port → List ℕ → Meaning
ports_meaning ports spelling = meant_by (candidates port_ident (numbered ports) spelling)

abbrev pub instances_meaning : List Instance → List ℕ → Meaning
instances_meaning instances spelling = meant_by (candidates instance_ident (numbered instances) spelling)
