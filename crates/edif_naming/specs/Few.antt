-- The identifiers of few properties, of which no name begins with the stem of identifiers that are made.
use Rattle.std.specs.Prelude.{ℕ, List, [], map}
use Rattle.edif_meanings.specs.Apart.{AreApart}
use Rattle.edif_written.specs.Naming.{ident_of, name_of}
use Rattle.edif_spaces.specs.Plain.{IsPlain}
use Rattle.edif_spaces.specs.Spaces.{AreIdentsBehind}
use Rattle.edif_values.specs.declared.property.Property.{Property}

-- the properties have the identifiers of their names, and of the identifiers that can be made those with a lesser number are used
pub record ArePlain (made : List Property) (from : ℕ) : Type 0 where
  pub plain : IsPlain (map ident_of made) from
  pub apart : AreApart (map ident_of made)
  pub each : AreIdentsBehind [] (map name_of made) (map ident_of made)
