-- The tokens that a text can have.
use Rattle.std.specs.Prelude.{⊤, List}
use Rattle.std.specs.List.{AllByRecursion}
use Rattle.grammar.specs.Whole.{Terminal, proper, end}
use Rattle.nl_base.specs.declared.place.Place.{Place}
use Rattle.edif_tokens.specs.declared.token.Found.{Found}
use Rattle.edif_values.specs.Proper.{IsProper}

-- a token of a text, or the end of the input
abbrev pub IsSound : Terminal Found Place → Type 0
IsSound (proper x) = IsProper x.token
IsSound (end p) = ⊤

-- all these are such
abbrev pub AreSound : List (Terminal Found Place) → Type 0
AreSound ts = AllByRecursion IsSound ts
