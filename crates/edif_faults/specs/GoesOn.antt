-- Tokens that can be gone on with by tokens that a text can have (EDIF 2 0 0, edif).
use Rattle.std.specs.Prelude.{List, []}
use Rattle.grammar.specs.Whole.{Terminal, proper, end, whole}
use Rattle.nl_base.specs.declared.place.Place.{Place}
use Rattle.edif_values.specs.Proper.{IsProper}
use Rattle.edif_tokens.specs.declared.token.Found.{Found}
use Rattle.edif_keywords.specs.Reasons.{trailing}
use Rattle.edif_library.specs.Grammar.{file}
use Rattle.grammar_laws.specs.GoesOn.{BeginsBy}

-- a token that a text can have, or the end of the input
abbrev pub CanStand : Terminal Found Place → Type 0
CanStand (proper x) = IsProper x.token
CanStand (end p) = Unit {0}

-- tokens that a text can have go on with these to a file
abbrev pub GoesOn : List (Terminal Found Place) → Type 0
GoesOn ts = BeginsBy CanStand [] (whole trailing (file [])) ts
