-- The normal spelling of a based literal: the size in decimal, `'`, `s` where it is signed, the small letter of the base, and the digits
-- as they stand (IEEE 1364-2005, 3.5.1).
use Rattle.std.specs.Prelude.{ℕ, if◌then◌else◌, List, [], ◌∷◌, ◌++◌, decimal}
use Rattle.vlog_values.specs.declared.literal.Base.{Base}
use Rattle.vlog_values.specs.declared.literal.Base.TheVariants.{Binary, Octal, Decimal, Hex}
use Rattle.vlog_values.specs.declared.literal.Based.{Based}
use Rattle.vlog_values.specs.declared.literal.Literal.{Literal}

-- the small letter of a base: `b`, `o`, `d` or `h` (3.5.1)
abbrev pub base_letter : Base → ℕ
base_letter Binary = 98
base_letter Octal = 111
base_letter Decimal = 100
base_letter Hex = 104

-- the normal spelling of a literal without a size (3.5.1)
unfoldable pub based_spelling : Based → List ℕ
based_spelling based = 39 ∷ (if based.signed then 115 ∷ [] else []) ++ base_letter based.base ∷ based.digits

-- the normal spelling of a literal (3.5.1)
unfoldable pub literal_spelling : Literal → List ℕ
literal_spelling literal = decimal literal.size ++ based_spelling literal.based
