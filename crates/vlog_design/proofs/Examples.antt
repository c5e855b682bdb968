-- The bits of some literals.
use Rattle.std.proofs.Common.{◌≡◌, ℕ, List, [], ◌∷◌, refl, false}
use Rattle.vlog_values.specs.Bits.{literal_bits, own_bits, decimal_bits, decimal_value, digit_bits, digit_value, binary_digits, fill_of, fitted}
use Rattle.vlog_values.specs.declared.literal.Base.{Base}
use Rattle.vlog_values.specs.declared.literal.Base.TheVariants.{Binary, Octal, Decimal, Hex}
use Rattle.vlog_values.specs.declared.literal.Bit.TheVariants.{Zero, One, X, Z}
use Rattle.vlog_values.specs.declared.literal.Literal.{Literal}

abbrev literal : ℕ → Base → List ℕ → Literal
literal size base digits = record { size = size; based = record { signed = false; base = base; digits = digits } }

-- 6'hx
pub hex_x : literal_bits (literal 6 Hex (120 ∷ [])) ≡ X ∷ X ∷ X ∷ X ∷ X ∷ X ∷ []
unfolding literal_bits own_bits digit_bits fill_of fitted binary_digits digit_value
hex_x = refl

-- 3'd9
pub decimal_nine : literal_bits (literal 3 Decimal (57 ∷ [])) ≡ Zero ∷ Zero ∷ One ∷ []
unfolding literal_bits own_bits decimal_bits decimal_value fill_of fitted binary_digits digit_value
decimal_nine = refl

-- 4'o7
pub octal_seven : literal_bits (literal 4 Octal (55 ∷ [])) ≡ Zero ∷ One ∷ One ∷ One ∷ []
unfolding literal_bits own_bits digit_bits fill_of fitted binary_digits digit_value
octal_seven = refl

-- 2'hF
pub hex_f : literal_bits (literal 2 Hex (70 ∷ [])) ≡ One ∷ One ∷ []
unfolding literal_bits own_bits digit_bits fill_of fitted binary_digits digit_value
hex_f = refl

-- 5'b1z
pub binary_z : literal_bits (literal 5 Binary (49 ∷ 122 ∷ [])) ≡ Zero ∷ Zero ∷ Zero ∷ One ∷ Z ∷ []
unfolding literal_bits own_bits digit_bits fill_of fitted binary_digits digit_value
binary_z = refl

-- 4'bz1
pub filled_z : literal_bits (literal 4 Binary (122 ∷ 49 ∷ [])) ≡ Z ∷ Z ∷ Z ∷ One ∷ []
unfolding literal_bits own_bits digit_bits fill_of fitted binary_digits digit_value
filled_z = refl
