-- The tokens that a text can have.
use Rattle.std.specs.Prelude.{◌≡◌, ⊤, ℕ, ◌<◌, ◌≤◌, ◌^◌, true, List, length, nat_abs}
use Rattle.std.specs.List.{AllByRecursion}
use Rattle.nl_base.specs.Identifiers.{is_identifier}
use Rattle.edif_values.specs.declared.token.Token.{Token}
use Rattle.edif_values.specs.declared.token.Token.TheVariants.{LeftParen, RightParen, Word, Number, Str}

-- each of these numbers is one of a byte
abbrev pub AreBytes : List ℕ → Type 0
AreBytes bs = AllByRecursion (λ b. b < 256) bs

-- what a word, a number and a string of a text keep: an identifier of at most 1,024 bytes, an absolute value of at most
-- 2^63-1, at most 1,048,576 bytes
abbrev pub IsProper : Token → Type 0
IsProper LeftParen = ⊤
IsProper RightParen = ⊤
IsProper (Word w) = (is_identifier w ≡ true) × (length w ≤ 1024)
IsProper (Number z) = nat_abs z < 2 ^ 63
IsProper (Str s) = AreBytes s × (length s ≤ 1048576)
