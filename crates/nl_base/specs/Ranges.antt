-- Bit ranges, and texts that end with one in brackets, as `bus[7:0]`.
use Rattle.std.specs.Prelude.{◌≡◌, ℕ, ◌+◌, ◌<◌, ◌^◌, List, [], ◌∷◌, ◌++◌, ℤ, pos, ◌+ℤ◌, ◌-ℤ◌, nat_abs, int_lt, if◌then◌else◌}
use Rattle.std.specs.Fmt.{signed_decimal}

-- the indexes of the leftmost and the rightmost bit (IEEE 1364-2005, vectors)
pub record Bounds : Type 0 where
  pub left : ℤ
  pub right : ℤ

-- how many bits a range has
abbrev pub range_bits : Bounds → ℕ
range_bits range = nat_abs (range.left -ℤ range.right) + 1

-- the index of the bit at a position from the left, where the leftmost has position 0
abbrev pub index_at : Bounds → ℕ → ℤ
index_at range position = if int_lt range.left range.right then range.left +ℤ pos position else range.left -ℤ pos position

-- the three kinds of brackets that may stand round a range
pub data Bracket : Type 0 where
  square : Bracket
  angle : Bracket
  round : Bracket

-- the opening bracket's byte
abbrev pub opening : Bracket → ℕ
opening square = 91
opening angle = 60
opening round = 40

-- the closing bracket's byte
abbrev pub closing : Bracket → ℕ
closing square = 93
closing angle = 62
closing round = 41

-- a range in brackets: its two indexes in decimal with a `:` between them
abbrev pub bracketed : Bracket → Bounds → List ℕ
bracketed bracket range = opening bracket ∷ (signed_decimal range.left ++ (58 ∷ (signed_decimal range.right ++ (closing bracket ∷ []))))

-- the text is a base and then a range of this many bits in brackets, of indexes of at most 2^31-1 in absolute value
pub record HasRangeForm (text : List ℕ) (size : ℕ) (base : List ℕ) (range : Bounds) : Type 0 where
  pub bracket : Bracket
  pub is_text : text ≡ base ++ bracketed bracket range
  pub left_fits : nat_abs range.left < 2 ^ 31
  pub right_fits : nat_abs range.right < 2 ^ 31
  pub is_size : range_bits range ≡ size

-- the text has no range form for this many bits
abbrev pub HasNoRangeForm : List ℕ → ℕ → Type 0
HasNoRangeForm text size = (base : List ℕ) (range : Bounds) → HasRangeForm text size base range → ⊥
