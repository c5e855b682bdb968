-- The range form as a function, for definitions that compute: it answers the base and the range exactly where a text has the range form (`proofs/RangeForm.antt`).
use Rattle.std.specs.Prelude.{◌≡◌, false, ℕ, ◌^◌, ◌&&◌, ◌==◌, nat_lt, List, [], ◌∷◌, Option, Some, None, option_map, ℤ, nat_abs, if◌then◌else◌}
use Rattle.std.specs.List.{AllByRecursion}
use Rattle.std.specs.Option.{option_and_then}
use Rattle.std.specs.Fmt.{signed_decimal}
use Rattle.std.specs.Str.{bytes_eq}
use Rattle.std.specs.Str.Parse.{signed_digits_value}
use Rattle.nl_base.specs.Ranges.{Bounds, range_bits}

-- the index that these bytes are the decimal text of
abbrev pub spelled_index : List ℕ → Option ℤ
spelled_index bytes =
    if nat_lt (nat_abs (signed_digits_value 10 bytes)) (2 ^ 31) && bytes_eq (signed_decimal (signed_digits_value 10 bytes)) bytes
    then Some (signed_digits_value 10 bytes)
    else None

-- the range of these indexes, where it has this many bits
abbrev pub sized_range : ℕ → Option ℤ → Option ℤ → Option Bounds
sized_range size None right = None
sized_range size (Some left) None = None
sized_range size (Some left) (Some right) =
    if range_bits (record { left = left; right = right }) == size then Some (record { left = left; right = right }) else None

-- no byte has this value
abbrev pub IsFreeOf : ℕ → List ℕ → Type 0
IsFreeOf byte bytes = AllByRecursion (λ b. (b == byte) ≡ false) bytes

-- the bytes before the first byte of this value, and those after it
abbrev pub cut_at_first : ℕ → List ℕ → Option (List ℕ × List ℕ)
cut_at_first byte [] = None
cut_at_first byte (b ∷ bs) = if b == byte then Some ([], bs) else option_map (λ sides. (b ∷ sides.0, sides.1)) (cut_at_first byte bs)

-- the bytes before the last byte of this value, and those after it
abbrev pub cut_at_last : ℕ → List ℕ → Option (List ℕ × List ℕ)
cut_at_last byte [] = None
cut_at_last byte (b ∷ bs) = elim (cut_at_last byte bs) [
  | None ↦ if b == byte then Some ([], bs) else None
  | Some sides ↦ Some (b ∷ sides.0, sides.1)
]

-- the bytes before the last one, and the last
abbrev pub cut_at_end : List ℕ → Option (List ℕ × ℕ)
cut_at_end [] = None
cut_at_end (b ∷ bs) = elim (cut_at_end bs) [ None ↦ Some ([], b) | Some ends ↦ Some (b ∷ ends.0, ends.1) ]

-- the opening bracket of a closing one
abbrev pub opening_of : ℕ → Option ℕ
opening_of byte = if byte == 93 then Some 91 else (if byte == 62 then Some 60 else (if byte == 41 then Some 40 else None))

-- the range of this many bits that these bytes spell without brackets
abbrev pub spelled_range : ℕ → List ℕ → Option Bounds
spelled_range size body = option_and_then (λ sides. sized_range size (spelled_index sides.0) (spelled_index sides.1)) (cut_at_first 58 body)

-- the base and the range before the closing bracket
abbrev pub opened_range : ℕ → List ℕ → ℕ → Option (List ℕ × Bounds)
opened_range size front bracket = option_and_then (λ sides. option_map (λ range. (sides.0, range)) (spelled_range size sides.1)) (cut_at_last bracket front)

-- the base and the range of this many bits, where the text has the range form
unfoldable pub range_form : List ℕ → ℕ → Option (List ℕ × Bounds)
range_form text size = option_and_then (λ ends. option_and_then (opened_range size ends.0) (opening_of ends.1)) (cut_at_end text)
