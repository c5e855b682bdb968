-- The number by which a table finds names up to case.
use Rattle.std.specs.Prelude.{ℕ, ◌+◌, ◌*◌, ◌%◌, ◌^◌, List, fold}

-- the number of the bytes so far, and one more byte: FNV's prime, as sums that wrap at 64 bits
unfoldable pub one_byte_more : ℕ → ℕ → ℕ
one_byte_more digest byte = ((digest * 1099511628211) % 2 ^ 64 + byte) % 2 ^ 64

-- one number for all bytes
abbrev pub digest : List ℕ → ℕ
digest = fold one_byte_more 0
