-- The numbers of a seed, by which cells are swapped.
use Rattle.std.specs.Prelude.{ℕ, zero, suc, ◌+◌, ◌-◌, ◌*◌, ◌%◌, Bool, length, nat_le}
use Rattle.std.specs.List.{filter, range_with_len}

-- the numbers of a seed: the first is the seed modulo 256, each next one five times the one before and three, modulo 256
unfoldable pub number_at : ℕ → ℕ → ℕ
number_at seed zero = seed % 256
number_at seed (suc k) = (5 * number_at seed k + 3) % 256

-- the cell of a number behind 0 is swapped where the number of the seed is not below 128
abbrev pub is_swapped : ℕ → ℕ → Bool
is_swapped seed k = nat_le 128 (number_at seed k)

-- how many of so many cells are swapped; the first one is not
abbrev pub swapped_count : ℕ → ℕ → ℕ
swapped_count seed cells = length (filter (is_swapped seed) (range_with_len 1 (cells - 1)))
