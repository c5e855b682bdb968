-- What a number stands for that may be left out.
use Rattle.std.specs.Prelude.{ℤ, ◌-◌, ◌^◌, negsuc, cond, int_lt, Option, None, Some}

-- the number, where it is not the least of its size
abbrev pub optional_number : ℤ → Option ℤ
optional_number n = cond (int_lt n (negsuc (2 ^ 63 - 2))) None (Some n)
