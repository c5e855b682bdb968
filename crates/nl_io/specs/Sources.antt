-- What a source has left.
use Rattle.std.specs.Prelude.{ℕ, List, drop, Option, Result, Ok, Err}
use Rattle.std.specs.Option.{option_map}

-- what is seen of a source: the bytes that are left, where it tells them, and how often it has failed
pub record Supply : Type 0 where
  pub left : Option (List ℕ)
  pub faults : ℕ

-- what is left after n more bytes were taken, where the source tells it
abbrev pub left_past : ℕ → Option (List ℕ) → Option (List ℕ)
left_past n left = option_map (λ bs. drop n bs) left

-- how many bytes a call moved: none where it failed
abbrev pub count_of : {E : Type 0} → Result ℕ E → ℕ
count_of (Ok n) = n
count_of (Err e) = 0
