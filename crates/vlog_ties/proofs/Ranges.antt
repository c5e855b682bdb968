-- Steps of loops over the bits of a range.
use Rattle.std.proofs.Common.{◌≡◌, ℕ, suc, ◌+◌, ◌-◌, ◌<◌, ◌∷◌, map, ap, arith}
use Rattle.std.specs.List.{range_with_len}

pub range_step : {A : Type 0} (f : ℕ → A) (bit count : ℕ) → bit < count → map f (range_with_len bit (count - bit)) ≡ f bit ∷ map f (range_with_len (bit + 1) (count - (bit + 1)))
range_step f bit count h = let e : count - bit ≡ suc (count - (bit + 1)) = omega arith in ap (λ k. map f (range_with_len bit k)) e
