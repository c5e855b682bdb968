use Rattle.std.proofs.Common.{◌≡◌, ℕ, ◌<◌, List, Option, Some, length, subst, sym}
use Rattle.net_bits.specs.Flood.{number}
use Rattle.net_bits.proofs.flood.number_classes.Goals as goal

pub all_of-requires : goal.all_of-requires
all_of-requires g c = subst (λ (xs : List (Option ℕ)). (v : ℕ) → v < length xs → (x : ℕ) × (number xs v ≡ Some x)) (sym c.as_slice.ensures.value)
    (λ v h. let r = c.in_ok-classes.ensures.numbers.all v h in (r.0, r.2))
