-- Numbers of one digit.
use Rattle.std.proofs.Common.{◌≡◌, ℕ, ◌+◌, ◌<◌, [], ◌∷◌}
use Rattle.std.specs.Prelude.{decimal}
use Rattle.std.proofs.lemmas.Fmt.{decimal_digit}

pub digit_text : (n : ℕ) → n < 10 → decimal n ≡ (48 + n) ∷ []
digit_text n small = decimal_digit n small
