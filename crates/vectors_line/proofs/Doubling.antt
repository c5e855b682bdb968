-- Powers of two up to the greatest u64.
use Rattle.std.proofs.Common.{arith, ◌≡◌, ℕ, ◌+◌, ◌-◌, ◌*◌, ◌^◌, min}
use Rattle.std.proofs.lemmas.Nat.{pow-add}
use Rattle.vectors_line.specs.Lines.{saturated}

pub doubled : (k leaves : ℕ) → leaves ≡ saturated (2 ^ k) → min (leaves * 2) (2 ^ 64 - 1) ≡ saturated (2 ^ (k + 1))
doubled k leaves is = (let e : 2 ^ (k + 1) ≡ 2 ^ k * 2 ^ 1 = pow-add 2 k 1 in omega (arith, e, is))
