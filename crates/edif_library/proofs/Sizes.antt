-- The size of what a last call answers, where tokens were taken before it.
use Rattle.std.proofs.Common.{ℕ, ◌+◌, ◌<◌, Result, Ok, Err, IfOk, arith}

pub less_room : {A E : Type 0} (size : A → ℕ) (r : Result A E) (left between before : ℕ) → between < before → IfOk r (λ a. size a + left < between) → IfOk r (λ a. size a + left < before)
less_room size (Ok a) left between before le h = omega arith
less_room size (Err e) left between before le h = tt
