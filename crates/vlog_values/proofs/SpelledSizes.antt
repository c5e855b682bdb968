-- The size that bytes spell.
use Rattle.std.proofs.Common.{◌≡◌, ℕ, List, None, refl}
use Rattle.nl_base.specs.RangeForm.{spelled_index}
use Rattle.vlog_values.specs.Spelled.{spelled_size}

pub no_size : (bytes : List ℕ) → spelled_index bytes ≡ None → spelled_size bytes ≡ None
unfolding spelled_size
no_size bytes e = rw e refl
