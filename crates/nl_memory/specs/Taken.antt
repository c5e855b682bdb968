-- A sink in memory that grows.
use Rattle.std.specs.Prelude.{◌≡◌, ℕ, List, []}
use Rattle.nl_io.specs.Sinks.{Receipt}

-- the bytes that it took, and how often memory ran out, up to the end of a u64
pub record Taken : Type 0 where
  pub bytes : List ℕ
  pub faults : ℕ

-- it took nothing
abbrev pub untaken : Taken
untaken = record { bytes = []; faults = 0 }

-- what is seen of it as a sink: it is not known to take any more bytes, since memory may run out
abbrev pub in_memory : Taken → Receipt
in_memory s = record { taken = λ bs. bs ≡ s.bytes; accepts = λ _. ⊥; faults = s.faults }
