-- What a sink took.
use Rattle.std.specs.Prelude.{◌≡◌, ℕ, ◌-◌, ◌^◌, min, List, length, ◌++◌}

-- What is seen of a sink: the bytes that may be those that it took, a fact that tells as much of them as the sink does; that it takes so many more bytes
-- without a failure, in whatever parts they are put; and how often it has failed.
pub record Receipt : Type 1 where
  pub taken : List ℕ → Type 0
  pub accepts : ℕ → Type 0
  pub faults : ℕ

-- a sink that had taken some bytes has now taken those and then these
abbrev pub Gains : (List ℕ → Type 0) → (List ℕ → Type 0) → List ℕ → Type 0
Gains before after bytes = (bs : List ℕ) → before bs → after (bs ++ bytes)

-- a sink has taken what it had taken before
abbrev pub Keeps : (List ℕ → Type 0) → (List ℕ → Type 0) → Type 0
Keeps before after = (bs : List ℕ) → before bs → after bs

-- a count of bytes, up to the end of a u64, is the number of these
abbrev pub IsCountOf : ℕ → List ℕ → Type 0
IsCountOf count bytes = count ≡ min (length bytes) (2 ^ 64 - 1)
