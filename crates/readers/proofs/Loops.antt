-- What lasts in a loop.
use Rattle.std.proofs.Common.{◌≡◌, ◌≤◌, ◌+◌, ℕ}
use Rattle.readers.specs.Parts.{PartOf}
use Rattle.nl_io.specs.Sources.{Supply}
use Rattle.nl_bytes.specs.Tokens.{Language, Moves}
use Rattle.readers.specs.Readers.{Reader, reading, stream, room}

-- The rest of a part reads now as the whole does from the start.
pub record Goes {K X A : Type 0} (L : Language X) (whole rest : PartOf K X A) (now start : Reader K X) (j i : Supply) : Type 0 where
  pub same : reading L rest start.context (stream L now j) ≡ reading L whole start.context (stream L start i)
  pub context : now.context ≡ start.context
  pub moves : Moves start.window now.window i j
  pub spent : now.spent ≡ start.spent
  pub room : room now ≤ room start

-- The same of a loop whose state is the context.
pub record GoesContext {K X A : Type 0} (L : Language X) (part : K → PartOf K X A) (now start : Reader K X) (j i : Supply) : Type 0 where
  pub same : reading L (part now.context) start.context (stream L now j) ≡ reading L (part start.context) start.context (stream L start i)
  pub moves : Moves start.window now.window i j
  pub spent : now.spent ≡ start.spent
  pub room : room now ≤ room start

-- The same of a loop that makes a list: what is known of its items, and how many there are in all their lists.
pub record Collects {K X A : Type 0} (L : Language X) (whole rest : PartOf K X A) (Good : Type 0) (size : ℕ) (now start : Reader K X) (j i : Supply) : Type 0 where
  pub same : reading L rest start.context (stream L now j) ≡ reading L whole start.context (stream L start i)
  pub context : now.context ≡ start.context
  pub moves : Moves start.window now.window i j
  pub spent : now.spent ≡ start.spent
  -- each item has a token of its own
  pub room : size + room now ≤ room start
  pub good : Good
