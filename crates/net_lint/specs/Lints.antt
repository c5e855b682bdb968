-- What a call that puts the findings of a design does.
use Rattle.std.specs.Prelude.{◌≡◌, ℕ, ◌<◌, List, Result, Ok, Err}
use Rattle.nl_io.specs.Sinks.{Receipt}
use Rattle.nl_io.specs.declared.source.Failed.{Failed as failed}
use Rattle.nl_output.specs.Writing.{Writes}
use Rattle.net_hier.specs.Constants.{ConstantNames}
use Rattle.net_hier.specs.Design.{Design}
use Rattle.flat_classes.specs.FlatSums.{IsFewFlat, flat_count, flat_limit}
use Rattle.net_lint.specs.Lint.{IsLint}
use Rattle.net_lint.specs.declared.linting.LintError.{LintError}
use Rattle.net_lint.specs.declared.linting.LintError.TheVariants.{FlatTooLarge, Failed, NoMemory}

-- the findings of a design within the flat limit were written, or a front of them where a put failed
pub record HasLinted {O : Type 0} (receipt : O → Receipt) (names : ConstantNames) (design : Design) (old new : O) (result : Result (Unit {0}) failed) : Type 0 where
  pub few : IsFewFlat design
  pub text : List ℕ
  pub is_lint : IsLint names design text
  pub writes : Writes receipt old new text result

-- what a call did: the text was put, or a front of it; nothing was put where the flat count, which is told, is above the limit, and where memory ran out
abbrev pub Lints : {O : Type 0} → (O → Receipt) → ConstantNames → Design → O → O → Result (Unit {0}) LintError → Type 0
Lints receipt names design old new (Ok done) = HasLinted receipt names design old new (Ok done)
Lints receipt names design old new (Err Failed) = (e : failed) × HasLinted receipt names design old new (Err e)
Lints receipt names design old new (Err (FlatTooLarge count)) = (count ≡ flat_count design.cells design.top) × (flat_limit < count) × (new ≡ old)
Lints receipt names design old new (Err NoMemory) = new ≡ old
