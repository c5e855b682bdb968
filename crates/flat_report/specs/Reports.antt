-- What a call that puts a report does.
use Rattle.std.specs.Prelude.{◌≡◌, ℕ, ◌<◌, List, Result, Ok, Err}
use Rattle.nl_io.specs.Sinks.{Receipt}
use Rattle.nl_io.specs.declared.source.Failed.{Failed as failed}
use Rattle.nl_output.specs.Writing.{Writes}
use Rattle.net_hier.specs.Constants.{ConstantNames}
use Rattle.net_hier.specs.Design.{Design}
use Rattle.flat_classes.specs.FlatSums.{IsFewFlat, flat_count, flat_limit}
use Rattle.flat_report.specs.Report.{IsReport}
use Rattle.flat_report.specs.declared.reporting.ReportError.{ReportError}
use Rattle.flat_report.specs.declared.reporting.ReportError.TheVariants.{FlatTooLarge, Failed, NoMemory}

-- the report of a design within the flat limit was written, or a front of it where a put failed
pub record HasReported {O : Type 0} (receipt : O → Receipt) (names : ConstantNames) (design : Design) (old new : O) (result : Result (Unit {0}) failed) : Type 0 where
  pub few : IsFewFlat design
  pub text : List ℕ
  pub is_report : IsReport names design text
  pub writes : Writes receipt old new text result

-- what a report did: the text was put, or a front of it; nothing was put where the flat count, which is told, is above the limit, and where memory ran out
abbrev pub Reports : {O : Type 0} → (O → Receipt) → ConstantNames → Design → O → O → Result (Unit {0}) ReportError → Type 0
Reports receipt names design old new (Ok done) = HasReported receipt names design old new (Ok done)
Reports receipt names design old new (Err Failed) = (e : failed) × HasReported receipt names design old new (Err e)
Reports receipt names design old new (Err (FlatTooLarge count)) = (count ≡ flat_count design.cells design.top) × (flat_limit < count) × (new ≡ old)
Reports receipt names design old new (Err NoMemory) = new ≡ old
