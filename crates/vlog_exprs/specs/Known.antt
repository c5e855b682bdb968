-- What is known of an expression or a constant, and of its first token, when it is read.
use Rattle.std.specs.Prelude.{◌≡◌, ◌<◌, ⊤, ℕ, Bool, true, false}
use Rattle.vlog_values.specs.Bits.{IsBased}
use Rattle.vlog_values.specs.Values.{IsName, IsNumber, IsCount, IsConst, IsExprWithin, is_left}
use Rattle.vlog_values.specs.declared.expression.Expr.{Expr}
use Rattle.vlog_exprs.specs.declared.start.ExprStart.{ExprStart}
use Rattle.vlog_exprs.specs.declared.start.ExprStart.TheVariants as starts
use Rattle.vlog_exprs.specs.declared.start.ConstStart.{ConstStart}
use Rattle.vlog_exprs.specs.declared.start.ConstStart.TheVariants as const_starts

-- an expression that may stand on the left, if it has to
abbrev pub IsSide : Bool → Expr → Type 0
IsSide false e = ⊤
IsSide true e = is_left e ≡ true

-- an expression of a side with at most so many braces in one another
pub record IsGood (left : Bool) (levels : ℕ) (e : Expr) : Type 0 where
  pub within : IsExprWithin levels e
  pub side : IsSide left e

-- how an expression of a side begins, where so many braces may be opened, one in another
abbrev pub IsStart : Bool → ℕ → ExprStart → Type 0
IsStart left levels (starts.Name n) = IsName n
IsStart left levels (starts.Number n) = (left ≡ false) × IsCount n
IsStart left levels (starts.Based b) = (left ≡ false) × IsBased b
IsStart left levels starts.Brace = 0 < levels

-- how a constant begins
abbrev pub IsConstStart : ConstStart → Type 0
IsConstStart (const_starts.Whole c) = IsConst c
IsConstStart (const_starts.Sign negative) = ⊤
IsConstStart (const_starts.Number n) = IsNumber n
