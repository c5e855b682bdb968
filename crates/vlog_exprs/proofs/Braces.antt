-- What stands behind a brace.
use Rattle.std.proofs.Common.{◌≡◌, ◌<◌, ◌-◌, ℕ, zero, suc, Bool, Option, refl, arith}
use Rattle.grammar.specs.Part.{sequence}
use Rattle.nl_bytes.specs.Tokens.{Ahead}
use Rattle.readers.specs.Readers.{reading}
use Rattle.readers.proofs.Reading.{sequences}
use Rattle.vlog_tokens.specs.declared.token.VFound.{VFound}
use Rattle.vlog_tokens.specs.Language.{vlog}
use Rattle.vlog_values.specs.declared.expression.Expr.{Expr}
use Rattle.vlog_exprs.specs.declared.start.ExprStart.{ExprStart}
use Rattle.vlog_exprs.specs.declared.start.ExprStart.TheVariants as starts
use Rattle.vlog_exprs.specs.Language.{NoContext, Vlog}
use Rattle.vlog_exprs.specs.Grammar.{expr_start, expr_rest, cat_rest, braced, inside, expr}

pub inside_reads : (left : Bool) (room : ℕ) (k : NoContext) (s : Option (Ahead VFound)) → 0 < room → reading vlog (inside left room) k s ≡ reading vlog (sequence (expr_start left (room - 1)) (braced (expr left (room - 1)) (inside left (room - 1)))) k s
unfolding inside expr
inside_reads left zero k s h = absurd (omega arith)
inside_reads left (suc room) k s h = let e : suc room - 1 ≡ room = omega arith in rw e refl

pub other_braced : (p inner : Vlog Expr) (start : ExprStart) (k : NoContext) (s : Option (Ahead VFound)) → ((n : _) → start ≡ starts.Number n → ⊥) → reading vlog (braced p inner start) k s ≡ reading vlog (sequence (expr_rest inner start) (cat_rest p)) k s
unfolding braced
other_braced p inner (starts.Name n) k s h = refl
other_braced p inner (starts.Number n) k s h = absurd (h n refl)
other_braced p inner (starts.Based b) k s h = refl
other_braced p inner starts.Brace k s h = refl

-- for calls behind a brace
pub ruleset in_braces = (inside_reads, other_braced, sequences)
