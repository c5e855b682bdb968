-- The forms of expressions.
use Rattle.std.proofs.Common.{◌≡◌, ℕ, List, sym, ap, ◌∙◌}
use Rattle.std.specs.Prelude.{ℤ}
use Rattle.vlog_values.specs.declared.expression.Select.{Select}
use Rattle.vlog_values.specs.declared.expression.Expr.{Expr}
use Rattle.vlog_values.specs.declared.expression.Expr.TheFolds.{fold-roll-Expr}
use Rattle.vlog_values.specs.declared.expression.Expr.TheOpen.{Expr-F}
use Rattle.vlog_values.specs.declared.expression.Expr.TheVariants.{rolls-Ref, rolls-Lit, rolls-LooseNumber, rolls-Loose, rolls-Cat, rolls-Rep}
use Rattle.vlog_values.specs.declared.expression.Expr.TheVariants as expr
use Rattle.vlog_values.specs.declared.literal.Based.{Based}
use Rattle.vlog_values.specs.declared.literal.Literal.{Literal}
use Rattle.vlog_writer.specs.Layout.{Form, Number, Sized, Loose, ◌▸◌, each}
use Rattle.vlog_writer.specs.Forms.{braced, cat_form, expr_form, expr_step, ref_form}

pub ref_is : (name : List ℕ) (select : Select) → expr_form (expr.Ref select name) ≡ ref_form name select
ref_is name select = ap expr_form (sym (rolls-Ref select name)) ∙ fold-roll-Expr Form expr_step (Expr-F.Ref select name)

pub lit_is : (l : Literal) → expr_form (expr.Lit l) ≡ Sized l
lit_is l = ap expr_form (sym (rolls-Lit l)) ∙ fold-roll-Expr Form expr_step (Expr-F.Lit l)

pub number_is : (n : ℤ) → expr_form (expr.LooseNumber n) ≡ Number n
number_is n = ap expr_form (sym (rolls-LooseNumber n)) ∙ fold-roll-Expr Form expr_step (Expr-F.LooseNumber n)

pub loose_is : (b : Based) → expr_form (expr.Loose b) ≡ Loose b
loose_is b = ap expr_form (sym (rolls-Loose b)) ∙ fold-roll-Expr Form expr_step (Expr-F.Loose b)

pub cat_is : (es : List Expr) → expr_form (expr.Cat es) ≡ cat_form (each expr_form es)
cat_is es = ap expr_form (sym (rolls-Cat es)) ∙ fold-roll-Expr Form expr_step (Expr-F.Cat es)

pub rep_is : (n : ℤ) (es : List Expr) → expr_form (expr.Rep n es) ≡ braced (Number n ▸ cat_form (each expr_form es))
rep_is n es = ap expr_form (sym (rolls-Rep n es)) ∙ fold-roll-Expr Form expr_step (Expr-F.Rep n es)
