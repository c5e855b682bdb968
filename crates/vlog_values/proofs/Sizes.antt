-- The size of an expression, by its variants.
use Rattle.std.proofs.Common.{◌≡◌, ◌∙◌, ap, sym, ℕ, ℤ, ◌+◌, List, map, length, sum_by}
use Rattle.std.proofs.lemmas.List.{length-map}
use Rattle.std.proofs.lemmas.List.Sums.{sum-map}
use Rattle.vlog_values.specs.declared.literal.Based.{Based}
use Rattle.vlog_values.specs.declared.literal.Literal.{Literal}
use Rattle.vlog_values.specs.declared.expression.Select.{Select}
use Rattle.vlog_values.specs.declared.expression.Expr.{Expr}
use Rattle.vlog_values.specs.declared.expression.Expr.TheFolds.{fold-roll-Expr}
use Rattle.vlog_values.specs.declared.expression.Expr.TheOpen.{Expr-F}
use Rattle.vlog_values.specs.declared.expression.Expr.TheVariants as expr
use Rattle.vlog_values.specs.declared.expression.Expr.TheVariants.{rolls-Ref, rolls-Lit, rolls-LooseNumber, rolls-Loose, rolls-Cat, rolls-Rep}
use Rattle.vlog_values.specs.Sizes.{list_size, expr_step, expr_size}

pub size-Ref : (name : List ℕ) (select : Select) → expr_size (expr.Ref select name) ≡ 0
unfolding expr_size
size-Ref name select = ap expr_size (sym (rolls-Ref select name)) ∙ fold-roll-Expr ℕ expr_step (Expr-F.Ref select name)

pub size-Lit : (l : Literal) → expr_size (expr.Lit l) ≡ 0
unfolding expr_size
size-Lit l = ap expr_size (sym (rolls-Lit l)) ∙ fold-roll-Expr ℕ expr_step (Expr-F.Lit l)

pub size-LooseNumber : (n : ℤ) → expr_size (expr.LooseNumber n) ≡ 0
unfolding expr_size
size-LooseNumber n = ap expr_size (sym (rolls-LooseNumber n)) ∙ fold-roll-Expr ℕ expr_step (Expr-F.LooseNumber n)

pub size-Loose : (b : Based) → expr_size (expr.Loose b) ≡ 0
unfolding expr_size
size-Loose b = ap expr_size (sym (rolls-Loose b)) ∙ fold-roll-Expr ℕ expr_step (Expr-F.Loose b)

pub size-Cat : (es : List Expr) → expr_size (expr.Cat es) ≡ list_size expr_size es
unfolding expr_size
size-Cat es = ap expr_size (sym (rolls-Cat es)) ∙ (fold-roll-Expr ℕ expr_step (Expr-F.Cat es) ∙ (ap (λ n. n + length (map expr_size es)) (sum-map expr_size es) ∙ ap (λ n. sum_by expr_size es + n) (length-map es expr_size)))

pub size-Rep : (count : ℤ) (es : List Expr) → expr_size (expr.Rep count es) ≡ list_size expr_size es
unfolding expr_size
size-Rep count es = ap expr_size (sym (rolls-Rep count es)) ∙ (fold-roll-Expr ℕ expr_step (Expr-F.Rep count es) ∙ (ap (λ n. n + length (map expr_size es)) (sum-map expr_size es) ∙ ap (λ n. sum_by expr_size es + n) (length-map es expr_size)))

-- for an expression by its variants
pub ruleset expr_sizes = (size-Ref, size-Lit, size-LooseNumber, size-Loose, size-Cat, size-Rep)
