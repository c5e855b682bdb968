-- What is known of an expression by its variants, and what makes one.
use Rattle.std.proofs.Common.{◌≡◌, ◌∙◌, ap, sym, subst, ℕ, zero, suc, ℤ, List, Bool, true, false, map}
use Rattle.std.specs.List.{list_all}
use Rattle.vlog_values.specs.declared.literal.Based.{Based}
use Rattle.vlog_values.specs.declared.literal.Literal.{Literal}
use Rattle.vlog_values.specs.declared.expression.Select.{Select}
use Rattle.vlog_values.specs.declared.expression.Expr.{Expr}
use Rattle.vlog_values.specs.declared.expression.Expr.TheFolds.{fold-roll-Expr}
use Rattle.vlog_values.specs.declared.expression.Expr.TheOpen.{Expr-F}
use Rattle.vlog_values.specs.declared.expression.Expr.TheViews.{out-Expr, out-roll-Expr}
use Rattle.vlog_values.specs.declared.expression.Expr.TheVariants as expr
use Rattle.vlog_values.specs.declared.expression.Expr.TheVariants.{rolls-Ref, rolls-Lit, rolls-LooseNumber, rolls-Loose, rolls-Cat, rolls-Rep}
use Rattle.vlog_values.specs.Values.{AreSome, IsLayer, IsExprWithin, left_step, is_left}

-- ---- one layer of an expression

pub out-Ref : (name : List ℕ) (select : Select) → out-Expr (expr.Ref select name) ≡ Expr-F.Ref select name
out-Ref name select = ap out-Expr (sym (rolls-Ref select name)) ∙ out-roll-Expr (Expr-F.Ref select name)

pub out-Lit : (l : Literal) → out-Expr (expr.Lit l) ≡ Expr-F.Lit l
out-Lit l = ap out-Expr (sym (rolls-Lit l)) ∙ out-roll-Expr (Expr-F.Lit l)

pub out-LooseNumber : (n : ℤ) → out-Expr (expr.LooseNumber n) ≡ Expr-F.LooseNumber n
out-LooseNumber n = ap out-Expr (sym (rolls-LooseNumber n)) ∙ out-roll-Expr (Expr-F.LooseNumber n)

pub out-Loose : (b : Based) → out-Expr (expr.Loose b) ≡ Expr-F.Loose b
out-Loose b = ap out-Expr (sym (rolls-Loose b)) ∙ out-roll-Expr (Expr-F.Loose b)

pub out-Cat : (es : List Expr) → out-Expr (expr.Cat es) ≡ Expr-F.Cat es
out-Cat es = ap out-Expr (sym (rolls-Cat es)) ∙ out-roll-Expr (Expr-F.Cat es)

pub out-Rep : (count : ℤ) (es : List Expr) → out-Expr (expr.Rep count es) ≡ Expr-F.Rep count es
out-Rep count es = ap out-Expr (sym (rolls-Rep count es)) ∙ out-roll-Expr (Expr-F.Rep count es)

-- ---- expressions that are read from a text or can be written

-- what may stand in the braces of an expression with at most so many in one another
abbrev pub AreWithin : ℕ → List Expr → Type 0
AreWithin zero es = ⊥
AreWithin (suc levels) es = AreSome (IsExprWithin levels) es

-- what is known of a layer is known of the expression, and the other way round
pub is_expr : (levels : ℕ) (e : Expr) (x : Expr-F Expr) → out-Expr e ≡ x → IsLayer (AreWithin levels) x → IsExprWithin levels e
unfolding IsExprWithin
is_expr zero e x h is = subst (λ x. IsLayer (λ es. ⊥) x) (sym h) is
is_expr (suc levels) e x h is = subst (λ x. IsLayer (AreSome (IsExprWithin levels)) x) (sym h) is

pub is_layer : (levels : ℕ) (e : Expr) (x : Expr-F Expr) → out-Expr e ≡ x → IsExprWithin levels e → IsLayer (AreWithin levels) x
unfolding IsExprWithin
is_layer zero e x h is = subst (λ x. IsLayer (λ es. ⊥) x) h is
is_layer (suc levels) e x h is = subst (λ x. IsLayer (AreSome (IsExprWithin levels)) x) h is

-- ---- expressions that may stand on the left

pub left-Ref : (name : List ℕ) (select : Select) → is_left (expr.Ref select name) ≡ true
unfolding is_left
left-Ref name select = ap is_left (sym (rolls-Ref select name)) ∙ fold-roll-Expr Bool left_step (Expr-F.Ref select name)

pub left-Lit : (l : Literal) → is_left (expr.Lit l) ≡ false
unfolding is_left
left-Lit l = ap is_left (sym (rolls-Lit l)) ∙ fold-roll-Expr Bool left_step (Expr-F.Lit l)

pub left-LooseNumber : (n : ℤ) → is_left (expr.LooseNumber n) ≡ false
unfolding is_left
left-LooseNumber n = ap is_left (sym (rolls-LooseNumber n)) ∙ fold-roll-Expr Bool left_step (Expr-F.LooseNumber n)

pub left-Loose : (b : Based) → is_left (expr.Loose b) ≡ false
unfolding is_left
left-Loose b = ap is_left (sym (rolls-Loose b)) ∙ fold-roll-Expr Bool left_step (Expr-F.Loose b)

pub left-Cat : (es : List Expr) → is_left (expr.Cat es) ≡ list_all (λ l. l) (map is_left es)
unfolding is_left
left-Cat es = ap is_left (sym (rolls-Cat es)) ∙ fold-roll-Expr Bool left_step (Expr-F.Cat es)

pub left-Rep : (count : ℤ) (es : List Expr) → is_left (expr.Rep count es) ≡ false
unfolding is_left
left-Rep count es = ap is_left (sym (rolls-Rep count es)) ∙ fold-roll-Expr Bool left_step (Expr-F.Rep count es)
