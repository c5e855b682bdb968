-- The literals of an expression that a text can have are spelled in their bases.
use Rattle.std.proofs.Common.{◌≡◌, ℕ, zero, suc, ℤ, All, List, [], ◌∷◌, ◌++◌, flat_map, ap, subst, sym, ◌∙◌}
use Rattle.std.specs.List.{AllByRecursion}
use Rattle.std.proofs.lemmas.List.Elements.{All-from_recursion}
use Rattle.vlog_design.specs.Exprs.{literals, literals_step}
use Rattle.vlog_design.specs.Numbers.{HasDigits}
use Rattle.vlog_design.proofs.ExprLemmas.{literals-Cat, literals-Lit, literals-Rep}
use Rattle.vlog_values.specs.Values.{IsExpr, IsExprWithin}
use Rattle.vlog_values.proofs.Values.{is_layer, out-Cat, out-Lit, out-Rep}
use Rattle.vlog_values.specs.declared.expression.Expr.{Expr}
use Rattle.vlog_values.specs.declared.expression.Expr.TheFolds.{fold-roll-Expr, ind-Expr}
use Rattle.vlog_values.specs.declared.expression.Expr.TheOpen.{Expr-F}
use Rattle.vlog_values.specs.declared.expression.Expr.TheVariants as expr
use Rattle.vlog_values.specs.declared.expression.Expr.TheVariants.{rolls-Ref, rolls-Lit, rolls-LooseNumber, rolls-Loose, rolls-Cat, rolls-Rep}
use Rattle.vlog_values.specs.declared.expression.Expr.TheViews.{roll-Expr}
use Rattle.vlog_values.specs.declared.expression.Select.{Select}
use Rattle.vlog_values.specs.declared.literal.Based.{Based}
use Rattle.vlog_values.specs.declared.literal.Literal.{Literal}

-- lists

pub every_append : {A : Type 0} (P : A → Type 0) (xs ys : List A) → AllByRecursion P xs → AllByRecursion P ys → AllByRecursion P (xs ++ ys)
every_append P [] ys h k = k
every_append P (x ∷ xs) ys h k = (h.0, every_append P xs ys h.1 k)

pub every_part : {A B : Type 0} (Q : A → Type 0) (P : B → Type 0) (f : A → List B) → ((x : A) → Q x → AllByRecursion P (f x)) → (xs : List A) → AllByRecursion Q xs → AllByRecursion P (flat_map f xs)
every_part Q P f g [] h = tt
every_part Q P f g (x ∷ xs) h = every_append P (f x) (flat_map f xs) (g x h.0) (every_part Q P f g xs h.1)

-- the literals of the variants that hold none

literals-Ref : (name : List ℕ) (select : Select) → literals (expr.Ref select name) ≡ []
unfolding literals
literals-Ref name select = ap literals (sym (rolls-Ref select name)) ∙ fold-roll-Expr (List Literal) literals_step (Expr-F.Ref select name)

literals-LooseNumber : (n : ℤ) → literals (expr.LooseNumber n) ≡ []
unfolding literals
literals-LooseNumber n = ap literals (sym (rolls-LooseNumber n)) ∙ fold-roll-Expr (List Literal) literals_step (Expr-F.LooseNumber n)

literals-Loose : (b : Based) → literals (expr.Loose b) ≡ []
unfolding literals
literals-Loose b = ap literals (sym (rolls-Loose b)) ∙ fold-roll-Expr (List Literal) literals_step (Expr-F.Loose b)

-- an expression is one of its variants
pub expr_cases : (P : Expr → Type 0) → ((name : List ℕ) (s : Select) → P (expr.Ref s name)) → ((l : Literal) → P (expr.Lit l)) → ((n : ℤ) → P (expr.LooseNumber n)) → ((b : Based) → P (expr.Loose b))
    → ((es : List Expr) → P (expr.Cat es)) → ((n : ℤ) (es : List Expr) → P (expr.Rep n es)) → (e : Expr) → P e
expr_cases P ref lit number loose cat rep e = ind-Expr P (λ x y h. by_layer x) e
  where
    by_layer : (x : Expr-F Expr) → P (roll-Expr x)
    by_layer (Expr-F.Ref s name) = subst P (sym (rolls-Ref s name)) (ref name s)
    by_layer (Expr-F.Lit l) = subst P (sym (rolls-Lit l)) (lit l)
    by_layer (Expr-F.LooseNumber n) = subst P (sym (rolls-LooseNumber n)) (number n)
    by_layer (Expr-F.Loose b) = subst P (sym (rolls-Loose b)) (loose b)
    by_layer (Expr-F.Cat es) = subst P (sym (rolls-Cat es)) (cat es)
    by_layer (Expr-F.Rep n es) = subst P (sym (rolls-Rep n es)) (rep n es)

abbrev AreSpelled : List Literal → Type 0
AreSpelled = AllByRecursion HasDigits

abbrev Spells : ℕ → Expr → Type 0
Spells levels e = IsExprWithin levels e → AreSpelled (literals e)

plain_spelled : (levels : ℕ) → ((es : List Expr) → Spells levels (expr.Cat es)) → ((n : ℤ) (es : List Expr) → Spells levels (expr.Rep n es)) → (e : Expr) → Spells levels e
plain_spelled levels cat rep e = expr_cases (Spells levels)
    (λ name s h. subst AreSpelled (sym (literals-Ref name s)) tt)
    (λ l h. let good = is_layer levels (expr.Lit l) (Expr-F.Lit l) (out-Lit l) h in subst AreSpelled (sym (literals-Lit l)) (good.based.spelled, tt))
    (λ n h. subst AreSpelled (sym (literals-LooseNumber n)) tt)
    (λ b h. subst AreSpelled (sym (literals-Loose b)) tt)
    cat rep e

spelled_within : (levels : ℕ) (e : Expr) → Spells levels e
spelled_within zero e = plain_spelled zero
    (λ es h. absurd (is_layer zero (expr.Cat es) (Expr-F.Cat es) (out-Cat es) h))
    (λ n es h. absurd (is_layer zero (expr.Rep n es) (Expr-F.Rep n es) (out-Rep n es) h).1) e
spelled_within (suc levels) e = plain_spelled (suc levels)
    (λ es h.
    let good = is_layer (suc levels) (expr.Cat es) (Expr-F.Cat es) (out-Cat es) h in
    subst AreSpelled (sym (literals-Cat es)) (every_part (IsExprWithin levels) HasDigits literals (spelled_within levels) es good.all))
    (λ n es h.
    let good = is_layer (suc levels) (expr.Rep n es) (Expr-F.Rep n es) (out-Rep n es) h in
    subst AreSpelled (sym (literals-Rep n es)) (every_part (IsExprWithin levels) HasDigits literals (spelled_within levels) es good.1.all)) e

-- by recursion over the list of literals
pub spelled_by_recursion : (e : Expr) → IsExpr e → AllByRecursion HasDigits (literals e)
spelled_by_recursion e good = spelled_within 64 e good

-- the literals of an expression with so many braces in one another
pub literals_spelled : (levels : ℕ) (e : Expr) → IsExprWithin levels e → All HasDigits (literals e)
literals_spelled levels e good = All-from_recursion HasDigits (literals e) (spelled_within levels e good)
