-- The names in the expressions of a module that is a value.
use Rattle.std.proofs.Common.{ℕ, zero, suc, ℤ, List, [], ◌∷◌, flat_map, Option, Some, None, IfSome, sym, subst}
use Rattle.std.specs.Prelude.{option_to_list}
use Rattle.std.specs.List.{AllByRecursion}
use Rattle.vlog_design.specs.Names.{Use, conn_exprs, item_exprs, module_uses, uses}
use Rattle.vlog_design.proofs.ExprLemmas.{uses-Cat, uses-Lit, uses-Loose, uses-LooseNumber, uses-Ref, uses-Rep}
use Rattle.vlog_values.specs.Values.{IsConns, IsExpr, IsExprWithin, IsInstance, IsItem, IsModule, IsName, IsNamedConn, IsAssignment}
use Rattle.vlog_values.proofs.Values.{is_layer, out-Cat, out-Ref, out-Rep}
use Rattle.vlog_values.specs.declared.expression.Expr.{Expr}
use Rattle.vlog_values.specs.declared.expression.Expr.TheFolds.{ind-Expr}
use Rattle.vlog_values.specs.declared.expression.Expr.TheOpen.{Expr-F}
use Rattle.vlog_values.specs.declared.expression.Expr.TheVariants as expr
use Rattle.vlog_values.specs.declared.expression.Expr.TheVariants.{rolls-Ref, rolls-Lit, rolls-LooseNumber, rolls-Loose, rolls-Cat, rolls-Rep}
use Rattle.vlog_values.specs.declared.expression.Expr.TheViews.{roll-Expr}
use Rattle.vlog_values.specs.declared.expression.Select.{Select}
use Rattle.vlog_values.specs.declared.literal.Based.{Based}
use Rattle.vlog_values.specs.declared.literal.Literal.{Literal}
use Rattle.vlog_values.specs.declared.module.ItemV.{ItemV}
use Rattle.vlog_values.specs.declared.module.ItemV.TheVariants as items
use Rattle.vlog_values.specs.declared.module.Module.{Module}
use Rattle.vlog_values.specs.declared.statement.Conns.{Conns}
use Rattle.vlog_values.specs.declared.statement.Conns.TheVariants as conns
use Rattle.vlog_values.specs.declared.statement.VInst.{VInst}
use Rattle.vlog_design_laws.proofs.Lists.{all_flat}

abbrev Named : ℕ → Expr → Type 0
Named levels e = IsExprWithin levels e → AllByRecursion (λ u. IsName u.name) (uses e)

abbrev pub AreUses : List Use → Type 0
AreUses us = AllByRecursion (λ u. IsName u.name) us

expr_cases : (P : Expr → Type 0) → ((name : List ℕ) (s : Select) → P (expr.Ref s name)) → ((l : Literal) → P (expr.Lit l)) → ((n : ℤ) → P (expr.LooseNumber n)) → ((b : Based) → P (expr.Loose b))
    → ((es : List Expr) → P (expr.Cat es)) → ((n : ℤ) (es : List Expr) → P (expr.Rep n es)) → (e : Expr) → P e
expr_cases P ref lit number loose cat rep e = ind-Expr P (λ x y h. by_layer x) e
  where
    by_layer : (x : Expr-F Expr) → P (roll-Expr x)
    by_layer (Expr-F.Ref s name) = subst P (sym (rolls-Ref s name)) (ref name s)
    by_layer (Expr-F.Lit l) = subst P (sym (rolls-Lit l)) (lit l)
    by_layer (Expr-F.LooseNumber n) = subst P (sym (rolls-LooseNumber n)) (number n)
    by_layer (Expr-F.Loose b) = subst P (sym (rolls-Loose b)) (loose b)
    by_layer (Expr-F.Cat es) = subst P (sym (rolls-Cat es)) (cat es)
    by_layer (Expr-F.Rep n es) = subst P (sym (rolls-Rep n es)) (rep n es)

plain_named : (levels : ℕ) → ((es : List Expr) → Named levels (expr.Cat es)) → ((n : ℤ) (es : List Expr) → Named levels (expr.Rep n es)) → (e : Expr) → Named levels e
plain_named levels cat rep e = expr_cases (Named levels)
    (λ name s h. let good = is_layer levels (expr.Ref s name) (Expr-F.Ref s name) (out-Ref name s) h in subst AreUses (sym (uses-Ref name s)) (good.0, tt))
    (λ l h. subst AreUses (sym (uses-Lit l)) tt)
    (λ n h. subst AreUses (sym (uses-LooseNumber n)) tt)
    (λ b h. subst AreUses (sym (uses-Loose b)) tt)
    cat rep e

named_within : (levels : ℕ) (e : Expr) → Named levels e
named_within zero e = plain_named zero
    (λ es h. absurd (is_layer zero (expr.Cat es) (Expr-F.Cat es) (out-Cat es) h))
    (λ n es h. absurd (is_layer zero (expr.Rep n es) (Expr-F.Rep n es) (out-Rep n es) h).1) e
named_within (suc levels) e = plain_named (suc levels)
    (λ es h. let good = is_layer (suc levels) (expr.Cat es) (Expr-F.Cat es) (out-Cat es) h in
    subst AreUses (sym (uses-Cat es)) (all_flat (IsExprWithin levels) (λ u. IsName u.name) uses (named_within levels) es good.all))
    (λ n es h. let good = is_layer (suc levels) (expr.Rep n es) (Expr-F.Rep n es) (out-Rep n es) h in
    subst AreUses (sym (uses-Rep n es)) (all_flat (IsExprWithin levels) (λ u. IsName u.name) uses (named_within levels) es good.1.all)) e

uses_named : (e : Expr) → IsExpr e → AreUses (uses e)
uses_named e h = named_within 64 e h

one_or_none : (o : Option Expr) → IfSome o IsExpr → AllByRecursion IsExpr (option_to_list o)
one_or_none None h = tt
one_or_none (Some e) h = (h, tt)

conns_named : (c : Conns) → IsConns c → AllByRecursion IsExpr (conn_exprs c)
conns_named (conns.Named cs) h = all_flat IsNamedConn IsExpr (λ conn. option_to_list conn.value) (λ conn k. one_or_none conn.value k.value) cs h.all
conns_named (conns.Order es) h = all_flat (λ e. IfSome e IsExpr) IsExpr option_to_list (λ e k. one_or_none e k) es h.0

item_named : (item : ItemV) → IsItem item → AllByRecursion IsExpr (item_exprs item)
item_named (items.Assign statement) h = all_flat IsAssignment IsExpr (λ set. set.left ∷ set.right ∷ []) (λ set k. (k.left, (k.right, tt))) statement.sets h.sets.all
item_named (items.Instances statement) h = all_flat IsInstance IsExpr (λ (instance : VInst). conn_exprs instance.conns) (λ instance k. conns_named instance.conns k.conns) statement.insts h.insts.all
item_named (items.Port d) h = tt
item_named (items.Net d) h = tt
item_named (items.Param d) h = tt
item_named (items.Defparam s) h = tt

module _ (m : Module) (good : IsModule m) where
  pub module_named : AreUses (module_uses m)
  unfolding module_uses
  module_named = all_flat IsExpr (λ u. IsName u.name) uses uses_named (flat_map item_exprs m.items) (all_flat IsItem IsExpr item_exprs item_named m.items good.items)
