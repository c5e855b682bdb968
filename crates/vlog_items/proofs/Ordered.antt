-- Connections in order are such as can be written: one lone open connection is left out.
use Rattle.std.proofs.Common.{◌≡◌, sym, subst, ◌≤◌, List, [], ◌∷◌, Option, Some, None, arith}
use Rattle.std.specs.Prelude.{IfSome}
use Rattle.std.specs.List.{AllByRecursion}
use Rattle.vlog_values.specs.declared.expression.Expr.{Expr}
use Rattle.vlog_values.specs.declared.statement.Conns.TheVariants as conns_of
use Rattle.vlog_values.specs.Values.{IsExpr, IsConns}
use Rattle.vlog_values.specs.Sizes.{list_size, maybe_size}
use Rattle.vlog_items.specs.Grammar.{order_of}

order_is : (es : List (Option Expr)) → AllByRecursion (λ e. IfSome e IsExpr) es → IsConns (conns_of.Order (order_of es))
order_is [] all = (tt, λ h. h)
order_is (None ∷ []) all = (tt, λ h. h)
order_is (None ∷ e ∷ es) all = (all, λ h. h)
order_is (Some e ∷ es) all = (all, λ h. h)

order_size : (es : List (Option Expr)) → list_size maybe_size (order_of es) ≤ list_size maybe_size es
order_size [] = omega arith
order_size (None ∷ []) = omega arith
order_size (None ∷ e ∷ es) = omega arith
order_size (Some e ∷ es) = omega arith

pub ordered_is : (es os : List (Option Expr)) → os ≡ order_of es → AllByRecursion (λ e. IfSome e IsExpr) es → IsConns (conns_of.Order os)
ordered_is es os e all = subst (λ xs. IsConns (conns_of.Order xs)) (sym e) (order_is es all)

-- They are no more than were read.
pub ordered_size : (es os : List (Option Expr)) → os ≡ order_of es → list_size maybe_size os ≤ list_size maybe_size es
ordered_size es os e = subst (λ xs. list_size maybe_size xs ≤ list_size maybe_size es) (sym e) (order_size es)
