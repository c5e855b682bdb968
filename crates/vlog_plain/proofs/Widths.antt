-- The widths of the expressions of a plain module (5.1.14).
use Rattle.std.proofs.Common.{◌≡◌, ℕ, false, List, [], ◌∷◌, None, length, map, sum, refl, sym, ap, ◌∙◌, arith, Contains}
use Rattle.std.proofs.lemmas.List.Sums.{sum_by-cons}
use Rattle.vlog_design.specs.Exprs.{has_loose, span_count, span_of, width}
use Rattle.vlog_design.proofs.ExprLemmas.{has_loose-Cat, has_loose-Lit, has_loose-Ref, width-Cat, width-Lit, width-Ref}
use Rattle.vlog_values.specs.declared.expression.Expr.{Expr}
use Rattle.vlog_values.specs.declared.expression.Expr.TheVariants.{Cat}
use Rattle.vlog_values.specs.declared.expression.Select.TheVariants.{All}
use Rattle.vlog_written.specs.OwnNames.{AreApart}
use Rattle.vlog_written.specs.Written.{PlainModule, bit_literal, plain_signals, select_of}
use Rattle.vlog_written.proofs.Contents.{image_of}
use Rattle.vlog_written.proofs.Exprs.{port_signal, selected_bit, wire_signal}
use Rattle.vlog_written.proofs.Members.{there_here, there_later}
use Rattle.vlog_plain.specs.Plain.{IsBitExpr, of_constant, of_port, of_wire}
use Rattle.vlog_plain.proofs.Lists.{any_none}

pub bit_width : (p : PlainModule) → AreApart p → (expr : Expr) → IsBitExpr p expr → width (plain_signals p) expr ≡ 1
bit_width p apart expr (node, of_port place port bit e within n is) =
    ap (width (plain_signals p)) is
    ∙ (width-Ref (plain_signals p) port.name (select_of port.range bit)
    ∙ (ap (λ slot. span_count (span_of slot (select_of port.range bit))) (port_signal p apart place port e)
    ∙ ap span_count (selected_bit port.range bit within)))
bit_width p apart expr (node, of_wire place wire e n is) =
    ap (width (plain_signals p)) is
    ∙ (width-Ref (plain_signals p) wire.name All
    ∙ (ap (λ slot. span_count (span_of slot All)) (wire_signal p apart place wire e)
    ∙ ap span_count (selected_bit None 0 (omega arith))))
bit_width p apart expr (node, of_constant one n is) = ap (width (plain_signals p)) is ∙ width-Lit (plain_signals p) (bit_literal one)

sum_ones : (f : Expr → ℕ) (exprs : List Expr) → ((expr : Expr) → Contains exprs expr → f expr ≡ 1) → sum (map f exprs) ≡ length exprs
sum_ones f [] h = refl
sum_ones f (expr ∷ exprs) h =
    let first : f expr ≡ 1 = h expr (there_here expr exprs) in
    let rest : sum (map f exprs) ≡ length exprs = sum_ones f exprs (λ other m. h other (there_later expr exprs other m)) in
    sum_by-cons (λ n. n) (f expr) (map f exprs) ∙ omega (arith, first, rest)

-- a concatenation is as wide as it is long
pub cat_width : (p : PlainModule) → AreApart p → (exprs : List Expr) → ((expr : Expr) → Contains exprs expr → IsBitExpr p expr) → width (plain_signals p) (Cat exprs) ≡ length exprs
cat_width p apart exprs are = width-Cat (plain_signals p) exprs ∙ sum_ones (width (plain_signals p)) exprs (λ expr m. bit_width p apart expr (are expr m))

-- there is no unsized literal

pub bit_sized : (p : PlainModule) (expr : Expr) → IsBitExpr p expr → has_loose expr ≡ false
bit_sized p expr (node, of_port place port bit e within n is) = ap has_loose is ∙ has_loose-Ref port.name (select_of port.range bit)
bit_sized p expr (node, of_wire place wire e n is) = ap has_loose is ∙ has_loose-Ref wire.name All
bit_sized p expr (node, of_constant one n is) = ap has_loose is ∙ has_loose-Lit (bit_literal one)

pub cat_sized : (p : PlainModule) (exprs : List Expr) → ((expr : Expr) → Contains exprs expr → IsBitExpr p expr) → has_loose (Cat exprs) ≡ false
cat_sized p exprs are =
    has_loose-Cat exprs
    ∙ any_none (λ part. part) (map has_loose exprs) (λ part m. let r = image_of has_loose exprs part m in sym r.2 ∙ bit_sized p r.0 (are r.0 r.1))
