-- What the productions of expressions, constants and attributes refuse fits.
use Rattle.std.proofs.Common.{ℕ, zero, suc, Bool, ℤ, List, [], ◌∷◌, ◌++◌}
use Rattle.readers.specs.Parts.{if_next, while_next}
use Rattle.vlog_values.specs.declared.expression.Attr.{Attr}
use Rattle.vlog_values.specs.declared.expression.Expr.{Expr}
use Rattle.vlog_exprs.specs.Language.{Vlog}
use Rattle.vlog_exprs.specs.Reasons as say
use Rattle.vlog_exprs.specs.Grammar.{mark, group_end, after, commas, list, bound, select_rest, select, digits, sized, sized_const, expr_start, expr_rest, expr_by, cat_rest, rep_rest, braced, inside, expr, const_rest, constant, attr_value, attr, group, groups, attrs}
use Rattle.vlog_exprs.specs.declared.start.ExprStart.{ExprStart}
use Rattle.vlog_exprs.specs.declared.start.ExprStart.TheVariants as starts
use Rattle.vlog_exprs.specs.declared.start.ConstStart.{ConstStart}
use Rattle.vlog_exprs.specs.declared.start.ConstStart.TheVariants as const_starts
use Rattle.vlog_faults.specs.Fitting.{Fits}
use Rattle.grammar_laws.proofs.Ending.{IsToken}
use Rattle.grammar_laws.proofs.Refusing.{AllFit}
use Rattle.vlog_faults.proofs.Judges.{one_fits, glance_fits_by, look_takes, name_fits, mark_fits, group_end_fits, bound_fits, expr_start_fits, const_start_fits, signed_fits, at_mark_fits, at_group_fits, at_digits_fits}

abbrev pub Fit : {A : Type 0} → Vlog A → Type 0
Fit p = AllFit Fits IsToken tt p

pub after_fit : {A : Type 0} (due : ℕ) (p q : Vlog A) → Fit p → Fit q → Fit (after due p q)
unfolding after if_next
after_fit due p q h k = (λ x r e. glance_fits_by (say.at_mark due) (at_mark_fits due) x r e, λ x c e. look_takes (say.at_mark due) x c e, λ c. h, k)

pub mark_fit : (due : ℕ) → Fit (mark due)
mark_fit due = one_fits (say.mark_of due) (mark_fits due)

pub commas_fit : {A : Type 0} (p : Vlog A) (close : Vlog (Unit {0})) (so_far : List A) → Fit p → Fit close → Fit (commas p close so_far)
unfolding commas while_next
commas_fit p close so_far h k = (λ s x r e. glance_fits_by (say.at_mark 44) (at_mark_fits 44) x r e, λ s x c e. look_takes (say.at_mark 44) x c e, λ s x c e. (h, λ a. tt), λ s. (k, λ u. tt))

pub list_fit : {A : Type 0} (p : Vlog A) (close : Vlog (Unit {0})) → Fit p → Fit close → Fit (list p close)
unfolding list
list_fit p close h k = (h, λ a. commas_fit p close (a ∷ []) h k)

pub bound_fit : Fit bound
unfolding bound
bound_fit = after_fit 45 _ _ (one_fits say.bound_of bound_fits, λ n. tt) (one_fits say.bound_of bound_fits)

select_rest_fit : (left : ℤ) → Fit (select_rest left)
unfolding select_rest
select_rest_fit left = after_fit 58 _ _ (bound_fit, λ n. (mark_fit 93, λ u. tt)) (mark_fit 93, λ u. tt)

pub select_fit : Fit select
unfolding select
select_fit = after_fit 91 _ _ (bound_fit, λ n. select_rest_fit n) tt

digits_fit : (n : ℤ) → Fit (digits n)
unfolding digits if_next
digits_fit n = (λ x r e. glance_fits_by (say.at_digits n) (at_digits_fits n) x r e, λ x c e. look_takes (say.at_digits n) x c e, λ c. tt, tt)

sized_fit : (n : ℤ) → Fit (sized n)
unfolding sized
sized_fit n = (digits_fit n, λ l. tt)

pub start_fit : (left : Bool) (room : ℕ) → Fit (expr_start left room)
start_fit left room = one_fits (say.expr_start left room) (expr_start_fits left room)

pub rest_fit : (p : Vlog Expr) → Fit p → (start : ExprStart) → Fit (expr_rest p start)
unfolding expr_rest
rest_fit p h (starts.Name n) = (select_fit, λ s. tt)
rest_fit p h (starts.Number n) = sized_fit n
rest_fit p h (starts.Based b) = tt
rest_fit p h starts.Brace = h

cat_fit : (p : Vlog Expr) → Fit p → (e : Expr) → Fit (cat_rest p e)
unfolding cat_rest
cat_fit p h e = (commas_fit p (mark 125) (e ∷ []) h (mark_fit 125), λ es. tt)

rep_fit : (p : Vlog Expr) → Fit p → (n : ℤ) → Fit (rep_rest p n)
unfolding rep_rest
rep_fit p h n = (list_fit p (mark 125) h (mark_fit 125), λ es. (mark_fit 125, λ u. tt))

braced_fit : (p q : Vlog Expr) → Fit p → Fit q → (start : ExprStart) → Fit (braced p q start)
unfolding braced
braced_fit p q h k (starts.Number n) = after_fit 123 _ _ (rep_fit p h n) (sized_fit n, λ e. cat_fit p h e)
braced_fit p q h k (starts.Name n) = (rest_fit q k (starts.Name n), λ e. cat_fit p h e)
braced_fit p q h k (starts.Based b) = (rest_fit q k (starts.Based b), λ e. cat_fit p h e)
braced_fit p q h k starts.Brace = (rest_fit q k starts.Brace, λ e. cat_fit p h e)

by_fit : (left : Bool) (room : ℕ) (q : Vlog Expr) → Fit q → Fit (expr_by left room q)
unfolding expr_by
by_fit left room q h = (start_fit left room, λ s. rest_fit q h s)

pub inside_fit : (left : Bool) (room : ℕ) → Fit (inside left room)
unfolding inside
inside_fit left zero = tt
inside_fit left (suc room) = (start_fit left room, λ s. braced_fit (expr_by left room (inside left room)) (inside left room) (by_fit left room (inside left room) (inside_fit left room)) (inside_fit left room) s)

pub expr_fit : (left : Bool) (room : ℕ) → Fit (expr left room)
unfolding expr
expr_fit left room = by_fit left room (inside left room) (inside_fit left room)

sized_const_fit : (n : ℤ) → Fit (sized_const n)
unfolding sized_const
sized_const_fit n = (digits_fit n, λ l. tt)

const_rest_fit : (start : ConstStart) → Fit (const_rest start)
unfolding const_rest
const_rest_fit (const_starts.Whole c) = tt
const_rest_fit (const_starts.Sign negative) = one_fits (say.signed_of negative) (signed_fits negative)
const_rest_fit (const_starts.Number n) = sized_const_fit n

pub constant_fit : Fit constant
unfolding constant
constant_fit = (one_fits say.const_start const_start_fits, λ s. const_rest_fit s)

value_fit : Fit attr_value
unfolding attr_value
value_fit = after_fit 61 constant _ constant_fit tt

pub attr_fit : Fit attr
unfolding attr
attr_fit = (one_fits say.name_of name_fits, λ n. (value_fit, λ v. tt))

pub group_fit : (so_far : List Attr) → Fit (group so_far)
unfolding group
group_fit so_far = (attr_fit, λ a. commas_fit attr group_end (so_far ++ a ∷ []) attr_fit (one_fits say.group_end_of group_end_fits))

pub groups_fit : (so_far : List Attr) → Fit (groups so_far)
unfolding groups while_next
groups_fit so_far = (λ s x r e. glance_fits_by say.at_group at_group_fits x r e, λ s x c e. look_takes say.at_group x c e, λ s x c e. group_fit s, λ s. tt)

pub attrs_fit : Fit attrs
attrs_fit = groups_fit []
