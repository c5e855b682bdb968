-- What expressions, constants and attributes spell from the tokens of a text are such as can be written.
use Rattle.std.proofs.Common.{◌≡◌, refl, subst, ℕ, zero, suc, ◌<◌, Bool, true, false, cond, ltb, List, [], ◌∷◌, ◌++◌, Option, Some, None, Ok, Err, ℤ, pos, negsuc, neg_ℤ, arith}
use Rattle.std.specs.Prelude.{IfSome, int_lt}
use Rattle.std.proofs.lemmas.Bool.{ltb-true}
use Rattle.nl_base.specs.declared.fault.Reason.TheVariants as reasons
use Rattle.vlog_values.specs.declared.literal.Literal.{Literal}
use Rattle.vlog_values.specs.declared.expression.Const.TheVariants as consts
use Rattle.vlog_values.specs.declared.expression.Attr.{Attr}
use Rattle.vlog_values.specs.declared.expression.Select.TheVariants as selects
use Rattle.vlog_values.specs.declared.expression.Expr.{Expr}
use Rattle.vlog_values.specs.declared.expression.Expr.TheVariants as exprs
use Rattle.vlog_values.specs.Values.{IsNumber, IsCount, IsBound, IsRange, IsLiteral, IsConst, IsAttr, AreAttrs, IsSelect, IsExpr, is_left}
use Rattle.vlog_tokens.specs.declared.token.VToken.{VToken}
use Rattle.vlog_tokens.specs.declared.token.VToken.TheVariants as token
use Rattle.vlog_exprs.specs.declared.start.ExprStart.{ExprStart}
use Rattle.vlog_exprs.specs.declared.start.ExprStart.TheVariants as starts
use Rattle.vlog_exprs.specs.declared.start.ConstStart.{ConstStart}
use Rattle.vlog_exprs.specs.declared.start.ConstStart.TheVariants as const_starts
use Rattle.vlog_exprs.specs.Language.{Vlog}
use Rattle.vlog_exprs.specs.Known.{IsGood, IsStart, IsConstStart}
use Rattle.vlog_exprs.specs.Reasons as say
use Rattle.vlog_exprs.specs.Grammar.{mark, group_end, bound_number, bound, range_rest, maybe_range, select_rest, select, digits, expr_of_number, sized, const_of_number, sized_const, expr_start, expr_rest, expr_by, cat_rest, rep_rest, braced, inside, expr, maybe_expr, const_start, signed, const_rest, constant, attr_value, attr, group, groups, attrs}
use Rattle.vlog_tokens.proofs.Digits.{both}
use Rattle.vlog_tokens.proofs.Proper.{neg_abs}
use Rattle.vlog_exprs.proofs.Known.{literal_is, start_is, at_start, const_start_is, signed_is, right_good, literal_within, number_within, loose_good, ref_good, some_push, cat_good, rep_good}
use Rattle.vlog_bounds.proofs.Kept.{Kept, kept_gives, kept_then, kept_after, kept_weaker, kept_one, kept_if, kept_while, kept_name, kept_mark, kept_commas, kept_list}

-- ---- numbers

neg_bound : (n : ℤ) → IsBound n → IsBound (neg_ℤ n)
neg_bound n h = rw (neg_abs n) h

bound_small : (n : ℤ) → say.is_bound n ≡ true → IsBound n
bound_small (pos m) e = let parts = both (int_lt (negsuc 0) (pos m)) (ltb m 2147483648) e in let lt = ltb-true m 2147483648 parts.1 in omega (arith, lt)
bound_small (negsuc m) e = let parts = both (int_lt (negsuc 0) (negsuc m)) (int_lt (negsuc m) (pos 2147483648)) e in let lt = ltb-true m 0 parts.0 in absurd (omega (arith, lt))

-- ---- bounds, ranges and selects

bound_is : (t : VToken) (n : ℤ) → say.bound_of t ≡ Ok n → IsBound n
bound_is (token.Number m) n h = by (say.is_bound m) refl h
  where
    by : (t : Bool) → say.is_bound m ≡ t → cond t (Ok m) (Err reasons.NumberRange) ≡ Ok n → IsBound n
    by true e h = let same : m ≡ n = cc in subst IsBound same (bound_small m e)
    by false e h = absurd cc
bound_is (token.Name m) n h = absurd cc
bound_is (token.Keyword w) n h = absurd cc
bound_is (token.Real r) n h = absurd cc
bound_is (token.Based d) n h = absurd cc
bound_is (token.Str s) n h = absurd cc
bound_is (token.Punct b) n h = absurd cc
bound_is token.AttrStart n h = absurd cc
bound_is token.AttrStop n h = absurd cc
bound_is (token.Symbol b) n h = absurd cc
bound_is (token.Directive w) n h = absurd cc

kept_bound_number : Kept bound_number IsBound
kept_bound_number = kept_one _ (λ x n is h. bound_is x.token n h)

kept_bound : Kept bound IsBound
unfolding bound
kept_bound = kept_mark 45 (kept_then kept_bound_number (λ n is. kept_gives (neg_ℤ n) (neg_bound n is))) kept_bound_number

kept_range_rest : Kept range_rest IsRange
unfolding range_rest
kept_range_rest = kept_then kept_bound (λ l is_left. kept_after (mark 58) (λ _. kept_then kept_bound (λ r is_right. kept_after (mark 93) (λ _. kept_gives _ (record { left = is_left; right = is_right })))))

pub kept_maybe_range : Kept maybe_range (λ r. IfSome r IsRange)
unfolding maybe_range
kept_maybe_range = kept_mark 91 (kept_then kept_range_rest (λ r is. kept_gives (Some r) is)) (kept_gives None tt)

kept_select_rest : (left : ℤ) → IsBound left → Kept (select_rest left) IsSelect
unfolding select_rest
kept_select_rest left is_left =
    kept_mark 58 (kept_then kept_bound (λ right is_right. kept_after (mark 93) (λ _. kept_gives (selects.Slice left right) (is_left, is_right)))) (kept_after (mark 93) (λ _. kept_gives (selects.One left) is_left))

kept_select : Kept select IsSelect
unfolding select
kept_select = kept_mark 91 (kept_then kept_bound (λ left is. kept_select_rest left is)) (kept_gives selects.All tt)

-- ---- numbers and digits

kept_digits : (n : ℤ) → Kept (digits n) (λ l. IfSome l IsLiteral)
unfolding digits
kept_digits n = kept_if _ _ _ (λ x l is h. kept_gives (Some l) (literal_is n x.token is l h)) (kept_gives None tt)

-- ---- expressions

kept_expr_start : (left : Bool) (room : ℕ) → Kept (expr_start left room) (IsStart left room)
kept_expr_start left room = kept_one _ (λ x s is h. start_is left room x.token is s h)

number_good : (left : Bool) (room : ℕ) (n : ℤ) (l : Option Literal) → left ≡ false → IsCount n → IfSome l IsLiteral → IsGood left room (expr_of_number n l)
number_good left room n (Some l) right is is_literal = right_good left room (exprs.Lit l) right (literal_within room l is_literal)
number_good left room n None right is is_literal = right_good left room (exprs.LooseNumber n) right (number_within room n is)

kept_sized : (left : Bool) (room : ℕ) (n : ℤ) → left ≡ false → IsCount n → Kept (sized n) (IsGood left room)
unfolding sized
kept_sized left room n right is = kept_then (kept_digits n) (λ l is_literal. kept_gives (expr_of_number n l) (number_good left room n l right is is_literal))

kept_expr_rest : (left : Bool) (room : ℕ) (inner : Vlog Expr) → (0 < room → Kept inner (IsGood left room)) → (s : ExprStart) → IsStart left room s → Kept (expr_rest inner s) (IsGood left room)
unfolding expr_rest
kept_expr_rest left room inner within (starts.Name n) is = kept_then kept_select (λ s is_select. kept_gives (exprs.Ref s n) (ref_good left room n s is is_select))
kept_expr_rest left room inner within (starts.Number n) is = kept_sized left room n is.0 is.1
kept_expr_rest left room inner within (starts.Based b) is = kept_gives (exprs.Loose b) (loose_good left room b is)
kept_expr_rest left room inner within starts.Brace is = within is

kept_expr_by : (left : Bool) (room : ℕ) (inner : Vlog Expr) → (0 < room → Kept inner (IsGood left room)) → Kept (expr_by left room inner) (IsGood left room)
unfolding expr_by
kept_expr_by left room inner within = kept_then (kept_expr_start left room) (λ s is. kept_expr_rest left room inner within s is)

-- ---- braces

module _ (left : Bool) (room : ℕ) (p inner : Vlog Expr) (each : Kept p (IsGood left room)) (within : 0 < room → Kept inner (IsGood left room)) where
  kept_cat_rest : (e : Expr) → IsGood left room e → Kept (cat_rest p e) (IsGood left (suc room))
  unfolding cat_rest
  kept_cat_rest e is = kept_then (kept_commas each (mark 125) (e ∷ []) (record { some = omega arith; all = (is, tt) })) (λ es are. kept_gives (exprs.Cat es) (cat_good left room es are))

  kept_rep_rest : (n : ℤ) → left ≡ false → IsCount n → Kept (rep_rest p n) (IsGood left (suc room))
  unfolding rep_rest
  kept_rep_rest n right is = kept_then (kept_list each (mark 125)) (λ es are. kept_after (mark 125) (λ _. kept_gives (exprs.Rep n es) (rep_good left room n es right is are)))

  kept_braced : (s : ExprStart) → IsStart left room s → Kept (braced p inner s) (IsGood left (suc room))
  unfolding braced
  kept_braced (starts.Number n) is = kept_mark 123 (kept_rep_rest n is.0 is.1) (kept_then (kept_sized left room n is.0 is.1) (λ e good. kept_cat_rest e good))
  kept_braced (starts.Name n) is = kept_then (kept_expr_rest left room inner within (starts.Name n) is) (λ e good. kept_cat_rest e good)
  kept_braced (starts.Based b) is = kept_then (kept_expr_rest left room inner within (starts.Based b) is) (λ e good. kept_cat_rest e good)
  kept_braced starts.Brace is = kept_then (kept_expr_rest left room inner within starts.Brace is) (λ e good. kept_cat_rest e good)

kept_inside : (left : Bool) (room : ℕ) → 0 < room → Kept (inside left room) (IsGood left room)
unfolding inside
kept_inside left zero is = absurd (omega (arith, is))
kept_inside left (suc room) is =
    kept_then (kept_expr_start left room)
    (λ s is_start. kept_braced left room (expr_by left room (inside left room)) (inside left room) (kept_expr_by left room (inside left room) (λ more. kept_inside left room more)) (λ more. kept_inside left room more) s is_start)

pub kept_expr : (left : Bool) → Kept (expr left 64) (IsGood left 64)
unfolding expr
kept_expr left = kept_expr_by left 64 (inside left 64) (λ is. kept_inside left 64 is)

pub kept_maybe_expr : Kept maybe_expr (λ e. IfSome e IsExpr)
unfolding maybe_expr
kept_maybe_expr = kept_if _ _ _ (λ x s is h. kept_then (kept_expr_rest false 64 (inside false 64) (λ more. kept_inside false 64 more) s (at_start x.token is s h)) (λ e good. kept_gives (Some e) good.within)) (kept_gives None tt)

-- ---- constants

kept_const_start : Kept const_start IsConstStart
kept_const_start = kept_one _ (λ x s is h. const_start_is x.token is s h)

kept_signed : (negative : Bool) → Kept (signed negative) IsConst
kept_signed negative = kept_one _ (λ x c is h. signed_is negative x.token is c h)

const_good : (n : ℤ) (l : Option Literal) → IsNumber n → IfSome l IsLiteral → IsConst (const_of_number n l)
const_good n (Some l) is is_literal = is_literal
const_good n None is is_literal = is

kept_sized_const : (n : ℤ) → IsNumber n → Kept (sized_const n) IsConst
unfolding sized_const
kept_sized_const n is = kept_then (kept_digits n) (λ l is_literal. kept_gives (const_of_number n l) (const_good n l is is_literal))

kept_const_rest : (s : ConstStart) → IsConstStart s → Kept (const_rest s) IsConst
unfolding const_rest
kept_const_rest (const_starts.Whole c) is = kept_gives c is
kept_const_rest (const_starts.Sign negative) is = kept_signed negative
kept_const_rest (const_starts.Number n) is = kept_sized_const n is

pub kept_constant : Kept constant IsConst
unfolding constant
kept_constant = kept_then kept_const_start kept_const_rest

-- ---- attributes

one_number : IsNumber (pos 1)
one_number = omega arith

kept_attr_value : Kept attr_value IsConst
unfolding attr_value
kept_attr_value = kept_mark 61 kept_constant (kept_gives (consts.Number (pos 1)) one_number)

kept_attr : Kept attr IsAttr
unfolding attr
kept_attr = kept_then kept_name (λ n is_name. kept_then kept_attr_value (λ v is_value. kept_gives _ (record { name = is_name; value = is_value })))

pub kept_group : (so_far : List Attr) → AreAttrs so_far → Kept (group so_far) AreAttrs
unfolding group
kept_group so_far all = kept_then kept_attr (λ a is. kept_weaker (kept_commas kept_attr group_end (so_far ++ a ∷ []) (some_push IsAttr so_far a all is)) (λ all are. are.all))

pub kept_groups : (so_far : List Attr) → AreAttrs so_far → Kept (groups so_far) AreAttrs
unfolding groups
kept_groups so_far all = kept_while AreAttrs _ _ _ (λ s are x c is h. kept_group s are) (λ s are. kept_gives s are) so_far all

pub kept_attrs : Kept attrs AreAttrs
kept_attrs = kept_groups [] tt
