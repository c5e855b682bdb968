-- From each place in a part some tokens lead to its end.
use Rattle.std.proofs.Common.{◌≡◌, refl, ℕ, zero, suc, nat_eq, Bool, true, false, List, [], ◌∷◌, ◌++◌, Some, None, ℤ, pos, neg_ℤ}
use Rattle.std.proofs.lemmas.Bool.Decides.{Decides-eqb}
use Rattle.grammar.specs.Part.{gives, sequence}
use Rattle.grammar.specs.Clear.{IsLive}
use Rattle.nl_base.specs.Place.{place_at_start}
use Rattle.readers.proofs.Shapes.{live_one, live_if, live_while}
use Rattle.vlog_tokens.specs.declared.token.VFound.{VFound}
use Rattle.vlog_tokens.specs.declared.token.VToken.{VToken}
use Rattle.vlog_tokens.specs.declared.token.VToken.TheVariants as token
use Rattle.vlog_values.specs.declared.expression.Attr.{Attr}
use Rattle.vlog_values.specs.declared.expression.Expr.{Expr}
use Rattle.vlog_exprs.specs.declared.start.ExprStart.{ExprStart}
use Rattle.vlog_exprs.specs.declared.start.ExprStart.TheVariants as starts
use Rattle.vlog_exprs.specs.declared.start.ConstStart.{ConstStart}
use Rattle.vlog_exprs.specs.declared.start.ConstStart.TheVariants as const_starts
use Rattle.vlog_exprs.specs.Language.{Vlog}
use Rattle.vlog_exprs.specs.Reasons as say
use Rattle.vlog_exprs.specs.Grammar.{name, number, mark, group_end, after, commas, list, bound_number, bound, range_rest, range, maybe_range, select_rest, select, digits, sized, sized_const, expr_start, expr_rest, expr_by, cat_rest, rep_rest, braced, inside, expr, maybe_expr, const_start, signed, const_rest, constant, attr_value, attr, group, groups}

-- a part that is live
abbrev pub Lives : {A : Type 0} → Vlog A → Type 0
Lives p = IsLive tt p

-- a token somewhere
abbrev pub found : VToken → VFound
found t = record { place = place_at_start; stop = 0; token = t }

-- ---- one token

pub live_name : Lives name
live_name = live_one (λ _ x. say.name_of x.token) tt (found (token.Name [])) [] refl

pub live_number : Lives number
live_number = live_one (λ _ x. say.number_of x.token) tt (found (token.Number (pos 0))) (pos 0) refl

pub live_mark : (due : ℕ) → Lives (mark due)
live_mark due = live_one (λ _ x. say.mark_of due x.token) tt (found (token.Punct due)) tt (let e : nat_eq due due ≡ true = (Decides-eqb due due).1 refl in rw e refl)

live_group_end : Lives group_end
live_group_end = live_one (λ _ x. say.group_end_of x.token) tt (found token.AttrStop) tt refl

live_bound_number : Lives bound_number
live_bound_number = live_one (λ _ x. say.bound_of x.token) tt (found (token.Number (pos 0))) (pos 0) refl

live_expr_start : (left : Bool) (room : ℕ) → Lives (expr_start left room)
live_expr_start left room = live_one (λ _ x. say.expr_start left room x.token) tt (found (token.Name [])) (starts.Name []) refl

live_const_start : Lives const_start
live_const_start = live_one (λ _ x. say.const_start x.token) tt (found (token.Number (pos 0))) (const_starts.Number (pos 0)) refl

live_signed : (negative : Bool) → Lives (signed negative)
live_signed negative = live_one (λ _ x. say.signed_of negative x.token) tt (found (token.Number (pos 0))) _ refl

-- ---- ways to put parts together

pub live_after : {A : Type 0} (due : ℕ) (p q : Vlog A) → Lives p → Lives q → Lives (after due p q)
unfolding after
live_after due p q h l = live_if (λ _ x. say.at_mark due x.token) (λ _. p) q tt (λ _. h) l

pub live_commas : {A : Type 0} (p : Vlog A) (close : Vlog (Unit {0})) (so_far : List A) → Lives p → Lives close → Lives (commas p close so_far)
unfolding commas
live_commas p close so_far h l = live_while (λ _ _ x. say.at_mark 44 x.token) (λ so_far _. sequence p (λ a. gives (so_far ++ a ∷ []))) (λ so_far. sequence close (λ _. gives so_far)) so_far tt (λ s c. (h, λ _. tt)) (λ s. (l, λ _. tt))

pub live_list : {A : Type 0} (p : Vlog A) (close : Vlog (Unit {0})) → Lives p → Lives close → Lives (list p close)
unfolding list
live_list p close h l = (h, λ a. live_commas p close (a ∷ []) h l)

-- ---- bounds, ranges and selects

pub live_bound : Lives bound
unfolding bound
live_bound = live_after 45 (sequence bound_number (λ n. gives (neg_ℤ n))) bound_number (live_bound_number, λ _. tt) live_bound_number

live_range_rest : Lives range_rest
unfolding range_rest
live_range_rest = (live_bound, λ left. (live_mark 58, λ _. (live_bound, λ right. (live_mark 93, λ _. tt))))

pub live_range : Lives range
unfolding range
live_range = (live_mark 91, λ _. live_range_rest)

pub live_maybe_range : Lives maybe_range
unfolding maybe_range
live_maybe_range = live_after 91 _ _ (live_range_rest, λ _. tt) tt

live_select_rest : (left : ℤ) → Lives (select_rest left)
unfolding select_rest
live_select_rest left = live_after 58 _ _ (live_bound, λ right. (live_mark 93, λ _. tt)) (live_mark 93, λ _. tt)

live_select : Lives select
unfolding select
live_select = live_after 91 _ _ (live_bound, live_select_rest) tt

-- ---- expressions

live_sized : (n : ℤ) → Lives (sized n)
unfolding sized digits
live_sized n = (live_if (λ _ x. say.at_digits n x.token) (λ l. gives (Some l)) (gives None) tt (λ _. tt) tt, λ _. tt)

live_rest : (inner : Vlog Expr) (start : ExprStart) → Lives inner → Lives (expr_rest inner start)
unfolding expr_rest
live_rest inner (starts.Name n) h = (live_select, λ _. tt)
live_rest inner (starts.Number n) h = live_sized n
live_rest inner (starts.Based b) h = tt
live_rest inner starts.Brace h = h

live_cat : (p : Vlog Expr) (e : Expr) → Lives p → Lives (cat_rest p e)
unfolding cat_rest
live_cat p e h = (live_commas p (mark 125) (e ∷ []) h (live_mark 125), λ _. tt)

live_rep : (p : Vlog Expr) (n : ℤ) → Lives p → Lives (rep_rest p n)
unfolding rep_rest
live_rep p n h = (live_list p (mark 125) h (live_mark 125), λ es. (live_mark 125, λ _. tt))

live_braced : (p inner : Vlog Expr) (start : ExprStart) → Lives p → Lives inner → Lives (braced p inner start)
unfolding braced
live_braced p inner (starts.Name n) h l = (live_rest inner (starts.Name n) l, λ e. live_cat p e h)
live_braced p inner (starts.Number n) h l = live_after 123 (rep_rest p n) (sequence (sized n) (cat_rest p)) (live_rep p n h) (live_sized n, λ e. live_cat p e h)
live_braced p inner (starts.Based b) h l = (live_rest inner (starts.Based b) l, λ e. live_cat p e h)
live_braced p inner starts.Brace h l = (live_rest inner starts.Brace l, λ e. live_cat p e h)

live_by : (left : Bool) (room : ℕ) (inner : Vlog Expr) → Lives inner → Lives (expr_by left room inner)
unfolding expr_by
live_by left room inner h = (live_expr_start left room, λ start. live_rest inner start h)

live_inside : (left : Bool) (room : ℕ) → Lives (inside left room)
unfolding inside
live_inside left zero = tt
live_inside left (suc room) = (live_expr_start left room, λ start. live_braced (expr_by left room (inside left room)) (inside left room) start (live_by left room (inside left room) (live_inside left room)) (live_inside left room))

-- An expression is live.
pub live_expr : (left : Bool) (room : ℕ) → Lives (expr left room)
unfolding expr
live_expr left room = live_by left room (inside left room) (live_inside left room)

pub live_maybe_expr : Lives maybe_expr
unfolding maybe_expr
live_maybe_expr = live_if (λ _ x. say.at_expr x.token) (λ start. sequence (expr_rest (inside false 64) start) (λ e. gives (Some e))) (gives None) tt (λ start. (live_rest (inside false 64) start (live_inside false 64), λ _. tt)) tt

-- ---- constants and attributes

live_const_rest : (start : ConstStart) → Lives (const_rest start)
unfolding const_rest sized_const digits
live_const_rest (const_starts.Whole c) = tt
live_const_rest (const_starts.Sign negative) = live_signed negative
live_const_rest (const_starts.Number n) = (live_if (λ _ x. say.at_digits n x.token) (λ l. gives (Some l)) (gives None) tt (λ _. tt) tt, λ _. tt)

-- A constant is live.
pub live_constant : Lives constant
unfolding constant
live_constant = (live_const_start, live_const_rest)

live_attr : Lives attr
unfolding attr attr_value
live_attr = (live_name, λ n. (live_after 61 _ _ live_constant tt, λ _. tt))

live_group : (so_far : List Attr) → Lives (group so_far)
unfolding group
live_group so_far = (live_attr, λ a. live_commas attr group_end (so_far ++ a ∷ []) live_attr live_group_end)

-- Attributes are live.
pub live_groups : (so_far : List Attr) → Lives (groups so_far)
unfolding groups
live_groups so_far = live_while (λ _ _ x. say.at_group x.token) (λ so_far _. group so_far) (λ so_far. gives so_far) so_far tt (λ s _. live_group s) (λ s. tt)
