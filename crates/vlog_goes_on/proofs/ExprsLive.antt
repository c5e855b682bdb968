-- The productions of constants, attributes and expressions are live by tokens that bytes can spell, and depend on no place.
use Rattle.std.proofs.Common.{◌≡◌, refl, ap, ℕ, zero, suc, nat_eq, Bool, true, false, List, [], ◌∷◌, ◌++◌, Some, None, Ok, Result, ℤ, pos, neg_ℤ, arith}
use Rattle.std.proofs.lemmas.Bool.Decides.{Decides-eqb}
use Rattle.grammar.specs.Part.{Glance, gives, sequence}
use Rattle.grammar.specs.Whole.{Terminal, proper, end}
use Rattle.grammar_alike.proofs.Living.{LivesAlike}
use Rattle.nl_base.specs.declared.fault.Reason.{Reason}
use Rattle.nl_base.specs.declared.place.Place.{Place}
use Rattle.nl_base.specs.Place.{place_at_start}
use Rattle.readers.specs.Parts.{of_token, at_token, one, if_next, while_next, maybe}
use Rattle.vlog_tokens.specs.declared.token.VFound.{VFound}
use Rattle.vlog_tokens.specs.declared.token.VToken.{VToken}
use Rattle.vlog_tokens.specs.declared.token.VToken.TheVariants as token
use Rattle.vlog_values.specs.Values.{IsName, IsCount}
use Rattle.vlog_values.specs.declared.expression.Attr.{Attr}
use Rattle.vlog_values.specs.declared.expression.Expr.{Expr}
use Rattle.vlog_exprs.specs.declared.start.ExprStart.{ExprStart}
use Rattle.vlog_exprs.specs.declared.start.ExprStart.TheVariants as starts
use Rattle.vlog_exprs.specs.declared.start.ConstStart.{ConstStart}
use Rattle.vlog_exprs.specs.declared.start.ConstStart.TheVariants as const_starts
use Rattle.vlog_exprs.specs.Language.{Vlog}
use Rattle.vlog_exprs.specs.Reasons as say
use Rattle.vlog_exprs.specs.Grammar.{name, mark, group_end, after, commas, list, bound_number, bound, range_rest, maybe_range, select_rest, select, digits, sized, sized_const, expr_start, expr_rest, expr_by, cat_rest, rep_rest, braced, inside, expr, maybe_expr, const_start, signed, const_rest, constant, attr_value, attr, group, groups}
use Rattle.vlog_lexing.specs.Tokens.{is_punctuation}
use Rattle.vlog_goes_on.specs.GoesOn.{IsOfBytes, CanStand}

-- one token, wherever it stands; or the end of the input, wherever it is
abbrev pub SameToken : Terminal VFound Place → Terminal VFound Place → Type 0
SameToken (proper x) (proper y) = x.token ≡ y.token
SameToken (proper x) (end q) = ⊥
SameToken (end p) (proper y) = ⊥
SameToken (end p) (end q) = Unit {0}

pub same_token_self : (x : Terminal VFound Place) → SameToken x x
same_token_self (proper x) = refl
same_token_self (end p) = tt

-- from each place in the part such tokens lead to its end, and the part depends on no place
abbrev pub Lives : {A : Type 0} → Vlog A → Type 0
Lives p = LivesAlike CanStand SameToken tt p

token_alike : {A : Type 0} (f : VToken → Result A Reason) (x y : Terminal VFound Place) → SameToken x y
    → of_token (λ x. f x.token) x ≡ of_token (λ x. f x.token) y
token_alike f (proper x) (proper y) e = ap f e
token_alike f (proper x) (end q) e = absurd e
token_alike f (end p) (proper y) e = absurd e
token_alike f (end p) (end q) e = refl

pub look_alike : {C : Type 0} (f : VToken → Glance C Reason) (x y : Terminal VFound Place) → SameToken x y
    → at_token (λ x. f x.token) x ≡ at_token (λ x. f x.token) y
look_alike f (proper x) (proper y) e = ap f e
look_alike f (proper x) (end q) e = absurd e
look_alike f (end p) (proper y) e = absurd e
look_alike f (end p) (end q) e = refl

-- a token somewhere
abbrev pub found : VToken → VFound
found t = record { place = place_at_start; stop = 0; token = t }

pub one_lives : {A : Type 0} (f : VToken → Result A Reason) (t : VToken) (a : A) → f t ≡ Ok a → IsOfBytes t → Lives (one (λ _ x. f x.token))
unfolding one
one_lives f t a h is = ((proper (found t), a, h, is), token_alike f)

pub if_lives : {A C : Type 0} (f : VToken → Glance C Reason) (p : C → Vlog A) (q : Vlog A) → ((c : C) → Lives (p c)) → Lives q
    → Lives (if_next (λ _ x. f x.token) p q)
unfolding if_next
if_lives f p q h l = (look_alike f, λ x c i. h c, l)

pub while_lives : {A C S : Type 0} (f : VToken → Glance C Reason) (q : S → C → Vlog S) (e : S → Vlog A) (s : S) → ((s : S) (c : C) → Lives (q s c))
    → ((s : S) → Lives (e s)) → Lives (while_next (λ _ _ x. f x.token) q e s)
unfolding while_next
while_lives f q e s h l = (λ s. look_alike f, λ s x c i. h s c, l)

pub maybe_lives : {C : Type 0} (f : VToken → Glance C Reason) → Lives (maybe (λ _ x. f x.token))
unfolding maybe
maybe_lives f = (look_alike f, λ x c i. tt, tt)

-- ---- one token

a_name : IsName (97 ∷ [])
a_name = record { some = omega arith; short = omega arith; graphic = ((omega arith, omega arith), tt) }

a_number : IsCount (pos 0)
a_number = record { number = omega arith; sign = grind arith }

pub name_lives : Lives name
name_lives = one_lives say.name_of (token.Name (97 ∷ [])) (97 ∷ []) refl a_name

pub mark_lives : (due : ℕ) → is_punctuation due ≡ true → Lives (mark due)
mark_lives due is = one_lives (say.mark_of due) (token.Punct due) tt (let e : nat_eq due due ≡ true = (Decides-eqb due due).1 refl in rw e refl) is

group_end_lives : Lives group_end
group_end_lives = one_lives say.group_end_of token.AttrStop tt refl tt

bound_number_lives : Lives bound_number
bound_number_lives = one_lives say.bound_of (token.Number (pos 0)) (pos 0) refl a_number

expr_start_lives : (left : Bool) (room : ℕ) → Lives (expr_start left room)
expr_start_lives left room = one_lives (say.expr_start left room) (token.Name (97 ∷ [])) (starts.Name (97 ∷ [])) refl a_name

const_start_lives : Lives const_start
const_start_lives = one_lives say.const_start (token.Number (pos 0)) (const_starts.Number (pos 0)) refl a_number

signed_lives : (negative : Bool) → Lives (signed negative)
signed_lives negative = one_lives (say.signed_of negative) (token.Number (pos 0)) _ refl a_number

-- ---- ways to put parts together

pub after_lives : {A : Type 0} (due : ℕ) (p q : Vlog A) → Lives p → Lives q → Lives (after due p q)
unfolding after
after_lives due p q h l = if_lives (say.at_mark due) (λ _. p) q (λ _. h) l

pub commas_lives : {A : Type 0} (p : Vlog A) (close : Vlog (Unit {0})) (so_far : List A) → Lives p → Lives close → Lives (commas p close so_far)
unfolding commas
commas_lives p close so_far h l =
    while_lives (say.at_mark 44) (λ so_far _. sequence p (λ a. gives (so_far ++ a ∷ []))) (λ so_far. sequence close (λ _. gives so_far)) so_far (λ s c. (h, λ _. tt)) (λ s. (l, λ _. tt))

pub list_lives : {A : Type 0} (p : Vlog A) (close : Vlog (Unit {0})) → Lives p → Lives close → Lives (list p close)
unfolding list
list_lives p close h l = (h, λ a. commas_lives p close (a ∷ []) h l)

-- ---- bounds, ranges and selects

pub bound_lives : Lives bound
unfolding bound
bound_lives = after_lives 45 (sequence bound_number (λ n. gives (neg_ℤ n))) bound_number (bound_number_lives, λ _. tt) bound_number_lives

range_rest_lives : Lives range_rest
unfolding range_rest
range_rest_lives = (bound_lives, λ left. (mark_lives 58 refl, λ _. (bound_lives, λ right. (mark_lives 93 refl, λ _. tt))))

pub maybe_range_lives : Lives maybe_range
unfolding maybe_range
maybe_range_lives = after_lives 91 _ _ (range_rest_lives, λ _. tt) tt

select_rest_lives : (left : ℤ) → Lives (select_rest left)
unfolding select_rest
select_rest_lives left = after_lives 58 _ _ (bound_lives, λ right. (mark_lives 93 refl, λ _. tt)) (mark_lives 93 refl, λ _. tt)

select_lives : Lives select
unfolding select
select_lives = after_lives 91 _ _ (bound_lives, select_rest_lives) tt

-- ---- expressions

sized_lives : (n : ℤ) → Lives (sized n)
unfolding sized digits
sized_lives n = (if_lives (say.at_digits n) (λ l. gives (Some l)) (gives None) (λ _. tt) tt, λ _. tt)

rest_lives : (inner : Vlog Expr) (start : ExprStart) → Lives inner → Lives (expr_rest inner start)
unfolding expr_rest
rest_lives inner (starts.Name n) h = (select_lives, λ _. tt)
rest_lives inner (starts.Number n) h = sized_lives n
rest_lives inner (starts.Based b) h = tt
rest_lives inner starts.Brace h = h

cat_lives : (p : Vlog Expr) (e : Expr) → Lives p → Lives (cat_rest p e)
unfolding cat_rest
cat_lives p e h = (commas_lives p (mark 125) (e ∷ []) h (mark_lives 125 refl), λ _. tt)

rep_lives : (p : Vlog Expr) (n : ℤ) → Lives p → Lives (rep_rest p n)
unfolding rep_rest
rep_lives p n h = (list_lives p (mark 125) h (mark_lives 125 refl), λ es. (mark_lives 125 refl, λ _. tt))

braced_lives : (p inner : Vlog Expr) (start : ExprStart) → Lives p → Lives inner → Lives (braced p inner start)
unfolding braced
braced_lives p inner (starts.Name n) h l = (rest_lives inner (starts.Name n) l, λ e. cat_lives p e h)
braced_lives p inner (starts.Number n) h l =
    after_lives 123 (rep_rest p n) (sequence (sized n) (cat_rest p)) (rep_lives p n h) (sized_lives n, λ e. cat_lives p e h)
braced_lives p inner (starts.Based b) h l = (rest_lives inner (starts.Based b) l, λ e. cat_lives p e h)
braced_lives p inner starts.Brace h l = (rest_lives inner starts.Brace l, λ e. cat_lives p e h)

by_lives : (left : Bool) (room : ℕ) (inner : Vlog Expr) → Lives inner → Lives (expr_by left room inner)
unfolding expr_by
by_lives left room inner h = (expr_start_lives left room, λ start. rest_lives inner start h)

inside_lives : (left : Bool) (room : ℕ) → Lives (inside left room)
unfolding inside
inside_lives left zero = tt
inside_lives left (suc room) =
    (expr_start_lives left room, λ start. braced_lives (expr_by left room (inside left room)) (inside left room) start (by_lives left room (inside left room) (inside_lives left room)) (inside_lives left room))

pub expr_lives : (left : Bool) (room : ℕ) → Lives (expr left room)
unfolding expr
expr_lives left room = by_lives left room (inside left room) (inside_lives left room)

pub maybe_expr_lives : Lives maybe_expr
unfolding maybe_expr
maybe_expr_lives =
    if_lives say.at_expr (λ start. sequence (expr_rest (inside false 64) start) (λ e. gives (Some e))) (gives None) (λ start. (rest_lives (inside false 64) start (inside_lives false 64), λ _. tt)) tt

-- ---- constants and attributes

const_rest_lives : (start : ConstStart) → Lives (const_rest start)
unfolding const_rest sized_const digits
const_rest_lives (const_starts.Whole c) = tt
const_rest_lives (const_starts.Sign negative) = signed_lives negative
const_rest_lives (const_starts.Number n) = (if_lives (say.at_digits n) (λ l. gives (Some l)) (gives None) (λ _. tt) tt, λ _. tt)

pub constant_lives : Lives constant
unfolding constant
constant_lives = (const_start_lives, const_rest_lives)

attr_lives : Lives attr
unfolding attr attr_value
attr_lives = (name_lives, λ n. (after_lives 61 _ _ constant_lives tt, λ _. tt))

pub group_lives : (so_far : List Attr) → Lives (group so_far)
unfolding group
group_lives so_far = (attr_lives, λ a. commas_lives attr group_end (so_far ++ a ∷ []) attr_lives group_end_lives)

pub groups_lives : (so_far : List Attr) → Lives (groups so_far)
unfolding groups
groups_lives so_far = while_lives say.at_group (λ so_far _. group so_far) (λ so_far. gives so_far) so_far (λ s _. group_lives s) (λ s. tt)
