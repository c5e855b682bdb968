-- In each part a token that can be taken where it stands belongs there, where what follows the part cannot go on with it.
use Rattle.std.proofs.Common.{◌≡◌, refl, ℕ, zero, suc, nat_eq, Bool, false, List, [], ◌∷◌, ◌++◌, Option, Some, None, ℤ, pos, neg_ℤ, Result, Ok, ◌⊎◌, inl, inr}
use Rattle.grammar.specs.Part.{gives, sequence, leaves}
use Rattle.grammar.specs.Clear.{Empty, First, IsClear}
use Rattle.grammar.specs.Clear as clear
use Rattle.grammar.proofs.Follow.{clear_fewer, next_given, next_then, next_loop, next_token}
use Rattle.nl_base.specs.declared.fault.Reason.{Reason}
use Rattle.readers.specs.Parts.{of_token, at_token, one, if_next, while_next}
use Rattle.vlog_tokens.specs.declared.token.VFound.{VFound}
use Rattle.vlog_tokens.specs.declared.token.VToken.{VToken}
use Rattle.vlog_tokens.specs.declared.token.VToken.TheVariants as token
use Rattle.vlog_values.specs.declared.expression.Const.{Const}
use Rattle.vlog_values.specs.declared.expression.Const.TheVariants as consts
use Rattle.vlog_values.specs.declared.expression.Attr.{Attr}
use Rattle.vlog_values.specs.declared.expression.Select.{Select}
use Rattle.vlog_values.specs.declared.expression.Select.TheVariants as selects
use Rattle.vlog_values.specs.declared.expression.Expr.{Expr}
use Rattle.vlog_values.specs.declared.expression.Expr.TheVariants as exprs
use Rattle.vlog_values.specs.declared.literal.Literal.{Literal}
use Rattle.nl_base.specs.Ranges.{Bounds}
use Rattle.vlog_exprs.specs.declared.start.ExprStart.{ExprStart}
use Rattle.vlog_exprs.specs.declared.start.ExprStart.TheVariants as starts
use Rattle.vlog_exprs.specs.declared.start.ConstStart.{ConstStart}
use Rattle.vlog_exprs.specs.declared.start.ConstStart.TheVariants as const_starts
use Rattle.vlog_exprs.specs.Language.{NoContext, Vlog}
use Rattle.vlog_exprs.specs.Reasons as say
use Rattle.vlog_exprs.specs.Grammar.{mark, group_end, after, commas, list, bound_number, bound, range_rest, range, maybe_range, select_rest, select, digits, sized, sized_const, expr_of_number, const_of_number, expr_rest, expr_by, cat_rest, rep_rest, braced, inside, expr, maybe_expr, const_rest, constant, attr_value, attr, group, groups}
use Rattle.vlog_exprs.proofs.TokenKinds.{Next, TokenIs, due_is, taken_is, is_left, due_left, taken_left, mark_is, at_mark_is, group_end_is, bound_no_mark, digits_no_mark}

-- what may follow a part, by its value
abbrev pub Follows : Type 0 → Type 1
Follows A = A → Next → Type 0

-- the token may come where the part is due and F follows it
abbrev pub Comes : {A : Type 0} → Vlog A → Follows A → Next → Type 0
Comes p F x = clear.Next tt p F x

-- the part is clear where F follows it
abbrev pub Clears : {A : Type 0} → Vlog A → Follows A → Type 0
Clears p F = IsClear tt p F

-- where a part gives a value without a token, what follows it comes next
pub given : {A : Type 0} (a : A) (F : Follows A) (x : Next) → Comes (gives a) F x → F a x
given a F x n = next_given NoContext Reason tt a F x n

-- where a token is due that g says, no other comes next
pub first_due : {A B : Type 0} (g : NoContext → VFound → Result A Reason) (q : A → Vlog B) (F : Follows B) (x : Next) → Comes (sequence (one g) q) F x → (a : A) × (of_token (g tt) x ≡ Ok a)
unfolding one
first_due g q F x n = next_token tt (λ k t. of_token (g k) t) q F x n

-- ---- a mark, and what it begins

pub clear_after : {A : Type 0} (due : ℕ) (p q : Vlog A) (F : Follows A) → Clears p F → Clears q F → ((x : Next) → Comes q F x → at_token (λ y. say.at_mark due y.token) x ≡ leaves) → Clears (after due p q) F
unfolding after if_next
clear_after due p q F h l leave = (λ _. h, l, leave)

-- ---- lists with commas

-- a comma is next, or the token that ends the list
abbrev pub InList : VToken → Next → Type 0
InList last x = TokenIs (token.Punct 44) x ⊎ TokenIs last x

-- the token that ends a list: `close` takes no other, and it is no comma
pub record Ends (close : NoContext → VFound → Result (Unit {0}) Reason) (last : VToken) : Type 0 where
  pub is : (y : VFound) (u : Unit {0}) → close tt y ≡ Ok u → y.token ≡ last
  pub no_comma : say.at_mark 44 last ≡ leaves

module _ {A : Type 0} (p : Vlog A) (close : NoContext → VFound → Result (Unit {0}) Reason) (last : VToken) (e : Ends close last) where
  pub next_commas : (so_far : List A) (F : Follows (List A)) (x : Next) → Comes (commas p (one close) so_far) F x → InList last x
  unfolding commas while_next
  next_commas so_far F x n = elim (next_loop tt (λ _ _ t. at_token (λ y. say.at_mark 44 y.token) t) (λ so_far _. sequence p (λ a. gives (so_far ++ a ∷ []))) (λ so_far. sequence (one close) (λ _. gives so_far)) so_far F x n) [
    | inl c ↦ inl (taken_is (λ y. say.at_mark 44 y.token) (token.Punct 44) x c.0 (λ y c h. at_mark_is 44 y.token c h) c.1)
    | inr m ↦ let d = first_due close (λ _. gives so_far) F x m in inr (due_is (close tt) last x d.0 e.is d.1)
  ]

  pub clear_commas : (so_far : List A) (F : Follows (List A)) → Clears p (λ _ x. InList last x) → Clears (commas p (one close) so_far) F
  unfolding commas while_next one
  clear_commas so_far F h = (
    λ t _. (
      clear_fewer tt p (λ a. Comes (gives (t ++ a ∷ [])) (λ s. Comes (commas p (one close) s) F)) (λ _ x. InList last x)
          (λ a x n. next_commas (t ++ a ∷ []) F x (given (t ++ a ∷ []) (λ s. Comes (commas p (one close) s) F) x n)) h,
      λ _. tt,
    ),
    λ t. (tt, λ _. tt),
    λ t x n. let d = first_due close (λ _. gives t) F x n in is_left (say.at_mark 44) last x e.no_comma (due_is (close tt) last x d.0 e.is d.1),
  )

  pub clear_list : (F : Follows (List A)) → Clears p (λ _ x. InList last x) → Clears (list p (one close)) F
  unfolding list
  clear_list F h = (clear_fewer tt p (λ a. Comes (commas p (one close) (a ∷ [])) F) (λ _ x. InList last x) (λ a x n. next_commas (a ∷ []) F x n) h, λ a. clear_commas (a ∷ []) F h)

pub ends_mark : (d : ℕ) → nat_eq d 44 ≡ false → Ends (λ _ x. say.mark_of d x.token) (token.Punct d)
ends_mark d h = record { is = λ y u e. mark_is d y.token u e; no_comma = rw h refl }

pub ends_group : Ends (λ _ x. say.group_end_of x.token) token.AttrStop
ends_group = record { is = λ y u e. group_end_is y.token u e; no_comma = refl }

-- ---- bounds, ranges and selects

pub clear_bound : (F : Follows ℤ) → Clears bound F
unfolding bound one
clear_bound F = clear_after 45 (sequence bound_number (λ n. gives (neg_ℤ n))) bound_number F (tt, λ _. tt) tt leave
  where
    leave : (x : Next) → Comes bound_number F x → at_token (λ y. say.at_mark 45 y.token) x ≡ leaves
    leave x (inl n) = due_left say.bound_of (say.at_mark 45) x n.0 (bound_no_mark 45) n.1
    leave x (inr n) = absurd n.1

pub clear_range_rest : (F : Follows Bounds) → Clears range_rest F
unfolding range_rest one
clear_range_rest F = (clear_bound _, λ left. (tt, λ _. (clear_bound _, λ right. (tt, λ _. tt))))

pub clear_range : (F : Follows Bounds) → Clears range F
unfolding range one
clear_range F = (tt, λ _. clear_range_rest F)

-- no range and no select is next
abbrev pub NoBracket : Next → Type 0
NoBracket x = at_token (λ y. say.at_mark 91 y.token) x ≡ leaves

pub clear_maybe_range : (F : Follows (Option Bounds)) → ((r : Option Bounds) (x : Next) → F r x → NoBracket x) → Clears maybe_range F
unfolding maybe_range
clear_maybe_range F h = clear_after 91 (sequence range_rest (λ r. gives (Some r))) (gives None) F (clear_range_rest _, λ _. tt) tt (λ x n. h None x (given None F x n))

clear_select_rest : (left : ℤ) (F : Follows Select) → Clears (select_rest left) F
unfolding select_rest one
clear_select_rest left F = clear_after 58 (sequence bound (λ right. sequence (mark 93) (λ _. gives (selects.Slice left right)))) (sequence (mark 93) (λ _. gives (selects.One left))) F (clear_bound _, λ _. (tt, λ _. tt)) (tt, λ _. tt)
    (λ x n. let d = first_due (λ _ y. say.mark_of 93 y.token) (λ _. gives (selects.One left)) F x n in is_left (say.at_mark 58) (token.Punct 93) x refl (due_is (λ y. say.mark_of 93 y.token) (token.Punct 93) x d.0 (λ y u e. mark_is 93 y.token u e) d.1))

pub clear_select : (F : Follows Select) → ((s : Select) (x : Next) → F s x → NoBracket x) → Clears select F
unfolding select
clear_select F h = clear_after 91 (sequence bound select_rest) (gives selects.All) F (clear_bound _, λ left. clear_select_rest left F) tt (λ x n. h selects.All x (given selects.All F x n))

-- ---- numbers and digits

-- no digits are next
abbrev pub NoDigits : Next → Type 0
NoDigits x = (n : ℤ) → at_token (λ y. say.at_digits n y.token) x ≡ leaves

clear_digits : (n : ℤ) (F : Follows (Option Literal)) → ((l : Option Literal) (x : Next) → F l x → NoDigits x) → Clears (digits n) F
unfolding digits if_next
clear_digits n F h = (λ l. tt, tt, λ x m. h None x (given None F x m) n)

clear_sized : (n : ℤ) (F : Follows Expr) → ((e : Expr) (x : Next) → F e x → NoDigits x) → Clears (sized n) F
unfolding sized
clear_sized n F h = (clear_digits n (λ l. Comes (gives (expr_of_number n l)) F) (λ l x m. h (expr_of_number n l) x (given (expr_of_number n l) F x m)), λ _. tt)

clear_sized_const : (n : ℤ) (F : Follows Const) → ((c : Const) (x : Next) → F c x → NoDigits x) → Clears (sized_const n) F
unfolding sized_const
clear_sized_const n F h = (clear_digits n (λ l. Comes (gives (const_of_number n l)) F) (λ l x m. h (const_of_number n l) x (given (const_of_number n l) F x m)), λ _. tt)

-- ---- expressions

-- what is next goes on with no expression
pub record AfterExpr (x : Next) : Type 0 where
  pub no_bracket : NoBracket x
  pub no_digits : NoDigits x

pub mark_after_expr : (d : ℕ) (x : Next) → nat_eq d 91 ≡ false → TokenIs (token.Punct d) x → AfterExpr x
mark_after_expr d x h t = record { no_bracket = is_left (say.at_mark 91) (token.Punct d) x (rw h refl) t; no_digits = λ n. is_left (say.at_digits n) (token.Punct d) x refl t }

pub in_list_after_expr : (d : ℕ) (x : Next) → nat_eq d 91 ≡ false → InList (token.Punct d) x → AfterExpr x
in_list_after_expr d x h (inl t) = mark_after_expr 44 x refl t
in_list_after_expr d x h (inr t) = mark_after_expr d x h t

-- a part that is clear where no expression goes on
abbrev pub ClearExpr : Vlog Expr → Type 1
ClearExpr p = (F : Follows Expr) → ((e : Expr) (x : Next) → F e x → AfterExpr x) → Clears p F

clear_rest : (inner : Vlog Expr) (start : ExprStart) → ClearExpr inner → ClearExpr (expr_rest inner start)
unfolding expr_rest
clear_rest inner (starts.Name n) c F h = (clear_select (λ s. Comes (gives (exprs.Ref s n)) F) (λ s x m. (h (exprs.Ref s n) x (given (exprs.Ref s n) F x m)).no_bracket), λ _. tt)
clear_rest inner (starts.Number n) c F h = clear_sized n F (λ e x m. (h e x m).no_digits)
clear_rest inner (starts.Based b) c F h = tt
clear_rest inner starts.Brace c F h = c F h

-- the end of a list of expressions
ends_braces : Ends (λ _ x. say.mark_of 125 x.token) (token.Punct 125)
ends_braces = ends_mark 125 refl

in_braces : (p : Vlog Expr) → ClearExpr p → Clears p (λ _ x. InList (token.Punct 125) x)
in_braces p c = c (λ _ x. InList (token.Punct 125) x) (λ _ x m. in_list_after_expr 125 x refl m)

clear_cat : (p : Vlog Expr) (e : Expr) (F : Follows Expr) → ClearExpr p → Clears (cat_rest p e) F
unfolding cat_rest
clear_cat p e F c = (clear_commas p (λ _ x. say.mark_of 125 x.token) (token.Punct 125) ends_braces (e ∷ []) _ (in_braces p c), λ _. tt)

-- behind the first expression of a concatenation stands a comma or its end
next_cat : (p : Vlog Expr) (e : Expr) (F : Follows Expr) (x : Next) → Comes (cat_rest p e) F x → InList (token.Punct 125) x
unfolding cat_rest
next_cat p e F x n = elim (next_then tt (commas p (mark 125) (e ∷ [])) (λ es. gives (exprs.Cat es)) F x n) [
  | inl m ↦ next_commas p (λ _ x. say.mark_of 125 x.token) (token.Punct 125) ends_braces (e ∷ []) (λ _ _. ⊥) x (inl m)
  | inr m ↦ next_commas p (λ _ x. say.mark_of 125 x.token) (token.Punct 125) ends_braces (e ∷ []) (λ _ _. Unit {0}) x (inr (m.0, m.1, tt))
]

clear_rep : (p : Vlog Expr) (n : ℤ) (F : Follows Expr) → ClearExpr p → Clears (rep_rest p n) F
unfolding rep_rest one
clear_rep p n F c = (clear_list p (λ _ x. say.mark_of 125 x.token) (token.Punct 125) ends_braces _ (in_braces p c), λ _. (tt, λ _. tt))

-- behind a number that is the first in a concatenation stand its digits, a comma or the end
next_counted : (p : Vlog Expr) (n : ℤ) (F : Follows Expr) (x : Next) → Comes (sequence (sized n) (cat_rest p)) F x → at_token (λ y. say.at_mark 123 y.token) x ≡ leaves
unfolding sized digits if_next
next_counted p n F x m = elim (next_then tt (sized n) (cat_rest p) F x m) [
  | inl (inl (inl (l, e))) ↦ taken_left (say.at_digits n) (say.at_mark 123) x l (digits_no_mark 123 n) e
  | inl (inl (inr d)) ↦ absurd d
  | inl (inr d) ↦ absurd d.2
  | inr d ↦ elim (next_cat p d.0 F x d.2) [
    | inl t ↦ is_left (say.at_mark 123) (token.Punct 44) x refl t
    | inr t ↦ is_left (say.at_mark 123) (token.Punct 125) x refl t
  ]
]

cat_after : (p : Vlog Expr) (F : Follows Expr) (e : Expr) (x : Next) → Comes (cat_rest p e) F x → AfterExpr x
cat_after p F e x n = in_list_after_expr 125 x refl (next_cat p e F x n)

clear_braced : (p inner : Vlog Expr) (start : ExprStart) (F : Follows Expr) → ClearExpr p → ClearExpr inner → Clears (braced p inner start) F
unfolding braced
clear_braced p inner (starts.Number n) F c i =
    clear_after 123 (rep_rest p n) (sequence (sized n) (cat_rest p)) F (clear_rep p n F c) (clear_sized n (λ e. Comes (cat_rest p e) F) (λ e x m. (cat_after p F e x m).no_digits), λ e. clear_cat p e F c) (next_counted p n F)
clear_braced p inner (starts.Name n) F c i = (clear_rest inner (starts.Name n) i (λ e. Comes (cat_rest p e) F) (cat_after p F), λ e. clear_cat p e F c)
clear_braced p inner (starts.Based b) F c i = (clear_rest inner (starts.Based b) i (λ e. Comes (cat_rest p e) F) (cat_after p F), λ e. clear_cat p e F c)
clear_braced p inner starts.Brace F c i = (clear_rest inner starts.Brace i (λ e. Comes (cat_rest p e) F) (cat_after p F), λ e. clear_cat p e F c)

clear_by : (left : Bool) (room : ℕ) (inner : Vlog Expr) → ClearExpr inner → ClearExpr (expr_by left room inner)
unfolding expr_by one
clear_by left room inner c F h = (tt, λ start. clear_rest inner start c F h)

clear_inside : (left : Bool) (room : ℕ) → ClearExpr (inside left room)
unfolding inside one
clear_inside left zero F h = tt
clear_inside left (suc room) F h = (tt, λ start. clear_braced (expr_by left room (inside left room)) (inside left room) start F (clear_by left room (inside left room) (clear_inside left room)) (clear_inside left room))

-- An expression is clear where no select and no digits follow it.
pub clear_expr : (left : Bool) (room : ℕ) → ClearExpr (expr left room)
unfolding expr
clear_expr left room F h = clear_by left room (inside left room) (clear_inside left room) F h

-- An expression that need not stand is clear where nothing follows it that begins or goes on with one.
pub clear_maybe_expr : (F : Follows (Option Expr)) → ((o : Option Expr) (x : Next) → F o x → AfterExpr x) → ((x : Next) → F None x → at_token (λ y. say.at_expr y.token) x ≡ leaves) → Clears maybe_expr F
unfolding maybe_expr if_next
clear_maybe_expr F h l = (
  λ start. (clear_rest (inside false 64) start (clear_inside false 64) (λ e. Comes (gives (Some e)) F) (λ e x n. h (Some e) x (given (Some e) F x n)), λ _. tt),
  tt,
  λ x n. l x (given None F x n),
)

-- ---- constants and attributes

-- A constant is clear where no digits follow it.
pub clear_constant : (F : Follows Const) → ((c : Const) (x : Next) → F c x → NoDigits x) → Clears constant F
unfolding constant const_rest one
clear_constant F h = (tt, rest)
  where
    rest : (start : ConstStart) → Clears (const_rest start) F
    rest (const_starts.Whole c) = tt
    rest (const_starts.Sign negative) = tt
    rest (const_starts.Number n) = clear_sized_const n F h

-- an attribute does not go on: no value and no digits are next
pub record AfterAttr (x : Next) : Type 0 where
  pub no_value : at_token (λ y. say.at_mark 61 y.token) x ≡ leaves
  pub no_digits : NoDigits x

clear_attr_value : (F : Follows Const) → ((c : Const) (x : Next) → F c x → AfterAttr x) → Clears attr_value F
unfolding attr_value
clear_attr_value F h = clear_after 61 constant (gives (consts.Number (pos 1))) F (clear_constant F (λ c x n. (h c x n).no_digits)) tt (λ x n. (h (consts.Number (pos 1)) x (given (consts.Number (pos 1)) F x n)).no_value)

clear_attr : (F : Follows Attr) → ((a : Attr) (x : Next) → F a x → AfterAttr x) → Clears attr F
unfolding attr one
clear_attr F h = (tt, λ n. (clear_attr_value (λ v. Comes (gives (record { name = n; value = v })) F) (λ v x m. h (record { name = n; value = v }) x (given (record { name = n; value = v }) F x m)), λ _. tt))

in_group_after : (x : Next) → InList token.AttrStop x → AfterAttr x
in_group_after x (inl t) = record { no_value = is_left (say.at_mark 61) (token.Punct 44) x refl t; no_digits = λ n. is_left (say.at_digits n) (token.Punct 44) x refl t }
in_group_after x (inr t) = record { no_value = is_left (say.at_mark 61) token.AttrStop x refl t; no_digits = λ n. is_left (say.at_digits n) token.AttrStop x refl t }

clear_group : (so_far : List Attr) (F : Follows (List Attr)) → Clears (group so_far) F
unfolding group
clear_group so_far F = (
  clear_fewer tt attr (λ a. Comes (commas attr group_end (so_far ++ a ∷ [])) F) (λ _ x. InList token.AttrStop x)
      (λ a x n. next_commas attr (λ _ x. say.group_end_of x.token) token.AttrStop ends_group (so_far ++ a ∷ []) F x n) (clear_attr (λ _ x. InList token.AttrStop x) (λ _ x n. in_group_after x n)),
  λ a. clear_commas attr (λ _ x. say.group_end_of x.token) token.AttrStop ends_group (so_far ++ a ∷ []) F (clear_attr (λ _ x. InList token.AttrStop x) (λ _ x n. in_group_after x n)),
)

-- Attributes are clear where no "(*" follows them.
pub clear_groups : (so_far : List Attr) (F : Follows (List Attr)) → ((s : List Attr) (x : Next) → F s x → at_token (λ y. say.at_group y.token) x ≡ leaves) → Clears (groups so_far) F
unfolding groups while_next
clear_groups so_far F h = (λ s _. clear_group s _, λ s. tt, λ s x n. h s x (given s F x n))
