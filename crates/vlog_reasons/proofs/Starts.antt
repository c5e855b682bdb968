-- What the judges of the tokens of bounds, digits, constants and expressions say where the token stands.
use Rattle.std.proofs.Common.{◌≡◌, refl, sym, ap, subst, ℕ, zero, suc, ◌+◌, eqb, Bool, true, false, not, cond, ◌&&◌, List, [], ◌∷◌, Ok, Err, Option, Some, arith}
use Rattle.std.specs.Prelude.{ℤ, ◌==◌}
use Rattle.std.proofs.lemmas.Bool.{eqb-true}
use Rattle.grammar.specs.Part.{takes, refuses, leaves}
use Rattle.nl_base.specs.declared.fault.Reason.TheVariants as reasons
use Rattle.vlog_tokens.specs.declared.token.VToken.{VToken}
use Rattle.vlog_tokens.specs.declared.token.VToken.TheVariants as t
use Rattle.vlog_values.specs.declared.literal.Literal.{Literal}
use Rattle.vlog_exprs.specs.Reasons as say
use Rattle.vlog_exprs.specs.declared.start.ExprStart.{ExprStart}
use Rattle.vlog_exprs.specs.declared.start.ExprStart.TheVariants as starts
use Rattle.vlog_exprs.specs.declared.start.ConstStart.{ConstStart}
use Rattle.vlog_exprs.specs.declared.start.ConstStart.TheVariants as const_starts
use Rattle.vlog_reasons.specs.Context.{Tokens, Brace, Level, Context, is_number, levels, opened, after}
use Rattle.vlog_reasons.specs.Rows.{when, or_next, opens_bound, bound_is_due, is_no_size, may_be_size, expression_is_due, reason_of}
use Rattle.vlog_reasons.proofs.Tracking.{Before, Behind, Judged, Seen}
use Rattle.vlog_reasons.proofs.Standing.{no_range, in_range, no_digits, no_brace, not_deep, left_false, Fine, calm_fine, In, At, Opens, due_at, no_size_at, Out, calm_number, Sized}
use Rattle.vlog_reasons.proofs.Judges.{Plain, quiet}

pub not_started : (m : ℕ) (q r : Bool) → q ≡ false → reasons.Unexpected ≡ or_next (when (m == 123 && q && r) reasons.TooDeep) reasons.Unexpected
not_started m q r e = not_deep (m == 123) q r (left_false q r e)

both_true : (p q : Bool) → p ≡ false → q ≡ true → (not p && q) ≡ true
both_true false true e f = refl
both_true true q e f = absurd cc
both_true false false e f = absurd cc

of_digits : (p : Bool) → p ≡ true → reasons.NumberRange ≡ or_next (when p reasons.NumberRange) reasons.Unexpected
of_digits true e = refl
of_digits false e = absurd cc

-- ---- the number of a bound

pub record NumberAt (bs : List Brace) (c : Context) (b : Tokens) : Type 0 where
  pub braces : c.braces ≡ bs
  pub bound : bound_is_due c ≡ true
  pub size : is_no_size c.last ≡ false
  pub start : expression_is_due c.last ≡ false
  pub behind_it : may_be_size c.last ≡ false

module _ (bs : List Brace) (c : Context) (b : Tokens) (here : (ts : Tokens) → NumberAt bs c ts) where
  judged_bound : (n : ℤ) (test : Bool) → say.is_bound n ≡ test → Judged c (λ v d. In bs d b) (t.Number n) (cond test (Ok n) (Err reasons.NumberRange))
  judged_bound n true is = quiet bs c (t.Number n) b (calm_number c n (here []).behind_it) (here []).braces
  judged_bound n false is = in_range (bound_is_due c) (say.is_bound n) (here []).bound is

  pub bound_by : (u : VToken) → Judged c (λ v d. In bs d b) u (say.bound_of u)
  bound_by (t.Name n) = refl
  bound_by (t.Keyword w) = refl
  bound_by (t.Number n) = judged_bound n (say.is_bound n) refl
  bound_by (t.Real x) = refl
  bound_by (t.Based d) = no_digits (is_no_size c.last && may_be_size c.earlier)
      (left_false (is_no_size c.last) (may_be_size c.earlier) (here []).size)
  bound_by (t.Str s) = refl
  bound_by (t.Punct m) = not_started m (expression_is_due c.last) (levels c.braces == 64) (here []).start
  bound_by t.AttrStart = refl
  bound_by t.AttrStop = refl
  bound_by (t.Symbol m) = refl
  bound_by (t.Directive w) = refl

-- ---- digits behind a number that may be a size

module _ (bs : List Brace) (u : VToken) (n : ℤ) (o : Opens u) (c : Context) (b : Tokens) (e : c.braces ≡ bs) (is : c.last ≡ Some (t.Number n))
    (before : c.earlier ≡ Some u) where
  wrong_size : say.is_size n ≡ false → (is_no_size c.last && may_be_size c.earlier) ≡ true
  wrong_size isnt =
      subst (λ z. (is_no_size z && may_be_size c.earlier) ≡ true) (sym is)
      (subst (λ z. (is_no_size (Some (t.Number n)) && may_be_size z) ≡ true) (sym before)
      (both_true (say.is_size n) (may_be_size (Some u)) isnt o.sizes))

  seen_digits : (L : Type 0) (d : _) (l : Literal) (test : Bool) → say.is_size n ≡ test
      → Seen (λ v d. In bs d b) L c (t.Based d) (cond test (takes l) (refuses reasons.NumberRange))
  seen_digits L d l true k = quiet bs c (t.Based d) b (record { bound = refl; size = refl; brace = refl }) e
  seen_digits L d l false k = of_digits (is_no_size c.last && may_be_size c.earlier) (wrong_size k)

  -- what is left, which is no digits, is given no other reason
  pub digits_by : (v : VToken) → Seen (λ _ d. In bs d b) ((c.braces ≡ bs) × Plain c v) c v (say.at_digits n v)
  digits_by (t.Name n) = (e, refl)
  digits_by (t.Keyword w) = (e, refl)
  digits_by (t.Number k) = (e, no_range (bound_is_due c) _ (due_at c (t.Number n) refl refl is))
  digits_by (t.Real x) = (e, refl)
  digits_by (t.Based d) = seen_digits _ d _ (say.is_size n) refl
  digits_by (t.Str s) = (e, refl)
  digits_by (t.Punct m) = (
    e,
    not_started m (expression_is_due c.last) (levels c.braces == 64)
        (subst (λ z. expression_is_due z ≡ false) (sym is) refl),
  )
  digits_by t.AttrStart = (e, refl)
  digits_by t.AttrStop = (e, refl)
  digits_by (t.Symbol m) = (e, refl)
  digits_by (t.Directive w) = (e, refl)

-- ---- how a constant begins

-- behind a sign
abbrev pub SignAt : Context → Tokens → Type 0
SignAt c ts = (c.braces ≡ []) × Fine c ts × (may_be_size c.last ≡ false)

abbrev pub ConstStarted : VToken → Behind ConstStart
ConstStarted u (const_starts.Whole v) c ts = Out c ts
ConstStarted u (const_starts.Sign negative) c ts = SignAt c ts
ConstStarted u (const_starts.Number n) c ts = Sized u n [] c ts

module _ (u : VToken) (o : Opens u) (c : Context) (b : Tokens) (e : c.braces ≡ []) (is : c.last ≡ Some u) where
  no_bound_here : opens_bound c.last ≡ false
  no_bound_here = subst (λ z. opens_bound z ≡ false) (sym is) o.no_bound

  behind_plus : SignAt (after c (t.Punct 43)) b
  behind_plus = (e, calm_fine (after c (t.Punct 43)) b (record { bound = refl; size = refl; brace = refl }), refl)

  behind_minus : SignAt (after c (t.Punct 45)) b
  behind_minus = (e, calm_fine (after c (t.Punct 45)) b (record { bound = no_bound_here; size = refl; brace = refl }), refl)

  judged_sign : (m : ℕ) (plus minus : Bool) → eqb m 43 ≡ plus → eqb m 45 ≡ minus → reasons.Unexpected ≡ reason_of c (t.Punct m)
      → Judged c (λ v d. ConstStarted u v d b) (t.Punct m)
      (cond plus (Ok (const_starts.Sign false)) (cond minus (Ok (const_starts.Sign true)) (Err reasons.Unexpected)))
  judged_sign m true minus k l h = subst (λ z. SignAt (after c (t.Punct z)) b) (sym (eqb-true m 43 k)) behind_plus
  judged_sign m false true k l h = subst (λ z. SignAt (after c (t.Punct z)) b) (sym (eqb-true m 45 l)) behind_minus
  judged_sign m false false k l h = h

  pub const_start_by : (v : VToken) → Plain c v → Judged c (λ v d. ConstStarted u v d b) v (say.const_start v)
  const_start_by (t.Name n) h = h
  const_start_by (t.Keyword w) h = h
  const_start_by (t.Number n) h = (e, refl, is)
  const_start_by (t.Real x) h = quiet [] c (t.Real x) b (record { bound = refl; size = refl; brace = refl }) e
  const_start_by (t.Based d) h = quiet [] c (t.Based d) b (record { bound = refl; size = refl; brace = refl }) e
  const_start_by (t.Str s) h = quiet [] c (t.Str s) b (record { bound = refl; size = refl; brace = refl }) e
  const_start_by (t.Punct m) h = judged_sign m (eqb m 43) (eqb m 45) refl refl h
  const_start_by t.AttrStart h = h
  const_start_by t.AttrStop h = h
  const_start_by (t.Symbol m) h = h
  const_start_by (t.Directive w) h = h

pub signed_by : (negative : Bool) (c : Context) (b : Tokens) → c.braces ≡ [] → may_be_size c.last ≡ false → (v : VToken) → Plain c v
    → Judged c (λ _ d. Out d b) v (say.signed_of negative v)
signed_by negative c b e unsized (t.Name n) h = h
signed_by negative c b e unsized (t.Keyword w) h = h
signed_by negative c b e unsized (t.Number n) h = quiet [] c (t.Number n) b (calm_number c n unsized) e
signed_by negative c b e unsized (t.Real x) h = quiet [] c (t.Real x) b (record { bound = refl; size = refl; brace = refl }) e
signed_by negative c b e unsized (t.Based d) h = h
signed_by negative c b e unsized (t.Str s) h = h
signed_by negative c b e unsized (t.Punct m) h = h
signed_by negative c b e unsized t.AttrStart h = h
signed_by negative c b e unsized t.AttrStop h = h
signed_by negative c b e unsized (t.Symbol m) h = h
signed_by negative c b e unsized (t.Directive w) h = h

-- ---- how an expression begins

-- behind a `{` that opens a level, where one more could be opened
abbrev pub BraceOpen : ℕ → List Brace → Before
BraceOpen zero bs c ts = ⊥
BraceOpen (suc room) bs c ts = At (t.Punct 123) (Level ∷ bs) c ts

abbrev pub Started : ℕ → VToken → List Brace → Behind ExprStart
Started room u bs (starts.Name n) c ts = In bs c ts
Started room u bs (starts.Number n) c ts = Sized u n bs c ts
Started room u bs (starts.Based d) c ts = In bs c ts
Started room u bs starts.Brace c ts = BraceOpen room bs c ts

-- an expression stands behind this token, in these braces, where so many more levels may be opened
pub record Room (room : ℕ) (u : VToken) (bs : List Brace) : Type 0 where
  pub opens : Opens u
  pub all_levels : levels bs + room ≡ 64
  pub start : room ≡ 0 → expression_is_due (Some u) ≡ true

deep : (m : ℕ) (q : Bool) (n : ℕ) → (m == 123) ≡ true → q ≡ true → n ≡ 64
    → reasons.TooDeep ≡ or_next (when (m == 123 && q && n == 64) reasons.TooDeep) reasons.Unexpected
deep m q n e f g = rw (e, f, g) refl

first_level : (o l : Option VToken) → is_number l ≡ false → opened l o ≡ Level
first_level o l e = rw e refl

module _ (room : ℕ) (u : VToken) (bs : List Brace) (r : Room room u bs) (c : Context) (b : Tokens) (e : c.braces ≡ bs) (is : c.last ≡ Some u) where
  no_due : bound_is_due c ≡ false
  no_due = due_at c u r.opens.no_bound r.opens.no_minus is

  no_wrong_size : (is_no_size c.last && may_be_size c.earlier) ≡ false
  no_wrong_size = no_size_at c u r.opens.no_size is

  level_behind : At (t.Punct 123) (Level ∷ bs) (after c (t.Punct 123)) b
  level_behind = (
    subst (λ (z : Brace). z ∷ c.braces ≡ Level ∷ bs) (sym (first_level c.earlier c.last
        (subst (λ z. is_number z ≡ false) (sym is) r.opens.no_number)))
        (ap (λ (z : List Brace). Level ∷ z) e),
    refl,
  )

  open_behind : (m : ℕ) → eqb m 123 ≡ true → At (t.Punct 123) (Level ∷ bs) (after c (t.Punct m)) b
  open_behind m k = subst (λ z. At (t.Punct 123) (Level ∷ bs) (after c (t.Punct z)) b) (sym (eqb-true m 123 k)) level_behind

  judged_open : (n : ℕ) → room ≡ n → (m : ℕ) → eqb m 123 ≡ true → Judged c (λ v d. Started n u bs v d b) (t.Punct m) (say.brace_of n)
  judged_open zero z m k =
      deep m (expression_is_due c.last) (levels c.braces) k (subst (λ z. expression_is_due z ≡ true) (sym is) (r.start z))
      (let l = ap levels e in let a = r.all_levels in omega (arith, l, a, z))
  judged_open (suc n) z m k = open_behind m k

  judged_brace : (m : ℕ) (test : Bool) → eqb m 123 ≡ test
      → Judged c (λ v d. Started room u bs v d b) (t.Punct m) (cond test (say.brace_of room) (Err reasons.Unexpected))
  judged_brace m true k = judged_open room refl m k
  judged_brace m false k = no_brace (m == 123) (expression_is_due c.last) (levels c.braces == 64) k

  pub expr_start_by : (left : Bool) (v : VToken) → Judged c (λ v d. Started room u bs v d b) v (say.expr_start left room v)
  expr_start_by left (t.Name n) = quiet bs c (t.Name n) b (record { bound = refl; size = refl; brace = refl }) e
  expr_start_by left (t.Keyword w) = refl
  expr_start_by true (t.Number n) = no_range (bound_is_due c) _ no_due
  expr_start_by false (t.Number n) = (e, refl, is)
  expr_start_by left (t.Real x) = refl
  expr_start_by true (t.Based d) = no_digits _ no_wrong_size
  expr_start_by false (t.Based d) = quiet bs c (t.Based d) b (record { bound = refl; size = refl; brace = refl }) e
  expr_start_by left (t.Str s) = refl
  expr_start_by left (t.Punct m) = judged_brace m (eqb m 123) refl
  expr_start_by left t.AttrStart = refl
  expr_start_by left t.AttrStop = refl
  expr_start_by left (t.Symbol m) = refl
  expr_start_by left (t.Directive w) = refl

-- outside braces a token may begin an expression
module _ (u : VToken) (o : Opens u) (c : Context) (b : Tokens) (e : c.braces ≡ []) (is : c.last ≡ Some u) where
  pub outermost : Room 64 u []
  outermost = record { opens = o; all_levels = refl; start = λ z. absurd cc }

  seen_brace : (L : Type 0) (m : ℕ) (test : Bool) → eqb m 123 ≡ test → L
      → Seen (λ v d. Started 64 u [] v d b) L c (t.Punct m) (cond test (takes starts.Brace) leaves)
  seen_brace L m true k h = open_behind 64 u [] outermost c b e is m k
  seen_brace L m false k h = h

  pub at_expr_by : (L : Type 0) (v : VToken) → L → Seen (λ v d. Started 64 u [] v d b) L c v (say.at_expr v)
  at_expr_by L (t.Name n) h = quiet [] c (t.Name n) b (record { bound = refl; size = refl; brace = refl }) e
  at_expr_by L (t.Keyword w) h = h
  at_expr_by L (t.Number n) h = (e, refl, is)
  at_expr_by L (t.Real x) h = h
  at_expr_by L (t.Based d) h = quiet [] c (t.Based d) b (record { bound = refl; size = refl; brace = refl }) e
  at_expr_by L (t.Str s) h = h
  at_expr_by L (t.Punct m) h = seen_brace L m (eqb m 123) refl h
  at_expr_by L t.AttrStart h = h
  at_expr_by L t.AttrStop h = h
  at_expr_by L (t.Symbol m) h = h
  at_expr_by L (t.Directive w) h = h
