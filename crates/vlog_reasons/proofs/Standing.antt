-- Where tokens of a Verilog text stand, and which tokens are there given no reason but the last two.
use Rattle.std.proofs.Common.{◌≡◌, refl, sym, subst, ℕ, Bool, true, false, not, ◌&&◌, ◌||◌, List, [], ◌∷◌, Some}
use Rattle.std.specs.Prelude.{ℤ, ◌==◌}
use Rattle.grammar.specs.Whole.{Terminal, proper, end}
use Rattle.nl_base.specs.declared.fault.Reason.TheVariants as reasons
use Rattle.nl_base.specs.declared.place.Place.{Place}
use Rattle.vlog_tokens.specs.declared.token.VFound.{VFound}
use Rattle.vlog_tokens.specs.declared.token.VToken.{VToken}
use Rattle.vlog_tokens.specs.declared.token.VToken.TheVariants as t
use Rattle.vlog_exprs.specs.Reasons as say
use Rattle.vlog_reasons.specs.Context.{Tokens, Brace, Context, is_mark, is_number, levels, after, at_start}
use Rattle.vlog_reasons.specs.Rows.{when, opens_bound, bound_is_due, is_no_size, may_be_size, expression_is_due, or_next, reason_of}

-- ---- rows

pub no_range : (p q : Bool) → p ≡ false → reasons.Unexpected ≡ or_next (when (p && q) reasons.NumberRange) reasons.Unexpected
no_range true q e = absurd cc
no_range false q e = refl

pub in_range : (p q : Bool) → p ≡ true → q ≡ false → reasons.NumberRange ≡ or_next (when (p && not q) reasons.NumberRange) reasons.Unexpected
in_range true true e f = absurd cc
in_range true false e f = refl
in_range false q e f = absurd cc

pub no_digits : (p : Bool) → p ≡ false → reasons.Unexpected ≡ or_next (when p reasons.NumberRange) reasons.Unexpected
no_digits true e = absurd cc
no_digits false e = refl

pub not_deep : (p q r : Bool) → (q && r) ≡ false → reasons.Unexpected ≡ or_next (when (p && q && r) reasons.TooDeep) reasons.Unexpected
not_deep false q r e = refl
not_deep true false r e = refl
not_deep true true false e = refl
not_deep true true true e = absurd cc

pub no_brace : (p q r : Bool) → p ≡ false → reasons.Unexpected ≡ or_next (when (p && q && r) reasons.TooDeep) reasons.Unexpected
no_brace false q r e = refl
no_brace true q r e = absurd cc

pub both_false : (a b d : Bool) → a ≡ false → b ≡ false → (a || (b && d)) ≡ false
both_false false false d e f = refl
both_false false true d e f = absurd cc
both_false true b d e f = absurd cc

pub left_false : (a b : Bool) → a ≡ false → (a && b) ≡ false
left_false false b e = refl
left_false true b e = absurd cc

pub right_false : (a b : Bool) → b ≡ false → (a && b) ≡ false
right_false false b e = refl
right_false true b e = e

-- ---- no row but the last two fits

pub record IsCalm (c : Context) : Type 0 where
  pub bound : bound_is_due c ≡ false
  pub size : (is_no_size c.last && may_be_size c.earlier) ≡ false
  pub brace : (expression_is_due c.last && levels c.braces == 64) ≡ false

pub calm_token : (c : Context) → IsCalm c → (u : VToken) → say.misplaced u ≡ reason_of c u
calm_token c calm (t.Name n) = refl
calm_token c calm (t.Keyword w) = refl
calm_token c calm (t.Number n) = no_range (bound_is_due c) _ calm.bound
calm_token c calm (t.Real x) = refl
calm_token c calm (t.Based d) = no_digits (is_no_size c.last && may_be_size c.earlier) calm.size
calm_token c calm (t.Str s) = refl
calm_token c calm (t.Punct b) = not_deep (b == 123) (expression_is_due c.last) (levels c.braces == 64) calm.brace
calm_token c calm t.AttrStart = refl
calm_token c calm t.AttrStop = refl
calm_token c calm (t.Symbol b) = refl
calm_token c calm (t.Directive w) = refl

abbrev pub FineAt : Context → Terminal VFound Place → Type 0
FineAt c (proper x) = say.misplaced x.token ≡ reason_of c x.token
FineAt c (end p) = Unit {0}

-- the next token, where it is out of place, is given no other reason
abbrev pub Fine : Context → Tokens → Type 0
Fine c [] = Unit {0}
Fine c (x ∷ b) = FineAt c x

pub calm_fine : (c : Context) (b : Tokens) → IsCalm c → Fine c b
calm_fine c [] calm = tt
calm_fine c (proper x ∷ b) calm = calm_token c calm x.token
calm_fine c (end p ∷ b) calm = tt

-- in these braces, where the next token is given no other reason
abbrev pub In : List Brace → Context → Tokens → Type 0
In bs c ts = (c.braces ≡ bs) × Fine c ts

-- directly behind a token
abbrev pub At : VToken → List Brace → Context → Tokens → Type 0
At u bs c ts = (c.braces ≡ bs) × (c.last ≡ Some u)

-- ---- tokens behind which expressions and constants stand

pub record Opens (u : VToken) : Type 0 where
  pub no_bound : opens_bound (Some u) ≡ false
  pub no_minus : is_mark 45 (Some u) ≡ false
  pub no_size : is_no_size (Some u) ≡ false
  pub no_number : is_number (Some u) ≡ false
  pub sizes : may_be_size (Some u) ≡ true

pub due_at : (c : Context) (u : VToken) → opens_bound (Some u) ≡ false → is_mark 45 (Some u) ≡ false → c.last ≡ Some u → bound_is_due c ≡ false
due_at c u n m is =
    subst (λ z. (opens_bound z || (is_mark 45 z && opens_bound c.earlier)) ≡ false) (sym is)
    (both_false (opens_bound (Some u)) (is_mark 45 (Some u)) (opens_bound c.earlier) n m)

pub no_size_at : (c : Context) (u : VToken) → is_no_size (Some u) ≡ false → c.last ≡ Some u → (is_no_size c.last && may_be_size c.earlier) ≡ false
no_size_at c u n is =
    subst (λ z. (is_no_size z && may_be_size c.earlier) ≡ false) (sym is) (left_false (is_no_size (Some u)) (may_be_size c.earlier) n)

-- outside braces no level is open
pub no_level : (c : Context) → c.braces ≡ [] → (expression_is_due c.last && levels c.braces == 64) ≡ false
no_level c e =
    right_false (expression_is_due c.last) (levels c.braces == 64) (subst (λ (z : List Brace). (levels z == 64) ≡ false) (sym e) refl)

pub calm_at : (c : Context) (u : VToken) → Opens u → c.braces ≡ [] → c.last ≡ Some u → IsCalm c
calm_at c u o e is =
    record { bound = due_at c u o.no_bound o.no_minus is; size = no_size_at c u o.no_size is; brace = no_level c e }

-- outside braces, where an expression or a constant may begin
abbrev pub Ahead : Context → Tokens → Type 0
Ahead c ts = (u : VToken) × Opens u × (c.braces ≡ []) × (c.last ≡ Some u)

abbrev pub Out : Context → Tokens → Type 0
Out = In []

pub ahead_out : (c : Context) (b : Tokens) → Ahead c b → Out c b
ahead_out c b i = (i.2, calm_fine c b (calm_at c i.0 i.1 i.2 i.3))

-- nothing has been read
pub out_at_start : (b : Tokens) → Out at_start b
out_at_start b = (refl, calm_fine at_start b (record { bound = refl; size = refl; brace = refl }))

-- ---- behind marks

-- no row speaks of what stands behind the mark, which is no brace
pub record IsQuiet (b : ℕ) : Type 0 where
  pub no_bound : opens_bound (Some (t.Punct b)) ≡ false
  pub no_minus : is_mark 45 (Some (t.Punct b)) ≡ false
  pub no_start : expression_is_due (Some (t.Punct b)) ≡ false
  pub braces : (c : Context) → (after c (t.Punct b)).braces ≡ c.braces

pub calm_mark : (c : Context) (b : ℕ) → IsQuiet b → IsCalm (after c (t.Punct b))
calm_mark c b q = record {
  bound = both_false (opens_bound (Some (t.Punct b))) (is_mark 45 (Some (t.Punct b))) (opens_bound c.last) q.no_bound q.no_minus;
  size = refl;
  brace = left_false (expression_is_due (Some (t.Punct b))) (levels (after c (t.Punct b)).braces == 64) q.no_start;
}

-- behind a number that no digits may follow
pub calm_number : (c : Context) (n : ℤ) → may_be_size c.last ≡ false → IsCalm (after c (t.Number n))
calm_number c n e =
    record { bound = refl; size = right_false (is_no_size (Some (t.Number n))) (may_be_size c.last) e; brace = refl }

-- ---- behind a number that may be a size

abbrev pub Sized : VToken → ℤ → List Brace → Context → Tokens → Type 0
Sized u n bs c ts = (c.braces ≡ bs) × (c.last ≡ Some (t.Number n)) × (c.earlier ≡ Some u)
