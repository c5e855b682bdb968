-- What each judge of a token refuses fits.
use Rattle.std.proofs.Common.{◌≡◌, ℕ, zero, suc, eqb, Bool, true, false, cond, ℤ, List, Result, Ok, Err, refl, sym, subst, inl, inr, Option, Some, None}
use Rattle.std.proofs.lemmas.Bool.{eqb-true}
use Rattle.grammar.specs.Part.{Glance, takes, refuses, leaves}
use Rattle.grammar.specs.Whole.{Terminal, proper, end}
use Rattle.readers.specs.Parts.{one, of_token, at_token}
use Rattle.nl_base.specs.declared.place.Place.{Place}
use Rattle.nl_base.specs.declared.fault.Reason.{Reason}
use Rattle.nl_base.specs.declared.fault.Reason.TheVariants as reasons
use Rattle.vlog_tokens.specs.declared.token.VFound.{VFound}
use Rattle.vlog_tokens.specs.declared.token.VToken.{VToken}
use Rattle.vlog_tokens.specs.declared.token.VToken.TheVariants as t
use Rattle.vlog_values.specs.declared.literal.Literal.{Literal}
use Rattle.vlog_exprs.specs.Language.{NoContext}
use Rattle.vlog_exprs.specs.Reasons as say
use Rattle.vlog_exprs.specs.declared.start.ExprStart.{ExprStart}
use Rattle.vlog_exprs.specs.declared.start.ExprStart.TheVariants as starts
use Rattle.nl_base.specs.Case.{same_bytes}
use Rattle.vlog_faults.specs.Fitting.{FitsToken, Fits}
use Rattle.grammar_laws.proofs.Ending.{IsToken}
use Rattle.grammar_laws.proofs.Refusing.{AllFit}

-- ---- parts of one token

abbrev pub JudgeFits : {A : Type 0} → (VToken → Result A Reason) → Type 0
JudgeFits judge = (t : VToken) (r : Reason) → judge t ≡ Err r → FitsToken t r

one_fits_by : {A : Type 0} (judge : VToken → Result A Reason) → JudgeFits judge → (x : Terminal VFound Place) (r : Reason) → of_token (λ (x : VFound). judge x.token) x ≡ Err r → Fits x r
one_fits_by judge h (proper x) r e = h x.token r e
one_fits_by judge h (end p) r e = cc

one_takes : {A : Type 0} (judge : VToken → Result A Reason) (x : Terminal VFound Place) (a : A) → of_token (λ (x : VFound). judge x.token) x ≡ Ok a → IsToken x
one_takes judge (proper x) a e = tt
one_takes judge (end p) a e = absurd cc

pub one_fits : {A : Type 0} (judge : VToken → Result A Reason) → JudgeFits judge → AllFit Fits IsToken tt (one {K = NoContext} (λ _ (x : VFound). judge x.token))
unfolding one
one_fits judge h = (λ x r e. one_fits_by judge h x r e, λ x a e. one_takes judge x a e)

abbrev pub GlanceFits : {C : Type 0} → (VToken → Glance C Reason) → Type 0
GlanceFits glance = (t : VToken) (r : Reason) → glance t ≡ refuses r → FitsToken t r

pub glance_fits_by : {C : Type 0} (glance : VToken → Glance C Reason) → GlanceFits glance → (x : Terminal VFound Place) (r : Reason) → at_token (λ (x : VFound). glance x.token) x ≡ refuses r → Fits x r
glance_fits_by glance h (proper x) r e = h x.token r e
glance_fits_by glance h (end p) r e = absurd cc

pub look_takes : {C : Type 0} (glance : VToken → Glance C Reason) (x : Terminal VFound Place) (c : C) → at_token (λ (x : VFound). glance x.token) x ≡ takes c → IsToken x
look_takes glance (proper x) c e = tt
look_takes glance (end p) c e = absurd cc

-- ---- tokens that may not stand

pub misplaced_fits : (t : VToken) → FitsToken t (say.misplaced t)
misplaced_fits (t.Name n) = refl
misplaced_fits (t.Keyword w) = refl
misplaced_fits (t.Number n) = inl refl
misplaced_fits (t.Real x) = refl
misplaced_fits (t.Based d) = inl refl
misplaced_fits (t.Str s) = refl
misplaced_fits (t.Punct b) = inl refl
misplaced_fits t.AttrStart = refl
misplaced_fits t.AttrStop = refl
misplaced_fits (t.Symbol b) = refl
misplaced_fits (t.Directive w) = refl

abbrev pub err : (A : Type 0) → Reason → Result A Reason
err A r = Err r

pub err_of : {A : Type 0} (q r : Reason) → err A q ≡ err A r → q ≡ r
err_of q r e = cc

pub astray : {A : Type 0} (t : VToken) (r : Reason) → err A (say.misplaced t) ≡ err A r → FitsToken t r
astray {A = A} t r e = subst (FitsToken t) (err_of {A = A} (say.misplaced t) r e) (misplaced_fits t)

-- ---- judges

pub name_fits : JudgeFits say.name_of
name_fits (t.Name n) r e = absurd cc
name_fits (t.Keyword w) r e = astray (t.Keyword w) r e
name_fits (t.Number n) r e = astray (t.Number n) r e
name_fits (t.Real x) r e = astray (t.Real x) r e
name_fits (t.Based d) r e = astray (t.Based d) r e
name_fits (t.Str s) r e = astray (t.Str s) r e
name_fits (t.Punct b) r e = astray (t.Punct b) r e
name_fits t.AttrStart r e = astray t.AttrStart r e
name_fits t.AttrStop r e = astray t.AttrStop r e
name_fits (t.Symbol b) r e = astray (t.Symbol b) r e
name_fits (t.Directive w) r e = astray (t.Directive w) r e

mark_by : {A : Type 0} (b : ℕ) (test : Bool) (ok : A) (r : Reason) → cond test (Ok ok) (Err reasons.Unexpected) ≡ Err r → FitsToken (t.Punct b) r
mark_by b true ok r e = absurd cc
mark_by b false ok r e = inl (sym (err_of reasons.Unexpected r e))

pub mark_fits : (due : ℕ) → JudgeFits (say.mark_of due)
mark_fits due (t.Punct b) r e = mark_by b (eqb b due) tt r e
mark_fits due (t.Name n) r e = astray (t.Name n) r e
mark_fits due (t.Keyword w) r e = astray (t.Keyword w) r e
mark_fits due (t.Number n) r e = astray (t.Number n) r e
mark_fits due (t.Real x) r e = astray (t.Real x) r e
mark_fits due (t.Based d) r e = astray (t.Based d) r e
mark_fits due (t.Str s) r e = astray (t.Str s) r e
mark_fits due t.AttrStart r e = astray t.AttrStart r e
mark_fits due t.AttrStop r e = astray t.AttrStop r e
mark_fits due (t.Symbol b) r e = astray (t.Symbol b) r e
mark_fits due (t.Directive w) r e = astray (t.Directive w) r e

pub group_end_fits : JudgeFits say.group_end_of
group_end_fits t.AttrStop r e = absurd cc
group_end_fits (t.Name n) r e = astray (t.Name n) r e
group_end_fits (t.Keyword w) r e = astray (t.Keyword w) r e
group_end_fits (t.Number n) r e = astray (t.Number n) r e
group_end_fits (t.Real x) r e = astray (t.Real x) r e
group_end_fits (t.Based d) r e = astray (t.Based d) r e
group_end_fits (t.Str s) r e = astray (t.Str s) r e
group_end_fits (t.Punct b) r e = astray (t.Punct b) r e
group_end_fits t.AttrStart r e = astray t.AttrStart r e
group_end_fits (t.Symbol b) r e = astray (t.Symbol b) r e
group_end_fits (t.Directive w) r e = astray (t.Directive w) r e

bound_by : (n : ℤ) (test : Bool) → say.is_bound n ≡ test → (r : Reason) → cond test (Ok n) (Err reasons.NumberRange) ≡ Err r → FitsToken (t.Number n) r
bound_by n true is r e = absurd cc
bound_by n false is r e = inr (sym (err_of reasons.NumberRange r e), is)

pub bound_fits : JudgeFits say.bound_of
bound_fits (t.Number n) r e = bound_by n (say.is_bound n) refl r e
bound_fits (t.Name n) r e = astray (t.Name n) r e
bound_fits (t.Keyword w) r e = astray (t.Keyword w) r e
bound_fits (t.Real x) r e = astray (t.Real x) r e
bound_fits (t.Based d) r e = astray (t.Based d) r e
bound_fits (t.Str s) r e = astray (t.Str s) r e
bound_fits (t.Punct b) r e = astray (t.Punct b) r e
bound_fits t.AttrStart r e = astray t.AttrStart r e
bound_fits t.AttrStop r e = astray t.AttrStop r e
bound_fits (t.Symbol b) r e = astray (t.Symbol b) r e
bound_fits (t.Directive w) r e = astray (t.Directive w) r e

brace_by : (b room : ℕ) (test : Bool) → eqb b 123 ≡ test → (r : Reason) → cond test (say.brace_of room) (Err reasons.Unexpected) ≡ Err r → FitsToken (t.Punct b) r
brace_by b zero true is r e = inr (sym (err_of reasons.TooDeep r e), eqb-true b 123 is)
brace_by b (suc room) true is r e = absurd cc
brace_by b room false is r e = inl (sym (err_of reasons.Unexpected r e))

number_by : (n : ℤ) (left : Bool) (s : ExprStart) (r : Reason) → cond left (Err reasons.Unexpected) (Ok s) ≡ Err r → FitsToken (t.Number n) r
number_by n true s r e = inl (sym (err_of reasons.Unexpected r e))
number_by n false s r e = absurd cc

pub expr_start_fits : (left : Bool) (room : ℕ) → JudgeFits (say.expr_start left room)
expr_start_fits left room (t.Name n) r e = absurd cc
expr_start_fits true room (t.Number n) r e = inl (sym (err_of reasons.Unexpected r e))
expr_start_fits false room (t.Number n) r e = absurd cc
expr_start_fits true room (t.Based d) r e = inl (sym (err_of reasons.Unexpected r e))
expr_start_fits false room (t.Based d) r e = absurd cc
expr_start_fits left room (t.Punct b) r e = brace_by b room (eqb b 123) refl r e
expr_start_fits left room (t.Keyword w) r e = astray (t.Keyword w) r e
expr_start_fits left room (t.Real x) r e = astray (t.Real x) r e
expr_start_fits left room (t.Str s) r e = astray (t.Str s) r e
expr_start_fits left room t.AttrStart r e = astray t.AttrStart r e
expr_start_fits left room t.AttrStop r e = astray t.AttrStop r e
expr_start_fits left room (t.Symbol b) r e = astray (t.Symbol b) r e
expr_start_fits left room (t.Directive w) r e = astray (t.Directive w) r e

sign_by : {A : Type 0} (b : ℕ) (one two : Bool) (p q : A) (r : Reason) → cond one (Ok p) (cond two (Ok q) (Err reasons.Unexpected)) ≡ Err r → FitsToken (t.Punct b) r
sign_by b true two p q r e = absurd cc
sign_by b false true p q r e = absurd cc
sign_by b false false p q r e = inl (sym (err_of reasons.Unexpected r e))

pub const_start_fits : JudgeFits say.const_start
const_start_fits (t.Str s) r e = absurd cc
const_start_fits (t.Real x) r e = absurd cc
const_start_fits (t.Based d) r e = absurd cc
const_start_fits (t.Number n) r e = absurd cc
const_start_fits (t.Punct b) r e = sign_by b (eqb b 43) (eqb b 45) _ _ r e
const_start_fits (t.Name n) r e = astray (t.Name n) r e
const_start_fits (t.Keyword w) r e = astray (t.Keyword w) r e
const_start_fits t.AttrStart r e = astray t.AttrStart r e
const_start_fits t.AttrStop r e = astray t.AttrStop r e
const_start_fits (t.Symbol b) r e = astray (t.Symbol b) r e
const_start_fits (t.Directive w) r e = astray (t.Directive w) r e

pub signed_fits : (negative : Bool) → JudgeFits (say.signed_of negative)
signed_fits negative (t.Number n) r e = absurd cc
signed_fits negative (t.Real x) r e = absurd cc
signed_fits negative (t.Name n) r e = astray (t.Name n) r e
signed_fits negative (t.Keyword w) r e = astray (t.Keyword w) r e
signed_fits negative (t.Based d) r e = astray (t.Based d) r e
signed_fits negative (t.Str s) r e = astray (t.Str s) r e
signed_fits negative (t.Punct b) r e = astray (t.Punct b) r e
signed_fits negative t.AttrStart r e = astray t.AttrStart r e
signed_fits negative t.AttrStop r e = astray t.AttrStop r e
signed_fits negative (t.Symbol b) r e = astray (t.Symbol b) r e
signed_fits negative (t.Directive w) r e = astray (t.Directive w) r e

-- ---- looks

abbrev pub no : (C : Type 0) → Reason → Glance C Reason
no C r = refuses r

mark_look_by : (b : ℕ) (test : Bool) (r : Reason) → cond test (takes tt) leaves ≡ no (Unit {0}) r → ⊥
mark_look_by b true r e = cc
mark_look_by b false r e = cc

pub at_mark_fits : (due : ℕ) → GlanceFits (say.at_mark due)
at_mark_fits due (t.Punct b) r e = absurd (mark_look_by b (eqb b due) r e)
at_mark_fits due (t.Name n) r e = absurd cc
at_mark_fits due (t.Keyword w) r e = absurd cc
at_mark_fits due (t.Number n) r e = absurd cc
at_mark_fits due (t.Real x) r e = absurd cc
at_mark_fits due (t.Based d) r e = absurd cc
at_mark_fits due (t.Str s) r e = absurd cc
at_mark_fits due t.AttrStart r e = absurd cc
at_mark_fits due t.AttrStop r e = absurd cc
at_mark_fits due (t.Symbol b) r e = absurd cc
at_mark_fits due (t.Directive w) r e = absurd cc

pub at_group_fits : GlanceFits say.at_group
at_group_fits t.AttrStart r e = absurd cc
at_group_fits (t.Name n) r e = absurd cc
at_group_fits (t.Keyword w) r e = absurd cc
at_group_fits (t.Number n) r e = absurd cc
at_group_fits (t.Real x) r e = absurd cc
at_group_fits (t.Based d) r e = absurd cc
at_group_fits (t.Str s) r e = absurd cc
at_group_fits (t.Punct b) r e = absurd cc
at_group_fits t.AttrStop r e = absurd cc
at_group_fits (t.Symbol b) r e = absurd cc
at_group_fits (t.Directive w) r e = absurd cc

refuses_of : {C : Type 0} (q r : Reason) → no C q ≡ no C r → q ≡ r
refuses_of q r e = cc

digits_by : (test : Bool) (l : Literal) (r : Reason) → cond test (takes l) (refuses reasons.NumberRange) ≡ refuses r → r ≡ reasons.NumberRange
digits_by true l r e = absurd cc
digits_by false l r e = sym (refuses_of {C = Literal} reasons.NumberRange r e)

pub at_digits_fits : (n : ℤ) → GlanceFits (say.at_digits n)
at_digits_fits n (t.Based d) r e = inr (digits_by (say.is_size n) _ r e)
at_digits_fits n (t.Name m) r e = absurd cc
at_digits_fits n (t.Keyword w) r e = absurd cc
at_digits_fits n (t.Number m) r e = absurd cc
at_digits_fits n (t.Real x) r e = absurd cc
at_digits_fits n (t.Str s) r e = absurd cc
at_digits_fits n (t.Punct b) r e = absurd cc
at_digits_fits n t.AttrStart r e = absurd cc
at_digits_fits n t.AttrStop r e = absurd cc
at_digits_fits n (t.Symbol b) r e = absurd cc
at_digits_fits n (t.Directive w) r e = absurd cc

-- ---- keywords

pub word_by : {A : Type 0} (w : List ℕ) (test : Bool) (ok : A) (r : Reason) → cond test (Ok ok) (Err (reasons.NotInProfile w)) ≡ Err r → FitsToken (t.Keyword w) r
word_by w true ok r e = absurd cc
word_by {A = A} w false ok r e = sym (err_of {A = A} (reasons.NotInProfile w) r e)

choice_by : {A : Type 0} (w : List ℕ) (o : Option A) (r : Reason) → say.choice_by w o ≡ Err r → FitsToken (t.Keyword w) r
choice_by {A = A} w None r e = sym (err_of {A = A} (reasons.NotInProfile w) r e)
choice_by w (Some a) r e = absurd cc

glance_by : {A : Type 0} (o : Option A) (r : Reason) → say.glance_of o ≡ no A r → ⊥
glance_by None r e = cc
glance_by (Some a) r e = cc

pub keyword_fits : (due : List ℕ) → JudgeFits (say.keyword_of due)
keyword_fits due (t.Name n) r e = astray (t.Name n) r e
keyword_fits due (t.Keyword w) r e = word_by w (same_bytes w due) tt r e
keyword_fits due (t.Number n) r e = astray (t.Number n) r e
keyword_fits due (t.Real x) r e = astray (t.Real x) r e
keyword_fits due (t.Based d) r e = astray (t.Based d) r e
keyword_fits due (t.Str s) r e = astray (t.Str s) r e
keyword_fits due (t.Punct b) r e = astray (t.Punct b) r e
keyword_fits due t.AttrStart r e = astray t.AttrStart r e
keyword_fits due t.AttrStop r e = astray t.AttrStop r e
keyword_fits due (t.Symbol b) r e = astray (t.Symbol b) r e
keyword_fits due (t.Directive w) r e = astray (t.Directive w) r e

pub choice_fits : {A : Type 0} (words : List (List ℕ × A)) → JudgeFits (say.choice_of words)
choice_fits words (t.Name n) r e = astray (t.Name n) r e
choice_fits words (t.Keyword w) r e = choice_by w (say.meant_by words w) r e
choice_fits words (t.Number n) r e = astray (t.Number n) r e
choice_fits words (t.Real x) r e = astray (t.Real x) r e
choice_fits words (t.Based d) r e = astray (t.Based d) r e
choice_fits words (t.Str s) r e = astray (t.Str s) r e
choice_fits words (t.Punct b) r e = astray (t.Punct b) r e
choice_fits words t.AttrStart r e = astray t.AttrStart r e
choice_fits words t.AttrStop r e = astray t.AttrStop r e
choice_fits words (t.Symbol b) r e = astray (t.Symbol b) r e
choice_fits words (t.Directive w) r e = astray (t.Directive w) r e

pub at_choice_fits : {A : Type 0} (words : List (List ℕ × A)) → GlanceFits (say.at_choice words)
at_choice_fits words (t.Name n) r e = absurd cc
at_choice_fits words (t.Keyword w) r e = absurd (glance_by (say.meant_by words w) r e)
at_choice_fits words (t.Number n) r e = absurd cc
at_choice_fits words (t.Real x) r e = absurd cc
at_choice_fits words (t.Based d) r e = absurd cc
at_choice_fits words (t.Str s) r e = absurd cc
at_choice_fits words (t.Punct b) r e = absurd cc
at_choice_fits words t.AttrStart r e = absurd cc
at_choice_fits words t.AttrStop r e = absurd cc
at_choice_fits words (t.Symbol b) r e = absurd cc
at_choice_fits words (t.Directive w) r e = absurd cc

pub at_name_fits : GlanceFits say.at_name
at_name_fits (t.Name n) r e = absurd cc
at_name_fits (t.Keyword w) r e = absurd cc
at_name_fits (t.Number n) r e = absurd cc
at_name_fits (t.Real x) r e = absurd cc
at_name_fits (t.Based d) r e = absurd cc
at_name_fits (t.Str s) r e = absurd cc
at_name_fits (t.Punct b) r e = absurd cc
at_name_fits t.AttrStart r e = absurd cc
at_name_fits t.AttrStop r e = absurd cc
at_name_fits (t.Symbol b) r e = absurd cc
at_name_fits (t.Directive w) r e = absurd cc

expr_look_by : (test : Bool) (r : Reason) → cond test (takes starts.Brace) leaves ≡ no ExprStart r → ⊥
expr_look_by true r e = cc
expr_look_by false r e = cc

pub at_expr_fits : GlanceFits say.at_expr
at_expr_fits (t.Name n) r e = absurd cc
at_expr_fits (t.Keyword w) r e = absurd cc
at_expr_fits (t.Number n) r e = absurd cc
at_expr_fits (t.Real x) r e = absurd cc
at_expr_fits (t.Based d) r e = absurd cc
at_expr_fits (t.Str s) r e = absurd cc
at_expr_fits (t.Punct b) r e = absurd (expr_look_by (eqb b 123) r e)
at_expr_fits t.AttrStart r e = absurd cc
at_expr_fits t.AttrStop r e = absurd cc
at_expr_fits (t.Symbol b) r e = absurd cc
at_expr_fits (t.Directive w) r e = absurd cc
