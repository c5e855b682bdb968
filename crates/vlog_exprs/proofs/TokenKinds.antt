-- Which token it is that a part takes, and which parts leave it.
use Rattle.std.proofs.Common.{◌≡◌, ◌∙◌, sym, ap, refl, ℕ, nat_eq, Bool, true, false, ℤ, Result, Ok, Err}
use Rattle.std.proofs.lemmas.Bool.{eqb-true}
use Rattle.grammar.specs.Part.{Glance, takes, leaves}
use Rattle.grammar.specs.Whole.{Terminal, proper, end}
use Rattle.nl_base.specs.declared.place.Place.{Place}
use Rattle.nl_base.specs.declared.fault.Reason.{Reason}
use Rattle.nl_base.specs.declared.fault.Reason.TheVariants as reasons
use Rattle.readers.specs.Parts.{of_token, at_token}
use Rattle.vlog_tokens.specs.declared.token.VFound.{VFound}
use Rattle.vlog_tokens.specs.declared.token.VToken.{VToken}
use Rattle.vlog_tokens.specs.declared.token.VToken.TheVariants as token
use Rattle.vlog_values.specs.declared.literal.Literal.{Literal}
use Rattle.vlog_exprs.specs.Reasons.{mark_of, group_end_of, bound_of, at_mark, at_digits, at_group}

-- a token of the text, or its end
abbrev pub Next : Type 0
Next = Terminal VFound Place

-- it is this token
abbrev pub TokenIs : VToken → Next → Type 0
TokenIs t (proper y) = y.token ≡ t
TokenIs t (end p) = ⊥

-- ---- from a token to what stands there

pub due_is : {A : Type 0} (g : VFound → Result A Reason) (t : VToken) (x : Next) (a : A) → ((y : VFound) (a : A) → g y ≡ Ok a → y.token ≡ t) → of_token g x ≡ Ok a → TokenIs t x
due_is g t (proper y) a h e = h y a e
due_is g t (end p) a h e = absurd cc

pub taken_is : {C : Type 0} (f : VFound → Glance C Reason) (t : VToken) (x : Next) (c : C) → ((y : VFound) (c : C) → f y ≡ takes c → y.token ≡ t) → at_token f x ≡ takes c → TokenIs t x
taken_is f t (proper y) c h e = h y c e
taken_is f t (end p) c h e = absurd cc

pub is_left : {C : Type 0} (f : VToken → Glance C Reason) (t : VToken) (x : Next) → f t ≡ leaves → TokenIs t x → at_token (λ y. f y.token) x ≡ leaves
is_left f t (proper y) l h = ap f h ∙ l
is_left f t (end p) l h = refl

pub due_left : {A C : Type 0} (g : VToken → Result A Reason) (f : VToken → Glance C Reason) (x : Next) (a : A) → ((t : VToken) (a : A) → g t ≡ Ok a → f t ≡ leaves) → of_token (λ y. g y.token) x ≡ Ok a → at_token (λ y. f y.token) x ≡ leaves
due_left g f (proper y) a h e = h y.token a e
due_left g f (end p) a h e = refl

pub taken_left : {B C : Type 0} (g : VToken → Glance B Reason) (f : VToken → Glance C Reason) (x : Next) (b : B) → ((t : VToken) (b : B) → g t ≡ takes b → f t ≡ leaves) → at_token (λ y. g y.token) x ≡ takes b → at_token (λ y. f y.token) x ≡ leaves
taken_left g f (proper y) b h e = h y.token b e
taken_left g f (end p) b h e = refl

-- ---- punctuation marks

mark_by : (b d : ℕ) (q : Bool) → nat_eq b d ≡ q → (u : Unit {0}) → mark_of d (token.Punct b) ≡ Ok u → token.Punct b ≡ token.Punct d
mark_by b d true e u h = ap token.Punct (eqb-true b d e)
mark_by b d false e u h = let k : mark_of d (token.Punct b) ≡ Err reasons.Unexpected = rw e refl in let m = sym k ∙ h in absurd cc

pub mark_is : (d : ℕ) (t : VToken) (u : Unit {0}) → mark_of d t ≡ Ok u → t ≡ token.Punct d
mark_is d (token.Punct b) u h = mark_by b d (nat_eq b d) refl u h
mark_is d (token.Name n) u h = absurd cc
mark_is d (token.Keyword n) u h = absurd cc
mark_is d (token.Number n) u h = absurd cc
mark_is d (token.Real n) u h = absurd cc
mark_is d (token.Based n) u h = absurd cc
mark_is d (token.Str n) u h = absurd cc
mark_is d token.AttrStart u h = absurd cc
mark_is d token.AttrStop u h = absurd cc
mark_is d (token.Symbol n) u h = absurd cc
mark_is d (token.Directive n) u h = absurd cc

at_by : (b d : ℕ) (q : Bool) → nat_eq b d ≡ q → (u : Unit {0}) → at_mark d (token.Punct b) ≡ takes u → token.Punct b ≡ token.Punct d
at_by b d true e u h = ap token.Punct (eqb-true b d e)
at_by b d false e u h = let k : at_mark d (token.Punct b) ≡ leaves = rw e refl in let m = sym k ∙ h in absurd cc

pub at_mark_is : (d : ℕ) (t : VToken) (u : Unit {0}) → at_mark d t ≡ takes u → t ≡ token.Punct d
at_mark_is d (token.Punct b) u h = at_by b d (nat_eq b d) refl u h
at_mark_is d (token.Name n) u h = absurd cc
at_mark_is d (token.Keyword n) u h = absurd cc
at_mark_is d (token.Number n) u h = absurd cc
at_mark_is d (token.Real n) u h = absurd cc
at_mark_is d (token.Based n) u h = absurd cc
at_mark_is d (token.Str n) u h = absurd cc
at_mark_is d token.AttrStart u h = absurd cc
at_mark_is d token.AttrStop u h = absurd cc
at_mark_is d (token.Symbol n) u h = absurd cc
at_mark_is d (token.Directive n) u h = absurd cc

-- ---- other tokens

pub group_end_is : (t : VToken) (u : Unit {0}) → group_end_of t ≡ Ok u → t ≡ token.AttrStop
group_end_is (token.Punct b) u h = absurd cc
group_end_is (token.Name n) u h = absurd cc
group_end_is (token.Keyword n) u h = absurd cc
group_end_is (token.Number n) u h = absurd cc
group_end_is (token.Real n) u h = absurd cc
group_end_is (token.Based n) u h = absurd cc
group_end_is (token.Str n) u h = absurd cc
group_end_is token.AttrStart u h = absurd cc
group_end_is token.AttrStop u h = refl
group_end_is (token.Symbol n) u h = absurd cc
group_end_is (token.Directive n) u h = absurd cc

pub group_is : (t : VToken) (u : Unit {0}) → at_group t ≡ takes u → t ≡ token.AttrStart
group_is (token.Punct b) u h = absurd cc
group_is (token.Name n) u h = absurd cc
group_is (token.Keyword n) u h = absurd cc
group_is (token.Number n) u h = absurd cc
group_is (token.Real n) u h = absurd cc
group_is (token.Based n) u h = absurd cc
group_is (token.Str n) u h = absurd cc
group_is token.AttrStart u h = refl
group_is token.AttrStop u h = absurd cc
group_is (token.Symbol n) u h = absurd cc
group_is (token.Directive n) u h = absurd cc

bound_by : (d b : ℕ) (n : ℤ) → bound_of (token.Punct b) ≡ Ok n → at_mark d (token.Punct b) ≡ leaves
bound_by d b n h = absurd cc

-- the number of a bound is no punctuation mark
pub bound_no_mark : (d : ℕ) (t : VToken) (n : ℤ) → bound_of t ≡ Ok n → at_mark d t ≡ leaves
bound_no_mark d (token.Punct b) n h = bound_by d b n h
bound_no_mark d (token.Name a) n h = refl
bound_no_mark d (token.Keyword a) n h = refl
bound_no_mark d (token.Number a) n h = refl
bound_no_mark d (token.Real a) n h = refl
bound_no_mark d (token.Based a) n h = refl
bound_no_mark d (token.Str a) n h = refl
bound_no_mark d token.AttrStart n h = refl
bound_no_mark d token.AttrStop n h = refl
bound_no_mark d (token.Symbol a) n h = refl
bound_no_mark d (token.Directive a) n h = refl

-- the digits of a literal are no punctuation mark
pub digits_no_mark : (d : ℕ) (size : ℤ) (t : VToken) (l : Literal) → at_digits size t ≡ takes l → at_mark d t ≡ leaves
digits_no_mark d size (token.Punct b) l h = absurd cc
digits_no_mark d size (token.Name a) l h = refl
digits_no_mark d size (token.Keyword a) l h = refl
digits_no_mark d size (token.Number a) l h = refl
digits_no_mark d size (token.Real a) l h = refl
digits_no_mark d size (token.Based a) l h = refl
digits_no_mark d size (token.Str a) l h = refl
digits_no_mark d size token.AttrStart l h = refl
digits_no_mark d size token.AttrStop l h = refl
digits_no_mark d size (token.Symbol a) l h = refl
digits_no_mark d size (token.Directive a) l h = refl
