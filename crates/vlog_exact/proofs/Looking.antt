-- Behind a number that is no size one more token is looked at, and none goes on with it.
use Rattle.std.proofs.Common.{◌≡◌, refl, ◌∙◌, sym, ap, subst, ℤ, ℕ, Bool, true, false, List, [], ◌∷◌, ◌++◌, Some, None, Ok, Err, inl, inr, Option}
use Rattle.grammar.specs.Faults.{GoesOnInto}
use Rattle.grammar.specs.Part.{takes}
use Rattle.grammar.specs.Reading.{ended, read}
use Rattle.grammar.specs.Texts.{Spells}
use Rattle.grammar.specs.Whole.{Terminal, proper, end}
use Rattle.nl_base.specs.declared.place.Place.{Place}
use Rattle.nl_base.specs.declared.fault.Reason.{Reason}
use Rattle.readers.specs.Parts.{one, of_token, at_token, if_next}
use Rattle.vlog_values.specs.declared.expression.Const.{Const}
use Rattle.vlog_values.specs.declared.expression.Const.TheVariants as consts
use Rattle.vlog_values.specs.declared.expression.Expr.{Expr}
use Rattle.vlog_values.specs.declared.expression.Expr.TheVariants as exprs
use Rattle.vlog_values.specs.declared.literal.Literal.{Literal}
use Rattle.vlog_tokens.specs.declared.token.VFound.{VFound}
use Rattle.vlog_tokens.specs.declared.token.VToken.TheVariants as token
use Rattle.vlog_exprs.specs.declared.start.ConstStart.{ConstStart}
use Rattle.vlog_exprs.specs.declared.start.ConstStart.TheVariants as const_starts
use Rattle.vlog_exprs.specs.declared.start.ExprStart.{ExprStart}
use Rattle.vlog_exprs.specs.declared.start.ExprStart.TheVariants as starts
use Rattle.vlog_exprs.specs.Grammar.{digits, sized, sized_const, expr_start, expr_rest, expr_by, expr, inside, const_start, const_rest, constant}
use Rattle.vlog_exprs.specs.Reasons as say
use Rattle.vlog_exprs.proofs.Expressions.{digits_are}
use Rattle.vlog_exact.specs.Sizes.{LooksOn}

abbrev Next : Type 0
Next = Terminal VFound Place

two : (q : Bool) → q ≡ false → q ≡ true → ⊥
two q f t = let m = sym f ∙ t in absurd cc

not_taken : (n : ℤ) → say.is_size n ≡ false → (x : Next) (l : Literal) → at_token (λ y. say.at_digits n y.token) x ≡ takes l → ⊥
not_taken n h (proper x) l e = two (say.is_size n) h (digits_are n x.token l e).size
not_taken n h (end p) l e = absurd cc

-- no digits stand behind it
no_digits : (n : ℤ) → say.is_size n ≡ false → (ts : List Next) (l : Option Literal) → Spells tt (digits n) ts l → ts ≡ []
unfolding digits if_next
no_digits n h ts l (inl t) = absurd (not_taken n h t.0 t.1 t.4)
no_digits n h ts l (inr t) = t.0

empty : (ts a b : List Next) → ts ≡ a ++ b → a ≡ [] → b ≡ [] → ts ≡ []
empty ts a b e f g = e ∙ ap (λ (z : List Next). z ++ b) f ∙ g

no_rest : (n : ℤ) → say.is_size n ≡ false → (ts : List Next) (v : _) → Spells tt (sized n) ts v → ts ≡ []
unfolding sized
no_rest n h ts v k = empty ts k.1 k.2 k.3 (no_digits n h k.1 k.0 k.4) k.5.0

no_rest_const : (n : ℤ) → say.is_size n ≡ false → (ts : List Next) (v : _) → Spells tt (sized_const n) ts v → ts ≡ []
unfolding sized_const
no_rest_const n h ts v k = empty ts k.1 k.2 k.3 (no_digits n h k.1 k.0 k.4) k.5.0

-- of two tokens the second stands in the rest
rest_is : (x y z : Next) (more b : List Next) → x ∷ (y ∷ more) ≡ (z ∷ []) ++ b → (x ≡ z) × (y ∷ more ≡ b)
rest_is x y z more b e = (cc, cc)

full : (y : Next) (more b : List Next) → y ∷ more ≡ b → b ≡ [] → ⊥
full y more b e f = let m = e ∙ f in absurd cc

-- an expression of this number and one more token at least is none
no_more : (room : ℕ) (n : ℤ) → say.is_size n ≡ false → (x : VFound) (y : Next) (more : List Next) (v : Expr) → x.token ≡ token.Number n → Spells tt (expr false room) (proper x ∷ (y ∷ more)) v → ⊥
unfolding expr expr_by expr_rest one
no_more room n h x y more v e s = by s.0 s.1 s.2 s.3 s.4 s.5
  where
    by : (u : ExprStart) (a b : List Next) → proper x ∷ (y ∷ more) ≡ a ++ b → Spells tt (expr_start false room) a u → Spells tt (expr_rest (inside false room) u) b v → ⊥
    by u a b place t r =
        let parts = rest_is (proper x) y t.0 more b (place ∙ ap (λ (z : List Next). z ++ b) t.1) in
        let start : say.expr_start false room x.token ≡ Ok (starts.Number n) = rw e refl in
        let found = sym start ∙ ap (of_token (λ (f : VFound). say.expr_start false room f.token)) parts.0 ∙ t.2 in
        let same : starts.Number n ≡ u = cc in
        full y more b parts.1 (no_rest n h b v (subst (λ (w : ExprStart). Spells tt (expr_rest (inside false room) w) b v) (sym same) r))

pub looks : (room : ℕ) (n : ℤ) → say.is_size n ≡ false → LooksOn (expr false room) n
unfolding expr expr_by one expr_rest sized digits if_next
looks room n h = record {
  is_text = λ x e. (exprs.LooseNumber n, (starts.Number n, proper x ∷ [], [], refl, (proper x, refl, rw e refl), (None, [], [], refl, inr (refl, refl), (refl, refl))));
  is_whole = λ x e g. no_more room n h x g.0 g.1.0 g.1.1 e g.1.2;
  needs_more = λ x e. rw e refl;
}

-- and so with a constant
no_more_const : (n : ℤ) → say.is_size n ≡ false → (x : VFound) (y : Next) (more : List Next) (v : Const) → x.token ≡ token.Number n → Spells tt constant (proper x ∷ (y ∷ more)) v → ⊥
unfolding constant const_rest one
no_more_const n h x y more v e s = by s.0 s.1 s.2 s.3 s.4 s.5
  where
    by : (u : ConstStart) (a b : List Next) → proper x ∷ (y ∷ more) ≡ a ++ b → Spells tt const_start a u → Spells tt (const_rest u) b v → ⊥
    by u a b place t r =
        let parts = rest_is (proper x) y t.0 more b (place ∙ ap (λ (z : List Next). z ++ b) t.1) in
        let start : say.const_start x.token ≡ Ok (const_starts.Number n) = rw e refl in
        let found = sym start ∙ ap (of_token (λ (f : VFound). say.const_start f.token)) parts.0 ∙ t.2 in
        let same : const_starts.Number n ≡ u = cc in
        full y more b parts.1 (no_rest_const n h b v (subst (λ (w : ConstStart). Spells tt (const_rest w) b v) (sym same) r))

pub const_looks : (n : ℤ) → say.is_size n ≡ false → LooksOn constant n
unfolding constant one const_rest sized_const digits if_next
const_looks n h = record {
  is_text = λ x e. (consts.Number n, (const_starts.Number n, proper x ∷ [], [], refl, (proper x, refl, rw e refl), (None, [], [], refl, inr (refl, refl), (refl, refl))));
  is_whole = λ x e g. no_more_const n h x g.0 g.1.0 g.1.1 e g.1.2;
  needs_more = λ x e. rw e refl;
}
