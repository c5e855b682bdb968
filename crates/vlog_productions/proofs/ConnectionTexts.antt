-- Connections, instances, assignments and the settings of parameters are read as the extended BNF has them.
use Rattle.std.proofs.Common.{◌≡◌, ◌∙◌, sym, ap, refl, inl, inr, ℕ, nat_eq, Bool, true, false, [], ◌∷◌, ◌++◌, append_assoc, append-nil, Option, Some, Ok, Err}
use Rattle.grammar.specs.Part.{sequence, takes, leaves}
use Rattle.grammar.specs.Texts.{Spells}
use Rattle.grammar.specs.Whole.{proper, end}
use Rattle.nl_base.specs.declared.fault.Reason.TheVariants as reasons
use Rattle.readers.specs.Parts.{one, if_next}
use Rattle.vlog_tokens.specs.declared.token.VToken.{VToken}
use Rattle.vlog_tokens.specs.declared.token.VToken.TheVariants as token
use Rattle.vlog_values.specs.declared.expression.Expr.{Expr}
use Rattle.vlog_values.specs.declared.declaration.ParamSet.{ParamSet}
use Rattle.vlog_values.specs.declared.statement.NamedConn.{NamedConn}
use Rattle.vlog_values.specs.declared.statement.Conns.{Conns}
use Rattle.vlog_values.specs.declared.statement.Conns.TheVariants as conns_of
use Rattle.vlog_exprs.specs.declared.start.ExprStart.{ExprStart}
use Rattle.vlog_exprs.specs.declared.start.ExprStart.TheVariants as starts
use Rattle.vlog_exprs.specs.Language.{Vlog}
use Rattle.vlog_exprs.specs.Reasons as say
use Rattle.vlog_exprs.specs.Grammar as exprs
use Rattle.vlog_exprs.specs.Grammar.{expr_rest, expr_by, inside}
use Rattle.vlog_exprs.specs.Expressions.{Tokens, IsToken}
use Rattle.vlog_exprs.proofs.TokenKinds.{at_mark_is}
use Rattle.vlog_exprs.proofs.Expressions.{expressions}
use Rattle.vlog_items.specs.Grammar as grammar
use Rattle.vlog_items.specs.Grammar.{order_of, named_rest, named_conns, ordered_conns, override_rest, override_set, def_value, def_set}
use Rattle.vlog_productions.specs.Production.{Production, both, optional, list, meaning, left_out, there, ◌·◌, ◌∣◌, Texts, name, mark, expr, lval, constant, HasTextsOf}
use Rattle.vlog_productions.specs.Items.{named, conns, inst, over, overrides, assignment, dset}
use Rattle.vlog_productions.proofs.Combining.{alone, then_so, gives_so, gives_of, given, names, marks, after_so, first_and_more, headed, commas_text, text_commas, list_so, gives_list}
use Rattle.vlog_productions.proofs.WordTexts.{constants}

pub all_exprs : HasTextsOf (exprs.expr false 64) expr
all_exprs = record { is_text = λ ts e s. (expressions false 64 ts e).0 s; is_spelled = λ ts e t. (expressions false 64 ts e).1 t }

pub lvals : HasTextsOf (exprs.expr true 64) lval
lvals = record { is_text = λ ts e s. (expressions true 64 ts e).0 s; is_spelled = λ ts e t. (expressions true 64 ts e).1 t }

-- ---- an expression that may be left out

mark_started : (b : ℕ) (s : ExprStart) (q : Bool) → nat_eq b 123 ≡ q → say.at_expr (token.Punct b) ≡ takes s
    → say.expr_start false 64 (token.Punct b) ≡ Ok s
mark_started b s true e h =
    let k : say.at_expr (token.Punct b) ≡ takes starts.Brace = rw e refl in
    let m = sym k ∙ h in
    let same : starts.Brace ≡ s = cc in
    rw e (ap Ok same)
mark_started b s false e h = let k : say.at_expr (token.Punct b) ≡ leaves = rw e refl in let m = sym k ∙ h in absurd cc

-- what is taken begins an expression
started : (t : VToken) (s : ExprStart) → say.at_expr t ≡ takes s → say.expr_start false 64 t ≡ Ok s
started (token.Name n) s h = let e : starts.Name n ≡ s = cc in ap Ok e
started (token.Number n) s h = let e : starts.Number n ≡ s = cc in ap Ok e
started (token.Based b) s h = let e : starts.Based b ≡ s = cc in ap Ok e
started (token.Punct b) s h = mark_started b s (nat_eq b 123) refl h
started (token.Keyword w) s h = absurd cc
started (token.Real r) s h = absurd cc
started (token.Str w) s h = absurd cc
started token.AttrStart s h = absurd cc
started token.AttrStop s h = absurd cc
started (token.Symbol b) s h = absurd cc
started (token.Directive w) s h = absurd cc

mark_starts : (b : ℕ) (s : ExprStart) (q : Bool) → nat_eq b 123 ≡ q → say.expr_start false 64 (token.Punct b) ≡ Ok s
    → say.at_expr (token.Punct b) ≡ takes s
mark_starts b s true e h =
    let k : say.expr_start false 64 (token.Punct b) ≡ Ok starts.Brace = rw e refl in
    let m = sym k ∙ h in
    let same : starts.Brace ≡ s = cc in
    rw e (ap takes same)
mark_starts b s false e h = let k : say.expr_start false 64 (token.Punct b) ≡ Err reasons.Unexpected = rw e refl in let m = sym k ∙ h in absurd cc

-- the other way round
starts_so : (t : VToken) (s : ExprStart) → say.expr_start false 64 t ≡ Ok s → say.at_expr t ≡ takes s
starts_so (token.Name n) s h = let e : starts.Name n ≡ s = cc in ap takes e
starts_so (token.Number n) s h = let e : starts.Number n ≡ s = cc in ap takes e
starts_so (token.Based b) s h = let e : starts.Based b ≡ s = cc in ap takes e
starts_so (token.Punct b) s h = mark_starts b s (nat_eq b 123) refl h
starts_so (token.Keyword w) s h = absurd cc
starts_so (token.Real r) s h = absurd cc
starts_so (token.Str w) s h = absurd cc
starts_so token.AttrStart s h = absurd cc
starts_so token.AttrStop s h = absurd cc
starts_so (token.Symbol b) s h = absurd cc
starts_so (token.Directive w) s h = absurd cc

maybe_text : (ts : Tokens) (v : Option Expr) → Spells tt exprs.maybe_expr ts v → Texts (optional expr) ts v
unfolding exprs.maybe_expr exprs.expr expr_by if_next one
maybe_text ts v (inl (proper x, s, r, e, taken, (u, a, b, f, t, (n, m)))) =
    let whole : Spells tt
    (exprs.expr false 64) ts u =
    (s, proper x ∷ [], a, e ∙ ap (λ z. proper x ∷ z) (f ∙ alone a b n), (proper x, refl, started x.token s taken), t) in
    there u (all_exprs.is_text ts u whole) m
maybe_text ts v (inl (end p, s, r, e, taken, t)) = absurd cc
maybe_text ts v (inr (e, m)) = left_out e m

-- an expression is read from its first token on
first_taken : (ts : Tokens) (u : Expr) (v : Option Expr) → Spells tt (exprs.expr false 64) ts u → v ≡ Some u → Spells tt exprs.maybe_expr ts v
unfolding exprs.maybe_expr exprs.expr expr_by if_next one
first_taken ts u v (s, a, b, e, (proper x, n, h), t) m =
    inl (proper x, s, b, e ∙ ap (λ z. z ++ b) n, starts_so x.token s h, (u, b, [], sym (append-nil b), t, (refl, m)))
first_taken ts u v (s, a, b, e, (end p, n, h), t) m = absurd cc

text_maybe : (ts : Tokens) (v : Option Expr) → Texts (optional expr) ts v → Spells tt exprs.maybe_expr ts v
unfolding exprs.maybe_expr if_next
text_maybe ts v (left_out e m) = inr (e, m)
text_maybe ts v (there u t m) = first_taken ts u v (all_exprs.is_spelled ts u t) m

pub maybe_exprs : HasTextsOf exprs.maybe_expr (optional expr)
maybe_exprs = record { is_text = maybe_text; is_spelled = text_maybe }

-- ---- connections

-- NAME "(" [expr] ")"
abbrev Behind : Production NamedConn
Behind = meaning (λ x. record { port = x.0; value = x.1.1.0 }) (name · mark 40 · optional expr · mark 41)

named_behind : HasTextsOf named_rest Behind
unfolding named_rest
named_behind =
    then_so (λ n x. record { port = n; value = x.1.0 }) names
    (λ n. then_so (λ _ x. record { port = n; value = x.0 }) (marks 40)
    (λ _. then_so (λ e _. record { port = n; value = e }) maybe_exprs (λ e. gives_so (λ _. record { port = n; value = e }) (marks 41))))

-- a part behind a mark
behind_mark : {A B : Type 0} {p : Vlog A} {P : Production B} (d : ℕ) (f : B → A) → HasTextsOf p (meaning f P)
    → HasTextsOf (sequence (exprs.mark d) (λ _. p)) (meaning (λ x. f x.1) (both (mark d) P))
behind_mark d f h = then_so (λ _ x. f x) (marks d) (λ _. h)

all_named : HasTextsOf grammar.named named
unfolding grammar.named named
all_named = behind_mark 46 (λ x. record { port = x.0; value = x.1.1.0 }) named_behind

named_text : (ts : Tokens) (v : Conns) (a b : Tokens) → ts ≡ a ++ b → IsToken (token.Punct 46) a → Spells tt named_conns b v
    → Texts (meaning (λ x. conns_of.Named x.0) (list named · mark 41)) ts v
unfolding named_conns named
named_text ts v a b e m (first, c, d, f, s, (all, i, j, g, t, (n, k))) =
    let o = named_behind.is_text c first s in
    let r = commas_text all_named (marks 41) (first ∷ []) i all t in
    let one : Texts (meaning (λ x. record { port = x.1.0; value = x.1.1.1.0 }) (mark 46 · name · mark 40 · optional expr · mark 41))
    (a ++ c) first = ((tt, o.0), (a, c, refl, m, o.1), o.2) in (
      (first ∷ r.later, tt),
      (
        (a ++ c) ++ r.inside,
        r.behind,
        e ∙ ap (λ z. a ++ z) (f ∙ ap (λ z. c ++ z) (g ∙ alone i j n ∙ r.is)) ∙ sym (append_assoc a c (r.inside ++ r.behind))
            ∙ sym (append_assoc (a ++ c) r.inside r.behind),
        first_and_more (Texts named) (a ++ c) first one r.inside r.later r.text,
        r.closes,
      ),
      k ∙ ap conns_of.Named r.value,
    )

-- connections by name begin with a point
record Pointed (ts : Tokens) (v : Conns) : Type 0 where
  point : Tokens
  rest : Tokens
  is : ts ≡ point ++ rest
  is_point : IsToken (token.Punct 46) point
  text : Spells tt named_conns rest v

text_named : (ts : Tokens) (v : Conns) → Texts (meaning (λ x. conns_of.Named x.0) (list named · mark 41)) ts v → Pointed ts v
unfolding named_conns named
text_named ts v (x, (l, c, e, t, close), f) =
    let r = headed (Texts named) l x.0 t in
    let o = r.head in
    let p = o.1 in
    record {
      point = p.0;
      rest = p.1 ++ (r.rest ++ c);
      is = e ∙ ap (λ z. z ++ c) (r.is ∙ ap (λ z. z ++ r.rest) p.2 ∙ append_assoc p.0 p.1 r.rest) ∙ append_assoc p.0 (p.1 ++ r.rest) c
          ∙ ap (λ z. p.0 ++ z) (append_assoc p.1 r.rest c);
      is_point = p.3;
      text = (
        r.value,
        p.1,
        r.rest ++ c,
        refl,
        named_behind.is_spelled p.1 r.value (o.0.1, p.4, o.2),
        (
          r.value ∷ r.others,
          r.rest ++ c,
          [],
          sym (append-nil (r.rest ++ c)),
          text_commas all_named (marks 41)
              (r.value ∷ []) r.rest c r.others r.tail close,
          (refl, f ∙ ap conns_of.Named r.values),
        ),
      );
    }

ordered : HasTextsOf ordered_conns (meaning (λ x. conns_of.Order (order_of x.0)) (list (optional expr) · mark 41))
unfolding ordered_conns
ordered = gives_list (λ es. conns_of.Order (order_of es)) maybe_exprs (marks 41)

-- conns ")"
abbrev Closed : Production Conns
Closed = meaning (λ x. conns_of.Named x.0) (list named · mark 41) ∣ meaning (λ x. conns_of.Order (order_of x.0)) (list (optional expr) · mark 41)

conns_text : (ts : Tokens) (v : Conns) → Spells tt grammar.conns ts v → Texts Closed ts v
unfolding grammar.conns exprs.after if_next
conns_text ts v (inl (proper x, u, r, e, taken, s)) = inl (named_text ts v (proper x ∷ []) r e (x, refl, at_mark_is 46 x.token u taken) s)
conns_text ts v (inl (end p, u, r, e, taken, s)) = absurd cc
conns_text ts v (inr s) = inr (ordered.is_text ts v s)

text_conns : (ts : Tokens) (v : Conns) → Texts Closed ts v → Spells tt grammar.conns ts v
unfolding grammar.conns exprs.after if_next
text_conns ts v (inl t) =
    let p = text_named ts v t in
    inl (proper p.is_point.0, tt, p.rest, p.is ∙ ap (λ z. z ++ p.rest) p.is_point.1, ap (say.at_mark 46) p.is_point.2, p.text)
text_conns ts v (inr t) = inr (ordered.is_spelled ts v t)

-- conns ")", with the end behind either
closed_text : (ts : Tokens) (v : Conns) → Texts Closed ts v → Texts (meaning (λ x. x.0) (conns · mark 41)) ts v
unfolding conns
closed_text ts v (inl (x, (a, b, e, t, close), f)) = ((conns_of.Named x.0, tt), (a, b, e, inl (x.0, t, refl), close), f)
closed_text ts v (inr (x, (a, b, e, t, close), f)) = ((conns_of.Order (order_of x.0), tt), (a, b, e, inr (x.0, t, refl), close), f)

text_closed : (ts : Tokens) (v : Conns) → Texts (meaning (λ x. x.0) (conns · mark 41)) ts v → Texts Closed ts v
unfolding conns
text_closed ts v (x, (a, b, e, inl (cs, t, g), close), f) = inl ((cs, tt), (a, b, e, t, close), f ∙ g)
text_closed ts v (x, (a, b, e, inr (es, t, g), close), f) = inr ((es, tt), (a, b, e, t, close), f ∙ g)

pub all_conns : HasTextsOf grammar.conns (meaning (λ x. x.0) (conns · mark 41))
all_conns = record { is_text = λ ts v s. closed_text ts v (conns_text ts v s); is_spelled = λ ts v t. text_conns ts v (text_closed ts v t) }

-- ---- instances

pub all_insts : HasTextsOf grammar.instance inst
unfolding grammar.instance inst
all_insts =
    then_so (λ n x. record { name = n; conns = x.1.0 }) names
    (λ n. then_so (λ _ x. record { name = n; conns = x.0 }) (marks 40)
    (λ _. gives_of (λ x. x.0) (λ cs. record { name = n; conns = cs }) all_conns))

-- NAME "(" const ")"
abbrev Set : Production ParamSet
Set = meaning (λ x. record { name = x.0; value = x.1.1.0 }) (name · mark 40 · constant · mark 41)

overrides_behind : HasTextsOf override_rest Set
unfolding override_rest
overrides_behind =
    then_so (λ n x. record { name = n; value = x.1.0 }) names
    (λ n. then_so (λ _ x. record { name = n; value = x.0 }) (marks 40)
    (λ _. then_so (λ v _. record { name = n; value = v }) constants (λ v. gives_so (λ _. record { name = n; value = v }) (marks 41))))

overs : HasTextsOf override_set over
unfolding override_set over
overs = behind_mark 46 (λ x. record { name = x.0; value = x.1.1.0 }) overrides_behind

pub all_overrides : HasTextsOf grammar.overrides overrides
unfolding grammar.overrides overrides
all_overrides = after_so 35 (λ x. x.1.0) (behind_mark 40 (λ x. x.0) (list_so overs (marks 41))) (given [])

-- ---- assignments and defparam

pub assignments : HasTextsOf grammar.assignment assignment
unfolding grammar.assignment assignment
assignments =
    then_so (λ l x. record { left = l; right = x.1 }) lvals
    (λ l. then_so (λ _ r. record { left = l; right = r }) (marks 61) (λ _. gives_so (λ r. record { left = l; right = r }) all_exprs))

pub dsets : HasTextsOf def_set dset
unfolding def_set def_value dset
dsets =
    then_so (λ u x. record { instance = u; name = x.1.0; value = x.1.1.1 }) names
    (λ u. then_so (λ _ x. record { instance = u; name = x.0; value = x.1.1 }) (marks 46)
    (λ _. then_so (λ n x. record { instance = u; name = n; value = x.1 }) names
    (λ n. then_so (λ _ v. record { instance = u; name = n; value = v }) (marks 61)
    (λ _. gives_so (λ v. record { instance = u; name = n; value = v }) constants))))
