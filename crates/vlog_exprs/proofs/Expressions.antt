-- What is read as an expression is what the extended BNF has for one.
use Rattle.std.proofs.Common.{◌≡◌, ◌∙◌, sym, ap, subst, refl, ◌↔◌, ◌⊎◌, inl, inr, ℕ, zero, suc, nat_eq, ℤ, neg_ℤ, nat_abs, Bool, true, false, List, [], ◌∷◌, ◌++◌, append_assoc, append-nil, Some, None, Result, Ok, Err}
use Rattle.std.proofs.lemmas.Bool.Decides.{Decides-eqb}
use Rattle.grammar.specs.Part.{Glance, gives, sequence, takes, refuses}
use Rattle.grammar.specs.Texts.{Spells, Rounds, ends, goes}
use Rattle.grammar.specs.Whole.{proper, end}
use Rattle.nl_base.specs.declared.fault.Reason.{Reason}
use Rattle.nl_base.specs.declared.fault.Reason.TheVariants as reasons
use Rattle.readers.specs.Parts.{at_token, one, if_next, while_next}
use Rattle.vlog_tokens.specs.declared.token.VFound.{VFound}
use Rattle.vlog_tokens.specs.declared.token.VToken.{VToken}
use Rattle.vlog_tokens.specs.declared.token.VToken.TheVariants as token
use Rattle.vlog_values.specs.declared.expression.Select.{Select}
use Rattle.vlog_values.specs.declared.expression.Select.TheVariants as selects
use Rattle.vlog_values.specs.declared.expression.Expr.{Expr}
use Rattle.vlog_values.specs.declared.expression.Expr.TheVariants as exprs
use Rattle.vlog_values.specs.declared.literal.Based.{Based}
use Rattle.vlog_values.specs.declared.literal.Literal.{Literal}
use Rattle.vlog_exprs.specs.declared.start.ExprStart.{ExprStart}
use Rattle.vlog_exprs.specs.declared.start.ExprStart.TheVariants as starts
use Rattle.vlog_exprs.specs.Language.{Vlog}
use Rattle.vlog_exprs.specs.Reasons as say
use Rattle.vlog_exprs.specs.Grammar.{mark, after, commas, list, bound_number, bound, select_rest, select, digits, sized, expr_of_number, expr_start, expr_rest, expr_by, cat_rest, rep_rest, braced, inside, expr}
use Rattle.vlog_exprs.specs.Expressions.{Tokens, IsToken, BoundText, plain, minus, SelectText, all, one_bit, slice, ListText, last, more, PlainText, ref, literal, number, loose, BracedText, cat, rep, ExprText}
use Rattle.vlog_exprs.proofs.TokenKinds.{Next, mark_is, at_mark_is}

-- the tokens spell the value of the part
abbrev pub Texts : {A : Type 0} → Vlog A → Tokens → A → Type 0
Texts p ts v = Spells tt p ts v

-- ---- one token

-- what is due says the token
due_text : {A : Type 0} (g : VToken → Result A Reason) (t : VToken) (ts : Tokens) (v : A) → ((s : VToken) → g s ≡ Ok v → s ≡ t) → Texts (one (λ _ y. g y.token)) ts v → IsToken t ts
unfolding one
due_text g t ts v is (proper y, e, h) = (y, e, is y.token h)
due_text g t ts v is (end p, e, h) = absurd cc

pub text_due : {A : Type 0} (g : VToken → Result A Reason) (t : VToken) (ts : Tokens) (v : A) → g t ≡ Ok v → IsToken t ts → Texts (one (λ _ y. g y.token)) ts v
unfolding one
text_due g t ts v h (y, e, k) = (proper y, e, ap g k ∙ h)

-- what is taken is the token
taken_text : {C : Type 0} (f : VToken → Glance C Reason) (t : VToken) (x : Next) (c : C) → ((s : VToken) → f s ≡ takes c → s ≡ t) → at_token (λ y. f y.token) x ≡ takes c → IsToken t (x ∷ [])
taken_text f t (proper y) c is h = (y, refl, is y.token h)
taken_text f t (end p) c is h = absurd cc

mark_text : (d : ℕ) (ts : Tokens) (u : Unit {0}) → Texts (mark d) ts u → IsToken (token.Punct d) ts
mark_text d ts u h = due_text (say.mark_of d) (token.Punct d) ts u (λ s e. mark_is d s u e) h

text_mark : (d : ℕ) (ts : Tokens) → IsToken (token.Punct d) ts → Texts (mark d) ts tt
text_mark d ts h = text_due (say.mark_of d) (token.Punct d) ts tt (let e : nat_eq d d ≡ true = (Decides-eqb d d).1 refl in rw e refl) h

-- ---- a mark and p, or q

-- the tokens are a mark and a text of p
pub record Marked {A : Type 0} (d : ℕ) (p : Vlog A) (ts : Tokens) (v : A) : Type 0 where
  pub before : Tokens
  pub rest : Tokens
  pub is : ts ≡ before ++ rest
  pub mark : IsToken (token.Punct d) before
  pub text : Texts p rest v

after_text : {A : Type 0} (d : ℕ) (p q : Vlog A) (ts : Tokens) (v : A) → Texts (after d p q) ts v → Marked d p ts v ⊎ Texts q ts v
unfolding after if_next
after_text d p q ts v (inl (x, c, a, e, h, t)) = inl (record { before = x ∷ []; rest = a; is = e; mark = taken_text (say.at_mark d) (token.Punct d) x c (λ s k. at_mark_is d s c k) h; text = t })
after_text d p q ts v (inr t) = inr t

text_after : {A : Type 0} (d : ℕ) (p q : Vlog A) (ts : Tokens) (v : A) → Marked d p ts v ⊎ Texts q ts v → Texts (after d p q) ts v
unfolding after if_next
text_after d p q ts v (inl m) =
    let taken : say.at_mark d (token.Punct d) ≡ takes tt = (let e : nat_eq d d ≡ true = (Decides-eqb d d).1 refl in rw e refl) in
    inl (proper m.mark.0, tt, m.rest, m.is ∙ ap (λ z. z ++ m.rest) m.mark.1, ap (say.at_mark d) m.mark.2 ∙ taken, m.text)
text_after d p q ts v (inr t) = inr t

-- ---- bounds and selects

number_by : (n v : ℤ) (q : Bool) → say.is_bound n ≡ q → say.bound_of (token.Number n) ≡ Ok v → (token.Number n ≡ token.Number v) × (say.is_bound v ≡ true)
number_by n v true e h = let k : say.bound_of (token.Number n) ≡ Ok n = rw e refl in let same : n ≡ v = cc in (ap token.Number same, ap say.is_bound (sym same) ∙ e)
number_by n v false e h = let k : say.bound_of (token.Number n) ≡ Err reasons.NumberRange = rw e refl in let m = sym k ∙ h in absurd cc

number_is : (t : VToken) (v : ℤ) → say.bound_of t ≡ Ok v → (t ≡ token.Number v) × (say.is_bound v ≡ true)
number_is (token.Number n) v h = number_by n v (say.is_bound n) refl h
number_is (token.Punct b) v h = absurd cc
number_is (token.Name a) v h = absurd cc
number_is (token.Keyword a) v h = absurd cc
number_is (token.Real a) v h = absurd cc
number_is (token.Based a) v h = absurd cc
number_is (token.Str a) v h = absurd cc
number_is token.AttrStart v h = absurd cc
number_is token.AttrStop v h = absurd cc
number_is (token.Symbol a) v h = absurd cc
number_is (token.Directive a) v h = absurd cc

bound_number_text : (ts : Tokens) (n : ℤ) → Texts bound_number ts n → IsToken (token.Number n) ts × (say.is_bound n ≡ true)
unfolding one
bound_number_text ts n (proper y, e, h) = let k = number_is y.token n h in ((y, e, k.0), k.1)
bound_number_text ts n (end p, e, h) = absurd cc

text_bound_number : (ts : Tokens) (n : ℤ) → IsToken (token.Number n) ts → say.is_bound n ≡ true → Texts bound_number ts n
text_bound_number ts n t b = text_due say.bound_of (token.Number n) ts n (rw b refl) t

-- a text and nothing behind it
pub alone : (a b : Tokens) → b ≡ [] → a ++ b ≡ a
alone a b e = ap (λ z. a ++ z) e ∙ append-nil a

bound_text : (ts : Tokens) (v : ℤ) → Texts bound ts v → BoundText ts v
unfolding bound
bound_text ts v h = elim (after_text 45 (sequence bound_number (λ n. gives (neg_ℤ n))) bound_number ts v h) [
  | inl m ↦ minus_text m
  | inr t ↦ let n = bound_number_text ts v t in plain v n.0 n.1 refl
]
  where
    minus_text : Marked 45 (sequence bound_number (λ n. gives (neg_ℤ n))) ts v → BoundText ts v
    minus_text m =
        let n = bound_number_text m.text.1 m.text.0 m.text.4 in
        minus m.text.0 m.before m.text.1 (m.is ∙ ap (λ z. m.before ++ z) (m.text.3 ∙ alone m.text.1 m.text.2 m.text.5.0)) m.mark n.0 n.1 m.text.5.1

text_bound : (ts : Tokens) (v : ℤ) → BoundText ts v → Texts bound ts v
unfolding bound
text_bound ts v (plain n t b e) = text_after 45 (sequence bound_number (λ n. gives (neg_ℤ n))) bound_number ts v (inr (rw e (text_bound_number ts n t b)))
text_bound ts v (minus n a b e m t k f) =
    text_after 45 (sequence bound_number (λ n. gives (neg_ℤ n))) bound_number ts v (inl (record { before = a; rest = b; is = e; mark = m; text = (n, b, [], sym (append-nil b), text_bound_number b n t k, (refl, f)) }))

-- "]", behind a select with one bound
rest_one : (m : ℤ) (ts : Tokens) (s : Select) → Texts (sequence (mark 93) (λ _. gives (selects.One m))) ts s → IsToken (token.Punct 93) ts × (s ≡ selects.One m)
rest_one m ts s (u, a, b, e, t, r) = (subst (IsToken (token.Punct 93)) (sym (e ∙ alone a b r.0)) (mark_text 93 a u t), r.1)

-- ":" bound "]", behind a select with two bounds
pub record Second (ts : Tokens) (n : ℤ) : Type 0 where
  pub bound : Tokens
  pub rest : Tokens
  pub is : ts ≡ bound ++ rest
  pub text : BoundText bound n
  pub close : IsToken (token.Punct 93) rest

rest_slice : (m : ℤ) (ts : Tokens) (s : Select) → Texts (sequence bound (λ n. sequence (mark 93) (λ _. gives (selects.Slice m n)))) ts s → (n : ℤ) × Second ts n × (s ≡ selects.Slice m n)
rest_slice m ts s (n, a, b, e, t, (u, c, d, f, k, r)) =
    (n, record { bound = a; rest = b; is = e; text = bound_text a n t; close = subst (IsToken (token.Punct 93)) (sym (f ∙ alone c d r.0)) (mark_text 93 c u k) }, r.1)

-- ":" bound "]" and "]" as parts
abbrev slice_part : ℤ → Vlog Select
slice_part m = sequence bound (λ n. sequence (mark 93) (λ _. gives (selects.Slice m n)))

abbrev one_part : ℤ → Vlog Select
one_part m = sequence (mark 93) (λ _. gives (selects.One m))

select_text : (ts : Tokens) (s : Select) → Texts select ts s → SelectText ts s
unfolding select select_rest
select_text ts s h = elim (after_text 91 (sequence bound select_rest) (gives selects.All) ts s h) [
  | inl m ↦ bracketed m
  | inr t ↦ all t.0 t.1
]
  where
    behind : (m : Marked 91 (sequence bound select_rest) ts s) → Marked 58 (slice_part m.text.0) m.text.2 s ⊎ Texts (one_part m.text.0) m.text.2 s → SelectText ts s
    behind m (inr t) =
        let r = rest_one m.text.0 m.text.2 s t in
        one_bit m.text.0 m.before m.text.1 m.text.2 (m.is ∙ ap (λ z. m.before ++ z) m.text.3) m.mark (bound_text m.text.1 m.text.0 m.text.4) r.0 r.1
    behind m (inl c) =
        let r = rest_slice m.text.0 c.rest s c.text in
        slice m.text.0 r.0 m.before m.text.1 c.before r.1.bound r.1.rest (m.is ∙ ap (λ z. m.before ++ z) (m.text.3 ∙ ap (λ z. m.text.1 ++ z) (c.is ∙ ap (λ z. c.before ++ z) r.1.is)))
        m.mark (bound_text m.text.1 m.text.0 m.text.4) c.mark r.1.text r.1.close r.2

    bracketed : Marked 91 (sequence bound select_rest) ts s → SelectText ts s
    bracketed m = behind m (after_text 58 (slice_part m.text.0) (one_part m.text.0) m.text.2 s m.text.5)

text_select : (ts : Tokens) (s : Select) → SelectText ts s → Texts select ts s
unfolding select select_rest
text_select ts s (all e f) = text_after 91 (sequence bound select_rest) (gives selects.All) ts s (inr (e, f))
text_select ts s (one_bit n a b c e m t k f) =
    text_after 91 (sequence bound select_rest) (gives selects.All) ts s (inl (record {
      before = a;
      rest = b ++ c;
      is = e;
      mark = m;
      text = (n, b, c, refl, text_bound b n t, text_after 58 (slice_part n) (one_part n) c s (inr (tt, c, [], sym (append-nil c), text_mark 93 c k, (refl, f))));
    }))
text_select ts s (slice l r a b c d g e m t k u z f) =
    text_after 91 (sequence bound select_rest) (gives selects.All) ts s (inl (record {
      before = a;
      rest = b ++ (c ++ (d ++ g));
      is = e;
      mark = m;
      text = (
        l,
        b,
        c ++ (d ++ g),
        refl,
        text_bound b l t,
        text_after 58 (slice_part l) (one_part l) (c ++ (d ++ g)) s (inl (record {
          before = c;
          rest = d ++ g;
          is = refl;
          mark = k;
          text = (r, d, g, refl, text_bound d r u, (tt, g, [], sym (append-nil g), text_mark 93 g z, (refl, f)));
        })),
      );
    }))

-- ---- lists

-- {"," p} and then the closing mark
pub data TailText {A : Type 0} (P : Tokens → A → Type 0) (close : VToken) : Tokens → List A → Type 0 where
  done : {ts : Tokens} {vs : List A} → IsToken close ts → vs ≡ [] → TailText P close ts vs
  next : {ts : Tokens} {vs : List A} (v : A) (ws : List A) (a b c : Tokens) → ts ≡ a ++ (b ++ c) → IsToken (token.Punct 44) a → P b v → TailText P close c ws → vs ≡ v ∷ ws → TailText P close ts vs

module _ {A : Type 0} (p : Vlog A) (P : Tokens → A → Type 0) where
  -- the round of a list
  abbrev round : List A → Unit {0} → Vlog (List A)
  round so_far _ = sequence p (λ a. gives (so_far ++ a ∷ []))

  abbrev close_of : List A → Vlog (List A)
  close_of so_far = sequence (mark 125) (λ _. gives so_far)

  abbrev at_comma : List A → Next → Glance (Unit {0}) Reason
  at_comma _ x = at_token (λ y. say.at_mark 44 y.token) x

  abbrev CommaRounds : List A → Tokens → List A → Type 0
  CommaRounds s ts es = Rounds at_comma (λ s c. Texts (round s c)) (λ s. Texts (close_of s)) s ts es

  rounds_tail : ((ts : Tokens) (v : A) → Texts p ts v → P ts v) → {s : List A} {ts : Tokens} {es : List A} → CommaRounds s ts es → (vs : List A) × (es ≡ s ++ vs) × TailText P (token.Punct 125) ts vs
  rounds_tail h {s} {ts} {es} (ends (u, a, b, e, t, r)) = ([], r.1 ∙ sym (append-nil s), done (subst (IsToken (token.Punct 125)) (sym (e ∙ alone a b r.0)) (mark_text 125 a u t)) refl)
  rounds_tail h {s} {ts} {es} (goes t a b (x, c, d, f, k, (v, d1, d2, g, pv, r)) more_rounds e) =
      let tail = rounds_tail h more_rounds in
      let es_is : es ≡ s ++ (v ∷ tail.0) = tail.1 ∙ ap (λ z. z ++ tail.0) r.1 ∙ append_assoc s (v ∷ []) tail.0 in
      let ts_is : ts ≡ (x ∷ []) ++ (d1 ++ b) = e ∙ ap (λ z. z ++ b) (f ∙ ap (λ z. x ∷ z) (g ∙ alone d1 d2 r.0)) in
      (v ∷ tail.0, es_is, next v tail.0 (x ∷ []) d1 b ts_is (taken_text (say.at_mark 44) (token.Punct 44) x c (λ s k. at_mark_is 44 s c k) k) (h d1 v pv) tail.2 refl)

  tail_rounds : ((ts : Tokens) (v : A) → P ts v → Texts p ts v) → (s : List A) {ts : Tokens} {vs : List A} → TailText P (token.Punct 125) ts vs → CommaRounds s ts (s ++ vs)
  tail_rounds h s {ts} {vs} (done t e) = ends (tt, ts, [], sym (append-nil ts), text_mark 125 ts t, (refl, ap (λ z. s ++ z) e ∙ append-nil s))
  tail_rounds h s {ts} {vs} (next v ws a b c e m pv tail f) =
      let comma = m.2 in
      let es_is : (s ++ v ∷ []) ++ ws ≡ s ++ vs = append_assoc s (v ∷ []) ws ∙ ap (λ z. s ++ z) (sym f) in
      let ts_is : ts ≡ (proper m.0 ∷ b) ++ c = e ∙ ap (λ z. z ++ (b ++ c)) m.1 in
      goes (s ++ v ∷ []) (proper m.0 ∷ b) c (proper m.0, tt, b, refl, ap (say.at_mark 44) comma ∙ refl, (v, b, [], sym (append-nil b), h b v pv, (refl, refl)))
      (subst (λ z. CommaRounds (s ++ v ∷ []) c z) es_is (tail_rounds h (s ++ v ∷ []) tail)) ts_is

  commas_tail : ((ts : Tokens) (v : A) → Texts p ts v → P ts v) → (s : List A) (ts : Tokens) (es : List A) → Texts (commas p (mark 125) s) ts es → (vs : List A) × (es ≡ s ++ vs) × TailText P (token.Punct 125) ts vs
  unfolding commas while_next
  commas_tail h s ts es r = rounds_tail h r

  tail_commas : ((ts : Tokens) (v : A) → P ts v → Texts p ts v) → (s : List A) (ts : Tokens) (vs : List A) → TailText P (token.Punct 125) ts vs → Texts (commas p (mark 125) s) ts (s ++ vs)
  unfolding commas while_next
  tail_commas h s ts vs t = tail_rounds h s t

-- a list and its closing mark
pub record Closed {A : Type 0} (P : Tokens → A → Type 0) (close : VToken) (ts : Tokens) (vs : List A) : Type 0 where
  pub list : Tokens
  pub mark : Tokens
  pub is : ts ≡ list ++ mark
  pub text : ListText P list vs
  pub closing : IsToken close mark

-- the first of a list, and the others behind commas
pub record Headed {A : Type 0} (P : Tokens → A → Type 0) (close : VToken) (ts : Tokens) (vs : List A) : Type 0 where
  pub value : A
  pub others : List A
  pub first : Tokens
  pub rest : Tokens
  pub is : ts ≡ first ++ rest
  pub values : vs ≡ value ∷ others
  pub head : P first value
  pub tail : TailText P close rest others

close_list : {A : Type 0} (P : Tokens → A → Type 0) (t : VToken) (a b : Tokens) (v : A) (vs : List A) → P a v → TailText P t b vs → Closed P t (a ++ b) (v ∷ vs)
close_list P t a b v vs h (done m e) = record { list = a; mark = b; is = refl; text = last v h (ap (λ z. v ∷ z) e); closing = m }
close_list P t a b v vs h (next w ws c d f e m k tail g) =
    let rest = close_list P t d f w ws k tail in
    record {
      list = a ++ (c ++ rest.list);
      mark = rest.mark;
      is = ap (λ z. a ++ z) (e ∙ ap (λ z. c ++ z) rest.is) ∙ ap (λ z. a ++ z) (sym (append_assoc c rest.list rest.mark)) ∙ sym (append_assoc a (c ++ rest.list) rest.mark);
      text = more v (w ∷ ws) a c rest.list refl h m rest.text (ap (λ z. v ∷ z) g);
      closing = rest.closing;
    }

open_list : {A : Type 0} (P : Tokens → A → Type 0) (t : VToken) (a b : Tokens) (vs : List A) → ListText P a vs → IsToken t b → Headed P t (a ++ b) vs
open_list P t a b vs (last v h e) m = record { value = v; others = []; first = a; rest = b; is = refl; values = e; head = h; tail = done m refl }
open_list P t a b vs (more v ws c d f e h k l g) m =
    let rest = open_list P t f b ws l m in
    record {
      value = v;
      others = ws;
      first = c;
      rest = d ++ (f ++ b);
      is = ap (λ z. z ++ b) e ∙ append_assoc c (d ++ f) b ∙ ap (λ z. c ++ z) (append_assoc d f b);
      values = g;
      head = h;
      tail = next rest.value rest.others d rest.first rest.rest (ap (λ z. d ++ z) rest.is) k rest.head rest.tail rest.values;
    }

-- ---- how an expression begins

-- the tokens are how an expression begins
abbrev StartText : Bool → ℕ → Tokens → ExprStart → Type 0
StartText left room ts (starts.Name n) = IsToken (token.Name n) ts
StartText left room ts (starts.Number n) = (left ≡ false) × IsToken (token.Number n) ts
StartText left room ts (starts.Based b) = (left ≡ false) × IsToken (token.Based b) ts
StartText left room ts starts.Brace = (r : ℕ) × (room ≡ suc r) × IsToken (token.Punct 123) ts

-- the same of one token
abbrev StartIs : Bool → ℕ → VToken → ExprStart → Type 0
StartIs left room t (starts.Name n) = t ≡ token.Name n
StartIs left room t (starts.Number n) = (left ≡ false) × (t ≡ token.Number n)
StartIs left room t (starts.Based b) = (left ≡ false) × (t ≡ token.Based b)
StartIs left room t starts.Brace = (r : ℕ) × (room ≡ suc r) × (t ≡ token.Punct 123)

brace_is : (b room : ℕ) (q : Bool) (u : ExprStart) → nat_eq b 123 ≡ q → (left : Bool) → say.expr_start left room (token.Punct b) ≡ Ok u → StartIs left room (token.Punct b) u
brace_is b zero true u e left h = let k : say.expr_start left zero (token.Punct b) ≡ Err reasons.TooDeep = rw e refl in let m = sym k ∙ h in absurd cc
brace_is b (suc room) true u e left h =
    let k : say.expr_start left (suc room) (token.Punct b) ≡ Ok starts.Brace = rw e refl in
    let same : starts.Brace ≡ u = cc in
    subst (StartIs left (suc room) (token.Punct b)) same (room, refl, ap token.Punct ((Decides-eqb b 123).0 e))
brace_is b room false u e left h = let k : say.expr_start left room (token.Punct b) ≡ Err reasons.Unexpected = rw e refl in let m = sym k ∙ h in absurd cc

start_is : (left : Bool) (room : ℕ) (t : VToken) (u : ExprStart) → say.expr_start left room t ≡ Ok u → StartIs left room t u
start_is left room (token.Name n) u h = let same : starts.Name n ≡ u = cc in subst (StartIs left room (token.Name n)) same refl
start_is false room (token.Number n) u h = let same : starts.Number n ≡ u = cc in subst (StartIs false room (token.Number n)) same (refl, refl)
start_is true room (token.Number n) u h = absurd cc
start_is false room (token.Based n) u h = let same : starts.Based n ≡ u = cc in subst (StartIs false room (token.Based n)) same (refl, refl)
start_is true room (token.Based n) u h = absurd cc
start_is left room (token.Punct b) u h = brace_is b room (nat_eq b 123) u refl left h
start_is left room (token.Keyword a) u h = absurd cc
start_is left room (token.Real a) u h = absurd cc
start_is left room (token.Str a) u h = absurd cc
start_is left room token.AttrStart u h = absurd cc
start_is left room token.AttrStop u h = absurd cc
start_is left room (token.Symbol a) u h = absurd cc
start_is left room (token.Directive a) u h = absurd cc

start_at : (left : Bool) (room : ℕ) (y : VFound) (u : ExprStart) → StartIs left room y.token u → StartText left room (proper y ∷ []) u
start_at left room y (starts.Name n) h = (y, refl, h)
start_at left room y (starts.Number n) h = (h.0, (y, refl, h.1))
start_at left room y (starts.Based n) h = (h.0, (y, refl, h.1))
start_at left room y starts.Brace h = (h.0, h.1, (y, refl, h.2))

start_text : (left : Bool) (room : ℕ) (ts : Tokens) (u : ExprStart) → Texts (expr_start left room) ts u → StartText left room ts u
unfolding one
start_text left room ts u (proper y, e, h) = subst (λ z. StartText left room z u) (sym e) (start_at left room y u (start_is left room y.token u h))
start_text left room ts u (end p, e, h) = absurd cc

text_start : (left : Bool) (room : ℕ) (ts : Tokens) (u : ExprStart) → StartText left room ts u → Texts (expr_start left room) ts u
text_start left room ts (starts.Name n) h = text_due (say.expr_start left room) (token.Name n) ts (starts.Name n) refl h
text_start left room ts (starts.Number n) h = text_due (say.expr_start left room) (token.Number n) ts (starts.Number n) (rw h.0 refl) h.1
text_start left room ts (starts.Based n) h = text_due (say.expr_start left room) (token.Based n) ts (starts.Based n) (rw h.0 refl) h.1
text_start left room ts starts.Brace h = text_due (say.expr_start left room) (token.Punct 123) ts starts.Brace (rw h.1 refl) h.2

-- ---- expressions without braces

digits_by : (n : ℤ) (b : Based) (l : Literal) (q : Bool) → say.is_size n ≡ q → say.at_digits n (token.Based b) ≡ takes l → (say.is_size n ≡ true) × (l ≡ record { size = nat_abs n; based = b })
digits_by n b l true e h = let k : say.at_digits n (token.Based b) ≡ takes (record { size = nat_abs n; based = b }) = rw e refl in let same : record { size = nat_abs n; based = b } ≡ l = cc in (e, sym same)
digits_by n b l false e h = let k : say.at_digits n (token.Based b) ≡ refuses reasons.NumberRange = rw e refl in let m = sym k ∙ h in absurd cc

-- the digits that are taken behind a number
pub record Digits (n : ℤ) (t : VToken) (l : Literal) : Type 0 where
  pub based : Based
  pub is : t ≡ token.Based based
  pub size : say.is_size n ≡ true
  pub literal : l ≡ record { size = nat_abs n; based = based }

pub digits_are : (n : ℤ) (t : VToken) (l : Literal) → say.at_digits n t ≡ takes l → Digits n t l
digits_are n (token.Based b) l h = let d = digits_by n b l (say.is_size n) refl h in record { based = b; is = refl; size = d.0; literal = d.1 }
digits_are n (token.Number a) l h = absurd cc
digits_are n (token.Punct b) l h = absurd cc
digits_are n (token.Name a) l h = absurd cc
digits_are n (token.Keyword a) l h = absurd cc
digits_are n (token.Real a) l h = absurd cc
digits_are n (token.Str a) l h = absurd cc
digits_are n token.AttrStart l h = absurd cc
digits_are n token.AttrStop l h = absurd cc
digits_are n (token.Symbol a) l h = absurd cc
digits_are n (token.Directive a) l h = absurd cc

sized_text : (n : ℤ) (a b : Tokens) (e : Expr) → IsToken (token.Number n) a → Texts (sized n) b e → PlainText false (a ++ b) e
unfolding sized digits if_next
sized_text n a b e t (l, c, d, f, inl (proper y, w, z, g, h, (m, k)), r) =
    let ds = digits_are n y.token w h in
    let b_is : b ≡ proper y ∷ [] = f ∙ alone c d r.0 ∙ g ∙ ap (λ q. proper y ∷ q) m in
    let e_is : e ≡ exprs.Lit (record { size = nat_abs n; based = ds.based }) = r.1 ∙ ap (expr_of_number n) k ∙ ap exprs.Lit ds.literal in
    literal n ds.based a b refl refl t (y, b_is, ds.is) ds.size e_is
sized_text n a b e t (l, c, d, f, inl (end p, w, z, g, h, (m, k)), r) = absurd cc
sized_text n a b e t (l, c, d, f, inr (g, k), r) =
    let b_is : b ≡ [] = f ∙ alone c d r.0 ∙ g in
    number n refl (subst (IsToken (token.Number n)) (sym (alone a b b_is)) t) (r.1 ∙ ap (expr_of_number n) k)

-- the rest of an expression behind how it begins, where `inner` stands behind a brace
rest_text : (left : Bool) (room : ℕ) (B : Tokens → Expr → Type 0) (inner : Vlog Expr) → ((r : ℕ) (a b : Tokens) (e : Expr) → room ≡ suc r → IsToken (token.Punct 123) a → Texts inner b e → B (a ++ b) e)
    → (u : ExprStart) (a b : Tokens) (e : Expr) → StartText left room a u → Texts (expr_rest inner u) b e → PlainText left (a ++ b) e ⊎ B (a ++ b) e
unfolding expr_rest
rest_text left room B inner braces (starts.Name n) a b e t (s, c, d, f, k, r) = inl (ref n s a b refl t (subst (λ z. SelectText z s) (sym (f ∙ alone c d r.0)) (select_text c s k)) r.1)
rest_text left room B inner braces (starts.Number n) a b e t h = inl (subst (λ z. PlainText z (a ++ b) e) (sym t.0) (sized_text n a b e t.1 h))
rest_text left room B inner braces (starts.Based d) a b e t h = inl (loose d t.0 (subst (IsToken (token.Based d)) (sym (alone a b h.0)) t.1) h.1)
rest_text left room B inner braces starts.Brace a b e t h = inr (braces t.0 a b e t.1 t.2 h)

by_text : (left : Bool) (room : ℕ) (B : Tokens → Expr → Type 0) (inner : Vlog Expr) → ((r : ℕ) (a b : Tokens) (e : Expr) → room ≡ suc r → IsToken (token.Punct 123) a → Texts inner b e → B (a ++ b) e)
    → (ts : Tokens) (e : Expr) → Texts (expr_by left room inner) ts e → PlainText left ts e ⊎ B ts e
unfolding expr_by
by_text left room B inner braces ts e (u, a, b, f, t, h) = subst (λ z. PlainText left z e ⊎ B z e) (sym f) (rest_text left room B inner braces u a b e (start_text left room a u t) h)

text_plain : (left : Bool) (room : ℕ) (inner : Vlog Expr) (ts : Tokens) (e : Expr) → PlainText left ts e → Texts (expr_by left room inner) ts e
unfolding expr_by expr_rest sized digits if_next
text_plain left room inner ts e (ref n s a b f t k g) = (starts.Name n, a, b, f, text_start left room a (starts.Name n) t, (s, b, [], sym (append-nil b), text_select b s k, (refl, g)))
text_plain left room inner ts e (literal n d a b l f t u z g) =
    let l_is : Literal = record { size = nat_abs n; based = d } in
    let taken : say.at_digits n (token.Based d) ≡ takes (record { size = nat_abs n; based = d }) = rw z refl in (
      starts.Number n,
      a,
      b,
      f,
      text_start left room a (starts.Number n) (l, t),
      (Some (record { size = nat_abs n; based = d }), b, [], sym (append-nil b), inl (proper u.0, record { size = nat_abs n; based = d }, [], u.1, ap (say.at_digits n) u.2 ∙ taken, (refl, refl)), (refl, g)),
    )
text_plain left room inner ts e (number n l t g) = (starts.Number n, ts, [], sym (append-nil ts), text_start left room ts (starts.Number n) (l, t), (None, [], [], refl, inr (refl, refl), (refl, g)))
text_plain left room inner ts e (loose d l t g) = (starts.Based d, ts, [], sym (append-nil ts), text_start left room ts (starts.Based d) (l, t), (refl, g))

-- ---- expressions in braces

module _ (left : Bool) (room : ℕ) (inner : Vlog Expr) (P : Tokens → Expr → Type 0) where
  -- an expression there
  abbrev inner_expr : Vlog Expr
  inner_expr = expr_by left room inner

  -- behind a number stand its digits, or nothing
  as_rest : (n : ℤ) (d : Tokens) (e : Expr) → Texts (sequence (sized n) (cat_rest inner_expr)) d e → Texts (sequence (expr_rest inner (starts.Number n)) (cat_rest inner_expr)) d e
  unfolding expr_rest
  as_rest n d e r = r

  module _ (h : (ts : Tokens) (v : Expr) → Texts inner_expr ts v → P ts v) where
    -- the first expression is of the tokens c and g, the brace is a
    cat_text : (u : ExprStart) (a c d : Tokens) (e : Expr) → IsToken (token.Punct 123) a → Texts (expr_start left room) c u → Texts (sequence (expr_rest inner u) (cat_rest inner_expr)) d e → BracedText left P (a ++ (c ++ d)) e
    unfolding cat_rest expr_by
    cat_text u a c d e t st (v, g, k, f, rest, (es, m, n, q, cm, r)) =
        let tail = commas_tail inner_expr P h (v ∷ []) m es cm in
        let whole = close_list P (token.Punct 125) (c ++ g) m v tail.0 (h (c ++ g) v (u, c, g, refl, st, rest)) tail.2 in
        let d_is : d ≡ g ++ m = f ∙ ap (λ z. g ++ z) (q ∙ alone m n r.0) in
        let ts_is : a ++ (c ++ d) ≡ a ++ (whole.list ++ whole.mark) = ap (λ z. a ++ z) (ap (λ z. c ++ z) d_is ∙ sym (append_assoc c g m) ∙ whole.is) in
        cat (v ∷ tail.0) a whole.list whole.mark ts_is t whole.text whole.closing (r.1 ∙ ap exprs.Cat tail.1)

    rep_text : (n : ℤ) (a c d : Tokens) (e : Expr) → left ≡ false → IsToken (token.Punct 123) a → IsToken (token.Number n) c → Marked 123 (rep_rest inner_expr n) d e → BracedText left P (a ++ (c ++ d)) e
    unfolding rep_rest list
    rep_text n a c d e l t num m =
        let es = m.text.0 in
        let g = m.text.1 in
        let k = m.text.2 in
        let items = m.text.4 in
        let closing = m.text.5 in
        let tail = commas_tail inner_expr P h (items.0 ∷ []) items.2 es items.5 in
        let whole = close_list P (token.Punct 125) items.1 items.2 items.0 tail.0 (h items.1 items.0 items.4) tail.2 in
        let g_is : g ≡ whole.list ++ whole.mark = items.3 ∙ whole.is in
        let k_is : k ≡ closing.1 = closing.3 ∙ alone closing.1 closing.2 closing.5.0 in
        let rest_is : m.rest ≡ whole.list ++ (whole.mark ++ closing.1) = m.text.3 ∙ ap (λ z. z ++ k) g_is ∙ ap (λ z. (whole.list ++ whole.mark) ++ z) k_is ∙ append_assoc whole.list whole.mark closing.1 in
        rep n (items.0 ∷ tail.0) a c m.before whole.list whole.mark closing.1 l (ap (λ z. a ++ (c ++ z)) (m.is ∙ ap (λ z. m.before ++ z) rest_is)) t num m.mark whole.text whole.closing (mark_text 125 closing.1 closing.0 closing.4)
        (closing.5.1 ∙ ap (exprs.Rep n) tail.1)

    braced_text : (u : ExprStart) (a c d : Tokens) (e : Expr) → IsToken (token.Punct 123) a → Texts (expr_start left room) c u → Texts (braced inner_expr inner u) d e → BracedText left P (a ++ (c ++ d)) e
    unfolding braced
    braced_text (starts.Name n) a c d e t st r = cat_text (starts.Name n) a c d e t st r
    braced_text (starts.Based n) a c d e t st r = cat_text (starts.Based n) a c d e t st r
    braced_text starts.Brace a c d e t st r = cat_text starts.Brace a c d e t st r
    braced_text (starts.Number n) a c d e t st r = counted n a c d e t st (after_text 123 (rep_rest inner_expr n) (sequence (sized n) (cat_rest inner_expr)) d e r)
      where
        counted : (n : ℤ) (a c d : Tokens) (e : Expr) → IsToken (token.Punct 123) a → Texts (expr_start left room) c (starts.Number n) → Marked 123 (rep_rest inner_expr n) d e ⊎ Texts (sequence (sized n) (cat_rest inner_expr)) d e → BracedText left P (a ++ (c ++ d)) e
        counted n a c d e t st (inl m) = let s = start_text left room c (starts.Number n) st in rep_text n a c d e s.0 t s.1 m
        counted n a c d e t st (inr r) = cat_text (starts.Number n) a c d e t st (as_rest n d e r)

    inside_text : (a b : Tokens) (e : Expr) → IsToken (token.Punct 123) a → Texts (sequence (expr_start left room) (braced inner_expr inner)) b e → BracedText left P (a ++ b) e
    inside_text a b e t (u, c, d, f, st, r) = subst (λ z. BracedText left P (a ++ z) e) (sym f) (braced_text u a c d e t st r)

  module _ (h : (ts : Tokens) (v : Expr) → P ts v → Texts inner_expr ts v) where
    text_braced : (u : ExprStart) (d : Tokens) (e : Expr) → Texts (sequence (expr_rest inner u) (cat_rest inner_expr)) d e → Texts (braced inner_expr inner u) d e
    unfolding braced expr_rest
    text_braced (starts.Name n) d e r = r
    text_braced (starts.Based n) d e r = r
    text_braced starts.Brace d e r = r
    text_braced (starts.Number n) d e r = text_after 123 (rep_rest inner_expr n) (sequence (sized n) (cat_rest inner_expr)) d e (inr r)

    text_cat : (es : List Expr) (b : Tokens) (e : Expr) → Headed P (token.Punct 125) b es → e ≡ exprs.Cat es → Texts (sequence (expr_start left room) (braced inner_expr inner)) b e
    unfolding cat_rest expr_by
    text_cat es b e l g =
        let first = h l.first l.value l.head in
        let others = tail_commas inner_expr P h (l.value ∷ []) l.rest l.others l.tail in
        let b_is : b ≡ first.1 ++ (first.2 ++ l.rest) = l.is ∙ ap (λ z. z ++ l.rest) first.3 ∙ append_assoc first.1 first.2 l.rest in (
          first.0,
          first.1,
          first.2 ++ l.rest,
          b_is,
          first.4,
          text_braced first.0 (first.2 ++ l.rest) e (l.value, first.2, l.rest, refl, first.5, (l.value ∷ l.others, l.rest, [], sym (append-nil l.rest), others, (refl, g ∙ ap exprs.Cat l.values))),
        )

    text_rep : (n : ℤ) (es : List Expr) (b c d f g : Tokens) (e : Expr) → left ≡ false → IsToken (token.Number n) b → IsToken (token.Punct 123) c → Headed P (token.Punct 125) (d ++ f) es → IsToken (token.Punct 125) g → e ≡ exprs.Rep n es
        → Texts (sequence (expr_start left room) (braced inner_expr inner)) (b ++ (c ++ (d ++ (f ++ g)))) e
    unfolding braced rep_rest list
    text_rep n es b c d f g e l num brace items close k =
        let others = tail_commas inner_expr P h (items.value ∷ []) items.rest items.others items.tail in (
          starts.Number n,
          b,
          c ++ (d ++ (f ++ g)),
          refl,
          text_start left room b (starts.Number n) (l, num),
          text_after 123 (rep_rest inner_expr n) (sequence (sized n) (cat_rest inner_expr)) (c ++ (d ++ (f ++ g))) e (inl (record {
            before = c;
            rest = d ++ (f ++ g);
            is = refl;
            mark = brace;
            text = (
              items.value ∷ items.others,
              d ++ f,
              g,
              sym (append_assoc d f g),
              (items.value, items.first, items.rest, items.is, h items.first items.value items.head, others),
              (tt, g, [], sym (append-nil g), text_mark 125 g close, (refl, k ∙ ap (exprs.Rep n) items.values)),
            );
          })),
        )

    -- what stands behind the first brace
    pub record Behind (ts : Tokens) (e : Expr) : Type 0 where
      pub brace : Tokens
      pub rest : Tokens
      pub is : ts ≡ brace ++ rest
      pub mark : IsToken (token.Punct 123) brace
      pub text : Texts (sequence (expr_start left room) (braced inner_expr inner)) rest e

    text_inside : (ts : Tokens) (e : Expr) → BracedText left P ts e → Behind ts e
    text_inside ts e (cat es a b c f t l k g) = record { brace = a; rest = b ++ c; is = f; mark = t; text = text_cat es (b ++ c) e (open_list P (token.Punct 125) b c es l k) g }
    text_inside ts e (rep n es a b c d f g l q t num k items m z r) = record { brace = a; rest = b ++ (c ++ (d ++ (f ++ g))); is = q; mark = t; text = text_rep n es b c d f g e l num k (open_list P (token.Punct 125) d f es items m) z r }

-- ---- the law

expr_text : (left : Bool) (room : ℕ) (ts : Tokens) (e : Expr) → Texts (expr left room) ts e → ExprText left room ts e
unfolding expr inside ExprText
expr_text left zero ts e h = elim (by_text left zero (λ _ _. ⊥) (inside left zero) (λ r a b e k t i. absurd cc) ts e h) [
  | inl p ↦ p
  | inr b ↦ absurd b
]
expr_text left (suc room) ts e h =
    by_text left (suc room) (BracedText left (ExprText left room)) (inside left (suc room)) (λ r a b e k t i. inside_text left room (inside left room) (ExprText left room) (expr_text left room) a b e t i) ts e h

text_expr : (left : Bool) (room : ℕ) (ts : Tokens) (e : Expr) → ExprText left room ts e → Texts (expr left room) ts e
unfolding expr inside expr_by expr_rest ExprText
text_expr left zero ts e h = text_plain left zero (inside left zero) ts e h
text_expr left (suc room) ts e (inl h) = text_plain left (suc room) (inside left (suc room)) ts e h
text_expr left (suc room) ts e (inr h) =
    let b = text_inside left room (inside left room) (ExprText left room) (text_expr left room) ts e h in
    (starts.Brace, b.brace, b.rest, b.is, text_start left (suc room) b.brace starts.Brace (room, refl, b.mark), b.text)

-- The tokens that read as an expression are those that the extended BNF has for it.
pub expressions : (left : Bool) (room : ℕ) (ts : Tokens) (e : Expr) → Spells tt (expr left room) ts e ↔ ExprText left room ts e
expressions left room ts e = (expr_text left room ts e, text_expr left room ts e)
