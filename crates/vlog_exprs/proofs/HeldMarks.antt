-- The calls that take or leave the punctuation mark that is next, where the bytes that are held show it.
use Rattle.std.proofs.Common.{◌≡◌, ◌∙◌, sym, ap, subst, refl, ℕ, ◌≤◌, eq-eqb, Bool, true, false, cond, List, [], ◌∷◌, length, Option, Some, None, is_some, Ok, arith}
use Rattle.std.proofs.lemmas.Bool.{ne_eqb}
use Rattle.grammar.specs.Part.{Glance, takes, leaves}
use Rattle.grammar.specs.Reading.{look_ahead, take_token}
use Rattle.grammar.specs.Whole.{Terminal, proper, end}
use Rattle.nl_base.specs.declared.place.Place.{Place}
use Rattle.nl_base.specs.declared.fault.Reason.{Reason}
use Rattle.nl_bytes.specs.Bytes.{Window}
use Rattle.readers.specs.Parts.{of_token, at_token, any, one, maybe}
use Rattle.nl_io.specs.Sources.{Supply}
use Rattle.nl_bytes.specs.Tokens.{Ahead, Language, IsNear}
use Rattle.readers.specs.Readers.{Reader, Reads, TakesNext, same, result_of, reading, then_left, stream}
use Rattle.readers.proofs.Choices.{took}
use Rattle.readers.proofs.Looking.{ok_first}
use Rattle.readers.proofs.Moving.{still}
use Rattle.readers.proofs.Taking.{takes_next}
use Rattle.vlog_tokens.specs.declared.token.VFound.{VFound}
use Rattle.vlog_tokens.specs.declared.token.VToken.{VToken}
use Rattle.vlog_tokens.specs.declared.token.VToken.TheVariants.{Punct}
use Rattle.vlog_tokens.specs.Held as tokens
use Rattle.vlog_tokens.specs.Language.{vlog}
use Rattle.vlog_tokens.proofs.HeldMarks.{mark_reads}
use Rattle.vlog_exprs.specs.declared.start.ExprStart.TheVariants.{Brace}
use Rattle.vlog_exprs.specs.Language.{NoContext}
use Rattle.vlog_exprs.specs.Calls.{held_mark, past_mark, unlooked}
use Rattle.vlog_exprs.specs.Reasons.{mark_of, at_mark, at_expr}
use Rattle.vlog_exprs.proofs.OneToken.{one_says}

-- the next token is left that is taken for nothing
pub left_next : {K X C : Type 0} (L : Language X) (f : K → X → Glance C Reason) (k : K) (x : X) (s t : Option (Ahead X)) → reading L any k s ≡ then_left x t → f k x ≡ leaves → reading L (maybe f) k s ≡ then_left None s
unfolding reading any maybe then_left
left_next L f k x None t h e = refl
left_next L f k x (Some s) None h e = absurd cc
left_next {X = X} {C = C} L f k x (Some s) (Some t) h e = by s.tokens refl h
  where
    by : (ts : List (Terminal X Place)) → s.tokens ≡ ts → Some (result_of L s.finish (take_token (λ t. of_token (λ x. Ok x) t) ts)) ≡ Some (Ok (x, t))
        → Some (result_of L s.finish (look_ahead (λ t. at_token (f k) t) (λ c ts. Ok (Some c, ts)) (λ ts. Ok (None, ts)) s.tokens)) ≡ Some (Ok (None, s))
    by [] m h = absurd cc
    by (end p ∷ ts) m h = absurd cc
    by (proper y ∷ ts) m h =
        let n = ok_first (y, record { tokens = ts; finish = s.finish }) (x, t) h in
        let left : f k y ≡ leaves = ap (f k) n ∙ e in
        rw (m, left, ← m) refl

-- ---- the mark that is next

-- a mark is taken as the next token
pub record MarkTaken (mark : ℕ) (a : Reader NoContext VFound) (i : Supply) : Type 0 where
  pub token : VFound
  pub is : token.token ≡ Punct mark
  pub reads : Reads vlog same any (Ok token) a (past_mark a) i i
  pub near : IsNear (past_mark a).window token.stop

unlooked_some : (ahead : Option VFound) (m : Option ℕ) (mark : ℕ) → unlooked ahead m ≡ Some mark → (ahead ≡ None) × (m ≡ Some mark)
unlooked_some None m mark e = (refl, e)
unlooked_some (Some x) m mark e = absurd cc

-- the reader is not spent, and has looked at no token
held_live : (a : Reader NoContext VFound) (mark : ℕ) → held_mark a ≡ Some mark → (a.spent ≡ false) × (a.ahead ≡ None) × (tokens.held_mark a.window ≡ Some mark)
unfolding held_mark
held_live a mark e = go a.spent refl e
  where
    go : (t : Bool) → a.spent ≡ t → cond t None (unlooked a.ahead (tokens.held_mark a.window)) ≡ Some mark → (a.spent ≡ false) × (a.ahead ≡ None) × (tokens.held_mark a.window ≡ Some mark)
    go true d h = absurd cc
    go false d h = let u = unlooked_some a.ahead (tokens.held_mark a.window) mark h in (d, u.0, u.1)

-- the same of what a reader is made of
pub inside_mark : (w : Window) (h : Option VFound) (k : NoContext) (b : Bool) (a : Reader NoContext VFound) → record { window = w; ahead = h; context = k; spent = b } ≡ a → (mark : ℕ) → held_mark a ≡ Some mark → (tokens.held_mark w ≡ Some mark) × (h ≡ None)
inside_mark w h k b a e mark m = let l = held_live (record { window = w; ahead = h; context = k; spent = b }) mark (ap held_mark e ∙ m) in (l.2, l.1)

pub mark_taken : (a : Reader NoContext VFound) (mark : ℕ) → held_mark a ≡ Some mark → length a.window.held ≤ 4096 → (i : Supply) → MarkTaken mark a i
mark_taken a mark e small i =
    let l = held_live a mark e in
    let r = mark_reads a.window mark l.2 small i in
    let read = takes_next vlog a a.window (tokens.past_mark a.window) false false a.ahead a.ahead a.context a.spent i i refl l.0 l.1 refl l.1 r.0 r.2 in
    record { token = r.0; is = r.1; reads = subst (λ (b : Bool). Reads vlog same any (Ok r.0) a (record { window = tokens.past_mark a.window; ahead = a.ahead; context = a.context; spent = b }) i i) (sym l.0) read; near = r.2.after_token }

-- ---- calls

module _ {V C : Type 0} (view : V → Option C) (f : VToken → Glance C Reason) (a b : Reader NoContext VFound) (mark : ℕ) (e : held_mark a ≡ Some mark) (small : length a.window.held ≤ 4096) (i : Supply) (y : V) where
  -- the mark is taken
  pub mark_some : (c : C) → view y ≡ Some c → f (Punct mark) ≡ takes c → b ≡ past_mark a → TakesNext vlog view (λ _ x. f x.token) (Ok y) a b i i
  mark_some c v t b-is =
      let m = mark_taken a mark e small i in
      rw b-is (record {
        value = (
          rw v (took vlog (λ _ x. f x.token) a.context m.token c (stream vlog a i) (stream vlog (past_mark a) i) m.reads.value.0 (ap f m.is ∙ t)),
          refl,
          omega (arith, m.reads.value.2),
          λ _. m.reads.value.2,
        );
        error = tt;
        moves = m.reads.moves;
        unspent = m.reads.unspent;
        spent = tt;
        spends = m.reads.spends;
        cause = tt;
        near = tt;
      })

  -- the mark is left
  pub mark_none : view y ≡ None → f (Punct mark) ≡ leaves → TakesNext vlog view (λ _ x. f x.token) (Ok y) a a i i
  mark_none v t =
      let m = mark_taken a mark e small i in
      record {
        value = (
          rw v (left_next vlog (λ _ x. f x.token) a.context m.token (stream vlog a i) (stream vlog (past_mark a) i) m.reads.value.0 (ap f m.is ∙ t)),
          refl,
          omega arith,
          λ z. let n : false ≡ true = ap is_some (sym v) ∙ z in absurd cc,
        );
        error = tt;
        moves = still a.window i;
        unspent = m.reads.unspent;
        spent = tt;
        spends = m.reads.unspent;
        cause = tt;
        near = tt;
      }

pub mark_leaves : (next due : ℕ) → (next ≡ due → ⊥) → at_mark due (Punct next) ≡ leaves
mark_leaves next due other = rw (ne_eqb next due other) refl

pub mark_takes : (next due : ℕ) → next ≡ due → at_mark due (Punct next) ≡ takes tt
mark_takes next due is = rw (eq-eqb next due is) refl

pub brace_leaves : (next : ℕ) → (next ≡ 123 → ⊥) → at_expr (Punct next) ≡ leaves
brace_leaves next other = rw (ne_eqb next 123 other) refl

pub brace_takes : (next : ℕ) → next ≡ 123 → at_expr (Punct next) ≡ takes Brace
brace_takes next is = rw (eq-eqb next 123 is) refl

-- the mark that is due is taken
pub mark_due : (a b : Reader NoContext VFound) (due mark : ℕ) → held_mark a ≡ Some mark → mark ≡ due → length a.window.held ≤ 4096 → (i : Supply) → b ≡ past_mark a → Reads vlog same (one (λ _ x. mark_of due x.token)) (Ok tt) a b i i
mark_due a b due mark e is small i b-is =
    let m = mark_taken a mark e small i in
    let said : mark_of due m.token.token ≡ Ok tt = ap (mark_of due) (m.is ∙ ap Punct is) ∙ due_said due in
    rw b-is (one_says (λ _ x. mark_of due x.token) a (past_mark a) i i m.token m.reads m.near (Ok (Ok tt)) (Ok tt) (past_mark a) (sym said) refl refl)
  where
    due_said : (due : ℕ) → mark_of due (Punct due) ≡ Ok tt
    due_said due = rw (eq-eqb due due refl) refl
