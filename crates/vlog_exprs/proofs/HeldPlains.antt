-- The calls that take or leave the number or the bracket of attributes that is next, where the bytes that are held show it.
use Rattle.std.proofs.Common.{◌≡◌, ◌∙◌, sym, ap, subst, refl, ℕ, ◌≤◌, Bool, true, false, cond, not, ◌&&◌, length, Option, Some, None, is_none, is_some, Result, Ok, arith}
use Rattle.std.specs.Prelude.{ℤ, neg_ℤ}
use Rattle.grammar.specs.Part.{Glance, takes, leaves, gives, sequence}
use Rattle.nl_base.specs.declared.fault.Reason.{Reason}
use Rattle.nl_bytes.specs.Bytes.{Window}
use Rattle.nl_io.specs.Sources.{Supply}
use Rattle.readers.specs.Parts.{any, one, pick}
use Rattle.readers.specs.Readers.{Reader, Reads, TakesNext, LooksFor, same, stream, on}
use Rattle.readers.proofs.Choices.{took, reading_if}
use Rattle.readers.proofs.Moving.{still}
use Rattle.readers.proofs.Reading.{on_left}
use Rattle.readers.proofs.Taking.{takes_next}
use Rattle.vlog_tokens.specs.declared.plain.Plain.{Plain}
use Rattle.vlog_tokens.specs.declared.plain.Plain.TheVariants as plain
use Rattle.vlog_tokens.specs.declared.token.VFound.{VFound}
use Rattle.vlog_tokens.specs.declared.token.VToken.{VToken}
use Rattle.vlog_tokens.specs.declared.token.VToken.TheVariants.{Number}
use Rattle.vlog_tokens.specs.Language.{vlog}
use Rattle.vlog_tokens.specs.Plains as plains
use Rattle.vlog_tokens.specs.Plains.{plain_token}
use Rattle.vlog_tokens.proofs.HeldPlains.{plain_reads}
use Rattle.vlog_exprs.specs.Language.{NoContext, Vlog}
use Rattle.vlog_exprs.specs.Calls.{stands, held_plain, past_plain}
use Rattle.vlog_exprs.specs.Grammar.{bound, bound_number, after}
use Rattle.vlog_exprs.specs.Reasons.{at_mark, is_bound, bound_of}
use Rattle.vlog_exprs.proofs.OneToken.{one_says}
use Rattle.vlog_exprs.proofs.HeldMarks.{left_next}
use Rattle.vlog_exprs.proofs.HeldWords.{HeldTaken, next_fits}

-- a reader of which such a token is held is not spent, and has looked at no token
plain_live : (a : Reader NoContext VFound) (p : Plain) → held_plain a ≡ Some p → (a.spent ≡ false) × (a.ahead ≡ None) × (plains.held_plain a.window ≡ Some p)
unfolding held_plain
plain_live a p e = by a.spent a.ahead (plains.held_plain a.window) e
  where
    by : (spent : Bool) (ahead : Option VFound) (held : Option Plain) → cond (not spent && is_none ahead) held None ≡ Some p → (spent ≡ false) × (ahead ≡ None) × (held ≡ Some p)
    by true ahead held e = absurd cc
    by false (Some x) held e = absurd cc
    by false None held e = (refl, refl, e)

-- the same of what a reader is made of
pub inside_plain : (w : Window) (h : Option VFound) (k : NoContext) (b : Bool) (a : Reader NoContext VFound) → record { window = w; ahead = h; context = k; spent = b } ≡ a → (p : Plain) → held_plain a ≡ Some p → (plains.held_plain w ≡ Some p) × (h ≡ None)
inside_plain w h k b a e p m = let l = plain_live (record { window = w; ahead = h; context = k; spent = b }) p (ap held_plain e ∙ m) in (l.2, l.1)

module _ (a b : Reader NoContext VFound) (p : Plain) (e : held_plain a ≡ Some p) (small : length a.window.held ≤ 4096) (i : Supply) where
  plain_taken : HeldTaken (plain_token p) a (past_plain a) i
  plain_taken =
      let l = plain_live a p e in
      let r = plain_reads a.window p l.2 small i in
      let read = takes_next vlog a a.window (plains.past_plain a.window) false false a.ahead a.ahead a.context a.spent i i refl l.0 l.1 refl l.1 r.0 r.2 in
      record {
        token = r.0;
        is = r.1;
        reads = subst (λ (b : Bool). Reads vlog same any (Ok r.0) a (record { window = plains.past_plain a.window; ahead = a.ahead; context = a.context; spent = b }) i i) (sym l.0) read;
        near = r.2.after_token;
      }

  -- the token says what is answered
  pub plain_says : {V : Type 0} (f : VToken → Result V Reason) (v : V) → f (plain_token p) ≡ Ok v → b ≡ past_plain a → Reads vlog same (one (λ _ x. f x.token)) (Ok v) a b i i
  plain_says f v t b-is =
      let m = plain_taken in
      rw b-is (one_says (λ _ x. f x.token) a (past_plain a) i i m.token m.reads m.near (Ok (Ok v)) (Ok v) (past_plain a) (sym (ap f m.is ∙ t)) refl refl)

  -- the token is looked at
  pub plain_looked : (f : VFound → Bool) (t : Bool) → ((x : VFound) → x.token ≡ plain_token p → t ≡ f x) → LooksFor vlog f (Ok t) a a i i
  plain_looked f t fits =
      let m = plain_taken in
      record {
        value = (next_fits vlog f a.context m.token t (stream vlog a i) (stream vlog (past_plain a) i) m.reads.value.0 (fits m.token m.is), (refl, refl, omega arith));
        error = tt;
        moves = still a.window i;
        unspent = m.reads.unspent;
        spent = tt;
        spends = m.reads.unspent;
        cause = tt;
        near = tt;
      }

  module _ {V C : Type 0} (view : V → Option C) (f : VToken → Glance C Reason) (y : V) where
    -- the token is taken
    pub plain_some : (c : C) → view y ≡ Some c → f (plain_token p) ≡ takes c → b ≡ past_plain a → TakesNext vlog view (λ _ x. f x.token) (Ok y) a b i i
    plain_some c v t b-is =
        let m = plain_taken in
        rw b-is (record {
          value = (
            rw v (took vlog (λ _ x. f x.token) a.context m.token c (stream vlog a i) (stream vlog (past_plain a) i) m.reads.value.0 (ap f m.is ∙ t)),
            refl,
            omega (arith, m.reads.value.2),
            λ _. m.reads.value.2,
          );
          error = tt;
          moves = m.reads.moves;
          unspent = m.reads.unspent;
          spent = tt;
          spends = m.reads.spends;
          cause = tt;
          near = tt;
        })

    -- the token is left
    pub plain_none : view y ≡ None → f (plain_token p) ≡ leaves → TakesNext vlog view (λ _ x. f x.token) (Ok y) a a i i
    plain_none v t =
        let m = plain_taken in
        record {
          value = (
            rw v (left_next vlog (λ _ x. f x.token) a.context m.token (stream vlog a i) (stream vlog (past_plain a) i) m.reads.value.0 (ap f m.is ∙ t)),
            refl,
            omega arith,
            λ z. let n : false ≡ true = ap is_some (sym v) ∙ z in absurd cc,
          );
          error = tt;
          moves = still a.window i;
          unspent = m.reads.unspent;
          spent = tt;
          spends = m.reads.unspent;
          cause = tt;
          near = tt;
        }

-- such a token is no mark
pub mark_leaves_plain : (due : ℕ) (p : Plain) → at_mark due (plain_token p) ≡ leaves
mark_leaves_plain due (plain.Number n) = refl
mark_leaves_plain due plain.AttrStart = refl
mark_leaves_plain due plain.AttrStop = refl

-- a number that is a bound says it
bound_says : (n b : ℤ) → Some b ≡ cond (is_bound n) (Some n) None → bound_of (Number n) ≡ Ok b
bound_says n b e = go (is_bound n) refl e
  where
    go : (t : Bool) → is_bound n ≡ t → Some b ≡ cond t (Some n) None → bound_of (Number n) ≡ Ok b
    go true d h = let is : b ≡ n = cc in rw (d, is) refl
    go false d h = absurd cc

-- a number that is a bound is taken as one, with no `-` before it
pub number_bound : (a b : Reader NoContext VFound) (n v : ℤ) → held_plain a ≡ Some (plain.Number n) → length a.window.held ≤ 4096 → (i : Supply) → Some v ≡ cond (is_bound n) (Some n) None → b ≡ past_plain a → Reads vlog same bound (Ok v) a b i i
unfolding bound after
number_bound a b n v e small i is b-is =
    let none = plain_none a a (plain.Number n) e small i stands (at_mark 45) false refl refl in
    let number = plain_says a b (plain.Number n) e small i bound_of v (bound_says n v is) b-is in
    let minus : Unit {0} → Vlog ℤ = λ _. sequence bound_number (λ n. gives (neg_ℤ n)) in
    record {
      value = (
        reading_if vlog (λ _ x. at_mark 45 x.token) minus bound_number a.context (stream vlog a i)
            ∙ ap (on vlog (pick minus bound_number) a.context) none.value.0
            ∙ on_left vlog (pick minus bound_number) a.context None (stream vlog a i)
            ∙ number.value.0,
        number.value.1,
        number.value.2,
      );
      error = tt;
      moves = number.moves;
      unspent = number.unspent;
      spent = tt;
      spends = number.spends;
      cause = tt;
      near = tt;
    }
