-- A call that takes one token, and answers what it says at its place.
use Rattle.std.proofs.Common.{◌≡◌, ◌∙◌, sym, ap, subst, refl, Result, Ok, Err, IfOk, IsErrAnd}
use Rattle.std.proofs.lemmas.Result.{err_from_is_err_and}
use Rattle.grammar.specs.Whole.{proper}
use Rattle.nl_base.specs.declared.fault.Reason.{Reason}
use Rattle.nl_base.specs.declared.fault.ReadError.{ReadError}
use Rattle.nl_base.specs.declared.fault.ReadError.TheVariants as errors
use Rattle.nl_base.specs.declared.memory.NoMemory.{NoMemory}
use Rattle.readers.specs.Parts.{one, any}
use Rattle.nl_io.specs.Sources.{Supply}
use Rattle.nl_bytes.specs.Tokens.{IsNear}
use Rattle.readers.specs.Readers.{Reader, Reads, same, stream, reading, judge, said, fault_at, IsCause}
use Rattle.readers.proofs.Moving.{near_text, near_no_memory}
use Rattle.readers.proofs.Reading.{reading_one, judge_left, cause_judge, cause_said, no_memory}
use Rattle.vlog_tokens.specs.declared.token.VFound.{VFound}
use Rattle.vlog_tokens.specs.Language.{vlog}
use Rattle.vlog_exprs.specs.Language.{NoContext}
use Rattle.vlog_exprs.specs.Calls.{answer, left_after}

module _ {V : Type 0} (f : NoContext → VFound → Result V Reason) (a b : Reader NoContext VFound) (i j : Supply) where
  module _ (x : VFound) (h : Reads vlog same any (Ok x) a b i j) (near : IsNear b.window x.stop) where
    reads : (r : Result V Reason) → r ≡ f a.context x → reading vlog (one f) a.context (stream vlog a i) ≡ said vlog x (stream vlog b j) r
    reads r e =
        reading_one vlog f a.context (stream vlog a i) ∙ ap (judge vlog f a.context) h.value.0
        ∙ judge_left vlog f a.context x (stream vlog b j) ∙ ap (said vlog x (stream vlog b j)) (sym e)

    by : (r : Result (Result V Reason) NoMemory) → IfOk r (λ said. said ≡ f a.context x) → Reads vlog same (one f) (answer x.place x.stop r) a (left_after r b) i j
    by (Ok (Ok v)) e = record {
      value = (reads (Ok v) e, h.value.1, h.value.2);
      error = tt;
      moves = h.moves;
      unspent = h.unspent;
      spent = tt;
      spends = h.spends;
      cause = tt;
      near = tt;
    }
    by (Ok (Err reason)) e = record {
      value = tt;
      error = subst (IsCause (errors.Text (fault_at vlog (proper x) reason))) (sym (reads (Err reason) e)) (cause_said V vlog x reason (stream vlog b j));
      moves = h.moves;
      unspent = tt;
      spent = (λ s. absurd cc, λ s. let g = sym s ∙ h.unspent in absurd cc);
      spends = refl;
      cause = λ s. absurd cc;
      near = near_text b.window (fault_at vlog (proper x) reason) near;
    }
    by (Err n) e = record {
      value = tt;
      error = no_memory (reading vlog (one f) a.context (stream vlog a i));
      moves = h.moves;
      unspent = tt;
      spent = (λ s. absurd cc, λ s. let g = sym s ∙ h.unspent in absurd cc);
      spends = refl;
      cause = λ s. absurd cc;
      near = near_no_memory b.window;
    }

    -- the token was taken
    pub one_says : (r : Result (Result V Reason) NoMemory) (s : Result V ReadError) (c : Reader NoContext VFound) → IfOk r (λ said. said ≡ f a.context x) → s ≡ answer x.place x.stop r → c ≡ left_after r b → Reads vlog same (one f) s a c i j
    one_says r s c e m n = rw (m, n) (by r e)

  -- no token could be taken
  fails : (e : ReadError) → Reads vlog same any (Err e) a b i j → Reads vlog same (one f) (Err e) a b i j
  fails e h = record {
    value = tt;
    error = subst (IsCause e) (sym (reading_one vlog f a.context (stream vlog a i))) (cause_judge e vlog f a.context (reading vlog any a.context (stream vlog a i)) h.error);
    moves = h.moves;
    unspent = tt;
    spent = h.spent;
    spends = h.spends;
    cause = h.cause;
    near = h.near;
  }

  pub one_fails : (e : ReadError) (s : Result V ReadError) → Reads vlog same any (Err e) a b i j → IsErrAnd s (λ d. d ≡ e) → Reads vlog same (one f) s a b i j
  one_fails e s h k = let p = err_from_is_err_and s k in rw (p.1, p.2) (fails e h)
