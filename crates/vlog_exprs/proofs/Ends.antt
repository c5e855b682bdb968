-- A call that takes the end of the input.
use Rattle.std.proofs.Common.{◌≡◌, ◌∙◌, sym, ap, subst, refl, Some, None, Result, Ok, Err, IfOk, IsErrAnd}
use Rattle.std.proofs.lemmas.Result.{err_from_is_err_and}
use Rattle.grammar.specs.Whole.{proper, the_end}
use Rattle.nl_base.specs.declared.fault.Reason.{Reason}
use Rattle.nl_base.specs.declared.fault.ReadError.{ReadError}
use Rattle.nl_base.specs.declared.memory.NoMemory.{NoMemory}
use Rattle.nl_io.specs.Sources.{Supply}
use Rattle.nl_bytes.specs.Tokens.{IsNear}
use Rattle.readers.specs.Readers.{Reader, Ends, stream, reading, looking, then_left, fault_at}
use Rattle.readers.proofs.Moving.{near_text, near_no_memory}
use Rattle.readers.proofs.Reading.{no_memory}
use Rattle.readers.proofs.Looking.{seen_trailing, seen_end, cause_ending}
use Rattle.vlog_tokens.specs.declared.token.VFound.{VFound}
use Rattle.vlog_tokens.specs.Language.{vlog}
use Rattle.vlog_exprs.specs.Language.{NoContext}
use Rattle.vlog_exprs.specs.Calls.{LooksOut, answer, left_after}
use Rattle.vlog_exprs.specs.Reasons.{trailing}

module _ (a b : Reader NoContext VFound) (i j : Supply) where
  -- the look fails
  pub ends_fails : (e : ReadError) (s : Result (Unit {0}) ReadError) → LooksOut (Err e) a b i j → IsErrAnd s (λ d. d ≡ e) → Ends vlog trailing s a b i j
  ends_fails e s h k = let p = err_from_is_err_and s k in rw (p.1, p.2, h.left) (record {
    value = tt;
    error = cause_ending e vlog trailing a.context (stream vlog a i) h.looks.error;
    moves = h.looks.moves;
    unspent = tt;
    spent = h.looks.spent;
    spends = h.looks.spends;
    cause = h.looks.cause;
    near = h.looks.near;
  })

  -- there is no token
  pub ends_none : LooksOut (Ok None) a b i j → Ends vlog trailing (Ok tt) a b i j
  ends_none h =
      let out : b ≡ h.seen = h.left ∙ subst (λ z. record { window = h.seen.window; ahead = z; context = h.seen.context; spent = h.seen.spent } ≡ h.seen) (sym h.found) refl in
      let ended = h.looks.value.2 refl in
      rw out (record {
        value = (seen_end vlog trailing a.context h.seen.window (stream vlog a i) (stream vlog h.seen j) h.looks.value.3.0 ended.0, ended.0, ended.2);
        error = tt;
        moves = h.looks.moves;
        unspent = h.looks.unspent;
        spent = tt;
        spends = h.looks.spends;
        cause = tt;
        near = tt;
      })

  -- there is a token, which is refused
  module _ (x : VFound) (h : LooksOut (Ok (Some x)) a b i j) where
    saw : looking (stream vlog a i) ≡ then_left (Some x) (stream vlog a i)
    saw = h.looks.value.0 ∙ ap (λ o. then_left o (stream vlog h.seen j)) (sym h.found) ∙ ap (then_left (Some x)) h.looks.value.3.0

    by : (r : Result (Result (Unit {0}) Reason) NoMemory) → IfOk r (λ said. said ≡ Err (trailing x)) → Ends vlog trailing (answer x.place x.stop r) a (left_after r b) i j
    by (Ok (Ok v)) e = absurd cc
    by (Ok (Err reason)) e =
        let why : reason ≡ trailing x = cc in
        rw (why, h.left) (record {
          value = tt;
          error = seen_trailing vlog trailing a.context x (stream vlog a i) saw;
          moves = h.looks.moves;
          unspent = tt;
          spent = (λ s. absurd cc, λ s. let g = sym s ∙ h.looks.unspent in absurd cc);
          spends = refl;
          cause = λ s. absurd cc;
          near = near_text h.seen.window (fault_at vlog (proper x) (trailing x)) (subst (λ (r : Reader NoContext VFound). IsNear r.window x.stop) h.left h.near);
        })
    by (Err n) e = rw h.left (record {
      value = tt;
      error = no_memory (reading vlog (the_end trailing) a.context (stream vlog a i));
      moves = h.looks.moves;
      unspent = tt;
      spent = (λ s. absurd cc, λ s. let g = sym s ∙ h.looks.unspent in absurd cc);
      spends = refl;
      cause = λ s. absurd cc;
      near = near_no_memory h.seen.window;
    })

    pub ends_at : (r : Result (Result (Unit {0}) Reason) NoMemory) (s : Result (Unit {0}) ReadError) (c : Reader NoContext VFound) → IfOk r (λ said. said ≡ Err (trailing x)) → s ≡ answer x.place x.stop r → c ≡ left_after r b → Ends vlog trailing s a c i j
    ends_at r s c e m n = rw (m, n) (by r e)
