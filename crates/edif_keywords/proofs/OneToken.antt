-- A call that takes one token, and answers what it says at its place.
use Rattle.std.proofs.Common.{◌≡◌, ◌∙◌, sym, ap, subst, refl, ℕ, List, Result, Ok, Err, IsErrAnd}
use Rattle.std.proofs.lemmas.Result.{err_from_is_err_and}
use Rattle.std.specs.Prelude.{IfOk}
use Rattle.grammar.specs.Whole.{proper}
use Rattle.nl_base.specs.declared.place.Place.{Place}
use Rattle.nl_base.specs.declared.fault.Reason.{Reason}
use Rattle.nl_base.specs.declared.fault.ReadError.{ReadError}
use Rattle.nl_base.specs.declared.fault.ReadError.TheVariants as errors
use Rattle.edif_tokens.specs.declared.token.Found.{Found}
use Rattle.readers.specs.Parts.{one, any}
use Rattle.nl_io.specs.Sources.{Supply}
use Rattle.nl_bytes.specs.Tokens.{IsNear}
use Rattle.readers.specs.Readers.{Reader, Reads, same, stream, reading, judge, said, fault_at, IsCause}
use Rattle.readers.proofs.Moving.{near_text}
use Rattle.readers.proofs.Reading.{reading_one, judge_left, cause_judge, cause_said}
use Rattle.edif_keywords.specs.Aliases.{Alias}
use Rattle.edif_keywords.specs.Language.{edif}
use Rattle.edif_keywords.specs.Calls.{answer, left_after}

module _ {V : Type 0} (f : List Alias → Found → Result V Reason) (a b : Reader (List Alias) Found) (i j : Supply) where
  module _ (x : Found) (h : Reads edif same any (Ok x) a b i j) (near : IsNear b.window x.stop) where
    reads : (r : Result V Reason) → r ≡ f a.context x → reading edif (one f) a.context (stream edif a i) ≡ said edif x (stream edif b j) r
    reads r e =
        reading_one edif f a.context (stream edif a i) ∙ ap (judge edif f a.context) h.value.0
        ∙ judge_left edif f a.context x (stream edif b j) ∙ ap (said edif x (stream edif b j)) (sym e)

    by : (r : Result V Reason) → r ≡ f a.context x → Reads edif same (one f) (answer x.place x.stop r) a (left_after r b) i j
    by (Ok v) e = record {
      value = (reads (Ok v) e, h.value.1, h.value.2);
      error = tt;
      moves = h.moves;
      unspent = h.unspent;
      spent = tt;
      spends = h.spends;
      cause = tt;
      near = tt;
    }
    by (Err reason) e = record {
      value = tt;
      error = subst (IsCause (errors.Text (fault_at edif (proper x) reason))) (sym (reads (Err reason) e)) (cause_said V edif x reason (stream edif b j));
      moves = h.moves;
      unspent = tt;
      spent = (λ s. absurd cc, λ s. let g = sym s ∙ h.unspent in absurd cc);
      spends = refl;
      cause = λ s. absurd cc;
      near = near_text b.window (fault_at edif (proper x) reason) near;
    }

    -- the token was taken
    pub one_says : (r : Result V Reason) (s : Result V ReadError) (c : Reader (List Alias) Found) → r ≡ f a.context x → s ≡ answer x.place x.stop r → c ≡ left_after r b → Reads edif same (one f) s a c i j
    one_says r s c e m n = rw (m, n) (by r e)

  -- no token could be taken
  fails : (e : ReadError) → Reads edif same any (Err e) a b i j → Reads edif same (one f) (Err e) a b i j
  fails e h = record {
    value = tt;
    error = subst (IsCause e) (sym (reading_one edif f a.context (stream edif a i))) (cause_judge e edif f a.context (reading edif any a.context (stream edif a i)) h.error);
    moves = h.moves;
    unspent = tt;
    spent = h.spent;
    spends = h.spends;
    cause = h.cause;
    near = h.near;
  }

  pub one_fails : (e : ReadError) (s : Result V ReadError) → Reads edif same any (Err e) a b i j → IsErrAnd s (λ d. d ≡ e) → Reads edif same (one f) s a b i j
  one_fails e s h k = let p = err_from_is_err_and s k in rw (p.1, p.2) (fails e h)

-- what a token says is good, where all that it may say is
pub good_says : {V : Type 0} (Good : V → Type 0) (place : Place) (stop : ℕ) (said : Result V Reason) → ((v : V) → said ≡ Ok v → Good v) → IfOk (answer place stop said) Good
good_says Good place stop (Ok v) good = good v refl
good_says Good place stop (Err reason) good = tt
