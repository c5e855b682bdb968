-- A call that takes the next token where it fits, and answers what it is taken for.
use Rattle.std.proofs.Common.{◌≡◌, ◌∙◌, sym, subst, refl, Bool, true, Option, Some, None, is_some, Result, Ok, Err, IsErrAnd}
use Rattle.std.proofs.lemmas.Result.{err_from_is_err_and}
use Rattle.grammar.specs.Part as part
use Rattle.grammar.specs.Part.{takes, refuses, leaves}
use Rattle.nl_base.specs.declared.fault.Reason.{Reason}
use Rattle.nl_base.specs.declared.fault.ReadError.{ReadError}
use Rattle.nl_io.specs.Sources.{Supply}
use Rattle.nl_bytes.specs.Tokens.{IsNear}
use Rattle.readers.specs.Readers.{Reader, TakesNext, same}
use Rattle.readers.proofs.Maybes.{none_at_end, none_at_token, none_by_error, some_at_token, refused_at_token}
use Rattle.vlog_tokens.specs.declared.token.VFound.{VFound}
use Rattle.vlog_tokens.specs.Language.{vlog}
use Rattle.vlog_exprs.specs.declared.glance.Glance.{Glance}
use Rattle.vlog_exprs.specs.Language.{NoContext}
use Rattle.vlog_exprs.specs.Calls.{kept, seen_answer, seen_left, LooksOut, stands}

module _ {C : Type 0} (f : NoContext → VFound → part.Glance C Reason) (a b : Reader NoContext VFound) (i j : Supply) where
  module _ (x : VFound) (h : LooksOut (Ok (Some x)) a b i j) where
    -- with its token ahead again the reader is as it was seen
    again : record { window = h.seen.window; ahead = Some x; context = h.seen.context; spent = h.seen.spent } ≡ h.seen
    again = subst (λ z. record { window = h.seen.window; ahead = z; context = h.seen.context; spent = h.seen.spent } ≡ h.seen) (sym h.found) refl

    by : (g : part.Glance C Reason) → f a.context x ≡ g → TakesNext vlog same f (seen_answer x.place x.stop (kept x.token g)) a (seen_left x.place x.stop (kept x.token g) b) i j
    by (takes c) e = rw h.left (some_at_token vlog same f a h.seen i j h.seen.window h.seen.ahead None x h.seen.context h.seen.spent true refl (sym h.found) refl h.looks (Some c) c refl e)
    by (refuses reason) e =
        let near : IsNear h.seen.window x.stop = subst (λ (r : Reader NoContext VFound). IsNear r.window x.stop) h.left h.near in
        rw h.left (refused_at_token vlog same f a h.seen i j h.seen.window h.seen.ahead None x h.seen.context h.seen.spent true refl (sym h.found) refl h.looks reason e near)
    by leaves e = rw h.left (subst (λ (r : Reader NoContext VFound). TakesNext vlog same f (Ok None) a r i j) (sym again) (none_at_token vlog same f a h.seen i j None true x refl h.looks h.found e))

    -- there is a token
    pub seen_says : (g : Glance C) (s : Result (Option C) ReadError) (c : Reader NoContext VFound) → g ≡ kept x.token (f a.context x) → s ≡ seen_answer x.place x.stop g → c ≡ seen_left x.place x.stop g b → TakesNext vlog same f s a c i j
    seen_says g s c e m n = rw (m, n, e) (by (f a.context x) refl)

  -- there is none
  pub seen_none : {V : Type 0} (view : V → Option C) (y : V) → view y ≡ None → LooksOut (Ok None) a b i j → TakesNext vlog view f (Ok y) a b i j
  seen_none view y v h =
      let out : b ≡ h.seen = h.left ∙ subst (λ z. record { window = h.seen.window; ahead = z; context = h.seen.context; spent = h.seen.spent } ≡ h.seen) (sym h.found) refl in
      rw out (none_at_end vlog view f a h.seen i j y v h.looks (sym h.found))

  -- the look fails
  pub seen_fails : {V : Type 0} (view : V → Option C) (e : ReadError) (s : Result V ReadError) → LooksOut (Err e) a b i j → IsErrAnd s (λ d. d ≡ e) → TakesNext vlog view f s a b i j
  seen_fails view e s h k = let p = err_from_is_err_and s k in rw (p.1, p.2, h.left) (none_by_error vlog view f a h.seen i j e h.looks)

-- whether a token was taken that says no more than that it stands
module _ (f : NoContext → VFound → part.Glance (Unit {0}) Reason) (a b : Reader NoContext VFound) (i j : Supply) where
  stands_some : (o : Option (Unit {0})) → stands (is_some o) ≡ o
  stands_some (Some tt) = refl
  stands_some None = refl

  pub stands_says : (o : Option (Unit {0})) (t : Bool) → t ≡ is_some o → TakesNext vlog same f (Ok o) a b i j → TakesNext vlog stands f (Ok t) a b i j
  stands_says o t e h = record {
    value = rw (e, stands_some o) h.value;
    error = tt;
    moves = h.moves;
    unspent = h.unspent;
    spent = tt;
    spends = h.spends;
    cause = tt;
    near = tt;
  }

  pub stands_fails : (e : ReadError) (s : Result Bool ReadError) → TakesNext vlog same f (Err e) a b i j → IsErrAnd s (λ d. d ≡ e) → TakesNext vlog stands f s a b i j
  stands_fails e s h k = let p = err_from_is_err_and s k in rw (p.1, p.2) (record {
    value = tt;
    error = h.error;
    moves = h.moves;
    unspent = tt;
    spent = h.spent;
    spends = h.spends;
    cause = h.cause;
    near = h.near;
  })
