-- The exits of a call that takes the next token where a test says so, and answers what it is.
use Rattle.std.proofs.Common.{◌≡◌, ◌<◌, Bool, true, false, List, [], ◌∷◌, Option, Some, None, is_some, Result, Ok, Err, refl, sym, ap, ◌∙◌, subst, arith}
use Rattle.grammar.specs.Part.{Glance, takes, refuses, leaves}
use Rattle.grammar.specs.Reading.{judged, take_token, look_ahead}
use Rattle.grammar.specs.Whole.{Terminal, proper, end}
use Rattle.nl_base.specs.declared.place.Place.{Place}
use Rattle.nl_base.specs.declared.fault.Reason.{Reason}
use Rattle.nl_base.specs.declared.fault.ReadError.{ReadError}
use Rattle.nl_base.specs.declared.fault.ReadError.TheVariants as errors
use Rattle.nl_bytes.specs.Bytes.{Window}
use Rattle.readers.specs.Parts.{of_token, at_token, one, any, maybe}
use Rattle.nl_io.specs.Sources.{Supply}
use Rattle.nl_bytes.specs.Tokens.{Ahead, Language, IsNear}
use Rattle.readers.specs.Readers.{Reader, Looks, TakesNext, result_of, reading, then_left, stream, fault_at, room}
use Rattle.readers.proofs.Moving.{reader, near_text, room_ahead}
use Rattle.readers.proofs.Taking.{taken_ahead}
use Rattle.readers.proofs.Looking.{ok_first, ok_second}
use Rattle.readers.proofs.Choices.{took, left_there, left_end, refused_there, cause_maybe}

-- what one token is read as, f takes it for, where f takes what h says
pub took_one : {K X C : Type 0} (L : Language X) (f : K → X → Glance C Reason) (h : K → X → Result C Reason) (k : K) (c : C) (s t : Option (Ahead X)) → ((x : X) → h k x ≡ Ok c → f k x ≡ takes c) → reading L (one h) k s ≡ then_left c t → reading L (maybe f) k s ≡ then_left (Some c) t
unfolding reading one maybe then_left
took_one L f h k c None None all e = refl
took_one L f h k c None (Some t) all e = absurd cc
took_one L f h k c (Some s) None all e = absurd cc
took_one {X = X} {C = C} L f h k c (Some s) (Some t) all e = by s.tokens e
  where
    said_so : (x : X) (ts : List (Terminal X Place)) (r : Result C Reason) → h k x ≡ r → Some (result_of L s.finish (judged (proper x) ts r)) ≡ Some (Ok (c, t)) → Some (result_of L s.finish (look_ahead (λ t. at_token (f k) t) (λ c ts. Ok (Some c, ts)) (λ ts. Ok (None, ts)) (proper x ∷ ts))) ≡ Some (Ok (Some c, t))
    said_so x ts (Err r) m e = absurd cc
    said_so x ts (Ok d) m e =
        let o = ok_first (d, record { tokens = ts; finish = s.finish }) (c, t) e in
        let w = ok_second (d, record { tokens = ts; finish = s.finish }) (c, t) e in
        rw (all x (m ∙ ap Ok o), ← w) refl

    by : (ts : List (Terminal X Place)) → Some (result_of L s.finish (take_token (λ t. of_token (h k) t) ts)) ≡ Some (Ok (c, t)) → Some (result_of L s.finish (look_ahead (λ t. at_token (f k) t) (λ c ts. Ok (Some c, ts)) (λ ts. Ok (None, ts)) ts)) ≡ Some (Ok (Some c, t))
    by [] e = absurd cc
    by (end p ∷ ts) e = absurd cc
    by (proper x ∷ ts) e = said_so x ts (h k x) refl e

-- a: the reader before; c: after the look
module _ {K X V C : Type 0} (L : Language X) (view : V → Option C) (f : K → X → Glance C Reason) (a c : Reader K X) (i j : Supply) where
  -- no token is next
  pub none_at_end : (y : V) → view y ≡ None → Looks L (Ok false) a c i j → c.ahead ≡ None → TakesNext L view f (Ok y) a c i j
  none_at_end y v h e = record {
    value = (rw v (left_end L f a.context (stream L a i) (stream L c j) (h.value.0 ∙ ap (λ z. then_left z (stream L c j)) e)), h.value.3.1, h.value.3.2, λ z. let n : false ≡ true = ap is_some (sym v) ∙ z in absurd cc);
    error = tt;
    moves = h.moves;
    unspent = h.unspent;
    spent = tt;
    spends = h.spends;
    cause = tt;
    near = tt;
  }

  -- the next token is left
  pub none_at_token : (y : V) (r : Bool) (x : X) → view y ≡ None → Looks L (Ok r) a c i j → Some x ≡ c.ahead → f a.context x ≡ leaves → TakesNext L view f (Ok y) a c i j
  none_at_token y r x v h e l = record {
    value = (rw v (left_there L f a.context x (stream L a i) (stream L c j) (h.value.0 ∙ ap (λ z. then_left z (stream L c j)) (sym e)) h.value.3.0 l), h.value.3.1, h.value.3.2, λ z. let n : false ≡ true = ap is_some (sym v) ∙ z in absurd cc);
    error = tt;
    moves = h.moves;
    unspent = h.unspent;
    spent = tt;
    spends = h.spends;
    cause = tt;
    near = tt;
  }

  -- the look fails
  pub none_by_error : (e : ReadError) → Looks L (Err e) a c i j → TakesNext L view f (Err e) a c i j
  none_by_error e h = record {
    value = tt;
    error = cause_maybe e L f a.context (stream L a i) h.error;
    moves = h.moves;
    unspent = tt;
    spent = h.spent;
    spends = h.spends;
    cause = h.cause;
    near = h.near;
  }

-- c: after the look, of which w, h, k and b are the parts, as the token is taken out of it
module _ {K X V C : Type 0} (L : Language X) (view : V → Option C) (f : K → X → Glance C Reason) (a c : Reader K X) (i j : Supply) (w : Window) (h m : Option X) (x : X) (k : K) (b r : Bool) (is : reader w h k b ≡ c) (some : h ≡ Some x) (empty : m ≡ None) (looks : Looks L (Ok r) a c i j) where
  seen : Looks L (Ok r) a (reader w (Some x) k b) i j
  seen = subst (λ z. Looks L (Ok r) a (reader w z k b) i j) some (subst (λ (z : Reader K X). Looks L (Ok r) a z i j) (sym is) looks)

  -- the token that was seen is taken
  pub some_at_token : (y : V) (v : C) → view y ≡ Some v → f a.context x ≡ takes v → TakesNext L view f (Ok y) a (reader w m k b) i j
  some_at_token y v e l = rw empty (record {
    value = (
      rw e (took L f a.context x v (stream L a i) (stream L (reader w None k b) j) (ap (reading L any a.context) (sym seen.value.3.0) ∙ taken_ahead L a.context x (reader w (Some x) k b) (reader w None k b) j seen.spends refl refl refl seen.spends) l),
      seen.value.3.1,
      (let z : room (reader w None k b) < room (reader w (Some x) k b) = room_ahead w x k b b in omega (arith, seen.value.3.2)),
      λ _. (let z : room (reader w None k b) < room (reader w (Some x) k b) = room_ahead w x k b b in omega (arith, seen.value.3.2)),
    );
    error = tt;
    moves = seen.moves;
    unspent = seen.unspent;
    spent = tt;
    spends = seen.spends;
    cause = tt;
    near = tt;
  })

  -- the token that was seen is refused
  pub refused_at_token : (reason : Reason) → f a.context x ≡ refuses reason → IsNear w (L.stop x) → TakesNext L view f (Err (errors.Text (fault_at L (proper x) reason))) a (reader w m k true) i j
  refused_at_token reason l near = rw empty (record {
    value = tt;
    error = refused_there L f a.context x reason (stream L a i) (stream L (reader w (Some x) k b) j) seen.value.0 l;
    moves = seen.moves;
    unspent = tt;
    spent = (λ s. absurd cc, λ s. let z : true ≡ false = sym s ∙ seen.unspent in absurd cc);
    spends = refl;
    cause = λ s. absurd cc;
    near = near_text w (fault_at L (proper x) reason) near;
  })
