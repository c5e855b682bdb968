-- What is known after a look at the next token.
use Rattle.std.proofs.Common.{◌≡◌, Bool, true, false, List, [], ◌∷◌, Option, Some, None, is_some, Result, Ok, Err, refl, sym, ap, ◌∙◌, option_map, arith}
use Rattle.grammar.specs.Reading.{take_token}
use Rattle.grammar.specs.Whole.{Terminal, proper, end, Finish, end_of, the_end}
use Rattle.nl_base.specs.declared.place.Place.{Place}
use Rattle.nl_base.specs.declared.fault.Reason.{Reason}
use Rattle.nl_base.specs.declared.fault.ReadError.{ReadError}
use Rattle.nl_base.specs.declared.fault.ReadError.TheVariants as errors
use Rattle.nl_bytes.specs.Bytes.{Window}
use Rattle.readers.specs.Parts.{of_token, any, one}
use Rattle.nl_io.specs.Sources.{Supply}
use Rattle.nl_bytes.specs.Tokens.{Ahead, Language, ReadsToken, TellsKnown, tokens_ahead}
use Rattle.readers.specs.Readers.{Reader, Looks, LooksFor, stream, stream_of, behind, reading, look_result, looking, then_left, FirstFits, IsNext, IsToken, IsEnd, IsCause, emptied, end_fault, fault_at, finish_error, Outcome, result_of}
use Rattle.readers.proofs.Moving.{near_text, room_seen, room_end, still, reader, skip_none}
use Rattle.readers.proofs.Taking.{stream_of_tokens}

-- an outcome with a value
abbrev pub good : {X A : Type 0} → A × Ahead X → Outcome X A
good p = Some (Ok p)

pub ok_first : {X A : Type 0} (p q : A × Ahead X) → good p ≡ good q → p.0 ≡ q.0
ok_first p q e = let f : p ≡ q = cc in ap (λ z. z.0) f

pub ok_second : {X A : Type 0} (p q : A × Ahead X) → good p ≡ good q → p.1 ≡ q.1
ok_second p q e = let f : p ≡ q = cc in ap (λ z. z.1) f

-- ---- what a look says of the next token

-- a token that was seen is next
pub seen_token : {X : Type 0} (f : X → Bool) (x : X) (s t : Option (Ahead X)) → looking s ≡ then_left (Some x) t → IsToken f (f x) s
unfolding looking then_left IsToken
seen_token f x None t h = tt
seen_token f x (Some s) None h = absurd cc
seen_token {X = X} f x (Some s) (Some t) h = by s.tokens s.finish refl h
  where
    by : (ts : List (Terminal X Place)) (g : Finish _) → s.tokens ≡ ts → Some (look_result ts g s) ≡ Some (Ok (Some x, t)) → (y : X) × (rest : List (Terminal X Place)) × (s.tokens ≡ proper y ∷ rest) × (f y ≡ f x)
    by [] g e h = absurd cc
    by (end p ∷ ts) g e h = let m = ok_first (None, s) (Some x, t) h in absurd cc
    by (proper y ∷ ts) g e h = let m = ok_first (Some y, s) (Some x, t) h in let n : y ≡ x = cc in (y, ts, e, ap f n)

pub seen_next : {X : Type 0} (f : X → Bool) (x : X) (s t : Option (Ahead X)) → looking s ≡ then_left (Some x) t → IsNext f (f x) s
unfolding looking then_left IsNext
seen_next f x None t h = tt
seen_next f x (Some s) None h = absurd cc
seen_next {X = X} f x (Some s) (Some t) h = by s.tokens s.finish h
  where
    by : (ts : List (Terminal X Place)) (g : Finish _) → Some (look_result ts g s) ≡ Some (Ok (Some x, t)) → FirstFits f (f x) ts
    by [] g e = absurd cc
    by (end p ∷ ts) g e = let m = ok_first (None, s) (Some x, t) e in absurd cc
    by (proper y ∷ ts) g e = let m = ok_first (Some y, s) (Some x, t) e in let n : x ≡ y = cc in ap f n

pub seen_none : {X : Type 0} (f : X → Bool) (s t : Option (Ahead X)) → looking s ≡ then_left None t → IsNext f false s
unfolding looking then_left IsNext
seen_none f None t h = tt
seen_none f (Some s) None h = absurd cc
seen_none {X = X} f (Some s) (Some t) h = by s.tokens s.finish h
  where
    by : (ts : List (Terminal X Place)) (g : Finish _) → Some (look_result ts g s) ≡ Some (Ok (None, t)) → FirstFits f false ts
    by [] g e = absurd cc
    by (end p ∷ ts) g e = refl
    by (proper y ∷ ts) g e = let m = ok_first (Some y, s) (None, t) e in absurd cc

-- a fault that was met by looking is that of the next token
look_fault : {X : Type 0} (L : Language X) (e : ReadError) (ts : List (Terminal X Place)) (f : Finish _) (s : Ahead X) → look_result ts f s ≡ Err e → result_of L f (take_token (λ t. of_token (λ x. Ok x) t) ts) ≡ Err e
look_fault L e [] f s h = let g : finish_error f ≡ e = cc in ap Err g
look_fault L e (end p ∷ ts) f s h = absurd cc
look_fault L e (proper x ∷ ts) f s h = absurd cc

pub cause_looking : {K X : Type 0} (e : ReadError) (L : Language X) (k : K) (s : Option (Ahead X)) → IsCause e (looking s) → IsCause e (reading L any k s)
unfolding looking IsCause reading any
cause_looking e L k None h = tt
cause_looking errors.NoMemory L k (Some s) h = tt
cause_looking errors.ReadFault L k (Some s) h = tt
cause_looking errors.Spent L k (Some s) h = absurd h
cause_looking (errors.Text t) L k (Some s) h = look_fault L (errors.Text t) s.tokens s.finish s h
cause_looking errors.TooLong L k (Some s) h = look_fault L errors.TooLong s.tokens s.finish s h

-- the end is the fault where a token is due
pub cause_end : {K X : Type 0} (L : Language X) (w : Window) (k : K) (s : Option (Ahead X)) → IsEnd w s → IsCause (errors.Text (end_fault w)) (reading L any k s)
unfolding IsEnd IsCause reading any
cause_end L w k None h = tt
cause_end L w k (Some s) h = rw h refl

-- for a call that looks at a token that has to be there, and tests it
pub ruleset next_token = (seen_token, cause_looking, cause_end, near_text, skip_none)

-- a token that was seen is refused
pub seen_refused : {K X A : Type 0} (L : Language X) (f : K → X → Result A Reason) (k : K) (x : X) (reason : Reason) (s : Option (Ahead X)) → looking s ≡ then_left (Some x) s → f k x ≡ Err reason → IsCause (errors.Text (fault_at L (proper x) reason)) (reading L (one f) k s)
unfolding looking then_left reading one IsCause
seen_refused L f k x reason None h l = tt
seen_refused {X = X} {A = A} L f k x reason (Some s) h l = by s.tokens s.finish h
  where
    by : (ts : List (Terminal X Place)) (g : Finish _) → Some (look_result ts g s) ≡ Some (Ok (Some x, s)) → result_of {Y = A} L g (take_token (λ t. of_token (f k) t) ts) ≡ Err (errors.Text (fault_at L (proper x) reason))
    by [] g e = absurd cc
    by (end p ∷ ts) g e = let m = ok_first (None, s) (Some x, s) e in absurd cc
    by (proper y ∷ ts) g e = let m = ok_first (Some y, s) (Some x, s) e in let n : y ≡ x = cc in rw (n, l) refl

-- ---- the end of the input

pub seen_trailing : {K X : Type 0} (L : Language X) (trailing : X → Reason) (k : K) (x : X) (s : Option (Ahead X)) → looking s ≡ then_left (Some x) s → IsCause (errors.Text (fault_at L (proper x) (trailing x))) (reading L (the_end trailing) k s)
unfolding looking then_left reading the_end IsCause
seen_trailing L trailing k x None h = tt
seen_trailing {X = X} L trailing k x (Some s) h = by s.tokens s.finish h
  where
    by : (ts : List (Terminal X Place)) (g : Finish _) → Some (look_result ts g s) ≡ Some (Ok (Some x, s)) → result_of L g (take_token (λ t. end_of trailing t) ts) ≡ Err (errors.Text (fault_at L (proper x) (trailing x)))
    by [] g e = absurd cc
    by (end p ∷ ts) g e = let m = ok_first (None, s) (Some x, s) e in absurd cc
    by (proper y ∷ ts) g e = let m = ok_first (Some y, s) (Some x, s) e in let n : y ≡ x = cc in rw n refl

pub seen_end : {K X : Type 0} (L : Language X) (trailing : X → Reason) (k : K) (w : Window) (s t : Option (Ahead X)) → t ≡ s → IsEnd w t → reading L (the_end trailing) k s ≡ then_left tt (emptied t)
unfolding reading the_end then_left emptied IsEnd
seen_end L trailing k w None t e h = rw e refl
seen_end L trailing k w (Some s) None e h = absurd cc
seen_end L trailing k w (Some s) (Some t) e h = let f : t ≡ s = cc in rw (← f, h) refl

end_as_seen : {X : Type 0} (L : Language X) (trailing : X → Reason) (e : ReadError) (ts : List (Terminal X Place)) (f : Finish _) (s : Ahead X) → look_result ts f s ≡ Err e → result_of L f (take_token (λ t. end_of trailing t) ts) ≡ Err e
end_as_seen L trailing e [] f s h = let g : finish_error f ≡ e = cc in ap Err g
end_as_seen L trailing e (end p ∷ ts) f s h = absurd cc
end_as_seen L trailing e (proper x ∷ ts) f s h = absurd cc

pub cause_ending : {K X : Type 0} (e : ReadError) (L : Language X) (trailing : X → Reason) (k : K) (s : Option (Ahead X)) → IsCause e (looking s) → IsCause e (reading L (the_end trailing) k s)
unfolding looking IsCause reading the_end
cause_ending e L trailing k None h = tt
cause_ending errors.NoMemory L trailing k (Some s) h = tt
cause_ending errors.ReadFault L trailing k (Some s) h = tt
cause_ending errors.Spent L trailing k (Some s) h = absurd h
cause_ending (errors.Text t) L trailing k (Some s) h = end_as_seen L trailing (errors.Text t) s.tokens s.finish s h
cause_ending errors.TooLong L trailing k (Some s) h = end_as_seen L trailing errors.TooLong s.tokens s.finish s h

-- for a call that takes the end of the input
pub ruleset endings = (seen_trailing, seen_end, cause_ending, near_text, skip_none)

-- ---- the exits of looking

known_looking : {X : Type 0} (x : X) (w : Window) (s t : Option (Ahead X)) → TellsKnown s (Ok (Some x)) w t → (looking s ≡ then_left (Some x) (option_map (behind (Some x)) t)) × (option_map (behind (Some x)) t ≡ s)
unfolding looking then_left
known_looking x w None t h = rw h (refl, refl)
known_looking x w (Some s) None h = absurd h
known_looking x w (Some s) (Some t) h = rw h (refl, refl)

known_end : {X : Type 0} (w : Window) (s t : Option (Ahead X)) → TellsKnown s (Ok None) w t → (looking s ≡ then_left None t) × (t ≡ s) × IsEnd w t
unfolding looking then_left IsEnd
known_end w None t h = rw h (refl, refl, tt)
known_end w (Some s) None h = absurd h
known_end w (Some s) (Some t) h = (rw (h.1, h.0) refl, ap Some h.1, h.1 ∙ h.0)

known_error : {X : Type 0} (e : ReadError) (w : Window) (s t : Option (Ahead X)) → TellsKnown s (Err e) w t → IsCause e (looking s)
unfolding looking IsCause
known_error e w None t h = tt
known_error e w (Some s) None h = absurd h
known_error (errors.Text f) w (Some s) (Some t) h = rw h refl
known_error errors.TooLong w (Some s) (Some t) h = rw h refl
known_error errors.ReadFault w (Some s) (Some t) h = tt
known_error errors.NoMemory w (Some s) (Some t) h = tt
known_error errors.Spent w (Some s) (Some t) h = absurd h

pub spent_looks : {K X : Type 0} (e : ReadError) (L : Language X) (c : Reader K X) (i : Supply) → c.spent ≡ true → IsCause e (looking (stream L c i))
unfolding stream_of looking IsCause
spent_looks e L c i h = rw h tt

seen_ahead : {K X : Type 0} (L : Language X) (w : Window) (x : X) (k : K) (i : Supply) → looking (stream L (reader w (Some x) k false) i) ≡ then_left (Some x) (stream L (reader w (Some x) k false) i)
unfolding stream_of looking then_left
seen_ahead {X = X} L w x k i = by (tokens_ahead L w i)
  where
    by : (s : Option (Ahead X)) → looking (option_map (behind (Some x)) s) ≡ then_left (Some x) (option_map (behind (Some x)) s)
    by None = refl
    by (Some s) = refl

stream_with : {K X : Type 0} (L : Language X) (w : Window) (x : X) (k : K) (i : Supply) → stream L (reader w (Some x) k false) i ≡ option_map (behind (Some x)) (tokens_ahead L w i)
unfolding stream_of
stream_with L w x k i = refl

-- a token was looked at before
pub looks_ahead : {K X : Type 0} (L : Language X) (a : Reader K X) (w : Window) (h : Option X) (k : K) (b : Bool) (i : Supply) → reader w h k b ≡ a → b ≡ false → is_some h ≡ true → Looks L (Ok true) a a i i
looks_ahead L a w None k b i e live some = absurd cc
looks_ahead L a w (Some x) k b i e live some = rw (← e, live) (record {
  value = (seen_ahead L w x k i, refl, λ f. absurd cc, (refl, refl, omega arith));
  error = tt;
  moves = still w i;
  unspent = refl;
  spent = tt;
  spends = refl;
  cause = tt;
  near = tt;
})

-- a token is read: o and n are the windows of the reader of tokens before and after, where it was not spent before
module _ {K X : Type 0} (L : Language X) (a : Reader K X) (o n : Window) (p q : Bool) (h : Option X) (k : K) (b : Bool) (i j : Supply) (e : reader o h k b ≡ a) (live : b ≡ false) (none : h ≡ None) (fresh : p ≡ false) where
  pub looks_next : (x : X) → ReadsToken L (Ok (Some x)) o p n q i j → Looks L (Ok true) a (reader n (Some x) k false) i j
  looks_next x r = rw (← e, live, none) (let l = known_looking x n (tokens_ahead L o i) (tokens_ahead L n j) (r.told fresh) in record {
    value = (
      ap looking (stream_of_tokens L (reader o None k false) i refl refl) ∙ l.0 ∙ ap (then_left (Some x)) (sym (stream_with L n x k j)),
      refl,
      λ f. absurd cc,
      (stream_with L n x k j ∙ l.1 ∙ sym (stream_of_tokens L (reader o None k false) i refl refl), refl, room_seen o n x k false false r.shorter.0 r.shorter.1),
    );
    error = tt;
    moves = r.moves;
    unspent = refl;
    spent = tt;
    spends = refl;
    cause = tt;
    near = tt;
  })

  pub looks_end : ReadsToken L (Ok None) o p n q i j → Looks L (Ok false) a (reader n h k false) i j
  looks_end r = rw (← e, live, none) (let l = known_end n (tokens_ahead L o i) (tokens_ahead L n j) (r.told fresh) in
      let there : stream L (reader n None k false) j ≡ tokens_ahead L n j = stream_of_tokens L (reader n None k false) j refl refl in record {
        value = (
          ap looking (stream_of_tokens L (reader o None k false) i refl refl) ∙ l.0 ∙ ap (then_left None) (sym there),
          refl,
          λ f. (rw there l.2, r.after_token, r.ended),
          (there ∙ l.1 ∙ sym (stream_of_tokens L (reader o None k false) i refl refl), refl, room_end X o n k false false r.moves.place),
        );
        error = tt;
        moves = r.moves;
        unspent = refl;
        spent = tt;
        spends = refl;
        cause = tt;
        near = tt;
      })

  pub looks_error : (f : ReadError) → ReadsToken L (Err f) o p n q i j → Looks L (Err f) a (reader n h k true) i j
  looks_error f r = rw (← e, live, none) (record {
    value = tt;
    error = rw (stream_of_tokens L (reader o None k false) i refl refl) (known_error f n (tokens_ahead L o i) (tokens_ahead L n j) (r.told fresh));
    moves = r.moves;
    unspent = tt;
    spent = (λ s. let t = sym (r.spent.0 s) ∙ fresh in absurd cc, λ s. absurd cc);
    spends = refl;
    cause = r.cause;
    near = r.after_error;
  })

-- ---- a look, and a test of the token ahead

pub looks_for_token : {K X : Type 0} (L : Language X) (f : X → Bool) (x : X) (b r : Bool) (a c : Reader K X) (i j : Supply) → Looks L (Ok r) a c i j → Some x ≡ c.ahead → b ≡ f x → LooksFor L f (Ok b) a c i j
looks_for_token L f x b r a c i j h l e = rw e (record {
  value = (seen_next f x (stream L c j) (stream L c j) (ap looking h.value.3.0 ∙ h.value.0 ∙ ap (λ z. then_left z (stream L c j)) (sym l)), h.value.3);
  error = tt;
  moves = h.moves;
  unspent = h.unspent;
  spent = tt;
  spends = h.spends;
  cause = tt;
  near = tt;
})

-- for a call that looks whether a token that fits is next
pub ruleset looks_for = (seen_next, seen_none)
