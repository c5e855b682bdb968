-- The next token of a reader of parts is that of its reader of tokens.
use Rattle.std.proofs.Common.{◌≡◌, Bool, true, false, Option, Some, None, is_some, Ok, Err, refl, sym, ap, ◌∙◌, option_map, IsTrue}
use Rattle.nl_base.specs.declared.fault.ReadError.{ReadError}
use Rattle.nl_base.specs.declared.fault.ReadError.TheVariants as errors
use Rattle.nl_base.specs.declared.place.Place.{Place}
use Rattle.nl_base.specs.declared.fault.Reason.TheVariants.{EndOfInput}
use Rattle.nl_bytes.specs.Bytes.{Window}
use Rattle.readers.specs.Parts.{PartOf, any}
use Rattle.nl_io.specs.Sources.{Supply}
use Rattle.nl_bytes.specs.Tokens.{Ahead, Language, ReadsToken, TellsKnown, tokens_ahead}
use Rattle.readers.specs.Readers.{Reader, Calls, Reads, same, end_fault, stream, stream_of, behind, reading, then_left, IsCause}
use Rattle.readers.proofs.Moving.{near_text, near_spent, room_ahead, room_token, reader, still}

-- a reader that is spent tells nothing
pub spent_tells : {K X Y : Type 0} (e : ReadError) (L : Language X) (p : PartOf K X Y) (k : K) (c : Reader K X) (i : Supply) → c.spent ≡ true → IsCause e (reading L p k (stream L c i))
unfolding stream_of reading IsCause
spent_tells e L p k c i h = rw h tt

-- with no token ahead
pub stream_of_tokens : {K X : Type 0} (L : Language X) (c : Reader K X) (i : Supply) → c.spent ≡ false → c.ahead ≡ None → stream L c i ≡ tokens_ahead L c.window i
unfolding stream_of
stream_of_tokens {X = X} L c i h n = rw (h, n) (by (tokens_ahead L c.window i))
  where
    by : (s : Option (Ahead X)) → option_map (behind None) s ≡ s
    by None = refl
    by (Some s) = refl

told_next : {K X : Type 0} (L : Language X) (k : K) (x : X) (w : Window) (s t : Option (Ahead X)) → TellsKnown s (Ok (Some x)) w t → reading L any k s ≡ then_left x t
unfolding reading then_left any
told_next L k x w None t h = rw h refl
told_next L k x w (Some s) None h = absurd h
told_next L k x w (Some s) (Some t) h = rw h refl

told_end : {K X : Type 0} (L : Language X) (k : K) (w : Window) (s t : Option (Ahead X)) → TellsKnown s (Ok None) w t → IsCause (errors.Text (end_fault w)) (reading L any k s)
unfolding reading IsCause any
told_end L k w None t h = tt
told_end L k w (Some s) None h = absurd h
told_end L k w (Some s) (Some t) h = rw h.0 refl

told_error : {K X : Type 0} (e : ReadError) (L : Language X) (k : K) (w : Window) (s t : Option (Ahead X)) → TellsKnown s (Err e) w t → IsCause e (reading L any k s)
unfolding reading IsCause any
told_error e L k w None t h = tt
told_error e L k w (Some s) None h = absurd h
told_error (errors.Text f) L k w (Some s) (Some t) h = rw h refl
told_error errors.TooLong L k w (Some s) (Some t) h = rw h refl
told_error errors.ReadFault L k w (Some s) (Some t) h = tt
told_error errors.NoMemory L k w (Some s) (Some t) h = tt
told_error errors.Spent L k w (Some s) (Some t) h = absurd h

pub taken_ahead : {K X : Type 0} (L : Language X) (k : K) (x : X) (c d : Reader K X) (i : Supply) → c.spent ≡ false → c.ahead ≡ Some x → d.window ≡ c.window → d.ahead ≡ None → d.spent ≡ false → reading L any k (stream L c i) ≡ then_left x (stream L d i)
unfolding stream_of reading then_left any
taken_ahead {X = X} L k x c d i h a w n s = rw (h, a, w, n, s) (by (tokens_ahead L c.window i))
  where
    by : (s : Option (Ahead X)) → reading L any k (option_map (behind (Some x)) s) ≡ then_left x (option_map (behind None) s)
    by None = refl
    by (Some s) = refl

-- ---- the exits of a call that takes the next token; what the reader is made of is apart

-- a call of a reader that was spent
pub calls_spent : {K X V : Type 0} {Value : V → Type 0} {Error : ReadError → Type 0} (a : Reader K X) (i : Supply) → Error errors.Spent → a.spent ≡ true → Calls (Err errors.Spent) a a i i Value Error
calls_spent a i h s = record { value = tt; error = h; moves = still a.window i; unspent = tt; spent = (λ _. s, λ _. refl); spends = s; cause = λ e. absurd cc; near = near_spent a.window }

pub reads_spent : {K X V Y : Type 0} (L : Language X) (view : V → Y) (part : PartOf K X Y) (a : Reader K X) (i : Supply) → a.spent ≡ true → Reads L view part (Err errors.Spent) a a i i
reads_spent L view part a i s = calls_spent a i (spent_tells errors.Spent L part a.context a i s) s

-- the token that was looked at is taken
pub takes_ahead : {K X : Type 0} (L : Language X) (a : Reader K X) (w : Window) (h m : Option X) (x : X) (k : K) (b : Bool) (i : Supply) → reader w h k b ≡ a → b ≡ false → h ≡ Some x → m ≡ None → Reads L same any (Ok x) a (reader w m k b) i i
takes_ahead L a w h m x k b i e live some empty = rw (← e, live, some, empty) (record {
  moves = still w i;
  value = (taken_ahead L k x (reader w (Some x) k false) (reader w None k false) i refl refl refl refl refl, refl, room_ahead w x k false false);
  error = tt;
  unspent = refl;
  spent = tt;
  spends = refl;
  cause = tt;
  near = tt;
})

pub not_spent : (b d : Bool) → (IsTrue b → IsTrue d) → d ≡ false → b ≡ false
not_spent true d h e = let f = sym (h refl) ∙ e in absurd cc
not_spent false d h e = refl

pub none_of : {X : Type 0} (h : Option X) → ((x : X) → h ≡ Some x → ⊥) → h ≡ None
none_of None h = refl
none_of (Some x) h = absurd (h x refl)

pub none_if : {X : Type 0} (h : Option X) (b : Bool) → b ≡ is_some h → b ≡ false → h ≡ None
none_if None b e f = refl
none_if (Some x) b e f = let g : true ≡ false = sym e ∙ f in absurd cc

-- a token is read: o and n are the windows of the reader of tokens before and after, where it was not spent before;
-- h and m are what was ahead before and after
module _ {K X : Type 0} (L : Language X) (a : Reader K X) (o n : Window) (p q : Bool) (h m : Option X) (k : K) (b : Bool) (i j : Supply) (e : reader o h k b ≡ a) (live : b ≡ false) (none : h ≡ None) (fresh : p ≡ false) (empty : m ≡ None) where
  pub takes_next : (x : X) → ReadsToken L (Ok (Some x)) o p n q i j → Reads L same any (Ok x) a (reader n m k false) i j
  takes_next x r = rw (← e, live, none, empty) (record {
    moves = r.moves;
    value = (
      ap (reading L any k) (stream_of_tokens L (reader o None k false) i refl refl)
          ∙ told_next L k x n (tokens_ahead L o i) (tokens_ahead L n j) (r.told fresh)
          ∙ ap (then_left x) (sym (stream_of_tokens L (reader n None k false) j refl refl)),
      refl,
      room_token X o n k false false r.shorter.0 r.shorter.1,
    );
    error = tt;
    unspent = refl;
    spent = tt;
    spends = refl;
    cause = tt;
    near = tt;
  })

  pub takes_end : (at : Place) → ReadsToken L (Ok None) o p n q i j → at ≡ n.place → Reads L same any (Err (errors.Text (record { place = at; stop = at.offset; reason = EndOfInput }))) a (reader n m k true) i j
  takes_end at r l = rw (← e, live, none, empty, l) (record {
    moves = r.moves;
    value = tt;
    error = rw (stream_of_tokens L (reader o None k false) i refl refl) (told_end L k n (tokens_ahead L o i) (tokens_ahead L n j) (r.told fresh));
    unspent = tt;
    spent = (λ s. absurd cc, λ s. absurd cc);
    spends = refl;
    cause = λ s. absurd cc;
    near = near_text n (end_fault n) r.after_token;
  })

  pub takes_error : (f : ReadError) → ReadsToken L (Err f) o p n q i j → Reads L same any (Err f) a (reader n m k true) i j
  takes_error f r = rw (← e, live, none, empty) (record {
    moves = r.moves;
    value = tt;
    error = rw (stream_of_tokens L (reader o None k false) i refl refl) (told_error f L k n (tokens_ahead L o i) (tokens_ahead L n j) (r.told fresh));
    unspent = tt;
    spent = (λ s. let t = sym (r.spent.0 s) ∙ fresh in absurd cc, λ s. absurd cc);
    spends = refl;
    cause = r.cause;
    near = r.after_error;
  })
