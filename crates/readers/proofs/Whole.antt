-- A whole input is read as its value, or refused by its first fault.
use Rattle.std.proofs.Common.{◌≡◌, ℕ, ◌+◌, ◌≤◌, true, false, List, [], Option, Some, None, IfSome, Result, Ok, Err, refl, sym, ap, subst, ◌∙◌, arith}
use Rattle.grammar.specs.Part.{gives, sequence}
use Rattle.grammar.specs.Reading.{Stop, refused, ended, read}
use Rattle.grammar.specs.Clear.{IsClosed, IsLive, IsClear}
use Rattle.grammar.specs.Whole.{Terminal, end, Finish, Done, Bad, Over, the_end, whole, IsText}
use Rattle.grammar.proofs.Whole.{text_is, fault_is, bad_is, cut_is, live_whole, closed_whole}
use Rattle.nl_base.specs.Place.{place_at_start}
use Rattle.nl_base.specs.declared.place.Place.{Place}
use Rattle.nl_base.specs.declared.fault.TextFault.{TextFault}
use Rattle.nl_base.specs.declared.fault.Reason.{Reason}
use Rattle.nl_base.specs.declared.fault.ReadError.{ReadError}
use Rattle.nl_base.specs.declared.fault.ReadError.TheVariants as errors
use Rattle.nl_bytes.specs.Bytes.{Window, given}
use Rattle.nl_bytes.specs.declared.bytes.TheConstants.{LIMIT}
use Rattle.readers.specs.Parts.{PartOf}
use Rattle.nl_io.specs.Sources.{Supply}
use Rattle.nl_bytes.specs.Tokens.{Ahead, Language, NearError, excess, skip, only_end}
use Rattle.readers.specs.Readers.{Reader, ReadsWhole, Ends, stream, stream_of, reading, then_left, on, result_of, finish_error, fault_at, emptied, IsEnd, IsCause}
use Rattle.readers.specs.Texts.{tokens_of, Comes, TakesTo, ReadsText}
use Rattle.readers.proofs.Moving.{skip_skip}
use Rattle.readers.proofs.Reading.{reading_then, reading_gives, on_left, cause_on}

-- a new reader in a context
abbrev pub fresh : {K : Type 0} (X : Type 0) → K → Reader K X
fresh X k = record { window = record { held = []; place = place_at_start }; ahead = None; context = k; spent = false }

takes_to : (e : ReadError) (w : Window) → NearError e w → TakesTo e (given w)
unfolding NearError
takes_to (errors.Text f) w h = h
takes_to errors.TooLong w h = tt
takes_to errors.NoMemory w h = tt
takes_to errors.ReadFault w h = tt
takes_to errors.Spent w h = tt

-- from a new reader on no more is taken
taken_within : (w : Window) → excess w ≤ excess (record { held = []; place = place_at_start }) → given w ≤ LIMIT + 4096
unfolding excess
taken_within w h = omega (arith, h)

-- a part that is live, and clear where the end of the input follows it
module _ {K X A : Type 0} (L : Language X) (trailing : X → Reason) (k : K) (part : PartOf K X A) (live : IsLive k part) (clear : IsClear k part (λ _ t. (p : Place) × (t ≡ end p))) where
  abbrev text : PartOf K X A
  text = whole trailing part

  lives : IsLive k text
  lives = live_whole trailing k part place_at_start live

  closed : IsClosed k text
  closed = closed_whole trailing k part (λ _ t. (p : Place) × (t ≡ end p)) (λ v at. (at, refl)) clear

  last : Terminal X Place
  last = end place_at_start

  stops_so : (s : Ahead X) (e : ReadError) (r : Result (A × List (Terminal X Place)) (Stop (Terminal X Place) Reason)) → read k text s.tokens ≡ r → result_of L s.finish r ≡ Err e → (e ≡ errors.Spent → ⊥) → Comes L trailing k part e s
  stops_so s e (Ok v) m h n = absurd cc
  stops_so s e (Err (refused x reason)) m h n =
      let g : errors.Text (fault_at L x reason) ≡ e = cc in
      subst (λ z. Comes L trailing k part z s) g (fault_is (fault_at L) k text lives last closed s x reason m)
  stops_so s e (Err ended) m h n = let g : finish_error s.finish ≡ e = cc in subst (λ z. Comes L trailing k part z s) g (by s.finish refl (λ z. n (sym g ∙ z)))
    where
      by : (f : Finish TextFault) → s.finish ≡ f → (finish_error f ≡ errors.Spent → ⊥) → Comes L trailing k part (finish_error f) s
      by Done d n = absurd (n refl)
      by (Bad f) d n = bad_is (fault_at L) k text lives last closed s f m d
      by Over d n = cut_is (fault_at L) k text lives last closed s m d

  -- the text is refused
  text_fails : (s : Ahead X) (e : ReadError) → IsCause e (reading L text k (Some s)) → Comes L trailing k part e s
  unfolding reading IsCause
  text_fails s errors.NoMemory h = tt
  text_fails s errors.ReadFault h = tt
  text_fails s errors.Spent h = absurd h
  text_fails s (errors.Text f) h = stops_so s (errors.Text f) (read k text s.tokens) refl h (λ z. absurd cc)
  text_fails s errors.TooLong h = stops_so s errors.TooLong (read k text s.tokens) refl h (λ z. absurd cc)

  reads_so : (s t : Ahead X) (v : A) (w : Place) (r : Result (A × List (Terminal X Place)) (Stop (Terminal X Place) Reason)) → read k text s.tokens ≡ r → t ≡ only_end X w → Some (result_of L s.finish r) ≡ Some (Ok (v, record { tokens = []; finish = t.finish })) → IsText k text s v
  reads_so s t v w (Err stop) m d h = absurd cc
  reads_so s t v w (Ok p) m d h =
      let e : (p.0, record { tokens = p.1; finish = s.finish }) ≡ (v, record { tokens = []; finish = t.finish }) = cc in
      let g : p ≡ (v, []) = ap (λ (z : A × Ahead X). (z.0, z.1.tokens)) e in
      text_is (fault_at L) k text lives last closed s v (m ∙ ap Ok g) (ap (λ (z : A × Ahead X). z.1.finish) e ∙ ap (λ (z : Ahead X). z.finish) d)

  -- the text is read
  text_reads : (s : Ahead X) (u : Option (Ahead X)) (v : A) (w : Window) → IsEnd w u → reading L text k (Some s) ≡ then_left v (emptied u) → IsText k text s v
  unfolding reading then_left emptied IsEnd
  text_reads s None v w d h = absurd cc
  text_reads s (Some t) v w d h = reads_so s t v w.place (read k text s.tokens) refl d h

  -- ---- from a new reader on

  start : (i : Supply) (bs : List ℕ) → i.left ≡ Some bs → stream L (fresh X k) i ≡ Some (tokens_of L bs)
  unfolding stream_of
  start i bs e = rw e refl

  at_start : (i : Supply) (Q : Ahead X → Type 0) → ((s : Ahead X) → stream L (fresh X k) i ≡ Some s → Q s) → IfSome i.left (λ bs. Q (tokens_of L bs))
  at_start i Q all = by i.left refl
    where
      by : (left : Option (List ℕ)) → i.left ≡ left → IfSome left (λ bs. Q (tokens_of L bs))
      by None e = tt
      by (Some bs) e = all (tokens_of L bs) (start i bs e)

  -- ---- the calls of a reader of whole texts: it reads the part, and takes the end of the input

  abbrev ending : A → PartOf K X A
  ending v = sequence (the_end trailing) (λ _. gives v)

  -- the end of the input is the same in each context
  any_context : (j : K) (s : Option (Ahead X)) → reading L (the_end trailing) j s ≡ reading L (the_end trailing) k s
  unfolding reading the_end
  any_context j s = refl

  -- what the whole reads as, by what the part reads as
  part_first : (s : Option (Ahead X)) → reading L text k s ≡ on L ending k (reading L part k s)
  unfolding whole
  part_first s = reading_then L part ending k s

  end_last : (s u : Option (Ahead X)) (v : A) → reading L part k s ≡ then_left v u → reading L text k s ≡ on L (λ _. gives v) k (reading L (the_end trailing) k u)
  end_last s u v e = part_first s ∙ ap (on L ending k) e ∙ on_left L ending k v u ∙ reading_then L (the_end trailing) (λ _. gives v) k u

  module _ {V : Type 0} (view : V → A) where
    pub part_fails : (e : ReadError) (b : Reader K X) (i j : Supply) → ReadsWhole L view part (Err e) (fresh X k) b i j → ReadsText L trailing k view part (Err e) i j
    part_fails e b i j h = record {
      value = tt;
      ended = tt;
      error = at_start i (Comes L trailing k part e) (λ s m. text_fails s e (subst (λ (z : Option (Ahead X)). IsCause e (reading L text k z)) m
          (rw (part_first (stream L (fresh X k) i)) (cause_on e L ending k (reading L part k (stream L (fresh X k) i)) h.error))));
      never_spent = λ s. let t = h.spent.0 s in absurd cc;
      cause = h.cause;
      faults = h.moves.faults;
      taken = given b.window;
      left = h.moves.left;
      near = takes_to e b.window h.near;
      within = taken_within b.window h.moves.within;
    }

    pub end_fails : (x : V) (e : ReadError) (b c : Reader K X) (i j m : Supply) → ReadsWhole L view part (Ok x) (fresh X k) b i j → Ends L trailing (Err e) b c j m → ReadsText L trailing k view part (Err e) i m
    end_fails x e b c i j m h n = record {
      value = tt;
      ended = tt;
      error = at_start i (Comes L trailing k part e) (λ s d. text_fails s e (subst (λ (z : Option (Ahead X)). IsCause e (reading L text k z)) d
          (rw (end_last (stream L (fresh X k) i) (stream L b j) (view x) h.value, ← any_context b.context (stream L b j)) (cause_on e L (λ _. gives (view x)) k (reading L (the_end trailing) b.context (stream L b j)) n.error))));
      never_spent = λ s. let t : true ≡ false = sym (n.spent.0 s) ∙ h.spends in absurd cc;
      cause = λ s. let r = n.cause s in omega (arith, h.moves.faults, r);
      faults = omega (arith, h.moves.faults, n.moves.faults);
      taken = given c.window;
      left = n.moves.left ∙ ap (skip (given c.window) (given b.window)) h.moves.left ∙ skip_skip 0 (given b.window) (given c.window) i.left (omega arith) n.moves.taken;
      near = takes_to e c.window n.near;
      within = taken_within c.window (omega (arith, h.moves.within, n.moves.within));
    }

    pub text_is_read : (x : V) (b c : Reader K X) (i j m : Supply) → ReadsWhole L view part (Ok x) (fresh X k) b i j → Ends L trailing (Ok tt) b c j m → ReadsText L trailing k view part (Ok x) i m
    text_is_read x b c i j m h n = record {
      value = at_start i (λ s. IsText k text s (view x)) (λ s d. text_reads s (stream L c m) (view x) c.window n.value.1 (subst (λ (z : Option (Ahead X)). reading L text k z ≡ then_left (view x) (emptied (stream L c m))) d
          (end_last (stream L (fresh X k) i) (stream L b j) (view x) h.value ∙ ap (on L (λ _. gives (view x)) k) (sym (any_context b.context (stream L b j)) ∙ n.value.0)
          ∙ on_left L (λ _. gives (view x)) k tt (emptied (stream L c m)) ∙ reading_gives L (view x) k (emptied (stream L c m)))));
      ended = n.value.2;
      error = tt;
      never_spent = tt;
      cause = tt;
      faults = omega (arith, h.moves.faults, n.moves.faults);
      taken = given c.window;
      left = n.moves.left ∙ ap (skip (given c.window) (given b.window)) h.moves.left ∙ skip_skip 0 (given b.window) (given c.window) i.left (omega arith) n.moves.taken;
      near = tt;
      within = taken_within c.window (omega (arith, h.moves.within, n.moves.within));
    }

    -- the same from a reader that is a new one
    pub part_fails_from : (a : Reader K X) → a ≡ fresh X k → (e : ReadError) (b : Reader K X) (i j : Supply) → ReadsWhole L view part (Err e) a b i j → ReadsText L trailing k view part (Err e) i j
    part_fails_from a n e b i j h = part_fails e b i j (subst (λ (z : Reader K X). ReadsWhole L view part (Err e) z b i j) n h)

    pub end_fails_from : (a : Reader K X) → a ≡ fresh X k → (x : V) (e : ReadError) (b c : Reader K X) (i j m : Supply) → ReadsWhole L view part (Ok x) a b i j → Ends L trailing (Err e) b c j m → ReadsText L trailing k view part (Err e) i m
    end_fails_from a n x e b c i j m h d = end_fails x e b c i j m (subst (λ (z : Reader K X). ReadsWhole L view part (Ok x) z b i j) n h) d

    pub text_is_read_from : (a : Reader K X) → a ≡ fresh X k → (x : V) (b c : Reader K X) (i j m : Supply) → ReadsWhole L view part (Ok x) a b i j → Ends L trailing (Ok tt) b c j m → ReadsText L trailing k view part (Ok x) i m
    text_is_read_from a n x b c i j m h d = text_is_read x b c i j m (subst (λ (z : Reader K X). ReadsWhole L view part (Ok x) z b i j) n h) d
