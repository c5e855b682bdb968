-- The calls that take or leave the name or the keyword that is next, where the bytes that are held show it.
use Rattle.std.proofs.Common.{◌≡◌, ◌∙◌, sym, ap, subst, refl, ℕ, ◌<◌, ◌≤◌, Bool, true, false, cond, not, ◌&&◌, List, [], ◌∷◌, length, Option, Some, None, is_none, is_some, Result, Ok, Err, IsErrAnd, arith}
use Rattle.std.proofs.lemmas.Result.{err_from_is_err_and}
use Rattle.grammar.specs.Part.{Glance, takes, leaves}
use Rattle.grammar.specs.Reading.{take_token}
use Rattle.grammar.specs.Whole.{Terminal, proper, end}
use Rattle.nl_base.specs.declared.place.Place.{Place}
use Rattle.nl_base.specs.declared.fault.Reason.{Reason}
use Rattle.nl_base.specs.declared.fault.ReadError.{ReadError}
use Rattle.nl_bytes.specs.Bytes.{Window}
use Rattle.readers.specs.Parts.{of_token, any, one, maybe}
use Rattle.nl_io.specs.Sources.{Supply}
use Rattle.nl_bytes.specs.Tokens.{Ahead, Language, IsNear}
use Rattle.readers.specs.Readers.{Reader, Reads, TakesNext, LooksFor, IsNext, FirstFits, same, result_of, reading, then_left, stream}
use Rattle.readers.proofs.Choices.{took}
use Rattle.readers.proofs.Looking.{ok_first}
use Rattle.readers.proofs.Moving.{still, near_no_memory}
use Rattle.readers.proofs.Reading.{no_memory}
use Rattle.readers.proofs.Taking.{takes_next}
use Rattle.vlog_tokens.specs.declared.token.VFound.{VFound}
use Rattle.vlog_tokens.specs.declared.token.VToken.{VToken}
use Rattle.vlog_tokens.specs.declared.token.VToken.TheVariants.{Name, Keyword}
use Rattle.vlog_tokens.specs.Held as tokens
use Rattle.vlog_tokens.specs.Items.{word_token}
use Rattle.vlog_tokens.specs.Keywords.{is_keyword}
use Rattle.vlog_tokens.specs.Language.{vlog}
use Rattle.vlog_values.specs.Values.{IsName}
use Rattle.vlog_tokens.proofs.HeldWords.{word_reads, held_word_name}
use Rattle.vlog_exprs.specs.Language.{NoContext, Vlog}
use Rattle.vlog_exprs.specs.Calls.{held_word, past_word, TakesHeld}
use Rattle.vlog_exprs.specs.Reasons.{at_mark, at_group, at_name, at_choice, choice_of, choice_by, meant_by, glance_of}
use Rattle.vlog_exprs.proofs.OneToken.{one_says}
use Rattle.vlog_exprs.proofs.HeldMarks.{left_next}

-- ---- what is held is the next token

-- a token is taken as the next one
pub record HeldTaken (t : VToken) (a b : Reader NoContext VFound) (i : Supply) : Type 0 where
  pub token : VFound
  pub is : token.token ≡ t
  pub reads : Reads vlog same any (Ok token) a b i i
  pub near : IsNear b.window token.stop

some_word : (w : List ℕ) → 0 < length w → w ≡ [] → ⊥
some_word [] some e = absurd (omega (arith, some))
some_word (x ∷ xs) some e = absurd cc

-- a reader of which a word is held is not spent, and has looked at no token
pub word_live : (a : Reader NoContext VFound) → 0 < length (held_word a) → (a.spent ≡ false) × (a.ahead ≡ None) × (held_word a ≡ tokens.held_word a.window)
unfolding held_word
word_live a some = by a.spent a.ahead (tokens.held_word a.window) (some_word _ some)
  where
    by : (spent : Bool) (ahead : Option VFound) (held : List ℕ) → (cond (not spent && is_none ahead) held [] ≡ [] → ⊥) → (spent ≡ false) × (ahead ≡ None) × (cond (not spent && is_none ahead) held [] ≡ held)
    by true ahead held some = absurd (some refl)
    by false (Some x) held some = absurd (some refl)
    by false None held some = (refl, refl, refl)

pub word_taken : (a : Reader NoContext VFound) → 0 < length (held_word a) → length a.window.held ≤ 4096 → (i : Supply) → HeldTaken (word_token (held_word a)) a (past_word a) i
word_taken a some small i =
    let l = word_live a some in
    let inside = subst (λ (w : List ℕ). 0 < length w) l.2 some in
    let r = word_reads a.window inside small i in
    let read = takes_next vlog a a.window (tokens.past_word a.window) false false a.ahead a.ahead a.context a.spent i i refl l.0 l.1 refl l.1 r.0 r.2 in
    record {
      token = r.0;
      is = r.1 ∙ ap word_token (sym l.2);
      reads = subst (λ (b : Bool). Reads vlog same any (Ok r.0) a (record { window = tokens.past_word a.window; ahead = a.ahead; context = a.context; spent = b }) i i) (sym l.0) read;
      near = r.2.after_token;
    }

-- the same of what a reader is made of
pub inside_word : (w : Window) (h : Option VFound) (k : NoContext) (b : Bool) (a : Reader NoContext VFound) → record { window = w; ahead = h; context = k; spent = b } ≡ a → (count : ℕ) → 0 < count → count ≡ length (held_word a) → (count ≡ length (tokens.held_word w)) × (h ≡ None)
inside_word w h k b a e count some is =
    let there : count ≡ length (held_word (record { window = w; ahead = h; context = k; spent = b })) = is ∙ ap (λ r. length (held_word r)) (sym e) in
    let l = word_live (record { window = w; ahead = h; context = k; spent = b }) (omega (arith, some, there)) in
    (there ∙ ap (λ (w : List ℕ). length w) l.2, l.1)

-- a word that is held is some, where its bytes are some
pub some_held : (a : Reader NoContext VFound) (w : List ℕ) → w ≡ held_word a → (length w ≡ 0 → ⊥) → 0 < length (held_word a)
some_held a w e some = rw (← e) (by w some)
  where
    by : (w : List ℕ) → (length w ≡ 0 → ⊥) → 0 < length w
    by [] some = absurd (some refl)
    by (x ∷ xs) some = omega arith

-- such a word keeps what a name does
pub held_some_is_name : (a : Reader NoContext VFound) (w text : List ℕ) → w ≡ held_word a → 0 < length (held_word a) → text ≡ w → IsName text
held_some_is_name a w text e there same =
    let l = word_live a there in
    let inside : 0 < length (tokens.held_word a.window) = subst (λ (w : List ℕ). 0 < length w) l.2 there in
    rw (same, e, l.2) (held_word_name a.window inside)

pub held_is_name : (a : Reader NoContext VFound) (w text : List ℕ) → w ≡ held_word a → (length w ≡ 0 → ⊥) → text ≡ w → IsName text
held_is_name a w text e some same = held_some_is_name a w text e (some_held a w e some) same

-- a word that is no keyword is a name
pub name_is : (w v text : List ℕ) → v ≡ w → text ≡ v → is_keyword v ≡ false → word_token w ≡ Name text
name_is w v text e f k = let plain : is_keyword w ≡ false = ap is_keyword (sym e) ∙ k in rw (plain, f ∙ e) refl

-- ---- calls that need not take it

module _ {V C : Type 0} (view : V → Option C) (f : VToken → Glance C Reason) (a b : Reader NoContext VFound) (some : 0 < length (held_word a)) (small : length a.window.held ≤ 4096) (i : Supply) (y : V) where
  -- the word is taken
  pub word_some : (c : C) → view y ≡ Some c → f (word_token (held_word a)) ≡ takes c → b ≡ past_word a → TakesNext vlog view (λ _ x. f x.token) (Ok y) a b i i
  word_some c v t b-is =
      let m = word_taken a some small i in
      rw b-is (record {
        value = (
          rw v (took vlog (λ _ x. f x.token) a.context m.token c (stream vlog a i) (stream vlog (past_word a) i) m.reads.value.0 (ap f m.is ∙ t)),
          refl,
          omega (arith, m.reads.value.2),
          λ _. m.reads.value.2,
        );
        error = tt;
        moves = m.reads.moves;
        unspent = m.reads.unspent;
        spent = tt;
        spends = m.reads.spends;
        cause = tt;
        near = tt;
      })

  -- the word is left
  pub word_none : view y ≡ None → f (word_token (held_word a)) ≡ leaves → TakesNext vlog view (λ _ x. f x.token) (Ok y) a a i i
  word_none v t =
      let m = word_taken a some small i in
      record {
        value = (
          rw v (left_next vlog (λ _ x. f x.token) a.context m.token (stream vlog a i) (stream vlog (past_word a) i) m.reads.value.0 (ap f m.is ∙ t)),
          refl,
          omega arith,
          λ z. let n : false ≡ true = ap is_some (sym v) ∙ z in absurd cc,
        );
        error = tt;
        moves = still a.window i;
        unspent = m.reads.unspent;
        spent = tt;
        spends = m.reads.unspent;
        cause = tt;
        near = tt;
      }

-- ---- calls that have to take it

-- the word says what is answered
pub word_says : {V : Type 0} (f : VToken → Result V Reason) (a b : Reader NoContext VFound) (v : V) → 0 < length (held_word a) → length a.window.held ≤ 4096 → (i : Supply) → f (word_token (held_word a)) ≡ Ok v → b ≡ past_word a → Reads vlog same (one (λ _ x. f x.token)) (Ok v) a b i i
word_says f a b v some small i e b-is =
    let m = word_taken a some small i in
    rw b-is (one_says (λ _ x. f x.token) a (past_word a) i i m.token m.reads m.near (Ok (Ok v)) (Ok v) (past_word a) (sym (ap f m.is ∙ e)) refl refl)

-- ---- what a word says

-- a word is no mark
pub mark_leaves_word : (due : ℕ) (w : List ℕ) → at_mark due (word_token w) ≡ leaves
mark_leaves_word due w = by (is_keyword w)
  where
    by : (t : Bool) → at_mark due (cond t (Keyword w) (Name w)) ≡ leaves
    by true = refl
    by false = refl

-- a word begins no attributes
pub group_leaves_word : (w : List ℕ) → at_group (word_token w) ≡ leaves
group_leaves_word w = by (is_keyword w)
  where
    by : (t : Bool) → at_group (cond t (Keyword w) (Name w)) ≡ leaves
    by true = refl
    by false = refl

-- a keyword has some bytes
pub keyword_some : (w : List ℕ) → is_keyword w ≡ true → 0 < length w
unfolding is_keyword
keyword_some [] k = absurd cc
keyword_some (x ∷ xs) k = omega arith

-- a keyword is no name
pub name_leaves_keyword : (w : List ℕ) → is_keyword w ≡ true → at_name (word_token w) ≡ leaves
name_leaves_keyword w k = rw k refl

-- a word that is none of some keywords is left
pub choice_leaves_word : {A : Type 0} (words : List (List ℕ × A)) (w v : List ℕ) → v ≡ w → None ≡ meant_by words v → at_choice words (word_token w) ≡ leaves
choice_leaves_word words w v is e = by (is_keyword w)
  where
    by : (t : Bool) → at_choice words (cond t (Keyword w) (Name w)) ≡ leaves
    by true = ap glance_of (ap (meant_by words) (sym is) ∙ sym e)
    by false = refl

-- a name is none of some keywords
pub choice_leaves_name : {A : Type 0} (words : List (List ℕ × A)) (w v : List ℕ) → v ≡ w → is_keyword v ≡ false → at_choice words (word_token w) ≡ leaves
choice_leaves_name words w v is k = let plain : is_keyword w ≡ false = ap is_keyword (sym is) ∙ k in rw plain refl

-- one of some keywords is taken
pub choice_takes_word : {A : Type 0} (words : List (List ℕ × A)) (w v : List ℕ) (x : A) → v ≡ w → is_keyword v ≡ true → Some x ≡ meant_by words v → at_choice words (word_token w) ≡ takes x
choice_takes_word words w v x is k e = let word : is_keyword w ≡ true = ap is_keyword (sym is) ∙ k in rw word (ap glance_of (ap (meant_by words) (sym is) ∙ sym e))

-- one of some keywords says its value
pub choice_says_word : {A : Type 0} (words : List (List ℕ × A)) (w v : List ℕ) (x : A) → v ≡ w → is_keyword v ≡ true → Some x ≡ meant_by words v → choice_of words (word_token w) ≡ Ok x
choice_says_word words w v x is k e = let word : is_keyword w ≡ true = ap is_keyword (sym is) ∙ k in rw word (ap (choice_by w) (ap (meant_by words) (sym is) ∙ sym e))

-- ---- a look at the next token

-- the token that is read next fits as it does
pub next_fits : {K X : Type 0} (L : Language X) (f : X → Bool) (k : K) (x : X) (b : Bool) (s t : Option (Ahead X)) → reading L any k s ≡ then_left x t → b ≡ f x → IsNext f b s
unfolding reading any then_left IsNext
next_fits L f k x b None t h e = tt
next_fits L f k x b (Some s) None h e = absurd cc
next_fits {X = X} L f k x b (Some s) (Some t) h e = by s.tokens refl h
  where
    by : (ts : List (Terminal X Place)) → s.tokens ≡ ts → Some (result_of L s.finish (take_token (λ t. of_token (λ x. Ok x) t) ts)) ≡ Some (Ok (x, t)) → FirstFits f b s.tokens
    by [] m h = absurd cc
    by (end p ∷ ts) m h = absurd cc
    by (proper y ∷ ts) m h = let n = ok_first (y, record { tokens = ts; finish = s.finish }) (x, t) h in rw m (e ∙ ap f (sym n))

-- the word that is next is looked at
pub word_looked : (f : VFound → Bool) (a : Reader NoContext VFound) → 0 < length (held_word a) → length a.window.held ≤ 4096 → (i : Supply) (b : Bool) → ((x : VFound) → x.token ≡ word_token (held_word a) → b ≡ f x) → LooksFor vlog f (Ok b) a a i i
word_looked f a some small i b fits =
    let m = word_taken a some small i in
    record {
      value = (next_fits vlog f a.context m.token b (stream vlog a i) (stream vlog (past_word a) i) m.reads.value.0 (fits m.token m.is), (refl, refl, omega arith));
      error = tt;
      moves = still a.window i;
      unspent = m.reads.unspent;
      spent = tt;
      spends = m.reads.unspent;
      cause = tt;
      near = tt;
    }

-- ---- calls that take a name that is held

module _ (a b : Reader NoContext VFound) (i : Supply) where
  -- a name says what is answered
  pub name_says : {V : Type 0} (f : VToken → Result V Reason) (name : List ℕ) (v : V) → TakesHeld (Ok (Some name)) a b → f (Name name) ≡ Ok v → Reads vlog same (one (λ _ x. f x.token)) (Ok v) a b i i
  name_says f name v h e = word_says f a b v h.1 h.2 i (ap f h.0 ∙ e) h.3

  -- the same of a name that need not stand
  pub name_some : {C : Type 0} (f : VToken → Glance C Reason) (name : List ℕ) (c : C) → TakesHeld (Ok (Some name)) a b → f (Name name) ≡ takes c → TakesNext vlog same (λ _ x. f x.token) (Ok (Some c)) a b i i
  name_some f name c h e = word_some same f a b h.1 h.2 i (Some c) c refl (ap f h.0 ∙ e) h.3

  -- there is no memory for the name
  pub name_fails : {V : Type 0} (f : NoContext → VFound → Result V Reason) (e : ReadError) (s : Result V ReadError) → TakesHeld (Err e) a b → IsErrAnd s (λ d. d ≡ e) → Reads vlog same (one f) s a b i i
  name_fails f e s h k =
      let p = err_from_is_err_and s k in
      let l = word_live a h.1 in
      rw (p.1, p.2, h.0, h.2) (record {
        value = tt;
        error = no_memory (reading vlog (one f) a.context (stream vlog a i));
        moves = still a.window i;
        unspent = tt;
        spent = (λ s. absurd cc, λ s. let g = sym l.0 ∙ s in absurd cc);
        spends = refl;
        cause = λ s. absurd cc;
        near = near_no_memory a.window;
      })

  pub name_fails_maybe : {C : Type 0} (f : NoContext → VFound → Glance C Reason) (e : ReadError) (s : Result (Option C) ReadError) → TakesHeld (Err e) a b → IsErrAnd s (λ d. d ≡ e) → TakesNext vlog same f s a b i i
  name_fails_maybe f e s h k =
      let p = err_from_is_err_and s k in
      let l = word_live a h.1 in
      rw (p.1, p.2, h.0, h.2) (record {
        value = tt;
        error = no_memory (reading vlog (maybe f) a.context (stream vlog a i));
        moves = still a.window i;
        unspent = tt;
        spent = (λ s. absurd cc, λ s. let g = sym l.0 ∙ s in absurd cc);
        spends = refl;
        cause = λ s. absurd cc;
        near = near_no_memory a.window;
      })

-- ---- calls that go on where no name is held

pub reads_still : {V : Type 0} (part : Vlog V) {s : Result V ReadError} {a m b : Reader NoContext VFound} {i j : Supply} → m ≡ a → Reads vlog same part s m b i j → Reads vlog same part s a b i j
reads_still part {s} {a} {m} {b} {i} {j} e h = subst (λ (r : Reader NoContext VFound). Reads vlog same part s r b i j) e h

pub takes_still : {C : Type 0} (f : NoContext → VFound → Glance C Reason) {s : Result (Option C) ReadError} {a m b : Reader NoContext VFound} {i j : Supply} → m ≡ a → TakesNext vlog same f s m b i j → TakesNext vlog same f s a b i j
takes_still f {s} {a} {m} {b} {i} {j} e h = subst (λ (r : Reader NoContext VFound). TakesNext vlog same f s r b i j) e h
