-- The calls that take the parenthesis or the word that is next, where the bytes that are held show it.
use Rattle.std.proofs.Common.{◌≡◌, ◌∙◌, sym, ap, subst, refl, ℕ, ◌<◌, ◌≤◌, ◌==◌, Bool, true, false, cond, not, ◌&&◌, List, [], ◌∷◌, length, Option, Some, None, is_none, Result, Ok, Err, arith}
use Rattle.grammar.specs.Reading.{take_token}
use Rattle.grammar.specs.Whole.{Terminal, proper, end}
use Rattle.nl_base.specs.Identifiers.{is_identifier}
use Rattle.nl_base.specs.declared.place.Place.{Place}
use Rattle.nl_base.specs.declared.fault.Reason.{Reason}
use Rattle.nl_base.specs.declared.fault.ReadError.TheVariants as errors
use Rattle.nl_bytes.specs.Bytes.{Window}
use Rattle.edif_tokens.specs.declared.token.Found.{Found}
use Rattle.edif_values.specs.declared.token.Token.{Token}
use Rattle.edif_values.specs.declared.token.Token.TheVariants.{LeftParen, RightParen, Word}
use Rattle.edif_tokens.specs.Held.{mark_token}
use Rattle.edif_tokens.specs.Held as tokens
use Rattle.edif_tokens.proofs.HeldTokens.{mark_reads, word_reads, word_identifier, word_short}
use Rattle.readers.specs.Parts.{of_token, any, one}
use Rattle.nl_io.specs.Sources.{Supply}
use Rattle.nl_bytes.specs.Tokens.{Ahead, Language, IsNear, ReadsToken}
use Rattle.readers.specs.Readers.{Reader, Reads, LooksAt, IsToken, same, spoilt, result_of, reading, then_left, stream}
use Rattle.readers.proofs.Looking.{ok_first}
use Rattle.readers.proofs.Moving.{still, near_no_memory}
use Rattle.readers.proofs.Reading.{no_memory}
use Rattle.readers.proofs.Taking.{takes_next}
use Rattle.edif_values.specs.declared.keyword.Keyword.{Keyword}
use Rattle.edif_keywords.specs.Aliases.{Alias, means, or_alias}
use Rattle.edif_values.specs.Keywords.{has, allowed_keyword, if_allowed}
use Rattle.edif_values.specs.Keywords as k
use Rattle.edif_keywords.specs.Calls.{is_unlooked, held_mark, past_mark, held_word, past_word}
use Rattle.edif_keywords.specs.Grammar.{word, opening, closing, keyword}
use Rattle.edif_keywords.specs.Language.{edif}
use Rattle.edif_keywords.specs.Reasons.{word_of, opening_of, closing_of, keyword_of, keyword_by, elsewhere, opens, is_opening}
use Rattle.edif_keywords.proofs.OneToken.{one_says}

-- ---- what is held is the next token

-- a token is taken as the next one
pub record HeldTaken (t : Token) (a b : Reader (List Alias) Found) (i : Supply) : Type 0 where
  pub token : Found
  pub is : token.token ≡ t
  pub reads : Reads edif same any (Ok token) a b i i
  pub near : IsNear b.window token.stop

-- what is held of a reader is that of its bytes; such a reader is not spent, and has looked at no token
pub held_live : {A : Type 0} (nothing held : A) (a : Reader (List Alias) Found) → (cond (is_unlooked a) held nothing ≡ nothing → ⊥) → (a.spent ≡ false) × (a.ahead ≡ None) × (cond (is_unlooked a) held nothing ≡ held)
held_live nothing held a some = by a.spent a.ahead some
  where
    by : (spent : Bool) (ahead : Option Found) → (cond (not spent && is_none ahead) held nothing ≡ nothing → ⊥) → (spent ≡ false) × (ahead ≡ None) × (cond (not spent && is_none ahead) held nothing ≡ held)
    by true ahead some = absurd (some refl)
    by false (Some x) some = absurd (some refl)
    by false None some = (refl, refl, refl)

mark_live : (a : Reader (List Alias) Found) (mark : ℕ) → held_mark a ≡ Some mark → (a.spent ≡ false) × (a.ahead ≡ None) × (tokens.held_mark a.window ≡ Some mark)
unfolding held_mark
mark_live a mark e =
    let l = held_live None (tokens.held_mark a.window) a (λ n. let m = sym n ∙ e in absurd cc) in
    (l.0, l.1, sym l.2 ∙ e)

some_word : (w : List ℕ) → 0 < length w → w ≡ [] → ⊥
some_word [] some e = absurd (omega (arith, some))
some_word (x ∷ xs) some e = absurd cc

word_live : (a : Reader (List Alias) Found) → 0 < length (held_word a) → (a.spent ≡ false) × (a.ahead ≡ None) × (held_word a ≡ tokens.held_word a.window)
unfolding held_word
word_live a some = held_live [] (tokens.held_word a.window) a (some_word _ some)

taken : (a : Reader (List Alias) Found) (w : Window) (t : Token) → a.spent ≡ false → a.ahead ≡ None → (i : Supply)
    → ((x : Found) × (x.token ≡ t) × ReadsToken edif (Ok (Some x)) a.window false w false i i)
    → HeldTaken t a (record { window = w; ahead = a.ahead; context = a.context; spent = a.spent }) i
taken a w t live none i r =
    let read = takes_next edif a a.window w false false a.ahead a.ahead a.context a.spent i i refl live none refl none r.0 r.2 in
    record { token = r.0; is = r.1; reads = subst (λ (b : Bool). Reads edif same any (Ok r.0) a (record { window = w; ahead = a.ahead; context = a.context; spent = b }) i i) (sym live) read; near = r.2.after_token }

mark_taken : (a : Reader (List Alias) Found) (mark : ℕ) → held_mark a ≡ Some mark → length a.window.held ≤ 4096 → (i : Supply) → HeldTaken (mark_token mark) a (past_mark a) i
mark_taken a mark e small i =
    let l = mark_live a mark e in
    taken a (tokens.past_mark a.window) (mark_token mark) l.0 l.1 i (mark_reads a.window mark l.2 small i)

word_taken : (a : Reader (List Alias) Found) → 0 < length (held_word a) → length a.window.held ≤ 4096 → (i : Supply) → HeldTaken (Word (held_word a)) a (past_word a) i
word_taken a some small i =
    let l = word_live a some in
    let inside = subst (λ (w : List ℕ). 0 < length w) l.2 some in
    rw l.2 (taken a (tokens.past_word a.window) (Word (tokens.held_word a.window)) l.0 l.1 i (word_reads a.window inside small i))

-- the same of what a reader is made of
pub inside_mark : (w : Window) (h : Option Found) (k : List Alias) (b : Bool) (a : Reader (List Alias) Found) → record { window = w; ahead = h; context = k; spent = b } ≡ a → (mark : ℕ) → held_mark a ≡ Some mark → (tokens.held_mark w ≡ Some mark) × (h ≡ None)
inside_mark w h k b a e mark m = let l = mark_live (record { window = w; ahead = h; context = k; spent = b }) mark (ap held_mark e ∙ m) in (l.2, l.1)

pub inside_word : (w : Window) (h : Option Found) (k : List Alias) (b : Bool) (a : Reader (List Alias) Found) → record { window = w; ahead = h; context = k; spent = b } ≡ a → (count : ℕ) → 0 < count → count ≡ length (held_word a) → (count ≡ length (tokens.held_word w)) × (h ≡ None)
inside_word w h k b a e count some is =
    let there : count ≡ length (held_word (record { window = w; ahead = h; context = k; spent = b })) = is ∙ ap (λ r. length (held_word r)) (sym e) in
    let l = word_live (record { window = w; ahead = h; context = k; spent = b }) (omega (arith, some, there)) in
    (there ∙ ap (λ (w : List ℕ). length w) l.2, l.1)

-- ---- calls that take one token

module _ {V : Type 0} (f : List Alias → Token → Result V Reason) (a b : Reader (List Alias) Found) (i : Supply) where
  says : (t : Token) (v : V) → HeldTaken t a b i → f a.context t ≡ Ok v → Reads edif same (one (λ table x. f table x.token)) (Ok v) a b i i
  says t v h e = one_says (λ table x. f table x.token) a b i i h.token h.reads h.near (Ok v) (Ok v) b (sym (ap (f a.context) h.is ∙ e)) refl refl

-- the `(` that is due is taken
pub opening_taken : (a b : Reader (List Alias) Found) → held_mark a ≡ Some 40 → length a.window.held ≤ 4096 → (i : Supply) → b ≡ past_mark a → Reads edif same opening (Ok tt) a b i i
opening_taken a b e small i left = rw left (says (λ _ t. opening_of t) a (past_mark a) i (mark_token 40) tt (mark_taken a 40 e small i) refl)

-- the `)` that is due is taken
pub closing_taken : (a b : Reader (List Alias) Found) → held_mark a ≡ Some 41 → length a.window.held ≤ 4096 → (i : Supply) → b ≡ past_mark a → Reads edif same closing (Ok tt) a b i i
closing_taken a b e small i left = rw left (says (λ _ t. closing_of t) a (past_mark a) i (mark_token 41) tt (mark_taken a 41 e small i) refl)

-- a word that is held is some, where its bytes are some
pub some_held : (a : Reader (List Alias) Found) (w : List ℕ) → w ≡ held_word a → (length w ≡ 0 → ⊥) → 0 < length (held_word a)
some_held a w e some = rw (← e) (by w some)
  where
    by : (w : List ℕ) → (length w ≡ 0 → ⊥) → 0 < length w
    by [] some = absurd (some refl)
    by (x ∷ xs) some = omega arith

-- a word is taken
pub word_held : (a b : Reader (List Alias) Found) (v : List ℕ) → 0 < length (held_word a) → length a.window.held ≤ 4096 → (i : Supply) → v ≡ held_word a → b ≡ past_word a → Reads edif same word (Ok v) a b i i
word_held a b v some small i is left = rw (left, is) (says (λ _ t. word_of t) a (past_word a) i (Word (held_word a)) (held_word a) (word_taken a some small i) refl)

-- there is no memory for a word
pub word_not_held : (a b : Reader (List Alias) Found) → 0 < length (held_word a) → (i : Supply) → b ≡ spoilt a → Reads edif same word (Err errors.NoMemory) a b i i
word_not_held a b some i left =
    let l = word_live a some in
    rw left (record {
      value = tt;
      error = no_memory (reading edif word a.context (stream edif a i));
      moves = still a.window i;
      unspent = tt;
      spent = (λ s. absurd cc, λ s. let g = sym l.0 ∙ s in absurd cc);
      spends = refl;
      cause = λ s. absurd cc;
      near = near_no_memory a.window;
    })

-- what an identifier needs of a word that is held
pub held_proper : (a : Reader (List Alias) Found) (w : List ℕ) → 0 < length (held_word a) → w ≡ held_word a → (is_identifier w ≡ true) × (length w ≤ 1024)
held_proper a w some is =
    let l = word_live a some in
    let inside = subst (λ (w : List ℕ). 0 < length w) l.2 some in
    rw (is, l.2) (word_identifier a.window inside, word_short a.window)

-- a word that is an allowed keyword says it, whatever the aliases
known_keyword : (allowed : List Keyword) (table : List Alias) (w : List ℕ) (q : Keyword) → allowed_keyword allowed w ≡ Some q → keyword_of allowed table (Word w) ≡ Ok q
unfolding means
known_keyword allowed table w q e = by (k.keyword_of w) e
  where
    among : (r : Keyword) (b : Bool) → cond b (Some r) None ≡ Some q → cond b (Ok r) (Err (elsewhere r w)) ≡ Ok q
    among r true h = let is : r ≡ q = cc in ap Ok is
    among r false h = absurd cc

    by : (r : Option Keyword) → if_allowed allowed r ≡ Some q → keyword_by elsewhere allowed w (or_alias r table w) ≡ Ok q
    by None h = absurd cc
    by (Some r) h = among r (has allowed r) h

-- a word that is an allowed keyword is taken
pub keyword_held : (a b : Reader (List Alias) Found) (allowed : List Keyword) (q : Keyword) → 0 < length (held_word a) → length a.window.held ≤ 4096 → (i : Supply) → allowed_keyword allowed (held_word a) ≡ Some q → b ≡ past_word a → Reads edif same (keyword allowed) (Ok q) a b i i
keyword_held a b allowed q some small i e left =
    rw left (says (keyword_of allowed) a (past_word a) i (Word (held_word a)) q (word_taken a some small i) (known_keyword allowed a.context (held_word a) q e))

-- ---- a look at the next token

-- the token that is read next is next
next_is : {K X : Type 0} (L : Language X) (f : X → Bool) (k : K) (x : X) (s t : Option (Ahead X)) → reading L any k s ≡ then_left x t → IsToken f (f x) s
unfolding reading any then_left IsToken
next_is L f k x None t h = tt
next_is L f k x (Some s) None h = absurd cc
next_is {X = X} L f k x (Some s) (Some t) h = by s.tokens refl h
  where
    by : (ts : List (Terminal X Place)) → s.tokens ≡ ts → Some (result_of L s.finish (take_token (λ t. of_token (λ x. Ok x) t) ts)) ≡ Some (Ok (x, t)) → (y : X) × (rest : List (Terminal X Place)) × (s.tokens ≡ proper y ∷ rest) × (f y ≡ f x)
    by [] m h = absurd cc
    by (end p ∷ ts) m h = absurd cc
    by (proper y ∷ ts) m h = let n = ok_first (y, record { tokens = ts; finish = s.finish }) (x, t) h in (y, ts, m, ap f n)

opens_mark : (x : Found) (mark : ℕ) → x.token ≡ mark_token mark → opens x ≡ (mark == 40)
unfolding opens
opens_mark x mark e = ap is_opening e ∙ by (mark == 40)
  where
    by : (b : Bool) → is_opening (cond b LeftParen RightParen) ≡ b
    by true = refl
    by false = refl

opens_word : (x : Found) (w : List ℕ) → x.token ≡ Word w → opens x ≡ false
unfolding opens
opens_word x w e = ap is_opening e

-- a token that is held is looked at
token_looked : (t : Token) (a c : Reader (List Alias) Found) (b : Bool) (i : Supply) → (m : HeldTaken t a c i) → opens m.token ≡ b → LooksAt edif opens (Ok b) a a i i
token_looked t a c b i m opened = record {
  value = (subst (λ (b : Bool). IsToken opens b (stream edif a i)) opened (next_is edif opens a.context m.token (stream edif a i) (stream edif c i) m.reads.value.0), (refl, refl, omega arith));
  error = tt;
  moves = still a.window i;
  unspent = m.reads.unspent;
  spent = tt;
  spends = m.reads.unspent;
  cause = tt;
  near = tt;
}

-- the parenthesis that is next is looked at
pub form_held : (a : Reader (List Alias) Found) (mark : ℕ) (b : Bool) → held_mark a ≡ Some mark → length a.window.held ≤ 4096 → (i : Supply) → b ≡ (mark == 40) → LooksAt edif opens (Ok b) a a i i
form_held a mark b e small i is =
    let m = mark_taken a mark e small i in
    token_looked (mark_token mark) a (past_mark a) b i m (opens_mark m.token mark m.is ∙ sym is)

-- the word that is next is looked at
pub no_form_held : (a : Reader (List Alias) Found) → 0 < length (held_word a) → length a.window.held ≤ 4096 → (i : Supply) → LooksAt edif opens (Ok false) a a i i
no_form_held a some small i =
    let m = word_taken a some small i in
    token_looked (Word (held_word a)) a (past_word a) false i m (opens_word m.token (held_word a) m.is)
