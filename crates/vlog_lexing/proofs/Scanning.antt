-- The tokens of what is written: white space, punctuation, and bytes that go on as one token.
use Rattle.std.proofs.Common.{◌≡◌, ℕ, suc, zero, ◌+◌, ◌-◌, ◌<◌, ◌≤◌, Bool, true, false, List, [], ◌∷◌, ◌++◌, map, length, Some, None, Result, Ok, IsTrue, refl, sym, ap, ◌∙◌, subst, arith, length-append, append_assoc, append-nil}
use Rattle.std.specs.Prelude.{⊤, IfSome, ◌||◌, ◌&&◌, ◌==◌, not}
use Rattle.std.specs.Char.{is_ascii_digit, is_ascii_alphabetic}
use Rattle.std.specs.List.{AllByRecursion}
use Rattle.std.proofs.lemmas.Bool.{lt-leb, eqb-true}
use Rattle.std.proofs.lemmas.Bool.Decides.{nat_tests}
use Rattle.grammar.specs.Whole.{Done, proper, end}
use Rattle.nl_base.specs.declared.place.Place.{Place}
use Rattle.nl_base.specs.Place.{place_after, place_past}
use Rattle.nl_bytes.specs.Bytes.{first}
use Rattle.nl_bytes.specs.Classes.{is_verilog_space, is_name_byte, is_number_byte, is_based_byte, is_word_byte}
use Rattle.nl_bytes.specs.Tokens.{Ahead, follow}
use Rattle.vlog_tokens.specs.declared.item.Item.{Item}
use Rattle.vlog_tokens.specs.declared.item.Item.TheVariants.{Blank, Line, Token}
use Rattle.vlog_tokens.specs.declared.phase.Phase.{Phase}
use Rattle.vlog_tokens.specs.declared.phase.Step.TheVariants.{Keep, Ends}
use Rattle.vlog_tokens.specs.declared.start.Start.TheVariants as start
use Rattle.vlog_tokens.specs.declared.token.VFound.{VFound}
use Rattle.vlog_tokens.specs.declared.token.VToken.{VToken}
use Rattle.vlog_tokens.specs.declared.token.VToken.TheVariants as t
use Rattle.nl_bytes.specs.Flaws.{Piece, Flaw}
use Rattle.vlog_tokens.specs.Language.{tokens_from}
use Rattle.vlog_tokens.specs.Phases.{next_step, is_complete, most_of}
use Rattle.vlog_tokens.specs.Phases as phases
use Rattle.vlog_tokens.specs.Scanning.{scan_at, ended, one_if}
use Rattle.vlog_tokens.specs.Spelling.{item_at, start_of, is_mark}
use Rattle.vlog_lexing.specs.Lexing.{Shows, Lexes}

abbrev pub piece : {A : Type 0} → A → ℕ → ℕ → Result (Piece A) Flaw
piece value count seen = Ok (record { value = value; count = count; seen = seen })

-- a byte that may stand directly behind a name, a keyword, a number, a literal or a directive
abbrev pub is_apart : ℕ → Bool
is_apart b = not (is_name_byte b || b == 46 || b == 63 || b == 42)

-- the end, or such a byte
abbrev pub Apart : List ℕ → Type 0
Apart bs = IfSome (first bs) (λ b. IsTrue (is_apart b))

neither : (a b : Bool) → (a || b) ≡ false → (a ≡ false) × (b ≡ false)
neither true b h = absurd cc
neither false b h = (refl, h)

no_more : (a : Bool) → not a ≡ true → a ≡ false
no_more true h = absurd cc
no_more false h = refl

-- what such a byte is not
pub record Stops (b : ℕ) : Type 0 where
  pub alphabetic : is_ascii_alphabetic b ≡ false
  pub digit : is_ascii_digit b ≡ false
  pub word : is_word_byte b ≡ false
  pub name : is_name_byte b ≡ false
  pub number : is_number_byte b ≡ false
  pub based : is_based_byte b ≡ false
  pub underscore : (b == 95) ≡ false
  pub point : (b == 46) ≡ false
  pub mark : phases.is_mark b ≡ false
  pub star : (b == 42) ≡ false

pub stops : (b : ℕ) → is_apart b ≡ true → Stops b
stops b h =
    let last = neither (is_name_byte b || b == 46 || b == 63) (b == 42) (no_more (is_name_byte b || b == 46 || b == 63 || b == 42) h) in
    let all = neither (is_name_byte b || b == 46) (b == 63) last.0 in
    let front = neither (is_name_byte b) (b == 46) all.0 in
    let name = neither (is_word_byte b) (b == 36) front.0 in
    let word = neither (is_ascii_alphabetic b || is_ascii_digit b) (b == 95) name.0 in
    let letter = neither (is_ascii_alphabetic b) (is_ascii_digit b) word.0 in
    record {
      alphabetic = letter.0;
      digit = letter.1;
      word = name.0;
      name = front.0;
      number = rw (letter.1, word.1) refl;
      based = rw (name.0, all.1) refl;
      underscore = word.1;
      point = front.1;
      mark = no_mark letter.0;
      star = last.1;
    }
  where
    no_mark : is_ascii_alphabetic b ≡ false → phases.is_mark b ≡ false
    no_mark e = grind (arith, nat_tests)

-- ---- tokens at the front

pub lexes_end : Lexes [] []
unfolding tokens_from
lexes_end = record { at = λ p. record { found = []; last = p; tokens = refl; same = refl; finish = refl } }

pub lexes_space : (b : ℕ) (rest : List ℕ) (ts : List VToken) → start_of b ≡ start.White → Lexes rest ts → Lexes (b ∷ rest) ts
unfolding tokens_from item_at
lexes_space b rest ts e h = record { at = λ p. rw e (h.at (place_after p b)) }

-- the tokens behind some bytes that belong to a token before
tokens_behind : (p : Place) (used rest : List ℕ) → tokens_from (length used) p (used ++ rest) ≡ tokens_from 0 (place_past p used) rest
unfolding tokens_from
tokens_behind p [] rest = refl
tokens_behind p (b ∷ bs) rest = tokens_behind (place_after p b) bs rest

abbrev found_at : Place → VToken → ℕ → VFound
found_at p token seen = record { place = p; stop = p.offset + seen; token = token }

-- the tokens of bytes of which the first begins a token
token_first : (p : Place) (b : ℕ) (bs : List ℕ) (token : VToken) (count seen : ℕ) → item_at b bs ≡ piece (Token token) count seen
    → tokens_from 0 p (b ∷ bs) ≡ follow (found_at p token seen) (tokens_from (count - 1) (place_after p b) bs)
unfolding tokens_from
token_first p b bs token count seen spelled = rw spelled refl

shows_follow : (f : VFound) (s : Ahead VFound) (ts : List VToken) → Shows s ts → Shows (follow f s) (f.token ∷ ts)
shows_follow f s ts h = record {
  found = f ∷ h.found;
  last = h.last;
  tokens = ap (λ z. proper f ∷ z) h.tokens;
  same = ap (λ (z : List VToken). f.token ∷ z) h.same;
  finish = h.finish;
}

-- a token that begins with a byte, and then other tokens
pub lexes_token : (b : ℕ) (tail rest : List ℕ) (token : VToken) (count seen : ℕ) (ts : List VToken)
    → item_at b (tail ++ rest) ≡ piece (Token token) count seen → count ≡ length tail + 1 → Lexes rest ts → Lexes (b ∷ (tail ++ rest)) (token ∷ ts)
lexes_token b tail rest token count seen ts spelled long h = record {
  at = λ p.
      let here : VFound = found_at p token seen in
      let less : count - 1 ≡ length tail = omega (arith, long) in
      let whole : tokens_from 0 p (b ∷ (tail ++ rest)) ≡ follow here (tokens_from 0 (place_past (place_after p b) tail) rest) =
      token_first p b (tail ++ rest) token count seen spelled
      ∙ ap (λ (n : ℕ). follow here (tokens_from n (place_after p b) (tail ++ rest))) less
      ∙ ap (λ (s : Ahead VFound). follow here s) (tokens_behind (place_after p b) tail rest) in
      subst (λ (s : Ahead VFound). Shows s (token ∷ ts)) (sym whole) (shows_follow here _ ts (h.at (place_past (place_after p b) tail)));
}

-- ---- punctuation

mark_starts : (b : ℕ) → is_mark b ≡ true → start_of b ≡ start.Mark
mark_starts b h = grind (arith, nat_tests)

pub lexes_mark : (b : ℕ) (rest : List ℕ) (ts : List VToken) → is_mark b ≡ true → Lexes rest ts → Lexes (b ∷ rest) (t.Punct b ∷ ts)
unfolding item_at
lexes_mark b rest ts m h = lexes_token b [] rest (t.Punct b) 1 1 ts (rw (mark_starts b m) refl) refl h

pub lexes_attributes : (rest : List ℕ) (ts : List VToken) → Lexes rest ts → Lexes (40 ∷ 42 ∷ rest) (t.AttrStart ∷ ts)
unfolding item_at
lexes_attributes rest ts h = lexes_token 40 (42 ∷ []) rest t.AttrStart 2 2 ts refl refl h

pub lexes_attributes_end : (rest : List ℕ) (ts : List VToken) → Lexes rest ts → Lexes (42 ∷ 41 ∷ rest) (t.AttrStop ∷ ts)
unfolding item_at
lexes_attributes_end rest ts h = lexes_token 42 (41 ∷ []) rest t.AttrStop 2 2 ts refl refl h

-- the end, or a byte other than `*`
abbrev pub NotStar : List ℕ → Type 0
NotStar bs = IfSome (first bs) (λ b. (b == 42) ≡ false)

pub apart_not_star : (rest : List ℕ) → Apart rest → NotStar rest
apart_not_star [] h = tt
apart_not_star (c ∷ cs) h = (stops c h).star

-- `(`, behind which no `*` stands
pub lexes_open : (rest : List ℕ) (ts : List VToken) → NotStar rest → Lexes rest ts → Lexes (40 ∷ rest) (t.Punct 40 ∷ ts)
unfolding item_at
lexes_open [] ts other h = lexes_token 40 [] [] (t.Punct 40) 1 1 ts refl refl h
lexes_open (c ∷ cs) ts other h = lexes_token 40 [] (c ∷ cs) (t.Punct 40) 1 2 ts (rw other refl) refl h

-- ---- bytes that go on as one token

-- each byte keeps a token in its phase
abbrev pub Stays : Phase → List ℕ → Type 0
Stays phase bs = AllByRecursion (λ b. next_step phase b ≡ Keep phase) bs

-- bytes that go on
pub goes_on : (phase : Phase) (text bs rest : List ℕ) (n : ℕ) → Stays phase bs → length text + length bs ≤ most_of phase
    → scan_at phase text n (bs ++ rest) ≡ scan_at phase (text ++ bs) (n + length bs) rest
unfolding scan_at
goes_on phase text [] rest n all short = ap (λ (z : List ℕ). scan_at phase z n rest) (sym (append-nil text)) ∙ ap (λ (m : ℕ). scan_at phase (text ++ []) m rest) (omega arith)
goes_on phase text (b ∷ bs) rest n all short =
    let room = lt-leb (most_of phase) (length text) (omega (arith, short)) in
    let on = goes_on phase (text ++ b ∷ []) bs rest (n + 1) all.1 (omega (arith, short, length-append text (b ∷ []))) in
    rw (all.0, room) (on ∙ ap (λ (z : List ℕ). scan_at phase z (n + 1 + length bs) rest) (append_assoc text (b ∷ []) bs) ∙ ap (λ (m : ℕ). scan_at phase (text ++ b ∷ bs) m rest) (omega arith))

-- one byte that takes a token to another phase
pub steps_to : (phase next : Phase) (text : List ℕ) (n b : ℕ) (rest : List ℕ) → next_step phase b ≡ Keep next → length text < most_of phase
    → scan_at phase text n (b ∷ rest) ≡ scan_at next (text ++ b ∷ []) (n + 1) rest
unfolding scan_at
steps_to phase next text n b rest step short = rw (step, lt-leb (most_of phase) (length text) short) refl

-- the end of a token
pub comes_to_end : (test : ℕ → Bool) (phase : Phase) (text : List ℕ) (n : ℕ) (rest : List ℕ) → is_complete phase ≡ true → ((c : ℕ) → test c ≡ true → next_step phase c ≡ Ends) → IfSome (first rest) (λ b. IsTrue (test b))
    → scan_at phase text n rest ≡ ended phase text n (first rest)
unfolding scan_at
comes_to_end test phase text n [] complete step h = rw complete refl
comes_to_end test phase text n (c ∷ cs) complete step h = rw (step c h) refl
