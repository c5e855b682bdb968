-- The tokens of what is written: white space, parentheses, words, integers and strings.
use Rattle.std.proofs.Common.{◌≡◌, ℕ, suc, ◌+◌, ◌-◌, ◌*◌, ◌<◌, ◌≤◌, ◌^◌, ◌%◌, Bool, true, false, eqb, List, [], ◌∷◌, ◌++◌, length, Some, Result, Ok, IsTrue, refl, sym, ap, ◌∙◌, subst, arith, length-append}
use Rattle.std.specs.Prelude.{IfSome, ℤ, pos, negsuc, decimal, neg_ℤ, ◌&&◌, ◌||◌}
use Rattle.std.specs.Fmt.{signed_decimal}
use Rattle.std.specs.Char.{is_ascii_digit, is_ascii_alphabetic}
use Rattle.std.specs.List.{list_all}
use Rattle.std.proofs.lemmas.Bool.{lt-ltb, le-ltb, eqb-true}
use Rattle.std.proofs.lemmas.Bool.Decides.{nat_tests}
use Rattle.std.proofs.lemmas.List.Sums.{fold-append}
use Rattle.std.proofs.lemmas.Fmt.{decimal_by_steps, length-decimal-le}
use Rattle.grammar.specs.Whole.{proper}
use Rattle.nl_base.specs.Identifiers as base
use Rattle.nl_base.specs.declared.place.Place.{Place}
use Rattle.nl_base.specs.Place.{place_after, place_past}
use Rattle.nl_bytes.specs.Bytes.{first}
use Rattle.nl_bytes.specs.Classes.{is_space, is_word_byte}
use Rattle.nl_bytes.specs.Tokens.{Ahead, follow}
use Rattle.edif_tokens.specs.declared.token.Found.{Found}
use Rattle.edif_values.specs.declared.token.Token.{Token}
use Rattle.edif_values.specs.declared.token.Token.TheVariants as t
use Rattle.edif_tokens.specs.declared.scan.Start.TheVariants.{Letter, Ampersand, Digit}
use Rattle.nl_bytes.specs.Flaws.{Piece, Flaw}
use Rattle.edif_values.specs.Proper.{IsProper}
use Rattle.edif_tokens.specs.Spelling.{token_at, start_of, may_follow, ended, span_at, integer_of, decimal_value}
use Rattle.edif_tokens.specs.Language.{tokens_from, found_at}
use Rattle.edif_tokens.proofs.Spans.{AllPass, span_run}
use Rattle.edif_lexing.specs.Lexing.{Shows, Lexes}

-- the end, or a byte that may stand directly after a word or an integer
abbrev pub Parts : List ℕ → Type 0
Parts bs = IfSome (first bs) (λ b. IsTrue (may_follow b))

pub lexes_end : Lexes [] []
unfolding tokens_from
lexes_end = record { at = λ p. record { found = []; last = p; tokens = refl; same = refl; finish = refl } }

pub lexes_space : (b : ℕ) (rest : List ℕ) (ts : List Token) → is_space b ≡ true → Lexes rest ts → Lexes (b ∷ rest) ts
unfolding tokens_from
lexes_space b rest ts e h = record { at = λ p. rw e (h.at (place_after p b)) }

-- the tokens behind some bytes that belong to a token before
tokens_behind : (p : Place) (used rest : List ℕ) → tokens_from (length used) p (used ++ rest) ≡ tokens_from 0 (place_past p used) rest
unfolding tokens_from
tokens_behind p [] rest = refl
tokens_behind p (b ∷ bs) rest = tokens_behind (place_after p b) bs rest

abbrev pub piece : {A : Type 0} → A → ℕ → ℕ → Result (Piece A) Flaw
piece value count seen = Ok (record { value = value; count = count; seen = seen })

-- the tokens of bytes of which the first begins a token
token_first : (p : Place) (b : ℕ) (bs : List ℕ) (token : Token) (count seen : ℕ) → is_space b ≡ false → token_at b bs ≡ piece token count seen
    → tokens_from 0 p (b ∷ bs) ≡ follow (found_at p (record { value = token; count = count; seen = seen })) (tokens_from (count - 1) (place_after p b) bs)
unfolding tokens_from
token_first p b bs token count seen space spelled = rw (space, spelled) refl

shows_follow : (f : Found) (s : Ahead Found) (ts : List Token) → Shows s ts → Shows (follow f s) (f.token ∷ ts)
shows_follow f s ts h = record {
  found = f ∷ h.found;
  last = h.last;
  tokens = ap (λ z. proper f ∷ z) h.tokens;
  same = ap (λ (z : List Token). f.token ∷ z) h.same;
  finish = h.finish;
}

-- a token that begins with a byte, and then other tokens
pub lexes_token : (b : ℕ) (tail rest : List ℕ) (token : Token) (seen : ℕ) (ts : List Token) → is_space b ≡ false
    → token_at b (tail ++ rest) ≡ piece token (suc (length tail)) seen → Lexes rest ts → Lexes (b ∷ (tail ++ rest)) (token ∷ ts)
lexes_token b tail rest token seen ts space spelled h = record {
  at = λ p.
      let here : Found = found_at p (record { value = token; count = suc (length tail); seen = seen }) in
      let less : suc (length tail) - 1 ≡ length tail = omega arith in
      let whole : tokens_from 0 p (b ∷ (tail ++ rest)) ≡ follow here (tokens_from 0 (place_past (place_after p b) tail) rest) =
      token_first p b (tail ++ rest) token (suc (length tail)) seen space spelled
      ∙ ap (λ (n : ℕ). follow here (tokens_from n (place_after p b) (tail ++ rest))) less
      ∙ ap (λ (s : Ahead Found). follow here s) (tokens_behind (place_after p b) tail rest) in
      subst (λ (s : Ahead Found). Shows s (token ∷ ts)) (sym whole)
      (shows_follow here (tokens_from 0 (place_past (place_after p b) tail) rest) ts (h.at (place_past (place_after p b) tail)));
}

pub lexes_open : (rest : List ℕ) (ts : List Token) → Lexes rest ts → Lexes (40 ∷ rest) (t.LeftParen ∷ ts)
unfolding token_at
lexes_open rest ts h = lexes_token 40 [] rest t.LeftParen 1 ts refl refl h

pub lexes_close : (rest : List ℕ) (ts : List Token) → Lexes rest ts → Lexes (41 ∷ rest) (t.RightParen ∷ ts)
unfolding token_at
lexes_close rest ts h = lexes_token 41 [] rest t.RightParen 1 ts refl refl h

-- ---- words

letter_starts : (b : ℕ) → is_ascii_alphabetic b ≡ true → start_of b ≡ Letter
letter_starts b h = grind (arith, nat_tests)

letter_no_space : (b : ℕ) → is_ascii_alphabetic b ≡ true → is_space b ≡ false
letter_no_space b h = grind (arith, nat_tests)

digit_starts : (b : ℕ) → is_ascii_digit b ≡ true → start_of b ≡ Digit
digit_starts b h = grind (arith, nat_tests)

digit_no_space : (b : ℕ) → is_ascii_digit b ≡ true → is_space b ≡ false
digit_no_space b h = grind (arith, nat_tests)

follows_no_word : (b : ℕ) → may_follow b ≡ true → is_word_byte b ≡ false
follows_no_word b h = grind (arith, nat_tests)

follows_no_digit : (b : ℕ) → may_follow b ≡ true → is_ascii_digit b ≡ false
follows_no_digit b h = grind (arith, nat_tests)

-- a text of so many bytes ends where the end or a delimiter follows
ends : (text rest : List ℕ) → Parts rest → (seen : ℕ) × (ended text (length text) (first rest) ≡ piece text (length text) seen)
ends text [] h = (length text, refl)
ends text (b ∷ bs) h = (length text + 1, rw h refl)

no_longer : (class : ℕ → Bool) (rest : List ℕ) (n : ℕ) → ((c : ℕ) → may_follow c ≡ true → class c ≡ false) → Parts rest → IfSome (first rest) (λ b. IsTrue (class b) → n ≡ 1025)
no_longer class [] n other h = tt
no_longer class (c ∷ cs) n other h = λ t. let f = other c h in absurd cc

-- a byte and a run of a class
run : (class : ℕ → Bool) (b : ℕ) (bs rest : List ℕ) → AllPass class bs → suc (length bs) ≤ 1024 → ((c : ℕ) → may_follow c ≡ true → class c ≡ false) → Parts rest
    → (seen : ℕ) × (span_at class 1 (b ∷ (bs ++ rest)) ≡ piece (b ∷ bs) (suc (length bs)) seen)
run class b bs rest all short other h =
    let e = ends (b ∷ bs) rest h in
    (e.0, span_run class (b ∷ []) bs rest (first rest) all (omega arith) refl (no_longer class rest (1 + length bs) other h) ∙ rw (le-ltb 1024 (suc (length bs)) short) e.1)

and_true : (a b : Bool) → (a && b) ≡ true → (a ≡ true) × (b ≡ true)
and_true true b h = (refl, h)
and_true false b h = absurd cc

all_pass : (class : ℕ → Bool) (bs : List ℕ) → list_all class bs ≡ true → AllPass class bs
all_pass class [] h = tt
all_pass class (b ∷ bs) h = let p = and_true (class b) (list_all class bs) h in (p.0, all_pass class bs p.1)

-- a letter and bytes of a word
letter_word : (b : ℕ) (bs rest : List ℕ) → is_ascii_alphabetic b ≡ true → AllPass is_word_byte bs → suc (length bs) ≤ 1024 → Parts rest
    → (is_space b ≡ false) × (seen : ℕ) × (token_at b (bs ++ rest) ≡ piece (t.Word (b ∷ bs)) (suc (length bs)) seen)
unfolding token_at
letter_word b bs rest letter all short h =
    let r = run is_word_byte b bs rest all short follows_no_word h in
    (letter_no_space b letter, r.0, rw (letter_starts b letter, r.1) refl)

-- an `&` and bytes of a word
ampersand_word : (b c : ℕ) (cs rest : List ℕ) → b ≡ 38 → AllPass is_word_byte (c ∷ cs) → suc (suc (length cs)) ≤ 1024 → Parts rest
    → (is_space b ≡ false) × (seen : ℕ) × (token_at b ((c ∷ cs) ++ rest) ≡ piece (t.Word (b ∷ c ∷ cs)) (suc (suc (length cs))) seen)
unfolding token_at
ampersand_word b c cs rest amp all short h =
    let r = run is_word_byte b (c ∷ cs) rest all short follows_no_word h in
    let start : start_of b ≡ Ampersand = ap start_of amp in
    (ap is_space amp, r.0, rw (start, all.0, r.1) refl)

word_after : (b : ℕ) (bs rest : List ℕ) → base.is_identifier (b ∷ bs) ≡ true → suc (length bs) ≤ 1024 → Parts rest → (l : Bool) → is_ascii_alphabetic b ≡ l
    → (is_space b ≡ false) × (seen : ℕ) × (token_at b (bs ++ rest) ≡ piece (t.Word (b ∷ bs)) (suc (length bs)) seen)
word_after b [] rest good short h true letter = letter_word b [] rest letter tt short h
word_after b (c ∷ cs) rest good short h true letter =
    let p = and_true (base.is_letter b || eqb b 38) (list_all base.is_word_byte (c ∷ cs)) good in
    letter_word b (c ∷ cs) rest letter (all_pass is_word_byte (c ∷ cs) p.1) short h
word_after b [] rest good short h false letter = let no : is_ascii_alphabetic b ≡ true = good in absurd cc
word_after b (c ∷ cs) rest good short h false letter =
    let p = and_true (base.is_letter b || eqb b 38) (list_all base.is_word_byte (c ∷ cs)) good in
    let either : (is_ascii_alphabetic b || eqb b 38) ≡ true = p.0 in
    ampersand_word b c cs rest (eqb-true b 38 (rw letter at either)) (all_pass is_word_byte (c ∷ cs) p.1) short h

pub lexes_word : (w rest : List ℕ) (ts : List Token) → IsProper (t.Word w) → Parts rest → Lexes rest ts → Lexes (w ++ rest) (t.Word w ∷ ts)
lexes_word [] rest ts good h l = absurd (let no : false ≡ true = good.0 in cc)
lexes_word (b ∷ bs) rest ts good h l =
    let r = word_after b bs rest good.0 good.1 h (is_ascii_alphabetic b) refl in
    lexes_token b bs rest (t.Word (b ∷ bs)) r.1 ts r.0 r.2 l

-- ---- integers

all_push : (class : ℕ → Bool) (bs : List ℕ) (b : ℕ) → AllPass class bs → class b ≡ true → AllPass class (bs ++ b ∷ [])
all_push class [] b h p = (p, tt)
all_push class (c ∷ cs) b h p = (h.0, all_push class cs b h.1 p)

is_digit : (d : ℕ) → d < 10 → is_ascii_digit (48 + d) ≡ true
is_digit d h = grind (arith, nat_tests)

abbrev Spelled : ℕ → List ℕ → Type 0
Spelled n ds = AllPass is_ascii_digit ds × (decimal_value ds ≡ n) × (0 < length ds)

decimal_spelled : (n : ℕ) → n < 2 ^ 64 → Spelled n (decimal n)
decimal_spelled = decimal_by_steps Spelled
    (λ m l. ((is_digit m l, tt), omega arith, omega arith))
    (λ m ds l h. (
      all_push is_ascii_digit ds (48 + m % 10) h.0 (is_digit (m % 10) (omega arith)),
      fold-append (λ n d. 10 * n + (d - 48)) 0 ds ((48 + m % 10) ∷ []) ∙ omega (arith, h.1),
      omega (arith, length-append ds ((48 + m % 10) ∷ [])),
    ))

other_mark : (d : ℕ) → is_ascii_digit d ≡ true → (eqb d 43 ≡ false) × (eqb d 45 ≡ false)
other_mark d h = (grind (arith, nat_tests), grind (arith, nat_tests))

integer_of_digits : (d : ℕ) (ds : List ℕ) → is_ascii_digit d ≡ true → decimal_value (d ∷ ds) < 2 ^ 63 → integer_of (d ∷ ds) ≡ Some (pos (decimal_value (d ∷ ds)))
integer_of_digits d ds h small = let o = other_mark d h in rw (o.0, o.1, lt-ltb (decimal_value (d ∷ ds)) (2 ^ 63) small) refl

integer_of_minus : (ds : List ℕ) → decimal_value ds < 2 ^ 63 → integer_of (45 ∷ ds) ≡ Some (neg_ℤ (pos (decimal_value ds)))
integer_of_minus ds small = rw (lt-ltb (decimal_value ds) (2 ^ 63) small) refl

digits_after : (n : ℕ) (ds rest : List ℕ) (ts : List Token) → n < 2 ^ 63 → Spelled n ds → length ds ≤ 1000 → Parts rest → Lexes rest ts → Lexes (ds ++ rest) (t.Number (pos n) ∷ ts)
unfolding token_at
digits_after n [] rest ts small s short h l = absurd (omega (arith, s.2))
digits_after n (d ∷ ds) rest ts small s short h l =
    let r = run is_ascii_digit d ds rest s.0.1 (omega arith) follows_no_digit h in
    let value : integer_of (d ∷ ds) ≡ Some (pos n) = integer_of_digits d ds s.0.0 (omega (arith, s.1)) ∙ ap (λ (k : ℕ). Some (pos k)) s.1 in
    lexes_token d ds rest (t.Number (pos n)) r.0 ts (digit_no_space d s.0.0) (rw (digit_starts d s.0.0, r.1, value) refl) l

minus_after : (n : ℕ) (ds rest : List ℕ) (ts : List Token) → n + 1 < 2 ^ 63 → Spelled (suc n) ds → length ds ≤ 1000 → Parts rest → Lexes rest ts → Lexes (45 ∷ (ds ++ rest)) (t.Number (negsuc n) ∷ ts)
unfolding token_at
minus_after n [] rest ts small s short h l = absurd (omega (arith, s.2))
minus_after n (d ∷ ds) rest ts small s short h l =
    let r = run is_ascii_digit 45 (d ∷ ds) rest s.0 (omega arith) follows_no_digit h in
    let value : integer_of (45 ∷ d ∷ ds) ≡ Some (negsuc n) = integer_of_minus (d ∷ ds) (omega (arith, s.1)) ∙ ap (λ (k : ℕ). Some (neg_ℤ (pos k))) s.1 in
    lexes_token 45 (d ∷ ds) rest (t.Number (negsuc n)) r.0 ts refl (rw (s.0.0, r.1, value) refl) l

pub lexes_number : (z : ℤ) (rest : List ℕ) (ts : List Token) → IsProper (t.Number z) → Parts rest → Lexes rest ts → Lexes (signed_decimal z ++ rest) (t.Number z ∷ ts)
lexes_number (pos n) rest ts good h l =
    let most = length-decimal-le 20 n (omega arith) (omega arith) (omega arith) in
    digits_after n (decimal n) rest ts good (decimal_spelled n (omega arith)) (omega arith) h l
lexes_number (negsuc n) rest ts good h l =
    let most = length-decimal-le 20 (suc n) (omega arith) (omega arith) (omega arith) in
    let small : suc n < 2 ^ 63 = good in
    minus_after n (decimal (suc n)) rest ts (omega (arith, small)) (decimal_spelled (suc n) (omega arith)) (omega arith) h l
