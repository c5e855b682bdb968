-- How tokens begin, and what words and integers are behind their first bytes.
use Rattle.std.proofs.Common.{◌≡◌, ℕ, zero, suc, ◌<◌, ◌^◌, Bool, true, false, cond, eqb, ltb, ◌||◌, ◌&&◌, List, [], ◌∷◌, ◌++◌, length, Option, Some, None, refl, sym, ap, ◌∙◌, subst, arith}
use Rattle.std.specs.Prelude.{ℤ, pos, neg_ℤ, nat_abs}
use Rattle.std.specs.Char.{is_ascii_digit, is_ascii_alphabetic}
use Rattle.std.specs.List.{list_all}
use Rattle.std.proofs.lemmas.Bool.{eqb-true}
use Rattle.std.proofs.lemmas.Bool.Decides.{nat_tests}
use Rattle.nl_base.specs.Identifiers as base
use Rattle.nl_bytes.specs.Classes.{is_space, is_word_byte}
use Rattle.edif_values.specs.declared.token.Token.{Token}
use Rattle.edif_values.specs.declared.token.Token.TheVariants.{LeftParen, RightParen, Word, Number, Str}
use Rattle.edif_tokens.specs.declared.scan.Start.{Start}
use Rattle.edif_tokens.specs.declared.scan.Start.TheVariants.{Open, Close, Quote, Letter, Ampersand, Digit, Sign, Other}
use Rattle.nl_bytes.specs.Flaws.{◌>>=◌}
use Rattle.edif_tokens.specs.Spelling.{start_of, begins_word, token_at, token_by, text_at, word_of, number_of, integer_of, decimal_value, may_follow}
use Rattle.edif_lexemes.specs.Strings.{AreDigits}
use Rattle.edif_lexemes.specs.Lexemes.{IsWord, IsInteger, Unsigned, Plus, Minus, IsString, IsLexeme, EndsRun}
use Rattle.edif_lexemes.specs.Lexemes as signs
use Rattle.edif_lexemes.proofs.Runs.{AllPass, StopsAt}

and_true : (a b : Bool) → (a && b) ≡ true → (a ≡ true) × (b ≡ true)
and_true true b h = (refl, h)
and_true false b h = absurd cc

all_pass : (class : ℕ → Bool) (bs : List ℕ) → list_all class bs ≡ true → AllPass class bs
all_pass class [] h = tt
all_pass class (b ∷ bs) h = let p = and_true (class b) (list_all class bs) h in (p.0, all_pass class bs p.1)

-- ---- words

-- a first byte and those behind it are a word
pub record WordAt (b : ℕ) (run : List ℕ) : Type 0 where
  pub lead : Bool
  pub begins : begins_word lead b ≡ true
  pub each : AllPass is_word_byte run
  pub some : lead ≡ true → 0 < length run

pub word_shape : (b : ℕ) (run : List ℕ) → IsWord (b ∷ run) → WordAt b run
word_shape b [] is = record { lead = false; begins = is; each = tt; some = λ e. absurd cc }
word_shape b (c ∷ cs) is =
    let p = and_true (base.is_letter b || eqb b 38) (list_all base.is_word_byte (c ∷ cs)) is in
    by (is_ascii_alphabetic b) refl p.0 (all_pass is_word_byte (c ∷ cs) p.1)
  where
    by : (t : Bool) → is_ascii_alphabetic b ≡ t → (is_ascii_alphabetic b || eqb b 38) ≡ true → AllPass is_word_byte (c ∷ cs) → WordAt b (c ∷ cs)
    by true e either each = record { lead = false; begins = e; each = each; some = λ e. absurd cc }
    by false e either each = record { lead = true; begins = rw e at either; each = each; some = λ _. omega arith }

-- ---- integers

abbrev pub begins_integer : Bool → ℕ → Bool
begins_integer false b = is_ascii_digit b
begins_integer true b = eqb b 43 || eqb b 45

abbrev in_range : ℤ → Option ℤ
in_range z = cond (ltb (nat_abs z) (2 ^ 63)) (Some z) None

-- a first byte and those behind it are an integer
pub record IntegerAt (b : ℕ) (run : List ℕ) (z : ℤ) : Type 0 where
  pub lead : Bool
  pub begins : begins_integer lead b ≡ true
  pub each : AllPass is_ascii_digit run
  pub some : lead ≡ true → 0 < length run
  pub value : integer_of (b ∷ run) ≡ cond (ltb (nat_abs z) (2 ^ 63)) (Some z) None

neg_abs : (m : ℕ) → nat_abs (neg_ℤ (pos m)) ≡ m
neg_abs zero = refl
neg_abs (suc m) = refl

no_sign : (d : ℕ) → is_ascii_digit d ≡ true → (eqb d 43 ≡ false) × (eqb d 45 ≡ false)
no_sign d h = (grind (arith, nat_tests), grind (arith, nat_tests))

value_unsigned : (b : ℕ) (run : List ℕ) → is_ascii_digit b ≡ true → integer_of (b ∷ run) ≡ in_range (pos (decimal_value (b ∷ run)))
value_unsigned b run digit = let s = no_sign b digit in rw (s.0, s.1) refl

value_plus : (run : List ℕ) → integer_of (43 ∷ run) ≡ in_range (pos (decimal_value run))
value_plus run = refl

value_minus : (run : List ℕ) → integer_of (45 ∷ run) ≡ in_range (neg_ℤ (pos (decimal_value run)))
value_minus run = ap (λ (k : ℕ). cond (ltb k (2 ^ 63)) (Some (neg_ℤ (pos (decimal_value run)))) None) (sym (neg_abs (decimal_value run)))

head_of : (a b : ℕ) (xs ys : List ℕ) → a ∷ xs ≡ b ∷ ys → (a ≡ b) × (xs ≡ ys)
head_of a b xs ys e = (cc, cc)

pub integer_shape : (b : ℕ) (run : List ℕ) (z : ℤ) → IsInteger (b ∷ run) z → IntegerAt b run z
integer_shape b run z is = by is.sign is.digits is.spelled is.each is.means
  where
    by : (s : signs.Sign) (digits : List ℕ) → b ∷ run ≡ signs.sign_bytes s ++ digits → AreDigits digits → z ≡ signs.signed s (decimal_value digits)
        → IntegerAt b run z
    by Unsigned [] e each means = absurd (omega (arith, each.0))
    by Unsigned (d ∷ ds) e each means =
        let h = head_of b d run ds e in
        let digit : is_ascii_digit b ≡ true = ap is_ascii_digit h.0 ∙ each.1.0 in
        record {
          lead = false;
          begins = digit;
          each = subst (AllPass is_ascii_digit) (sym h.1) each.1.1;
          some = λ e. absurd cc;
          value = value_unsigned b run digit ∙ ap in_range (ap (λ (x : List ℕ). pos (decimal_value x)) e ∙ sym means);
        }
    by Plus digits e each means =
        let h = head_of b 43 run digits e in
        record {
          lead = true;
          begins = ap (λ (x : ℕ). eqb x 43 || eqb x 45) h.0;
          each = subst (AllPass is_ascii_digit) (sym h.1) each.1;
          some = λ _. subst (λ (x : List ℕ). 0 < length x) (sym h.1) each.0;
          value = ap integer_of e ∙ value_plus digits ∙ ap in_range (sym means);
        }
    by Minus digits e each means =
        let h = head_of b 45 run digits e in
        record {
          lead = true;
          begins = ap (λ (x : ℕ). eqb x 43 || eqb x 45) h.0;
          each = subst (AllPass is_ascii_digit) (sym h.1) each.1;
          some = λ _. subst (λ (x : List ℕ). 0 < length x) (sym h.1) each.0;
          value = ap integer_of e ∙ value_minus digits ∙ ap in_range (sym means);
        }

pub integer_made : (lead : Bool) (b : ℕ) (run : List ℕ) → begins_integer lead b ≡ true → AllPass is_ascii_digit run → (lead ≡ true → 0 < length run)
    → (z : ℤ) × IsInteger (b ∷ run) z
integer_made false b run begins each some = (pos (decimal_value (b ∷ run)), record { sign = Unsigned; digits = b ∷ run; spelled = refl; each = (omega arith, (begins, each)); means = refl })
integer_made true b run begins each some = by (eqb b 43) refl begins
  where
    by : (t : Bool) → eqb b 43 ≡ t → (eqb b 43 || eqb b 45) ≡ true → (z : ℤ) × IsInteger (b ∷ run) z
    by true e either = (pos (decimal_value run), record { sign = Plus; digits = run; spelled = ap (λ (x : ℕ). x ∷ run) (eqb-true b 43 e); each = (some refl, each); means = refl })
    by false e either = let minus = rw e at either in (neg_ℤ (pos (decimal_value run)), record { sign = Minus; digits = run; spelled = ap (λ (x : ℕ). x ∷ run) (eqb-true b 45 minus); each = (some refl, each); means = refl })

-- ---- what begins a token

letter_starts : (b : ℕ) → is_ascii_alphabetic b ≡ true → (start_of b ≡ Letter) × (is_space b ≡ false)
letter_starts b h = (grind (arith, nat_tests), grind (arith, nat_tests))

digit_starts : (b : ℕ) → is_ascii_digit b ≡ true → (start_of b ≡ Digit) × (is_space b ≡ false)
digit_starts b h = (grind (arith, nat_tests), grind (arith, nat_tests))

-- what is read where a word begins
pub word_starts : (lead : Bool) (b : ℕ) (bs : List ℕ) → begins_word lead b ≡ true
    → (is_space b ≡ false) × (token_at b bs ≡ (text_at is_word_byte lead (b ∷ bs) >>= word_of))
unfolding token_at
word_starts false b bs begins = let s = letter_starts b begins in (s.1, rw s.0 refl)
word_starts true b bs begins = let e : b ≡ 38 = eqb-true b 38 begins in let s : start_of b ≡ Ampersand = ap start_of e in (ap is_space e, rw s refl)

-- what is read where an integer begins
pub integer_starts : (lead : Bool) (b : ℕ) (bs : List ℕ) → begins_integer lead b ≡ true
    → (is_space b ≡ false) × (token_at b bs ≡ (text_at is_ascii_digit lead (b ∷ bs) >>= number_of))
unfolding token_at
integer_starts false b bs begins = let s = digit_starts b begins in (s.1, rw s.0 refl)
integer_starts true b bs begins = by (eqb b 43) refl begins
  where
    by_byte : (c : ℕ) → b ≡ c → (is_space c ≡ false) × (start_of c ≡ Sign)
        → (is_space b ≡ false) × (token_by (start_of b) (b ∷ bs) ≡ (text_at is_ascii_digit true (b ∷ bs) >>= number_of))
    by_byte c e is = let s : start_of b ≡ Sign = ap start_of e ∙ is.1 in (ap is_space e ∙ is.0, ap (λ (x : Start). token_by x (b ∷ bs)) s)

    by : (t : Bool) → eqb b 43 ≡ t → (eqb b 43 || eqb b 45) ≡ true
        → (is_space b ≡ false) × (token_by (start_of b) (b ∷ bs) ≡ (text_at is_ascii_digit true (b ∷ bs) >>= number_of))
    by true e either = by_byte 43 (eqb-true b 43 e) (refl, refl)
    by false e either = let minus = rw e at either in by_byte 45 (eqb-true b 45 minus) (refl, refl)

-- ---- which token a first byte begins

-- a number for each kind of token
abbrev pub kind : Token → ℕ
kind LeftParen = 0
kind RightParen = 1
kind (Word w) = 2
kind (Number z) = 3
kind (Str s) = 4

abbrev start_kind : Start → ℕ
start_kind Open = 0
start_kind Close = 1
start_kind Letter = 2
start_kind Ampersand = 2
start_kind Digit = 3
start_kind Sign = 3
start_kind Quote = 4
start_kind Other = 5

pub first_byte : (b : ℕ) (bs : List ℕ) (t : Token) → IsLexeme (b ∷ bs) t → start_kind (start_of b) ≡ kind t
first_byte b bs LeftParen is = ap (λ (x : ℕ). start_kind (start_of x)) (head_of b 40 bs [] is).0
first_byte b bs RightParen is = ap (λ (x : ℕ). start_kind (start_of x)) (head_of b 41 bs [] is).0
first_byte b bs (Word w) is = let s = word_shape b bs is.1 in by s.lead s.begins
  where
    by : (lead : Bool) → begins_word lead b ≡ true → start_kind (start_of b) ≡ 2
    by false begins = ap start_kind (letter_starts b begins).0
    by true begins = ap (λ (x : ℕ). start_kind (start_of x)) (eqb-true b 38 begins)
first_byte b bs (Number z) is = let s = integer_shape b bs z is in by s.lead s.begins
  where
    by : (lead : Bool) → begins_integer lead b ≡ true → start_kind (start_of b) ≡ 3
    by false begins = ap start_kind (digit_starts b begins).0
    by true begins = signed_by (eqb b 43) refl begins
      where
        signed_by : (t : Bool) → eqb b 43 ≡ t → (eqb b 43 || eqb b 45) ≡ true → start_kind (start_of b) ≡ 3
        signed_by true e either = ap (λ (x : ℕ). start_kind (start_of x)) (eqb-true b 43 e)
        signed_by false e either = let minus = rw e at either in ap (λ (x : ℕ). start_kind (start_of x)) (eqb-true b 45 minus)
first_byte b bs (Str s) is = ap (λ (x : ℕ). start_kind (start_of x)) (head_of b 34 bs _ is.spelled).0

-- a token has bytes
pub not_empty : (t : Token) → IsLexeme [] t → ⊥
not_empty LeftParen is = cc
not_empty RightParen is = cc
not_empty (Word w) is = let no_word : false ≡ true = is.1 in cc
not_empty (Number z) is = by is.sign is.digits is.spelled is.each
  where
    by : (s : signs.Sign) (digits : List ℕ) → [] ≡ signs.sign_bytes s ++ digits → AreDigits digits → ⊥
    by Unsigned [] e each = omega (arith, each.0)
    by Unsigned (d ∷ ds) e each = cc
    by Plus digits e each = cc
    by Minus digits e each = cc
not_empty (Str s) is = let e = is.spelled in cc

-- what ends a word or an integer goes on in neither
follows_no_word : (b : ℕ) → may_follow b ≡ true → is_word_byte b ≡ false
follows_no_word b h = grind (arith, nat_tests)

follows_no_digit : (b : ℕ) → may_follow b ≡ true → is_ascii_digit b ≡ false
follows_no_digit b h = grind (arith, nat_tests)

pub word_stops : (rest : List ℕ) → EndsRun rest → StopsAt is_word_byte rest
word_stops [] ends = tt
word_stops (b ∷ bs) ends = follows_no_word b ends

pub integer_stops : (rest : List ℕ) → EndsRun rest → StopsAt is_ascii_digit rest
integer_stops [] ends = tt
integer_stops (b ∷ bs) ends = follows_no_digit b ends
