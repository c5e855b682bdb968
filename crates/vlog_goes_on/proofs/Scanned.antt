-- What the bytes of a word and of a directive are, as they are scanned.
use Rattle.std.proofs.Common.{◌≡◌, refl, ap, ℕ, ◌+◌, ◌<◌, ◌≤◌, Bool, true, false, cond, leb, eqb, List, [], ◌∷◌, ◌++◌, length, Option, Some, None, Result, arith, length-append}
use Rattle.std.specs.Prelude.{⊤, ◌&&◌, ◌||◌, IfOk}
use Rattle.std.specs.Char.{is_ascii_digit, is_ascii_alphabetic}
use Rattle.std.specs.List.{list_all}
use Rattle.std.proofs.lemmas.Bool.{leb-false}
use Rattle.nl_base.specs.declared.fault.Reason.TheVariants.{EndOfInput, TokenTooLong}
use Rattle.nl_bytes.specs.Classes.{is_verilog_space, is_name_byte, is_number_byte, is_based_byte, is_word_byte, is_graphic}
use Rattle.vlog_values.specs.declared.literal.Base.{Base}
use Rattle.vlog_values.specs.declared.literal.Base.TheVariants.{Binary, Octal, Decimal, Hex}
use Rattle.vlog_tokens.specs.declared.phase.Phase.{Phase}
use Rattle.vlog_tokens.specs.declared.phase.Phase.TheVariants as phase
use Rattle.vlog_tokens.specs.declared.phase.Step.{Step}
use Rattle.vlog_tokens.specs.declared.phase.Step.TheVariants.{Keep, Pass, Ends, Bad}
use Rattle.nl_bytes.specs.Flaws.{Piece, Flaw, flaw}
use Rattle.vlog_tokens.specs.Phases.{next_step, is_complete, most_of, base_of, letter_step, based_step, first_digit, is_digit, is_open, is_sign}
use Rattle.vlog_tokens.specs.Phases as phases
use Rattle.vlog_tokens.specs.Scanning.{Lexeme, scan_at, stepped, ended}
use Rattle.vlog_writer.specs.Spelling.{is_simple}

-- a directive's bytes so far
pub record Directive (text : List ℕ) : Type 0 where
  pub one : ℕ
  pub rest : List ℕ
  pub spelled : text ≡ 96 ∷ one ∷ rest
  pub begins : (is_ascii_alphabetic one || eqb one 95) ≡ true
  pub follows : list_all is_word_byte rest ≡ true
  pub short : length text ≤ 1024

-- what the bytes of a token so far are
abbrev pub IsSoFar : Phase → List ℕ → Type 0
IsSoFar phase.Word text = (is_simple text ≡ true) × (length text ≤ 1024)
IsSoFar phase.Escape text = ⊤
IsSoFar phase.Escaped text = ⊤
IsSoFar phase.Whole text = ⊤
IsSoFar phase.Point text = ⊤
IsSoFar phase.Fraction text = ⊤
IsSoFar phase.Mark text = ⊤
IsSoFar phase.Sign text = ⊤
IsSoFar phase.Exponent text = ⊤
IsSoFar phase.Prefix text = ⊤
IsSoFar phase.Signed text = ⊤
IsSoFar (phase.Letter base) text = ⊤
IsSoFar (phase.Digits base) text = ⊤
IsSoFar phase.Unknown text = ⊤
IsSoFar phase.Grave text = text ≡ 96 ∷ []
IsSoFar phase.Directive text = Directive text

-- ---- one byte more

abbrev IsStep : Phase → List ℕ → ℕ → Step → Type 0
IsStep p text b (Keep q) = length text < most_of p → IsSoFar q (text ++ b ∷ [])
IsStep p text b (Pass q) = IsSoFar q text
IsStep p text b Ends = ⊤
IsStep p text b Bad = ⊤

by_test : (p : Phase) (text : List ℕ) (b : ℕ) (t : Bool) (x y : Step) → (t ≡ true → IsStep p text b x) → IsStep p text b y
    → IsStep p text b (cond t x y)
by_test p text b true x y h k = h refl
by_test p text b false x y h k = k

and_both : (a b : Bool) → (a && b) ≡ true → (a ≡ true) × (b ≡ true)
and_both true b h = (refl, h)
and_both false b h = absurd cc

all_push : (class : ℕ → Bool) (bs : List ℕ) (b : ℕ) → list_all class bs ≡ true → class b ≡ true → list_all class (bs ++ b ∷ []) ≡ true
all_push class [] b h e = rw e refl
all_push class (c ∷ cs) b h e = let p = and_both (class c) (list_all class cs) h in rw (p.0, all_push class cs b p.1 e) refl

simple_push : (text : List ℕ) (b : ℕ) → is_simple text ≡ true → is_name_byte b ≡ true → is_simple (text ++ b ∷ []) ≡ true
unfolding is_simple
simple_push [] b h e = absurd cc
simple_push (c ∷ cs) b h e =
    let p = and_both (is_ascii_alphabetic c || eqb c 95) (list_all is_name_byte cs) h in rw (p.0, all_push is_name_byte cs b p.1 e) refl

word_push : (text : List ℕ) (b : ℕ) → IsSoFar phase.Word text → is_name_byte b ≡ true → length text < 1024 → IsSoFar phase.Word (text ++ b ∷ [])
word_push text b h e room = (simple_push text b h.0 e, omega (arith, room, length-append text (b ∷ [])))

directive_first : (text : List ℕ) (b : ℕ) → text ≡ 96 ∷ [] → (is_ascii_alphabetic b || eqb b 95) ≡ true → length text < 1024
    → Directive (text ++ b ∷ [])
directive_first text b h e room =
    record { one = b; rest = []; spelled = ap (λ (z : List ℕ). z ++ b ∷ []) h; begins = e; follows = refl; short = omega (arith, room, length-append text (b ∷ [])) }

directive_push : (text : List ℕ) (b : ℕ) → Directive text → is_word_byte b ≡ true → length text < 1024 → Directive (text ++ b ∷ [])
directive_push text b h e room = record {
  one = h.one;
  rest = h.rest ++ b ∷ [];
  spelled = ap (λ (z : List ℕ). z ++ b ∷ []) h.spelled;
  begins = h.begins;
  follows = all_push is_word_byte h.rest b h.follows e;
  short = omega (arith, room, length-append text (b ∷ []));
}

letter_step_known : (p : Phase) (text : List ℕ) (b : ℕ) (o : Option Base) → IsStep p text b (letter_step o)
letter_step_known p text b (Some base) = λ _. tt
letter_step_known p text b None = tt

digit_known : (p : Phase) (base : Base) (text : List ℕ) (b : ℕ) → IsStep p text b (first_digit base b)
digit_known p Binary text b = by_test p text b (is_digit Binary b) (Keep (phase.Digits Binary)) Bad (λ _ _. tt) tt
digit_known p Octal text b = by_test p text b (is_digit Octal b) (Keep (phase.Digits Octal)) Bad (λ _ _. tt) tt
digit_known p Hex text b = by_test p text b (is_digit Hex b) (Keep (phase.Digits Hex)) Bad (λ _ _. tt) tt
digit_known p Decimal text b =
    by_test p text b (is_ascii_digit b) (Keep (phase.Digits Decimal)) _ (λ _ _. tt) (by_test p text b (is_open b) (Keep phase.Unknown) Bad (λ _ _. tt) tt)

step_known : (p : Phase) (text : List ℕ) (b : ℕ) → IsSoFar p text → IsStep p text b (next_step p b)
unfolding next_step most_of
step_known phase.Word text b h = by_test phase.Word text b (is_name_byte b) (Keep phase.Word) Ends (λ e room. word_push text b h e room) tt
step_known phase.Escape text b h = by_test phase.Escape text b (is_graphic b) (Keep phase.Escaped) Bad (λ _ _. tt) tt
step_known phase.Escaped text b h =
    by_test phase.Escaped text b (is_graphic b) (Keep phase.Escaped) _ (λ _ _. tt) (by_test phase.Escaped text b (is_verilog_space b) Ends Bad (λ _. tt) tt)
step_known phase.Whole text b h =
    by_test phase.Whole text b (is_number_byte b) (Keep phase.Whole) _ (λ _ _. tt)
    (by_test phase.Whole text b (eqb b 46) (Keep phase.Point) _ (λ _ _. tt) (by_test phase.Whole text b (phases.is_mark b) (Keep phase.Mark) Ends (λ _ _. tt) tt))
step_known phase.Point text b h = by_test phase.Point text b (is_ascii_digit b) (Keep phase.Fraction) Bad (λ _ _. tt) tt
step_known phase.Fraction text b h =
    by_test phase.Fraction text b (is_number_byte b) (Keep phase.Fraction) _ (λ _ _. tt) (by_test phase.Fraction text b (phases.is_mark b) (Keep phase.Mark) Ends (λ _ _. tt) tt)
step_known phase.Mark text b h =
    by_test phase.Mark text b (is_ascii_digit b) (Keep phase.Exponent) _ (λ _ _. tt) (by_test phase.Mark text b (is_sign b) (Keep phase.Sign) Bad (λ _ _. tt) tt)
step_known phase.Sign text b h = by_test phase.Sign text b (is_ascii_digit b) (Keep phase.Exponent) Bad (λ _ _. tt) tt
step_known phase.Exponent text b h = by_test phase.Exponent text b (is_number_byte b) (Keep phase.Exponent) Ends (λ _ _. tt) tt
step_known phase.Prefix text b h =
    by_test phase.Prefix text b (eqb b 115 || eqb b 83) (Keep phase.Signed) _ (λ _ _. tt) (letter_step_known phase.Prefix text b (base_of b))
step_known phase.Signed text b h = letter_step_known phase.Signed text b (base_of b)
step_known (phase.Letter base) text b h =
    by_test (phase.Letter base) text b (is_verilog_space b) (Pass (phase.Letter base)) _ (λ _. tt) (digit_known (phase.Letter base) base text b)
step_known (phase.Digits base) text b h =
    by_test (phase.Digits base) text b (is_digit base b || eqb b 95) (Keep (phase.Digits base)) _ (λ _ _. tt) (by_test (phase.Digits base) text b (is_based_byte b) Bad Ends (λ _. tt) tt)
step_known phase.Unknown text b h =
    by_test phase.Unknown text b (eqb b 95) (Keep phase.Unknown) _ (λ _ _. tt) (by_test phase.Unknown text b (is_based_byte b) Bad Ends (λ _. tt) tt)
step_known phase.Grave text b h =
    by_test phase.Grave text b (is_ascii_alphabetic b || eqb b 95) (Keep phase.Directive) Bad (λ e room. directive_first text b h e room) tt
step_known phase.Directive text b h =
    by_test phase.Directive text b (is_word_byte b) (Keep phase.Directive) Ends (λ e room. directive_push text b h e room) tt

-- ---- what is scanned

abbrev pub IsScanned : Piece Lexeme → Type 0
IsScanned x = IsSoFar x.value.phase x.value.text

stepped_known : (s : Step) (p : Phase) (text : List ℕ) (n b : ℕ) (after : Phase → List ℕ → Result (Piece Lexeme) Flaw) → IsSoFar p text
    → IsStep p text b s
    → ((q : Phase) (more : List ℕ) → IsSoFar q more → IfOk (after q more) IsScanned) → IfOk (stepped s p text n b after) IsScanned
stepped_known (Keep q) p text n b after h step rest = go (leb (most_of p) (length text)) refl
  where
    go : (t : Bool) → leb (most_of p) (length text) ≡ t
        → IfOk (cond t (flaw {A = Piece Lexeme} TokenTooLong 0 (n + 1)) (after q (text ++ b ∷ []))) IsScanned
    go true e = tt
    go false e = rest q (text ++ b ∷ []) (step (leb-false (most_of p) (length text) e))
stepped_known (Pass q) p text n b after h step rest = rest q text step
stepped_known Ends p text n b after h step rest = h
stepped_known Bad p text n b after h step rest = tt

pub scan_known : (p : Phase) (text : List ℕ) (n : ℕ) (bs : List ℕ) → IsSoFar p text → IfOk (scan_at p text n bs) IsScanned
unfolding scan_at
scan_known p text n [] h = go (is_complete p)
  where
    go : (t : Bool) → IfOk (cond t (ended p text n None) (flaw {A = Piece Lexeme} EndOfInput n n)) IsScanned
    go true = h
    go false = tt
scan_known p text n (b ∷ bs) h =
    stepped_known (next_step p b) p text n b (λ q more. scan_at q more (n + 1) bs) h (step_known p text b h) (λ q more is. scan_known q more (n + 1) bs is)
