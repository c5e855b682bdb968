-- What the reader of a name, a number, a literal or a directive has behind it, and what it takes.
use Rattle.std.proofs.Common.{◌≡◌, ℕ, ◌+◌, ◌≤◌, Bool, true, false, cond, eqb, leb, not, ◌||◌, List, [], ◌∷◌, ◌++◌, length, Option, Some, None, Ok, Err, IsTrue, refl, sym, ap, ◌∙◌, subst, inl, inr, arith, length-append, append_assoc}
use Rattle.std.specs.Char.{is_ascii_digit, is_ascii_alphabetic}
use Rattle.std.proofs.lemmas.Bool.{leb-false, eqb-true}
use Rattle.nl_bytes.specs.Classes.{is_verilog_space, is_word_byte, is_name_byte, is_number_byte, is_based_byte, is_graphic}
use Rattle.nl_bytes.proofs.Uses.{AllByRecursion-push}
use Rattle.vlog_values.specs.declared.literal.Base.{Base}
use Rattle.vlog_values.specs.declared.literal.Base.TheVariants.{Binary, Octal, Decimal, Hex}
use Rattle.vlog_tokens.specs.declared.phase.Phase.{Phase}
use Rattle.vlog_tokens.specs.declared.phase.Phase.TheVariants as phases
use Rattle.vlog_tokens.specs.declared.phase.Step.{Step}
use Rattle.vlog_tokens.specs.declared.phase.Step.TheVariants.{Keep, Pass, Ends, Bad}
use Rattle.nl_bytes.specs.Flaws.{Piece}
use Rattle.vlog_tokens.specs.Phases.{next_step, is_complete, most_of, is_mark, is_sign, is_open, is_digit, base_of, letter_step, first_digit}
use Rattle.vlog_tokens.specs.Scanning.{Lexeme, scan_at, stepped}
use Rattle.vlog_lexemes.specs.Lexemes.{IsRun, IsSigned, MayFollow, begins_name, digit_byte, is_low_line, one_of}
pub use Rattle.vlog_lexemes.specs.Fronts.{Front, OfName, AtEscape, OfEscaped, OfNumeral, AtPoint, OfFixed, AtMark, AtSign, OfScaled, AtQuote, AtSigned, AtLetter, OfDigits, OfUnknown, AtGrave, OfDirective, front_bytes, front_text, IsMantissa, IsHead, IsFront, follows_of}
use Rattle.vlog_lexemes.proofs.Scans.{Scanned, found_lexeme}

abbrev pub phase_of : Front → Phase
phase_of (OfName bytes) = phases.Word
phase_of AtEscape = phases.Escape
phase_of (OfEscaped name) = phases.Escaped
phase_of (OfNumeral w) = phases.Whole
phase_of (AtPoint w) = phases.Point
phase_of (OfFixed w f) = phases.Fraction
phase_of (AtMark m e) = phases.Mark
phase_of (AtSign m e s) = phases.Sign
phase_of (OfScaled m e s x) = phases.Exponent
phase_of AtQuote = phases.Prefix
phase_of (AtSigned s) = phases.Signed
phase_of (AtLetter sign signed letter base white) = phases.Letter base
phase_of (OfDigits sign signed letter base white digits) = phases.Digits base
phase_of (OfUnknown sign signed letter white digits) = phases.Unknown
phase_of AtGrave = phases.Grave
phase_of (OfDirective word) = phases.Directive

-- what the next byte is to the bytes so far
pub data Turn (f : Front) (b : ℕ) : Step → Type 0 where
  keeps : (g : Front) → IsFront g → front_bytes g ≡ front_bytes f ++ b ∷ [] → front_text g ≡ front_text f ++ b ∷ []
      → most_of (phase_of g) ≡ most_of (phase_of f) → Turn f b (Keep (phase_of g))
  passes : (g : Front) → IsFront g → front_bytes g ≡ front_bytes f ++ b ∷ [] → front_text g ≡ front_text f
      → most_of (phase_of g) ≡ most_of (phase_of f) → Turn f b (Pass (phase_of g))
  ends : is_complete (phase_of f) ≡ true → follows_of f b ≡ true → Turn f b Ends
  bad : Turn f b Bad

pub cond_step : (P : Step → Type 0) (t : Bool) (x y : Step) → (t ≡ true → P x) → (t ≡ false → P y) → P (cond t x y)
cond_step P true x y p q = p refl
cond_step P false x y p q = q refl

run_push : (begins class : ℕ → Bool) (bytes : List ℕ) (b : ℕ) → IsRun begins class bytes → class b ≡ true → IsRun begins class (bytes ++ b ∷ [])
run_push begins class [] b is e = absurd is
run_push begins class (c ∷ cs) b is e = (is.0, AllByRecursion-push (λ x. IsTrue (class x)) cs b is.1 e)

one_run : (begins class : ℕ → Bool) (b : ℕ) → begins b ≡ true → IsRun begins class (b ∷ [])
one_run begins class b e = (e, tt)

not_false : (t : Bool) → t ≡ false → not t ≡ true
not_false false e = refl
not_false true e = absurd cc

none_of : (x y z : Bool) → x ≡ false → y ≡ false → z ≡ false → not (x || y || z) ≡ true
none_of x y z e f g = rw (e, f, g) refl

neither : (x y : Bool) → x ≡ false → y ≡ false → not (x || y) ≡ true
neither x y e f = rw (e, f) refl

-- the letter of a base, or another byte
letter_turn : (f : Front) (b : ℕ) (sign : List ℕ) (signed : Bool) → IsSigned sign signed → 39 ∷ (sign ++ b ∷ []) ≡ front_bytes f ++ b ∷ []
    → front_text f ≡ front_bytes f → most_of (phase_of f) ≡ 131072 → (o : Option Base) → base_of b ≡ o → Turn f b (letter_step o)
unfolding most_of
letter_turn f b sign signed is bytes same most None e = bad
letter_turn f b sign signed is bytes same most (Some base) e =
    keeps (AtLetter sign signed b base []) (is, e, tt) bytes (bytes ∙ ap (λ (z : List ℕ). z ++ b ∷ []) (sym same)) (sym most)

first_turn : (sign : List ℕ) (signed : Bool) (letter : ℕ) (base : Base) (white : List ℕ) (b : ℕ) → IsHead sign signed letter base white
    → is_digit base b ≡ true → Turn (AtLetter sign signed letter base white) b (Keep (phases.Digits base))
unfolding most_of
first_turn sign signed letter base white b is digit =
    keeps (OfDigits sign signed letter base white (b ∷ [])) (is, (digit, tt))
    (ap (λ (z : List ℕ). 39 ∷ z) (sym (append_assoc sign (letter ∷ white) (b ∷ [])))) (ap (λ (z : List ℕ). 39 ∷ z) (sym (append_assoc sign (letter ∷ []) (b ∷ [])))) refl

digit_turn : (sign : List ℕ) (signed : Bool) (letter : ℕ) (base : Base) (white : List ℕ) (b : ℕ) → IsHead sign signed letter base white
    → Turn (AtLetter sign signed letter base white) b (first_digit base b)
unfolding most_of
digit_turn sign signed letter Binary white b is = cond_step (λ s. Turn (AtLetter sign signed letter Binary white) b s) (is_digit Binary b) _ _ (λ e. first_turn sign signed letter Binary white b is e) (λ e. bad)
digit_turn sign signed letter Octal white b is = cond_step (λ s. Turn (AtLetter sign signed letter Octal white) b s) (is_digit Octal b) _ _ (λ e. first_turn sign signed letter Octal white b is e) (λ e. bad)
digit_turn sign signed letter Hex white b is = cond_step (λ s. Turn (AtLetter sign signed letter Hex white) b s) (is_digit Hex b) _ _ (λ e. first_turn sign signed letter Hex white b is e) (λ e. bad)
digit_turn sign signed letter Decimal white b is =
    cond_step (λ s. Turn (AtLetter sign signed letter Decimal white) b s) (is_ascii_digit b) _ _ (λ e. first_turn sign signed letter Decimal white b is e)
    (λ no_digit. cond_step (λ s. Turn (AtLetter sign signed letter Decimal white) b s) (is_open b) _ _
    (λ e. keeps (OfUnknown sign signed letter white (b ∷ [])) (is, (e, tt)) (ap (λ (z : List ℕ). 39 ∷ z) (sym (append_assoc sign (letter ∷ white) (b ∷ []))))
    (ap (λ (z : List ℕ). 39 ∷ z) (sym (append_assoc sign (letter ∷ []) (b ∷ [])))) refl)
    (λ e. bad))

inner : (sign white digits : List ℕ) (letter b : ℕ)
    → 39 ∷ (sign ++ letter ∷ (white ++ (digits ++ b ∷ []))) ≡ (39 ∷ (sign ++ letter ∷ (white ++ digits))) ++ b ∷ []
inner sign white digits letter b =
    ap (λ (z : List ℕ). 39 ∷ (sign ++ letter ∷ z)) (sym (append_assoc white digits (b ∷ []))) ∙ ap (λ (z : List ℕ). 39 ∷ z) (sym (append_assoc sign (letter ∷ (white ++ digits)) (b ∷ [])))

pub turn : (f : Front) (b : ℕ) → IsFront f → Turn f b (next_step (phase_of f) b)
unfolding next_step is_complete most_of
turn (OfName bytes) b is =
    cond_step (λ s. Turn (OfName bytes) b s) (is_name_byte b) _ _ (λ e. keeps (OfName (bytes ++ b ∷ [])) (run_push begins_name is_name_byte bytes b is e) refl refl refl) (λ e. ends refl (not_false (is_name_byte b) e))
turn AtEscape b is =
    cond_step (λ s. Turn AtEscape b s) (is_graphic b) _ _ (λ e. keeps (OfEscaped (b ∷ [])) (one_run is_graphic is_graphic b e) refl refl refl) (λ e. bad)
turn (OfEscaped name) b is =
    cond_step (λ s. Turn (OfEscaped name) b s) (is_graphic b) _ _ (λ e. keeps (OfEscaped (name ++ b ∷ [])) (run_push is_graphic is_graphic name b is e) refl refl refl)
    (λ no. cond_step (λ s. Turn (OfEscaped name) b s) (is_verilog_space b) _ _ (λ e. ends refl e) (λ e. bad))
turn (OfNumeral w) b is =
    cond_step (λ s. Turn (OfNumeral w) b s) (is_number_byte b) _ _ (λ e. keeps (OfNumeral (w ++ b ∷ [])) (run_push is_ascii_digit is_number_byte w b is e) refl refl refl)
    (λ n0. cond_step (λ s. Turn (OfNumeral w) b s) (eqb b 46) _ _
    (λ e. let same : w ++ 46 ∷ [] ≡ w ++ b ∷ [] = ap (λ (z : ℕ). w ++ z ∷ []) (sym (eqb-true b 46 e)) in keeps (AtPoint w) is same same refl)
    (λ n1. cond_step (λ s. Turn (OfNumeral w) b s) (is_mark b) _ _ (λ e. keeps (AtMark w b) (inl is, e) refl refl refl) (λ n2. ends refl (none_of (is_number_byte b) (eqb b 46) (is_mark b) n0 n1 n2))))
turn (AtPoint w) b is =
    cond_step (λ s. Turn (AtPoint w) b s) (is_ascii_digit b) _ _
    (λ e. let same = sym (append_assoc w (46 ∷ []) (b ∷ [])) in keeps (OfFixed w (b ∷ [])) (is, one_run is_ascii_digit is_number_byte b e) same same refl) (λ e. bad)
turn (OfFixed w f) b is =
    cond_step (λ s. Turn (OfFixed w f) b s) (is_number_byte b) _ _
    (λ e. let same = sym (append_assoc w (46 ∷ f) (b ∷ [])) in keeps (OfFixed w (f ++ b ∷ [])) (is.0, run_push is_ascii_digit is_number_byte f b is.1 e) same same refl)
    (λ n0. cond_step (λ s. Turn (OfFixed w f) b s) (is_mark b) _ _
    (λ e. keeps (AtMark (w ++ 46 ∷ f) b) (inr (record { whole = w; fraction = f; spelled = refl; before = is.0; behind = is.1 }), e) refl refl refl)
    (λ n1. ends refl (neither (is_number_byte b) (is_mark b) n0 n1)))
turn (AtMark m x) b is =
    cond_step (λ s. Turn (AtMark m x) b s) (is_ascii_digit b) _ _
    (λ e. let same = sym (append_assoc m (x ∷ []) (b ∷ [])) in keeps (OfScaled m x [] (b ∷ [])) (is.0, is.1, tt, one_run is_ascii_digit is_number_byte b e) same same refl)
    (λ no. cond_step (λ s. Turn (AtMark m x) b s) (is_sign b) _ _
    (λ e. let same = sym (append_assoc m (x ∷ []) (b ∷ [])) in keeps (AtSign m x b) (is.0, is.1, e) same same refl) (λ e. bad))
turn (AtSign m x s) b is =
    cond_step (λ t. Turn (AtSign m x s) b t) (is_ascii_digit b) _ _
    (λ e. let same = sym (append_assoc m (x ∷ s ∷ []) (b ∷ [])) in keeps (OfScaled m x (s ∷ []) (b ∷ [])) (is.0, is.1, is.2, one_run is_ascii_digit is_number_byte b e) same same refl) (λ e. bad)
turn (OfScaled m x s y) b is =
    cond_step (λ t. Turn (OfScaled m x s y) b t) (is_number_byte b) _ _
    (λ e. let same = ap (λ (z : List ℕ). m ++ x ∷ z) (sym (append_assoc s y (b ∷ []))) ∙ sym (append_assoc m (x ∷ (s ++ y)) (b ∷ [])) in
    keeps (OfScaled m x s (y ++ b ∷ [])) (is.0, is.1, is.2, run_push is_ascii_digit is_number_byte y b is.3 e) same same refl)
    (λ e. ends refl (not_false (is_number_byte b) e))
turn AtQuote b is =
    cond_step (λ s. Turn AtQuote b s) (eqb b 115 || eqb b 83) _ _ (λ e. keeps (AtSigned b) e refl refl refl)
    (λ e. letter_turn AtQuote b [] false refl refl refl refl (base_of b) refl)
turn (AtSigned s) b is = letter_turn (AtSigned s) b (s ∷ []) true (is, refl) refl refl refl (base_of b) refl
turn (AtLetter sign signed letter base white) b is =
    cond_step (λ s. Turn (AtLetter sign signed letter base white) b s) (is_verilog_space b) _ _
    (λ e. passes (AtLetter sign signed letter base (white ++ b ∷ [])) (is.0, is.1, AllByRecursion-push (λ x. IsTrue (is_verilog_space x)) white b is.2 e)
    (ap (λ (z : List ℕ). 39 ∷ z) (sym (append_assoc sign (letter ∷ white) (b ∷ [])))) refl refl)
    (λ e. digit_turn sign signed letter base white b is)
turn (OfDigits sign signed letter base white digits) b is =
    cond_step (λ s. Turn (OfDigits sign signed letter base white digits) b s) (is_digit base b || eqb b 95) _ _
    (λ e. keeps (OfDigits sign signed letter base white (digits ++ b ∷ [])) (is.0, run_push (is_digit base) (digit_byte base) digits b is.1 e) (inner sign white digits letter b) (inner sign [] digits letter b) refl)
    (λ no. cond_step (λ s. Turn (OfDigits sign signed letter base white digits) b s) (is_based_byte b) _ _ (λ e. bad) (λ e. ends refl (not_false (is_based_byte b) e)))
turn (OfUnknown sign signed letter white digits) b is =
    cond_step (λ s. Turn (OfUnknown sign signed letter white digits) b s) (eqb b 95) _ _
    (λ e. keeps (OfUnknown sign signed letter white (digits ++ b ∷ [])) (is.0, run_push is_open is_low_line digits b is.1 e) (inner sign white digits letter b) (inner sign [] digits letter b) refl)
    (λ no. cond_step (λ s. Turn (OfUnknown sign signed letter white digits) b s) (is_based_byte b) _ _ (λ e. bad) (λ e. ends refl (not_false (is_based_byte b) e)))
turn AtGrave b is =
    cond_step (λ s. Turn AtGrave b s) (is_ascii_alphabetic b || eqb b 95) _ _ (λ e. keeps (OfDirective (b ∷ [])) (one_run begins_name is_word_byte b e) refl refl refl) (λ e. bad)
turn (OfDirective word) b is =
    cond_step (λ s. Turn (OfDirective word) b s) (is_word_byte b) _ _ (λ e. keeps (OfDirective (word ++ b ∷ [])) (run_push begins_name is_word_byte word b is e) refl refl refl) (λ e. ends refl (not_false (is_word_byte b) e))

-- ---- all bytes

-- a token at the front of some bytes, by what is behind its reader
pub record IsScanned (bytes : List ℕ) (piece : Piece Lexeme) : Type 0 where
  pub front : Front
  pub rest : List ℕ
  pub is_bytes : bytes ≡ front_bytes front ++ rest
  pub is : IsFront front
  pub complete : is_complete (phase_of front) ≡ true
  pub behind : MayFollow (follows_of front) rest
  pub phase : piece.value.phase ≡ phase_of front
  pub text : piece.value.text ≡ front_text front
  pub count : piece.count ≡ length (front_bytes front)
  pub seen : piece.seen ≡ length (front_bytes front) + one_of rest
  pub short : length (front_text front) ≤ most_of (phase_of front)

abbrev phase_in : Scanned → Phase
phase_in (Ok x) = x.value.phase
phase_in (Err f) = phases.Word

abbrev text_in : Scanned → List ℕ
text_in (Ok x) = x.value.text
text_in (Err f) = []

abbrev count_in : Scanned → ℕ
count_in (Ok x) = x.count
count_in (Err f) = 0

abbrev seen_in : Scanned → ℕ
seen_in (Ok x) = x.seen
seen_in (Err f) = 0

here : (f : Front) (rest : List ℕ) (k : ℕ) (piece : Piece Lexeme) → IsFront f → is_complete (phase_of f) ≡ true → MayFollow (follows_of f) rest
    → length (front_text f) ≤ most_of (phase_of f) → k ≡ one_of rest
    → found_lexeme (phase_of f) (front_text f) (length (front_bytes f)) (length (front_bytes f) + k) ≡ Ok piece
    → IsScanned (front_bytes f ++ rest) piece
here f rest k piece is complete behind short one e = record {
  front = f;
  rest = rest;
  is_bytes = refl;
  is = is;
  complete = complete;
  behind = behind;
  phase = sym (ap phase_in e);
  text = sym (ap text_in e);
  count = sym (ap count_in e);
  seen = sym (ap seen_in e) ∙ ap (λ (j : ℕ). length (front_bytes f) + j) one;
  short = short;
}

abbrev Hypothesis : List ℕ → Type 0
Hypothesis bs = (f : Front) (piece : Piece Lexeme) → IsFront f → length (front_text f) ≤ most_of (phase_of f) → scan_at (phase_of f) (front_text f) (length (front_bytes f)) bs ≡ Ok piece → IsScanned (front_bytes f ++ bs) piece

-- what is read behind one byte more
behind_byte : (f g : Front) (b : ℕ) (bs text : List ℕ) (piece : Piece Lexeme) → Hypothesis bs → IsFront g → front_bytes g ≡ front_bytes f ++ b ∷ []
    → front_text g ≡ text → length text ≤ most_of (phase_of g) → scan_at (phase_of g) text (length (front_bytes f) + 1) bs ≡ Ok piece
    → IsScanned (front_bytes f ++ b ∷ bs) piece
behind_byte f g b bs text piece others is bytes same short e =
    let count : length (front_bytes g) ≡ length (front_bytes f) + 1 = omega (arith, ap (length {A = ℕ}) bytes, length-append (front_bytes f) (b ∷ [])) in
    let run = ap (λ (z : List ℕ). scan_at (phase_of g) z (length (front_bytes g)) bs) same ∙ ap (λ (k : ℕ). scan_at (phase_of g) text k bs) count ∙ e in
    subst (λ (z : List ℕ). IsScanned z piece) (ap (λ (z : List ℕ). z ++ bs) bytes ∙ append_assoc (front_bytes f) (b ∷ []) bs) (others g piece is (subst (λ (z : List ℕ). length z ≤ most_of (phase_of g)) (sym same) short) run)

split_cond : {P : Type 0} (t : Bool) (x y : Scanned) (piece : Piece Lexeme) → cond t x y ≡ Ok piece → (t ≡ true → x ≡ Ok piece → P)
    → (t ≡ false → y ≡ Ok piece → P) → P
split_cond {P} true x y piece e p q = p refl e
split_cond {P} false x y piece e p q = q refl e

by_turn : (f : Front) (b : ℕ) (bs : List ℕ) (piece : Piece Lexeme) (s : Step) → Turn f b s → IsFront f → length (front_text f) ≤ most_of (phase_of f)
    → Hypothesis bs
    → stepped s (phase_of f) (front_text f) (length (front_bytes f)) b (λ next kept. scan_at next kept (length (front_bytes f) + 1) bs) ≡ Ok piece
    → IsScanned (front_bytes f ++ b ∷ bs) piece
by_turn f b bs piece s (keeps g is bytes text most) is_front short others e =
    split_cond (leb (most_of (phase_of f)) (length (front_text f))) _ _ piece e (λ full no. absurd cc)
    (λ free ok. let lt = leb-false _ _ free in
    behind_byte f g b bs (front_text f ++ b ∷ []) piece others is bytes text (omega (arith, lt, most, length-append (front_text f) (b ∷ []))) ok)
by_turn f b bs piece s (passes g is bytes text most) is_front short others e = behind_byte f g b bs (front_text f) piece others is bytes text (omega (arith, short, most)) e
by_turn f b bs piece s (ends complete follows) is_front short others e = here f (b ∷ bs) 1 piece is_front complete follows short refl e
by_turn f b bs piece s bad is_front short others e = absurd cc

pub scan_sound : (bs : List ℕ) → Hypothesis bs
unfolding scan_at
scan_sound [] f piece is short e =
    split_cond (is_complete (phase_of f)) _ _ piece e (λ complete ok. here f [] 0 piece is complete tt short refl ok) (λ no bad_end. absurd cc)
scan_sound (b ∷ bs) f piece is short e = by_turn f b bs piece (next_step (phase_of f) b) (turn f b is) is short (scan_sound bs) e
