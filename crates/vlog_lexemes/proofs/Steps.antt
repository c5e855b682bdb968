-- What the next byte is to the bytes so far, by the table, and where such bytes lead a reader.
use Rattle.std.proofs.Common.{◌≡◌, ℕ, ◌+◌, ◌≤◌, Bool, true, false, cond, eqb, leb, not, ◌&&◌, ◌||◌, List, [], ◌∷◌, ◌++◌, length, Option, Some, None, Ok, Err, refl, sym, ap, ◌∙◌, subst, arith, length-append, append_assoc, append-nil}
use Rattle.std.specs.Char.{is_ascii_digit, is_ascii_alphabetic}
use Rattle.std.proofs.lemmas.Bool.{le-leb, leb-true, leb-false}
use Rattle.nl_base.specs.declared.fault.Reason.TheVariants.{EndOfInput, BadByte, TokenTooLong}
use Rattle.nl_bytes.specs.Classes.{is_verilog_space, is_word_byte, is_name_byte, is_number_byte, is_based_byte, is_graphic}
use Rattle.vlog_values.specs.declared.literal.Base.{Base}
use Rattle.vlog_values.specs.declared.literal.Base.TheVariants.{Binary, Octal, Decimal, Hex}
use Rattle.vlog_tokens.specs.declared.phase.Phase.{Phase}
use Rattle.vlog_tokens.specs.declared.phase.Step.{Step}
use Rattle.vlog_tokens.specs.declared.phase.Step.TheVariants.{Keep, Pass, Ends, Bad}
use Rattle.nl_bytes.specs.Flaws.{Flaw, flaw}
use Rattle.vlog_tokens.specs.Phases.{next_step, is_complete, most_of, is_mark, is_sign, is_open, is_digit, base_of, letter_step, first_digit}
use Rattle.vlog_tokens.specs.Scanning.{scan_at, stepped}
use Rattle.vlog_lexemes.specs.Lexemes.{digit_byte, is_low_line}
use Rattle.vlog_lexemes.specs.Fronts.{is_whole, most_kept, names_base, is_first, goes_on, may_stand}
use Rattle.vlog_lexemes.proofs.Scans.{Scanned}
use Rattle.vlog_lexemes.proofs.Fronts.{Front, OfName, AtEscape, OfEscaped, OfNumeral, AtPoint, OfFixed, AtMark, AtSign, OfScaled, AtQuote, AtSigned, AtLetter, OfDigits, OfUnknown, AtGrave, OfDirective, phase_of, front_bytes, front_text, IsFront, Turn, keeps, passes, ends, bad, turn, cond_step}

-- what the table says of a byte that is this to the bytes so far
abbrev Says : Front → ℕ → Step → Type 0
Says f b (Keep next) = (goes_on f b ≡ true) × (may_stand f b ≡ true)
Says f b (Pass next) = (goes_on f b ≡ false) × (may_stand f b ≡ true)
Says f b Ends = (goes_on f b ≡ false) × (may_stand f b ≡ true)
Says f b Bad = (goes_on f b ≡ false) × (may_stand f b ≡ false)

or_left : (x y : Bool) → x ≡ true → (x || y) ≡ true
or_left x y e = rw e refl

or_right : (x y : Bool) (t : Bool) → x ≡ false → y ≡ t → (x || y) ≡ t
or_right x y t e f = rw (e, f) refl

first_of_three : (x y z : Bool) → x ≡ true → (x || y || z) ≡ true
first_of_three x y z e = rw e refl

second_of_three : (x y z : Bool) → x ≡ false → y ≡ true → (x || y || z) ≡ true
second_of_three x y z e f = rw (e, f) refl

third_of_three : (x y z t : Bool) → x ≡ false → y ≡ false → z ≡ t → (x || y || z) ≡ t
third_of_three x y z t e f g = rw (e, f, g) refl

not_and_left : (x y : Bool) → x ≡ true → (not x && y) ≡ false
not_and_left x y e = rw e refl

not_and_right : (x y : Bool) → x ≡ false → (not x && y) ≡ y
not_and_right x y e = rw e refl

or_not : (x y t : Bool) → x ≡ false → y ≡ t → (x || not y) ≡ not t
or_not x y t e f = rw (e, f) refl

letter_says : (f : Front) (b : ℕ) → goes_on f b ≡ names_base (base_of b) → may_stand f b ≡ names_base (base_of b) → (o : Option Base) → base_of b ≡ o
    → Says f b (letter_step o)
letter_says f b goes stands None e = (goes ∙ ap names_base e, stands ∙ ap names_base e)
letter_says f b goes stands (Some base) e = (goes ∙ ap names_base e, stands ∙ ap names_base e)

first_says : (f : Front) (b : ℕ) (base : Base) → goes_on f b ≡ is_first base b → may_stand f b ≡ is_first base b → Says f b (first_digit base b)
first_says f b Binary goes stands = cond_step (Says f b) (is_digit Binary b) _ _ (λ e. (goes ∙ e, stands ∙ e)) (λ e. (goes ∙ e, stands ∙ e))
first_says f b Octal goes stands = cond_step (Says f b) (is_digit Octal b) _ _ (λ e. (goes ∙ e, stands ∙ e)) (λ e. (goes ∙ e, stands ∙ e))
first_says f b Hex goes stands = cond_step (Says f b) (is_digit Hex b) _ _ (λ e. (goes ∙ e, stands ∙ e)) (λ e. (goes ∙ e, stands ∙ e))
first_says f b Decimal goes stands = cond_step (Says f b) (is_ascii_digit b) _ _ (λ e. (goes ∙ or_left (is_ascii_digit b) (is_open b) e, stands ∙ or_left (is_ascii_digit b) (is_open b) e))
    (λ n. cond_step (Says f b) (is_open b) _ _ (λ e. (goes ∙ or_right (is_ascii_digit b) (is_open b) true n e, stands ∙ or_right (is_ascii_digit b) (is_open b) true n e))
    (λ e. (goes ∙ or_right (is_ascii_digit b) (is_open b) false n e, stands ∙ or_right (is_ascii_digit b) (is_open b) false n e)))

step_says : (f : Front) (b : ℕ) → Says f b (next_step (phase_of f) b)
unfolding next_step
step_says (OfName bytes) b = cond_step (Says (OfName bytes) b) (is_name_byte b) _ _ (λ e. (e, refl)) (λ e. (e, refl))
step_says AtEscape b = cond_step (Says AtEscape b) (is_graphic b) _ _ (λ e. (e, e)) (λ e. (e, e))
step_says (OfEscaped name) b = cond_step (Says (OfEscaped name) b) (is_graphic b) _ _ (λ e. (e, or_left (is_graphic b) (is_verilog_space b) e))
    (λ n. cond_step (Says (OfEscaped name) b) (is_verilog_space b) _ _ (λ e. (n, or_right (is_graphic b) (is_verilog_space b) true n e)) (λ e. (n, or_right (is_graphic b) (is_verilog_space b) false n e)))
step_says (OfNumeral w) b = cond_step (Says (OfNumeral w) b) (is_number_byte b) _ _ (λ e. (first_of_three (is_number_byte b) (eqb b 46) (is_mark b) e, refl))
    (λ n. cond_step (Says (OfNumeral w) b) (eqb b 46) _ _ (λ e. (second_of_three (is_number_byte b) (eqb b 46) (is_mark b) n e, refl))
    (λ m. cond_step (Says (OfNumeral w) b) (is_mark b) _ _ (λ e. (third_of_three (is_number_byte b) (eqb b 46) (is_mark b) true n m e, refl)) (λ e. (third_of_three (is_number_byte b) (eqb b 46) (is_mark b) false n m e, refl))))
step_says (AtPoint w) b = cond_step (Says (AtPoint w) b) (is_ascii_digit b) _ _ (λ e. (e, e)) (λ e. (e, e))
step_says (OfFixed w f) b = cond_step (Says (OfFixed w f) b) (is_number_byte b) _ _ (λ e. (or_left (is_number_byte b) (is_mark b) e, refl))
    (λ n. cond_step (Says (OfFixed w f) b) (is_mark b) _ _ (λ e. (or_right (is_number_byte b) (is_mark b) true n e, refl)) (λ e. (or_right (is_number_byte b) (is_mark b) false n e, refl)))
step_says (AtMark m x) b = cond_step (Says (AtMark m x) b) (is_ascii_digit b) _ _ (λ e. (or_left (is_ascii_digit b) (is_sign b) e, or_left (is_ascii_digit b) (is_sign b) e))
    (λ n. cond_step (Says (AtMark m x) b) (is_sign b) _ _ (λ e. (or_right (is_ascii_digit b) (is_sign b) true n e, or_right (is_ascii_digit b) (is_sign b) true n e))
    (λ e. (or_right (is_ascii_digit b) (is_sign b) false n e, or_right (is_ascii_digit b) (is_sign b) false n e)))
step_says (AtSign m x s) b = cond_step (Says (AtSign m x s) b) (is_ascii_digit b) _ _ (λ e. (e, e)) (λ e. (e, e))
step_says (OfScaled m x s y) b = cond_step (Says (OfScaled m x s y) b) (is_number_byte b) _ _ (λ e. (e, refl)) (λ e. (e, refl))
step_says AtQuote b = cond_step (Says AtQuote b) (eqb b 115 || eqb b 83) _ _ (λ e. (or_left (eqb b 115 || eqb b 83) (names_base (base_of b)) e, or_left (eqb b 115 || eqb b 83) (names_base (base_of b)) e))
    (λ n. letter_says AtQuote b (or_right (eqb b 115 || eqb b 83) (names_base (base_of b)) (names_base (base_of b)) n refl) (or_right (eqb b 115 || eqb b 83) (names_base (base_of b)) (names_base (base_of b)) n refl) (base_of b) refl)
step_says (AtSigned s) b = letter_says (AtSigned s) b refl refl (base_of b) refl
step_says (AtLetter sign signed letter base white) b = cond_step (Says (AtLetter sign signed letter base white) b) (is_verilog_space b) _ _
    (λ e. (not_and_left (is_verilog_space b) (is_first base b) e, or_left (is_verilog_space b) (is_first base b) e))
    (λ n. first_says (AtLetter sign signed letter base white) b base (not_and_right (is_verilog_space b) (is_first base b) n) (or_right (is_verilog_space b) (is_first base b) (is_first base b) n refl))
step_says (OfDigits sign signed letter base white digits) b = cond_step (Says (OfDigits sign signed letter base white digits) b) (is_digit base b || eqb b 95) _ _ (λ e. (e, or_left (digit_byte base b) (not (is_based_byte b)) e))
    (λ n. cond_step (Says (OfDigits sign signed letter base white digits) b) (is_based_byte b) _ _ (λ e. (n, or_not (digit_byte base b) (is_based_byte b) true n e)) (λ e. (n, or_not (digit_byte base b) (is_based_byte b) false n e)))
step_says (OfUnknown sign signed letter white digits) b = cond_step (Says (OfUnknown sign signed letter white digits) b) (eqb b 95) _ _ (λ e. (e, or_left (is_low_line b) (not (is_based_byte b)) e))
    (λ n. cond_step (Says (OfUnknown sign signed letter white digits) b) (is_based_byte b) _ _ (λ e. (n, or_not (is_low_line b) (is_based_byte b) true n e)) (λ e. (n, or_not (is_low_line b) (is_based_byte b) false n e)))
step_says AtGrave b = cond_step (Says AtGrave b) (is_ascii_alphabetic b || eqb b 95) _ _ (λ e. (e, e)) (λ e. (e, e))
step_says (OfDirective word) b = cond_step (Says (OfDirective word) b) (is_word_byte b) _ _ (λ e. (e, refl)) (λ e. (e, refl))

pub whole_is : (f : Front) → is_complete (phase_of f) ≡ is_whole f
unfolding is_complete
whole_is (OfName bytes) = refl
whole_is AtEscape = refl
whole_is (OfEscaped name) = refl
whole_is (OfNumeral w) = refl
whole_is (AtPoint w) = refl
whole_is (OfFixed w f) = refl
whole_is (AtMark m e) = refl
whole_is (AtSign m e s) = refl
whole_is (OfScaled m e s x) = refl
whole_is AtQuote = refl
whole_is (AtSigned s) = refl
whole_is (AtLetter sign signed letter base white) = refl
whole_is (OfDigits sign signed letter base white digits) = refl
whole_is (OfUnknown sign signed letter white digits) = refl
whole_is AtGrave = refl
whole_is (OfDirective word) = refl

pub most_is : (f : Front) → most_of (phase_of f) ≡ most_kept f
unfolding most_of
most_is (OfName bytes) = refl
most_is AtEscape = refl
most_is (OfEscaped name) = refl
most_is (OfNumeral w) = refl
most_is (AtPoint w) = refl
most_is (OfFixed w f) = refl
most_is (AtMark m e) = refl
most_is (AtSign m e s) = refl
most_is (OfScaled m e s x) = refl
most_is AtQuote = refl
most_is (AtSigned s) = refl
most_is (AtLetter sign signed letter base white) = refl
most_is (OfDigits sign signed letter base white digits) = refl
most_is (OfUnknown sign signed letter white digits) = refl
most_is AtGrave = refl
most_is (OfDirective word) = refl

-- ---- faults

-- why the bytes so far and those behind them are no token
pub data ScanFault (bytes : List ℕ) : Flaw → Type 0 where
  early : (f : Front) → bytes ≡ front_bytes f → IsFront f → is_whole f ≡ false → length (front_text f) ≤ most_kept f
      → ScanFault bytes (record { reason = EndOfInput; before = length (front_bytes f); seen = length (front_bytes f) })
  wrong : (f : Front) (b : ℕ) (rest : List ℕ) → bytes ≡ front_bytes f ++ b ∷ rest → IsFront f → may_stand f b ≡ false
      → length (front_text f) ≤ most_kept f
      → ScanFault bytes (record { reason = BadByte; before = length (front_bytes f); seen = length (front_bytes f) + 1 })
  long : (f : Front) (b : ℕ) (rest : List ℕ) → bytes ≡ front_bytes f ++ b ∷ rest → IsFront f → goes_on f b ≡ true
      → length (front_text f) ≡ most_kept f → ScanFault bytes (record { reason = TokenTooLong; before = 0; seen = length (front_bytes f) + 1 })

abbrev flaw_in : Flaw → Scanned → Flaw
flaw_in x (Err f) = f
flaw_in x (Ok y) = x

split_cond : {P : Type 0} (t : Bool) (x y : Scanned) (f : Flaw) → cond t x y ≡ Err f → (t ≡ true → x ≡ Err f → P) → (t ≡ false → y ≡ Err f → P) → P
split_cond {P} true x y f e p q = p refl e
split_cond {P} false x y f e p q = q refl e

abbrev Hypothesis : List ℕ → Type 0
Hypothesis bs = (f : Front) (x : Flaw) → IsFront f → length (front_text f) ≤ most_of (phase_of f) → scan_at (phase_of f) (front_text f) (length (front_bytes f)) bs ≡ Err x → ScanFault (front_bytes f ++ bs) x

fault_is : (bytes : List ℕ) (x y : Flaw) → x ≡ y → ScanFault bytes x → ScanFault bytes y
fault_is bytes x y e s = subst (ScanFault bytes) e s

behind_byte : (f g : Front) (b : ℕ) (bs text : List ℕ) (x : Flaw) → Hypothesis bs → IsFront g → front_bytes g ≡ front_bytes f ++ b ∷ []
    → front_text g ≡ text → length text ≤ most_of (phase_of g) → scan_at (phase_of g) text (length (front_bytes f) + 1) bs ≡ Err x
    → ScanFault (front_bytes f ++ b ∷ bs) x
behind_byte f g b bs text x others is bytes same short e =
    let count : length (front_bytes g) ≡ length (front_bytes f) + 1 = omega (arith, ap (length {A = ℕ}) bytes, length-append (front_bytes f) (b ∷ [])) in
    let run = ap (λ (z : List ℕ). scan_at (phase_of g) z (length (front_bytes g)) bs) same ∙ ap (λ (k : ℕ). scan_at (phase_of g) text k bs) count ∙ e in
    subst (λ (z : List ℕ). ScanFault z x) (ap (λ (z : List ℕ). z ++ bs) bytes ∙ append_assoc (front_bytes f) (b ∷ []) bs) (others g x is (subst (λ (z : List ℕ). length z ≤ most_of (phase_of g)) (sym same) short) run)

by_turn : (f : Front) (b : ℕ) (bs : List ℕ) (x : Flaw) (s : Step) → Turn f b s → Says f b s → IsFront f → length (front_text f) ≤ most_of (phase_of f)
    → Hypothesis bs
    → stepped s (phase_of f) (front_text f) (length (front_bytes f)) b (λ next kept. scan_at next kept (length (front_bytes f) + 1) bs) ≡ Err x
    → ScanFault (front_bytes f ++ b ∷ bs) x
by_turn f b bs x s (keeps g is bytes text most) says is_front short others e =
    split_cond (leb (most_of (phase_of f)) (length (front_text f))) _ _ x e
    (λ full no_room. let le = leb-true _ _ full in fault_is _ _ x (ap (flaw_in x) no_room) (long f b bs refl is_front says.0 (omega (arith, le, short, most_is f))))
    (λ free ok. let lt = leb-false _ _ free in
    behind_byte f g b bs (front_text f ++ b ∷ []) x others is bytes text (omega (arith, lt, most, length-append (front_text f) (b ∷ []))) ok)
by_turn f b bs x s (passes g is bytes text most) says is_front short others e = behind_byte f g b bs (front_text f) x others is bytes text (omega (arith, short, most)) e
by_turn f b bs x s (ends complete follows) says is_front short others e = absurd cc
by_turn f b bs x s bad says is_front short others e = fault_is _ _ x (ap (flaw_in x) e) (wrong f b bs refl is_front says.1 (omega (arith, short, most_is f)))

pub scan_faulty : (bs : List ℕ) → Hypothesis bs
unfolding scan_at
scan_faulty [] f x is short e =
    split_cond (is_complete (phase_of f)) _ _ x e (λ complete no_fault. absurd cc)
    (λ part fault. fault_is (front_bytes f ++ []) _ x (ap (flaw_in x) fault) (early f (append-nil (front_bytes f)) is (sym (whole_is f) ∙ part) (omega (arith, short, most_is f))))
scan_faulty (b ∷ bs) f x is short e = by_turn f b bs x (next_step (phase_of f) b) (turn f b is) (step_says f b) is short (scan_faulty bs) e

-- ---- the other way

abbrev pub scan_flaw : Flaw → Scanned
scan_flaw x = Err x

kept_step : (f : Front) (b : ℕ) → goes_on f b ≡ true → (s : Step) → Says f b s → (text : List ℕ) (n : ℕ) (after : Phase → List ℕ → Scanned)
    → most_of (phase_of f) ≤ length text → stepped s (phase_of f) text n b after ≡ flaw TokenTooLong 0 (n + 1)
kept_step f b goes (Keep next) says text n after full = rw (le-leb (most_of (phase_of f)) (length text) full) refl
kept_step f b goes (Pass next) says text n after full = absurd (let no_more : true ≡ false = sym goes ∙ says.0 in cc)
kept_step f b goes Ends says text n after full = absurd (let no_more : true ≡ false = sym goes ∙ says.0 in cc)
kept_step f b goes Bad says text n after full = absurd (let no_more : true ≡ false = sym goes ∙ says.0 in cc)

bad_step : (f : Front) (b : ℕ) → may_stand f b ≡ false → (s : Step) → Says f b s → s ≡ Bad
bad_step f b stands (Keep next) says = absurd (let no_more : true ≡ false = sym says.1 ∙ stands in cc)
bad_step f b stands (Pass next) says = absurd (let no_more : true ≡ false = sym says.1 ∙ stands in cc)
bad_step f b stands Ends says = absurd (let no_more : true ≡ false = sym says.1 ∙ stands in cc)
bad_step f b stands Bad says = refl

pub reads_early : (f : Front) (n : ℕ) → is_whole f ≡ false → scan_at (phase_of f) (front_text f) n [] ≡ flaw EndOfInput n n
unfolding scan_at
reads_early f n part = let e = whole_is f ∙ part in rw e refl

pub reads_wrong : (f : Front) (n b : ℕ) (rest : List ℕ) → may_stand f b ≡ false
    → scan_at (phase_of f) (front_text f) n (b ∷ rest) ≡ flaw BadByte n (n + 1)
unfolding scan_at
reads_wrong f n b rest stands = let e = bad_step f b stands (next_step (phase_of f) b) (step_says f b) in rw e refl

pub reads_long : (f : Front) (n b : ℕ) (rest : List ℕ) → goes_on f b ≡ true → length (front_text f) ≡ most_kept f
    → scan_at (phase_of f) (front_text f) n (b ∷ rest) ≡ flaw TokenTooLong 0 (n + 1)
unfolding scan_at
reads_long f n b rest goes full = kept_step f b goes (next_step (phase_of f) b) (step_says f b) (front_text f) n (λ next kept. scan_at next kept (n + 1) rest) (omega (arith, full, most_is f))
