-- Where the bytes so far of a name, a number, a literal or a directive lead a reader.
use Rattle.std.proofs.Common.{◌≡◌, ℕ, ◌+◌, ◌≤◌, Bool, List, [], ◌∷◌, ◌++◌, length, refl, ap, ◌∙◌, subst, arith, append_assoc}
use Rattle.nl_bytes.specs.Classes.{is_word_byte, is_name_byte, is_number_byte, is_graphic}
use Rattle.vlog_values.specs.declared.literal.Base.{Base}
use Rattle.vlog_values.specs.declared.literal.Base.TheVariants.{Decimal}
use Rattle.vlog_tokens.specs.declared.phase.Phase.{Phase}
use Rattle.vlog_tokens.specs.declared.phase.Phase.TheVariants.{Word, Escape, Escaped, Whole, Point, Mark, Sign, Prefix, Signed, Letter, Digits, Unknown, Grave, Directive}
use Rattle.vlog_tokens.specs.declared.start.Start.TheVariants.{Lexeme}
use Rattle.nl_bytes.specs.Flaws.{◌>>=◌}
use Rattle.vlog_tokens.specs.Items.{finish}
use Rattle.vlog_tokens.specs.Phases.{most_of}
use Rattle.vlog_tokens.specs.Scanning.{scan_at, kept}
use Rattle.vlog_tokens.specs.Spelling.{start_of, item_at}
use Rattle.vlog_lexemes.specs.Lexemes.{digit_byte, is_low_line}
use Rattle.vlog_lexemes.specs.Fronts.{most_kept}
use Rattle.vlog_lexemes.proofs.Scans.{Scanned, Scans, scans_by, scans_trans, stays, keeps, runs, name_on, escape_on, escaped_on, whole_on, whole_point, mark_sign, prefix_signed, letter_digit, letter_open, digits_on, unknown_on, grave_on, directive_on}
use Rattle.vlog_lexemes.proofs.Shapes.{name_starts, digit_starts, fixed_by, mantissa_read, exponent_read, white_read, head_read}
use Rattle.vlog_lexemes.proofs.Fronts.{Front, OfName, AtEscape, OfEscaped, OfNumeral, AtPoint, OfFixed, AtMark, AtSign, OfScaled, AtQuote, AtSigned, AtLetter, OfDigits, OfUnknown, AtGrave, OfDirective, phase_of, front_bytes, front_text, IsFront, IsHead}

pub record FrontScan (f : Front) : Type 0 where
  pub begins : Phase
  pub first : ℕ
  pub tail : List ℕ
  pub is_bytes : front_bytes f ≡ first ∷ tail
  pub start : start_of first ≡ Lexeme begins
  pub scans : Scans (most_kept f) begins (kept begins first) 1 tail (phase_of f) (front_text f)

number_front : (f : Front) (first : ℕ) (tail : List ℕ) → front_bytes f ≡ first ∷ tail → start_of first ≡ Lexeme Whole
    → Scans (most_kept f) Whole (first ∷ []) 1 tail (phase_of f) (front_text f) → FrontScan f
unfolding kept
number_front f first tail e start scans = record { begins = Whole; first = first; tail = tail; is_bytes = e; start = start; scans = scans }

literal_front : (f : Front) (tail : List ℕ) → front_bytes f ≡ 39 ∷ tail → Scans (most_kept f) Prefix (39 ∷ []) 1 tail (phase_of f) (front_text f)
    → FrontScan f
unfolding kept
literal_front f tail e scans = record { begins = Prefix; first = 39; tail = tail; is_bytes = e; start = refl; scans = scans }

-- a head with white space behind it
letter_lead : (sign : List ℕ) (signed : Bool) (letter : ℕ) (base : Base) (white : List ℕ) → IsHead sign signed letter base white
    → Scans 131072 Prefix (39 ∷ []) 1 (sign ++ letter ∷ white) (Letter base) (39 ∷ (sign ++ letter ∷ []))
letter_lead sign signed letter base white is =
    scans_by (append_assoc sign (letter ∷ []) white) refl (scans_trans (head_read sign signed letter base is.0 is.1) (white_read base white is.2 (39 ∷ (sign ++ letter ∷ [])) (1 + length (sign ++ letter ∷ []))))

-- digits behind it
digits_lead : (sign : List ℕ) (signed : Bool) (letter : ℕ) (base : Base) (white : List ℕ) (at : Phase) (d : ℕ) (ds : List ℕ)
    → IsHead sign signed letter base white → ((text : List ℕ) (n : ℕ) → Scans 131072 (Letter base) text n (d ∷ ds) at (text ++ d ∷ ds))
    → Scans 131072 Prefix (39 ∷ []) 1 (sign ++ letter ∷ (white ++ d ∷ ds)) at (39 ∷ (sign ++ letter ∷ d ∷ ds))
digits_lead sign signed letter base white at d ds is digits =
    let n : ℕ = 1 + length (sign ++ letter ∷ white) in
    scans_by (append_assoc sign (letter ∷ white) (d ∷ ds)) (ap (λ (z : List ℕ). 39 ∷ z) (append_assoc sign (letter ∷ []) (d ∷ ds)))
    (scans_trans (letter_lead sign signed letter base white is) (digits (39 ∷ (sign ++ letter ∷ [])) n))

pub front_scan : (f : Front) → IsFront f → FrontScan f
unfolding kept most_of
front_scan (OfName []) is = absurd is
front_scan (OfName (b ∷ bs)) is = record { begins = Word; first = b; tail = bs; is_bytes = refl; start = name_starts b is.0; scans = runs 1024 Word is_name_byte refl name_on bs is.1 (b ∷ []) 1 }
front_scan AtEscape is = record { begins = Escape; first = 92; tail = []; is_bytes = refl; start = refl; scans = stays 1024 Escape [] 1 }
front_scan (OfEscaped []) is = absurd is
front_scan (OfEscaped (b ∷ bs)) is =
    record { begins = Escape; first = 92; tail = b ∷ bs; is_bytes = refl; start = refl; scans = scans_trans (keeps 1024 Escape Escaped [] 1 b refl (escape_on b is.0)) (runs 1024 Escaped is_graphic refl escaped_on bs is.1 (b ∷ []) 2) }
front_scan (OfNumeral []) is = absurd is
front_scan (OfNumeral (d ∷ ds)) is = number_front (OfNumeral (d ∷ ds)) d ds refl (digit_starts d is.0) (runs 131072 Whole is_number_byte refl whole_on ds is.1 (d ∷ []) 1)
front_scan (AtPoint []) is = absurd is
front_scan (AtPoint (d ∷ ds)) is =
    number_front (AtPoint (d ∷ ds)) d (ds ++ 46 ∷ []) refl (digit_starts d is.0) (scans_trans (runs 131072 Whole is_number_byte refl whole_on ds is.1 (d ∷ []) 1) (keeps 131072 Whole Point (d ∷ ds) (1 + length ds) 46 refl whole_point))
front_scan (OfFixed w f) is =
    let m = fixed_by w f (w ++ 46 ∷ f) refl is.0 is.1 in
    number_front (OfFixed w f) m.0.first m.0.tail m.0.is_bytes (digit_starts m.0.first m.0.digit) (subst (λ (z : Phase). Scans 131072 Whole (m.0.first ∷ []) 1 m.0.tail z (w ++ 46 ∷ f)) m.1 m.0.scans)
front_scan (AtMark m x) is =
    let r = mantissa_read m is.0 in
    number_front (AtMark m x) r.first (r.tail ++ x ∷ []) (ap (λ (z : List ℕ). z ++ x ∷ []) r.is_bytes) (digit_starts r.first r.digit) (scans_trans r.scans (keeps 131072 r.at Mark m (1 + length r.tail) x r.most (r.mark x is.1)))
front_scan (AtSign m x s) is =
    let r = mantissa_read m is.0 in
    let k : ℕ = 1 + length r.tail in
    number_front (AtSign m x s) r.first (r.tail ++ x ∷ s ∷ []) (ap (λ (z : List ℕ). z ++ x ∷ s ∷ []) r.is_bytes) (digit_starts r.first r.digit)
    (scans_by refl (append_assoc m (x ∷ []) (s ∷ [])) (scans_trans r.scans (scans_trans (keeps 131072 r.at Mark m k x r.most (r.mark x is.1)) (keeps 131072 Mark Sign (m ++ x ∷ []) (k + 1) s refl (mark_sign s is.2)))))
front_scan (OfScaled m x s e) is =
    let r = mantissa_read m is.0 in
    let k : ℕ = 1 + length r.tail in
    number_front (OfScaled m x s e) r.first (r.tail ++ x ∷ (s ++ e)) (ap (λ (z : List ℕ). z ++ x ∷ (s ++ e)) r.is_bytes) (digit_starts r.first r.digit)
    (scans_by refl (append_assoc m (x ∷ []) (s ++ e)) (scans_trans r.scans (scans_trans (keeps 131072 r.at Mark m k x r.most (r.mark x is.1)) (exponent_read s e is.2 is.3 (m ++ x ∷ []) (k + 1)))))
front_scan AtQuote is = literal_front AtQuote [] refl (stays 131072 Prefix (39 ∷ []) 1)
front_scan (AtSigned s) is = literal_front (AtSigned s) (s ∷ []) refl (keeps 131072 Prefix Signed (39 ∷ []) 1 s refl (prefix_signed s is))
front_scan (AtLetter sign signed letter base white) is = literal_front (AtLetter sign signed letter base white) (sign ++ letter ∷ white) refl (letter_lead sign signed letter base white is)
front_scan (OfDigits sign signed letter base white []) is = absurd is.1
front_scan (OfDigits sign signed letter base white (d ∷ ds)) is =
    literal_front (OfDigits sign signed letter base white (d ∷ ds)) (sign ++ letter ∷ (white ++ d ∷ ds)) refl (digits_lead sign signed letter base white (Digits base) d ds is.0
    (λ text n. scans_by refl (append_assoc text (d ∷ []) ds) (scans_trans (keeps 131072 (Letter base) (Digits base) text n d refl (letter_digit base d is.1.0)) (runs 131072 (Digits base) (digit_byte base) refl (digits_on base) ds is.1.1 (text ++ d ∷ []) (n + 1)))))
front_scan (OfUnknown sign signed letter white []) is = absurd is.1
front_scan (OfUnknown sign signed letter white (d ∷ ds)) is =
    literal_front (OfUnknown sign signed letter white (d ∷ ds)) (sign ++ letter ∷ (white ++ d ∷ ds)) refl (digits_lead sign signed letter Decimal white Unknown d ds is.0
    (λ text n. scans_by refl (append_assoc text (d ∷ []) ds) (scans_trans (keeps 131072 (Letter Decimal) Unknown text n d refl (letter_open d is.1.0)) (runs 131072 Unknown is_low_line refl unknown_on ds is.1.1 (text ++ d ∷ []) (n + 1)))))
front_scan AtGrave is = record { begins = Grave; first = 96; tail = []; is_bytes = refl; start = refl; scans = stays 1024 Grave (96 ∷ []) 1 }
front_scan (OfDirective []) is = absurd is
front_scan (OfDirective (b ∷ bs)) is =
    record { begins = Grave; first = 96; tail = b ∷ bs; is_bytes = refl; start = refl; scans = scans_trans (keeps 1024 Grave Directive (96 ∷ []) 1 b refl (grave_on b is.0)) (runs 1024 Directive is_word_byte refl directive_on bs is.1 (96 ∷ b ∷ []) 2) }

scan_item : (f : Front) → (s : FrontScan f) → length (front_text f) ≤ most_kept f → (rest : List ℕ)
    → item_at s.first (s.tail ++ rest) ≡ (scan_at (phase_of f) (front_text f) (1 + length s.tail) rest >>= finish)
unfolding item_at
scan_item f s short rest = let start = s.start in let leads = s.scans.leads short rest in rw start (ap (λ (x : Scanned). x >>= finish) leads)

heads_of : (a b : ℕ) (xs ys : List ℕ) → a ∷ xs ≡ b ∷ ys → (a ≡ b) × (xs ≡ ys)
heads_of a b xs ys e = (cc, cc)

-- what is read behind the bytes so far
pub front_reads : (f : Front) (b : ℕ) (bs rest : List ℕ) → b ∷ bs ≡ front_bytes f ++ rest → IsFront f → length (front_text f) ≤ most_kept f
    → item_at b bs ≡ (scan_at (phase_of f) (front_text f) (length (front_bytes f)) rest >>= finish)
front_reads f b bs rest e is short =
    let s = front_scan f is in
    let heads = heads_of b s.first bs (s.tail ++ rest) (e ∙ ap (λ (z : List ℕ). z ++ rest) s.is_bytes) in
    let count : 1 + length s.tail ≡ length (front_bytes f) = omega (arith, ap (length {A = ℕ}) s.is_bytes) in
    ap (λ (z : ℕ). item_at z bs) heads.0 ∙ ap (item_at s.first) heads.1 ∙ scan_item f s short rest ∙ ap (λ (k : ℕ). scan_at (phase_of f) (front_text f) k rest >>= finish) count
