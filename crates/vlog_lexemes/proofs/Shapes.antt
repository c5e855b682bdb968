-- How the reader goes over a whole name, number, literal or directive, and what it makes of it.
use Rattle.std.proofs.Common.{◌≡◌, ℕ, ◌+◌, ◌<◌, ◌≤◌, ◌^◌, Bool, true, false, eqb, ◌||◌, List, [], ◌∷◌, ◌++◌, length, Some, None, refl, sym, ap, ◌∙◌, subst, inl, inr, arith, length-append, append_assoc}
use Rattle.std.specs.Prelude.{◌⊎◌, pos}
use Rattle.std.specs.Char.{is_ascii_digit, is_ascii_alphabetic}
use Rattle.std.specs.List.{filter}
use Rattle.std.proofs.lemmas.Bool.{lt-ltb, eqb-true}
use Rattle.std.proofs.lemmas.Bool.Decides.{nat_tests}
use Rattle.nl_base.specs.declared.number.Scaled.{Scaled}
use Rattle.nl_bytes.specs.Classes.{is_verilog_space, is_word_byte, is_name_byte, is_number_byte, is_graphic}
use Rattle.vlog_values.specs.declared.literal.Base.{Base}
use Rattle.vlog_values.specs.declared.literal.Base.TheVariants.{Decimal}
use Rattle.vlog_values.specs.declared.literal.Based.{Based}
use Rattle.vlog_tokens.specs.declared.item.Item.TheVariants.{Token}
use Rattle.vlog_tokens.specs.declared.token.VToken.TheVariants as tokens
use Rattle.vlog_tokens.specs.declared.phase.Phase.{Phase}
use Rattle.vlog_tokens.specs.declared.phase.Phase.TheVariants.{Word, Escape, Escaped, Whole, Point, Fraction, Mark, Sign, Exponent, Prefix, Signed, Letter, Digits, Unknown, Grave, Directive}
use Rattle.vlog_tokens.specs.declared.phase.Step.TheVariants.{Keep}
use Rattle.vlog_tokens.specs.declared.start.Start.TheVariants.{Lexeme}
use Rattle.vlog_tokens.specs.Keywords.{is_keyword}
use Rattle.vlog_tokens.specs.Numbers.{decimal_value, number_of, real_of}
use Rattle.vlog_tokens.specs.Items.{is_kept, is_signed, digits_of, has_value, based_item, item_of, real_item, number_item, directive_item}
use Rattle.vlog_tokens.specs.Phases.{next_step, most_of, is_mark, base_of}
use Rattle.vlog_tokens.specs.Scanning.{kept}
use Rattle.vlog_tokens.specs.Spelling.{start_of}
use Rattle.vlog_lexemes.specs.Lexemes.{AllPass, IsSimple, IsEscaped, IsDirective, IsNumeral, IsFixed, IsScaled, IsSign, IsSigned, IsBased, AreDigitsOf, begins_name, digit_byte, is_low_line, no_name_byte, no_word_byte, no_real_byte, no_exponent_byte, no_number_byte, no_based_byte}
use Rattle.vlog_lexemes.proofs.Scans.{Scans, scans_by, scans_trans, stays, keeps, passes, runs, name_on, escape_on, escaped_on, whole_on, whole_point, whole_mark, point_on, fraction_on, fraction_mark, mark_digit, mark_sign, sign_digit, exponent_on, prefix_signed, prefix_letter, signed_letter, letter_white, letter_digit, letter_open, digits_on, unknown_on, grave_on, directive_on, EndsIn, name_ends, escaped_ends, whole_ends, fraction_ends, exponent_ends, digits_end, unknown_ends, directive_ends}

-- The reader goes over these bytes from the first on, and stands then in a phase that a byte which may follow ends.
pub record ScanOf (bytes : List ℕ) (follows : ℕ → Bool) : Type 0 where
  pub begins : Phase
  pub first : ℕ
  pub tail : List ℕ
  pub is_bytes : bytes ≡ first ∷ tail
  pub start : start_of first ≡ Lexeme begins
  pub at : Phase
  pub text : List ℕ
  pub most : ℕ
  pub scans : Scans most begins (kept begins first) 1 tail at text
  pub ends : EndsIn at follows
  pub short : length text ≤ most

-- ---- where they begin

letter_starts : (b : ℕ) → is_ascii_alphabetic b ≡ true → start_of b ≡ Lexeme Word
letter_starts b e = grind (arith, nat_tests)

pub name_starts : (b : ℕ) → begins_name b ≡ true → start_of b ≡ Lexeme Word
name_starts b e = by (is_ascii_alphabetic b) refl e
  where
    by : (t : Bool) → is_ascii_alphabetic b ≡ t → (is_ascii_alphabetic b || eqb b 95) ≡ true → start_of b ≡ Lexeme Word
    by true letter either = letter_starts b letter
    by false letter either = let low = rw letter at either in ap start_of (eqb-true b 95 low)

pub digit_starts : (b : ℕ) → is_ascii_digit b ≡ true → start_of b ≡ Lexeme Whole
digit_starts b e = grind (arith, nat_tests)

-- ---- names and directives

pub name_scan : (bytes : List ℕ) → IsSimple bytes → length bytes ≤ 1024 → (s : ScanOf bytes no_name_byte) × (s.at ≡ Word) × (s.text ≡ bytes)
unfolding kept most_of
name_scan [] is short = absurd is
name_scan (b ∷ bs) is short =
    let s : ScanOf (b ∷ bs) no_name_byte = record {
      begins = Word;
      first = b;
      tail = bs;
      is_bytes = refl;
      start = name_starts b is.0;
      at = Word;
      text = b ∷ bs;
      most = 1024;
      scans = runs 1024 Word is_name_byte refl name_on bs is.1 (b ∷ []) 1;
      ends = name_ends;
      short = short;
    } in (s, refl, refl)

pub escaped_scan : (name bytes : List ℕ) → bytes ≡ 92 ∷ name → IsEscaped name → length name ≤ 1024
    → (s : ScanOf bytes is_verilog_space) × (s.at ≡ Escaped) × (s.text ≡ name)
unfolding kept most_of
escaped_scan [] bytes e is short = absurd is
escaped_scan (b ∷ bs) bytes e is short =
    let s : ScanOf bytes is_verilog_space = record {
      begins = Escape;
      first = 92;
      tail = b ∷ bs;
      is_bytes = e;
      start = refl;
      at = Escaped;
      text = b ∷ bs;
      most = 1024;
      scans = scans_trans (keeps 1024 Escape Escaped [] 1 b refl (escape_on b is.0)) (runs 1024 Escaped is_graphic refl escaped_on bs is.1 (b ∷ []) 2);
      ends = escaped_ends;
      short = short;
    } in (s, refl, refl)

pub directive_scan : (word bytes : List ℕ) → bytes ≡ 96 ∷ word → IsDirective word → length bytes ≤ 1024
    → (s : ScanOf bytes no_word_byte) × (s.at ≡ Directive) × (s.text ≡ bytes)
unfolding kept most_of
directive_scan [] bytes e is short = absurd is
directive_scan (b ∷ bs) bytes e is short =
    let s : ScanOf bytes no_word_byte = record {
      begins = Grave;
      first = 96;
      tail = b ∷ bs;
      is_bytes = e;
      start = refl;
      at = Directive;
      text = 96 ∷ b ∷ bs;
      most = 1024;
      scans = scans_trans (keeps 1024 Grave Directive (96 ∷ []) 1 b refl (grave_on b is.0)) (runs 1024 Directive is_word_byte refl directive_on bs is.1 (96 ∷ b ∷ []) 2);
      ends = directive_ends;
      short = subst (λ (z : List ℕ). length z ≤ 1024) e short;
    } in (s, refl, sym e)

-- ---- numbers

abbrev LONG : ℕ
LONG = 131072

-- the reader goes over a mantissa, behind which an `e` may stand
pub record Mantissa (bytes : List ℕ) : Type 0 where
  pub first : ℕ
  pub tail : List ℕ
  pub is_bytes : bytes ≡ first ∷ tail
  pub digit : is_ascii_digit first ≡ true
  pub at : Phase
  pub scans : Scans 131072 Whole (first ∷ []) 1 tail at bytes
  pub mark : (b : ℕ) → is_mark b ≡ true → next_step at b ≡ Keep Mark
  pub most : most_of at ≡ 131072

pub numeral_read : (bytes : List ℕ) → IsNumeral bytes → Mantissa bytes
unfolding most_of
numeral_read [] is = absurd is
numeral_read (d ∷ ds) is = record {
  first = d;
  tail = ds;
  is_bytes = refl;
  digit = is.0;
  at = Whole;
  scans = runs 131072 Whole is_number_byte refl whole_on ds is.1 (d ∷ []) 1;
  mark = whole_mark;
  most = refl;
}

pub fraction_read : (bytes : List ℕ) → IsNumeral bytes → (text : List ℕ) (n : ℕ) → Scans 131072 Point text n bytes Fraction (text ++ bytes)
unfolding most_of
fraction_read [] is text n = absurd is
fraction_read (d ∷ ds) is text n =
    scans_by refl (append_assoc text (d ∷ []) ds) (scans_trans (keeps 131072 Point Fraction text n d refl (point_on d is.0)) (runs 131072 Fraction is_number_byte refl fraction_on ds is.1 (text ++ d ∷ []) (n + 1)))

pub fixed_by : (whole fraction bytes : List ℕ) → bytes ≡ whole ++ 46 ∷ fraction → IsNumeral whole → IsNumeral fraction
    → (m : Mantissa bytes) × (m.at ≡ Fraction)
unfolding most_of
fixed_by [] fraction bytes e before behind = absurd before
fixed_by (d ∷ ds) fraction bytes e before behind =
    let m : Mantissa bytes = record {
      first = d;
      tail = ds ++ 46 ∷ fraction;
      is_bytes = e;
      digit = before.0;
      at = Fraction;
      scans = scans_by refl (append_assoc (d ∷ ds) (46 ∷ []) fraction ∙ sym e) (scans_trans (runs 131072 Whole is_number_byte refl whole_on ds before.1 (d ∷ []) 1)
          (scans_trans (keeps 131072 Whole Point (d ∷ ds) (1 + length ds) 46 refl whole_point) (fraction_read fraction behind ((d ∷ ds) ++ 46 ∷ []) (1 + length ds + 1))));
      mark = fraction_mark;
      most = refl;
    } in (m, refl)

pub mantissa_read : (bytes : List ℕ) → IsNumeral bytes ⊎ IsFixed bytes → Mantissa bytes
mantissa_read bytes (inl is) = numeral_read bytes is
mantissa_read bytes (inr is) = (fixed_by is.whole is.fraction bytes is.spelled is.before is.behind).0

exponent_digits : (from : Phase) → most_of from ≡ 131072 → ((b : ℕ) → is_ascii_digit b ≡ true → next_step from b ≡ Keep Exponent) → (bytes : List ℕ)
    → IsNumeral bytes → (text : List ℕ) (n : ℕ) → Scans 131072 from text n bytes Exponent (text ++ bytes)
unfolding most_of
exponent_digits from most step [] is text n = absurd is
exponent_digits from most step (d ∷ ds) is text n =
    scans_by refl (append_assoc text (d ∷ []) ds) (scans_trans (keeps 131072 from Exponent text n d most (step d is.0)) (runs 131072 Exponent is_number_byte refl exponent_on ds is.1 (text ++ d ∷ []) (n + 1)))

pub exponent_read : (sign bytes : List ℕ) → IsSign sign → IsNumeral bytes → (text : List ℕ) (n : ℕ)
    → Scans 131072 Mark text n (sign ++ bytes) Exponent (text ++ (sign ++ bytes))
unfolding most_of
exponent_read [] bytes signed is text n = exponent_digits Mark refl mark_digit bytes is text n
exponent_read (s ∷ []) bytes signed is text n =
    scans_by refl (append_assoc text (s ∷ []) bytes) (scans_trans (keeps 131072 Mark Sign text n s refl (mark_sign s signed)) (exponent_digits Sign refl sign_digit bytes is (text ++ s ∷ []) (n + 1)))
exponent_read (s ∷ c ∷ cs) bytes signed is text n = absurd signed

scan_by : (bytes : List ℕ) (follows : ℕ → Bool) (first : ℕ) (tail : List ℕ) (at : Phase) → bytes ≡ first ∷ tail → is_ascii_digit first ≡ true
    → Scans 131072 Whole (first ∷ []) 1 tail at bytes → EndsIn at follows → length bytes ≤ 131072 → ScanOf bytes follows
unfolding kept
scan_by bytes follows first tail at e digit scans ends short =
    record { begins = Whole; first = first; tail = tail; is_bytes = e; start = digit_starts first digit; at = at; text = bytes; most = 131072; scans = scans; ends = ends; short = short }

pub number_scan : (bytes : List ℕ) → IsNumeral bytes → length bytes ≤ 131072 → (s : ScanOf bytes no_real_byte) × (s.at ≡ Whole) × (s.text ≡ bytes)
unfolding scan_by most_of
number_scan [] is short = absurd is
number_scan (d ∷ ds) is short = (scan_by (d ∷ ds) no_real_byte d ds Whole refl is.0 (runs 131072 Whole is_number_byte refl whole_on ds is.1 (d ∷ []) 1) whole_ends short, refl, refl)

pub fixed_scan : (bytes : List ℕ) → IsFixed bytes → length bytes ≤ 131072 → (s : ScanOf bytes no_exponent_byte) × (s.at ≡ Fraction) × (s.text ≡ bytes)
unfolding scan_by
fixed_scan bytes is short =
    let m = fixed_by is.whole is.fraction bytes is.spelled is.before is.behind in
    let scans : Scans 131072 Whole (m.0.first ∷ []) 1 m.0.tail Fraction bytes = subst (λ (z : Phase). Scans 131072 Whole (m.0.first ∷ []) 1 m.0.tail z bytes) m.1 m.0.scans in
    (scan_by bytes no_exponent_byte m.0.first m.0.tail Fraction m.0.is_bytes m.0.digit scans fraction_ends short, refl, refl)

pub scaled_scan : (bytes : List ℕ) → IsScaled bytes → length bytes ≤ 131072 → (s : ScanOf bytes no_number_byte) × (s.at ≡ Exponent) × (s.text ≡ bytes)
unfolding scan_by
scaled_scan bytes is short =
    let m = mantissa_read is.mantissa is.before in
    let e : bytes ≡ m.first ∷ (m.tail ++ is.mark ∷ (is.sign ++ is.exponent)) = is.spelled ∙ ap (λ (z : List ℕ). z ++ is.mark ∷ (is.sign ++ is.exponent)) m.is_bytes in
    let k : ℕ = 1 + length m.tail in
    let scans = scans_trans m.scans (scans_trans (keeps 131072 m.at Mark is.mantissa k is.mark m.most (m.mark is.mark is.at_mark)) (exponent_read is.sign is.exponent is.signed is.behind (is.mantissa ++ is.mark ∷ []) (k + 1))) in (
      scan_by bytes no_number_byte m.first (m.tail ++ is.mark ∷ (is.sign ++ is.exponent)) Exponent e m.digit
          (scans_by refl (append_assoc is.mantissa (is.mark ∷ []) (is.sign ++ is.exponent) ∙ sym is.spelled) scans) exponent_ends short,
      refl,
      refl,
    )

-- ---- based literals

pub white_read : (base : Base) (white : List ℕ) → AllPass is_verilog_space white → (text : List ℕ) (n : ℕ)
    → Scans 131072 (Letter base) text n white (Letter base) text
white_read base [] all text n = stays 131072 (Letter base) text n
white_read base (b ∷ bs) all text n = scans_trans (passes 131072 (Letter base) (Letter base) text n b (letter_white b base all.0)) (white_read base bs all.1 text (n + 1))

-- the reader goes over the digits of a literal
record DigitsRead (base : Base) (digits text : List ℕ) (n : ℕ) : Type 0 where
  pub at : Phase
  pub scans : Scans 131072 (Letter base) text n digits at (text ++ digits)
  pub ends : EndsIn at no_based_byte
  pub item : (all : List ℕ) → item_of at all ≡ based_item base all (digits_of all)

digits_read : (base : Base) (digits : List ℕ) → AreDigitsOf base digits → (text : List ℕ) (n : ℕ) → DigitsRead base digits text n
unfolding most_of item_of
digits_read base [] (inl is) text n = absurd is
digits_read base (d ∷ ds) (inl is) text n = record {
  at = Digits base;
  scans = scans_by refl (append_assoc text (d ∷ []) ds) (scans_trans (keeps 131072 (Letter base) (Digits base) text n d refl (letter_digit base d is.0)) (runs 131072 (Digits base) (digit_byte base) refl (digits_on base) ds is.1 (text ++ d ∷ []) (n + 1)));
  ends = digits_end base;
  item = λ all. refl;
}
digits_read base [] (inr is) text n = absurd is.1
digits_read base (d ∷ ds) (inr is) text n = subst (λ (z : Base). DigitsRead z (d ∷ ds) text n) (sym is.0) (record {
  at = Unknown;
  scans = scans_by refl (append_assoc text (d ∷ []) ds) (scans_trans (keeps 131072 (Letter Decimal) Unknown text n d refl (letter_open d is.1.0)) (runs 131072 Unknown is_low_line refl unknown_on ds is.1.1 (text ++ d ∷ []) (n + 1)));
  ends = unknown_ends;
  item = λ all. refl;
})

-- the reader goes over the beginning of a literal
pub head_read : (sign : List ℕ) (signed : Bool) (letter : ℕ) (base : Base) → IsSigned sign signed → base_of letter ≡ Some base
    → Scans 131072 Prefix (39 ∷ []) 1 (sign ++ letter ∷ []) (Letter base) (39 ∷ (sign ++ letter ∷ []))
unfolding most_of
head_read [] signed letter base is at = keeps 131072 Prefix (Letter base) (39 ∷ []) 1 letter refl (prefix_letter letter base at)
head_read (s ∷ []) signed letter base is at =
    scans_trans (keeps 131072 Prefix Signed (39 ∷ []) 1 s refl (prefix_signed s is.0)) (keeps 131072 Signed (Letter base) (39 ∷ s ∷ []) 2 letter refl (signed_letter letter base at))
head_read (s ∷ c ∷ cs) signed letter base is at = absurd is

abbrev pub based_text : List ℕ → ℕ → List ℕ → List ℕ
based_text sign letter digits = 39 ∷ (sign ++ letter ∷ digits)

no_sign : (b : ℕ) (base : Base) → base_of b ≡ Some base → (eqb b 115 || eqb b 83) ≡ false
no_sign b base e = by (eqb b 115 || eqb b 83) refl
  where
    apart : (eqb b 115 || eqb b 83) ≡ true → base_of b ≡ None
    apart s = grind (arith, nat_tests)

    by : (t : Bool) → (eqb b 115 || eqb b 83) ≡ t → (eqb b 115 || eqb b 83) ≡ false
    by false s = s
    by true s = absurd (let none = apart s in cc)

-- what the bytes that are kept of a literal say
pub text_says : (sign : List ℕ) (signed : Bool) (letter : ℕ) (base : Base) (digits : List ℕ) → IsSigned sign signed → base_of letter ≡ Some base
    → (is_signed (based_text sign letter digits) ≡ signed) × (digits_of (based_text sign letter digits) ≡ filter is_kept digits)
text_says [] signed letter base digits is at =
    let unsigned = no_sign letter base at in
    (unsigned ∙ sym is, rw unsigned refl)
text_says (s ∷ []) signed letter base digits is at = (is.0 ∙ sym is.1, rw is.0 refl)
text_says (s ∷ c ∷ cs) signed letter base digits is at = absurd is

abbrev based_by : Bool → Base → List ℕ → Based
based_by signed base digits = record { signed = signed; base = base; digits = digits }

based_is : (text : List ℕ) (based : Based) → is_signed text ≡ based.signed → digits_of text ≡ based.digits → has_value based.base based.digits ≡ true
    → based_item based.base text (digits_of text) ≡ Some (Token (tokens.Based based))
based_is text based e f g =
    let same : based_by (is_signed text) based.base (digits_of text) ≡ based =
    ap (λ (x : Bool). based_by x based.base (digits_of text)) e ∙ ap (λ (x : List ℕ). based_by based.signed based.base x) f in
    let some : has_value based.base (digits_of text) ≡ true = ap (has_value based.base) f ∙ g in
    rw some (ap (λ (x : Based). Some (Token (tokens.Based x))) same)

pub based_scan : (bytes : List ℕ) (based : Based) → IsBased bytes based
    → (s : ScanOf bytes no_based_byte) × (item_of s.at s.text ≡ Some (Token (tokens.Based based)))
unfolding kept
based_scan bytes based is =
    let head : List ℕ = is.sign ++ is.letter ∷ [] in
    let n : ℕ = 1 + length head in
    let text : List ℕ = based_text is.sign is.letter is.digits in
    let digits = digits_read based.base is.digits is.each (39 ∷ head) (n + length is.white) in
    let whole = scans_trans (head_read is.sign based.signed is.letter based.base is.signed is.at_letter) (scans_trans (white_read based.base is.white is.blank (39 ∷ head) n) digits.scans) in
    let says = text_says is.sign based.signed is.letter based.base is.digits is.signed is.at_letter in
    let s : ScanOf bytes no_based_byte = record {
      begins = Prefix;
      first = 39;
      tail = is.sign ++ is.letter ∷ (is.white ++ is.digits);
      is_bytes = is.spelled;
      start = refl;
      at = digits.at;
      text = text;
      most = 131072;
      scans = scans_by (append_assoc is.sign (is.letter ∷ []) (is.white ++ is.digits)) (ap (λ (z : List ℕ). 39 ∷ z) (append_assoc is.sign (is.letter ∷ []) is.digits)) whole;
      ends = digits.ends;
      short = omega (arith, is.short, length-append is.sign (is.letter ∷ is.digits));
    } in (s, digits.item text ∙ based_is text based says.0 (says.1 ∙ sym is.kept) is.in_range)

-- ---- what they are

number_is : (bytes : List ℕ) → decimal_value bytes < 2 ^ 63 → number_of bytes ≡ Some (pos (decimal_value bytes))
unfolding number_of
number_is bytes small = rw (lt-ltb (decimal_value bytes) (2 ^ 63) small) refl

pub item_number : (bytes : List ℕ) → decimal_value bytes < 2 ^ 63 → item_of Whole bytes ≡ Some (Token (tokens.Number (pos (decimal_value bytes))))
unfolding item_of
item_number bytes small = ap number_item (number_is bytes small)

pub item_fixed : (bytes : List ℕ) (r : Scaled) → real_of bytes ≡ Some r → item_of Fraction bytes ≡ Some (Token (tokens.Real r))
unfolding item_of
item_fixed bytes r e = ap real_item e

pub item_scaled : (bytes : List ℕ) (r : Scaled) → real_of bytes ≡ Some r → item_of Exponent bytes ≡ Some (Token (tokens.Real r))
unfolding item_of
item_scaled bytes r e = ap real_item e

pub item_name : (bytes : List ℕ) → is_keyword bytes ≡ false → item_of Word bytes ≡ Some (Token (tokens.Name bytes))
unfolding item_of
item_name bytes e = rw e refl

pub item_keyword : (bytes : List ℕ) → is_keyword bytes ≡ true → item_of Word bytes ≡ Some (Token (tokens.Keyword bytes))
unfolding item_of
item_keyword bytes e = rw e refl

pub item_escaped : (name : List ℕ) → item_of Escaped name ≡ Some (Token (tokens.Name name))
unfolding item_of
item_escaped name = refl

pub item_directive : (bytes : List ℕ) → item_of Directive bytes ≡ Some (directive_item bytes)
unfolding item_of
item_directive bytes = refl
