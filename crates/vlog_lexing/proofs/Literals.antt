-- Based literals, with and without a size.
use Rattle.std.proofs.Common.{◌≡◌, ℕ, suc, zero, ◌+◌, ◌-◌, ◌*◌, ◌<◌, ◌≤◌, ◌^◌, Bool, true, false, List, [], ◌∷◌, ◌++◌, length, drop, Some, refl, sym, ap, ◌∙◌, subst, arith, length-append, append_assoc, append-nil, inl, inr}
use Rattle.std.specs.Prelude.{◌⊎◌, ◌||◌, ◌&&◌, ◌==◌, not, nat_lt, nat_le, fold, if◌then◌else◌, IsTrue, All, pos, decimal}
use Rattle.std.specs.Char.{is_ascii_digit}
use Rattle.std.specs.List.{AllByRecursion, filter}
use Rattle.std.proofs.lemmas.Bool.{lt-ltb}
use Rattle.std.proofs.lemmas.List.Elements.{recursion_from_All}
use Rattle.std.proofs.lemmas.Bool.Decides.{nat_tests}
use Rattle.nl_bytes.specs.Bytes.{first}
use Rattle.nl_bytes.specs.Classes.{is_verilog_space, is_based_byte}
use Rattle.vlog_values.specs.Bits.{AreDigits, IsBased, based_length, digit_value}
use Rattle.vlog_values.specs.Bits as bits
use Rattle.vlog_values.specs.Spelling.{base_letter, based_spelling, literal_spelling}
use Rattle.vlog_values.specs.Values.{IsLiteral}
use Rattle.vlog_values.specs.declared.literal.Base.{Base}
use Rattle.vlog_values.specs.declared.literal.Base.TheVariants.{Binary, Octal, Decimal, Hex}
use Rattle.vlog_values.specs.declared.literal.Based.{Based}
use Rattle.vlog_values.specs.declared.literal.Literal.{Literal}
use Rattle.vlog_tokens.specs.declared.item.Item.TheVariants.{Token}
use Rattle.vlog_tokens.specs.declared.phase.Phase.{Phase}
use Rattle.vlog_tokens.specs.declared.phase.Phase.TheVariants as phase
use Rattle.vlog_tokens.specs.declared.phase.Step.TheVariants.{Keep, Ends}
use Rattle.vlog_tokens.specs.declared.token.VToken.{VToken}
use Rattle.vlog_tokens.specs.declared.token.VToken.TheVariants as t
use Rattle.vlog_tokens.specs.Items.{item_of, is_kept, is_signed, digits_of, has_value, based_item}
use Rattle.vlog_tokens.specs.Numbers.{decimal_value, next_decimal}
use Rattle.vlog_tokens.specs.Phases.{next_step, first_digit, is_complete, most_of, is_digit, is_open}
use Rattle.vlog_tokens.specs.Scanning.{scan_at, kept, ended, one_if}
use Rattle.vlog_tokens.specs.Spelling.{item_at}
use Rattle.vlog_lexing.specs.Lexing.{Lexes}
use Rattle.vlog_lexing.proofs.Scanning.{piece, is_apart, Apart, NotStar, Stops, stops, Stays, goes_on, steps_to, comes_to_end, lexes_token}
use Rattle.vlog_lexing.proofs.Numbers.{lexes_count, count_not_star}

-- ---- digits of a base

-- a digit of a base that is no decimal `x`, `z` or `?`
abbrev Digits : Base → List ℕ → Type 0
Digits base ds = AllByRecursion (λ d. is_digit base d ≡ true) ds

digit_based : (base : Base) (d : ℕ) → is_based_byte d ≡ false → is_digit base d ≡ false
digit_based Binary d h = grind (arith, nat_tests)
digit_based Octal d h = grind (arith, nat_tests)
digit_based Decimal d h = grind (arith, nat_tests)
digit_based Hex d h = grind (arith, nat_tests)

digit_kept : (base : Base) (d : ℕ) → is_digit base d ≡ true → is_kept d ≡ true
digit_kept Binary d h = grind (arith, nat_tests)
digit_kept Octal d h = grind (arith, nat_tests)
digit_kept Decimal d h = grind (arith, nat_tests)
digit_kept Hex d h = grind (arith, nat_tests)

digit_no_space : (base : Base) (d : ℕ) → is_digit base d ≡ true → is_verilog_space d ≡ false
digit_no_space Binary d h = grind (arith, nat_tests)
digit_no_space Octal d h = grind (arith, nat_tests)
digit_no_space Decimal d h = grind (arith, nat_tests)
digit_no_space Hex d h = grind (arith, nat_tests)

open_no_space : (d : ℕ) → is_open d ≡ true → is_verilog_space d ≡ false
open_no_space d h = grind (arith, nat_tests)

open_no_digit : (d : ℕ) → is_open d ≡ true → is_ascii_digit d ≡ false
open_no_digit d h = grind (arith, nat_tests)

open_kept : (d : ℕ) → is_open d ≡ true → is_kept d ≡ true
open_kept d h = grind (arith, nat_tests)

digits_stay : (base : Base) (ds : List ℕ) → Digits base ds → Stays (phase.Digits base) ds
unfolding next_step
digits_stay base [] h = tt
digits_stay base (d ∷ ds) h = (rw h.0 refl, digits_stay base ds h.1)

digits_end : (base : Base) (c : ℕ) → is_apart c ≡ true → next_step (phase.Digits base) c ≡ Ends
unfolding next_step
digits_end base c h = let s = stops c h in rw (digit_based base c s.based, s.based, s.underscore) refl

unknown_ends : (c : ℕ) → is_apart c ≡ true → next_step phase.Unknown c ≡ Ends
unfolding next_step
unknown_ends c h = let s = stops c h in rw (s.based, s.underscore) refl

first_step : (base : Base) (d : ℕ) → is_digit base d ≡ true → next_step (phase.Letter base) d ≡ Keep (phase.Digits base)
unfolding next_step
first_step Binary d h = rw (digit_no_space Binary d h, h) refl
first_step Octal d h = rw (digit_no_space Octal d h, h) refl
first_step Decimal d h = rw (digit_no_space Decimal d h, h) refl
first_step Hex d h = rw (digit_no_space Hex d h, h) refl

open_step : (d : ℕ) → is_open d ≡ true → next_step (phase.Letter Decimal) d ≡ Keep phase.Unknown
unfolding next_step
open_step d h = rw (open_no_space d h, open_no_digit d h, h) refl

all_kept : (base : Base) (ds : List ℕ) → Digits base ds → filter is_kept ds ≡ ds
all_kept base [] h = refl
all_kept base (d ∷ ds) h = rw (digit_kept base d h.0) (ap (λ (z : List ℕ). d ∷ z) (all_kept base ds h.1))

-- ---- what stands before the digits

-- `'`, `s` where it is signed, and the letter of the base
abbrev front : Bool → Base → List ℕ
front true base = 39 ∷ 115 ∷ base_letter base ∷ []
front false base = 39 ∷ base_letter base ∷ []

prefix_letter : (base : Base) → next_step phase.Prefix (base_letter base) ≡ Keep (phase.Letter base)
unfolding next_step
prefix_letter Binary = refl
prefix_letter Octal = refl
prefix_letter Decimal = refl
prefix_letter Hex = refl

signed_letter : (base : Base) → next_step phase.Signed (base_letter base) ≡ Keep (phase.Letter base)
unfolding next_step
signed_letter Binary = refl
signed_letter Octal = refl
signed_letter Decimal = refl
signed_letter Hex = refl

prefix_signed : next_step phase.Prefix 115 ≡ Keep phase.Signed
unfolding next_step
prefix_signed = refl

-- the bytes of a literal behind its first
abbrev behind : Bool → Base → List ℕ → List ℕ
behind true base rest = 115 ∷ base_letter base ∷ rest
behind false base rest = base_letter base ∷ rest

front_read : (signed : Bool) (base : Base) (rest : List ℕ) → scan_at phase.Prefix (39 ∷ []) 1 (behind signed base rest) ≡ scan_at (phase.Letter base) (front signed base) (length (front signed base)) rest
unfolding most_of
front_read true base rest =
    steps_to phase.Prefix phase.Signed (39 ∷ []) 1 115 (base_letter base ∷ rest) prefix_signed (omega arith) ∙ steps_to phase.Signed (phase.Letter base) (39 ∷ 115 ∷ []) 2 (base_letter base) rest (signed_letter base) (omega arith)
front_read false base rest = steps_to phase.Prefix (phase.Letter base) (39 ∷ []) 1 (base_letter base) rest (prefix_letter base) (omega arith)

signed_front : (signed : Bool) (base : Base) (ds : List ℕ) → is_signed (front signed base ++ ds) ≡ signed
signed_front true base ds = refl
signed_front false Binary ds = refl
signed_front false Octal ds = refl
signed_front false Decimal ds = refl
signed_front false Hex ds = refl

digits_behind : (signed : Bool) (base : Base) (ds : List ℕ) → digits_of (front signed base ++ ds) ≡ filter is_kept ds
digits_behind true base ds = refl
digits_behind false Binary ds = refl
digits_behind false Octal ds = refl
digits_behind false Decimal ds = refl
digits_behind false Hex ds = refl

-- ---- a literal without its size

-- digits that are read behind the letter of a base, as that base
record ReadAs (base : Base) (ds : List ℕ) : Type 0 where
  phase_of : Phase
  reads : (text rest : List ℕ) (n : ℕ) → length text + length ds ≤ 131072 → Apart rest → scan_at (phase.Letter base) text n (ds ++ rest) ≡ ended phase_of (text ++ ds) (n + length ds) (first rest)
  item : (text : List ℕ) → digits_of text ≡ ds → item_of phase_of text ≡ Some (Token (t.Based (record { signed = is_signed text; base = base; digits = ds })))
  kept_are : filter is_kept ds ≡ ds

digits_read : (base : Base) (d : ℕ) (ds : List ℕ) → Digits base (d ∷ ds) → has_value base (d ∷ ds) ≡ true → ReadAs base (d ∷ ds)
unfolding most_of item_of is_complete
digits_read base d ds all value = record {
  phase_of = phase.Digits base;
  reads = λ text rest n short h.
      steps_to (phase.Letter base) (phase.Digits base) text n d (ds ++ rest) (first_step base d all.0) (omega (arith, short))
      ∙ goes_on (phase.Digits base) (text ++ d ∷ []) ds rest (n + 1) (digits_stay base ds all.1) (omega (arith, short, length-append text (d ∷ [])))
      ∙ comes_to_end is_apart (phase.Digits base) ((text ++ d ∷ []) ++ ds) (n + 1 + length ds) rest refl (digits_end base) h
      ∙ ap (λ (z : List ℕ). ended (phase.Digits base) z (n + 1 + length ds) (first rest)) (append_assoc text (d ∷ []) ds)
      ∙ ap (λ (k : ℕ). ended (phase.Digits base) (text ++ d ∷ ds) k (first rest)) (omega arith);
  item = λ text e. rw (e, value) refl;
  kept_are = all_kept base (d ∷ ds) all;
}

open_read : (d : ℕ) → is_open d ≡ true → ReadAs Decimal (d ∷ [])
unfolding most_of item_of decimal_value is_complete
open_read d h = record {
  phase_of = phase.Unknown;
  reads = λ text rest n short follows.
      steps_to (phase.Letter Decimal) phase.Unknown text n d rest (open_step d h) (omega (arith, short))
      ∙ comes_to_end is_apart phase.Unknown (text ++ d ∷ []) (n + 1) rest refl unknown_ends follows;
  item = λ text e. rw (e, open_no_digit d h) refl;
  kept_are = rw (open_kept d h) refl;
}

-- ---- the two ways in which digits are said to be of a base

binary_digit : (d : ℕ) → IsTrue (bits.is_digit Binary d) → is_digit Binary d ≡ true
binary_digit d h = grind (arith, nat_tests)

octal_digit : (d : ℕ) → IsTrue (bits.is_digit Octal d) → is_digit Octal d ≡ true
octal_digit d h = grind (arith, nat_tests)

decimal_digit : (d : ℕ) → IsTrue (bits.is_digit Decimal d) → is_digit Decimal d ≡ true
decimal_digit d h = grind (arith, nat_tests)

hex_digit : (d : ℕ) → IsTrue (bits.is_digit Hex d) → is_digit Hex d ≡ true
hex_digit d h = grind (arith, nat_tests)

open_digit : (d : ℕ) → IsTrue (bits.is_open d) → is_open d ≡ true
open_digit d h = grind (arith, nat_tests)

all_digits : (base : Base) → ((d : ℕ) → IsTrue (bits.is_digit base d) → is_digit base d ≡ true) → (ds : List ℕ) → AllByRecursion (λ d. IsTrue (bits.is_digit base d)) ds → Digits base ds
all_digits base each [] h = tt
all_digits base each (d ∷ ds) h = (each d h.0, all_digits base each ds h.1)

-- both say the same of the value of decimal digits
same_next : (n d : ℕ) → is_ascii_digit d ≡ true → 10 * n + digit_value d ≡ next_decimal n d
unfolding digit_value
same_next n d h = let low : (nat_le 97 d ≡ false) × (nat_le 65 d ≡ false) = (grind (arith, nat_tests), grind (arith, nat_tests)) in rw (low.0, low.1, h) refl

same_fold : (n : ℕ) (ds : List ℕ) → AllByRecursion (λ d. is_ascii_digit d ≡ true) ds → fold (λ n c. 10 * n + digit_value c) n ds ≡ fold next_decimal n ds
same_fold n [] h = refl
same_fold n (d ∷ ds) h = ap (λ (m : ℕ). fold (λ n c. 10 * n + digit_value c) m ds) (same_next n d h.0) ∙ same_fold (next_decimal n d) ds h.1

decimal_has_value : (ds : List ℕ) → Digits Decimal ds → bits.decimal_value ds < 2 ^ 128 → has_value Decimal ds ≡ true
unfolding bits.decimal_value decimal_value
decimal_has_value ds all small = lt-ltb (fold next_decimal 0 ds) (2 ^ 128) (subst (λ (n : ℕ). n < 2 ^ 128) (same_fold 0 ds all) small)

some_read : (base : Base) (ds : List ℕ) → AreDigits base ds → ReadAs base ds
unfolding AreDigits
some_read base [] h = absurd h
some_read Binary (d ∷ ds) h = digits_read Binary d ds (all_digits Binary binary_digit (d ∷ ds) (recursion_from_All _ (d ∷ ds) h)) refl
some_read Octal (d ∷ ds) h = digits_read Octal d ds (all_digits Octal octal_digit (d ∷ ds) (recursion_from_All _ (d ∷ ds) h)) refl
some_read Hex (d ∷ ds) h = digits_read Hex d ds (all_digits Hex hex_digit (d ∷ ds) (recursion_from_All _ (d ∷ ds) h)) refl
some_read Decimal (d ∷ ds) h = elim h [
  | inl one ↦ subst (λ (z : List ℕ). ReadAs Decimal (d ∷ z)) (sym one.0) (open_read d (open_digit d one.1))
  | inr all ↦
      let digits = all_digits Decimal decimal_digit (d ∷ ds) (recursion_from_All _ (d ∷ ds) all.0) in
      digits_read Decimal d ds digits (decimal_has_value (d ∷ ds) digits all.1)
]

-- ---- literals

front_length : (signed : Bool) (base : Base) → length (front signed base) ≡ (if signed then 3 else 2)
front_length true base = refl
front_length false base = refl

spelling_is : (b : Based) → based_spelling b ≡ 39 ∷ behind b.signed b.base b.digits
unfolding based_spelling
spelling_is b = by_sign b.signed
  where
    by_sign : (s : Bool) → (39 ∷ (if s then 115 ∷ [] else []) ++ base_letter b.base ∷ b.digits) ≡ 39 ∷ behind s b.base b.digits
    by_sign true = refl
    by_sign false = refl

behind_then : (s : Bool) (base : Base) (ds rest : List ℕ) → behind s base ds ++ rest ≡ behind s base (ds ++ rest)
behind_then true base ds rest = refl
behind_then false base ds rest = refl

behind_length : (s : Bool) (base : Base) (ds : List ℕ) → length (front s base ++ ds) ≡ length (behind s base ds) + 1
behind_length true base ds = omega arith
behind_length false base ds = omega arith

based_read : (b : Based) (rest : List ℕ) → IsBased b → Apart rest
    → item_at 39 (behind b.signed b.base b.digits ++ rest) ≡ piece (Token (t.Based b)) (length (front b.signed b.base) + length b.digits) (length (front b.signed b.base) + length b.digits + one_if (first rest))
unfolding item_at kept
based_read b rest good h =
    let r = some_read b.base b.digits good.spelled in
    let short = good.short in
    let scanned : scan_at phase.Prefix (39 ∷ []) 1 (behind b.signed b.base (b.digits ++ rest)) ≡ ended r.phase_of (front b.signed b.base ++ b.digits) (length (front b.signed b.base) + length b.digits) (first rest) =
    front_read b.signed b.base (b.digits ++ rest) ∙ r.reads (front b.signed b.base) rest (length (front b.signed b.base)) (omega (arith, short, front_length b.signed b.base)) h in
    let item : item_of r.phase_of (front b.signed b.base ++ b.digits) ≡ Some (Token (t.Based b)) =
    r.item (front b.signed b.base ++ b.digits) (digits_behind b.signed b.base b.digits ∙ r.kept_are)
    ∙ ap (λ (s : Bool). Some (Token (t.Based (record { signed = s; base = b.base; digits = b.digits })))) (signed_front b.signed b.base b.digits) in
    rw (behind_then b.signed b.base b.digits rest, scanned, item) refl

pub lexes_based : (b : Based) (rest : List ℕ) (ts : List VToken) → IsBased b → Apart rest → Lexes rest ts → Lexes (based_spelling b ++ rest) (t.Based b ∷ ts)
lexes_based b rest ts good h l =
    let long : length (front b.signed b.base) + length b.digits ≡ length (behind b.signed b.base b.digits) + 1 = omega (arith, length-append (front b.signed b.base) b.digits, behind_length b.signed b.base b.digits) in
    rw (spelling_is b) (lexes_token 39 (behind b.signed b.base b.digits) rest (t.Based b) (length (front b.signed b.base) + length b.digits) (length (front b.signed b.base) + length b.digits + one_if (first rest)) ts
    (based_read b rest good h) long l)

based_apart : (b : Based) (rest : List ℕ) → Apart (based_spelling b ++ rest)
based_apart b rest = rw (spelling_is b) refl

pub lexes_literal : (x : Literal) (rest : List ℕ) (ts : List VToken) → IsLiteral x → Apart rest → Lexes rest ts → Lexes (literal_spelling x ++ rest) (t.Number (pos x.size) ∷ t.Based x.based ∷ ts)
unfolding literal_spelling
lexes_literal x rest ts good h l =
    subst (λ (z : List ℕ). Lexes z (t.Number (pos x.size) ∷ t.Based x.based ∷ ts)) (sym (append_assoc (decimal x.size) (based_spelling x.based) rest))
    (lexes_count x.size (based_spelling x.based ++ rest) (t.Based x.based ∷ ts) (omega (arith, good.most)) (based_apart x.based rest) (lexes_based x.based rest ts good.based h l))

pub based_not_star : (b : Based) (rest : List ℕ) → NotStar (based_spelling b ++ rest)
based_not_star b rest = rw (spelling_is b) refl

pub literal_not_star : (x : Literal) (rest : List ℕ) → IsLiteral x → NotStar (literal_spelling x ++ rest)
unfolding literal_spelling
literal_not_star x rest good = subst NotStar (sym (append_assoc (decimal x.size) (based_spelling x.based) rest)) (count_not_star x.size (based_spelling x.based ++ rest) (omega (arith, good.most)))
