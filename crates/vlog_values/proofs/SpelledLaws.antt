-- `spelled_literal` answers a literal exactly where the text is its normal spelling.
use Rattle.std.proofs.Common.{◌≡◌, ℕ, ◌+◌, ◌<◌, ◌≤◌, ◌^◌, ◌==◌, ◌↔◌, Bool, true, false, ◌&&◌, ◌||◌, nat_eq, nat_le, nat_lt, if◌then◌else◌, List, [], ◌∷◌, ◌++◌, length, Option, Some, None, option_map, ℤ, pos, negsuc, inl, inr, refl, sym, ◌∙◌, ap, subst, arith}
use Rattle.std.specs.List.{list_all}
use Rattle.std.specs.Fmt.{decimal, signed_decimal}
use Rattle.std.proofs.lemmas.Bool.{eqb-true, lt-ltb, ltb-true, le-leb, leb-true, ne_eqb}
use Rattle.std.proofs.lemmas.List.Sums.{AllPass-from_list_all, list_all-from_AllPass}
use Rattle.nl_base.specs.RangeForm.{cut_at_first, spelled_index}
use Rattle.nl_base.proofs.Cuts.{cut_first-at, cut_first-is, option_and_then-Some, option_map-Some}
use Rattle.nl_base.proofs.Indexes.{free-decimal, spelled_index-is, spelled_index-signed_decimal}
use Rattle.vlog_values.specs.Values.{IsLiteral}
use Rattle.vlog_values.specs.Bits.{AreDigits, IsBased, based_length, decimal_value, is_digit, is_open}
use Rattle.vlog_values.specs.Spelling.{base_letter, based_spelling, literal_spelling}
use Rattle.vlog_values.specs.declared.literal.Base.{Base}
use Rattle.vlog_values.specs.declared.literal.Base.TheVariants.{Binary, Octal, Decimal, Hex}
use Rattle.vlog_values.specs.declared.literal.Based.{Based}
use Rattle.vlog_values.specs.declared.literal.Literal.{Literal}
use Rattle.vlog_values.specs.Spelled.{IsSpelling, are_digits, base_named, checked, is_number, is_one_open, lettered, sized, spelled_based, spelled_literal, spelled_size, within_sizes}

-- digits

both : (a b : Bool) → (a && b) ≡ true → (a ≡ true) × (b ≡ true)
both true b e = (refl, e)
both false b e = absurd cc

no_more : (n : ℕ) → nat_eq n 0 ≡ true → n ≡ 0
no_more n e = eqb-true n 0 e

empty : (ds : List ℕ) → length ds ≡ 0 → ds ≡ []
empty [] e = refl
empty (d ∷ ds) e = absurd (omega (arith, e))

number_is : (ds : List ℕ) → is_number ds ≡ true → (list_all (is_digit Decimal) ds ≡ true) × (decimal_value ds < 2 ^ 128)
number_is ds e =
    let parts = both (list_all (is_digit Decimal) ds) (nat_lt (decimal_value ds) (2 ^ 128)) e in
    (parts.0, ltb-true (decimal_value ds) (2 ^ 128) parts.1)

pub digits_are : (base : Base) (ds : List ℕ) → are_digits base ds ≡ true → AreDigits base ds
unfolding AreDigits are_digits
digits_are base [] e = absurd cc
digits_are Binary (c ∷ rest) e = AllPass-from_list_all (is_digit Binary) (c ∷ rest) e
digits_are Octal (c ∷ rest) e = AllPass-from_list_all (is_digit Octal) (c ∷ rest) e
digits_are Hex (c ∷ rest) e = AllPass-from_list_all (is_digit Hex) (c ∷ rest) e
digits_are Decimal (c ∷ rest) e = go (is_one_open (c ∷ rest)) refl e
  where
    go : (t : Bool) → is_one_open (c ∷ rest) ≡ t → (t || is_number (c ∷ rest)) ≡ true → AreDigits Decimal (c ∷ rest)
    go true t h = let parts = both (nat_eq (length rest) 0) (is_open c) t in inl (empty rest (no_more (length rest) parts.0), parts.1)
    go false t h = let parts = number_is (c ∷ rest) h in inr (AllPass-from_list_all (is_digit Decimal) (c ∷ rest) parts.0, parts.1)

pub digits_said : (base : Base) (ds : List ℕ) → AreDigits base ds → are_digits base ds ≡ true
unfolding AreDigits are_digits
digits_said base [] h = absurd h
digits_said Binary (c ∷ rest) h = list_all-from_AllPass (is_digit Binary) (c ∷ rest) h
digits_said Octal (c ∷ rest) h = list_all-from_AllPass (is_digit Octal) (c ∷ rest) h
digits_said Hex (c ∷ rest) h = list_all-from_AllPass (is_digit Hex) (c ∷ rest) h
digits_said Decimal (c ∷ rest) (inl h) = rw (h.0, h.1) refl
digits_said Decimal (c ∷ rest) (inr h) = rw (list_all-from_AllPass (is_digit Decimal) (c ∷ rest) h.0, lt-ltb (decimal_value (c ∷ rest)) (2 ^ 128) h.1) (or_true (is_one_open (c ∷ rest)))
  where
    or_true : (b : Bool) → (b || true) ≡ true
    or_true true = refl
    or_true false = refl

-- letters of bases

letter_named : (base : Base) → base_named (base_letter base) ≡ Some base
letter_named Binary = refl
letter_named Octal = refl
letter_named Decimal = refl
letter_named Hex = refl

letter_is_no_sign : (base : Base) → (base_letter base == 115) ≡ false
letter_is_no_sign Binary = refl
letter_is_no_sign Octal = refl
letter_is_no_sign Decimal = refl
letter_is_no_sign Hex = refl

named_letter : (c : ℕ) (base : Base) → base_named c ≡ Some base → c ≡ base_letter base
named_letter c base e = go (c == 98) refl (c == 111) refl (c == 100) refl (c == 104) refl e
  where
    go : (b : Bool) → (c == 98) ≡ b → (o : Bool) → (c == 111) ≡ o → (d : Bool) → (c == 100) ≡ d → (h : Bool) → (c == 104) ≡ h
        → (if b then Some Binary else (if o then Some Octal else (if d then Some Decimal else (if h then Some Hex else None)))) ≡ Some base → c ≡ base_letter base
    go true b o f d g h i e = let same : Binary ≡ base = cc in subst (λ k. c ≡ base_letter k) same (eqb-true c 98 b)
    go false b true o d g h i e = let same : Octal ≡ base = cc in subst (λ k. c ≡ base_letter k) same (eqb-true c 111 o)
    go false b false o true d h i e = let same : Decimal ≡ base = cc in subst (λ k. c ≡ base_letter k) same (eqb-true c 100 d)
    go false b false o false d true h e = let same : Hex ≡ base = cc in subst (λ k. c ≡ base_letter k) same (eqb-true c 104 h)
    go false b false o false d false h e = absurd cc

-- based literals

checked_is : (based found : Based) → checked based ≡ Some found → (based ≡ found) × IsBased based
checked_is based found e = go (are_digits based.base based.digits && nat_le (based_length based) 131072) refl e
  where
    go : (t : Bool) → (are_digits based.base based.digits && nat_le (based_length based) 131072) ≡ t → (if t then Some based else None) ≡ Some found → (based ≡ found) × IsBased based
    go true t h =
        let parts = both (are_digits based.base based.digits) (nat_le (based_length based) 131072) t in
        let same : based ≡ found = cc in
        (same, record { spelled = digits_are based.base based.digits parts.0; short = leb-true (based_length based) 131072 parts.1 })
    go false t h = absurd cc

checked_said : (based : Based) → IsBased based → checked based ≡ Some based
checked_said based h = rw (digits_said based.base based.digits h.spelled, le-leb (based_length based) 131072 h.short) refl

-- the letter and the digits of a based literal
abbrev letter_and_digits : Based → List ℕ
letter_and_digits based = base_letter based.base ∷ based.digits

lettered_is : (signed : Bool) (text : List ℕ) (found : Based) → lettered signed text ≡ Some found → IsBased found × (found.signed ≡ signed) × (letter_and_digits found ≡ text)
unfolding lettered
lettered_is signed [] found e = absurd cc
lettered_is signed (letter ∷ digits) found e =
    let named = option_and_then-Some (λ base. checked (record { signed = signed; base = base; digits = digits })) (base_named letter) found e in
    let made : Based = record { signed = signed; base = named.0; digits = digits } in
    let checks = checked_is made found named.2 in
    subst (λ based. IsBased based × (based.signed ≡ signed) × (letter_and_digits based ≡ letter ∷ digits)) checks.0
    (checks.1, refl, ap (λ c. c ∷ digits) (sym (named_letter letter named.0 named.1)))

lettered_said : (signed : Bool) (base : Base) (digits : List ℕ) → IsBased (record { signed = signed; base = base; digits = digits }) → lettered signed (base_letter base ∷ digits) ≡ Some (record { signed = signed; base = base; digits = digits })
unfolding lettered
lettered_said signed base digits h = rw (letter_named base) (checked_said (record { signed = signed; base = base; digits = digits }) h)

spelled_based_is : (text : List ℕ) (found : Based) → spelled_based text ≡ Some found → IsBased found × (based_spelling found ≡ 39 ∷ text)
unfolding spelled_based based_spelling
spelled_based_is [] found e = absurd cc
spelled_based_is (c ∷ rest) found e = go (c == 115) refl e
  where
    go : (t : Bool) → (c == 115) ≡ t → (if t then lettered true rest else lettered false (c ∷ rest)) ≡ Some found → IsBased found × (based_spelling found ≡ 39 ∷ (c ∷ rest))
    go true t h = let parts = lettered_is true rest found h in (parts.0, rw (parts.1, parts.2, eqb-true c 115 t) refl)
    go false t h = let parts = lettered_is false (c ∷ rest) found h in (parts.0, rw (parts.1, parts.2) refl)

spelled_based_said : (signed : Bool) (base : Base) (digits : List ℕ) → IsBased (record { signed = signed; base = base; digits = digits })
    → spelled_based ((if signed then 115 ∷ [] else []) ++ base_letter base ∷ digits) ≡ Some (record { signed = signed; base = base; digits = digits })
unfolding spelled_based
spelled_based_said true base digits h = lettered_said true base digits h
spelled_based_said false base digits h = rw (letter_is_no_sign base) (lettered_said false base digits h)

-- sizes

spelled_size_is : (bytes : List ℕ) (n : ℕ) → spelled_size bytes ≡ Some n → (1 ≤ n) × (n ≤ 65536) × (bytes ≡ decimal n)
unfolding spelled_size
spelled_size_is bytes n e = let found = option_and_then-Some within_sizes (spelled_index bytes) n e in within found.0 found.2 (spelled_index-is bytes found.0 found.1).1
  where
    sized_as : (m : ℕ) (t : Bool) → (nat_le 1 m && nat_le m 65536) ≡ t → (if t then Some m else None) ≡ Some n → bytes ≡ decimal m → (1 ≤ n) × (n ≤ 65536) × (bytes ≡ decimal n)
    sized_as m true t h text =
        let parts = both (nat_le 1 m) (nat_le m 65536) t in
        let same : m ≡ n = cc in
        subst (λ k. (1 ≤ k) × (k ≤ 65536) × (bytes ≡ decimal k)) same (leb-true 1 m parts.0, leb-true m 65536 parts.1, text)
    sized_as m false t h text = absurd cc

    within : (z : ℤ) → within_sizes z ≡ Some n → bytes ≡ signed_decimal z → (1 ≤ n) × (n ≤ 65536) × (bytes ≡ decimal n)
    within (pos m) h text = sized_as m (nat_le 1 m && nat_le m 65536) refl h text
    within (negsuc m) h text = absurd cc

spelled_size_said : (n : ℕ) → 1 ≤ n → n ≤ 65536 → spelled_size (decimal n) ≡ Some n
unfolding spelled_size
spelled_size_said n some few =
    let index : spelled_index (decimal n) ≡ Some (pos n) = spelled_index-signed_decimal (pos n) (omega (arith, few)) in
    rw (index, le-leb 1 n some, le-leb n 65536 few) refl

size_has_no_quote : (d : ℕ) → d < 10 → (48 + d == 39) ≡ false
size_has_no_quote d small = ne_eqb (48 + d) 39 (λ e. omega (arith, e, small))

-- literals

pub spelled_is : (text : List ℕ) (literal : Literal) → spelled_literal text ≡ Some literal → IsSpelling text literal
unfolding spelled_literal literal_spelling
spelled_is text literal e =
    let sides = option_and_then-Some sized (cut_at_first 39 text) literal e in
    let size = option_and_then-Some (λ size. option_map (λ based. record { size = size; based = based }) (spelled_based sides.0.1)) (spelled_size sides.0.0) literal sides.2 in
    let based = option_map-Some (λ based. record { size = size.0; based = based }) (spelled_based sides.0.1) literal size.2 in
    let size_is = spelled_size_is sides.0.0 size.0 size.1 in
    let based_is = spelled_based_is sides.0.1 based.0 based.1 in
    let made : Literal = record { size = size.0; based = based.0 } in
    let whole : decimal size.0 ++ based_spelling based.0 ≡ text = rw (based_is.1, sym size_is.2) (sym (cut_first-is 39 text sides.0.0 sides.0.1 sides.1)) in
    let good : IsLiteral made = record { least = size_is.0; most = size_is.1; based = based_is.0 } in
    let spelling : IsSpelling text made = record { literal_is = good; text_is = whole } in
    subst (IsSpelling text) based.2 spelling

pub spelled_said : (text : List ℕ) (literal : Literal) → IsSpelling text literal → spelled_literal text ≡ Some literal
unfolding spelled_literal literal_spelling based_spelling
spelled_said text literal h =
    let n = literal.size in
    let based = literal.based in
    let behind : List ℕ = (if based.signed then 115 ∷ [] else []) ++ base_letter based.base ∷ based.digits in
    let few = h.literal_is.most in
    let cut : cut_at_first 39 (decimal n ++ 39 ∷ behind) ≡ Some (decimal n, behind) = cut_first-at 39 (decimal n) behind (free-decimal 39 size_has_no_quote n (omega (arith, few))) in
    rw (sym h.text_is, cut, spelled_size_said n h.literal_is.least few, spelled_based_said based.signed based.base based.digits h.literal_is.based) refl

pub exact : (text : List ℕ) (found : Option Literal) → found ≡ spelled_literal text → (literal : Literal) → (found ≡ Some literal) ↔ IsSpelling text literal
exact text found e literal = (λ h. spelled_is text literal (sym e ∙ h), λ h. e ∙ spelled_said text literal h)
