-- Integers and reals.
use Rattle.std.proofs.Common.{◌≡◌, ℕ, suc, zero, ◌+◌, ◌-◌, ◌*◌, ◌<◌, ◌≤◌, ◌^◌, ◌%◌, ◌/◌, Bool, true, false, List, [], ◌∷◌, ◌++◌, length, take, drop, Some, refl, sym, ap, ◌∙◌, subst, arith, length-append, append_assoc, append-nil}
use Rattle.std.specs.Prelude.{◌||◌, ◌&&◌, ◌==◌, not, ℤ, pos, negsuc, neg_ℤ, nat_abs, decimal, fold, nat_lt, nat_le}
use Rattle.std.specs.Char.{is_ascii_digit}
use Rattle.std.specs.Fmt.{signed_decimal}
use Rattle.std.specs.List.{AllByRecursion, prefix_len}
use Rattle.std.proofs.lemmas.Bool.{lt-ltb}
use Rattle.std.proofs.lemmas.Bool.Decides.{nat_tests}
use Rattle.std.proofs.lemmas.Fmt.{decimal_by_steps, length-decimal-le}
use Rattle.std.proofs.lemmas.List.Sums.{fold-append}
use Rattle.nl_base.specs.declared.number.Scaled.{Scaled}
use Rattle.nl_bytes.specs.Bytes.{first}
use Rattle.nl_bytes.specs.Classes.{is_verilog_space, is_number_byte}
use Rattle.vlog_values.specs.Values.{IsNumber, IsReal}
use Rattle.vlog_tokens.specs.declared.item.Item.TheVariants.{Token}
use Rattle.vlog_tokens.specs.declared.phase.Phase.TheVariants as phase
use Rattle.vlog_tokens.specs.declared.phase.Step.TheVariants.{Keep, Ends}
use Rattle.vlog_tokens.specs.declared.start.Start.TheVariants as start
use Rattle.vlog_tokens.specs.declared.token.VToken.{VToken}
use Rattle.vlog_tokens.specs.declared.token.VToken.TheVariants as t
use Rattle.vlog_tokens.specs.Items.{item_of, finished}
use Rattle.vlog_tokens.specs.Numbers.{next_decimal, decimal_value, digit_count, number_of, real_of, exponent_of, signed_number, lowered, is_no_mark, is_no_point, before_mark, from_mark, after_point, is_negative}
use Rattle.vlog_tokens.specs.Phases.{next_step, is_complete, most_of, is_mark}
use Rattle.vlog_tokens.specs.Scanning.{scan_at, kept, ended, one_if}
use Rattle.vlog_tokens.specs.Spelling.{item_at, start_of}
use Rattle.vlog_writer.specs.Spelling.{real_text}
use Rattle.vlog_lexing.specs.Lexing.{Lexes}
use Rattle.vlog_lexing.specs.Tokens.{number_tokens, real_tokens}
use Rattle.vlog_lexing.proofs.Scanning.{piece, is_apart, Apart, NotStar, Stops, stops, Stays, goes_on, steps_to, comes_to_end, lexes_token, lexes_mark}

-- ---- decimal digits

abbrev pub AreDecimal : List ℕ → Type 0
AreDecimal ds = AllByRecursion (λ d. is_ascii_digit d ≡ true) ds

pub is_digit : (d : ℕ) → d < 10 → is_ascii_digit (48 + d) ≡ true
is_digit d h = grind (arith, nat_tests)

all_push : (bs : List ℕ) (b : ℕ) → AreDecimal bs → is_ascii_digit b ≡ true → AreDecimal (bs ++ b ∷ [])
all_push [] b h p = (p, tt)
all_push (c ∷ cs) b h p = (h.0, all_push cs b h.1 p)

-- the digits of a number
pub record Spelled (n : ℕ) (ds : List ℕ) : Type 0 where
  pub digits : AreDecimal ds
  pub value : decimal_value ds ≡ n
  pub some : 0 < length ds

next_digit : (n d : ℕ) → d < 10 → next_decimal n (48 + d) ≡ 10 * n + d
next_digit n d h = rw (is_digit d h) (omega arith)

one_digit : (m : ℕ) → m < 10 → Spelled m ((48 + m) ∷ [])
unfolding decimal_value
one_digit m l = record { digits = (is_digit m l, tt); value = next_digit 0 m l ∙ omega arith; some = omega arith }

more_digits : (m : ℕ) (ds : List ℕ) → 10 ≤ m → Spelled (m / 10) ds → Spelled m (ds ++ (48 + m % 10) ∷ [])
unfolding decimal_value
more_digits m ds l h = record {
  digits = all_push ds (48 + m % 10) h.digits (is_digit (m % 10) (omega arith));
  value = fold-append next_decimal 0 ds ((48 + m % 10) ∷ []) ∙ ap (λ (z : ℕ). next_decimal z (48 + m % 10)) h.value ∙ next_digit (m / 10) (m % 10) (omega arith) ∙ omega arith;
  some = omega (arith, length-append ds ((48 + m % 10) ∷ []));
}

pub decimal_spelled : (n : ℕ) → n < 2 ^ 64 → Spelled n (decimal n)
decimal_spelled = decimal_by_steps Spelled one_digit more_digits

pub decimal_short : (n : ℕ) → n < 2 ^ 63 → length (decimal n) ≤ 20
decimal_short n small = length-decimal-le 20 n (omega arith) (omega arith) (omega arith)

-- ---- integers

digit_number : (d : ℕ) → is_ascii_digit d ≡ true → is_number_byte d ≡ true
digit_number d h = rw h refl

digit_starts : (d : ℕ) → is_ascii_digit d ≡ true → start_of d ≡ start.Lexeme phase.Whole
digit_starts d h = grind (arith, nat_tests)

whole_stays : (ds : List ℕ) → AreDecimal ds → Stays phase.Whole ds
unfolding next_step
whole_stays [] h = tt
whole_stays (d ∷ ds) h = (rw (digit_number d h.0) refl, whole_stays ds h.1)

whole_ends : (c : ℕ) → is_apart c ≡ true → next_step phase.Whole c ≡ Ends
unfolding next_step
whole_ends c h = let s = stops c h in rw (s.number, s.point, s.mark) refl

value_of : (n : ℕ) (ds : List ℕ) → n < 2 ^ 63 → decimal_value ds ≡ n → number_of ds ≡ Some (pos n)
unfolding number_of
value_of n ds small is = rw (is, lt-ltb n (2 ^ 63) small) refl

number_read : (n d : ℕ) (ds rest : List ℕ) → n < 2 ^ 63 → Spelled n (d ∷ ds) → suc (length ds) ≤ 20 → Apart rest
    → item_at d (ds ++ rest) ≡ piece (Token (t.Number (pos n))) (1 + length ds) (1 + length ds + one_if (first rest))
unfolding item_at kept item_of is_complete most_of
number_read n d ds rest small s short h =
    let scanned : scan_at phase.Whole (d ∷ []) 1 (ds ++ rest) ≡ ended phase.Whole (d ∷ ds) (1 + length ds) (first rest) =
    goes_on phase.Whole (d ∷ []) ds rest 1 (whole_stays ds s.digits.1) (omega (arith, short)) ∙ comes_to_end is_apart phase.Whole (d ∷ ds) (1 + length ds) rest refl whole_ends h in
    rw (digit_starts d s.digits.0, scanned, value_of n (d ∷ ds) small s.value) refl

digits_lex : (n : ℕ) (ds rest : List ℕ) (ts : List VToken) → n < 2 ^ 63 → Spelled n ds → length ds ≤ 20 → Apart rest → Lexes rest ts → Lexes (ds ++ rest) (t.Number (pos n) ∷ ts)
digits_lex n [] rest ts small s short h l = absurd (omega (arith, s.some))
digits_lex n (d ∷ ds) rest ts small s short h l =
    lexes_token d ds rest (t.Number (pos n)) (1 + length ds) (1 + length ds + one_if (first rest)) ts (number_read n d ds rest small s short h) (omega arith) l

-- a number without a sign
pub lexes_count : (n : ℕ) (rest : List ℕ) (ts : List VToken) → n < 2 ^ 63 → Apart rest → Lexes rest ts → Lexes (decimal n ++ rest) (t.Number (pos n) ∷ ts)
lexes_count n rest ts small h l = digits_lex n (decimal n) rest ts small (decimal_spelled n (omega arith)) (decimal_short n small) h l

pub lexes_number : (z : ℤ) (rest : List ℕ) (ts : List VToken) → IsNumber z → Apart rest → Lexes rest ts → Lexes (signed_decimal z ++ rest) (number_tokens z ts)
lexes_number (pos n) rest ts good h l = lexes_count n rest ts good h l
lexes_number (negsuc n) rest ts good h l = lexes_mark 45 (decimal (suc n) ++ rest) (t.Number (pos (suc n)) ∷ ts) refl (lexes_count (suc n) rest ts good h l)

digit_not_star : (d : ℕ) → is_ascii_digit d ≡ true → (d == 42) ≡ false
digit_not_star d h = grind (arith, nat_tests)

digits_not_star : (n : ℕ) (ds rest : List ℕ) → Spelled n ds → NotStar (ds ++ rest)
digits_not_star n [] rest s = absurd (omega (arith, s.some))
digits_not_star n (d ∷ ds) rest s = digit_not_star d s.digits.0

pub count_not_star : (n : ℕ) (rest : List ℕ) → n < 2 ^ 64 → NotStar (decimal n ++ rest)
count_not_star n rest small = digits_not_star n (decimal n) rest (decimal_spelled n small)

pub number_not_star : (z : ℤ) (rest : List ℕ) → IsNumber z → NotStar (signed_decimal z ++ rest)
number_not_star (pos n) rest good = count_not_star n rest (omega (arith, good))
number_not_star (negsuc n) rest good = refl

-- ---- reals

-- an exponent: its sign if it is negative, and its digits
record Exponent (e : ℤ) (bs : List ℕ) : Type 0 where
  reads : (text rest : List ℕ) (n : ℕ) → length text ≤ 1000 → Apart rest → scan_at phase.Mark text n (bs ++ rest) ≡ ended phase.Exponent (text ++ bs) (n + length bs) (first rest)
  value : lowered (is_negative (101 ∷ bs)) (decimal_value (101 ∷ bs)) 0 ≡ Some e
  short : length bs ≤ 21

exponent_stays : (ds : List ℕ) → AreDecimal ds → Stays phase.Exponent ds
unfolding next_step
exponent_stays [] h = tt
exponent_stays (d ∷ ds) h = (rw (digit_number d h.0) refl, exponent_stays ds h.1)

exponent_ends : (c : ℕ) → is_apart c ≡ true → next_step phase.Exponent c ≡ Ends
unfolding next_step
exponent_ends c h = rw (stops c h).number refl

mark_digit : (d : ℕ) → is_ascii_digit d ≡ true → next_step phase.Mark d ≡ Keep phase.Exponent
unfolding next_step
mark_digit d h = rw h refl

sign_digit : (d : ℕ) → is_ascii_digit d ≡ true → next_step phase.Sign d ≡ Keep phase.Exponent
unfolding next_step
sign_digit d h = rw h refl

mark_minus : next_step phase.Mark 45 ≡ Keep phase.Sign
unfolding next_step
mark_minus = refl

-- digits of an exponent behind its first, up to what follows
exponent_rest : (text ds rest : List ℕ) (n : ℕ) → AreDecimal ds → length text ≤ 2000 → length ds ≤ 20 → Apart rest
    → scan_at phase.Exponent text n (ds ++ rest) ≡ ended phase.Exponent (text ++ ds) (n + length ds) (first rest)
unfolding is_complete most_of
exponent_rest text ds rest n all short few h =
    goes_on phase.Exponent text ds rest n (exponent_stays ds all) (omega (arith, short, few)) ∙ comes_to_end is_apart phase.Exponent (text ++ ds) (n + length ds) rest refl exponent_ends h

no_minus : (d : ℕ) → is_ascii_digit d ≡ true → (d == 45) ≡ false
no_minus d h = grind (arith, nat_tests)

positive_value : (n d : ℕ) (ds : List ℕ) → n < 2 ^ 63 → Spelled n (d ∷ ds) → lowered (is_negative (101 ∷ d ∷ ds)) (decimal_value (101 ∷ d ∷ ds)) 0 ≡ Some (pos n)
unfolding decimal_value
positive_value n d ds small s =
    let same : n - 0 ≡ n = omega arith in
    rw (no_minus d s.digits.0, s.value, at_least n, same, lt-ltb n (2 ^ 63) small) refl
  where
    at_least : (n : ℕ) → nat_le 0 n ≡ true
    at_least n = grind (arith, nat_tests)

negative_value : (n : ℕ) (ds : List ℕ) → suc n < 2 ^ 63 → Spelled (suc n) ds → lowered (is_negative (101 ∷ 45 ∷ ds)) (decimal_value (101 ∷ 45 ∷ ds)) 0 ≡ Some (negsuc n)
unfolding decimal_value
negative_value n ds small s =
    let same : suc n + 0 ≡ suc n = omega arith in
    rw (s.value, same, lt-ltb (suc n) (2 ^ 63) small) refl

positive_exponent : (n : ℕ) (ds : List ℕ) → n < 2 ^ 63 → Spelled n ds → length ds ≤ 20 → Exponent (pos n) ds
unfolding most_of
positive_exponent n [] small s few = absurd (omega (arith, s.some))
positive_exponent n (d ∷ ds) small s few = record {
  reads = λ text rest m short h.
      steps_to phase.Mark phase.Exponent text m d (ds ++ rest) (mark_digit d s.digits.0) (omega (arith, short))
      ∙ exponent_rest (text ++ d ∷ []) ds rest (m + 1) s.digits.1 (omega (arith, short, length-append text (d ∷ []))) (omega (arith, few)) h
      ∙ ap (λ (z : List ℕ). ended phase.Exponent z (m + 1 + length ds) (first rest)) (append_assoc text (d ∷ []) ds)
      ∙ ap (λ (k : ℕ). ended phase.Exponent (text ++ d ∷ ds) k (first rest)) (omega arith);
  value = positive_value n d ds small s;
  short = omega (arith, few);
}

negative_exponent : (n : ℕ) (ds : List ℕ) → suc n < 2 ^ 63 → Spelled (suc n) ds → length ds ≤ 20 → Exponent (negsuc n) (45 ∷ ds)
unfolding most_of
negative_exponent n [] small s few = absurd (omega (arith, s.some))
negative_exponent n (d ∷ ds) small s few = record {
  reads = λ text rest m short h.
      steps_to phase.Mark phase.Sign text m 45 (d ∷ (ds ++ rest)) mark_minus (omega (arith, short))
      ∙ steps_to phase.Sign phase.Exponent (text ++ 45 ∷ []) (m + 1) d (ds ++ rest) (sign_digit d s.digits.0) (omega (arith, short, length-append text (45 ∷ [])))
      ∙ exponent_rest ((text ++ 45 ∷ []) ++ d ∷ []) ds rest (m + 1 + 1) s.digits.1 (omega (arith, short, length-append text (45 ∷ []), length-append (text ++ 45 ∷ []) (d ∷ []))) (omega (arith, few)) h
      ∙ ap (λ (z : List ℕ). ended phase.Exponent z (m + 1 + 1 + length ds) (first rest)) (append_assoc (text ++ 45 ∷ []) (d ∷ []) ds ∙ append_assoc text (45 ∷ []) (d ∷ ds))
      ∙ ap (λ (k : ℕ). ended phase.Exponent (text ++ 45 ∷ d ∷ ds) k (first rest)) (omega arith);
  value = negative_value n (d ∷ ds) small s;
  short = omega (arith, few);
}

exponent : (e : ℤ) → IsNumber e → Exponent e (signed_decimal e)
exponent (pos n) small = positive_exponent n (decimal n) small (decimal_spelled n (omega (arith, small))) (decimal_short n small)
exponent (negsuc n) small =
    let less : suc n < 2 ^ 63 = small in
    negative_exponent n (decimal (suc n)) less (decimal_spelled (suc n) (omega (arith, less))) (decimal_short (suc n) less)

-- the digits before the `e`
no_mark_digit : (d : ℕ) → is_ascii_digit d ≡ true → is_no_mark d ≡ true
no_mark_digit d h = grind (arith, nat_tests)

no_point_digit : (d : ℕ) → is_ascii_digit d ≡ true → is_no_point d ≡ true
no_point_digit d h = grind (arith, nat_tests)

one_more : (n : ℕ) → 1 + n ≡ suc n
one_more n = omega arith

digits_before : (ds bs : List ℕ) → AreDecimal ds → prefix_len is_no_mark (ds ++ (101 ∷ bs)) ≡ length ds
digits_before [] bs h = refl
digits_before (d ∷ ds) bs h = rw (no_mark_digit d h.0) (ap (λ (n : ℕ). 1 + n) (digits_before ds bs h.1) ∙ one_more (length ds))

all_digits : (ds : List ℕ) → AreDecimal ds → prefix_len is_no_point ds ≡ length ds
all_digits [] h = refl
all_digits (d ∷ ds) h = rw (no_point_digit d h.0) (ap (λ (n : ℕ). 1 + n) (all_digits ds h.1) ∙ one_more (length ds))

take_front : (ds bs : List ℕ) → take (length ds) (ds ++ bs) ≡ ds
take_front [] bs = refl
take_front (d ∷ ds) bs = ap (λ (z : List ℕ). d ∷ z) (take_front ds bs)

drop_front : (ds bs : List ℕ) → drop (length ds) (ds ++ bs) ≡ bs
drop_front [] bs = refl
drop_front (d ∷ ds) bs = drop_front ds bs

drop_whole : (ds : List ℕ) → drop (length ds) ds ≡ []
drop_whole [] = refl
drop_whole (d ∷ ds) = drop_whole ds

-- the value of a real without a point
real_value : (m : ℕ) (e : ℤ) (ds bs : List ℕ) → m < 2 ^ 63 → Spelled m ds → Exponent e bs → real_of (ds ++ (101 ∷ bs)) ≡ Some (record { mantissa = pos m; exponent = e })
unfolding real_of exponent_of digit_count
real_value m e ds bs small s x =
    let before : before_mark (ds ++ (101 ∷ bs)) ≡ ds = ap (λ (n : ℕ). take n (ds ++ (101 ∷ bs))) (digits_before ds bs s.digits) ∙ take_front ds (101 ∷ bs) in
    let behind : from_mark (ds ++ (101 ∷ bs)) ≡ 101 ∷ bs = ap (λ (n : ℕ). drop n (ds ++ (101 ∷ bs))) (digits_before ds bs s.digits) ∙ drop_front ds (101 ∷ bs) in
    let none : after_point ds ≡ [] = ap (λ (n : ℕ). drop n ds) (all_digits ds s.digits) ∙ drop_whole ds in
    rw (before, behind, none, value_of m ds small s.value, x.value) refl

mark_step : next_step phase.Whole 101 ≡ Keep phase.Mark
unfolding next_step
mark_step = refl

real_read : (m d : ℕ) (e : ℤ) (ds bs rest : List ℕ) → m < 2 ^ 63 → Spelled m (d ∷ ds) → suc (length ds) ≤ 20 → Exponent e bs → Apart rest
    → item_at d ((ds ++ (101 ∷ bs)) ++ rest) ≡ piece (Token (t.Real (record { mantissa = pos m; exponent = e }))) (1 + length ds + 1 + length bs) (1 + length ds + 1 + length bs + one_if (first rest))
unfolding item_at kept item_of is_complete most_of
real_read m d e ds bs rest small s short x h =
    let same : (ds ++ (101 ∷ bs)) ++ rest ≡ ds ++ (101 ∷ (bs ++ rest)) = append_assoc ds (101 ∷ bs) rest in
    let joined : ((d ∷ ds) ++ 101 ∷ []) ++ bs ≡ d ∷ (ds ++ (101 ∷ bs)) = append_assoc (d ∷ ds) (101 ∷ []) bs in
    let scanned : scan_at phase.Whole (d ∷ []) 1 (ds ++ (101 ∷ (bs ++ rest))) ≡ ended phase.Exponent (d ∷ (ds ++ (101 ∷ bs))) (1 + length ds + 1 + length bs) (first rest) =
    goes_on phase.Whole (d ∷ []) ds (101 ∷ (bs ++ rest)) 1 (whole_stays ds s.digits.1) (omega (arith, short))
    ∙ steps_to phase.Whole phase.Mark (d ∷ ds) (1 + length ds) 101 (bs ++ rest) mark_step (omega (arith, short))
    ∙ x.reads ((d ∷ ds) ++ 101 ∷ []) rest (1 + length ds + 1) (omega (arith, short, length-append (d ∷ ds) (101 ∷ []))) h
    ∙ ap (λ (z : List ℕ). ended phase.Exponent z (1 + length ds + 1 + length bs) (first rest)) joined in
    rw (digit_starts d s.digits.0, same, scanned, real_value m e (d ∷ ds) bs small s x) refl

real_digits : (m : ℕ) (e : ℤ) (ds bs rest : List ℕ) (ts : List VToken) → m < 2 ^ 63 → Spelled m ds → length ds ≤ 20 → Exponent e bs → Apart rest → Lexes rest ts
    → Lexes (ds ++ (101 ∷ (bs ++ rest))) (t.Real (record { mantissa = pos m; exponent = e }) ∷ ts)
real_digits m e [] bs rest ts small s short x h l = absurd (omega (arith, s.some))
real_digits m e (d ∷ ds) bs rest ts small s short x h l =
    let long : 1 + length ds + 1 + length bs ≡ length (ds ++ (101 ∷ bs)) + 1 = omega (arith, length-append ds (101 ∷ bs)) in
    subst (λ (z : List ℕ). Lexes (d ∷ z) (t.Real (record { mantissa = pos m; exponent = e }) ∷ ts)) (append_assoc ds (101 ∷ bs) rest)
    (lexes_token d (ds ++ (101 ∷ bs)) rest (t.Real (record { mantissa = pos m; exponent = e })) (1 + length ds + 1 + length bs) (1 + length ds + 1 + length bs + one_if (first rest)) ts
    (real_read m d e ds bs rest small s short x h) long l)

pub lexes_real : (m e : ℤ) (rest : List ℕ) (ts : List VToken) → IsNumber m → IsNumber e → Apart rest → Lexes rest ts → Lexes (signed_decimal m ++ (101 ∷ (signed_decimal e ++ rest))) (real_tokens m e ts)
lexes_real (pos n) e rest ts small near h l = real_digits n e (decimal n) (signed_decimal e) rest ts small (decimal_spelled n (omega (arith, small))) (decimal_short n small) (exponent e near) h l
lexes_real (negsuc n) e rest ts small near h l =
    let less : suc n < 2 ^ 63 = small in
    lexes_mark 45 (decimal (suc n) ++ (101 ∷ (signed_decimal e ++ rest))) (t.Real (record { mantissa = pos (suc n); exponent = e }) ∷ ts) refl
    (real_digits (suc n) e (decimal (suc n)) (signed_decimal e) rest ts less (decimal_spelled (suc n) (omega (arith, less))) (decimal_short (suc n) less) (exponent e near) h l)
