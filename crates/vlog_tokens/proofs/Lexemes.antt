-- What names, numbers, reals, based literals and directives keep of the bytes that they are scanned from.
use Rattle.std.proofs.Common.{◌≡◌, ◌∙◌, sym, ap, subst, refl, ℕ, ◌+◌, ◌-◌, ◌<◌, ◌≤◌, Bool, true, false, cond, leb, eqb, ◌||◌, List, [], ◌∷◌, ◌++◌, length, take, Option, Some, None, Result, arith, length-append, length-take, append_assoc, append-nil}
use Rattle.std.specs.Prelude.{⊤, IfOk}
use Rattle.std.specs.Char.{is_ascii_digit, is_ascii_alphabetic}
use Rattle.std.specs.List.{AllByRecursion, filter}
use Rattle.std.proofs.lemmas.Bool.{leb-false}
use Rattle.std.proofs.lemmas.Bool.Decides.{nat_tests}
use Rattle.nl_base.specs.declared.fault.Reason.TheVariants.{EndOfInput, TokenTooLong}
use Rattle.nl_bytes.specs.Bytes.{Window, Runs}
use Rattle.nl_bytes.specs.declared.class.Class.{Class}
use Rattle.nl_bytes.specs.declared.halt.Halt.{Halt}
use Rattle.nl_bytes.specs.Classes.{AreIn, in_class, is_verilog_space, is_name_byte, is_graphic, is_number_byte, is_based_byte, is_word_byte}
use Rattle.nl_bytes.proofs.Uses.{AllByRecursion-push}
use Rattle.vlog_values.specs.declared.literal.Base.{Base}
use Rattle.vlog_values.specs.declared.literal.Base.TheVariants.{Binary, Octal, Decimal, Hex}
use Rattle.vlog_values.specs.Bits.{AreDigits, IsBased}
use Rattle.vlog_values.specs.Values.{IsName}
use Rattle.vlog_tokens.specs.declared.phase.Phase.{Phase}
use Rattle.vlog_tokens.specs.declared.phase.Phase.TheVariants as phases
use Rattle.vlog_tokens.specs.declared.phase.Step.{Step}
use Rattle.vlog_tokens.specs.declared.phase.Step.TheVariants.{Keep, Pass, Ends, Bad}
use Rattle.nl_bytes.specs.Flaws.{Piece, Flaw, flaw}
use Rattle.vlog_tokens.specs.Phases.{next_step, based_step, letter_step, first_digit, base_of, is_digit, is_open, is_mark, is_sign, is_complete, most_of, class_of}
use Rattle.vlog_tokens.specs.Scanning.{Lexeme, scan_at, stepped, ended}
use Rattle.vlog_tokens.specs.Items.{is_signed, is_kept, digits_of, has_value}
use Rattle.vlog_tokens.specs.SoFar.{IsFront, IsBehind, may_stand, AreScanned, is_left_out, IsScannedOpen, IsSoFar}
use Rattle.vlog_tokens.proofs.Digits.{first_kept, begins_push, all_push, few_kept, digits_kept, open_digits}
use Rattle.vlog_tokens.proofs.Scanning.{stays_class}

-- ---- the front of a based literal

front_signed : (signed : Bool) (front tail : List ℕ) → IsFront signed front → is_signed (front ++ tail) ≡ signed
front_signed false front tail (q, l, e, t) = rw e t
front_signed true front tail (q, s, l, e, t) = rw e t

front_length : (signed : Bool) (front : List ℕ) → IsFront signed front → length front ≡ cond signed 3 2
front_length false front (q, l, e, t) = ap length e
front_length true front (q, s, l, e, t) = ap length e

front_digits : (signed : Bool) (front tail : List ℕ) → IsFront signed front → digits_of (front ++ tail) ≡ filter is_kept tail
front_digits false front tail (q, l, e, t) = rw (e, t) refl
front_digits true front tail (q, s, l, e, t) = rw (e, t) refl

push_tail : {Tail Next : List ℕ → Type 0} {text : List ℕ} (b : ℕ) → ((tail : List ℕ) → Tail tail → Next (tail ++ b ∷ [])) → length text < 131072 → IsBehind Tail text → IsBehind Next (text ++ b ∷ [])
push_tail {text = text} b next room h = record {
  signed = h.signed;
  front = h.front;
  tail = h.tail ++ b ∷ [];
  parts = ap (λ (xs : List ℕ). xs ++ b ∷ []) h.parts ∙ append_assoc h.front h.tail (b ∷ []);
  is_front = h.is_front;
  is_tail = next h.tail h.is_tail;
  short = omega (arith, room, length-append text (b ∷ []));
}

-- ---- what the bytes of a token are so far

-- what the next byte makes of them
abbrev IsStep : Phase → List ℕ → ℕ → Step → Type 0
IsStep phase text b (Keep next) = length text < most_of phase → IsSoFar next (text ++ b ∷ [])
IsStep phase text b (Pass next) = IsSoFar next text
IsStep phase text b Ends = ⊤
IsStep phase text b Bad = ⊤

by_test : (phase : Phase) (text : List ℕ) (b : ℕ) (t : Bool) (x y : Step) → (t ≡ true → IsStep phase text b x) → (t ≡ false → IsStep phase text b y) → IsStep phase text b (cond t x y)
by_test phase text b true x y p q = p refl
by_test phase text b false x y p q = q refl

-- ---- names

pub graphic_bounds : (b : ℕ) → is_graphic b ≡ true → (33 ≤ b) × (b ≤ 126)
graphic_bounds b e = (grind (arith, nat_tests), grind (arith, nat_tests))

pub name_bounds : (b : ℕ) → is_name_byte b ≡ true → (33 ≤ b) × (b ≤ 126)
name_bounds b e = (grind (arith, nat_tests), grind (arith, nat_tests))

pub letter_bounds : (b : ℕ) → (is_ascii_alphabetic b || eqb b 95) ≡ true → (33 ≤ b) × (b ≤ 126)
letter_bounds b e = (grind (arith, nat_tests), grind (arith, nat_tests))

pub name_of_one : (b : ℕ) → (33 ≤ b) × (b ≤ 126) → IsName (b ∷ [])
name_of_one b h = record { some = omega arith; short = omega arith; graphic = (h, tt) }

name_push : (text : List ℕ) (b : ℕ) → IsName text → (33 ≤ b) × (b ≤ 126) → length text < 1024 → IsName (text ++ b ∷ [])
name_push text b h bounds room = record {
  some = omega (arith, length-append text (b ∷ []), h.some);
  short = omega (arith, length-append text (b ∷ []), room);
  graphic = AllByRecursion-push _ text b h.graphic bounds;
}

name_first : (text : List ℕ) (b : ℕ) → text ≡ [] → (33 ≤ b) × (b ≤ 126) → IsName (text ++ b ∷ [])
name_first text b e bounds = let is = name_of_one b bounds in subst (λ (xs : List ℕ). IsName (xs ++ b ∷ [])) (sym e) is

all_in : (class : Class) (bs : List ℕ) → ((b : ℕ) → in_class class b ≡ true → (33 ≤ b) × (b ≤ 126)) → AreIn class bs → AllByRecursion (λ b. (33 ≤ b) × (b ≤ 126)) bs
all_in class [] bounds each = tt
all_in class (b ∷ bs) bounds each = (bounds b each.0, all_in class bs bounds each.1)

-- so many bytes of a class of printed bytes are a name
pub name_of_held : (class : Class) (bs : List ℕ) (n : ℕ) → 0 < n → n < length bs → n ≤ 1024 → AreIn class (take n bs) → ((b : ℕ) → in_class class b ≡ true → (33 ≤ b) × (b ≤ 126)) → IsName (take n bs)
name_of_held class bs n some more short each bounds =
    record { some = omega (arith, some, more, length-take n bs); short = omega (arith, short, length-take n bs); graphic = all_in class (take n bs) bounds each }

-- ---- based literals

new_front : (signed : Bool) (text : List ℕ) → IsFront signed text → length text ≤ 131072 → IsBehind (λ tail. tail ≡ []) text
new_front signed text h le = record { signed = signed; front = text; tail = []; parts = sym (append-nil text); is_front = h; is_tail = refl; short = le }

one_longer : (text : List ℕ) (b : ℕ) → length text < 131072 → length (text ++ b ∷ []) ≤ 131072
one_longer text b room = omega (arith, length-append text (b ∷ []), room)

based_good : (phase : Phase) (text : List ℕ) (b : ℕ) → (length text < most_of phase → IsBehind (λ tail. tail ≡ []) (text ++ b ∷ [])) → IsStep phase text b (based_step b)
based_good phase text b h = go (base_of b)
  where
    go : (o : Option Base) → IsStep phase text b (letter_step o)
    go None = tt
    go (Some base) = h

pushed : (text other : List ℕ) (b : ℕ) → text ≡ other → text ++ b ∷ [] ≡ other ++ b ∷ []
pushed text other b e = ap (λ (xs : List ℕ). xs ++ b ∷ []) e

prefix_good : (text : List ℕ) (b : ℕ) → IsSoFar phases.Prefix text → IsStep phases.Prefix text b (next_step phases.Prefix b)
unfolding next_step most_of
prefix_good text b (q, e) =
    by_test phases.Prefix text b (eqb b 115 || eqb b 83) (Keep phases.Signed) (based_step b) (λ t room. (q, b, pushed text (q ∷ []) b e, t))
    (λ t. based_good phases.Prefix text b (λ room. new_front false (text ++ b ∷ []) (q, b, pushed text (q ∷ []) b e, t) (one_longer text b room)))

signed_good : (text : List ℕ) (b : ℕ) → IsSoFar phases.Signed text → IsStep phases.Signed text b (next_step phases.Signed b)
unfolding next_step most_of
signed_good text b (q, s, e, t) = based_good phases.Signed text b (λ room. new_front true (text ++ b ∷ []) (q, s, b, pushed text (q ∷ s ∷ []) b e, t) (one_longer text b room))

digit_first : (base : Base) (b : ℕ) → is_digit base b ≡ true → (tail : List ℕ) → tail ≡ [] → AreScanned base (tail ++ b ∷ [])
digit_first base b e tail none =
    let is : AreScanned base (b ∷ []) = record { begins = first_kept base b e; each = rw e refl } in
    subst (λ (xs : List ℕ). AreScanned base (xs ++ b ∷ [])) (sym none) is

open_first : (b : ℕ) → is_open b ≡ true → (tail : List ℕ) → tail ≡ [] → IsScannedOpen (tail ++ b ∷ [])
open_first b e tail none = record { first = b; rest = []; parts = pushed tail [] b none; is_first = e; each = refl }

first_good : (base : Base) (text : List ℕ) (b : ℕ) → IsBehind (λ tail. tail ≡ []) text → IsStep (phases.Letter base) text b (first_digit base b)
unfolding most_of
first_good Binary text b h = by_test (phases.Letter Binary) text b (is_digit Binary b) _ _ (λ t room. push_tail b (digit_first Binary b t) room h) (λ _. tt)
first_good Octal text b h = by_test (phases.Letter Octal) text b (is_digit Octal b) _ _ (λ t room. push_tail b (digit_first Octal b t) room h) (λ _. tt)
first_good Hex text b h = by_test (phases.Letter Hex) text b (is_digit Hex b) _ _ (λ t room. push_tail b (digit_first Hex b t) room h) (λ _. tt)
first_good Decimal text b h =
    by_test (phases.Letter Decimal) text b (is_ascii_digit b) _ _ (λ t room. push_tail b (digit_first Decimal b t) room h)
    (λ _. by_test (phases.Letter Decimal) text b (is_open b) _ _ (λ t room. push_tail b (open_first b t) room h) (λ _. tt))

letter_good : (base : Base) (text : List ℕ) (b : ℕ) → IsSoFar (phases.Letter base) text → IsStep (phases.Letter base) text b (next_step (phases.Letter base) b)
unfolding next_step
letter_good base text b h = by_test (phases.Letter base) text b (is_verilog_space b) _ _ (λ _. h) (λ _. first_good base text b h)

more_digits : (base : Base) (b : ℕ) → may_stand base b ≡ true → (tail : List ℕ) → AreScanned base tail → AreScanned base (tail ++ b ∷ [])
more_digits base b e tail is = record { begins = begins_push tail b is.begins; each = all_push (may_stand base) tail b is.each e }

digits_good : (base : Base) (text : List ℕ) (b : ℕ) → IsSoFar (phases.Digits base) text → IsStep (phases.Digits base) text b (next_step (phases.Digits base) b)
unfolding next_step most_of
digits_good base text b h =
    by_test (phases.Digits base) text b (may_stand base b) _ _ (λ t room. push_tail b (more_digits base b t) room h) (λ _. by_test (phases.Digits base) text b (is_based_byte b) _ _ (λ _. tt) (λ _. tt))

more_open : (b : ℕ) → is_left_out b ≡ true → (tail : List ℕ) → IsScannedOpen tail → IsScannedOpen (tail ++ b ∷ [])
more_open b e tail is = record { first = is.first; rest = is.rest ++ b ∷ []; parts = pushed tail (is.first ∷ is.rest) b is.parts; is_first = is.is_first; each = all_push is_left_out is.rest b is.each e }

open_good : (text : List ℕ) (b : ℕ) → IsSoFar phases.Unknown text → IsStep phases.Unknown text b (next_step phases.Unknown b)
unfolding next_step most_of
open_good text b h =
    by_test phases.Unknown text b (is_left_out b) _ _ (λ t room. push_tail b (more_open b t) room h) (λ _. by_test phases.Unknown text b (is_based_byte b) _ _ (λ _. tt) (λ _. tt))

-- ---- all tokens

step_good : (phase : Phase) (text : List ℕ) (b : ℕ) → IsSoFar phase text → IsStep phase text b (next_step phase b)
unfolding next_step most_of
step_good phases.Word text b h = by_test phases.Word text b (is_name_byte b) _ _ (λ t room. name_push text b h (name_bounds b t) room) (λ _. tt)
step_good phases.Escape text b h = by_test phases.Escape text b (is_graphic b) _ _ (λ t room. name_first text b h (graphic_bounds b t)) (λ _. tt)
step_good phases.Escaped text b h =
    by_test phases.Escaped text b (is_graphic b) _ _ (λ t room. name_push text b h (graphic_bounds b t) room) (λ _. by_test phases.Escaped text b (is_verilog_space b) _ _ (λ _. tt) (λ _. tt))
step_good phases.Whole text b h =
    by_test phases.Whole text b (is_number_byte b) _ _ (λ t room. tt) (λ _. by_test phases.Whole text b (eqb b 46) _ _ (λ t room. tt) (λ _. by_test phases.Whole text b (is_mark b) _ _ (λ t room. tt) (λ _. tt)))
step_good phases.Point text b h = by_test phases.Point text b (is_ascii_digit b) _ _ (λ t room. tt) (λ _. tt)
step_good phases.Fraction text b h = by_test phases.Fraction text b (is_number_byte b) _ _ (λ t room. tt) (λ _. by_test phases.Fraction text b (is_mark b) _ _ (λ t room. tt) (λ _. tt))
step_good phases.Mark text b h = by_test phases.Mark text b (is_ascii_digit b) _ _ (λ t room. tt) (λ _. by_test phases.Mark text b (is_sign b) _ _ (λ t room. tt) (λ _. tt))
step_good phases.Sign text b h = by_test phases.Sign text b (is_ascii_digit b) _ _ (λ t room. tt) (λ _. tt)
step_good phases.Exponent text b h = by_test phases.Exponent text b (is_number_byte b) _ _ (λ t room. tt) (λ _. tt)
step_good phases.Prefix text b h = prefix_good text b h
step_good phases.Signed text b h = signed_good text b h
step_good (phases.Letter base) text b h = letter_good base text b h
step_good (phases.Digits base) text b h = digits_good base text b h
step_good phases.Unknown text b h = open_good text b h
step_good phases.Grave text b h = by_test phases.Grave text b (is_ascii_alphabetic b || eqb b 95) _ _ (λ t room. tt) (λ _. tt)
step_good phases.Directive text b h = by_test phases.Directive text b (is_word_byte b) _ _ (λ t room. tt) (λ _. tt)

-- one more byte that is kept, and one that is not
pub byte_so_far : (phase next : Phase) (text : List ℕ) (b : ℕ) → next_step phase b ≡ Keep next → IsSoFar phase text → length text < most_of phase → IsSoFar next (text ++ b ∷ [])
byte_so_far phase next text b e h room = let step : IsStep phase text b (Keep next) = subst (IsStep phase text b) e (step_good phase text b h) in step room

pub pass_so_far : (phase next : Phase) (text : List ℕ) (b : ℕ) → next_step phase b ≡ Pass next → IsSoFar phase text → IsSoFar next text
pass_so_far phase next text b e h = subst (IsStep phase text b) e (step_good phase text b h)

-- as many bytes of its class as there is room for
pub class_so_far : (phase : Phase) (class : Class) → class_of phase ≡ Some class → (text used : List ℕ) → AreIn class used → length used ≤ most_of phase - length text → IsSoFar phase text → IsSoFar phase (text ++ used)
class_so_far phase class is text [] all most h = subst (λ (xs : List ℕ). IsSoFar phase xs) (sym (append-nil text)) h
class_so_far phase class is text (b ∷ bs) all most h =
    let next = byte_so_far phase phase text b (stays_class phase class is b all.0) h (omega arith) in
    subst (λ (xs : List ℕ). IsSoFar phase xs) (append_assoc text (b ∷ []) bs) (class_so_far phase class is (text ++ b ∷ []) bs all.1 (omega (arith, length-append text (b ∷ []))) next)

pub run_so_far : (phase : Phase) {class : Class} {m : ℕ} {old new : Window} {l l' : Option (List ℕ)} {before after : List ℕ} {r : Result (Option ℕ) Halt}
    → Runs class m old new l l' before after r → class_of phase ≡ Some class → m ≡ most_of phase - length before → IsSoFar phase before → IsSoFar phase after
run_so_far phase {class} {before = before} k is most h = subst (λ (xs : List ℕ). IsSoFar phase xs) (sym k.added) (class_so_far phase class is before k.used k.each (omega (arith, k.bounded, most)) h)

-- a token that was scanned is what its phase says
abbrev pub IsScanned : Piece Lexeme → Type 0
IsScanned piece = IsSoFar piece.value.phase piece.value.text

stepped_good : (s : Step) (phase : Phase) (text : List ℕ) (n b : ℕ) (after : Phase → List ℕ → Result (Piece Lexeme) Flaw) → IsSoFar phase text → IsStep phase text b s
    → ((q : Phase) (more : List ℕ) → IsSoFar q more → IfOk (after q more) IsScanned) → IfOk (stepped s phase text n b after) IsScanned
stepped_good (Keep q) phase text n b after h step rest = go (leb (most_of phase) (length text)) refl
  where
    go : (t : Bool) → leb (most_of phase) (length text) ≡ t → IfOk (cond t (flaw {A = Piece Lexeme} TokenTooLong 0 (n + 1)) (after q (text ++ b ∷ []))) IsScanned
    go true e = tt
    go false e = rest q (text ++ b ∷ []) (step (leb-false (most_of phase) (length text) e))
stepped_good (Pass q) phase text n b after h step rest = rest q text step
stepped_good Ends phase text n b after h step rest = h
stepped_good Bad phase text n b after h step rest = tt

pub scan_good : (phase : Phase) (text : List ℕ) (n : ℕ) (bs : List ℕ) → IsSoFar phase text → IfOk (scan_at phase text n bs) IsScanned
unfolding scan_at
scan_good phase text n [] h = go (is_complete phase)
  where
    go : (t : Bool) → IfOk (cond t (ended phase text n None) (flaw {A = Piece Lexeme} EndOfInput n n)) IsScanned
    go true = h
    go false = tt
scan_good phase text n (b ∷ bs) h = stepped_good (next_step phase b) phase text n b (λ q more. scan_at q more (n + 1) bs) h (step_good phase text b h) (λ q more is. scan_good q more (n + 1) bs is)

-- ---- based literals that were scanned

is_based : {Tail : List ℕ → Type 0} (base : Base) (text : List ℕ) (h : IsBehind Tail text) → AreDigits base (filter is_kept h.tail) → IsBased (record { signed = is_signed text; base = base; digits = digits_of text })
is_based base text h digits =
    let same : digits_of text ≡ filter is_kept h.tail = ap digits_of h.parts ∙ front_digits h.signed h.front h.tail h.is_front in
    let signed : is_signed text ≡ h.signed = ap is_signed h.parts ∙ front_signed h.signed h.front h.tail h.is_front in
    let front : cond (is_signed text) 3 2 ≡ length h.front = ap (λ t. cond t 3 2) signed ∙ sym (front_length h.signed h.front h.is_front) in
    let whole : length text ≡ length h.front + length h.tail = ap length h.parts ∙ length-append h.front h.tail in
    let few = few_kept h.tail in
    let count : length (digits_of text) ≡ length (filter is_kept h.tail) = ap length same in
    record { spelled = subst (AreDigits base) (sym same) digits; short = omega (arith, front, whole, few, count, h.short) }

pub based_digits : (base : Base) (text : List ℕ) → IsSoFar (phases.Digits base) text → has_value base (digits_of text) ≡ true → IsBased (record { signed = is_signed text; base = base; digits = digits_of text })
based_digits base text h value =
    let same : digits_of text ≡ filter is_kept h.tail = ap digits_of h.parts ∙ front_digits h.signed h.front h.tail h.is_front in
    let valued : has_value base (filter is_kept h.tail) ≡ true = subst (λ ds. has_value base ds ≡ true) same value in
    is_based base text h (digits_kept base h.tail h.is_tail.begins h.is_tail.each valued)

pub based_open : (text : List ℕ) → IsSoFar phases.Unknown text → IsBased (record { signed = is_signed text; base = Decimal; digits = digits_of text })
based_open text h = is_based Decimal text h (subst (λ (xs : List ℕ). AreDigits Decimal (filter is_kept xs)) (sym h.is_tail.parts) (open_digits h.is_tail.first h.is_tail.rest h.is_tail.is_first h.is_tail.each))
