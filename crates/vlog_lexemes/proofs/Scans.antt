-- What the bytes of names, numbers, literals and directives make of the reader of such a token.
use Rattle.std.proofs.Common.{◌≡◌, ℕ, ◌+◌, ◌≤◌, Bool, true, false, eqb, not, ◌||◌, List, [], ◌∷◌, ◌++◌, length, Some, None, Result, Ok, refl, sym, ap, ◌∙◌, subst, arith, length-append, append_assoc, append-nil}
use Rattle.std.specs.Char.{is_ascii_digit}
use Rattle.std.proofs.lemmas.Bool.Decides.{nat_tests}
use Rattle.nl_bytes.specs.Classes.{is_verilog_space, is_word_byte, is_name_byte, is_number_byte, is_based_byte, is_graphic}
use Rattle.vlog_values.specs.declared.literal.Base.{Base}
use Rattle.vlog_values.specs.declared.literal.Base.TheVariants.{Binary, Octal, Decimal, Hex}
use Rattle.vlog_tokens.specs.declared.phase.Phase.{Phase}
use Rattle.vlog_tokens.specs.declared.phase.Phase.TheVariants.{Word, Escape, Escaped, Whole, Point, Fraction, Mark, Sign, Exponent, Prefix, Signed, Letter, Digits, Unknown, Grave, Directive}
use Rattle.vlog_tokens.specs.declared.phase.Step.TheVariants.{Keep, Pass, Ends}
use Rattle.nl_bytes.specs.Flaws.{Piece, Flaw}
use Rattle.vlog_tokens.specs.Phases.{next_step, is_complete, most_of, is_mark, is_sign, is_open, is_digit, base_of, letter_step, first_digit}
use Rattle.vlog_tokens.specs.Scanning.{Lexeme, scan_at}
use Rattle.vlog_tokens.proofs.Scanning.{keep_step}
use Rattle.vlog_lexemes.specs.Lexemes.{AllPass, MayFollow, no_name_byte, no_word_byte, no_real_byte, no_exponent_byte, no_number_byte, no_based_byte, digit_byte, is_low_line, begins_name, one_of}

abbrev pub Scanned : Type 0
Scanned = Result (Piece Lexeme) Flaw

-- These bytes lead a reader that is in a phase and keeps `kept` of n bytes to a phase in which it keeps `more`, where that is not too much.
pub record Scans (m : ℕ) (from : Phase) (kept : List ℕ) (n : ℕ) (used : List ℕ) (to : Phase) (more : List ℕ) : Type 0 where
  pub grows : length kept ≤ length more
  pub leads : length more ≤ m → (rest : List ℕ) → scan_at from kept n (used ++ rest) ≡ scan_at to more (n + length used) rest

pub scans_by : {m n : ℕ} {from to : Phase} {kept used others more all : List ℕ} → used ≡ others → more ≡ all → Scans m from kept n used to more
    → Scans m from kept n others to all
scans_by {m} {n} {from} {to} {kept} {used} {others} {more} {all} e f s = subst (λ (z : List ℕ). Scans m from kept n z to all) e (subst (λ (z : List ℕ). Scans m from kept n used to z) f s)

pub scans_trans : {m n : ℕ} {from mid to : Phase} {kept used more others all : List ℕ} → Scans m from kept n used mid more
    → Scans m mid more (n + length used) others to all → Scans m from kept n (used ++ others) to all
scans_trans {m} {n} {from} {mid} {to} {kept} {used} {more} {others} {all} f t = record {
  grows = omega (arith, f.grows, t.grows);
  leads = λ short rest.
      ap (scan_at from kept n) (append_assoc used others rest) ∙ f.leads (omega (arith, short, t.grows)) (others ++ rest) ∙ t.leads short rest
      ∙ ap (λ (k : ℕ). scan_at to all k rest) (omega (arith, length-append used others));
}

pub stays : (m : ℕ) (at : Phase) (kept : List ℕ) (n : ℕ) → Scans m at kept n [] at kept
stays m at kept n = record { grows = omega arith; leads = λ short rest. ap (λ (k : ℕ). scan_at at kept k rest) (omega arith) }

pub keeps : (m : ℕ) (from to : Phase) (kept : List ℕ) (n b : ℕ) → most_of from ≡ m → next_step from b ≡ Keep to
    → Scans m from kept n (b ∷ []) to (kept ++ b ∷ [])
keeps m from to kept n b most step = record {
  grows = omega (arith, length-append kept (b ∷ []));
  leads = λ short rest. keep_step from to kept n b rest step (omega (arith, short, most, length-append kept (b ∷ [])));
}

pub passes : (m : ℕ) (from to : Phase) (kept : List ℕ) (n b : ℕ) → next_step from b ≡ Pass to → Scans m from kept n (b ∷ []) to kept
unfolding scan_at
passes m from to kept n b step = record { grows = omega arith; leads = λ short rest. rw step refl }

-- a run of bytes that keep a reader in its phase
pub runs : (m : ℕ) (at : Phase) (class : ℕ → Bool) → most_of at ≡ m → ((b : ℕ) → class b ≡ true → next_step at b ≡ Keep at) → (run : List ℕ)
    → AllPass class run → (kept : List ℕ) (n : ℕ) → Scans m at kept n run at (kept ++ run)
runs m at class most step [] each kept n = scans_by refl (sym (append-nil kept)) (stays m at kept n)
runs m at class most step (b ∷ bs) each kept n =
    scans_by refl (append_assoc kept (b ∷ []) bs) (scans_trans (keeps m at at kept n b most (step b each.0)) (runs m at class most step bs each.1 (kept ++ b ∷ []) (n + 1)))

-- ---- one byte

pub name_on : (b : ℕ) → is_name_byte b ≡ true → next_step Word b ≡ Keep Word
unfolding next_step
name_on b e = rw e refl

pub escape_on : (b : ℕ) → is_graphic b ≡ true → next_step Escape b ≡ Keep Escaped
unfolding next_step
escape_on b e = rw e refl

pub escaped_on : (b : ℕ) → is_graphic b ≡ true → next_step Escaped b ≡ Keep Escaped
unfolding next_step
escaped_on b e = rw e refl

pub whole_on : (b : ℕ) → is_number_byte b ≡ true → next_step Whole b ≡ Keep Whole
unfolding next_step
whole_on b e = rw e refl

pub whole_point : next_step Whole 46 ≡ Keep Point
unfolding next_step
whole_point = refl

mark_apart : (b : ℕ) → is_mark b ≡ true → (is_number_byte b ≡ false) × (eqb b 46 ≡ false)
mark_apart b e = (grind (arith, nat_tests), grind (arith, nat_tests))

pub whole_mark : (b : ℕ) → is_mark b ≡ true → next_step Whole b ≡ Keep Mark
unfolding next_step
whole_mark b e = let a = mark_apart b e in rw (a.0, a.1, e) refl

pub point_on : (b : ℕ) → is_ascii_digit b ≡ true → next_step Point b ≡ Keep Fraction
unfolding next_step
point_on b e = rw e refl

pub fraction_on : (b : ℕ) → is_number_byte b ≡ true → next_step Fraction b ≡ Keep Fraction
unfolding next_step
fraction_on b e = rw e refl

pub fraction_mark : (b : ℕ) → is_mark b ≡ true → next_step Fraction b ≡ Keep Mark
unfolding next_step
fraction_mark b e = let a = mark_apart b e in rw (a.0, e) refl

pub mark_digit : (b : ℕ) → is_ascii_digit b ≡ true → next_step Mark b ≡ Keep Exponent
unfolding next_step
mark_digit b e = rw e refl

sign_apart : (b : ℕ) → is_sign b ≡ true → is_ascii_digit b ≡ false
sign_apart b e = grind (arith, nat_tests)

pub mark_sign : (b : ℕ) → is_sign b ≡ true → next_step Mark b ≡ Keep Sign
unfolding next_step
mark_sign b e = let a = sign_apart b e in rw (a, e) refl

pub sign_digit : (b : ℕ) → is_ascii_digit b ≡ true → next_step Sign b ≡ Keep Exponent
unfolding next_step
sign_digit b e = rw e refl

pub exponent_on : (b : ℕ) → is_number_byte b ≡ true → next_step Exponent b ≡ Keep Exponent
unfolding next_step
exponent_on b e = rw e refl

pub prefix_signed : (b : ℕ) → (eqb b 115 || eqb b 83) ≡ true → next_step Prefix b ≡ Keep Signed
unfolding next_step
prefix_signed b e = rw e refl

letter_apart : (b : ℕ) → (eqb b 115 || eqb b 83) ≡ true → base_of b ≡ None
letter_apart b e = grind (arith, nat_tests)

letter_unsigned : (b : ℕ) (base : Base) → base_of b ≡ Some base → (t : Bool) → (eqb b 115 || eqb b 83) ≡ t → t ≡ false
letter_unsigned b base e true s = absurd (let none = letter_apart b s in cc)
letter_unsigned b base e false s = refl

pub prefix_letter : (b : ℕ) (base : Base) → base_of b ≡ Some base → next_step Prefix b ≡ Keep (Letter base)
unfolding next_step
prefix_letter b base e = let unsigned = letter_unsigned b base e (eqb b 115 || eqb b 83) refl in rw unsigned (ap letter_step e)

pub signed_letter : (b : ℕ) (base : Base) → base_of b ≡ Some base → next_step Signed b ≡ Keep (Letter base)
unfolding next_step
signed_letter b base e = ap letter_step e

pub letter_white : (b : ℕ) (base : Base) → is_verilog_space b ≡ true → next_step (Letter base) b ≡ Pass (Letter base)
unfolding next_step
letter_white b base e = rw e refl

digit_apart : (base : Base) (b : ℕ) → is_digit base b ≡ true → is_verilog_space b ≡ false
digit_apart Binary b e = grind (arith, nat_tests)
digit_apart Octal b e = grind (arith, nat_tests)
digit_apart Decimal b e = grind (arith, nat_tests)
digit_apart Hex b e = grind (arith, nat_tests)

first_is : (base : Base) (b : ℕ) → is_digit base b ≡ true → first_digit base b ≡ Keep (Digits base)
first_is Binary b e = rw e refl
first_is Octal b e = rw e refl
first_is Decimal b e = rw e refl
first_is Hex b e = rw e refl

pub letter_digit : (base : Base) (b : ℕ) → is_digit base b ≡ true → next_step (Letter base) b ≡ Keep (Digits base)
unfolding next_step
letter_digit base b e = let a = digit_apart base b e in rw a (first_is base b e)

open_apart : (b : ℕ) → is_open b ≡ true → (is_verilog_space b ≡ false) × (is_ascii_digit b ≡ false)
open_apart b e = (grind (arith, nat_tests), grind (arith, nat_tests))

pub letter_open : (b : ℕ) → is_open b ≡ true → next_step (Letter Decimal) b ≡ Keep Unknown
unfolding next_step
letter_open b e = let a = open_apart b e in rw (a.0, a.1, e) refl

pub digits_on : (base : Base) (b : ℕ) → digit_byte base b ≡ true → next_step (Digits base) b ≡ Keep (Digits base)
unfolding next_step
digits_on base b e = rw e refl

pub unknown_on : (b : ℕ) → is_low_line b ≡ true → next_step Unknown b ≡ Keep Unknown
unfolding next_step
unknown_on b e = rw e refl

pub grave_on : (b : ℕ) → begins_name b ≡ true → next_step Grave b ≡ Keep Directive
unfolding next_step
grave_on b e = rw e refl

pub directive_on : (b : ℕ) → is_word_byte b ≡ true → next_step Directive b ≡ Keep Directive
unfolding next_step
directive_on b e = rw e refl

-- ---- the end

-- a token is complete in a phase, and a byte that may follow ends it
pub record EndsIn (at : Phase) (follows : ℕ → Bool) : Type 0 where
  pub complete : is_complete at ≡ true
  pub step : (b : ℕ) → follows b ≡ true → next_step at b ≡ Ends

abbrev pub found_lexeme : Phase → List ℕ → ℕ → ℕ → Scanned
found_lexeme at kept count seen = Ok (record { value = record { phase = at; text = kept }; count = count; seen = seen })

pub end_read : (at : Phase) (follows : ℕ → Bool) (kept : List ℕ) (n : ℕ) (rest : List ℕ) → EndsIn at follows → MayFollow follows rest
    → scan_at at kept n rest ≡ found_lexeme at kept n (n + one_of rest)
unfolding scan_at
end_read at follows kept n [] ends behind = rw ends.complete refl
end_read at follows kept n (b ∷ bs) ends behind = let step = ends.step b behind in rw step refl

not_true : (t : Bool) → not t ≡ true → t ≡ false
not_true false e = refl
not_true true e = absurd cc

pub name_ends : EndsIn Word no_name_byte
unfolding next_step is_complete
name_ends = record { complete = refl; step = λ b e. let no_more = not_true (is_name_byte b) e in rw no_more refl }

white_apart : (b : ℕ) → is_verilog_space b ≡ true → is_graphic b ≡ false
white_apart b e = grind (arith, nat_tests)

pub escaped_ends : EndsIn Escaped is_verilog_space
unfolding next_step is_complete
escaped_ends = record { complete = refl; step = λ b e. let a = white_apart b e in rw (a, e) refl }

or_parts : (x y z : Bool) → not (x || y || z) ≡ true → (x ≡ false) × (y ≡ false) × (z ≡ false)
or_parts false false false e = (refl, refl, refl)
or_parts false false true e = absurd cc
or_parts false true z e = absurd cc
or_parts true y z e = absurd cc

or_two : (x y : Bool) → not (x || y) ≡ true → (x ≡ false) × (y ≡ false)
or_two false false e = (refl, refl)
or_two false true e = absurd cc
or_two true y e = absurd cc

pub whole_ends : EndsIn Whole no_real_byte
unfolding next_step is_complete
whole_ends = record { complete = refl; step = λ b e. let p = or_parts (is_number_byte b) (eqb b 46) (is_mark b) e in rw (p.0, p.1, p.2) refl }

pub fraction_ends : EndsIn Fraction no_exponent_byte
unfolding next_step is_complete
fraction_ends = record { complete = refl; step = λ b e. let p = or_two (is_number_byte b) (is_mark b) e in rw (p.0, p.1) refl }

pub exponent_ends : EndsIn Exponent no_number_byte
unfolding next_step is_complete
exponent_ends = record { complete = refl; step = λ b e. let no_more = not_true (is_number_byte b) e in rw no_more refl }

based_apart : (base : Base) (b : ℕ) → is_based_byte b ≡ false → digit_byte base b ≡ false
based_apart Binary b e = grind (arith, nat_tests)
based_apart Octal b e = grind (arith, nat_tests)
based_apart Decimal b e = grind (arith, nat_tests)
based_apart Hex b e = grind (arith, nat_tests)

low_line_apart : (b : ℕ) → is_based_byte b ≡ false → eqb b 95 ≡ false
low_line_apart b e = grind (arith, nat_tests)

pub digits_end : (base : Base) → EndsIn (Digits base) no_based_byte
unfolding next_step is_complete
digits_end base = record { complete = refl; step = λ b e. let no_more = not_true (is_based_byte b) e in let a = based_apart base b no_more in rw (a, no_more) refl }

pub unknown_ends : EndsIn Unknown no_based_byte
unfolding next_step is_complete
unknown_ends = record { complete = refl; step = λ b e. let no_more = not_true (is_based_byte b) e in let a = low_line_apart b no_more in rw (no_more, a) refl }

pub directive_ends : EndsIn Directive no_word_byte
unfolding next_step is_complete
directive_ends = record { complete = refl; step = λ b e. let no_more = not_true (is_word_byte b) e in rw no_more refl }
