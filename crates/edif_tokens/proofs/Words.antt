-- A word is an identifier.
use Rattle.std.proofs.Common.{◌≡◌, ℕ, ◌<◌, Bool, true, false, cond, ◌||◌, eqb, List, [], ◌∷◌, length, IsTrue, refl, arith}
use Rattle.std.specs.Char.{is_ascii_alphabetic, is_ascii_digit}
use Rattle.std.specs.List.{list_all}
use Rattle.nl_base.specs.Identifiers as base
use Rattle.nl_bytes.specs.declared.class.Class.TheVariants.{WordByte}
use Rattle.nl_bytes.specs.Classes.{AreIn}
use Rattle.edif_tokens.specs.declared.scan.Start.{Start}
use Rattle.edif_tokens.specs.declared.scan.Start.TheVariants.{Open, Close, Quote, Letter, Ampersand, Digit, Sign, Other}
use Rattle.edif_tokens.specs.Spelling.{begins_word, start_of}
use Rattle.edif_tokens.specs.Scan.{IsLed}

words_all : (bs : List ℕ) → AreIn WordByte bs → list_all base.is_word_byte bs ≡ true
words_all [] each = refl
words_all (b ∷ bs) each = rw (each.0, words_all bs each.1) refl

or_right : (x y : Bool) → y ≡ true → (x || y) ≡ true
or_right true y e = refl
or_right false y e = e

pub identifier_of : (lead : Bool) (b : ℕ) (rest : List ℕ) → begins_word lead b ≡ true → AreIn WordByte rest → (IsTrue lead → 0 < length rest) → base.is_identifier (b ∷ rest) ≡ true
identifier_of false b [] begins each some = begins
identifier_of true b [] begins each some = absurd (let k = some refl in omega arith)
identifier_of false b (c ∷ cs) begins each some = let all = words_all (c ∷ cs) each in rw (begins, all) refl
identifier_of true b (c ∷ cs) begins each some = let all = words_all (c ∷ cs) each in let or = or_right (base.is_letter b) (eqb b 38) begins in rw (or, all) refl

-- a text that begins as a word does is an identifier
pub identifier_led : {lead : Bool} {b : ℕ} {text : List ℕ} → IsLed WordByte lead b text → begins_word lead b ≡ true → base.is_identifier text ≡ true
identifier_led {lead} {b} {text} led begins = rw led.parts (identifier_of lead b led.rest begins led.each led.some)

not_letter : (a c d : Bool) → cond a Ampersand (cond c Digit (cond d Sign Other)) ≡ Letter → ⊥
not_letter true c d e = cc
not_letter false true d e = cc
not_letter false false true e = cc
not_letter false false false e = cc

letter_by : (a c d t : Bool) (tail : Start) → (tail ≡ Letter → ⊥) → cond a Open (cond c Close (cond d Quote (cond t Letter tail))) ≡ Letter → t ≡ true
letter_by true c d t tail n e = absurd cc
letter_by false true d t tail n e = absurd cc
letter_by false false true t tail n e = absurd cc
letter_by false false false true tail n e = refl
letter_by false false false false tail n e = absurd (n e)

-- what begins as a letter does
pub letter_begins : (b : ℕ) → start_of b ≡ Letter → begins_word false b ≡ true
letter_begins b e = letter_by (eqb b 40) (eqb b 41) (eqb b 34) (is_ascii_alphabetic b) (cond (eqb b 38) Ampersand (cond (is_ascii_digit b) Digit (cond (eqb b 43 || eqb b 45) Sign Other)))
    (not_letter (eqb b 38) (is_ascii_digit b) (eqb b 43 || eqb b 45)) e

not_ampersand : (c d : Bool) → cond c Digit (cond d Sign Other) ≡ Ampersand → ⊥
not_ampersand true d e = cc
not_ampersand false true e = cc
not_ampersand false false e = cc

ampersand_by : (a c d t u : Bool) (tail : Start) → (tail ≡ Ampersand → ⊥) → cond a Open (cond c Close (cond d Quote (cond t Letter (cond u Ampersand tail)))) ≡ Ampersand → u ≡ true
ampersand_by true c d t u tail n e = absurd cc
ampersand_by false true d t u tail n e = absurd cc
ampersand_by false false true t u tail n e = absurd cc
ampersand_by false false false true u tail n e = absurd cc
ampersand_by false false false false true tail n e = refl
ampersand_by false false false false false tail n e = absurd (n e)

-- what begins as an `&` does
pub ampersand_begins : (b : ℕ) → start_of b ≡ Ampersand → begins_word true b ≡ true
ampersand_begins b e = ampersand_by (eqb b 40) (eqb b 41) (eqb b 34) (is_ascii_alphabetic b) (eqb b 38) (cond (is_ascii_digit b) Digit (cond (eqb b 43 || eqb b 45) Sign Other))
    (not_ampersand (is_ascii_digit b) (eqb b 43 || eqb b 45)) e
