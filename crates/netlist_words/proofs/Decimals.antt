-- The number that a word is the decimal text of.
use Rattle.std.proofs.Common.{◌≡◌, ℕ, ◌<◌, ◌^◌, Bool, true, false, not, ◌&&◌, nat_lt, if◌then◌else◌, List, Option, Some, None, Result, Ok, Err, refl, sym, ap, subst, ◌∙◌}
use Rattle.std.specs.Fmt.{decimal}
use Rattle.std.specs.Str.{IsAscii, IsUtf8}
use Rattle.std.specs.Str.Parse.{ParsesUnsigned, digits_value}
use Rattle.std.proofs.lemmas.Bool.{lt-ltb, ltb-true}
use Rattle.std.proofs.lemmas.Fmt.{IsAscii-decimal, decimal_is_IsNumeral, parse-decimal}
use Rattle.std.proofs.lemmas.Slice.Eq.{bytes_eq-Decides}
use Rattle.std.proofs.lemmas.Str.{IsUtf8-from_ascii}
use Rattle.nl_base.specs.Case.{same_bytes}
use Rattle.netlist_words.specs.Parsing.{spelled_number}

-- the same as `spelled_number` for the number of the word
abbrev number_as : ℕ → List ℕ → Option ℕ
number_as v word = if nat_lt v (2 ^ 64) && same_bytes (decimal v) word then Some v else None

number_as-yes : (v : ℕ) (word : List ℕ) → v < 2 ^ 64 → decimal v ≡ word → number_as v word ≡ Some v
number_as-yes v word small e =
    let fits : nat_lt v (2 ^ 64) ≡ true = lt-ltb v (2 ^ 64) small in
    let same : same_bytes (decimal v) word ≡ true = (bytes_eq-Decides (decimal v) word).1 e in
    rw (fits, same) refl

both : (a b : Bool) → (a && b) ≡ true → (a ≡ true) × (b ≡ true)
both true b e = (refl, e)
both false b e = absurd cc

spells : (v : ℕ) (word : List ℕ) → (nat_lt v (2 ^ 64) && same_bytes (decimal v) word) ≡ true → (v < 2 ^ 64) × (word ≡ decimal v)
spells v word e =
    let parts = both (nat_lt v (2 ^ 64)) (same_bytes (decimal v) word) e in
    (ltb-true v (2 ^ 64) parts.0, sym ((bytes_eq-Decides (decimal v) word).0 parts.1))

number_as-is : (v : ℕ) (word : List ℕ) (n : ℕ) → number_as v word ≡ Some n → (n < 2 ^ 64) × (word ≡ decimal n)
number_as-is v word n e = go (nat_lt v (2 ^ 64) && same_bytes (decimal v) word) refl e
  where
    go : (t : Bool) → (nat_lt v (2 ^ 64) && same_bytes (decimal v) word) ≡ t → (if t then Some v else None) ≡ Some n → (n < 2 ^ 64) × (word ≡ decimal n)
    go true t h =
        let same : v ≡ n = cc in
        subst (λ w. (w < 2 ^ 64) × (word ≡ decimal w)) same (spells v word t)
    go false t h = absurd cc

number_as-none : (v : ℕ) (word : List ℕ) → ((n : ℕ) → n < 2 ^ 64 → word ≡ decimal n → ⊥) → number_as v word ≡ None
number_as-none v word h = go (nat_lt v (2 ^ 64) && same_bytes (decimal v) word) refl
  where
    go : (t : Bool) → (nat_lt v (2 ^ 64) && same_bytes (decimal v) word) ≡ t → (if t then Some v else None) ≡ None
    go true t = absurd (h v (spells v word t).0 (spells v word t).1)
    go false t = refl

-- the text of a number spells it
pub number_spelled : (n : ℕ) → n < 2 ^ 64 → spelled_number (decimal n) ≡ Some n
number_spelled n small = subst (λ v. number_as v (decimal n) ≡ Some n) (sym (decimal_is_IsNumeral n small).1) (number_as-yes n (decimal n) small refl)

-- a word that spells a number is its text
pub number_is : (word : List ℕ) (n : ℕ) → spelled_number word ≡ Some n → (n < 2 ^ 64) × (word ≡ decimal n)
number_is word n e = number_as-is (digits_value 10 word) word n e

-- a word that is the text of no number spells none
none_spelled : (word : List ℕ) → ((n : ℕ) → n < 2 ^ 64 → word ≡ decimal n → ⊥) → spelled_number word ≡ None
none_spelled word h = number_as-none (digits_value 10 word) word h

-- a word that is no UTF-8 spells none
pub none_by_bytes : (word : List ℕ) → (IsUtf8 word → ⊥) → spelled_number word ≡ None
none_by_bytes word h = none_spelled word (λ n small e. h (IsUtf8-from_ascii word (subst IsAscii (sym e) (IsAscii-decimal n small))))

-- what std reads as no `u64` spells none
pub none_by_fault : {E : Type 0} (word : List ℕ) (fault : E) → ParsesUnsigned 64 10 word (Err fault) → spelled_number word ≡ None
none_by_fault {E} word fault h = none_spelled word (λ n small e.
    let read : ◌≡◌ {A = Result ℕ E} (Err fault) (Ok n) = parse-decimal 64 n word (Err fault) small small e h in
    absurd cc)

-- nor does what is not the text of the number that std reads
pub none_by_text : (E : Type 0) (word : List ℕ) (v : ℕ) → ParsesUnsigned {E = E} 64 10 word (Ok v) → (decimal v ≡ word → ⊥) → spelled_number word ≡ None
none_by_text E word v h other = none_spelled word (λ n small e.
    let read : ◌≡◌ {A = Result ℕ E} (Ok v) (Ok n) = parse-decimal 64 n word (Ok v) small small e h in
    let same : v ≡ n = cc in
    other (ap decimal same ∙ sym e))

-- and what is its text spells it
pub some_by_text : (word : List ℕ) (v : ℕ) → v < 2 ^ 64 → decimal v ≡ word → spelled_number word ≡ Some v
some_by_text word v small e = subst (λ w. spelled_number w ≡ Some v) e (number_spelled v small)

-- ---- whether texts are equal

pub texts_equal : (a b : List ℕ) (ne : Bool) → ne ≡ not (same_bytes a b) → ne ≡ false → a ≡ b
texts_equal a b ne e f = go (same_bytes a b) refl
  where
    go : (t : Bool) → same_bytes a b ≡ t → a ≡ b
    go true t = (bytes_eq-Decides a b).0 t
    go false t = absurd (let wrong : true ≡ false = sym (e ∙ ap not t) ∙ f in cc)

pub texts_differ : (a b : List ℕ) (ne : Bool) → ne ≡ not (same_bytes a b) → ne ≡ true → a ≡ b → ⊥
texts_differ a b ne e f same = let wrong : false ≡ true = sym (e ∙ ap not ((bytes_eq-Decides a b).1 same)) ∙ f in cc
