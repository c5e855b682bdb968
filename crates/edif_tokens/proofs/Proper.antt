-- Each token of a text is proper.
use Rattle.std.proofs.Common.{◌≡◌, ℕ, zero, suc, ◌+◌, ◌-◌, ◌*◌, ◌<◌, ◌≤◌, ◌^◌, Bool, true, false, cond, ltb, eqb, ◌||◌, ◌&&◌, List, [], ◌∷◌, ◌++◌, length, take, drop, Option, Some, None, Result, Ok, Err, IsTrue, refl, ap, arith, length-append, length-take}
use Rattle.std.specs.Prelude.{ℤ, pos, neg_ℤ, nat_abs, IfOk, IfSome, ⊤}
use Rattle.std.specs.Char.{is_ascii_digit}
use Rattle.std.specs.List.{prefix_len}
use Rattle.std.proofs.lemmas.Bool.{ltb-true, ltb-false, leb-false}
use Rattle.nl_base.specs.declared.place.Place.{Place}
use Rattle.nl_base.specs.Place.{place_after}
use Rattle.nl_base.specs.declared.fault.Reason.TheVariants.{BadByte, TokenTooLong}
use Rattle.nl_bytes.specs.Bytes.{first}
use Rattle.nl_bytes.specs.Classes.{is_space, is_word_byte, is_string_byte}
use Rattle.nl_bytes.proofs.Fronts.{front-all}
use Rattle.nl_bytes.specs.Tokens.{Ahead}
use Rattle.nl_bytes.proofs.Limited.{limited_each}
use Rattle.nl_bytes.proofs.Uses.{AllByRecursion-push}
use Rattle.edif_tokens.specs.declared.token.Found.{Found}
use Rattle.edif_values.specs.declared.token.Token.{Token}
use Rattle.edif_tokens.specs.declared.scan.Start.{Start}
use Rattle.edif_tokens.specs.declared.scan.Start.TheVariants.{Open, Close, Quote, Letter, Ampersand, Digit, Sign, Other}
use Rattle.edif_tokens.specs.Strings.{Within, Parts, Escape, Code, string_at, is_full}
use Rattle.edif_tokens.specs.Spelling.{Piece, Flaw, flaw, ◌>>=◌, span_at, text_of, ended, may_follow, text_at, token_by, token_at, start_of, begins_word, number_or_range, integer_of, number_of, str_of, word_of, decimal_value}
use Rattle.edif_tokens.specs.Language.{stop_of, stream_from, tokens_from, then_tokens}
use Rattle.edif_values.specs.Proper.{AreBytes, IsProper}
use Rattle.edif_tokens.specs.Proper.{IsSound, AreSound}
use Rattle.edif_tokens.proofs.Words.{identifier_of, letter_begins, ampersand_begins}

-- ---- words and integers

-- the longest run of a class behind a first byte
abbrev IsRun : (ℕ → Bool) → ℕ → List ℕ → List ℕ → Type 0
IsRun class b bs text = (text ≡ b ∷ take (prefix_len class bs) bs) × (length text ≤ 1024)

then_ok : {A B : Type 0} (P : Piece A → Type 0) (Q : Piece B → Type 0) (x : Result (Piece A) Flaw) (f : Piece A → Result (Piece B) Flaw) → IfOk x P → ((piece : Piece A) → P piece → IfOk (f piece) Q) → IfOk (x >>= f) Q
then_ok P Q (Ok piece) f h g = g piece h
then_ok P Q (Err e) f h g = tt

ended_text : (P : List ℕ → Type 0) (text : List ℕ) (n : ℕ) (next : Option ℕ) → P text → IfOk (ended text n next) (λ piece. P piece.value)
ended_text P text n None h = h
ended_text P text n (Some b) h = go (may_follow b)
  where
    go : (t : Bool) → IfOk (cond t (Ok (record { value = text; count = n; seen = n + 1 })) (flaw {A = Piece (List ℕ)} BadByte n (n + 1))) (λ piece. P piece.value)
    go true = h
    go false = tt

text_of_text : (P : List ℕ → Type 0) (n : ℕ) (bs : List ℕ) → (n ≤ 1024 → P (take n bs)) → IfOk (text_of n bs) (λ piece. P piece.value)
text_of_text P n bs h = go (ltb 1024 n) refl
  where
    go : (t : Bool) → ltb 1024 n ≡ t → IfOk (cond t (flaw {A = Piece (List ℕ)} TokenTooLong 0 1025) (ended (take n bs) n (first (drop n bs)))) (λ piece. P piece.value)
    go true e = tt
    go false e = ended_text P (take n bs) n (first (drop n bs)) (h (ltb-false _ _ e))

one_more : (n : ℕ) → 1 + n ≡ suc n
one_more n = omega arith

span_text : (class : ℕ → Bool) (b : ℕ) (bs : List ℕ) → IfOk (span_at class 1 (b ∷ bs)) (λ piece. IsRun class b bs piece.value)
unfolding span_at
span_text class b bs = text_of_text (IsRun class b bs) (1 + prefix_len class bs) (b ∷ bs) (λ le.
    (ap (λ (n : ℕ). take n (b ∷ bs)) (one_more (prefix_len class bs)), omega (arith, le, length-take (1 + prefix_len class bs) (b ∷ bs))))

word_by : (lead : Bool) (b : ℕ) (bs : List ℕ) → begins_word lead b ≡ true → (IsTrue lead → 0 < length (take (prefix_len is_word_byte bs) bs)) → (piece : Piece (List ℕ)) → IsRun is_word_byte b bs piece.value
    → IfOk (word_of piece) (λ piece. IsProper piece.value)
word_by lead b bs begins some piece run = (rw run.0 (identifier_of lead b (take (prefix_len is_word_byte bs) bs) begins (front-all is_word_byte bs) some), run.1)

word_proper : (lead : Bool) (b : ℕ) (bs : List ℕ) → begins_word lead b ≡ true → IfOk (text_at is_word_byte lead (b ∷ bs) >>= word_of) (λ piece. IsProper piece.value)
word_proper false b bs begins =
    then_ok (λ piece. IsRun is_word_byte b bs piece.value) (λ piece. IsProper piece.value) (span_at is_word_byte 1 (b ∷ bs)) word_of (span_text is_word_byte b bs) (word_by false b bs begins (λ is. absurd cc))
word_proper true b [] begins = tt
word_proper true b (c ∷ cs) begins = go (is_word_byte c) refl
  where
    go : (t : Bool) → is_word_byte c ≡ t → IfOk (cond t (span_at is_word_byte 1 (b ∷ c ∷ cs)) (flaw {A = Piece (List ℕ)} BadByte 1 2) >>= word_of) (λ piece. IsProper piece.value)
    go true e =
        let n : prefix_len is_word_byte (c ∷ cs) ≡ 1 + prefix_len is_word_byte cs = rw e refl in
        then_ok (λ piece. IsRun is_word_byte b (c ∷ cs) piece.value) (λ piece. IsProper piece.value) (span_at is_word_byte 1 (b ∷ c ∷ cs)) word_of (span_text is_word_byte b (c ∷ cs))
        (word_by true b (c ∷ cs) begins (λ is. omega (arith, n, length-take (prefix_len is_word_byte (c ∷ cs)) (c ∷ cs))))
    go false e = tt

neg_abs : (m : ℕ) → nat_abs (neg_ℤ (pos m)) ≡ m
neg_abs zero = refl
neg_abs (suc m) = refl

signed_small : (t : Bool) (m : ℕ) → m < 2 ^ 63 → nat_abs (cond t (neg_ℤ (pos m)) (pos m)) < 2 ^ 63
signed_small true m lt = rw (neg_abs m) lt
signed_small false m lt = lt

pub integer_small : (text : List ℕ) → IfSome (integer_of text) (λ z. nat_abs z < 2 ^ 63)
integer_small [] = tt
integer_small (b ∷ bs) = go (cond (eqb b 43 || eqb b 45) (decimal_value bs) (decimal_value (b ∷ bs)))
  where
    by : (m : ℕ) (t : Bool) → ltb m (2 ^ 63) ≡ t → IfSome (cond t (Some (cond (eqb b 45) (neg_ℤ (pos m)) (pos m))) None) (λ z. nat_abs z < 2 ^ 63)
    by m true e = signed_small (eqb b 45) m (ltb-true _ _ e)
    by m false e = tt

    go : (m : ℕ) → IfSome (cond (ltb m (2 ^ 63)) (Some (cond (eqb b 45) (neg_ℤ (pos m)) (pos m))) None) (λ z. nat_abs z < 2 ^ 63)
    go m = by m (ltb m (2 ^ 63)) refl

number_by : (text : Piece (List ℕ)) (z : Option ℤ) → IfSome z (λ z. nat_abs z < 2 ^ 63) → IfOk (number_or_range text z) (λ piece. IsProper piece.value)
number_by text None h = tt
number_by text (Some z) h = h

number_proper : (x : Result (Piece (List ℕ)) Flaw) → IfOk (x >>= number_of) (λ piece. IsProper piece.value)
number_proper (Ok piece) = number_by piece (integer_of piece.value) (integer_small piece.value)
number_proper (Err e) = tt

-- ---- strings

abbrev IsString : List ℕ → Type 0
IsString s = AreBytes s × (length s ≤ 1048576)

abbrev Within255 : Within → Type 0
Within255 Parts = ⊤
Within255 (Escape s coded) = ⊤
Within255 (Code s code) = code ≤ 255

cond_string : (t : Bool) (x y : Result (Piece (List ℕ)) Flaw) → (t ≡ true → IfOk x (λ piece. IsString piece.value)) → (t ≡ false → IfOk y (λ piece. IsString piece.value)) → IfOk (cond t x y) (λ piece. IsString piece.value)
cond_string true x y p q = p refl
cond_string false x y p q = q refl

pushed : (value : List ℕ) (b : ℕ) → IsString value → b < 256 → is_full value ≡ false → IsString (value ++ b ∷ [])
pushed value b s lt room = (AllByRecursion-push (λ x. x < 256) value b s.0 lt, let k = leb-false 1048576 (length value) room in omega (arith, k, length-append value (b ∷ [])))

string_proper : (m : Within) (value : List ℕ) (n : ℕ) (bs : List ℕ) → AreBytes bs → IsString value → Within255 m → IfOk (string_at m value n bs) (λ piece. IsString piece.value)
unfolding string_at
string_proper Parts value n [] all s code = tt
string_proper (Escape st coded) value n [] all s code = tt
string_proper (Code st c) value n [] all s code = cond_string (is_full value) _ _ (λ _. tt) (λ _. tt)
string_proper Parts value n (b ∷ bs) all s code =
    cond_string (eqb b 34) _ _ (λ _. s) (λ _. cond_string (eqb b 37) _ _ (λ _. string_proper (Escape n false) value (n + 1) bs all.1 s tt)
    (λ _. cond_string (is_string_byte b) _ _ (λ _. cond_string (is_full value) _ _ (λ _. tt) (λ room. string_proper Parts (value ++ b ∷ []) (n + 1) bs all.1 (pushed value b s all.0 room) tt)) (λ _. tt)))
string_proper (Escape st coded) value n (b ∷ bs) all s code =
    cond_string (is_space b) _ _ (λ _. string_proper (Escape st coded) value (n + 1) bs all.1 s tt)
    (λ _. cond_string (is_ascii_digit b) _ _ (λ digit. string_proper (Code st (b - 48)) value (n + 1) bs all.1 s (omega (arith, all.0)))
    (λ _. cond_string (coded && eqb b 37) _ _ (λ _. string_proper Parts value (n + 1) bs all.1 s tt) (λ _. tt)))
string_proper (Code st c) value n (b ∷ bs) all s code =
    cond_string (is_ascii_digit b) _ _ (λ _. cond_string (ltb 255 (10 * c + (b - 48))) _ _ (λ _. tt) (λ le. string_proper (Code st (10 * c + (b - 48))) value (n + 1) bs all.1 s (ltb-false _ _ le)))
    (λ _. cond_string (is_full value) _ _ (λ _. tt) (λ room.
    let next = pushed value c s (omega (arith, code)) room in
    cond_string (is_space b) _ _ (λ _. string_proper (Escape st true) (value ++ c ∷ []) (n + 1) bs all.1 next tt)
    (λ _. cond_string (eqb b 37) _ _ (λ _. string_proper Parts (value ++ c ∷ []) (n + 1) bs all.1 next tt) (λ _. tt))))

-- ---- texts

token_proper : (start : Start) (b : ℕ) (bs : List ℕ) → start_of b ≡ start → AreBytes bs → IfOk (token_by start (b ∷ bs)) (λ piece. IsProper piece.value)
token_proper Open b bs is all = tt
token_proper Close b bs is all = tt
token_proper Quote b bs is all = then_ok (λ piece. IsString piece.value) (λ piece. IsProper piece.value) (string_at Parts [] 1 bs) str_of (string_proper Parts [] 1 bs all (tt, omega arith) tt) (λ piece h. h)
token_proper Letter b bs is all = word_proper false b bs (letter_begins b is)
token_proper Ampersand b bs is all = word_proper true b bs (ampersand_begins b is)
token_proper Digit b bs is all = number_proper (text_at is_ascii_digit false (b ∷ bs))
token_proper Sign b bs is all = number_proper (text_at is_ascii_digit true (b ∷ bs))
token_proper Other b bs is all = tt

sound_then : (p : Place) (bs : List ℕ) (x : Result (Piece Token) Flaw) (after : ℕ → Ahead Found) → IfOk x (λ piece. IsProper piece.value) → ((count : ℕ) → AreSound (after count).tokens) → AreSound (then_tokens p bs x after).tokens
sound_then p bs (Ok piece) after h rest = (h, rest piece.count)
sound_then p bs (Err f) after h rest = tt

sound_by : (t : Bool) (x y : Ahead Found) → AreSound x.tokens → AreSound y.tokens → AreSound (cond t x y).tokens
sound_by true x y e f = e
sound_by false x y e f = f

all_sound : (skipped : ℕ) (p : Place) (bs : List ℕ) → AreBytes bs → AreSound (tokens_from skipped p bs).tokens
unfolding tokens_from token_at
all_sound zero p [] all = (tt, tt)
all_sound (suc n) p [] all = (tt, tt)
all_sound (suc n) p (b ∷ bs) all = all_sound n (place_after p b) bs all.1
all_sound zero p (b ∷ bs) all =
    sound_by (is_space b) (tokens_from zero (place_after p b) bs) (then_tokens p (b ∷ bs) (token_at b bs) (λ count. tokens_from (count - 1) (place_after p b) bs))
    (all_sound zero (place_after p b) bs all.1)
    (sound_then p (b ∷ bs) (token_at b bs) (λ count. tokens_from (count - 1) (place_after p b) bs) (token_proper (start_of b) b bs refl all.1) (λ count. all_sound (count - 1) (place_after p b) bs all.1))

-- the tokens of a text are sound
pub tokens_sound : (p : Place) (bs : List ℕ) → AreBytes bs → AreSound (stream_from p bs).tokens
unfolding stream_from
tokens_sound p bs all = limited_each IsSound stop_of (tokens_from 0 p bs) (all_sound 0 p bs all)
