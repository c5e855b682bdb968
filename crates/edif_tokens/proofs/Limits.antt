-- A text within the limit of an input is read whole.
use Rattle.std.proofs.Common.{◌≡◌, ℕ, zero, suc, ◌+◌, ◌-◌, ◌<◌, ◌≤◌, Bool, true, false, cond, ltb, List, [], ◌∷◌, ◌++◌, length, take, drop, Option, Some, None, Result, Ok, Err, refl, sym, ap, ◌∙◌, inl, inr, arith, rules, length-drop}
use Rattle.std.specs.Prelude.{ℤ, ◌*◌}
use Rattle.std.specs.Char.{is_ascii_digit}
use Rattle.std.specs.List.{prefix_len}
use Rattle.std.proofs.lemmas.Bool.{ltb-true, cases_lt}
use Rattle.std.proofs.lemmas.List.Sums.{prefix_len-le-length}
use Rattle.grammar.specs.Whole.{Over}
use Rattle.nl_base.specs.declared.place.Place.{Place}
use Rattle.nl_base.specs.Place.{place_after, place_at_start}
use Rattle.nl_bytes.specs.declared.bytes.TheConstants.{LIMIT}
use Rattle.nl_bytes.specs.Bytes.{first}
use Rattle.nl_bytes.specs.Classes.{is_space, is_word_byte}
use Rattle.nl_bytes.specs.Tokens.{Ahead, follow, limited}
use Rattle.nl_bytes.proofs.Limited.{token_near, fault_near, end_near}
use Rattle.edif_tokens.specs.declared.token.Found.{Found}
use Rattle.edif_values.specs.declared.token.Token.{Token}
use Rattle.edif_tokens.specs.declared.scan.Start.{Start}
use Rattle.edif_tokens.specs.declared.scan.Start.TheVariants.{Open, Close, Quote, Letter, Ampersand, Digit, Sign, Other}
use Rattle.edif_tokens.specs.Strings.{Within, Parts, Escape, Code, string_at}
use Rattle.edif_tokens.specs.Spelling.{Piece, Flaw, flaw, ◌>>=◌, span_at, text_of, ended, may_follow, text_at, token_by, token_at, start_of, number_or_range, integer_of, word_of, number_of, str_of}
use Rattle.nl_bytes.specs.Flaws.{fault_at}
use Rattle.edif_tokens.specs.Language.{stop_of, stream_from, tokens, all_tokens, tokens_from, then_tokens, found_at}
use Rattle.edif_tokens.specs.Scan.{seen_of}
use Rattle.nl_base.specs.declared.fault.Reason.TheVariants.{BadByte, TokenTooLong}

-- ---- no more has to be seen than there is

cond_within : {A : Type 0} (n : ℕ) (t : Bool) (x y : Result (Piece A) Flaw) → seen_of x ≤ n → seen_of y ≤ n → seen_of (cond t x y) ≤ n
cond_within n true x y p q = p
cond_within n false x y p q = q

more : (s n k : ℕ) → s ≤ n + 1 + k → s ≤ n + suc k
more s n k h = omega arith

one_within : (n k : ℕ) → n + 1 ≤ n + suc k
one_within n k = omega arith

string_within : (m : Within) (value : List ℕ) (n : ℕ) (bs : List ℕ) → seen_of (string_at m value n bs) ≤ n + length bs
unfolding string_at
string_within Parts value n [] = omega arith
string_within (Escape s coded) value n [] = omega arith
string_within (Code s code) value n [] = let a : n ≤ n + 0 = omega arith in search (rules, cond_within)
string_within Parts value n (b ∷ bs) =
    let z : n + 1 ≤ n + suc (length bs) = omega arith in
    let a = more _ n (length bs) (string_within (Escape n false) value (n + 1) bs) in
    let c = more _ n (length bs) (string_within Parts (value ++ b ∷ []) (n + 1) bs) in
    search (rules, cond_within)
string_within (Escape s coded) value n (b ∷ bs) =
    let z : n + 1 ≤ n + suc (length bs) = omega arith in
    let a = more _ n (length bs) (string_within (Escape s coded) value (n + 1) bs) in
    let c = more _ n (length bs) (string_within (Code s (b - 48)) value (n + 1) bs) in
    let d = more _ n (length bs) (string_within Parts value (n + 1) bs) in
    search (rules, cond_within)
string_within (Code s code) value n (b ∷ bs) =
    let z : n + 1 ≤ n + suc (length bs) = omega arith in
    let y : n ≤ n + suc (length bs) = omega arith in
    let a = more _ n (length bs) (string_within (Code s (10 * code + (b - 48))) value (n + 1) bs) in
    let c = more _ n (length bs) (string_within (Escape s true) (value ++ code ∷ []) (n + 1) bs) in
    let d = more _ n (length bs) (string_within Parts (value ++ code ∷ []) (n + 1) bs) in
    search (rules, cond_within)

behind : (n : ℕ) (bs : List ℕ) (b : ℕ) → first (drop n bs) ≡ Some b → n < length bs
behind n bs b e = go (drop n bs) (length-drop n bs) e
  where
    go : (xs : List ℕ) → length xs ≡ length bs - n → first xs ≡ Some b → n < length bs
    go [] len e = absurd cc
    go (x ∷ xs) len e = omega (arith, len)

ended_within : (text : List ℕ) (n : ℕ) (bs : List ℕ) → n ≤ length bs → seen_of (ended text n (first (drop n bs))) ≤ length bs
ended_within text n bs le = go (first (drop n bs)) refl
  where
    go : (next : Option ℕ) → first (drop n bs) ≡ next → seen_of (ended text n next) ≤ length bs
    go None e = le
    go (Some b) e = let lt = behind n bs b e in cond_within (length bs) (may_follow b) (Ok (record { value = text; count = n; seen = n + 1 })) (flaw BadByte n (n + 1)) (omega (arith, lt)) (omega (arith, lt))

text_of_within : (n : ℕ) (bs : List ℕ) → n ≤ length bs → seen_of (text_of n bs) ≤ length bs
text_of_within n bs le = go (ltb 1024 n) refl
  where
    go : (t : Bool) → ltb 1024 n ≡ t → seen_of (cond t (flaw TokenTooLong 0 1025) (ended (take n bs) n (first (drop n bs)))) ≤ length bs
    go true e = omega (arith, ltb-true _ _ e)
    go false e = ended_within (take n bs) n bs le

span_within : (class : ℕ → Bool) (b : ℕ) (bs : List ℕ) → seen_of (span_at class 1 (b ∷ bs)) ≤ suc (length bs)
unfolding span_at
span_within class b bs = text_of_within (1 + prefix_len class bs) (b ∷ bs) (omega (arith, prefix_len-le-length class bs))

text_within : (class : ℕ → Bool) (lead : Bool) (b : ℕ) (bs : List ℕ) → seen_of (text_at class lead (b ∷ bs)) ≤ suc (length bs)
text_within class false b bs = span_within class b bs
text_within class true b [] = omega arith
text_within class true b (c ∷ cs) = cond_within (suc (suc (length cs))) (class c) (span_at class 1 (b ∷ c ∷ cs)) (flaw BadByte 1 2) (span_within class b (c ∷ cs)) (omega arith)

number_seen : (text : Piece (List ℕ)) (z : Option ℤ) → seen_of (number_or_range text z) ≡ text.seen
number_seen text None = refl
number_seen text (Some z) = refl

then_within : {A B : Type 0} (n : ℕ) (x : Result (Piece A) Flaw) (f : Piece A → Result (Piece B) Flaw) → ((piece : Piece A) → seen_of (f piece) ≡ piece.seen) → seen_of x ≤ n → seen_of (x >>= f) ≤ n
then_within n (Ok piece) f same le = omega (arith, same piece)
then_within n (Err e) f same le = le

token_within : (start : Start) (b : ℕ) (bs : List ℕ) → seen_of (token_by start (b ∷ bs)) ≤ suc (length bs)
token_within Open b bs = omega arith
token_within Close b bs = omega arith
token_within Quote b bs = then_within (suc (length bs)) (string_at Parts [] 1 bs) str_of (λ piece. refl) (let h = string_within Parts [] 1 bs in omega (arith, h))
token_within Letter b bs = then_within (suc (length bs)) (text_at is_word_byte false (b ∷ bs)) word_of (λ piece. refl) (text_within is_word_byte false b bs)
token_within Ampersand b bs = then_within (suc (length bs)) (text_at is_word_byte true (b ∷ bs)) word_of (λ piece. refl) (text_within is_word_byte true b bs)
token_within Digit b bs = then_within (suc (length bs)) (text_at is_ascii_digit false (b ∷ bs)) number_of (λ piece. number_seen piece (integer_of piece.value)) (text_within is_ascii_digit false b bs)
token_within Sign b bs = then_within (suc (length bs)) (text_at is_ascii_digit true (b ∷ bs)) number_of (λ piece. number_seen piece (integer_of piece.value)) (text_within is_ascii_digit true b bs)
token_within Other b bs = omega arith

-- ---- texts

limited_stops : (p : Place) (bs : List ℕ) (n : ℕ) (x : Result (Piece Token) Flaw) (after : ℕ → Ahead Found) → p.offset + n ≤ LIMIT → seen_of x ≤ n → ((count : ℕ) → limited stop_of (after count) ≡ after count)
    → limited stop_of (then_tokens p bs x after) ≡ then_tokens p bs x after
limited_stops p bs n (Ok piece) after le seen rest =
    let near : p.offset + piece.seen ≤ LIMIT = omega (arith, le, seen) in token_near stop_of (found_at p piece) (after piece.count) near ∙ ap (follow (found_at p piece)) (rest piece.count)
limited_stops p bs n (Err f) after le seen rest = let near : p.offset + f.seen ≤ LIMIT = omega (arith, le, seen) in fault_near stop_of (fault_at p bs f) near

limited_by : (t : Bool) (x y : Ahead Found) → limited stop_of x ≡ x → limited stop_of y ≡ y → limited stop_of (cond t x y) ≡ cond t x y
limited_by true x y e f = e
limited_by false x y e f = f

-- bytes that end within the limit are read whole
limited_whole : (skipped : ℕ) (p : Place) (bs : List ℕ) → p.offset + length bs ≤ LIMIT → limited stop_of (tokens_from skipped p bs) ≡ tokens_from skipped p bs
unfolding tokens_from token_at
limited_whole zero p [] le = end_near stop_of p (omega arith)
limited_whole (suc n) p [] le = end_near stop_of p (omega arith)
limited_whole (suc n) p (b ∷ bs) le = limited_whole n (place_after p b) bs (omega arith)
limited_whole zero p (b ∷ bs) le =
    limited_by (is_space b) (tokens_from zero (place_after p b) bs) (then_tokens p (b ∷ bs) (token_at b bs) (λ count. tokens_from (count - 1) (place_after p b) bs))
    (limited_whole zero (place_after p b) bs (omega arith))
    (limited_stops p (b ∷ bs) (suc (length bs)) (token_at b bs) (λ count. tokens_from (count - 1) (place_after p b) bs) le (token_within (start_of b) b bs)
    (λ count. limited_whole (count - 1) (place_after p b) bs (omega arith)))

finish_stops : (p : Place) (bs : List ℕ) (x : Result (Piece Token) Flaw) (after : ℕ → Ahead Found) → ((count : ℕ) → (after count).finish ≡ Over → ⊥) → (then_tokens p bs x after).finish ≡ Over → ⊥
finish_stops p bs (Ok piece) after rest e = rest piece.count e
finish_stops p bs (Err f) after rest e = cc

finish_by : (t : Bool) (x y : Ahead Found) → (x.finish ≡ Over → ⊥) → (y.finish ≡ Over → ⊥) → (cond t x y).finish ≡ Over → ⊥
finish_by true x y e f h = e h
finish_by false x y e f h = f h

never_over : (skipped : ℕ) (p : Place) (bs : List ℕ) → (tokens_from skipped p bs).finish ≡ Over → ⊥
unfolding tokens_from
never_over zero p [] e = cc
never_over (suc n) p [] e = cc
never_over (suc n) p (b ∷ bs) e = never_over n (place_after p b) bs e
never_over zero p (b ∷ bs) e =
    finish_by (is_space b) (tokens_from zero (place_after p b) bs) (then_tokens p (b ∷ bs) (token_at b bs) (λ count. tokens_from (count - 1) (place_after p b) bs))
    (never_over zero (place_after p b) bs)
    (finish_stops p (b ∷ bs) (token_at b bs) (λ count. tokens_from (count - 1) (place_after p b) bs) (λ count. never_over (count - 1) (place_after p b) bs)) e

-- the tokens of a text within the limit are all its tokens
pub tokens_whole : (text : List ℕ) → length text ≤ LIMIT → tokens text ≡ all_tokens text
unfolding stream_from
tokens_whole text le = limited_whole 0 place_at_start text (omega (arith, le))

-- the tokens are cut at the limit only where there are more bytes
pub over_long : (p : Place) (bs : List ℕ) → (stream_from p bs).finish ≡ Over → LIMIT < p.offset + length bs
unfolding stream_from
over_long p bs over = elim (cases_lt LIMIT (p.offset + length bs)) [
  | inl lt ↦ lt
  | inr le ↦ absurd (never_over 0 p bs (sym (ap (λ (s : Ahead Found). s.finish) (limited_whole 0 p bs le)) ∙ over))
]
