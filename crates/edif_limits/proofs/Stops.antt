-- The stops of the tokens of a text rise.
use Rattle.std.proofs.Common.{◌≡◌, ℕ, zero, suc, ◌+◌, ◌-◌, ◌<◌, ◌≤◌, Bool, true, false, cond, ltb, List, [], ◌∷◌, ◌++◌, length, take, drop, Option, Some, None, Result, Ok, Err, refl, arith, rules, length-drop}
use Rattle.std.specs.Prelude.{ℤ, ◌*◌, nat_le}
use Rattle.std.specs.Char.{is_ascii_digit}
use Rattle.std.specs.List.{prefix_len}
use Rattle.std.proofs.lemmas.List.Sums.{prefix_len-le-length}
use Rattle.grammar.specs.Whole.{Over}
use Rattle.nl_base.specs.declared.place.Place.{Place}
use Rattle.nl_base.specs.Place.{place_after, place_at_start}
use Rattle.nl_bytes.specs.Bytes.{first}
use Rattle.nl_bytes.specs.Classes.{is_space, is_word_byte}
use Rattle.nl_bytes.specs.Tokens.{Ahead}
use Rattle.readers.specs.Rises.{Rises}
use Rattle.edif_tokens.specs.declared.token.Found.{Found}
use Rattle.edif_values.specs.declared.token.Token.{Token}
use Rattle.edif_tokens.specs.declared.scan.Start.{Start}
use Rattle.edif_tokens.specs.declared.scan.Start.TheVariants.{Open, Close, Quote, Letter, Ampersand, Digit, Sign, Other}
use Rattle.edif_tokens.specs.Strings.{Within, Parts, Escape, Code, string_at}
use Rattle.edif_tokens.specs.Spelling.{Piece, Flaw, flaw, ◌>>=◌, span_at, text_of, ended, may_follow, text_at, token_by, token_at, start_of, number_or_range, integer_of, word_of, number_of, str_of}
use Rattle.edif_tokens.specs.Language.{tokens_from, then_tokens, stop_of, all_tokens}
use Rattle.nl_base.specs.declared.fault.Reason.TheVariants.{BadByte, TokenTooLong, EndOfInput}

-- ---- what is seen of a token of n bytes, of which so many are left

pub record Counts {A : Type 0} (left : ℕ) (piece : Piece A) : Type 0 where
  pub some : 1 ≤ piece.seen
  pub near : piece.seen ≤ piece.count + 1
  pub there : piece.seen ≤ left

abbrev pub Counted : {A : Type 0} → ℕ → Result (Piece A) Flaw → Type 0
Counted left (Ok piece) = Counts left piece
Counted left (Err f) = 1 ≤ f.seen

counted_cond : {A : Type 0} (left : ℕ) (t : Bool) (x y : Result (Piece A) Flaw) → Counted left x → Counted left y → Counted left (cond t x y)
counted_cond left true x y p q = p
counted_cond left false x y p q = q

-- the same with the left bytes counted from here
counted_same : {A : Type 0} (m n : ℕ) (x : Result (Piece A) Flaw) → m ≡ n → Counted m x → Counted n x
counted_same m n (Ok piece) e h = record { some = h.some; near = h.near; there = omega (arith, e, h.there) }
counted_same m n (Err f) e h = h

string_counted : (m : Within) (value : List ℕ) (n : ℕ) (bs : List ℕ) → 1 ≤ n → Counted (n + length bs) (string_at m value n bs)
unfolding string_at
string_counted Parts value n [] le = le
string_counted (Escape s coded) value n [] le = le
string_counted (Code s code) value n [] le = counted_cond (n + 0) (nat_le 1048576 (length value)) (flaw TokenTooLong 0 n) (flaw EndOfInput n n) le le
string_counted Parts value n (b ∷ bs) le =
    let e : n + 1 + length bs ≡ n + suc (length bs) = omega arith in
    let z : 1 ≤ n + 1 = omega arith in
    let a = counted_same _ _ (string_at (Escape n false) value (n + 1) bs) e (string_counted (Escape n false) value (n + 1) bs z) in
    let c = counted_same _ _ (string_at Parts (value ++ b ∷ []) (n + 1) bs) e (string_counted Parts (value ++ b ∷ []) (n + 1) bs z) in
    let d : Counts (n + suc (length bs)) (record { value = value; count = n + 1; seen = n + 1 }) = record { some = z; near = omega arith; there = omega arith } in
    search (rules, counted_cond)
string_counted (Escape s coded) value n (b ∷ bs) le =
    let e : n + 1 + length bs ≡ n + suc (length bs) = omega arith in
    let z : 1 ≤ n + 1 = omega arith in
    let a = counted_same _ _ (string_at (Escape s coded) value (n + 1) bs) e (string_counted (Escape s coded) value (n + 1) bs z) in
    let c = counted_same _ _ (string_at (Code s (b - 48)) value (n + 1) bs) e (string_counted (Code s (b - 48)) value (n + 1) bs z) in
    let d = counted_same _ _ (string_at Parts value (n + 1) bs) e (string_counted Parts value (n + 1) bs z) in
    search (rules, counted_cond)
string_counted (Code s code) value n (b ∷ bs) le =
    let e : n + 1 + length bs ≡ n + suc (length bs) = omega arith in
    let z : 1 ≤ n + 1 = omega arith in
    let a = counted_same _ _ (string_at (Code s (10 * code + (b - 48))) value (n + 1) bs) e (string_counted (Code s (10 * code + (b - 48))) value (n + 1) bs z) in
    let c = counted_same _ _ (string_at (Escape s true) (value ++ code ∷ []) (n + 1) bs) e (string_counted (Escape s true) (value ++ code ∷ []) (n + 1) bs z) in
    let d = counted_same _ _ (string_at Parts (value ++ code ∷ []) (n + 1) bs) e (string_counted Parts (value ++ code ∷ []) (n + 1) bs z) in
    search (rules, counted_cond)

behind : (n : ℕ) (bs : List ℕ) (b : ℕ) → first (drop n bs) ≡ Some b → n < length bs
behind n bs b e = go (drop n bs) (length-drop n bs) e
  where
    go : (xs : List ℕ) → length xs ≡ length bs - n → first xs ≡ Some b → n < length bs
    go [] len e = absurd cc
    go (x ∷ xs) len e = omega (arith, len)

ended_counted : (text : List ℕ) (n : ℕ) (bs : List ℕ) → 1 ≤ n → n ≤ length bs → Counted (length bs) (ended text n (first (drop n bs)))
ended_counted text n bs one le = go (first (drop n bs)) refl
  where
    go : (next : Option ℕ) → first (drop n bs) ≡ next → Counted (length bs) (ended text n next)
    go None e = record { some = one; near = omega arith; there = le }
    go (Some b) e =
        let lt = behind n bs b e in
        let d : Counts (length bs) (record { value = text; count = n; seen = n + 1 }) = record { some = omega arith; near = omega arith; there = omega (arith, lt) } in
        counted_cond (length bs) (may_follow b) (Ok (record { value = text; count = n; seen = n + 1 })) (flaw BadByte n (n + 1)) d (omega arith)

text_of_counted : (n : ℕ) (bs : List ℕ) → 1 ≤ n → n ≤ length bs → Counted (length bs) (text_of n bs)
text_of_counted n bs one le = counted_cond (length bs) (ltb 1024 n) (flaw TokenTooLong 0 1025) (ended (take n bs) n (first (drop n bs))) (omega arith) (ended_counted (take n bs) n bs one le)

span_counted : (class : ℕ → Bool) (b : ℕ) (bs : List ℕ) → Counted (suc (length bs)) (span_at class 1 (b ∷ bs))
unfolding span_at
span_counted class b bs = text_of_counted (1 + prefix_len class bs) (b ∷ bs) (omega arith) (omega (arith, prefix_len-le-length class bs))

text_counted : (class : ℕ → Bool) (lead : Bool) (b : ℕ) (bs : List ℕ) → Counted (suc (length bs)) (text_at class lead (b ∷ bs))
text_counted class false b bs = span_counted class b bs
text_counted class true b [] = omega arith
text_counted class true b (c ∷ cs) = counted_cond (suc (suc (length cs))) (class c) (span_at class 1 (b ∷ c ∷ cs)) (flaw BadByte 1 2) (span_counted class b (c ∷ cs)) (omega arith)

number_counted : (left : ℕ) (text : Piece (List ℕ)) (z : Option ℤ) → Counts left text → Counted left (number_or_range text z)
number_counted left text None h = h.some
number_counted left text (Some z) h = record { some = h.some; near = h.near; there = h.there }

then_counted : {A B : Type 0} (left : ℕ) (x : Result (Piece A) Flaw) (f : Piece A → Result (Piece B) Flaw) → ((piece : Piece A) → Counts left piece → Counted left (f piece)) → Counted left x → Counted left (x >>= f)
then_counted left (Ok piece) f all h = all piece h
then_counted left (Err e) f all h = h

pub token_counted : (start : Start) (b : ℕ) (bs : List ℕ) → Counted (suc (length bs)) (token_by start (b ∷ bs))
token_counted Open b bs = record { some = omega arith; near = omega arith; there = omega arith }
token_counted Close b bs = record { some = omega arith; near = omega arith; there = omega arith }
token_counted Quote b bs = then_counted (suc (length bs)) (string_at Parts [] 1 bs) str_of (λ piece h. record { some = h.some; near = h.near; there = h.there }) (counted_same (1 + length bs) (suc (length bs)) (string_at Parts [] 1 bs) (omega arith) (string_counted Parts [] 1 bs (omega arith)))
token_counted Letter b bs = then_counted (suc (length bs)) (text_at is_word_byte false (b ∷ bs)) word_of (λ piece h. record { some = h.some; near = h.near; there = h.there }) (text_counted is_word_byte false b bs)
token_counted Ampersand b bs = then_counted (suc (length bs)) (text_at is_word_byte true (b ∷ bs)) word_of (λ piece h. record { some = h.some; near = h.near; there = h.there }) (text_counted is_word_byte true b bs)
token_counted Digit b bs = then_counted (suc (length bs)) (text_at is_ascii_digit false (b ∷ bs)) number_of (λ piece h. number_counted (suc (length bs)) piece (integer_of piece.value) h) (text_counted is_ascii_digit false b bs)
token_counted Sign b bs = then_counted (suc (length bs)) (text_at is_ascii_digit true (b ∷ bs)) number_of (λ piece h. number_counted (suc (length bs)) piece (integer_of piece.value) h) (text_counted is_ascii_digit true b bs)
token_counted Other b bs = omega arith

-- ---- stops

-- they rise from a number on, and the tokens are not cut
abbrev Rise : ℕ → Ahead Found → Type 0
Rise m s = Rises stop_of m s.tokens s.finish × (s.finish ≡ Over → ⊥)

rise_by : (m : ℕ) (t : Bool) (x y : Ahead Found) → Rise m x → Rise m y → Rise m (cond t x y)
rise_by m true x y p q = p
rise_by m false x y p q = q

rise_then : (m left : ℕ) (p : Place) (bs : List ℕ) (x : Result (Piece Token) Flaw) (after : ℕ → Ahead Found) → m ≤ p.offset + 1 → Counted left x
    → ((piece : Piece Token) → Counts left piece → Rise (p.offset + piece.seen) (after piece.count)) → Rise m (then_tokens p bs x after)
rise_then m left p bs (Ok piece) after le h rest = let r = rest piece h in ((omega (arith, le, h.some), r.0), r.1)
rise_then m left p bs (Err f) after le h rest = (omega (arith, le, h), λ e. cc)

rise_from : (skipped : ℕ) (p : Place) (bs : List ℕ) (m : ℕ) → m ≤ p.offset + skipped + 1 → (length bs ≤ skipped → m ≤ p.offset + length bs) → Rise m (tokens_from skipped p bs)
unfolding tokens_from token_at
rise_from zero p [] m le end = ((let h = end (omega arith) in omega (arith, h), refl, refl), λ e. cc)
rise_from (suc n) p [] m le end = ((let h = end (omega arith) in omega (arith, h), refl, refl), λ e. cc)
rise_from (suc n) p (b ∷ bs) m le end = rise_from n (place_after p b) bs m (omega (arith, le)) (λ l. let h = end (omega (arith, l)) in omega (arith, h))
rise_from zero p (b ∷ bs) m le end =
    rise_by m (is_space b) (tokens_from zero (place_after p b) bs) (then_tokens p (b ∷ bs) (token_at b bs) (λ count. tokens_from (count - 1) (place_after p b) bs))
    (rise_from zero (place_after p b) bs m (omega (arith, le)) (λ l. omega (arith, le)))
    (rise_then m (suc (length bs)) p (b ∷ bs) (token_at b bs) (λ count. tokens_from (count - 1) (place_after p b) bs) (omega (arith, le)) (token_counted (start_of b) b bs)
    (λ piece h. let near = h.near in let there = h.there in rise_from (piece.count - 1) (place_after p b) bs (p.offset + piece.seen) (omega (arith, near)) (λ l. omega (arith, there))))

rise : (text : List ℕ) → Rise 0 (all_tokens text)
rise text = rise_from 0 place_at_start text 0 (omega arith) (λ _. omega arith)

-- the stops of the tokens of a text rise
pub rises : (text : List ℕ) → Rises stop_of 0 (all_tokens text).tokens (all_tokens text).finish
rises text = (rise text).0

-- the tokens of a text are never cut without the limit
pub never_over : (text : List ℕ) → (all_tokens text).finish ≡ Over → ⊥
never_over text = (rise text).1
