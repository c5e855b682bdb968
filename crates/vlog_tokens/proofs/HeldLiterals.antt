-- The digits of a based literal that are next, where the bytes that are held show them and their end.
use Rattle.std.proofs.Common.{◌≡◌, ℕ, zero, suc, ◌+◌, ◌<◌, ◌≤◌, Bool, true, false, cond, leb, eqb, ◌||◌, not, List, [], ◌∷◌, ◌++◌, length, get_or, take, drop, Option, Some, None, Result, Ok, IsTrue, refl, sym, ap, ◌∙◌, subst, inl, inr, arith, length-take, length-drop, length-append, append_assoc, append-nil, add-zero}
use Rattle.std.specs.Prelude.{IsFalse}
use Rattle.std.specs.List.{AllByRecursion, filter, list_all, prefix_len}
use Rattle.std.proofs.lemmas.Bool.{cases_lt, leb-false, eqb-true}
use Rattle.std.proofs.lemmas.Bool.Decides.{nat_tests}
use Rattle.std.proofs.lemmas.List.Sums.{prefix_len_stops}
use Rattle.nl_base.specs.declared.place.Place.{Place}
use Rattle.nl_base.specs.Place.{place_past}
use Rattle.nl_base.proofs.Places.{place_past-offset}
use Rattle.nl_bytes.specs.declared.bytes.TheConstants.{LIMIT}
use Rattle.nl_bytes.specs.declared.class.Class.TheVariants.{LineByte}
use Rattle.nl_bytes.specs.Classes.{AreIn, is_verilog_space, is_based_byte, is_line_byte}
use Rattle.nl_bytes.specs.Bytes.{Window}
use Rattle.nl_bytes.specs.Tokens.{State, ReadsToken, Finds}
use Rattle.nl_bytes.proofs.Fronts.{front-all}
use Rattle.nl_bytes.proofs.Readers.{reads_found}
use Rattle.nl_io.specs.Sources.{Supply}
use Rattle.vlog_values.specs.declared.literal.Base.{Base}
use Rattle.vlog_values.specs.declared.literal.Base.TheVariants.{Binary, Octal, Decimal, Hex}
use Rattle.vlog_values.specs.Bits as bits
use Rattle.vlog_tokens.specs.declared.item.Item.TheVariants.{Token}
use Rattle.vlog_tokens.specs.declared.phase.Phase.TheVariants.{Prefix, Letter, Digits}
use Rattle.vlog_tokens.specs.declared.phase.Step.TheVariants.{Keep, Ends}
use Rattle.vlog_tokens.specs.declared.token.VFound.{VFound}
use Rattle.vlog_tokens.specs.Held.{is_near, past}
use Rattle.vlog_tokens.specs.HeldLiterals.{digits_token, front_base, digits_by, digits_length, held_base, with_value, held_digits, past_digits}
use Rattle.vlog_tokens.specs.Items.{is_kept, has_value, item_of}
use Rattle.vlog_tokens.specs.Language.{vlog}
use Rattle.vlog_tokens.specs.Phases.{is_digit, base_of, next_step, most_of}
use Rattle.vlog_tokens.specs.Proper.{IsProper}
use Rattle.vlog_tokens.specs.Scanning.{scan_at, begun, kept}
use Rattle.vlog_tokens.proofs.Digits.{digit_same, digit_kept, are_digits}
use Rattle.vlog_tokens.proofs.Held.{Front, front_used, lexeme_held, token_found, held_within}
use Rattle.vlog_tokens.proofs.HeldMarks.{window_is}
use Rattle.vlog_tokens.proofs.Scanning.{keep_step}

-- all these are digits of a base
abbrev AreOf : Base → List ℕ → Type 0
AreOf base bs = AllByRecursion (λ b. IsTrue (is_digit base b)) bs

-- ---- the bytes of a literal

-- the letter of a base is no sign letter
no_sign : (letter : ℕ) (base : Base) → base_of letter ≡ Some base → (eqb letter 115 || eqb letter 83) ≡ false
no_sign letter base e = go (eqb letter 115) refl (eqb letter 83) refl
  where
    go : (s : Bool) → eqb letter 115 ≡ s → (t : Bool) → eqb letter 83 ≡ t → (s || t) ≡ false
    go true d t f = let none : base_of 115 ≡ Some base = subst (λ (b : ℕ). base_of b ≡ Some base) (eqb-true letter 115 d) e in absurd cc
    go false d true f = let none : base_of 83 ≡ Some base = subst (λ (b : ℕ). base_of b ≡ Some base) (eqb-true letter 83 f) e in absurd cc
    go false d false f = refl

letter_keeps : (letter : ℕ) (base : Base) → base_of letter ≡ Some base → next_step Prefix letter ≡ Keep (Letter base)
unfolding next_step
letter_keeps letter base e = rw (no_sign letter base e, e) refl

no_space : (base : Base) (b : ℕ) → is_digit base b ≡ true → is_verilog_space b ≡ false
no_space Binary b e = grind (arith, nat_tests)
no_space Octal b e = grind (arith, nat_tests)
no_space Decimal b e = grind (arith, nat_tests)
no_space Hex b e = grind (arith, nat_tests)

first_keeps : (base : Base) (b : ℕ) → is_digit base b ≡ true → next_step (Letter base) b ≡ Keep (Digits base)
unfolding next_step
first_keeps Binary b e = rw (no_space Binary b e, e) refl
first_keeps Octal b e = rw (no_space Octal b e, e) refl
first_keeps Decimal b e = rw (no_space Decimal b e, e) refl
first_keeps Hex b e = rw (no_space Hex b e, e) refl

digit_keeps : (base : Base) (b : ℕ) → is_digit base b ≡ true → next_step (Digits base) b ≡ Keep (Digits base)
unfolding next_step
digit_keeps base b e = rw e refl

no_digit : (base : Base) (b : ℕ) → is_based_byte b ≡ false → (is_digit base b || eqb b 95) ≡ false
no_digit Binary b e = grind (arith, nat_tests)
no_digit Octal b e = grind (arith, nat_tests)
no_digit Decimal b e = grind (arith, nat_tests)
no_digit Hex b e = grind (arith, nat_tests)

digits_end : (base : Base) (b : ℕ) → is_based_byte b ≡ false → next_step (Digits base) b ≡ Ends
unfolding next_step
digits_end base b e = rw (no_digit base b e, e) refl

letter_in_line : (letter : ℕ) (base : Base) → base_of letter ≡ Some base → is_line_byte letter ≡ true
letter_in_line letter base e = go (eqb letter 10) refl
  where
    go : (t : Bool) → eqb letter 10 ≡ t → not t ≡ true
    go true d = let none : base_of 10 ≡ Some base = subst (λ (b : ℕ). base_of b ≡ Some base) (eqb-true letter 10 d) e in absurd cc
    go false d = refl

digit_in_line : (base : Base) (b : ℕ) → is_digit base b ≡ true → is_line_byte b ≡ true
digit_in_line Binary b e = grind (arith, nat_tests)
digit_in_line Octal b e = grind (arith, nat_tests)
digit_in_line Decimal b e = grind (arith, nat_tests)
digit_in_line Hex b e = grind (arith, nat_tests)

all_in_line : (base : Base) (bs : List ℕ) → AreOf base bs → AreIn LineByte bs
all_in_line base [] each = tt
all_in_line base (b ∷ bs) each = (digit_in_line base b each.0, all_in_line base bs each.1)

-- ---- a literal is scanned

digits_run : (base : Base) (text used rest : List ℕ) (n : ℕ) → AreOf base used → length text + length used ≤ 131072 → scan_at (Digits base) text n (used ++ rest) ≡ scan_at (Digits base) (text ++ used) (n + length used) rest
unfolding most_of
digits_run base text [] rest n each most = ap (λ (xs : List ℕ). scan_at (Digits base) xs n rest) (sym (append-nil text)) ∙ ap (λ (k : ℕ). scan_at (Digits base) (text ++ []) k rest) (sym (add-zero n))
digits_run base text (b ∷ bs) rest n each most =
    keep_step (Digits base) (Digits base) text n b (bs ++ rest) (digit_keeps base b each.0) (omega (arith, most))
    ∙ digits_run base (text ++ b ∷ []) bs rest (n + 1) each.1 (omega (arith, length-append text (b ∷ []), most))
    ∙ ap (λ (xs : List ℕ). scan_at (Digits base) xs (n + 1 + length bs) rest) (append_assoc text (b ∷ []) bs) ∙ ap (λ (k : ℕ). scan_at (Digits base) (text ++ b ∷ bs) k rest) (omega arith)

literal_run : (base : Base) (letter : ℕ) (tail : List ℕ) (n : ℕ) → base_of letter ≡ Some base → 0 < n → n < length tail → n ≤ 4096 → AreOf base (take n tail) → (rest : List ℕ)
    → begun Prefix 39 0 ((39 ∷ letter ∷ take n tail) ++ rest) ≡ scan_at (Digits base) (39 ∷ letter ∷ take n tail) (n + 2) rest
unfolding kept most_of
literal_run base letter tail zero e some more short each rest = absurd (omega (arith, some))
literal_run base letter [] (suc m) e some more short each rest = absurd (omega (arith, more))
literal_run base letter (c ∷ cs) (suc m) e some more short each rest =
    let count : length (take m cs) ≡ m = omega (arith, length-take m cs, more) in
    keep_step Prefix (Letter base) (39 ∷ []) 1 letter ((c ∷ take m cs) ++ rest) (letter_keeps letter base e) (omega arith)
    ∙ keep_step (Letter base) (Digits base) (39 ∷ letter ∷ []) 2 c (take m cs ++ rest) (first_keeps base c each.0) (omega arith)
    ∙ digits_run base (39 ∷ letter ∷ c ∷ []) (take m cs) rest 3 each.1 (omega (arith, count, short))
    ∙ ap (λ (i : ℕ). scan_at (Digits base) (39 ∷ letter ∷ c ∷ take m cs) i rest) (omega (arith, count))

-- ---- what it is

all_kept : (base : Base) (bs : List ℕ) → AreOf base bs → filter is_kept bs ≡ bs
all_kept base [] each = refl
all_kept base (b ∷ bs) each = rw (digit_kept base b each.0, all_kept base bs each.1) refl

literal_is : (base : Base) (letter : ℕ) (digits : List ℕ) → base_of letter ≡ Some base → AreOf base digits → has_value base digits ≡ true → Some (Token (digits_token base digits)) ≡ item_of (Digits base) (39 ∷ letter ∷ digits)
unfolding item_of
literal_is base letter digits e each value = rw (no_sign letter base e, all_kept base digits each, value) refl

all_same : (base : Base) (bs : List ℕ) → AreOf base bs → list_all (bits.is_digit base) bs ≡ true
all_same base [] each = refl
all_same base (b ∷ bs) each = rw (digit_same base b each.0, all_same base bs each.1) refl

-- what is known of digits that are held whole
pub record Digited (base : Base) (bs : List ℕ) (n : ℕ) : Type 0 where
  pub more : n < length bs
  pub each : AreOf base (take n bs)
  pub out : is_based_byte (get_or bs n 0) ≡ false

digits_whole : (bs : List ℕ) (k n : ℕ) → n ≡ digits_by bs k → 0 < n → (n ≡ k) × (k < length bs) × (is_based_byte (get_or bs k 0) ≡ false)
digits_whole bs k n is some = go (leb (length bs) k) refl (is_based_byte (get_or bs k 0)) refl is
  where
    go : (s : Bool) → leb (length bs) k ≡ s → (t : Bool) → is_based_byte (get_or bs k 0) ≡ t → n ≡ cond s 0 (cond t 0 k) → (n ≡ k) × (k < length bs) × (is_based_byte (get_or bs k 0) ≡ false)
    go true d t e h = absurd (omega (arith, some, h))
    go false d true e h = absurd (omega (arith, some, h))
    go false d false e h = (h, leb-false (length bs) k d, e)

pub digited : (base : Base) (bs : List ℕ) (n : ℕ) → n ≡ digits_length base bs → 0 < n → Digited base bs n
unfolding digits_length
digited base bs n is some =
    let w = digits_whole bs (prefix_len (is_digit base) bs) n is some in
    record { more = omega (arith, w.0, w.1); each = rw w.0 (front-all (is_digit base) bs); out = rw w.0 w.2 }

-- digits have no more bytes than there are
pub digits_enough : (base : Base) (bs : List ℕ) → digits_length base bs ≤ length bs
digits_enough base bs = elim (cases_lt 0 (digits_length base bs)) [
  | inl some ↦ let w = digited base bs (digits_length base bs) refl some in omega (arith, w.more)
  | inr none ↦ omega (arith, none)
]

-- ---- it is found

literal_found : {a b : Window} {n : ℕ} (l : Option (List ℕ)) (base : Base) (letter : ℕ) (tail : List ℕ) → a.held ≡ 39 ∷ letter ∷ tail → base_of letter ≡ Some base → is_near a ≡ true → length a.held ≤ 4096 → 0 < n → n ≡ digits_length base tail
    → has_value base (take n tail) ≡ true → b.held ≡ drop (n + 2) a.held → b.place ≡ place_past a.place (take (n + 2) a.held) → Finds vlog a b l l (Ok (Some (record { place = a.place; stop = a.place.offset + (n + 2) + 1; token = digits_token base (take n tail) })))
literal_found {a} {b} {n} l base letter tail front is near small some whole value held place =
    let w = digited base tail n whole some in
    let len : length a.held ≡ suc (suc (length tail)) = ap (λ (xs : List ℕ). length xs) front in
    let two : n + 2 ≡ suc (suc n) = omega arith in
    let taken : take (n + 2) a.held ≡ 39 ∷ letter ∷ take n tail = ap (λ (k : ℕ). take k a.held) two ∙ ap (take (suc (suc n))) front in
    let next : get_or a.held (n + 2) 0 ≡ get_or tail n 0 = ap (λ (k : ℕ). get_or a.held k 0) two ∙ ap (λ (xs : List ℕ). get_or xs (suc (suc n)) 0) front in
    let f = front_used {a = a} {b = b} {n = n + 2} (omega (arith, w.more, len)) held place in
    let text = 39 ∷ letter ∷ take n tail in
    let token = digits_token base (take n tail) in
    let stop = a.place.offset + (n + 2) + 1 in
    let reads = lexeme_held Prefix (Digits base) 39 l text f (omega arith) (λ rest. ap (λ (xs : List ℕ). begun Prefix 39 0 (xs ++ rest)) taken ∙ literal_run base letter tail n is some w.more (omega (arith, w.more, len, small)) w.each rest)
    (digits_end base _ (rw next w.out)) (Some (Token token)) (literal_is base letter (take n tail) is w.each value) stop refl in
    token_found {a = a} {b = b} {l = l} {byte = 39} token stop (letter ∷ tail, front) reads
    (omega (arith, ap (λ (q : Place). q.offset) place, place_past-offset a.place (take (n + 2) a.held), f.count)) (omega (arith, held_within a near, w.more, len))

-- ---- the literal that is next

-- what the literal that is next is known by
pub record LiteralNext (w : Window) (base : Base) (n : ℕ) : Type 0 where
  pub near : is_near w ≡ true
  pub letter : ℕ
  pub tail : List ℕ
  pub front : w.held ≡ 39 ∷ letter ∷ tail
  pub is_base : base_of letter ≡ Some base
  pub whole : n ≡ digits_length base tail
  pub digits : held_digits base w ≡ take n tail
  pub value : has_value base (take n tail) ≡ true

-- the `'` and the letter at the front of some bytes
base_front : (bs : List ℕ) (base : Base) → front_base bs ≡ Some base → (letter : ℕ) × (tail : List ℕ) × (bs ≡ 39 ∷ letter ∷ tail) × (base_of letter ≡ Some base)
base_front [] base e = absurd cc
base_front (b ∷ []) base e = absurd cc
base_front (b ∷ letter ∷ bs) base e = go (eqb b 39) refl e
  where
    go : (t : Bool) → eqb b 39 ≡ t → cond t (base_of letter) None ≡ Some base → (other : ℕ) × (tail : List ℕ) × (b ∷ letter ∷ bs ≡ 39 ∷ other ∷ tail) × (base_of other ≡ Some base)
    go true d h = (letter, bs, ap (λ (x : ℕ). x ∷ letter ∷ bs) (eqb-true b 39 d), h)
    go false d h = absurd cc

base_near : (w : Window) (base : Base) → held_base w ≡ Some base → (is_near w ≡ true) × (front_base w.held ≡ Some base)
unfolding held_base
base_near w base e = go (is_near w) refl e
  where
    go : (t : Bool) → is_near w ≡ t → cond t (front_base w.held) None ≡ Some base → (is_near w ≡ true) × (front_base w.held ≡ Some base)
    go true d h = (d, h)
    go false d h = absurd cc

digits_are : (base : Base) (w : Window) (letter : ℕ) (tail : List ℕ) → w.held ≡ 39 ∷ letter ∷ tail → held_digits base w ≡ with_value base (take (digits_length base tail) tail)
unfolding held_digits
digits_are base w letter tail front = ap (λ (xs : List ℕ). with_value base (take (digits_length base (drop 2 xs)) (drop 2 xs))) front

-- some digits that have a value are all that there are
some_digits : (base : Base) (digits : List ℕ) → 0 < length (with_value base digits) → (with_value base digits ≡ digits) × (has_value base digits ≡ true)
some_digits base digits some = go (has_value base digits) refl some
  where
    go : (t : Bool) → has_value base digits ≡ t → 0 < length (cond t digits []) → (cond t digits [] ≡ digits) × (has_value base digits ≡ true)
    go true d h = (refl, d)
    go false d h = absurd (omega (arith, h))

pub literal_next : (w : Window) (base : Base) (n : ℕ) → held_base w ≡ Some base → 0 < n → n ≡ length (held_digits base w) → LiteralNext w base n
literal_next w base n e some count =
    let b = base_near w base e in
    let f = base_front w.held base b.1 in
    let tail = f.1 in
    let are = digits_are base w f.0 tail f.2 in
    let k = digits_length base tail in
    let long : 0 < length (with_value base (take k tail)) = omega (arith, some, count, ap (λ (xs : List ℕ). length xs) are) in
    let all = some_digits base (take k tail) long in
    let digits : held_digits base w ≡ take k tail = are ∙ all.0 in
    let whole : n ≡ k = omega (arith, count, ap (λ (xs : List ℕ). length xs) digits, length-take k tail, digits_enough base tail) in
    record { near = b.0; letter = f.0; tail = tail; front = f.2; is_base = f.3; whole = whole; digits = digits ∙ ap (λ (i : ℕ). take i tail) (sym whole); value = rw whole all.1 }

-- a reader that is not spent reads it as its next token
pub literal_reads : (w : Window) (base : Base) (n : ℕ) → held_base w ≡ Some base → 0 < n → n ≡ length (held_digits base w) → length w.held ≤ 4096 → (i : Supply)
    → (x : VFound) × (x.token ≡ digits_token base (held_digits base w)) × ReadsToken vlog (Ok (Some x)) w false (past_digits n w) false i i
literal_reads w base n e some count small i =
    let next = literal_next w base n e some count in
    let d = digited base next.tail n next.whole some in
    let len : length w.held ≡ suc (suc (length next.tail)) = ap (λ (xs : List ℕ). length xs) next.front in
    let finds = literal_found {a = w} {b = past_digits n w} {n = n} i.left base next.letter next.tail next.front next.is_base next.near small some next.whole next.value refl refl in
    let all = reads_found finds (λ h. absurd cc) tt (omega arith) (λ h. absurd cc) (omega (arith, length-drop (n + 2) w.held, small))
    (omega (arith, place_past-offset w.place (take (n + 2) w.held), length-take (n + 2) w.held, length-drop (n + 2) w.held, len, d.more, held_within w next.near)) in
    (record { place = w.place; stop = w.place.offset + (n + 2) + 1; token = digits_token base (take n next.tail) }, ap (digits_token base) (sym next.digits), all)

-- the same of a reader that is made of a window and whether it is spent
pub literal_taken : (s : State) (w : Window) (spent : Bool) → record { window = w; spent = spent } ≡ s → length w.held ≤ 4096 → (base : Base) (n : ℕ) → held_base s.window ≡ Some base → 0 < n → n ≡ length (held_digits base s.window) → IsFalse s.spent → (i : Supply)
    → (x : VFound) × (x.token ≡ digits_token base (held_digits base s.window)) × ReadsToken vlog (Ok (Some x)) s.window s.spent (past_digits n w) spent i i
literal_taken s w spent e small base n is some count live i =
    subst (λ (s : State). held_base s.window ≡ Some base → n ≡ length (held_digits base s.window) → IsFalse s.spent → (x : VFound) × (x.token ≡ digits_token base (held_digits base s.window)) × ReadsToken vlog (Ok (Some x)) s.window s.spent (past_digits n w) spent i i) e
    (λ is count live. rw live (literal_reads w base n is some count small i)) is count live

-- the literal lies within what is held, and within the limit
pub literal_room : (w : Window) (base : Base) (n : ℕ) → held_base w ≡ Some base → 0 < n → n ≡ length (held_digits base w) → (n + 2 ≤ length w.held) × (w.place.offset + (n + 2) ≤ LIMIT + 1) × AreIn LineByte (take (n + 2) w.held)
literal_room w base n e some count =
    let next = literal_next w base n e some count in
    let d = digited base next.tail n next.whole some in
    let len : length w.held ≡ suc (suc (length next.tail)) = ap (λ (xs : List ℕ). length xs) next.front in
    let two : n + 2 ≡ suc (suc n) = omega arith in
    let taken : take (n + 2) w.held ≡ 39 ∷ next.letter ∷ take n next.tail = ap (λ (k : ℕ). take k w.held) two ∙ ap (take (suc (suc n))) next.front in
    (omega (arith, len, d.more), omega (arith, len, d.more, held_within w next.near), rw taken (refl, (letter_in_line next.letter base next.is_base, all_in_line base (take n next.tail) d.each)))

pub literal_past : (w b : Window) (n : ℕ) → b.held ≡ drop (n + 2) w.held → b.place ≡ place_past w.place (take (n + 2) w.held) → b ≡ past_digits n w
literal_past w b n held place = window_is b _ _ held place

-- ---- what it is

-- it keeps what a token does
pub literal_proper : (w : Window) (base : Base) (n : ℕ) → held_base w ≡ Some base → 0 < n → n ≡ length (held_digits base w) → length w.held ≤ 4096 → IsProper (digits_token base (held_digits base w))
literal_proper w base n e some count small =
    let next = literal_next w base n e some count in
    let d = digited base next.tail n next.whole some in
    let len : length w.held ≡ suc (suc (length next.tail)) = ap (λ (xs : List ℕ). length xs) next.front in
    rw next.digits (record {
      spelled = are_digits base (take n next.tail) (omega (arith, some, length-take n next.tail, d.more)) (all_same base (take n next.tail) d.each) next.value;
      short = omega (arith, length-take n next.tail, d.more, len, small);
    })
