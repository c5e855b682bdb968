-- The number or the bracket of attributes that is next, where the bytes that are held show it.
use Rattle.std.proofs.Common.{◌≡◌, ℕ, zero, suc, ◌+◌, ◌<◌, ◌≤◌, Bool, true, false, cond, eqb, List, [], ◌∷◌, length, take, drop, Option, Some, None, Ok, refl, sym, ap, ◌∙◌, subst, inl, inr, arith, length-drop, length-take, leb}
use Rattle.std.specs.Prelude.{ℤ, IfSome, IsFalse}
use Rattle.std.specs.Char.{is_ascii_digit}
use Rattle.std.proofs.lemmas.Bool.{cases_lt, eqb-false}
use Rattle.std.proofs.lemmas.Bool.Decides.{nat_tests}
use Rattle.nl_base.specs.Place.{place_past}
use Rattle.nl_base.proofs.Places.{place_past-offset}
use Rattle.nl_bytes.specs.declared.bytes.TheConstants.{LIMIT}
use Rattle.nl_bytes.specs.declared.class.Class.TheVariants.{NumberByte, Graphic}
use Rattle.nl_bytes.specs.Classes.{AreIn, is_number_byte, is_graphic}
use Rattle.nl_bytes.specs.Bytes.{Window}
use Rattle.nl_io.specs.Sources.{Supply}
use Rattle.nl_bytes.specs.Tokens.{State, ReadsToken, Finds}
use Rattle.vlog_values.specs.Values.{IsCount}
use Rattle.vlog_tokens.specs.declared.plain.Plain.{Plain}
use Rattle.vlog_tokens.specs.declared.plain.Plain.TheVariants as plains
use Rattle.vlog_tokens.specs.declared.start.Start.TheVariants.{Lexeme}
use Rattle.vlog_tokens.specs.declared.phase.Phase.TheVariants.{Whole}
use Rattle.vlog_tokens.specs.declared.token.VFound.{VFound}
use Rattle.vlog_tokens.specs.declared.token.VToken.TheVariants.{AttrStart, AttrStop}
use Rattle.vlog_tokens.specs.Numbers.{number_of}
use Rattle.vlog_tokens.specs.Proper.{IsProper}
use Rattle.vlog_tokens.specs.Spelling.{start_of}
use Rattle.vlog_tokens.specs.Language.{vlog}
use Rattle.vlog_tokens.specs.Held.{is_near, space_length, past, past_space, number_length, is_pair, pair_token, number_at}
use Rattle.vlog_tokens.specs.Plains.{plain_token, pair_plain, number_plain, digits_plain, front_plain, plain_length, held_plain, past_plain}
use Rattle.nl_bytes.proofs.Readers.{reads_found}
use Rattle.vlog_tokens.proofs.Proper.{number_good}
use Rattle.vlog_tokens.proofs.Held.{finds_after, held_within, numbered, number_finds, paired, pair_found}
use Rattle.vlog_tokens.proofs.HeldMarks.{space_passed, space_offset, window_is}

-- ---- the token at the front of some bytes

-- what is known of the number or the bracket of n bytes at the front
pub record PlainAt (a : Window) (plain : Plain) (n : ℕ) : Type 0 where
  pub byte : ℕ
  pub tail : List ℕ
  pub front : a.held ≡ byte ∷ tail
  pub enough : n ≤ length a.held
  pub each : AreIn Graphic (take n a.held)
  pub finds : is_near a ≡ true → length a.held ≤ 4096 → (l : Option (List ℕ)) → (x : VFound) × (x.token ≡ plain_token plain) × Finds vlog a (past n a) l l (Ok (Some x))

digit_starts : (b : ℕ) → is_ascii_digit b ≡ true → start_of b ≡ Lexeme Whole
digit_starts b e = grind (arith, nat_tests)

number_graphic : (b : ℕ) → is_number_byte b ≡ true → is_graphic b ≡ true
number_graphic b e = grind (arith, nat_tests)

all_graphic : (bs : List ℕ) → AreIn NumberByte bs → AreIn Graphic bs
all_graphic [] each = tt
all_graphic (b ∷ bs) each = (number_graphic b each.0, all_graphic bs each.1)

-- a number of some bytes is in range
some_number : (n : ℕ) (o : Option ℤ) (plain : Plain) → cond (eqb n 0) None (number_plain o) ≡ Some plain → (0 < n) × (z : ℤ) × (o ≡ Some z) × (plain ≡ plains.Number z)
some_number n o plain e = go (eqb n 0) refl o e
  where
    go : (t : Bool) → eqb n 0 ≡ t → (o : Option ℤ) → cond t None (number_plain o) ≡ Some plain → (0 < n) × (z : ℤ) × (o ≡ Some z) × (plain ≡ plains.Number z)
    go true d o h = absurd cc
    go false d None h = absurd cc
    go false d (Some z) h = (some n (eqb-false n 0 d), z, refl, cc)
      where
        some : (n : ℕ) → (n ≡ 0 → ⊥) → 0 < n
        some zero other = absurd (other refl)
        some (suc n) other = omega arith

number_plain_at : (a : Window) (b : ℕ) (bs : List ℕ) (n : ℕ) → a.held ≡ b ∷ bs → is_ascii_digit b ≡ true → n ≡ number_length a.held → (plain : Plain) → digits_plain n a.held ≡ Some plain → PlainAt a plain n
number_plain_at a b bs n front digit whole plain e =
    let s = some_number n (number_of (take n a.held)) plain e in
    let w = numbered a.held n whole s.0 in
    record {
      byte = b;
      tail = bs;
      front = front;
      enough = omega (arith, w.more);
      each = all_graphic (take n a.held) w.each;
      finds = λ near small l.
          let found = number_finds {a = a} {b = past n a} {byte = b} {n = n} l bs front (digit_starts b digit) near small s.0 whole refl refl a.place refl (take n a.held) refl in
          let stop = a.place.offset + n + 1 in
          (record { place = a.place; stop = stop; token = plain_token (plains.Number s.1) }, ap plain_token (sym s.3), subst (λ (o : Option ℤ). Finds vlog a (past n a) l l (number_at a.place stop o)) s.2 found);
    }

pair_is : (b : ℕ) → plain_token (pair_plain b) ≡ pair_token b
pair_is b = go (eqb b 40)
  where
    go : (t : Bool) → plain_token (cond t plains.AttrStart plains.AttrStop) ≡ cond t AttrStart AttrStop
    go true = refl
    go false = refl

pair_plain_at : (a : Window) (b : ℕ) (bs : List ℕ) → a.held ≡ b ∷ bs → is_pair a.held ≡ true → PlainAt a (pair_plain b) 2
pair_plain_at a b bs front pair =
    let w = paired b a.held bs front pair in
    record {
      byte = b;
      tail = bs;
      front = front;
      enough = omega (arith, ap (λ (xs : List ℕ). length xs) w.front);
      each = rw w.front w.each;
      finds = λ near small l.
          (record { place = a.place; stop = a.place.offset + 2; token = pair_token b }, sym (pair_is b), pair_found {a = a} {b = past 2 a} {byte = b} l bs front near pair refl refl a.place refl (pair_token b) refl);
    }

plain_at : (a : Window) (bs : List ℕ) → a.held ≡ bs → (plain : Plain) → front_plain bs ≡ Some plain → PlainAt a plain (plain_length bs)
unfolding plain_length
plain_at a [] front plain e = absurd cc
plain_at a (b ∷ bs) front plain e = go (is_ascii_digit b) refl (is_pair (b ∷ bs)) refl e
  where
    go : (s : Bool) → is_ascii_digit b ≡ s → (t : Bool) → is_pair (b ∷ bs) ≡ t → cond s (digits_plain (number_length (b ∷ bs)) (b ∷ bs)) (cond t (Some (pair_plain b)) None) ≡ Some plain → PlainAt a plain (cond s (number_length (b ∷ bs)) (cond t 2 0))
    go true d t f h = number_plain_at a b bs (number_length (b ∷ bs)) front d (ap number_length (sym front)) plain (ap (λ (xs : List ℕ). digits_plain (number_length (b ∷ bs)) xs) front ∙ h)
    go false d true f h = let is : pair_plain b ≡ plain = cc in subst (λ (p : Plain). PlainAt a p 2) is (pair_plain_at a b bs front (ap is_pair front ∙ f))
    go false d false f h = absurd cc

-- a number has no more bytes than there are
pub number_enough : (bs : List ℕ) → number_length bs ≤ length bs
number_enough bs = elim (cases_lt 0 (number_length bs)) [
  | inl some ↦ let w = numbered bs (number_length bs) refl some in omega (arith, w.more)
  | inr none ↦ omega (arith, none)
]

-- ---- the token that is next

-- what the number or the bracket that is next is known by
pub record PlainNext (w : Window) (plain : Plain) : Type 0 where
  pub near : is_near w ≡ true
  pub at : PlainAt (past_space w) plain (plain_length (past_space w).held)

pub plain_next : (w : Window) (plain : Plain) → held_plain w ≡ Some plain → PlainNext w plain
unfolding held_plain
plain_next w plain e = go (is_near w) refl e
  where
    go : (t : Bool) → is_near w ≡ t → cond t (front_plain (drop (space_length w.held) w.held)) None ≡ Some plain → PlainNext w plain
    go true d h = record { near = d; at = plain_at (past_space w) (drop (space_length w.held) w.held) refl plain h }
    go false d h = absurd cc

past_plain_is : (w : Window) → past_plain w ≡ past (plain_length (past_space w).held) (past_space w)
unfolding past_plain
past_plain_is w = refl

-- a reader that is not spent reads it as its next token
pub plain_reads : (w : Window) (plain : Plain) → held_plain w ≡ Some plain → length w.held ≤ 4096 → (i : Supply) → (x : VFound) × (x.token ≡ plain_token plain) × ReadsToken vlog (Ok (Some x)) w false (past_plain w) false i i
plain_reads w plain e small i =
    let next = plain_next w plain e in
    let a = past_space w in
    let n = plain_length a.held in
    let within = held_within w next.near in
    let near : is_near a ≡ true = ap (λ (k : ℕ). leb k LIMIT) (space_offset w) ∙ next.near in
    let less : length a.held ≤ length w.held = omega (arith, length-drop (space_length w.held) w.held) in
    let m = next.at.finds near (omega (arith, less, small)) i.left in
    let finds = finds_after (space_passed w next.at.byte next.at.tail within next.at.front i.left) m.2 in
    let all : ReadsToken vlog (Ok (Some m.0)) w false (past n a) false i i = reads_found finds (λ h. absurd cc) tt (omega arith) (λ h. absurd cc)
    (omega (arith, less, length-drop n a.held, small)) (omega (arith, place_past-offset a.place (take n a.held), length-take n a.held, length-drop n a.held, next.at.enough, space_offset w, within)) in
    (m.0, m.1, rw (past_plain_is w) all)

-- the same of a reader that is made of a window and whether it is spent
pub plain_taken : (s : State) (w : Window) (spent : Bool) → record { window = w; spent = spent } ≡ s → length w.held ≤ 4096 → (plain : Plain) → held_plain s.window ≡ Some plain → IsFalse s.spent → (i : Supply)
    → (x : VFound) × (x.token ≡ plain_token plain) × ReadsToken vlog (Ok (Some x)) s.window s.spent (past_plain w) spent i i
plain_taken s w spent e small plain is live i =
    subst (λ (s : State). held_plain s.window ≡ Some plain → IsFalse s.spent → (x : VFound) × (x.token ≡ plain_token plain) × ReadsToken vlog (Ok (Some x)) s.window s.spent (past_plain w) spent i i) e
    (λ is live. rw live (plain_reads w plain is small i)) is live

-- ---- the bytes are used

pub plain_past : (w a b : Window) (n : ℕ) → a ≡ past_space w → n ≡ plain_length a.held → b.held ≡ drop n a.held → b.place ≡ place_past a.place (take n a.held) → b ≡ past_plain w
plain_past w a b n a-is count held place =
    window_is b _ _ held place ∙ ap (λ (k : ℕ). past k a) count ∙ ap (λ (v : Window). past (plain_length v.held) v) a-is ∙ sym (past_plain_is w)

-- the token lies within what is held, and within the limit
pub plain_room : (w a : Window) (plain : Plain) (n : ℕ) → held_plain w ≡ Some plain → a ≡ past_space w → n ≡ plain_length a.held → (n ≤ length a.held) × (a.place.offset + n ≤ LIMIT + 1) × AreIn Graphic (take n a.held)
plain_room w a plain n e a-is count =
    let next = plain_next w plain e in
    let same : n ≡ plain_length (past_space w).held = count ∙ ap (λ (v : Window). plain_length v.held) a-is in
    let len = ap (λ (v : Window). length v.held) a-is in
    let offset = ap (λ (v : Window). v.place.offset) a-is in
    (omega (arith, len, same, next.at.enough), omega (arith, offset, same, next.at.enough, space_offset w, held_within w next.near), rw (same, a-is) next.at.each)

-- ---- what it is

-- it keeps what a token does
pub front_proper : (bs : List ℕ) → IfSome (front_plain bs) (λ plain. IsProper (plain_token plain))
front_proper [] = tt
front_proper (b ∷ bs) = go (is_ascii_digit b) (is_pair (b ∷ bs))
  where
    pair : (t : Bool) → IsProper (plain_token (cond t plains.AttrStart plains.AttrStop))
    pair true = tt
    pair false = tt

    number : (o : Option ℤ) → IfSome o IsCount → IfSome (number_plain o) (λ plain. IsProper (plain_token plain))
    number (Some z) h = h
    number None h = tt

    digits : (t : Bool) (o : Option ℤ) → IfSome o IsCount → IfSome (cond t None (number_plain o)) (λ plain. IsProper (plain_token plain))
    digits true o h = tt
    digits false o h = number o h

    go : (s t : Bool) → IfSome (cond s (digits_plain (number_length (b ∷ bs)) (b ∷ bs)) (cond t (Some (pair_plain b)) None)) (λ plain. IsProper (plain_token plain))
    go true t = digits (eqb (number_length (b ∷ bs)) 0) (number_of (take (number_length (b ∷ bs)) (b ∷ bs))) (number_good (take (number_length (b ∷ bs)) (b ∷ bs)))
    go false true = pair (eqb b 40)
    go false false = tt

pub plain_proper : (w : Window) → IfSome (held_plain w) (λ plain. IsProper (plain_token plain))
unfolding held_plain
plain_proper w = go (is_near w)
  where
    go : (t : Bool) → IfSome (cond t (front_plain (drop (space_length w.held) w.held)) None) (λ plain. IsProper (plain_token plain))
    go true = front_proper (drop (space_length w.held) w.held)
    go false = tt
