-- The parenthesis or the word that is next, where the bytes that are held show it.
use Rattle.std.proofs.Common.{◌≡◌, ℕ, zero, suc, ◌+◌, ◌<◌, ◌≤◌, Bool, true, false, cond, eqb, leb, ltb, ◌||◌, List, [], ◌∷◌, length, get_or, take, drop, Option, Some, None, Result, Ok, refl, sym, ap, ◌∙◌, subst, inl, inr, arith, length-drop, length-take}
use Rattle.std.specs.Prelude.{IsFalse}
use Rattle.std.specs.Char.{is_ascii_alphabetic}
use Rattle.std.specs.List.{prefix_len}
use Rattle.std.proofs.lemmas.Bool.{eqb-true, ltb-false, leb-true, leb-false, cases_lt}
use Rattle.std.proofs.lemmas.List.Sums.{prefix_len_stops, prefix_len-le-length}
use Rattle.nl_base.specs.Identifiers.{is_identifier}
use Rattle.nl_base.specs.declared.place.Place.{Place}
use Rattle.nl_base.specs.Place.{place_after, place_past}
use Rattle.nl_base.proofs.Places.{place_past-offset}
use Rattle.nl_bytes.specs.declared.bytes.TheConstants.{LIMIT}
use Rattle.nl_bytes.specs.declared.class.Class.TheVariants.{Space, WordByte}
use Rattle.nl_bytes.specs.declared.halt.Halt.{Halt}
use Rattle.nl_bytes.specs.Classes.{AreIn, is_space, is_word_byte}
use Rattle.nl_bytes.specs.Bytes.{Window, Skips, given}
use Rattle.nl_bytes.proofs.Uses.{Uses-front, Uses-byte}
use Rattle.nl_bytes.proofs.Fronts.{front-all}
use Rattle.nl_io.specs.Sources.{Supply}
use Rattle.nl_bytes.specs.Tokens.{State, ReadsToken}
use Rattle.edif_tokens.specs.declared.scan.Start.{Start}
use Rattle.edif_tokens.specs.declared.scan.Start.TheVariants.{Letter}
use Rattle.edif_tokens.specs.declared.token.Found.{Found}
use Rattle.edif_values.specs.declared.token.Token.TheVariants.{Word}
use Rattle.edif_tokens.specs.Spelling.{may_follow, is_parenthesis, start_of, token_by, word_spelled}
use Rattle.edif_tokens.specs.Scan.{IsLed, IsWhole, Reads}
use Rattle.edif_tokens.specs.Language.{edif}
use Rattle.edif_tokens.specs.Held.{is_near, space_length, past, past_space, mark_token, front_mark, held_mark, past_mark, word_by, word_length, front_word, held_word, past_word}
use Rattle.edif_tokens.proofs.Held.{word_whole, whole_each, whole_shape}
use Rattle.edif_tokens.proofs.Words.{identifier_led}
use Rattle.edif_tokens.proofs.Streams.{finds_found}
use Rattle.nl_bytes.proofs.Readers.{reads_found}

-- ---- what is held

held_within : (w : Window) → is_near w ≡ true → w.place.offset + length w.held ≤ LIMIT
held_within w e = leb-true (w.place.offset + length w.held) LIMIT e

-- how many bytes lie before the limit does not change where some of them are used
past_offset : (n : ℕ) (w : Window) → n ≤ length w.held → (past n w).place.offset ≡ w.place.offset + n
past_offset n w enough = omega (arith, place_past-offset w.place (take n w.held), length-take n w.held, enough)

pub past_given : (n : ℕ) (w : Window) → n ≤ length w.held → given (past n w) ≡ given w
past_given n w enough = omega (arith, past_offset n w enough, length-drop n w.held, enough)

byte_given : (w : Window) (b : ℕ) (tail : List ℕ) → w.held ≡ b ∷ tail → given (past 1 w) ≡ given w
byte_given w b tail ahead = past_given 1 w (omega (arith, ap (λ (xs : List ℕ). length xs) ahead))

pub space_given : (w : Window) → given (past_space w) ≡ given w
space_given w = past_given (space_length w.held) w (prefix_len-le-length is_space w.held)

-- ---- white space before a token

head_of : (n : ℕ) (xs : List ℕ) → n < length xs → get_or (drop n xs) 0 0 ≡ get_or xs n 0
head_of zero xs lt = refl
head_of (suc n) [] lt = absurd (omega (arith, lt))
head_of (suc n) (x ∷ xs) lt = head_of n xs (omega (arith, lt))

abbrev some_ahead : ℕ → Result (Option ℕ) Halt
some_ahead b = Ok (Some b)

-- the white space that is held is passed, where a byte is held behind it
space_skipped : (w : Window) (b : ℕ) (tail : List ℕ) → is_near w ≡ true → drop (space_length w.held) w.held ≡ b ∷ tail → (l : Option (List ℕ)) → Skips Space w (past_space w) l l (some_ahead b)
space_skipped w b tail near ahead l =
    let n = space_length w.held in
    let enough : n ≤ length w.held = prefix_len-le-length is_space w.held in
    let more : n < length w.held = omega (arith, enough, length-drop n w.held, ap (λ (xs : List ℕ). length xs) ahead) in
    let next : get_or w.held n 0 ≡ b = sym (head_of n w.held more) ∙ ap (λ (xs : List ℕ). get_or xs 0 0) ahead in
    record {
      used = take n w.held;
      uses = Uses-front w (past_space w) l n refl refl;
      each = front-all is_space w.held;
      ahead = (tail, ahead);
      longest = sym (ap is_space next) ∙ prefix_len_stops is_space w.held 0 more;
      within = omega (arith, past_offset n w enough, held_within w near, enough);
      too_long = λ h. absurd cc;
      used_up = λ h. absurd cc;
    }

-- a token of the held bytes that is read behind white space is the next token of a reader that is not spent
token_reads : (w : Window) (n b : ℕ) (tail : List ℕ) (f : Found) → is_near w ≡ true → length w.held ≤ 4096 → (past_space w).held ≡ b ∷ tail → n ≤ length (past_space w).held → (past_space w).place.offset + n ≤ f.stop → f.stop ≤ LIMIT
    → (i : Supply) → Reads (token_by (start_of b)) (past_space w).place (past_space w) (past n (past_space w)) i.left i.left (Ok f)
    → ReadsToken edif (Ok (Some f)) w false (past n (past_space w)) false i i
token_reads w n b tail f near small ahead enough to most i reads =
    let a = past_space w in
    let finds = finds_found (space_skipped w b tail near ahead i.left) reads most (omega (arith, past_offset n a enough, to)) in
    reads_found finds (λ h. absurd cc) tt (omega arith) (λ h. absurd cc)
    (omega (arith, length-drop n a.held, length-drop (space_length w.held) w.held, small))
    (omega (arith, past_given n a enough, space_given w, held_within w near))

-- ---- parentheses

-- a parenthesis at the front of what is held
pub record MarkAt (a : Window) (mark : ℕ) : Type 0 where
  pub tail : List ℕ
  pub ahead : a.held ≡ mark ∷ tail
  pub is : is_parenthesis mark ≡ true

mark_at : (a : Window) (mark : ℕ) (bs : List ℕ) → a.held ≡ bs → front_mark bs ≡ Some mark → MarkAt a mark
mark_at a mark [] ahead e = absurd cc
mark_at a mark (b ∷ bs) ahead e = go (is_parenthesis b) refl e
  where
    go : (t : Bool) → is_parenthesis b ≡ t → cond t (Some b) None ≡ Some mark → MarkAt a mark
    go true d h =
        let is : b ≡ mark = cc in
        record { tail = bs; ahead = ahead ∙ ap (λ (x : ℕ). x ∷ bs) is; is = ap is_parenthesis (sym is) ∙ d }
    go false d h = absurd cc

-- what the parenthesis that is next is known by
pub record MarkNext (w : Window) (mark : ℕ) : Type 0 where
  pub near : is_near w ≡ true
  pub at : MarkAt (past_space w) mark

pub mark_next : (w : Window) (mark : ℕ) → held_mark w ≡ Some mark → MarkNext w mark
unfolding held_mark
mark_next w mark e = go (is_near w) refl e
  where
    go : (t : Bool) → is_near w ≡ t → cond t (front_mark (drop (space_length w.held) w.held)) None ≡ Some mark → MarkNext w mark
    go true d h = record { near = d; at = mark_at (past_space w) mark (drop (space_length w.held) w.held) refl h }
    go false d h = absurd cc

-- the parenthesis at the front is read as a token
abbrev ReadsMark : Window → Option (List ℕ) → ℕ → Type 0
ReadsMark a l b = Reads (token_by (start_of b)) a.place a (past 1 a) l l (Ok (record { place = a.place; stop = a.place.offset + 1; token = mark_token b }))

open_read : (a : Window) (tail : List ℕ) → a.held ≡ 40 ∷ tail → (l : Option (List ℕ)) → ReadsMark a l 40
open_read a tail ahead l = record {
  used = 40 ∷ [];
  uses = Uses-byte a (past 1 a) l 40 tail ahead refl (rw ahead refl);
  some = omega arith;
  unseen = λ le. byte_given a 40 tail ahead;
  used_up = λ h. absurd cc;
  answer = λ bs known. (refl, refl);
}

close_read : (a : Window) (tail : List ℕ) → a.held ≡ 41 ∷ tail → (l : Option (List ℕ)) → ReadsMark a l 41
close_read a tail ahead l = record {
  used = 41 ∷ [];
  uses = Uses-byte a (past 1 a) l 41 tail ahead refl (rw ahead refl);
  some = omega arith;
  unseen = λ le. byte_given a 41 tail ahead;
  used_up = λ h. absurd cc;
  answer = λ bs known. (refl, refl);
}

mark_read : (a : Window) (b : ℕ) (tail : List ℕ) → a.held ≡ b ∷ tail → is_parenthesis b ≡ true → (l : Option (List ℕ)) → ReadsMark a l b
mark_read a b tail ahead is l = go (eqb b 40) refl (eqb b 41) refl is
  where
    go : (s : Bool) → eqb b 40 ≡ s → (t : Bool) → eqb b 41 ≡ t → (s || t) ≡ true → ReadsMark a l b
    go true d t f h = let e = eqb-true b 40 d in subst (ReadsMark a l) (sym e) (open_read a tail (ahead ∙ ap (λ (x : ℕ). x ∷ tail) e) l)
    go false d true f h = let e = eqb-true b 41 f in subst (ReadsMark a l) (sym e) (close_read a tail (ahead ∙ ap (λ (x : ℕ). x ∷ tail) e) l)
    go false d false f h = absurd cc

pub past_mark_is : (w : Window) → past_mark w ≡ past 1 (past_space w)
unfolding past_mark
past_mark_is w = refl

-- a reader that is not spent reads the parenthesis as its next token
pub mark_reads : (w : Window) (mark : ℕ) → held_mark w ≡ Some mark → length w.held ≤ 4096 → (i : Supply)
    → (x : Found) × (x.token ≡ mark_token mark) × ReadsToken edif (Ok (Some x)) w false (past_mark w) false i i
mark_reads w mark e small i =
    let n = mark_next w mark e in
    let a = past_space w in
    let f : Found = record { place = a.place; stop = a.place.offset + 1; token = mark_token mark } in
    let len = ap (λ (xs : List ℕ). length xs) n.at.ahead in
    let most : f.stop ≤ LIMIT = omega (arith, space_given w, held_within w n.near, len) in
    (f, refl, rw (past_mark_is w) (token_reads w 1 mark n.at.tail f n.near small n.at.ahead (omega (arith, len)) (omega arith) most i (mark_read a mark n.at.tail n.at.ahead n.at.is i.left)))

-- the same of a reader that is made of a window and whether it is spent
pub mark_taken : (s : State) (w : Window) (spent : Bool) → record { window = w; spent = spent } ≡ s → length w.held ≤ 4096 → (mark : ℕ) → held_mark s.window ≡ Some mark → IsFalse s.spent → (i : Supply)
    → (x : Found) × (x.token ≡ mark_token mark) × ReadsToken edif (Ok (Some x)) s.window s.spent (past_mark w) spent i i
mark_taken s w spent e small mark is live i =
    subst (λ (s : State). held_mark s.window ≡ Some mark → IsFalse s.spent → (x : Found) × (x.token ≡ mark_token mark) × ReadsToken edif (Ok (Some x)) s.window s.spent (past_mark w) spent i i) e
    (λ is live. rw live (mark_reads w mark is small i)) is live

-- no byte past the limit is used for the parenthesis
pub mark_within : (s : State) (w : Window) (spent : Bool) → record { window = w; spent = spent } ≡ s → (mark : ℕ) → held_mark s.window ≡ Some mark → (past_mark w).place.offset ≤ LIMIT
mark_within s w spent e mark is =
    let n = mark_next w mark (ap (λ (s : State). held_mark s.window) e ∙ is) in
    rw (past_mark_is w) (omega (arith, byte_given (past_space w) mark n.at.tail n.at.ahead, space_given w, held_within w n.near))

-- ---- words

-- a word of n bytes that begins with a letter, at the front of some bytes, which show its end
pub record WordAt (bs : List ℕ) (n : ℕ) : Type 0 where
  pub byte : ℕ
  pub tail : List ℕ
  pub front : bs ≡ byte ∷ tail
  pub begins : is_ascii_alphabetic byte ≡ true
  pub run : n ≡ prefix_len is_word_byte bs
  pub short : n ≤ 1024
  pub more : n < length bs
  pub follows : may_follow (get_or bs n 0) ≡ true

word_followed : (bs : List ℕ) (n k : ℕ) → k ≡ word_by bs n → 0 < k → (k ≡ n) × (k ≤ 1024) × (k < length bs) × (may_follow (get_or bs k 0) ≡ true)
word_followed bs n k is some = go (ltb 1024 n) refl (leb (length bs) n) refl (may_follow (get_or bs n 0)) refl is
  where
    go : (s : Bool) → ltb 1024 n ≡ s → (t : Bool) → leb (length bs) n ≡ t → (u : Bool) → may_follow (get_or bs n 0) ≡ u → k ≡ cond (s || t) 0 (cond u n 0) → (k ≡ n) × (k ≤ 1024) × (k < length bs) × (may_follow (get_or bs k 0) ≡ true)
    go true d t e u f h = absurd (omega (arith, some, h))
    go false d true e u f h = absurd (omega (arith, some, h))
    go false d false e false f h = absurd (omega (arith, some, h))
    go false d false e true f h = (h, omega (arith, ltb-false 1024 n d, h), omega (arith, leb-false (length bs) n e, h), ap (λ (m : ℕ). may_follow (get_or bs m 0)) h ∙ f)

word_at : (bs : List ℕ) (n : ℕ) → n ≡ word_length bs → 0 < n → WordAt bs n
unfolding word_length
word_at [] n is some = absurd (omega (arith, is, some))
word_at (b ∷ bs) n is some = go (is_ascii_alphabetic b) refl is
  where
    go : (t : Bool) → is_ascii_alphabetic b ≡ t → n ≡ cond t (word_by (b ∷ bs) (prefix_len is_word_byte (b ∷ bs))) 0 → WordAt (b ∷ bs) n
    go true d h =
        let k = word_followed (b ∷ bs) (prefix_len is_word_byte (b ∷ bs)) n h some in
        record { byte = b; tail = bs; front = refl; begins = d; run = k.0; short = k.1; more = k.2; follows = k.3 }
    go false d h = absurd (omega (arith, h, some))

-- a word has no more bytes than there are
pub word_enough : (bs : List ℕ) → word_length bs ≤ length bs
word_enough bs = elim (cases_lt 0 (word_length bs)) [
  | inl some ↦ let w = word_at bs (word_length bs) refl some in omega (arith, w.more)
  | inr none ↦ omega (arith, none)
]

-- what the word that is next is known by
pub record WordNext (w : Window) (n : ℕ) : Type 0 where
  pub near : is_near w ≡ true
  pub is : held_word w ≡ take n (past_space w).held
  pub at : WordAt (past_space w).held n

pub word_next : (w : Window) (n : ℕ) → n ≡ length (held_word w) → 0 < n → WordNext w n
unfolding held_word
word_next w n count some = go (is_near w) refl refl count
  where
    go : (t : Bool) → is_near w ≡ t → held_word w ≡ cond t (front_word (past_space w).held) [] → n ≡ length (cond t (front_word (past_space w).held) []) → WordNext w n
    go true d is h =
        let rest = (past_space w).held in
        let taken : n ≡ word_length rest = omega (arith, h, length-take (word_length rest) rest, word_enough rest) in
        record { near = d; is = is ∙ ap (λ (k : ℕ). take k rest) (sym taken); at = word_at rest n taken some }
    go false d is h = absurd (omega (arith, h, some))

-- it is held whole
word_is_whole : (w : Window) (n : ℕ) → WordNext w n → IsWhole WordByte (past_space w) n
word_is_whole w n next = record {
  run = next.at.run;
  short = next.at.short;
  more = next.at.more;
  follows = next.at.follows;
  within = omega (arith, space_given w, held_within w next.near, next.at.more);
}

not_byte : (b n : ℕ) → is_ascii_alphabetic n ≡ false → is_ascii_alphabetic b ≡ true → eqb b n ≡ false
not_byte b n out e = go (eqb b n) refl
  where
    go : (t : Bool) → eqb b n ≡ t → t ≡ false
    go true d = let same = ap is_ascii_alphabetic (eqb-true b n d) in absurd cc
    go false d = refl

-- a letter begins a word
letter_starts : (b : ℕ) → is_ascii_alphabetic b ≡ true → start_of b ≡ Letter
letter_starts b e = rw (not_byte b 40 refl e, not_byte b 41 refl e, not_byte b 34 refl e, e) refl

past_word_is : (w : Window) (n : ℕ) → n ≡ length (held_word w) → past_word w ≡ past n (past_space w)
unfolding past_word
past_word_is w n e = ap (λ (k : ℕ). past k (past_space w)) (sym e)

-- a reader that is not spent reads the word as its next token
pub word_reads : (w : Window) → 0 < length (held_word w) → length w.held ≤ 4096 → (i : Supply)
    → (x : Found) × (x.token ≡ Word (held_word w)) × ReadsToken edif (Ok (Some x)) w false (past_word w) false i i
word_reads w some small i =
    let n = length (held_word w) in
    let next = word_next w n refl some in
    let a = past_space w in
    let f : Found = record { place = a.place; stop = a.place.offset + n + 1; token = Word (held_word w) } in
    let whole = word_is_whole w n next in
    let word : Reads (word_spelled false) a.place a (past n a) i.left i.left (Ok f) = word_whole {old = a} {new = past n a} {n = n} {text = held_word w} i.left whole some refl refl next.is f refl in
    let reads = subst (λ (s : Start). Reads (token_by s) a.place a (past n a) i.left i.left (Ok f)) (sym (letter_starts next.at.byte next.at.begins)) word in
    (f, refl, rw (past_word_is w n refl) (token_reads w n next.at.byte next.at.tail f next.near small next.at.front (omega (arith, next.at.more)) (omega arith) (omega (arith, whole.within)) i reads))

-- the same of a reader that is made of a window and whether it is spent
pub word_taken : (s : State) (w : Window) (spent : Bool) → record { window = w; spent = spent } ≡ s → length w.held ≤ 4096 → 0 < length (held_word s.window) → IsFalse s.spent → (i : Supply)
    → (x : Found) × (x.token ≡ Word (held_word s.window)) × ReadsToken edif (Ok (Some x)) s.window s.spent (past_word w) spent i i
word_taken s w spent e small some live i =
    subst (λ (s : State). 0 < length (held_word s.window) → IsFalse s.spent → (x : Found) × (x.token ≡ Word (held_word s.window)) × ReadsToken edif (Ok (Some x)) s.window s.spent (past_word w) spent i i) e
    (λ some live. rw live (word_reads w some small i)) some live

-- no byte past the limit is used for the word
pub word_within : (s : State) (w : Window) (spent : Bool) → record { window = w; spent = spent } ≡ s → (n : ℕ) → n ≡ length (held_word s.window) → 0 < n → (past_word w).place.offset ≤ LIMIT
word_within s w spent e n is some =
    let count : n ≡ length (held_word w) = is ∙ ap (λ (s : State). length (held_word s.window)) (sym e) in
    let next = word_next w n count some in
    rw (past_word_is w n count) (omega (arith, past_given n (past_space w) (omega (arith, next.at.more)), space_given w, held_within w next.near))

-- ---- what a word that is next is

word_led : (w : Window) (n : ℕ) → WordNext w n → 0 < n → (b : ℕ) × (is_ascii_alphabetic b ≡ true) × IsLed WordByte false b (held_word w)
word_led w n next some = (next.at.byte, next.at.begins, whole_shape {class = WordByte} {w = past_space w} {n = n} {text = held_word w} (word_is_whole w n next) some next.is next.at.byte next.at.tail next.at.front)

-- it is an identifier
pub word_identifier : (w : Window) → 0 < length (held_word w) → is_identifier (held_word w) ≡ true
word_identifier w some = let led = word_led w _ (word_next w _ refl some) some in identifier_led led.2 led.1

-- it has at most 1,024 bytes
pub word_short : (w : Window) → length (held_word w) ≤ 1024
word_short w = elim (cases_lt 0 (length (held_word w))) [
  | inl some ↦ let next = word_next w (length (held_word w)) refl some in next.at.short
  | inr none ↦ omega (arith, none)
]

-- it begins with a letter
pub word_begins : (w : Window) → 0 < length (held_word w) → (b : ℕ) × (rest : List ℕ) × (held_word w ≡ b ∷ rest) × (is_ascii_alphabetic b ≡ true)
word_begins w some = let led = word_led w _ (word_next w _ refl some) some in (led.0, led.2.rest, led.2.parts, led.1)

-- ---- the bytes are used

window_is : (b : Window) (xs : List ℕ) (p : Place) → b.held ≡ xs → b.place ≡ p → b ≡ record { held = xs; place = p }
window_is b xs p e f = rw (← e, ← f) refl

pub space_past : (a b : Window) (n : ℕ) → n ≡ space_length a.held → b.held ≡ drop n a.held → b.place ≡ place_past a.place (take n a.held) → b ≡ past_space a
space_past a b n is held place = window_is b _ _ (held ∙ ap (λ (k : ℕ). drop k a.held) is) (place ∙ ap (λ (k : ℕ). place_past a.place (take k a.held)) is)

pub no_space_past : (a : Window) → space_length a.held ≡ 0 → a ≡ past_space a
no_space_past a none = space_past a a 0 (sym none) refl refl

-- white space lies within what is held, and within the limit
pub space_room : (a : Window) (n : ℕ) → n ≡ space_length a.held → is_near a ≡ true → (n ≤ length a.held) × (a.place.offset + n ≤ LIMIT + 1) × AreIn Space (take n a.held)
space_room a n is near =
    let enough : n ≤ length a.held = omega (arith, is, prefix_len-le-length is_space a.held) in
    (enough, omega (arith, enough, held_within a near), rw is (front-all is_space a.held))

pub mark_past : (w a b : Window) (mark : ℕ) → held_mark w ≡ Some mark → a ≡ past_space w → b.held ≡ drop 1 a.held → b.place ≡ place_after a.place (get_or a.held 0 0) → b ≡ past_mark w
mark_past w a b mark e a-is held place =
    let n = mark_next w mark e in
    let ahead : a.held ≡ mark ∷ n.at.tail = ap (λ (v : Window). v.held) a-is ∙ n.at.ahead in
    let one : place_after a.place (get_or a.held 0 0) ≡ place_past a.place (take 1 a.held) = rw ahead refl in
    window_is b _ _ held (place ∙ one) ∙ ap (past 1) a-is ∙ sym (past_mark_is w)

-- what is held before the parenthesis
pub mark_room : (w a : Window) (mark : ℕ) → held_mark w ≡ Some mark → a ≡ past_space w → (0 < length a.held) × (a.place.offset ≤ LIMIT)
mark_room w a mark e a-is =
    let n = mark_next w mark e in
    let len = ap (λ (v : Window). length v.held) a-is in
    let offset = ap (λ (v : Window). v.place.offset) a-is in
    (omega (arith, len, ap (λ (xs : List ℕ). length xs) n.at.ahead), omega (arith, offset, space_given w, held_within w n.near))

pub word_past : (w a b : Window) (n : ℕ) → n ≡ length (held_word w) → a ≡ past_space w → b.held ≡ drop n a.held → b.place ≡ place_past a.place (take n a.held) → b ≡ past_word w
word_past w a b n count a-is held place = window_is b _ _ held place ∙ ap (past n) a-is ∙ sym (past_word_is w n count)

-- the word lies within what is held, and within the limit
pub word_room : (w a : Window) (n : ℕ) → n ≡ length (held_word w) → 0 < n → a ≡ past_space w → (n ≤ length a.held) × (a.place.offset + n ≤ LIMIT + 1) × AreIn WordByte (take n a.held)
word_room w a n count some a-is =
    let next = word_next w n count some in
    let whole = word_is_whole w n next in
    let len = ap (λ (v : Window). length v.held) a-is in
    let offset = ap (λ (v : Window). v.place.offset) a-is in
    (omega (arith, len, whole.more), omega (arith, offset, whole.within), subst (λ (v : Window). AreIn WordByte (take n v.held)) (sym a-is) (whole_each whole))
