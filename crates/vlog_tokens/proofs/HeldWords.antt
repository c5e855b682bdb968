-- The simple name or the keyword that is next, where the bytes that are held show it.
use Rattle.std.proofs.Common.{◌≡◌, ℕ, ◌+◌, ◌<◌, ◌≤◌, Bool, true, false, cond, leb, eqb, List, [], ◌∷◌, length, take, drop, Option, Some, Ok, refl, sym, ap, ◌∙◌, subst, inl, inr, arith, length-drop, length-take}
use Rattle.std.specs.Prelude.{IsFalse}
use Rattle.std.proofs.lemmas.Bool.{eqb-true, cases_lt}
use Rattle.nl_base.specs.Place.{place_past}
use Rattle.nl_base.proofs.Places.{place_past-offset}
use Rattle.nl_bytes.specs.declared.bytes.TheConstants.{LIMIT}
use Rattle.nl_bytes.specs.declared.class.Class.TheVariants.{NameByte}
use Rattle.nl_bytes.specs.Classes.{AreIn, is_verilog_space}
use Rattle.nl_bytes.specs.Bytes.{Window, given}
use Rattle.nl_io.specs.Sources.{Supply}
use Rattle.nl_bytes.specs.Tokens.{State, ReadsToken, Finds}
use Rattle.vlog_values.specs.Values.{IsName}
use Rattle.vlog_tokens.specs.declared.item.Item.TheVariants.{Token}
use Rattle.vlog_tokens.specs.declared.token.VFound.{VFound}
use Rattle.vlog_tokens.specs.declared.token.VToken.TheVariants.{Name, Keyword}
use Rattle.vlog_tokens.specs.Items.{word_item, word_token}
use Rattle.vlog_tokens.specs.Keywords.{is_keyword}
use Rattle.vlog_tokens.specs.Spelling.{begins_name}
use Rattle.vlog_tokens.specs.Language.{vlog}
use Rattle.vlog_tokens.specs.Held.{is_near, space_length, past, past_space, word_length, front_length, front_word, held_word, past_word}
use Rattle.nl_bytes.proofs.Readers.{reads_found}
use Rattle.vlog_tokens.proofs.Held.{finds_after, held_within, word_named, word_found, name_begins}
use Rattle.vlog_tokens.proofs.Lexemes.{name_bounds, name_of_held}
use Rattle.vlog_tokens.proofs.HeldMarks.{either, space_passed, space_offset, window_is}

-- ---- the word at the front of some bytes

pub record WordAt (bs : List ℕ) (n : ℕ) : Type 0 where
  pub byte : ℕ
  pub tail : List ℕ
  pub front : bs ≡ byte ∷ tail
  pub begins : begins_name byte ≡ true
  pub whole : n ≡ word_length bs

word_at : (bs : List ℕ) (n : ℕ) → n ≡ front_length bs → 0 < n → WordAt bs n
unfolding front_length
word_at [] n is some = absurd (omega (arith, is, some))
word_at (b ∷ bs) n is some = go (begins_name b) refl is
  where
    go : (t : Bool) → begins_name b ≡ t → n ≡ cond t (word_length (b ∷ bs)) 0 → WordAt (b ∷ bs) n
    go true d h = record { byte = b; tail = bs; front = refl; begins = d; whole = h }
    go false d h = absurd (omega (arith, h, some))

-- a word has no more bytes than there are
pub word_enough : (bs : List ℕ) → front_length bs ≤ length bs
word_enough bs = elim (cases_lt 0 (front_length bs)) [
  | inl some ↦ let w = word_named bs (front_length bs) (word_at bs (front_length bs) refl some).whole some in omega (arith, w.more)
  | inr none ↦ omega (arith, none)
]

-- what begins a name is no white space
is_other : (b n : ℕ) → begins_name n ≡ false → begins_name b ≡ true → eqb b n ≡ true → ⊥
is_other b n out e d = let same : begins_name n ≡ true = subst (λ (m : ℕ). begins_name m ≡ true) (eqb-true b n d) e in cc

no_space : (b : ℕ) → begins_name b ≡ true → is_verilog_space b ≡ false
no_space b e = go (is_verilog_space b) refl
  where
    go : (t : Bool) → is_verilog_space b ≡ t → t ≡ false
    go true d = absurd (either _ _ (either _ _ (either _ _ (either _ _ (is_other b 9 refl e) (is_other b 10 refl e)) (is_other b 12 refl e)) (is_other b 13 refl e)) (is_other b 32 refl e) d)
    go false d = refl

-- ---- the word that is next

-- what the word that is next is known by
pub record WordNext (w : Window) (n : ℕ) : Type 0 where
  pub near : is_near w ≡ true
  pub is : held_word w ≡ take n (past_space w).held
  pub at : WordAt (past_space w).held n

pub word_next : (w : Window) (n : ℕ) → n ≡ length (held_word w) → 0 < n → WordNext w n
unfolding held_word
word_next w n count some = go (is_near w) refl refl count
  where
    go : (t : Bool) → is_near w ≡ t → held_word w ≡ cond t (front_word (past_space w).held) [] → n ≡ length (cond t (front_word (past_space w).held) []) → WordNext w n
    go true d is h =
        let rest = (past_space w).held in
        let taken : n ≡ front_length rest = omega (arith, h, length-take (front_length rest) rest, word_enough rest) in
        record { near = d; is = is ∙ ap (λ (k : ℕ). take k rest) (sym taken); at = word_at rest n taken some }
    go false d is h = absurd (omega (arith, h, some))

-- such a word is a name
pub held_word_name : (w : Window) → 0 < length (held_word w) → IsName (held_word w)
held_word_name w some =
    let n = length (held_word w) in
    let next = word_next w n refl some in
    let named = word_named (past_space w).held n next.at.whole some in
    rw next.is (name_of_held NameByte (past_space w).held n some named.more named.short named.each name_bounds)

past_word_is : (w : Window) (n : ℕ) → n ≡ length (held_word w) → past_word w ≡ past n (past_space w)
unfolding past_word
past_word_is w n e = ap (λ (k : ℕ). past k (past_space w)) (sym e)

token_item : (text : List ℕ) → Token (word_token text) ≡ word_item text
token_item text = go (is_keyword text)
  where
    go : (t : Bool) → Token (cond t (Keyword text) (Name text)) ≡ cond t (Token (Keyword text)) (Token (Name text))
    go true = refl
    go false = refl

-- the word is found
pub record WordFound (w : Window) : Type 0 where
  pub found : VFound
  pub is : found.token ≡ word_token (held_word w)
  pub finds : (l : Option (List ℕ)) → Finds vlog w (past_word w) l l (Ok (Some found))

pub word_is_found : (w : Window) → 0 < length (held_word w) → WordFound w
word_is_found w some =
    let n = length (held_word w) in
    let next = word_next w n refl some in
    let a = past_space w in
    let near : is_near a ≡ true = ap (λ (k : ℕ). leb k LIMIT) (space_offset w) ∙ next.near in
    let token : Token (word_token (held_word w)) ≡ word_item (take n a.held) = token_item (held_word w) ∙ ap word_item next.is in
    let begins = name_begins next.at.byte (no_space next.at.byte next.at.begins) next.at.begins in
    record {
      found = record { place = a.place; stop = a.place.offset + n + 1; token = word_token (held_word w) };
      is = refl;
      finds = λ l. rw (past_word_is w n refl) (finds_after (space_passed w next.at.byte next.at.tail (held_within w next.near) next.at.front l)
          (word_found {a = a} {b = past n a} {byte = next.at.byte} {n = n} l next.at.tail next.at.front begins near some next.at.whole refl refl (word_token (held_word w)) token a.place refl));
    }

word_less : (w : Window) → length (past_word w).held ≤ length w.held
unfolding past_word
word_less w = omega (arith, length-drop (length (held_word w)) (drop (space_length w.held) w.held), length-drop (space_length w.held) w.held)

-- no more was taken than lies within the limit
word_given : (w : Window) → 0 < length (held_word w) → given (past_word w) ≤ LIMIT + 4096
unfolding past_word
word_given w some =
    let n = length (held_word w) in
    let next = word_next w n refl some in
    let a = past_space w in
    omega (arith, place_past-offset a.place (take n a.held), length-take n a.held, length-drop n a.held, (word_named a.held n next.at.whole some).more, space_offset w, held_within w next.near)

-- a reader that is not spent reads the word as its next token
pub word_reads : (w : Window) → 0 < length (held_word w) → length w.held ≤ 4096 → (i : Supply) → (x : VFound) × (x.token ≡ word_token (held_word w)) × ReadsToken vlog (Ok (Some x)) w false (past_word w) false i i
word_reads w some small i =
    let m = word_is_found w some in
    (m.found, m.is, reads_found (m.finds i.left) (λ h. absurd cc) tt (omega arith) (λ h. absurd cc) (omega (arith, word_less w, small)) (word_given w some))

-- the same of a reader that is made of a window and whether it is spent
pub word_taken : (s : State) (w : Window) (spent : Bool) → record { window = w; spent = spent } ≡ s → length w.held ≤ 4096 → 0 < length (held_word s.window) → IsFalse s.spent → (i : Supply)
    → (x : VFound) × (x.token ≡ word_token (held_word s.window)) × ReadsToken vlog (Ok (Some x)) s.window s.spent (past_word w) spent i i
word_taken s w spent e small some live i =
    subst (λ (s : State). 0 < length (held_word s.window) → IsFalse s.spent → (x : VFound) × (x.token ≡ word_token (held_word s.window)) × ReadsToken vlog (Ok (Some x)) s.window s.spent (past_word w) spent i i) e
    (λ some live. rw live (word_reads w some small i)) some live

-- ---- the bytes are used

pub word_past : (w a b : Window) (n : ℕ) → n ≡ length (held_word w) → a ≡ past_space w → b.held ≡ drop n a.held → b.place ≡ place_past a.place (take n a.held) → b ≡ past_word w
word_past w a b n count a-is held place = window_is b _ _ held place ∙ ap (past n) a-is ∙ sym (past_word_is w n count)

-- the word lies within what is held, and within the limit
pub word_room : (w a : Window) (n : ℕ) → n ≡ length (held_word w) → 0 < n → a ≡ past_space w → (n ≤ length a.held) × (a.place.offset + n ≤ LIMIT + 1) × AreIn NameByte (take n a.held)
word_room w a n count some a-is =
    let next = word_next w n count some in
    let named = word_named (past_space w).held n next.at.whole some in
    let len = ap (λ (v : Window). length v.held) a-is in
    let offset = ap (λ (v : Window). v.place.offset) a-is in
    (omega (arith, len, named.more), omega (arith, offset, named.more, space_offset w, held_within w next.near), subst (λ (v : Window). AreIn NameByte (take n v.held)) (sym a-is) named.each)
