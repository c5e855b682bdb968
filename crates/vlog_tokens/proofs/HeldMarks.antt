-- The punctuation mark that is next, where the bytes that are held show it.
use Rattle.std.proofs.Common.{◌≡◌, ℕ, zero, suc, ◌+◌, ◌<◌, ◌≤◌, Bool, true, false, cond, eqb, ◌||◌, List, [], ◌∷◌, length, get_or, take, drop, Option, Some, None, Result, Ok, refl, sym, ap, ◌∙◌, subst, arith, length-drop, length-take}
use Rattle.std.specs.Prelude.{IsFalse}
use Rattle.std.proofs.lemmas.Bool.{eqb-true, eqb-false}
use Rattle.std.proofs.lemmas.List.Sums.{prefix_len_stops, prefix_len-le-length}
use Rattle.nl_base.specs.declared.place.Place.{Place}
use Rattle.nl_base.specs.Place.{place_after, place_past}
use Rattle.nl_base.proofs.Places.{place_past-offset}
use Rattle.nl_bytes.specs.declared.bytes.TheConstants.{LIMIT}
use Rattle.nl_bytes.specs.declared.class.Class.TheVariants.{VerilogSpace}
use Rattle.nl_bytes.specs.declared.halt.Halt.{Halt}
use Rattle.nl_bytes.specs.Classes.{is_verilog_space}
use Rattle.nl_bytes.specs.Bytes.{Window, Skips, given}
use Rattle.nl_bytes.proofs.Uses.{Uses-front, Uses-none}
use Rattle.nl_bytes.proofs.Fronts.{front-all}
use Rattle.nl_io.specs.Sources.{Supply}
use Rattle.nl_bytes.specs.Tokens.{State, ReadsToken, Finds}
use Rattle.vlog_tokens.specs.declared.item.Item.TheVariants.{Token}
use Rattle.vlog_tokens.specs.declared.item.Spot.{Spot}
use Rattle.vlog_tokens.specs.declared.start.Start.TheVariants.{Mark}
use Rattle.vlog_tokens.specs.declared.token.VFound.{VFound}
use Rattle.vlog_tokens.specs.declared.token.VToken.TheVariants.{Punct, AttrStart}
use Rattle.vlog_tokens.specs.Spelling.{item_by, start_of, is_mark}
use Rattle.vlog_tokens.specs.Parts.{Reads}
use Rattle.vlog_tokens.specs.Finding.{Passes}
use Rattle.vlog_tokens.specs.Language.{vlog}
use Rattle.vlog_tokens.specs.Held.{is_near, open_mark, front_mark, space_length, held_mark, past, past_space, past_mark}
use Rattle.vlog_tokens.proofs.Parts.{Steps}
use Rattle.vlog_tokens.proofs.Marks.{mark_read, pair_other}
use Rattle.vlog_tokens.proofs.Streams.{passes_space}
use Rattle.nl_bytes.proofs.Readers.{reads_found}
use Rattle.vlog_tokens.proofs.Held.{finds_after, token_found, held_within}

pub either : (s t : Bool) {P : Type 0} → (s ≡ true → P) → (t ≡ true → P) → (s || t) ≡ true → P
either true t f g e = f refl
either false t f g e = g e

mark_is : (b n : ℕ) → start_of n ≡ Mark → eqb b n ≡ true → start_of b ≡ Mark
mark_is b n starts e = rw (eqb-true b n e) starts

mark_begins : (b : ℕ) → is_mark b ≡ true → start_of b ≡ Mark
mark_begins b e =
    either _ _ (either _ _ (either _ _ (either _ _ (either _ _ (either _ _ (either _ _ (either _ _ (either _ _ (either _ _ (either _ _ (either _ _
    (mark_is b 41 refl) (mark_is b 91 refl)) (mark_is b 93 refl)) (mark_is b 123 refl)) (mark_is b 125 refl)) (mark_is b 44 refl)) (mark_is b 59 refl)) (mark_is b 58 refl)) (mark_is b 46 refl)) (mark_is b 35 refl)) (mark_is b 61 refl)) (mark_is b 43 refl)) (mark_is b 45 refl) e

-- ---- the mark at the front of some bytes

-- a mark at the front of what is held, as it is read
pub record MarkAt (a : Window) (mark : ℕ) : Type 0 where
  pub tail : List ℕ
  pub ahead : a.held ≡ mark ∷ tail
  pub stop : ℕ
  pub reads : (l : Option (List ℕ)) → Reads (item_by (start_of mark) mark) a (past 1 a) l l (Ok (record { item = Token (Punct mark); stop = stop }))
  pub after : a.place.offset + 1 ≤ stop
  pub within : stop ≤ a.place.offset + length a.held

one_step : (a : Window) (b : ℕ) (tail : List ℕ) → a.held ≡ b ∷ tail → Steps a (past 1 a) b
one_step a b tail ahead = record { tail = tail; ahead = ahead; held = refl; place = rw ahead refl }

marked : (a : Window) (b : ℕ) (tail : List ℕ) → a.held ≡ b ∷ tail → is_mark b ≡ true → MarkAt a b
marked a b tail ahead is = record {
  tail = tail;
  ahead = ahead;
  stop = a.place.offset + 1;
  reads = λ l. let spot : Spot = record { item = Token (Punct b); stop = a.place.offset + 1 } in rw (mark_begins b is) (mark_read l (Token (Punct b)) (one_step a b tail ahead) spot refl);
  after = omega arith;
  within = omega (arith, ap (λ (xs : List ℕ). length xs) ahead);
}

opened : (a : Window) (c : ℕ) (tail : List ℕ) → a.held ≡ 40 ∷ c ∷ tail → eqb c 42 ≡ false → MarkAt a 40
opened a c tail ahead other = record {
  tail = c ∷ tail;
  ahead = ahead;
  stop = a.place.offset + 2;
  reads = λ l.
      let spot : Spot = record { item = Token (Punct 40); stop = a.place.offset + 2 } in
      pair_other 42 (Token AttrStart) (Token (Punct 40)) c (one_step a 40 (c ∷ tail) ahead) (Uses-none (past 1 a) l) (tail, ap (λ (xs : List ℕ). drop 1 xs) ahead) (eqb-false c 42 other) spot refl;
  after = omega arith;
  within = omega (arith, ap (λ (xs : List ℕ). length xs) ahead);
}

mark_at : (a : Window) (mark : ℕ) (bs : List ℕ) → a.held ≡ bs → front_mark bs ≡ Some mark → MarkAt a mark
mark_at a mark [] ahead e = absurd cc
mark_at a mark (b ∷ bs) ahead e = go (eqb b 40) refl (is_mark b) refl bs ahead e
  where
    opens : (bs : List ℕ) → a.held ≡ 40 ∷ bs → open_mark bs ≡ Some mark → MarkAt a mark
    opens [] ahead e = absurd cc
    opens (c ∷ cs) ahead e = by (eqb c 42) refl e
      where
        by : (t : Bool) → eqb c 42 ≡ t → cond t None (Some 40) ≡ Some mark → MarkAt a mark
        by true d h = absurd cc
        by false d h = let is : 40 ≡ mark = cc in subst (MarkAt a) is (opened a c cs ahead d)

    go : (s : Bool) → eqb b 40 ≡ s → (t : Bool) → is_mark b ≡ t → (bs : List ℕ) → a.held ≡ b ∷ bs → cond s (open_mark bs) (cond t (Some b) None) ≡ Some mark → MarkAt a mark
    go true d t f bs ahead e = opens bs (ahead ∙ ap (λ (x : ℕ). x ∷ bs) (eqb-true b 40 d)) e
    go false d true f bs ahead e = let is : b ≡ mark = cc in subst (MarkAt a) is (marked a b bs ahead f)
    go false d false f bs ahead e = absurd cc

-- ---- white space before it

abbrev some_ahead : ℕ → Result (Option ℕ) Halt
some_ahead b = Ok (Some b)

pub space_passed : (w : Window) (b : ℕ) (tail : List ℕ) → w.place.offset + length w.held ≤ LIMIT → drop (space_length w.held) w.held ≡ b ∷ tail → (l : Option (List ℕ)) → Passes w (past_space w) l l
space_passed w b tail near ahead l =
    let n = space_length w.held in
    let enough : n ≤ length w.held = prefix_len-le-length is_verilog_space w.held in
    let more : n < length w.held = omega (arith, enough, length-drop n w.held, ap (λ (xs : List ℕ). length xs) ahead) in
    let next : get_or w.held n 0 ≡ b = sym (head_of n w.held more) ∙ ap (λ (xs : List ℕ). get_or xs 0 0) ahead in
    let skips : Skips VerilogSpace w (past_space w) l l (some_ahead b) = record {
      used = take n w.held;
      uses = Uses-front w (past_space w) l n refl refl;
      each = front-all is_verilog_space w.held;
      ahead = (tail, ahead);
      longest = sym (ap is_verilog_space next) ∙ prefix_len_stops is_verilog_space w.held 0 more;
      within = omega (arith, place_past-offset w.place (take n w.held), length-take n w.held, near);
      too_long = λ h. absurd cc;
      used_up = λ h. absurd cc;
    } in
    passes_space skips
  where
    head_of : (n : ℕ) (xs : List ℕ) → n < length xs → get_or (drop n xs) 0 0 ≡ get_or xs n 0
    head_of zero xs lt = refl
    head_of (suc n) [] lt = absurd (omega (arith, lt))
    head_of (suc n) (x ∷ xs) lt = head_of n xs (omega (arith, lt))

-- what the mark that is next is known by
pub record MarkNext (w : Window) (mark : ℕ) : Type 0 where
  pub near : is_near w ≡ true
  pub at : MarkAt (past_space w) mark

pub mark_next : (w : Window) (mark : ℕ) → held_mark w ≡ Some mark → MarkNext w mark
unfolding held_mark
mark_next w mark e = go (is_near w) refl e
  where
    go : (t : Bool) → is_near w ≡ t → cond t (front_mark (drop (space_length w.held) w.held)) None ≡ Some mark → MarkNext w mark
    go true d h = record { near = d; at = mark_at (past_space w) mark (drop (space_length w.held) w.held) refl h }
    go false d h = absurd cc

pub space_offset : (w : Window) → (past_space w).place.offset + length (past_space w).held ≡ w.place.offset + length w.held
space_offset w = omega (arith, place_past-offset w.place (take (space_length w.held) w.held), length-take (space_length w.held) w.held, length-drop (space_length w.held) w.held, prefix_len-le-length is_verilog_space w.held)

past_mark_is : (w : Window) → past_mark w ≡ past 1 (past_space w)
unfolding past_mark
past_mark_is w = refl

-- the mark is found
pub record MarkFound (w : Window) (mark : ℕ) : Type 0 where
  pub found : VFound
  pub is : found.token ≡ Punct mark
  pub finds : (l : Option (List ℕ)) → Finds vlog w (past_mark w) l l (Ok (Some found))

pub mark_found : (w : Window) (mark : ℕ) → held_mark w ≡ Some mark → MarkFound w mark
mark_found w mark e =
    let n = mark_next w mark e in
    let a = past_space w in
    let near = held_within w n.near in
    let offset : (past 1 a).place.offset ≡ a.place.offset + 1 = omega (arith, place_past-offset a.place (take 1 a.held), length-take 1 a.held, ap (λ (xs : List ℕ). length xs) n.at.ahead) in
    record {
      found = record { place = a.place; stop = n.at.stop; token = Punct mark };
      is = refl;
      finds = λ l. rw (past_mark_is w) (finds_after (space_passed w mark n.at.tail near n.at.ahead l)
          (token_found {a = a} {b = past 1 a} {l = l} {byte = mark} (Punct mark) n.at.stop (n.at.tail, n.at.ahead) (n.at.reads l) (omega (arith, offset, n.at.after)) (omega (arith, n.at.within, space_offset w, near))));
    }

past_less : (w : Window) → length (past_mark w).held ≤ length w.held
unfolding past_mark
past_less w = omega (arith, length-drop 1 (drop (space_length w.held) w.held), length-drop (space_length w.held) w.held)

-- no more was taken than lies within the limit
past_given : (w : Window) (mark : ℕ) → held_mark w ≡ Some mark → given (past_mark w) ≤ LIMIT + 4096
unfolding past_mark
past_given w mark e =
    let n = mark_next w mark e in
    let a = past_space w in
    omega (arith, place_past-offset a.place (take 1 a.held), length-take 1 a.held, length-drop 1 a.held, ap (λ (xs : List ℕ). length xs) n.at.ahead, space_offset w, held_within w n.near)

-- a reader that is not spent reads the mark as its next token
pub mark_reads : (w : Window) (mark : ℕ) → held_mark w ≡ Some mark → length w.held ≤ 4096 → (i : Supply) → (x : VFound) × (x.token ≡ Punct mark) × ReadsToken vlog (Ok (Some x)) w false (past_mark w) false i i
mark_reads w mark e small i =
    let m = mark_found w mark e in
    (m.found, m.is, reads_found (m.finds i.left) (λ h. absurd cc) tt (omega arith) (λ h. absurd cc) (omega (arith, past_less w, small)) (past_given w mark e))

-- the same of a reader that is made of a window and whether it is spent
pub mark_taken : (s : State) (w : Window) (spent : Bool) → record { window = w; spent = spent } ≡ s → length w.held ≤ 4096 → (mark : ℕ) → held_mark s.window ≡ Some mark → IsFalse s.spent → (i : Supply)
    → (x : VFound) × (x.token ≡ Punct mark) × ReadsToken vlog (Ok (Some x)) s.window s.spent (past_mark w) spent i i
mark_taken s w spent e small mark is live i =
    subst (λ (s : State). held_mark s.window ≡ Some mark → IsFalse s.spent → (x : VFound) × (x.token ≡ Punct mark) × ReadsToken vlog (Ok (Some x)) s.window s.spent (past_mark w) spent i i) e
    (λ is live. rw live (mark_reads w mark is small i)) is live

-- ---- the bytes are used

pub window_is : (b : Window) (xs : List ℕ) (p : Place) → b.held ≡ xs → b.place ≡ p → b ≡ record { held = xs; place = p }
window_is b xs p e f = rw (← e, ← f) refl

pub space_past : (a b : Window) (n : ℕ) → n ≡ space_length a.held → b.held ≡ drop n a.held → b.place ≡ place_past a.place (take n a.held) → b ≡ past_space a
space_past a b n is held place = window_is b _ _ (held ∙ ap (λ (k : ℕ). drop k a.held) is) (place ∙ ap (λ (k : ℕ). place_past a.place (take k a.held)) is)

pub no_space_past : (a : Window) → space_length a.held ≡ 0 → a ≡ past_space a
no_space_past a none = space_past a a 0 (sym none) refl refl

-- one byte of white space is used
pub one_space_past : (a b : Window) → space_length a.held ≡ 1 → b.held ≡ drop 1 a.held → b.place ≡ place_after a.place (get_or a.held 0 0) → b ≡ past_space a
one_space_past a b one held place = space_past a b 1 (sym one) held (place ∙ go a.held one)
  where
    go : (bs : List ℕ) → space_length bs ≡ 1 → place_after a.place (get_or bs 0 0) ≡ place_past a.place (take 1 bs)
    go [] e = absurd (omega (arith, e))
    go (x ∷ xs) e = refl

pub mark_past : (w a b : Window) (mark : ℕ) → held_mark w ≡ Some mark → a ≡ past_space w → b.held ≡ drop 1 a.held → b.place ≡ place_after a.place (get_or a.held 0 0) → b ≡ past_mark w
mark_past w a b mark e a-is held place =
    let n = mark_next w mark e in
    let ahead : a.held ≡ mark ∷ n.at.tail = ap (λ (v : Window). v.held) a-is ∙ n.at.ahead in
    let past_one : b ≡ past 1 a = window_is b _ _ held (place ∙ sym (one_step a mark n.at.tail ahead).place) in
    past_one ∙ ap (past 1) a-is ∙ sym (past_mark_is w)

-- what is held before the mark
pub mark_room : (w a : Window) (mark : ℕ) → held_mark w ≡ Some mark → a ≡ past_space w → (0 < length a.held) × (a.place.offset ≤ LIMIT)
mark_room w a mark e a-is =
    let n = mark_next w mark e in
    let len = ap (λ (v : Window). length v.held) a-is in
    let offset = ap (λ (v : Window). v.place.offset) a-is in
    (omega (arith, len, ap (λ (xs : List ℕ). length xs) n.at.ahead), omega (arith, offset, space_offset w, held_within w n.near))
