-- Tokens that are held whole, with the byte that shows their end.
use Rattle.std.proofs.Common.{◌≡◌, ℕ, zero, suc, ◌+◌, ◌<◌, ◌≤◌, Bool, true, false, cond, leb, ltb, eqb, ◌||◌, List, [], ◌∷◌, ◌++◌, length, get_or, take, drop, drop-cons, Option, Some, None, Result, Ok, Err, refl, sym, ap, ◌∙◌, subst, arith, length-take, option_map}
use Rattle.std.specs.Prelude.{IfOk, OnOk, ℤ}
use Rattle.std.specs.Char.{is_ascii_digit}
use Rattle.std.specs.List.{prefix_len}
use Rattle.std.proofs.lemmas.Bool.{le-ltb, ltb-false, leb-true, leb-false, eqb-true}
use Rattle.std.proofs.lemmas.List.Sums.{prefix_len_stops}
use Rattle.nl_base.specs.declared.place.Place.{Place}
use Rattle.nl_base.specs.declared.fault.Reason.TheVariants.{NumberRange}
use Rattle.nl_base.specs.declared.fault.ReadError.{ReadError}
use Rattle.nl_base.specs.declared.fault.ReadError.TheVariants.{Text, TooLong, NoMemory}
use Rattle.nl_base.specs.Faults.{OnText}
use Rattle.nl_base.specs.Place.{place_past}
use Rattle.nl_base.proofs.Places.{place_past-offset}
use Rattle.nl_bytes.specs.declared.bytes.TheConstants.{LIMIT}
use Rattle.nl_bytes.specs.declared.class.Class.{Class}
use Rattle.nl_bytes.specs.declared.class.Class.TheVariants.{NameByte, NumberByte, Graphic}
use Rattle.nl_bytes.specs.Classes.{AreIn, in_class, is_verilog_space, is_name_byte, is_number_byte, is_graphic}
use Rattle.nl_bytes.specs.Bytes.{Window, Uses, TakesWhenUsed, IsAhead, input, given}
use Rattle.nl_bytes.proofs.Uses.{Uses-front, Uses-none, Uses-trans, offset_grows}
use Rattle.nl_bytes.proofs.Known.{Uses-known, IsAhead-known}
use Rattle.nl_bytes.proofs.Limited.{Uses-unknown}
use Rattle.nl_bytes.proofs.Fronts.{front-all}
use Rattle.nl_bytes.specs.Tokens.{Ahead, TellsKnown, Shortens, known_ahead, UsesTo, FoundUnseen, Finds}
use Rattle.vlog_tokens.specs.declared.item.Item.{Item}
use Rattle.vlog_tokens.specs.declared.item.Item.TheVariants.{Token}
use Rattle.vlog_tokens.specs.declared.item.Spot.{Spot}
use Rattle.vlog_tokens.specs.declared.phase.Phase.{Phase}
use Rattle.vlog_tokens.specs.declared.phase.Phase.TheVariants.{Word, Escape, Escaped, Whole}
use Rattle.vlog_tokens.specs.declared.phase.Step.TheVariants.{Ends}
use Rattle.vlog_tokens.specs.declared.start.Start.TheVariants.{Lexeme}
use Rattle.vlog_tokens.specs.declared.token.VFound.{VFound}
use Rattle.vlog_tokens.specs.declared.token.VToken.{VToken}
use Rattle.vlog_tokens.specs.declared.token.VToken.TheVariants.{Name, Number}
use Rattle.nl_bytes.specs.Flaws.{Piece, Flaw, ◌>>=◌}
use Rattle.vlog_tokens.specs.Phases.{next_step, most_of, class_of}
use Rattle.vlog_tokens.specs.Phases as phases
use Rattle.vlog_tokens.specs.Scanning as scanning
use Rattle.vlog_tokens.specs.Scanning.{begun, kept, scan_at, ended}
use Rattle.vlog_tokens.specs.Items.{item_of, finish, finished, word_item, number_item}
use Rattle.vlog_tokens.specs.Numbers.{number_of}
use Rattle.vlog_tokens.specs.Spelling.{item_by, start_of, begins_name, lexeme_spelled}
use Rattle.vlog_tokens.specs.Parts.{Answers, GivesSpot, Reads, spot_of}
use Rattle.vlog_tokens.specs.Finding.{Passes}
use Rattle.vlog_tokens.specs.Language.{vlog, stream_from}
use Rattle.vlog_tokens.specs.Held.{is_near, name_length, word_length, makes_real, number_by, number_length, escaped_by, escaped_length, is_pair, pair_token, number_at}
use Rattle.nl_bytes.proofs.Readers.{unseen_after}
use Rattle.vlog_tokens.proofs.Parts.{front_given}
use Rattle.vlog_tokens.proofs.Scanning.{keep_step, scan_stays, front_of}
use Rattle.vlog_tokens.proofs.Reading.{gives_spot, spot_unseen, spot_used_up}
use Rattle.vlog_tokens.proofs.Marks.{reads_told}
use Rattle.vlog_tokens.proofs.Streams.{passes_none, finds_token, finds_err}

-- ---- white space before a token

-- behind white space the same tokens are ahead
passes_ahead : {a b : Window} {l m : Option (List ℕ)} → Passes a b l m → known_ahead vlog a l ≡ known_ahead vlog b m
passes_ahead {a} {b} {l} {m} p = go (input a l) refl
  where
    go : (o : Option (List ℕ)) → input a l ≡ o → option_map (λ bs. stream_from a.place bs) o ≡ known_ahead vlog b m
    go None e = ap (λ (o : Option (List ℕ)). option_map (λ bs. stream_from b.place bs) o) (sym (Uses-unknown p.uses e))
    go (Some bs) e =
        let k = Uses-known a b l m p.used bs p.uses e in
        ap Some (p.same bs k.0 e k.1) ∙ ap (λ (o : Option (List ℕ)). option_map (λ xs. stream_from b.place xs) o) (sym k.1)

shortens_after : (r : Result (Option VFound) ReadError) (a b c : Window) → a.place.offset ≤ b.place.offset → IfOk r (λ x. Shortens x b c) → IfOk r (λ x. Shortens x a c)
shortens_after (Ok (Some x)) a b c le h = (omega (arith, h.0), h.1)
shortens_after (Ok None) a b c le h = tt
shortens_after (Err e) a b c le h = tt

space_unseen : (r : Result (Option VFound) ReadError) (a b c : Window) → TakesWhenUsed a b → IfOk r (λ x. Shortens x b c) → IfOk r (λ x. UsesTo vlog x c) → IfOk r (λ x. FoundUnseen vlog x b c) → IfOk r (λ x. FoundUnseen vlog x a c)
space_unseen (Ok (Some x)) a b c lazy shorter to shown = unseen_after a b c x.stop lazy (omega (arith, shorter.0, to)) shown
space_unseen (Ok None) a b c lazy shorter to shown = tt
space_unseen (Err e) a b c lazy shorter to shown = tt

-- the next token behind white space is the next
pub finds_after : {a b c : Window} {l m n : Option (List ℕ)} {r : Result (Option VFound) ReadError} → Passes a b l m → Finds vlog b c m n r → Finds vlog a c l n r
finds_after {a} {b} {c} {l} {m} {n} {r} p f = record {
  used = p.used ++ f.used;
  uses = Uses-trans a b c l m n p.used f.used p.uses f.uses;
  told = subst (λ (o : Option (Ahead VFound)). TellsKnown o r c (known_ahead vlog c n)) (sym (passes_ahead p)) f.told;
  shorter = shortens_after r a b c (omega (arith, offset_grows p.uses)) f.shorter;
  used_to = f.used_to;
  ended = f.ended;
  unseen = space_unseen r a b c p.uses.lazy f.shorter f.used_to f.unseen;
  used_up = f.used_up;
}

-- ---- what is found from what was read

pub held_within : (w : Window) → is_near w ≡ true → w.place.offset + length w.held ≤ LIMIT
held_within w e = leb-true (w.place.offset + length w.held) LIMIT e

-- a token that was read is found
pub token_found : {a b : Window} {l : Option (List ℕ)} {byte : ℕ} (token : VToken) (stop : ℕ) → IsAhead a l (Some byte) → Reads (item_by (start_of byte) byte) a b l l (Ok (record { item = Token token; stop = stop })) → b.place.offset ≤ stop → stop ≤ LIMIT
    → Finds vlog a b l l (Ok (Some (record { place = a.place; stop = stop; token = token })))
token_found {a} {b} {l} {byte} token stop ahead reads to near =
    let found : Result (Option VFound) ReadError = Ok (Some (record { place = a.place; stop = stop; token = token })) in
    finds_token token (passes_none a l) ahead reads (refl, refl, refl) a.place refl found (rw (le-ltb LIMIT stop near) refl) to

-- bytes that are held and used, with the byte behind them
pub record Front (a b : Window) (n : ℕ) (next : ℕ) : Type 0 where
  pub more : n < length a.held
  pub uses : (l : Option (List ℕ)) → Uses a b l l (take n a.held)
  pub count : length (take n a.held) ≡ n
  pub ahead : (l : Option (List ℕ)) → IsAhead b l (Some next)
  pub same : given b ≡ given a

pub front_used : {a b : Window} {n : ℕ} → n < length a.held → b.held ≡ drop n a.held → b.place ≡ place_past a.place (take n a.held) → Front a b n (get_or a.held n 0)
front_used {a} {b} {n} more held place = record {
  more = more;
  uses = λ l. Uses-front a b l n held place;
  count = omega (arith, length-take n a.held);
  ahead = λ l. (drop (suc n) a.held, held ∙ drop-cons a.held n 0 more);
  same = front_given a b n held place;
}

ends_at : (phase : Phase) (text : List ℕ) (n next : ℕ) (tail : List ℕ) → next_step phase next ≡ Ends → scan_at phase text n (next ∷ tail) ≡ ended phase text n (Some next)
unfolding scan_at
ends_at phase text n next tail e = rw e refl

-- a name or a number whose bytes are held, and whose end the byte behind them shows, is read
pub lexeme_held : (begins phase : Phase) (byte : ℕ) {a b : Window} {n next : ℕ} (l : Option (List ℕ)) (text : List ℕ) → Front a b n next → 0 < n
    → ((rest : List ℕ) → begun begins byte 0 (take n a.held ++ rest) ≡ scan_at phase text n rest) → next_step phase next ≡ Ends → (item : Option Item) → item ≡ item_of phase text → (stop : ℕ) → stop ≡ a.place.offset + n + 1
    → Reads (lexeme_spelled begins byte) a b l l (spot_of a.place stop item)
lexeme_held begins phase byte {a} {b} {n} {next} l text f some law ends item item-is stop stop-is =
    let piece : Piece scanning.Lexeme = record { value = record { phase = phase; text = text }; count = n; seen = n + 1 } in
    record {
      used = take n a.held;
      uses = f.uses l;
      some = some_used (spot_of a.place stop item);
      answer = λ bs known.
          let k = Uses-known a b l l (take n a.held) bs (f.uses l) known in
          let t = front_of k.0 next (IsAhead-known b l (Some next) k.0 (f.ahead l) k.1) in
          let scanned : begun begins byte 0 bs ≡ Ok piece = ap (begun begins byte 0) k.2 ∙ law k.0 ∙ ap (scan_at phase text n) t.1 ∙ ends_at phase text n next t.0 ends in
          let spelled : lexeme_spelled begins byte bs ≡ finished piece item = ap (λ (r : Result (Piece scanning.Lexeme) Flaw). r >>= finish) scanned ∙ ap (finished piece) (sym item-is) in
          subst (λ (z : Result (Piece Item) Flaw). Answers a.place bs (GivesSpot a.place (take n a.held)) z (spot_of a.place stop item)) (sym spelled)
          (gives_spot a.place bs (take n a.held) piece item stop (omega (arith, stop-is)) (sym f.count));
      unseen = spot_unseen a.place stop item a b (λ le. f.same);
      used_up = spot_used_up a.place stop item b;
    }
  where
    some_used : (r : Result Spot ReadError) → OnOk r (0 < length (take n a.held))
    some_used (Ok y) = omega (arith, some, f.count)
    some_used (Err e) = tt

-- ---- names

pub name_whole : (bs : List ℕ) (n k : ℕ) → k ≡ name_length bs n → 0 < k → (k ≡ n) × (k < length bs) × (k ≤ 1024)
name_whole bs n k is some = go (ltb 1024 n) refl (leb (length bs) n) refl is
  where
    go : (s : Bool) → ltb 1024 n ≡ s → (t : Bool) → leb (length bs) n ≡ t → k ≡ cond (s || t) 0 n → (k ≡ n) × (k < length bs) × (k ≤ 1024)
    go true d t e h = absurd (omega (arith, some, h))
    go false d true e h = absurd (omega (arith, some, h))
    go false d false e h = (h, omega (arith, leb-false (length bs) n e, h), omega (arith, ltb-false 1024 n d, h))

-- a first byte of a class, and the bytes of the class behind it
run_law : (phase : Phase) (class : Class) → class_of phase ≡ Some class → (byte : ℕ) → kept phase byte ≡ byte ∷ [] → (u rest : List ℕ) → AreIn class u → suc (length u) ≤ most_of phase → begun phase byte 0 ((byte ∷ u) ++ rest) ≡ scan_at phase (byte ∷ u) (suc (length u)) rest
run_law phase class is byte k u rest each most =
    ap (λ (xs : List ℕ). scan_at phase xs 1 (u ++ rest)) k ∙ scan_stays phase class is (byte ∷ []) u rest 1 each (omega (arith, most)) ∙ ap (λ (i : ℕ). scan_at phase (byte ∷ u) i rest) (omega arith)

-- the bytes of a class at the front of some that begin with a byte
run_held : (phase : Phase) (class : Class) → class_of phase ≡ Some class → (byte : ℕ) → kept phase byte ≡ byte ∷ [] → (held tail : List ℕ) (n : ℕ) → held ≡ byte ∷ tail → 0 < n → n ≤ length held → n ≤ most_of phase → AreIn class (take n held)
    → (rest : List ℕ) → begun phase byte 0 (take n held ++ rest) ≡ scan_at phase (take n held) n rest
run_held phase class is byte k held tail zero front some enough most each rest = absurd (omega (arith, some))
run_held phase class is byte k held tail (suc m) front some enough most each rest =
    let taken : take (suc m) held ≡ byte ∷ take m tail = ap (take (suc m)) front in
    let count : length (take m tail) ≡ m = omega (arith, length-take m tail, ap length front, enough) in
    let all = subst (AreIn class) taken each in
    ap (λ (xs : List ℕ). begun phase byte 0 (xs ++ rest)) taken ∙ run_law phase class is byte k (take m tail) rest all.1 (omega (arith, count, most))
    ∙ ap (λ (i : ℕ). scan_at phase (byte ∷ take m tail) (suc i) rest) count ∙ ap (λ (xs : List ℕ). scan_at phase xs (suc m) rest) (sym taken)

word_run : (byte : ℕ) (held tail : List ℕ) (n : ℕ) → held ≡ byte ∷ tail → 0 < n → n ≤ length held → n ≤ 1024 → AreIn NameByte (take n held) → (rest : List ℕ) → begun Word byte 0 (take n held ++ rest) ≡ scan_at Word (take n held) n rest
unfolding class_of kept most_of
word_run byte held tail n front some enough most each rest = run_held Word NameByte refl byte refl held tail n front some enough most each rest

word_ends : (next : ℕ) → is_name_byte next ≡ false → next_step Word next ≡ Ends
unfolding next_step
word_ends next e = rw e refl

word_is : (text : List ℕ) → Some (word_item text) ≡ item_of Word text
unfolding item_of
word_is text = refl

-- what is known of a name that is held whole
pub record Named (class : Class) (bs : List ℕ) (n : ℕ) : Type 0 where
  pub more : n < length bs
  pub short : n ≤ 1024
  pub each : AreIn class (take n bs)
  pub out : in_class class (get_or bs n 0) ≡ false

named : (class : Class) (bs : List ℕ) (n : ℕ) → n ≡ name_length bs (prefix_len (in_class class) bs) → 0 < n → Named class bs n
named class bs n is some =
    let w = name_whole bs (prefix_len (in_class class) bs) n is some in
    record {
      more = w.1;
      short = w.2;
      each = rw w.0 (front-all (in_class class) bs);
      out = rw w.0 (prefix_len_stops (in_class class) bs 0 (omega (arith, w.0, w.1)));
    }

pub word_named : (bs : List ℕ) (n : ℕ) → n ≡ word_length bs → 0 < n → Named NameByte bs n
unfolding word_length
word_named bs n is some = named NameByte bs n is some

-- a name or a keyword that is held whole is found
pub word_found : {a b : Window} {byte : ℕ} {n : ℕ} (l : Option (List ℕ)) (tail : List ℕ) → a.held ≡ byte ∷ tail → start_of byte ≡ Lexeme Word → is_near a ≡ true → 0 < n → n ≡ word_length a.held
    → b.held ≡ drop n a.held → b.place ≡ place_past a.place (take n a.held) → (token : VToken) → Token token ≡ word_item (take n a.held) → (p : Place) → p ≡ a.place → Finds vlog a b l l (Ok (Some (record { place = p; stop = p.offset + n + 1; token = token })))
word_found {a} {b} {byte} {n} l tail front begins near some whole held place token token-is p p-is =
    let w = word_named a.held n whole some in
    let f = front_used {a = a} {b = b} {n = n} w.more held place in
    let reads = lexeme_held Word Word byte l (take n a.held) f some (word_run byte a.held tail n front some (omega (arith, w.more)) w.short w.each) (word_ends _ w.out) (Some (word_item (take n a.held))) (word_is (take n a.held)) (a.place.offset + n + 1) refl in
    rw p-is (token_found {a = a} {b = b} {l = l} {byte = byte} token (a.place.offset + n + 1) (tail, front)
    (rw (begins, token-is) reads) (omega (arith, ap (λ (q : Place). q.offset) place, place_past-offset a.place (take n a.held), f.count)) (omega (arith, held_within a near, w.more)))

-- nothing was used where memory ran out
pub found_nothing : (w : Window) (l : Option (List ℕ)) → Finds vlog w w l l (Err NoMemory)
found_nothing w l = record { used = []; uses = Uses-none w l; told = free (known_ahead vlog w l); shorter = tt; used_to = tt; ended = tt; unseen = tt; used_up = λ is. absurd cc }
  where
    free : (o : Option (Ahead VFound)) → TellsKnown o (Err NoMemory) w o
    free None = refl
    free (Some s) = tt

-- ---- numbers

-- what is known of a number that is held whole
pub record Numbered (bs : List ℕ) (n : ℕ) : Type 0 where
  pub more : n < length bs
  pub each : AreIn NumberByte (take n bs)
  pub out : is_number_byte (get_or bs n 0) ≡ false
  pub whole : makes_real (get_or bs n 0) ≡ false

number_whole : (bs : List ℕ) (k n : ℕ) → n ≡ number_by bs k → 0 < n → (n ≡ k) × (k < length bs) × (makes_real (get_or bs k 0) ≡ false)
number_whole bs k n is some = go (leb (length bs) k) refl (makes_real (get_or bs k 0)) refl is
  where
    go : (s : Bool) → leb (length bs) k ≡ s → (t : Bool) → makes_real (get_or bs k 0) ≡ t → n ≡ cond s 0 (cond t 0 k) → (n ≡ k) × (k < length bs) × (makes_real (get_or bs k 0) ≡ false)
    go true d t e h = absurd (omega (arith, some, h))
    go false d true e h = absurd (omega (arith, some, h))
    go false d false e h = (h, leb-false (length bs) k d, e)

pub numbered : (bs : List ℕ) (n : ℕ) → n ≡ number_length bs → 0 < n → Numbered bs n
unfolding number_length
numbered bs n is some =
    let w = number_whole bs (prefix_len is_number_byte bs) n is some in
    record {
      more = omega (arith, w.0, w.1);
      each = rw w.0 (front-all is_number_byte bs);
      out = rw w.0 (prefix_len_stops is_number_byte bs 0 w.1);
      whole = rw w.0 w.2;
    }

number_run : (byte : ℕ) (held tail : List ℕ) (n : ℕ) → held ≡ byte ∷ tail → 0 < n → n ≤ length held → n ≤ 131072 → AreIn NumberByte (take n held) → (rest : List ℕ) → begun Whole byte 0 (take n held ++ rest) ≡ scan_at Whole (take n held) n rest
unfolding class_of kept most_of
number_run byte held tail n front some enough most each rest = run_held Whole NumberByte refl byte refl held tail n front some enough most each rest

neither : (s t : Bool) → (s || t) ≡ false → (s ≡ false) × (t ≡ false)
neither true t e = absurd cc
neither false t e = (refl, e)

number_ends : (next : ℕ) → is_number_byte next ≡ false → makes_real next ≡ false → next_step Whole next ≡ Ends
unfolding next_step
number_ends next e f = let n = neither (eqb next 46) (phases.is_mark next) f in rw (e, n.0, n.1) refl

number_is : (text : List ℕ) → number_item (number_of text) ≡ item_of Whole text
unfolding item_of
number_is text = refl

-- a number that is held whole is found, or it is out of range
pub number_finds : {a b : Window} {byte : ℕ} {n : ℕ} (l : Option (List ℕ)) (tail : List ℕ) → a.held ≡ byte ∷ tail → start_of byte ≡ Lexeme Whole → is_near a ≡ true → length a.held ≤ 4096 → 0 < n → n ≡ number_length a.held
    → b.held ≡ drop n a.held → b.place ≡ place_past a.place (take n a.held) → (p : Place) → p ≡ a.place → (digits : List ℕ) → digits ≡ take n a.held → Finds vlog a b l l (number_at p (p.offset + n + 1) (number_of digits))
number_finds {a} {b} {byte} {n} l tail front begins near small some whole held place p p-is digits digits-is =
    let w = numbered a.held n whole some in
    let f = front_used {a = a} {b = b} {n = n} w.more held place in
    let o = number_of (take n a.held) in
    let reads = lexeme_held Whole Whole byte l (take n a.held) f some (number_run byte a.held tail n front some (omega (arith, w.more)) (omega (arith, w.more, small)) w.each) (number_ends _ w.out w.whole) (number_item o) (number_is (take n a.held)) (a.place.offset + n + 1) refl in
    rw (p-is, digits-is) (go o (rw begins reads) (omega (arith, ap (λ (q : Place). q.offset) place, place_past-offset a.place (take n a.held), f.count)) (omega (arith, held_within a near, w.more)))
  where
    go : (o : Option ℤ) → Reads (item_by (start_of byte) byte) a b l l (spot_of a.place (a.place.offset + n + 1) (number_item o)) → b.place.offset ≤ a.place.offset + n + 1 → a.place.offset + n + 1 ≤ LIMIT
        → Finds vlog a b l l (number_at a.place (a.place.offset + n + 1) o)
    go (Some z) reads to in_limit = token_found {a = a} {b = b} {l = l} {byte = byte} (Number z) (a.place.offset + n + 1) (tail, front) reads to in_limit
    go None reads to in_limit = finds_err {b = byte} (passes_none a l) (tail, front) reads

-- no byte past the stop of a number was used
pub number_bounded : (a b : Window) {n : ℕ} → n ≤ length a.held → b.place ≡ place_past a.place (take n a.held) → (p : Place) → p ≡ a.place → (o : Option ℤ) → OnText (number_at p (p.offset + n + 1) o) (λ t. b.place.offset ≤ t.stop)
number_bounded a b {n} enough place p p-is (Some z) = tt
number_bounded a b {n} enough place p p-is None = go (ltb LIMIT (p.offset + n + 1)) (omega (arith, ap (λ (q : Place). q.offset) place, place_past-offset a.place (take n a.held), length-take n a.held, ap (λ (q : Place). q.offset) p-is, enough))
  where
    refused : ReadError → Result (Option VFound) ReadError
    refused e = Err e

    go : (t : Bool) → b.place.offset ≤ p.offset + n + 1 → OnText (refused (cond t TooLong (Text (record { place = p; stop = p.offset + n + 1; reason = NumberRange })))) (λ t. b.place.offset ≤ t.stop)
    go true to = tt
    go false to = to

-- ---- escaped names

escaped_whole : (bs : List ℕ) (k n : ℕ) → n ≡ escaped_by bs k → 0 < n → (n ≡ k) × (is_verilog_space (get_or bs k 0) ≡ true)
escaped_whole bs k n is some = go (is_verilog_space (get_or bs k 0)) refl is
  where
    go : (t : Bool) → is_verilog_space (get_or bs k 0) ≡ t → n ≡ cond t k 0 → (n ≡ k) × (is_verilog_space (get_or bs k 0) ≡ true)
    go true e h = (h, e)
    go false e h = absurd (omega (arith, some, h))

pub escaped_named : (bs : List ℕ) (n : ℕ) → n ≡ escaped_length bs → 0 < n → Named Graphic bs n × (is_verilog_space (get_or bs n 0) ≡ true)
unfolding escaped_length
escaped_named bs n is some = let w = escaped_whole bs (name_length bs (prefix_len is_graphic bs)) n is some in (named Graphic bs n w.0 some, rw w.0 w.1)

escaped_run : (tail : List ℕ) (n : ℕ) → 0 < n → n < length tail → n ≤ 1024 → AreIn Graphic (take n tail) → (rest : List ℕ) → begun Escape 92 0 ((92 ∷ take n tail) ++ rest) ≡ scan_at Escaped (take n tail) (n + 1) rest
unfolding class_of kept most_of next_step
escaped_run tail zero some more short each rest = absurd (omega (arith, some))
escaped_run [] (suc m) some more short each rest = absurd (omega (arith, more))
escaped_run (c ∷ cs) (suc m) some more short each rest =
    let count : length (take m cs) ≡ m = omega (arith, length-take m cs, more) in
    keep_step Escape Escaped [] 1 c (take m cs ++ rest) (rw each.0 refl) (omega arith) ∙ scan_stays Escaped Graphic refl (c ∷ []) (take m cs) rest 2 each.1 (omega (arith, count, short))
    ∙ ap (λ (i : ℕ). scan_at Escaped (c ∷ take m cs) i rest) (omega (arith, count))

escaped_ends : (next : ℕ) → is_graphic next ≡ false → is_verilog_space next ≡ true → next_step Escaped next ≡ Ends
unfolding next_step
escaped_ends next e f = rw (e, f) refl

escaped_is : (text : List ℕ) → Some (Token (Name text)) ≡ item_of Escaped text
unfolding item_of
escaped_is text = refl

-- the bytes of an escaped name with its `\`
pub escaped_each : (held tail : List ℕ) (n : ℕ) → held ≡ 92 ∷ tail → AreIn Graphic (take n tail) → AreIn Graphic (take (n + 1) held)
escaped_each held tail n front each = rw (front, one_more n) (refl, each)
  where
    one_more : (n : ℕ) → n + 1 ≡ suc n
    one_more n = omega arith

-- an escaped name that is held whole is found
pub escaped_found : {a b : Window} {n : ℕ} (l : Option (List ℕ)) (tail : List ℕ) → a.held ≡ 92 ∷ tail → is_near a ≡ true → 0 < n → n ≡ escaped_length tail
    → b.held ≡ drop (n + 1) a.held → b.place ≡ place_past a.place (take (n + 1) a.held) → (name : List ℕ) → name ≡ take n tail → (p : Place) → p ≡ a.place → Finds vlog a b l l (Ok (Some (record { place = p; stop = p.offset + n + 2; token = Name name })))
escaped_found {a} {b} {n} l tail front near some whole held place name name-is p p-is =
    let w = escaped_named tail n whole some in
    let len : length a.held ≡ suc (length tail) = ap (λ (xs : List ℕ). length xs) front in
    let f = front_used {a = a} {b = b} {n = n + 1} (omega (arith, w.0.more, len)) held place in
    let one : n + 1 ≡ suc n = omega arith in
    let taken : take (n + 1) a.held ≡ 92 ∷ take n tail = ap (λ (k : ℕ). take k a.held) one ∙ ap (take (suc n)) front in
    let next : get_or a.held (n + 1) 0 ≡ get_or tail n 0 = ap (λ (k : ℕ). get_or a.held k 0) one ∙ ap (λ (xs : List ℕ). get_or xs (suc n) 0) front in
    let reads = lexeme_held Escape Escaped 92 l (take n tail) f (omega arith) (λ rest. ap (λ (xs : List ℕ). begun Escape 92 0 (xs ++ rest)) taken ∙ escaped_run tail n some w.0.more w.0.short w.0.each rest)
    (escaped_ends _ (rw next w.0.out) (rw next w.1)) (Some (Token (Name (take n tail)))) (escaped_is (take n tail)) (a.place.offset + n + 2) (omega arith) in
    rw (p-is, name-is) (token_found {a = a} {b = b} {l = l} {byte = 92} (Name (take n tail)) (a.place.offset + n + 2) (tail, front) reads
    (omega (arith, ap (λ (q : Place). q.offset) place, place_past-offset a.place (take (n + 1) a.held), f.count)) (omega (arith, held_within a near, w.0.more, len)))

-- ---- brackets of attributes

-- the bytes of `(*` or `*)`, which are at the front
pub record Paired (byte : ℕ) (held : List ℕ) : Type 0 where
  pub second : ℕ
  pub rest : List ℕ
  pub front : held ≡ byte ∷ second ∷ rest
  pub each : AreIn Graphic (byte ∷ second ∷ [])
  pub spelled : (more : List ℕ) → item_by (start_of byte) byte (byte ∷ second ∷ more) ≡ Ok (record { value = Token (pair_token byte); count = 2; seen = 2 })

paired_by : (byte second due : ℕ) (held rest : List ℕ) → held ≡ byte ∷ second ∷ rest → eqb second due ≡ true → AreIn Graphic (byte ∷ due ∷ []) → ((more : List ℕ) → item_by (start_of byte) byte (byte ∷ due ∷ more) ≡ Ok (record { value = Token (pair_token byte); count = 2; seen = 2 })) → Paired byte held
paired_by byte second due held rest front e each spelled =
    let same : second ≡ due = eqb-true second due e in
    record { second = due; rest = rest; front = front ∙ ap (λ (x : ℕ). byte ∷ x ∷ rest) same; each = each; spelled = spelled }

pub paired : (byte : ℕ) (held tail : List ℕ) → held ≡ byte ∷ tail → is_pair held ≡ true → Paired byte held
paired byte held [] front pair = absurd (none (eqb byte 40) (eqb byte 42) (sym (ap is_pair front) ∙ pair))
  where
    none : (s t : Bool) → cond s false (cond t false false) ≡ true → ⊥
    none true t e = cc
    none false true e = cc
    none false false e = cc
paired byte held (c ∷ cs) front pair = go (eqb byte 40) refl (eqb byte 42) refl (sym (ap is_pair front) ∙ pair)
  where
    go : (s : Bool) → eqb byte 40 ≡ s → (t : Bool) → eqb byte 42 ≡ t → cond s (eqb c 42) (cond t (eqb c 41) false) ≡ true → Paired byte held
    go true d t e h = let is : byte ≡ 40 = eqb-true byte 40 d in paired_by byte c 42 held cs front h (rw is (refl, (refl, tt))) (rw is (λ more. refl))
    go false d true e h = let is : byte ≡ 42 = eqb-true byte 42 e in paired_by byte c 41 held cs front h (rw is (refl, (refl, tt))) (rw is (λ more. refl))
    go false d false e h = absurd cc

-- `(*` or `*)` that is held is found
pub pair_found : {a b : Window} {byte : ℕ} (l : Option (List ℕ)) (tail : List ℕ) → a.held ≡ byte ∷ tail → is_near a ≡ true → is_pair a.held ≡ true → b.held ≡ drop 2 a.held → b.place ≡ place_past a.place (take 2 a.held)
    → (p : Place) → p ≡ a.place → (token : VToken) → token ≡ pair_token byte → Finds vlog a b l l (Ok (Some (record { place = p; stop = p.offset + 2; token = token })))
pair_found {a} {b} {byte} l tail front near pair held place p p-is token token-is =
    let w = paired byte a.held tail front pair in
    let taken : take 2 a.held ≡ byte ∷ w.second ∷ [] = ap (take 2) w.front in
    let uses : Uses a b l l (byte ∷ w.second ∷ []) = subst (Uses a b l l) taken (Uses-front a b l 2 held place) in
    let spot : Spot = record { item = Token (pair_token byte); stop = a.place.offset + 2 } in
    let reads = reads_told (item_by (start_of byte) byte) uses (omega arith) spot (record { value = Token (pair_token byte); count = 2; seen = 2 }) (λ rest known. w.spelled rest) refl refl (λ le. front_given a b 2 held place) in
    rw (p-is, token-is) (token_found {a = a} {b = b} {l = l} {byte = byte} (pair_token byte) (a.place.offset + 2) (tail, front) reads (omega (arith, offset_grows uses)) (omega (arith, held_within a near, ap (λ (xs : List ℕ). length xs) w.front)))

-- ---- what a byte begins

pub name_begins : (b : ℕ) → is_verilog_space b ≡ false → begins_name b ≡ true → start_of b ≡ Lexeme Word
name_begins b e f = rw (e, f) refl

pub digit_begins : (b : ℕ) → is_verilog_space b ≡ false → begins_name b ≡ false → is_ascii_digit b ≡ true → start_of b ≡ Lexeme Whole
digit_begins b e f d = rw (e, f, d) refl
