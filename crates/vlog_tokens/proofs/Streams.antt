-- The stream of tokens, one item after another.
use Rattle.std.proofs.Common.{◌≡◌, ℕ, suc, ◌+◌, ◌-◌, ◌<◌, ◌≤◌, Bool, true, false, cond, ltb, List, [], ◌∷◌, ◌++◌, length, drop, Option, Some, None, Result, Ok, Err, refl, sym, ap, ◌∙◌, subst, arith, length-append, append_assoc}
use Rattle.std.specs.Prelude.{IfOk, IfSome}
use Rattle.std.specs.List.{prefix_len}
use Rattle.std.proofs.lemmas.Bool.{ltb-true, ltb-false}
use Rattle.std.proofs.lemmas.List.{drop_at}
use Rattle.grammar.specs.Whole.{Bad, Over}
use Rattle.nl_base.specs.declared.place.Place.{Place}
use Rattle.nl_base.specs.Place.{place_after, place_past}
use Rattle.nl_base.specs.declared.fault.TextFault.{TextFault}
use Rattle.nl_base.specs.declared.fault.ReadError.{ReadError}
use Rattle.nl_base.specs.declared.fault.ReadError.TheVariants.{Text, ReadFault, TooLong, NoMemory, Spent}
use Rattle.nl_base.proofs.Places.{place_past-append}
use Rattle.nl_bytes.specs.declared.class.Class.TheVariants.{VerilogSpace, LineByte}
use Rattle.nl_bytes.specs.declared.halt.Halt.{Halt}
use Rattle.nl_bytes.specs.declared.bytes.TheConstants.{LIMIT}
use Rattle.nl_bytes.specs.Halts.{error_of}
use Rattle.nl_bytes.specs.Classes.{AreIn, is_line_byte}
use Rattle.nl_bytes.specs.Bytes.{Window, Uses, Skips, IsAhead, input, first, given}
use Rattle.nl_bytes.proofs.Uses.{Uses-trans, Uses-none, offset_grows}
use Rattle.nl_bytes.proofs.Known.{Uses-known, IsAhead-known}
use Rattle.nl_bytes.proofs.Limited.{token_late, token_near, fault_late, fault_near, end_near, told_by, halt_told}
use Rattle.nl_bytes.specs.Tokens.{Ahead, follow, only_end, no_token, limited, Tells, TellsKnown, Shortens, UsedUp, known_ahead, FoundUnseen, Finds, UsesTo, EndsAt}
use Rattle.vlog_tokens.specs.declared.item.Item.{Item}
use Rattle.vlog_tokens.specs.declared.item.Item.TheVariants.{Blank, Line, Token}
use Rattle.vlog_tokens.specs.declared.item.Spot.{Spot}
use Rattle.vlog_tokens.specs.declared.token.VFound.{VFound}
use Rattle.vlog_tokens.specs.declared.token.VToken.{VToken}
use Rattle.nl_bytes.specs.Flaws.{Piece, Flaw, fault_at, refusal}
use Rattle.vlog_tokens.specs.Spelling.{item_at, item_by, start_of}
use Rattle.vlog_tokens.specs.Language.{tokens_from, then_items, then_tokens, with_line, stop_of, stream_from, vlog}
use Rattle.vlog_tokens.specs.Parts.{Answers, GivesSpot, Reads}
use Rattle.vlog_tokens.specs.Finding.{Passed, Passes, found_or_late}
use Rattle.nl_base.specs.declared.fault.Reason.TheVariants.{BadByte}
use Rattle.vlog_tokens.specs.declared.start.Start.{Start}
use Rattle.vlog_tokens.specs.declared.start.Start.TheVariants.{Other}
use Rattle.nl_bytes.proofs.Readers.{unseen_after}
use Rattle.vlog_tokens.proofs.Parts.{refusal_answers, refusal_reads, failed_of}
use Rattle.vlog_tokens.proofs.Scanning.{front_of, none_of}
use Rattle.vlog_tokens.proofs.Within.{IsWithin, item_within}
use Rattle.vlog_tokens.proofs.Passing.{tokens_space, tokens_item, tokens_end, after_bytes, late_from, late_after, line_within}

-- ---- what is told

-- what was told of the tokens ahead
abbrev Told : Window → Window → Option (List ℕ) → Option (List ℕ) → Result (Option VFound) ReadError → Type 0
Told old new l l' r = TellsKnown (known_ahead vlog old l) r new (known_ahead vlog new l')

-- what is told where the source tells its bytes
told_of : {old new : Window} {l l' : Option (List ℕ)} {used : List ℕ} → Uses old new l l' used → (r : Result (Option VFound) ReadError)
    → ((bs rest : List ℕ) → input old l ≡ Some bs → input new l' ≡ Some rest → bs ≡ used ++ rest → Tells (stream_from old.place bs) r new (stream_from new.place rest)) → Told old new l l' r
told_of {old} {new} u r h = told_by (stream_from old.place) (stream_from new.place) r u h

-- after white space the same is told
told_after : (r : Result (Option VFound) ReadError) {old mid new : Window} {l m l' : Option (List ℕ)} {used : List ℕ} → (t : Passes old mid l m) → (u : Uses mid new m l' used)
    → ((bs rest : List ℕ) → input mid m ≡ Some bs → input new l' ≡ Some rest → bs ≡ used ++ rest → Tells (stream_from mid.place bs) r new (stream_from new.place rest)) → Told old new l l' r
told_after r {old} {mid} {new} {l} {m} {l'} {used} t u h = told_of (Uses-trans old mid new l m l' t.used used t.uses u) r (λ bs rest known new_known parts.
    let k = Uses-known old mid l m t.used bs t.uses known in
    let j = Uses-known mid new m l' used k.0 u k.1 in
    let same : j.0 ≡ rest = some_is j.0 rest (sym j.1 ∙ new_known) in
    subst (λ (s : Ahead VFound). Tells s r new (stream_from new.place rest)) (sym (t.same bs k.0 known k.1)) (h k.0 rest k.1 new_known (j.2 ∙ ap (λ (xs : List ℕ). used ++ xs) same)))
  where
    some_is : (y z : List ℕ) → Some y ≡ Some z → y ≡ z
    some_is y z e = cc

-- ---- white space

pub passes_none : (w : Window) (l : Option (List ℕ)) → Passes w w l l
passes_none w l = record { used = []; uses = Uses-none w l; same = λ bs rest known new_known. ap (λ (xs : List ℕ). stream_from w.place xs) (some_is bs rest (sym known ∙ new_known)) }
  where
    some_is : (y z : List ℕ) → Some y ≡ Some z → y ≡ z
    some_is y z e = cc

pub passes_then : {a b c : Window} {l m n : Option (List ℕ)} → Passes a b l m → Passes b c m n → Passes a c l n
passes_then {a} {b} {c} {l} {m} {n} f t = record {
  used = f.used ++ t.used;
  uses = Uses-trans a b c l m n f.used t.used f.uses t.uses;
  same = λ bs rest known new_known. let k = Uses-known a b l m f.used bs f.uses known in f.same bs k.0 known k.1 ∙ t.same k.0 rest k.1 new_known;
}

passes_by : {a b : Window} {l m : Option (List ℕ)} {used : List ℕ} → Uses a b l m used → ((rest : List ℕ) → input b m ≡ Some rest → stream_from a.place (used ++ rest) ≡ stream_from b.place rest) → Passes a b l m
passes_by {a} {b} {l} {m} {used} u h = record {
  used = used;
  uses = u;
  same = λ bs rest known new_known.
      let k = Uses-known a b l m used bs u known in
      let same : k.0 ≡ rest = some_is k.0 rest (sym k.1 ∙ new_known) in
      ap (λ (xs : List ℕ). stream_from a.place xs) (k.2 ∙ ap (λ (xs : List ℕ). used ++ xs) same) ∙ h rest new_known;
}
  where
    some_is : (y z : List ℕ) → Some y ≡ Some z → y ≡ z
    some_is y z e = cc

pub passes_space : {a b : Window} {l m : Option (List ℕ)} {r : Result (Option ℕ) Halt} → Skips VerilogSpace a b l m r → Passes a b l m
unfolding stream_from
passes_space {a} {b} {l} {m} {r} s = passes_by s.uses (λ rest known. ap (limited stop_of) (tokens_space a.place s.used rest s.each ∙ ap (λ (q : Place). tokens_from 0 q rest) (sym s.uses.place)))

-- ---- items

abbrev After : Place → ℕ → List ℕ → ℕ → Ahead VFound
After p b tail count = tokens_from (count - 1) (place_after p b) tail

stream_item : (p : Place) (b : ℕ) (tail : List ℕ) → stream_from p (b ∷ tail) ≡ limited stop_of (then_items p (b ∷ tail) (item_at b tail) (After p b tail))
unfolding stream_from
stream_item p b tail = ap (limited stop_of) (tokens_item p b tail)

-- an item was read, where b is the byte ahead
spelled_at : (p : Place) {bs : List ℕ} (used : List ℕ) (r : Result Spot ReadError) (b : ℕ) (tail : List ℕ) → bs ≡ b ∷ tail → Answers p bs (GivesSpot p used) (item_by (start_of b) b bs) r → Answers p (b ∷ tail) (GivesSpot p used) (item_at b tail) r
unfolding item_at
spelled_at p {bs} used r b tail e h = subst (λ (xs : List ℕ). Answers p xs (GivesSpot p used) (item_by (start_of b) b xs) r) e h

told_late : (item : Item) (p : Place) (b : ℕ) (tail : List ℕ) (count seen : ℕ) → count ≤ suc (length tail) → LIMIT + 1 ≤ p.offset + count → LIMIT + 1 ≤ p.offset + seen
    → limited stop_of (then_tokens item p (b ∷ tail) count seen (After p b tail)) ≡ no_token VFound Over
told_late Blank p b tail count seen le late far = late_after p b tail count le late
told_late Line p b tail count seen le late far = let w = line_within count (b ∷ tail) le in late_after p b tail (with_line count (b ∷ tail)) w.0 (omega (arith, w.1))
told_late (Token token) p b tail count seen le late far =
    let k : LIMIT < p.offset + seen = omega (arith, far) in token_late stop_of (record { place = p; stop = p.offset + seen; token = token }) (After p b tail count) k

item_error : (p : Place) (b : ℕ) (tail used : List ℕ) (x : Result (Piece Item) Flaw) (e : ReadError) (now : Window) (t : Ahead VFound) → IsWithin (suc (length tail)) x → Answers {B = Spot} p (b ∷ tail) (GivesSpot p used) x (Err e)
    → Tells (limited stop_of (then_items p (b ∷ tail) x (After p b tail))) (Err e) now t
item_error p b tail used (Ok piece) (Text f) now t within h = absurd h
item_error p b tail used (Err f) (Text fault) now t within h = fault_near stop_of (fault_at p (b ∷ tail) f) h.1 ∙ ap (λ (z : TextFault). no_token VFound (Bad z)) (sym h.0)
item_error p b tail used (Ok piece) TooLong now t within h = told_late piece.value p b tail piece.count piece.seen within.0 h.0 h.1
item_error p b tail used (Err f) TooLong now t within h = let k : LIMIT < p.offset + f.seen = omega (arith, h) in fault_late stop_of (fault_at p (b ∷ tail) f) k
item_error p b tail used x ReadFault now t within h = tt
item_error p b tail used x NoMemory now t within h = tt
item_error p b tail used (Ok piece) Spent now t within h = absurd h
item_error p b tail used (Err f) Spent now t within h = absurd h

pub finds_err : {old mid new : Window} {l m l' : Option (List ℕ)} {b : ℕ} {e : ReadError} → Passes old mid l m → IsAhead mid m (Some b) → Reads (item_by (start_of b) b) mid new m l' (Err e) → Finds vlog old new l l' (Err e)
finds_err {old} {mid} {new} {l} {m} {l'} {b} {e} p ahead t = record {
  used = p.used ++ t.used;
  uses = Uses-trans old mid new l m l' p.used t.used p.uses t.uses;
  told = told_after (Err e) p t.uses (λ bs rest known new_known parts.
      let f = front_of bs b (IsAhead-known mid m (Some b) bs ahead known) in
      let answer = spelled_at mid.place t.used (Err e) b f.0 f.1 (t.answer bs known) in
      subst (λ (s : Ahead VFound). Tells s (Err e) new (stream_from new.place rest)) (sym (ap (stream_from mid.place) f.1 ∙ stream_item mid.place b f.0))
      (item_error mid.place b f.0 t.used (item_at b f.0) e new (stream_from new.place rest) (item_within b f.0) answer));
  shorter = tt;
  used_to = tt;
  ended = tt;
  unseen = tt;
  used_up = t.used_up;
}

-- the piece that an item gives
record Given (p : Place) (b : ℕ) (tail used : List ℕ) (x : Spot) : Type 0 where
  pub piece : Piece Item
  pub is : item_at b tail ≡ Ok piece
  pub spot : x ≡ record { item = piece.value; stop = p.offset + piece.seen }
  pub count : piece.count ≡ length used

given_of : (p : Place) (b : ℕ) (tail used : List ℕ) (x : Spot) (r : Result (Piece Item) Flaw) → item_at b tail ≡ r → Answers p (b ∷ tail) (GivesSpot p used) r (Ok x) → Given p b tail used x
given_of p b tail used x (Ok piece) e h = record { piece = piece; is = e; spot = h.0; count = h.1 }
given_of p b tail used x (Err f) e h = absurd h

-- an item, and where the reader stands behind it
record Stands (mid new : Window) (m l' : Option (List ℕ)) (b : ℕ) (used : List ℕ) (x : Spot) (bs rest : List ℕ) : Type 0 where
  pub tail : List ℕ
  pub front : bs ≡ b ∷ tail
  pub given : Given mid.place b tail used x
  pub next : tokens_from 0 new.place rest ≡ After mid.place b tail (length used)

stands : {mid new : Window} {m l' : Option (List ℕ)} {b : ℕ} {x : Spot} → IsAhead mid m (Some b) → (t : Reads (item_by (start_of b) b) mid new m l' (Ok x)) → (bs rest : List ℕ) → input mid m ≡ Some bs → bs ≡ t.used ++ rest → Stands mid new m l' b t.used x bs rest
stands {mid} {new} {m} {l'} {b} {x} ahead t bs rest known parts =
    let f = front_of bs b (IsAhead-known mid m (Some b) bs ahead known) in
    record {
      tail = f.0;
      front = f.1;
      given = given_of mid.place b f.0 t.used x (item_at b f.0) refl (spelled_at mid.place t.used (Ok x) b f.0 f.1 (t.answer bs known));
      next = after_bytes mid.place new.place b f.0 t.used rest t.some (sym f.1 ∙ parts) t.uses.place;
    }

-- the stream at an item that was given
stream_given : {p : Place} {b : ℕ} {tail used : List ℕ} {x : Spot} (k : Given p b tail used x) (item : Item) → x.item ≡ item → stream_from p (b ∷ tail) ≡ limited stop_of (then_tokens item p (b ∷ tail) (length used) k.piece.seen (After p b tail))
stream_given {p} {b} {tail} {used} {x} k item is =
    let value : k.piece.value ≡ item = sym (ap (λ (y : Spot). y.item) k.spot) ∙ is in
    stream_item p b tail ∙ ap (λ (r : Result (Piece Item) Flaw). limited stop_of (then_items p (b ∷ tail) r (After p b tail))) k.is
    ∙ ap (λ (y : Item). limited stop_of (then_tokens y p (b ∷ tail) k.piece.count k.piece.seen (After p b tail))) value ∙ ap (λ (n : ℕ). limited stop_of (then_tokens item p (b ∷ tail) n k.piece.seen (After p b tail))) k.count

token_passed : (item : Item) (token : VToken) (c d : Window) (n o : Option (List ℕ)) → Passed item c d n o (Ok (Some token)) → (item ≡ Token token) × (d ≡ c) × (o ≡ n)
token_passed Blank token c d n o h = absurd cc
token_passed Line token c d n o h = absurd cc
token_passed (Token t) token c d n o h = let same : t ≡ token = cc in (ap Token same, h.0, h.1)

token_told : (p : Place) (stop seen : ℕ) (token : VToken) (s t : Ahead VFound) (r : Result (Option VFound) ReadError) (now : Window) → r ≡ found_or_late p stop token → stop ≡ p.offset + seen → t ≡ limited stop_of s
    → Tells (limited stop_of (follow (record { place = p; stop = p.offset + seen; token = token }) s)) r now t
token_told p stop seen token s t r now r-is at t-is = subst (λ (z : Result (Option VFound) ReadError). Tells (limited stop_of (follow (found (p.offset + seen)) s)) z now t) (sym r-is) (go (ltb LIMIT stop) refl)
  where
    found : ℕ → VFound
    found n = record { place = p; stop = n; token = token }

    go : (b : Bool) → ltb LIMIT stop ≡ b → Tells (limited stop_of (follow (found (p.offset + seen)) s)) (cond b (Err TooLong) (Ok (Some (found stop)))) now t
    go true e = let late : LIMIT < p.offset + seen = omega (arith, ltb-true LIMIT stop e, at) in token_late stop_of (found (p.offset + seen)) s late
    go false e =
        let near : p.offset + seen ≤ LIMIT = omega (arith, ltb-false LIMIT stop e, at) in
        token_near stop_of (found (p.offset + seen)) s near ∙ ap (λ (n : ℕ). follow (found n) (limited stop_of s)) (sym at) ∙ ap (follow (found stop)) (sym t-is)

stream_is : (q : Place) (rest : List ℕ) → stream_from q rest ≡ limited stop_of (tokens_from 0 q rest)
unfolding stream_from
stream_is q rest = refl

-- what holds of a token that was found
abbrev Facts : Result (Option VFound) ReadError → Window → Window → Option (List ℕ) → Type 0
Facts r old new l' = IfOk r (λ x. Shortens x old new) × IfOk r (λ x. UsesTo vlog x new) × IfOk r (λ x. EndsAt x l') × IfOk r (λ x. FoundUnseen vlog x old new) × UsedUp r new

found_facts : (p : Place) (stop : ℕ) (token : VToken) (r : Result (Option VFound) ReadError) (old new : Window) (l' : Option (List ℕ)) → r ≡ found_or_late p stop token → old.place.offset < new.place.offset → new.place.offset ≤ stop
    → (stop ≤ given old → given new ≡ given old) → Facts r old new l'
found_facts p stop token r old new l' r-is moved to shown = subst (λ (z : Result (Option VFound) ReadError). Facts z old new l') (sym r-is) (go (ltb LIMIT stop) refl)
  where
    go : (b : Bool) → ltb LIMIT stop ≡ b → Facts (cond b (Err TooLong) (Ok (Some (record { place = p; stop = stop; token = token })))) old new l'
    go true e = (tt, tt, tt, tt, λ is. absurd cc)
    go false e = ((moved, omega (arith, ltb-false LIMIT stop e, to)), to, tt, shown, tt)

pub finds_token : (token : VToken) {old mid new d : Window} {l m n o : Option (List ℕ)} {b : ℕ} {x : Spot} → Passes old mid l m → IsAhead mid m (Some b) → Reads (item_by (start_of b) b) mid new m n (Ok x) → Passed x.item new d n o (Ok (Some token))
    → (p : Place) → p ≡ mid.place → (r : Result (Option VFound) ReadError) → r ≡ found_or_late p x.stop token → new.place.offset ≤ x.stop → Finds vlog old d l o r
finds_token token {old} {mid} {new} {d} {l} {m} {n} {o} {b} {x} passes ahead t passed p p-is r r-is to =
    let same = token_passed x.item token new d n o passed in
    let r-mid : r ≡ found_or_late mid.place x.stop token = r-is ∙ ap (λ (q : Place). found_or_late q x.stop token) p-is in
    let moved : old.place.offset < new.place.offset = omega (arith, offset_grows passes.uses, offset_grows t.uses, t.some) in
    let shown = unseen_after old mid new x.stop passes.uses.lazy (omega (arith, offset_grows t.uses, t.some, to)) (t.unseen token same.0) in
    let facts = found_facts mid.place x.stop token r old new n r-mid moved to shown in
    let finds : Finds vlog old new l n r = record {
      used = passes.used ++ t.used;
      uses = Uses-trans old mid new l m n passes.used t.used passes.uses t.uses;
      told = told_after r passes t.uses (λ bs rest known new_known parts.
          let s = stands ahead t bs rest known parts in
          let stop : x.stop ≡ mid.place.offset + s.given.piece.seen = ap (λ (y : Spot). y.stop) s.given.spot in
          subst (λ (z : Ahead VFound). Tells z r new (stream_from new.place rest)) (sym (ap (stream_from mid.place) s.front ∙ stream_given s.given (Token token) same.0))
          (token_told mid.place x.stop s.given.piece.seen token (After mid.place b s.tail (length t.used)) (stream_from new.place rest) r new r-mid stop (stream_is new.place rest ∙ ap (limited stop_of) s.next)));
      shorter = facts.0;
      used_to = facts.1;
      ended = facts.2;
      unseen = facts.3;
      used_up = facts.4;
    } in
    subst (λ (q : Option (List ℕ)). Finds vlog old d l q r) (sym same.2) (subst (λ (w : Window). Finds vlog old w l n r) (sym same.1) finds)

-- ---- white space among the items

line_run : (used rest : List ℕ) → AreIn LineByte used → prefix_len is_line_byte (used ++ rest) ≡ length used + prefix_len is_line_byte rest
line_run [] rest all = omega arith
line_run (b ∷ bs) rest all = rw all.0 (omega (arith, line_run bs rest all.1))

line_stops : (rest : List ℕ) (next : Option ℕ) → first rest ≡ next → IfSome next (λ b. is_line_byte b ≡ false) → prefix_len is_line_byte rest ≡ 0
line_stops [] next e h = refl
line_stops (b ∷ bs) next e h = let p : is_line_byte b ≡ false = subst (λ (o : Option ℕ). IfSome o (λ b. is_line_byte b ≡ false)) (sym e) h in rw p refl

-- the reader stands behind an item and so many bytes of its line
behind : {mid new d : Window} {m n o : Option (List ℕ)} {b : ℕ} {x : Spot} {line : List ℕ} → IsAhead mid m (Some b) → (t : Reads (item_by (start_of b) b) mid new m n (Ok x)) → Uses new d n o line → (bs rest : List ℕ) → input mid m ≡ Some bs → input d o ≡ Some rest
    → Stands mid new m n b t.used x bs (line ++ rest)
behind {mid} {new} {d} {m} {n} {o} {b} {x} {line} ahead t u bs rest known end_known =
    let k = Uses-known mid new m n t.used bs t.uses known in
    let j = Uses-known new d n o line k.0 u k.1 in
    let same : j.0 ≡ rest = some_is j.0 rest (sym j.1 ∙ end_known) in
    stands ahead t bs (line ++ rest) known (k.2 ∙ ap (λ (xs : List ℕ). t.used ++ xs) (j.2 ∙ ap (λ (xs : List ℕ). line ++ xs) same))
  where
    some_is : (y z : List ℕ) → Some y ≡ Some z → y ≡ z
    some_is y z e = cc

blank_same : {mid new d : Window} {m n o : Option (List ℕ)} {b : ℕ} {x : Spot} (item : Item) → x.item ≡ item → Passed item new d n o (Ok None) → IsAhead mid m (Some b) → Reads (item_by (start_of b) b) mid new m n (Ok x) → Passes mid d m o
blank_same {mid} {new} {d} {m} {n} {o} {b} {x} (Token token) is passed ahead t = absurd cc
blank_same {mid} {new} {d} {m} {n} {o} {b} {x} Blank is passed ahead t =
    let here : Passes mid new m n = record {
      used = t.used;
      uses = t.uses;
      same = λ bs rest known new_known.
          let s = behind ahead t (Uses-none new n) bs rest known new_known in
          ap (stream_from mid.place) s.front ∙ stream_given s.given Blank is ∙ ap (limited stop_of) (sym s.next) ∙ sym (stream_is new.place rest);
    } in
    subst (λ (q : Option (List ℕ)). Passes mid d m q) (sym passed.1) (subst (λ (w : Window). Passes mid w m n) (sym passed.0) here)
blank_same {mid} {new} {d} {m} {n} {o} {b} {x} Line is passed ahead t =
    let skips = passed.1 in
    record {
      used = t.used ++ skips.used;
      uses = Uses-trans mid new d m n o t.used skips.used t.uses skips.uses;
      same = λ bs rest known end_known.
          let s = behind ahead t skips.uses bs rest known end_known in
          let k = Uses-known mid new m n t.used bs t.uses known in
          let j = Uses-known new d n o skips.used k.0 skips.uses k.1 in
          let same : j.0 ≡ rest = some_is j.0 rest (sym j.1 ∙ end_known) in
          let all : b ∷ s.tail ≡ t.used ++ (skips.used ++ rest) = sym s.front ∙ k.2 ∙ ap (λ (xs : List ℕ). t.used ++ xs) (j.2 ∙ ap (λ (xs : List ℕ). skips.used ++ xs) same) in
          let run : prefix_len is_line_byte (skips.used ++ rest) ≡ length skips.used =
          omega (arith, line_run skips.used rest skips.each, line_stops rest passed.0 (IsAhead-known d o passed.0 rest skips.ahead end_known) skips.longest) in
          let left : drop (length t.used) (b ∷ s.tail) ≡ skips.used ++ rest = ap (drop (length t.used)) all ∙ drop_at t.used (skips.used ++ rest) (length t.used) refl in
          let count : with_line (length t.used) (b ∷ s.tail) ≡ length (t.used ++ skips.used) = omega (arith, run, ap (prefix_len is_line_byte) left, length-append t.used skips.used) in
          let whole = after_bytes mid.place d.place b s.tail (t.used ++ skips.used) rest (omega (arith, t.some, length-append t.used skips.used)) (all ∙ sym (append_assoc t.used skips.used rest))
          (skips.uses.place ∙ ap (λ (q : Place). place_past q skips.used) t.uses.place ∙ sym (place_past-append mid.place t.used skips.used)) in
          ap (stream_from mid.place) s.front ∙ stream_given s.given Line is ∙ ap (λ (i : ℕ). limited stop_of (After mid.place b s.tail i)) count ∙ ap (limited stop_of) (sym whole) ∙ sym (stream_is d.place rest);
    }
  where
    some_is : (y z : List ℕ) → Some y ≡ Some z → y ≡ z
    some_is y z e = cc

pub passes_blank : {mid new d : Window} {m n o : Option (List ℕ)} {b : ℕ} {x : Spot} → IsAhead mid m (Some b) → Reads (item_by (start_of b) b) mid new m n (Ok x) → Passed x.item new d n o (Ok None) → Passes mid d m o
passes_blank {mid} {new} {d} {m} {n} {o} {b} {x} ahead t passed = blank_same x.item refl passed ahead t

-- ---- halts and the end

abbrev pub at_err : Halt → Result (Option ℕ) Halt
at_err h = Err h

pub finds_halted : {old mid new : Window} {l m n : Option (List ℕ)} {h : Halt} → Passes old mid l m → Skips VerilogSpace mid new m n (Err h) → Finds vlog old new l n (Err (error_of h))
finds_halted {old} {mid} {new} {l} {m} {n} {h} p s =
    let all = passes_then p (passes_space s) in
    record {
      used = all.used;
      uses = all.uses;
      told = told_of all.uses (Err (error_of h)) (λ bs rest known new_known parts. halt_told h (stream_from old.place bs) new (stream_from new.place rest)
          (λ is. all.same bs rest known new_known ∙ stream_is new.place rest ∙ late_from 0 new.place rest (s.too_long (ap at_err is))));
      shorter = tt;
      used_to = tt;
      ended = tt;
      unseen = tt;
      used_up = λ is. s.used_up (ap at_err (failed_of h is));
    }

line_halted : (item : Item) (new d : Window) (n o : Option (List ℕ)) (h : Halt) → Passed item new d n o (Err h) → (item ≡ Line) × Skips LineByte new d n o (Err h)
line_halted Blank new d n o h passed = absurd cc
line_halted (Token token) new d n o h passed = absurd cc
line_halted Line new d n o h passed = (refl, passed)

pub finds_line_halted : (h : Halt) {old mid new d : Window} {l m n o : Option (List ℕ)} {b : ℕ} {x : Spot} → Passes old mid l m → IsAhead mid m (Some b) → Reads (item_by (start_of b) b) mid new m n (Ok x) → Passed x.item new d n o (Err h)
    → Finds vlog old d l o (Err (error_of h))
finds_line_halted h {old} {mid} {new} {d} {l} {m} {n} {o} {b} {x} p ahead t passed =
    let line = line_halted x.item new d n o h passed in
    let skips = line.1 in
    let both = Uses-trans mid new d m n o t.used skips.used t.uses skips.uses in
    record {
      used = p.used ++ (t.used ++ skips.used);
      uses = Uses-trans old mid d l m o p.used (t.used ++ skips.used) p.uses both;
      told = told_after (Err (error_of h)) p both (λ bs rest known end_known parts. halt_told h (stream_from mid.place bs) d (stream_from d.place rest) (λ is.
          let late = skips.too_long (ap at_err is) in
          let s = behind ahead t skips.uses bs rest known end_known in
          let all : b ∷ s.tail ≡ t.used ++ (skips.used ++ rest) = sym s.front ∙ parts ∙ append_assoc t.used skips.used rest in
          let left : drop (length t.used) (b ∷ s.tail) ≡ skips.used ++ rest = ap (drop (length t.used)) all ∙ drop_at t.used (skips.used ++ rest) (length t.used) refl in
          let within : length t.used ≤ length (b ∷ s.tail) = omega (arith, ap length all, length-append t.used (skips.used ++ rest)) in
          let w = line_within (length t.used) (b ∷ s.tail) within in
          let far : LIMIT + 1 ≤ mid.place.offset + with_line (length t.used) (b ∷ s.tail) =
          omega (arith, late, offset_grows both, length-append t.used skips.used, ap (prefix_len is_line_byte) left, line_run skips.used rest skips.each) in
          ap (stream_from mid.place) s.front ∙ stream_given s.given Line line.0 ∙ late_after mid.place b s.tail (with_line (length t.used) (b ∷ s.tail)) w.0 far));
      shorter = tt;
      used_to = tt;
      ended = tt;
      unseen = tt;
      used_up = λ is. skips.used_up (ap at_err (failed_of h is));
    }

pub finds_end : {old mid new : Window} {l m n : Option (List ℕ)} → Passes old mid l m → Skips VerilogSpace mid new m n (Ok None) → Finds vlog old new l n (Ok None)
finds_end {old} {mid} {new} {l} {m} {n} p s =
    let all = passes_then p (passes_space s) in
    record {
      used = all.used;
      uses = all.uses;
      told = told_of all.uses (Ok None) (λ bs rest known new_known parts.
          let e = none_of rest (IsAhead-known new n None rest s.ahead new_known) in
          let end_of : stream_from new.place rest ≡ only_end VFound new.place = stream_is new.place rest ∙ ap (λ (xs : List ℕ). limited stop_of (tokens_from 0 new.place xs)) e ∙ ap (limited stop_of) (tokens_end new.place) ∙ end_near stop_of new.place s.within in
          let same = all.same bs rest known new_known in
          (same ∙ end_of, sym same));
      shorter = tt;
      used_to = tt;
      ended = s.ahead.1;
      unseen = tt;
      used_up = tt;
    }

-- a byte that begins nothing
pub other_read : (w : Window) (l : Option (List ℕ)) (b : ℕ) → start_of b ≡ Other → Reads (item_by (start_of b) b) w w l l (Err (refusal w.place (w.place.offset + 1) BadByte))
other_read w l b other = record {
  used = [];
  uses = Uses-none w l;
  some = tt;
  answer = λ bs known. subst (λ (s : Start). Answers w.place bs (GivesSpot w.place []) (item_by s b bs) (Err (refusal w.place (w.place.offset + 1) BadByte))) (sym other)
      (refusal_answers w.place bs (GivesSpot w.place []) BadByte 0 1 w.place (w.place.offset + 1) refl refl);
  unseen = tt;
  used_up = λ is. absurd (refusal_reads w.place (w.place.offset + 1) BadByte is);
}

passed_moves : (item : Item) (new d : Window) (n o : Option (List ℕ)) → Passed item new d n o (Ok None) → new.place.offset ≤ d.place.offset
passed_moves (Token token) new d n o passed = absurd cc
passed_moves Blank new d n o passed = omega (arith, ap (λ (w : Window). w.place.offset) passed.0)
passed_moves Line new d n o passed = omega (arith, offset_grows passed.1.uses)

-- white space has bytes
pub blank_moves : {spelled : List ℕ → Result (Piece Item) Flaw} {mid new : Window} {m n : Option (List ℕ)} {x : Spot} → Reads spelled mid new m n (Ok x) → (d : Window) (o : Option (List ℕ)) → Passed x.item new d n o (Ok None) → mid.place.offset < d.place.offset
blank_moves {spelled} {mid} {new} {m} {n} {x} t d o passed = omega (arith, offset_grows t.uses, t.some, passed_moves x.item new d n o passed)
