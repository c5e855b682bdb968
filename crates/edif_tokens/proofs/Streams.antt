-- The stream of tokens, one token after another.
use Rattle.std.proofs.Common.{◌≡◌, ℕ, suc, ◌+◌, ◌-◌, ◌<◌, ◌≤◌, Bool, true, false, cond, ltb, List, [], ◌∷◌, ◌++◌, length, Option, Some, None, Result, Ok, Err, refl, sym, ap, ◌∙◌, subst, arith}
use Rattle.std.specs.Prelude.{OnOk}
use Rattle.std.proofs.lemmas.Bool.{le-ltb, ltb-true, ltb-false}
use Rattle.grammar.specs.Whole.{Bad, Over}
use Rattle.nl_base.specs.declared.place.Place.{Place}
use Rattle.nl_base.specs.Place.{place_after, place_past}
use Rattle.nl_base.specs.declared.fault.TextFault.{TextFault}
use Rattle.nl_base.specs.declared.fault.ReadError.{ReadError}
use Rattle.nl_base.specs.declared.fault.ReadError.TheVariants.{Text, ReadFault, TooLong, NoMemory, Spent}
use Rattle.nl_bytes.specs.declared.class.Class.TheVariants.{Space}
use Rattle.nl_bytes.specs.declared.halt.Halt.{Halt}
use Rattle.nl_bytes.specs.declared.bytes.TheConstants.{LIMIT}
use Rattle.nl_bytes.specs.Halts.{error_of}
use Rattle.nl_bytes.specs.Classes.{AreIn, is_space}
use Rattle.nl_bytes.specs.Bytes.{Window, Skips, first}
use Rattle.nl_bytes.proofs.Readers.{unseen_after}
use Rattle.nl_bytes.proofs.Uses.{Uses-trans, offset_grows}
use Rattle.nl_bytes.proofs.Known.{Uses-known, IsAhead-known}
use Rattle.nl_bytes.proofs.Limited.{token_late, token_near, fault_late, fault_near, end_late, end_near, told_by, halt_told}
use Rattle.nl_bytes.specs.Tokens.{Ahead, follow, only_end, no_token, limited, Tells, TellsKnown, Finds, known_ahead}
use Rattle.edif_tokens.specs.declared.token.Found.{Found}
use Rattle.edif_values.specs.declared.token.Token.{Token}
use Rattle.edif_tokens.specs.Spelling.{Piece, Flaw, token_at, token_by, start_of}
use Rattle.nl_bytes.specs.Flaws.{fault_at}
use Rattle.edif_tokens.specs.Language.{edif, stop_of, stream_from, tokens_from, then_tokens, found_at}
use Rattle.edif_tokens.specs.Scan.{Answers, Reads}
use Rattle.edif_tokens.proofs.Spans.{halted_used_up}

-- white space is passed over
tokens-space : (p : Place) (used rest : List ℕ) → AreIn Space used → tokens_from 0 p (used ++ rest) ≡ tokens_from 0 (place_past p used) rest
unfolding tokens_from
tokens-space p [] rest all = refl
tokens-space p (b ∷ bs) rest all = rw all.0 (tokens-space (place_after p b) bs rest all.1)

-- the bytes of a token are passed over
tokens-skip : (p : Place) (used rest : List ℕ) → tokens_from (length used) p (used ++ rest) ≡ tokens_from 0 (place_past p used) rest
unfolding tokens_from
tokens-skip p [] rest = refl
tokens-skip p (b ∷ bs) rest = tokens-skip (place_after p b) bs rest

tokens-token : (p : Place) (b : ℕ) (bs : List ℕ) → is_space b ≡ false → tokens_from 0 p (b ∷ bs) ≡ then_tokens p (b ∷ bs) (token_at b bs) (λ count. tokens_from (count - 1) (place_after p b) bs)
unfolding tokens_from
tokens-token p b bs e = rw e refl

tokens-end : (p : Place) → tokens_from 0 p [] ≡ only_end Found p
unfolding tokens_from
tokens-end p = refl

after_token : (p q : Place) (b : ℕ) (tail used rest : List ℕ) → 0 < length used → b ∷ tail ≡ used ++ rest → q ≡ place_past p used
    → tokens_from 0 q rest ≡ tokens_from (length used - 1) (place_after p b) tail
after_token p q b tail [] rest some e at = absurd (omega arith)
after_token p q b tail (c ∷ u) rest some e at =
    let head : b ≡ c = cc in
    let same : tail ≡ u ++ rest = cc in
    let less : suc (length u) - 1 ≡ length u = omega arith in
    ap (λ (r : Place). tokens_from 0 r rest) (at ∙ ap (λ (x : ℕ). place_past (place_after p x) u) (sym head)) ∙ sym (tokens-skip (place_after p b) u rest)
    ∙ ap (λ (xs : List ℕ). tokens_from (length u) (place_after p b) xs) (sym same) ∙ ap (λ (n : ℕ). tokens_from n (place_after p b) tail) (sym less)

front_of : (bs : List ℕ) (b : ℕ) → first bs ≡ Some b → (tail : List ℕ) × (bs ≡ b ∷ tail)
front_of [] b e = absurd cc
front_of (c ∷ cs) b e = let h : c ≡ b = cc in (cs, ap (λ (x : ℕ). x ∷ cs) h)

none_of : (bs : List ℕ) → first bs ≡ None → bs ≡ []
none_of [] e = refl
none_of (c ∷ cs) e = absurd cc

-- what becomes of a token, of which the stop may be past the limit
abbrev pub finish : Result Found ReadError → Result (Option Found) ReadError
finish (Ok f) = cond (ltb LIMIT f.stop) (Err TooLong) (Ok (Some f))
finish (Err e) = Err e

abbrev GivesFound : Place → List ℕ → Piece Token → Found → Type 0
GivesFound p used piece f = (f ≡ found_at p piece) × (piece.count ≡ length used)

token_told : (p : Place) (bs used : List ℕ) (x : Result (Piece Token) Flaw) (r : Result Found ReadError) (after : ℕ → Ahead Found) (now : Window) (new : Ahead Found)
    → Answers p bs (GivesFound p used) x r → OnOk r (new ≡ limited stop_of (after (length used))) → Tells (limited stop_of (then_tokens p bs x after)) (finish r) now new
token_told p bs used (Ok piece) (Ok f) after now new h is = go (ltb LIMIT f.stop) refl
  where
    stop : f.stop ≡ p.offset + piece.seen
    stop = ap (λ (g : Found). g.stop) h.0

    go : (t : Bool) → ltb LIMIT f.stop ≡ t → Tells (limited stop_of (follow (found_at p piece) (after piece.count))) (cond t (Err TooLong) (Ok (Some f))) now new
    go true e = let late : LIMIT < p.offset + piece.seen = omega (arith, ltb-true LIMIT f.stop e, stop) in token_late stop_of (found_at p piece) (after piece.count) late
    go false e =
        let near : p.offset + piece.seen ≤ LIMIT = omega (arith, ltb-false LIMIT f.stop e, stop) in
        token_near stop_of (found_at p piece) (after piece.count) near ∙ ap (λ (g : Found). follow g (limited stop_of (after piece.count))) (sym h.0)
        ∙ ap (λ (n : ℕ). follow f (limited stop_of (after n))) h.1 ∙ ap (follow f) (sym is)
token_told p bs used (Err f) (Ok y) after now new h is = absurd h
token_told p bs used (Ok piece) (Err (Text t)) after now new h is = absurd h
token_told p bs used (Err f) (Err (Text t)) after now new h is = fault_near stop_of (fault_at p bs f) h.1 ∙ ap (λ (fault : TextFault). no_token Found (Bad fault)) (sym h.0)
token_told p bs used (Ok piece) (Err TooLong) after now new h is = token_late stop_of (found_at p piece) (after piece.count) h
token_told p bs used (Err f) (Err TooLong) after now new h is = fault_late stop_of (fault_at p bs f) h
token_told p bs used x (Err ReadFault) after now new h is = tt
token_told p bs used x (Err NoMemory) after now new h is = tt
token_told p bs used (Ok piece) (Err Spent) after now new h is = absurd h
token_told p bs used (Err f) (Err Spent) after now new h is = absurd h

on_ok : {T E P Q : Type 0} (r : Result T E) → (P → Q) → OnOk r P → OnOk r Q
on_ok (Ok x) f h = f h
on_ok (Err e) f h = tt

-- the tokens of the bytes from a place on, within the limit
abbrev within : Place → List ℕ → Ahead Found
within p bs = limited stop_of (tokens_from 0 p bs)

-- what was told of the tokens ahead
abbrev Told : Window → Window → Option (List ℕ) → Option (List ℕ) → Result (Option Found) ReadError → Type 0
Told old new l l' r = TellsKnown (known_ahead edif old l) r new (known_ahead edif new l')

-- white space, and then a token
told_token : {old mid new : Window} {l m l' : Option (List ℕ)} {b : ℕ} {r : Result Found ReadError}
    → Skips Space old mid l m (Ok (Some b)) → Reads (token_by (start_of b)) mid.place mid new m l' r → Told old new l l' (finish r)
unfolding token_at stream_from
told_token {old} {mid} {new} {l} {m} {l'} {b} {r} s t =
    let uses = Uses-trans old mid new l m l' s.used t.used s.uses t.uses in
    told_by (within old.place) (within new.place) (finish r) uses (λ bs rest known new_known parts.
    let k = Uses-known old mid l m s.used bs s.uses known in
    let j = Uses-known mid new m l' t.used k.0 t.uses k.1 in
    let same : j.0 ≡ rest = some_is j.0 rest (sym j.1 ∙ new_known) in
    let f = front_of k.0 b (IsAhead-known mid m (Some b) k.0 s.ahead k.1) in
    let after = λ (count : ℕ). tokens_from (count - 1) (place_after mid.place b) f.0 in
    let tokens : tokens_from 0 old.place bs ≡ then_tokens mid.place (b ∷ f.0) (token_at b f.0) after =
    ap (tokens_from 0 old.place) k.2 ∙ tokens-space old.place s.used k.0 s.each ∙ ap (λ (q : Place). tokens_from 0 q k.0) (sym s.uses.place)
    ∙ ap (tokens_from 0 mid.place) f.1 ∙ tokens-token mid.place b f.0 s.longest in
    let answer = subst (λ (xs : List ℕ). Answers mid.place xs (GivesFound mid.place t.used) (token_by (start_of b) xs) r) f.1 (t.answer k.0 k.1) in
    let new_is : OnOk r (within new.place j.0 ≡ limited stop_of (after (length t.used))) =
    on_ok r (λ some. ap (λ (s : Ahead Found). limited stop_of s) (after_token mid.place new.place b f.0 t.used j.0 some (sym f.1 ∙ j.2) t.uses.place)) t.some in
    let told = subst (λ (x : Ahead Found). Tells (limited stop_of x) (finish r) new (within new.place j.0)) (sym tokens)
    (token_told mid.place (b ∷ f.0) t.used (token_at b f.0) r after new (within new.place j.0) answer new_is) in
    subst (λ (xs : List ℕ). Tells (within old.place bs) (finish r) new (within new.place xs)) same told)
  where
    some_is : (y z : List ℕ) → Some y ≡ Some z → y ≡ z
    some_is y z e = cc

abbrev at_error : (A : Type 0) → ReadError → Result A ReadError
at_error A e = Err e

-- white space, and then what is no token
pub finds_refused : {old mid new : Window} {l m l' : Option (List ℕ)} {b : ℕ} {e : ReadError}
    → Skips Space old mid l m (Ok (Some b)) → Reads (token_by (start_of b)) mid.place mid new m l' (Err e) → Finds edif old new l l' (Err e)
finds_refused {old} {mid} {new} {l} {m} {l'} {b} {e} s t = record {
  used = s.used ++ t.used;
  uses = Uses-trans old mid new l m l' s.used t.used s.uses t.uses;
  told = told_token s t;
  shorter = tt;
  used_to = tt;
  ended = tt;
  unseen = tt;
  used_up = λ is. t.used_up (ap (at_error Found) is);
}

-- behind white space the same tokens are ahead
passed : {old new : Window} {l l' : Option (List ℕ)} {r : Result (Option ℕ) Halt} → (s : Skips Space old new l l' r) → (bs rest : List ℕ) → bs ≡ s.used ++ rest → within old.place bs ≡ within new.place rest
passed {old} {new} s bs rest parts = ap (within old.place) parts ∙ ap (λ (s : Ahead Found). limited stop_of s) (tokens-space old.place s.used rest s.each ∙ ap (λ (q : Place). tokens_from 0 q rest) (sym s.uses.place))

-- white space, and then the end
pub finds_end : {old new : Window} {l l' : Option (List ℕ)} → Skips Space old new l l' (Ok None) → Finds edif old new l l' (Ok None)
unfolding stream_from
finds_end {old} {new} {l} {l'} s = record {
  used = s.used;
  uses = s.uses;
  told = told_by (within old.place) (within new.place) (Ok None) s.uses (λ bs rest known new_known parts.
      let e = none_of rest (IsAhead-known new l' None rest s.ahead new_known) in
      let end_of : within new.place rest ≡ only_end Found new.place = ap (within new.place) e ∙ ap (λ (s : Ahead Found). limited stop_of s) (tokens-end new.place) ∙ end_near stop_of new.place s.within in
      let same : within old.place bs ≡ within new.place rest = passed s bs rest parts in
      (same ∙ end_of, sym same));
  shorter = tt;
  used_to = tt;
  ended = s.ahead.1;
  unseen = tt;
  used_up = tt;
}

pub finds_found : {old mid new : Window} {l m l' : Option (List ℕ)} {b : ℕ} {f : Found}
    → Skips Space old mid l m (Ok (Some b)) → Reads (token_by (start_of b)) mid.place mid new m l' (Ok f) → f.stop ≤ LIMIT → new.place.offset ≤ f.stop → Finds edif old new l l' (Ok (Some f))
finds_found {old} {mid} {new} {l} {m} {l'} {b} {f} s t le to = record {
  used = s.used ++ t.used;
  uses = Uses-trans old mid new l m l' s.used t.used s.uses t.uses;
  told = subst (λ (r : Result (Option Found) ReadError). Told old new l l' r) (rw (le-ltb LIMIT f.stop le) refl) (told_token s t);
  shorter = (omega (arith, offset_grows s.uses, offset_grows t.uses, t.some), omega (arith, to, le));
  used_to = to;
  ended = tt;
  unseen = unseen_after old mid new f.stop s.uses.lazy (omega (arith, offset_grows t.uses, t.some, to)) t.unseen;
  used_up = tt;
}

-- past the limit nothing has its stop within it
tokens-late : (p : Place) (bs : List ℕ) → LIMIT < p.offset → within p bs ≡ no_token Found Over
unfolding tokens_from
tokens-late p [] late = end_late stop_of p late
tokens-late p (b ∷ bs) late = go (is_space b) (tokens-late (place_after p b) bs (omega arith))
  where
    after : ℕ → Ahead Found
    after count = tokens_from (count - 1) (place_after p b) bs

    stops : (x : Result (Piece Token) Flaw) → limited stop_of (then_tokens p (b ∷ bs) x after) ≡ no_token Found Over
    stops (Ok piece) = let k : LIMIT < p.offset + piece.seen = omega arith in token_late stop_of (found_at p piece) (after piece.count) k
    stops (Err f) = let k : LIMIT < p.offset + f.seen = omega arith in fault_late stop_of (fault_at p (b ∷ bs) f) k

    go : (t : Bool) → within (place_after p b) bs ≡ no_token Found Over → limited stop_of (cond t (tokens_from 0 (place_after p b) bs) (then_tokens p (b ∷ bs) (token_at b bs) after)) ≡ no_token Found Over
    go true space = space
    go false space = stops (token_at b bs)

abbrev at_err : Halt → Result (Option ℕ) Halt
at_err h = Err h

pub finds_halted : {old new : Window} {l l' : Option (List ℕ)} {h : Halt} → Skips Space old new l l' (Err h) → Finds edif old new l l' (Err (error_of h))
unfolding stream_from
finds_halted {old} {new} {l} {l'} {h} s = record {
  used = s.used;
  uses = s.uses;
  told = told_by (within old.place) (within new.place) (Err (error_of h)) s.uses (λ bs rest known new_known parts.
      halt_told h (within old.place bs) new (within new.place rest) (λ is. passed s bs rest parts ∙ tokens-late new.place rest (s.too_long (ap at_err is))));
  shorter = tt;
  used_to = tt;
  ended = tt;
  unseen = tt;
  used_up = λ is. halted_used_up (Option Found) new h (λ f. s.used_up (ap at_err f)) (ap (at_error (Option Found)) is);
}

-- the same window
pub same_reads : {spelled : List ℕ → Result (Piece Token) Flaw} {mid mid' new : Window} {m l' : Option (List ℕ)} {r : Result Found ReadError}
    → Reads spelled mid'.place mid' new m l' r → mid' ≡ mid → Reads spelled mid.place mid new m l' r
same_reads {spelled} {mid} {mid'} {new} {m} {l'} {r} t same = subst (λ (w : Window). Reads spelled w.place w new m l' r) same t
