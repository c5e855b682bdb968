-- From the parts of a token to what stands at a place.
use Rattle.std.proofs.Common.{◌≡◌, ℕ, ◌+◌, ◌<◌, ◌≤◌, List, [], length, Option, Some, None, Result, Ok, Err, refl, sym, ap, ◌∙◌, subst, arith}
use Rattle.std.specs.Prelude.{IfOk, OnOk}
use Rattle.nl_base.specs.declared.place.Place.{Place}
use Rattle.nl_base.specs.declared.fault.Reason.TheVariants.{NumberRange}
use Rattle.nl_base.specs.declared.fault.ReadError.{ReadError}
use Rattle.nl_base.specs.declared.fault.ReadError.TheVariants.{Text, ReadFault, TooLong, NoMemory, Spent}
use Rattle.nl_bytes.specs.Bytes.{Window, input, first, given}
use Rattle.nl_bytes.specs.declared.bytes.TheConstants.{LIMIT}
use Rattle.nl_bytes.proofs.Known.{Uses-known, IsAhead-known}
use Rattle.vlog_tokens.specs.declared.item.Item.{Item}
use Rattle.vlog_tokens.specs.declared.item.Spot.{Spot}
use Rattle.vlog_tokens.specs.declared.phase.Phase.{Phase}
use Rattle.vlog_tokens.specs.declared.scan.Scanned.{Scanned}
use Rattle.nl_bytes.specs.Flaws.{Piece, Flaw, ◌>>=◌}
use Rattle.vlog_tokens.specs.Scanning.{Lexeme, begun, kept, scan_at, scanned, one_if, StopsAt}
use Rattle.vlog_tokens.specs.Items.{item_of, finish, finished}
use Rattle.vlog_tokens.specs.Spelling.{lexeme_spelled}
use Rattle.nl_bytes.specs.Tokens.{UsedUp}
use Rattle.vlog_tokens.specs.Parts.{Reaches, Answers, GivesSpot, Meaning, Part, TokenUnseen, Reads, spot_of}
use Rattle.nl_bytes.proofs.Uses.{offset_grows}
use Rattle.vlog_tokens.proofs.Parts.{Steps, steps_use, part_used, refusal_answers, refusal_reads, ahead_unseen}

-- a step that gives an item, or a flaw that is seen as late
abbrev pub StepsOn : {A : Type 0} → (Piece A → Result (Piece Item) Flaw) → Type 0
StepsOn {A = A} f = (piece : Piece A) (o n : ℕ) → Reaches {A = A} o n (Ok piece) → Reaches o n (f piece)

err_after : {A B : Type 0} (p : Place) (bs : List ℕ) (H : Piece Item → B → Type 0) (f : Piece A → Result (Piece Item) Flaw) (x : Result (Piece A) Flaw) (e : ReadError) → StepsOn f
    → Answers {A = A} {B = ℕ} p bs (λ _ _. ⊥) x (Err e) → Answers p bs H (x >>= f) (Err e)
err_after p bs H f (Ok x) (Text t) far h = absurd h
err_after p bs H f (Ok x) TooLong far h = late (f x) (far x p.offset (LIMIT + 1) h)
  where
    late : (y : Result (Piece Item) Flaw) → Reaches p.offset (LIMIT + 1) y → Answers p bs H y (Err TooLong)
    late (Ok y) h = h
    late (Err y) h = h
err_after p bs H f (Ok x) ReadFault far h = free (f x)
  where
    free : (y : Result (Piece Item) Flaw) → Answers p bs H y (Err ReadFault)
    free (Ok y) = tt
    free (Err y) = tt
err_after p bs H f (Ok x) NoMemory far h = free (f x)
  where
    free : (y : Result (Piece Item) Flaw) → Answers p bs H y (Err NoMemory)
    free (Ok y) = tt
    free (Err y) = tt
err_after p bs H f (Ok x) Spent far h = absurd h
err_after p bs H f (Err x) (Text t) far h = h
err_after p bs H f (Err x) TooLong far h = h
err_after p bs H f (Err x) ReadFault far h = h
err_after p bs H f (Err x) NoMemory far h = h
err_after p bs H f (Err x) Spent far h = h

-- a part that gives an error
pub reads_err : {A X : Type 0} {from : Meaning A} {to : X → Meaning A} {a b : Window} {l m : Option (List ℕ)} {e : ReadError} → Part from to a.place a b l m (Err e) → (f : Piece A → Result (Piece Item) Flaw) → StepsOn f
    → (spelled : List ℕ → Result (Piece Item) Flaw) → ((bs : List ℕ) → spelled bs ≡ (from 0 bs >>= f)) → Reads spelled a b l m (Err e)
reads_err {A} {X} {from} {to} {a} {b} {l} {m} {e} t f far spelled same = record {
  used = t.used;
  uses = t.uses;
  some = tt;
  answer = λ bs known.
      let k = Uses-known a b l m t.used bs t.uses known in
      let h = t.means [] bs k.0 refl known k.1 k.2 in
      subst (λ (z : Result (Piece Item) Flaw). Answers a.place bs (GivesSpot a.place t.used) z (Err e)) (sym (same bs)) (err_after a.place bs (GivesSpot a.place t.used) f (from 0 bs) e far h);
  unseen = tt;
  used_up = t.used_up;
}

-- a part that is whole, and what its bytes are
pub reads_ok : {A X : Type 0} {from : Meaning A} {to : X → Meaning A} {a b : Window} {l m : Option (List ℕ)} {x : X} → (t : Part from to a.place a b l m (Ok x)) → (f : Piece A → Result (Piece Item) Flaw)
    → (spelled : List ℕ → Result (Piece Item) Flaw) → ((bs : List ℕ) → spelled bs ≡ (from 0 bs >>= f)) → a.place.offset < b.place.offset → (r : Result Spot ReadError) → IfOk r (λ y. TokenUnseen y a b) → UsedUp r b
    → ((bs rest : List ℕ) → input b m ≡ Some rest → Answers a.place bs (GivesSpot a.place t.used) (to x (length t.used) rest >>= f) r) → Reads spelled a b l m r
reads_ok {A} {X} {from} {to} {a} {b} {l} {m} {x} t f spelled same moved r shown empty give = record {
  used = t.used;
  uses = t.uses;
  some = some_used r;
  answer = λ bs known.
      let k = Uses-known a b l m t.used bs t.uses known in
      let h = t.means [] bs k.0 refl known k.1 k.2 in
      let n : 0 + length t.used ≡ length t.used = omega arith in
      let meant : spelled bs ≡ (to x (length t.used) k.0 >>= f) = same bs ∙ ap (λ (z : Result (Piece A) Flaw). z >>= f) (h ∙ ap (λ (i : ℕ). to x i k.0) n) in
      subst (λ (z : Result (Piece Item) Flaw). Answers a.place bs (GivesSpot a.place t.used) z r) (sym meant) (give bs k.0 k.1);
  unseen = shown;
  used_up = empty;
}
  where
    some_used : (r : Result Spot ReadError) → OnOk r (0 < length t.used)
    some_used (Ok y) = omega (arith, offset_grows t.uses)
    some_used (Err e) = tt

-- ---- names, numbers, reals, based literals and directives

finished_on : (x : Piece Lexeme) (item : Option Item) (o n : ℕ) → Reaches {A = Lexeme} o n (Ok x) → Reaches o n (finished x item)
finished_on x None o n h = h.1
finished_on x (Some item) o n h = h

pub finish_on : StepsOn finish
finish_on x o n h = finished_on x (item_of x.value.phase x.value.text) o n h

pub begun_part : (begins : Phase) (byte : ℕ) (text : List ℕ) {a b : Window} (l : Option (List ℕ)) → Steps a b byte → text ≡ kept begins byte → Part {X = Unit {0}} (begun begins byte) (λ _. scan_at begins text) a.place a b l l (Ok tt)
begun_part begins byte text {a} {b} l s is = part_used (λ _. scan_at begins text) a.place (steps_use s l) tt (λ n rest. ap (λ (xs : List ℕ). scan_at begins xs (n + 1) rest) (sym is))

pub gives_spot : (p : Place) (bs used : List ℕ) (x : Piece Lexeme) (item : Option Item) (stop : ℕ) → stop ≡ p.offset + x.seen → x.count ≡ length used → Answers p bs (GivesSpot p used) (finished x item) (spot_of p stop item)
gives_spot p bs used x None stop at count = refusal_answers p bs (GivesSpot p used) NumberRange 0 x.seen p stop refl at
gives_spot p bs used x (Some item) stop at count = (ap (λ (n : ℕ). spot n) at, count)
  where
    spot : ℕ → Spot
    spot n = record { item = item; stop = n }

-- a number that is too large is no read that fails
pub spot_used_up : (p : Place) (stop : ℕ) (item : Option Item) (w : Window) → UsedUp (spot_of p stop item) w
spot_used_up p stop None w = λ is. absurd (refusal_reads p stop NumberRange is)
spot_used_up p stop (Some item) w = tt

pub spot_unseen : (p : Place) (stop : ℕ) (item : Option Item) (a b : Window) → (stop ≤ given a → given b ≡ given a) → IfOk (spot_of p stop item) (λ y. TokenUnseen y a b)
spot_unseen p stop None a b h = tt
spot_unseen p stop (Some item) a b h = λ token is. h

pub lexeme_read : (begins : Phase) (byte : ℕ) {a b : Window} {l m : Option (List ℕ)} {x : Scanned} → Part (begun begins byte) scanned a.place a b l m (Ok x) → a.place.offset < b.place.offset → StopsAt b m x.stop
    → (item : Option Item) → item ≡ item_of x.phase x.text.items → (p : Place) → p ≡ a.place → Reads (lexeme_spelled begins byte) a b l m (spot_of p x.stop item)
lexeme_read begins byte {a} {b} {l} {m} {x} t moved stop item item-is p p-is = reads_ok t finish (lexeme_spelled begins byte) (λ bs. refl) moved (spot_of p x.stop item)
    (spot_unseen p x.stop item a b (ahead_unseen a b m stop.0 x.stop t.uses.lazy stop.1 stop.2)) (spot_used_up p x.stop item b)
    (λ bs rest known.
    let next = IsAhead-known b m stop.0 rest stop.1 known in
    let piece : Piece Lexeme = record { value = record { phase = x.phase; text = x.text.items }; count = length t.used; seen = length t.used + one_if (first rest) } in
    let seen : x.stop ≡ a.place.offset + piece.seen = omega (arith, stop.2, offset_grows t.uses, ap one_if next) in
    rw (p-is, ← item-is) (gives_spot a.place bs t.used piece item x.stop seen refl))
