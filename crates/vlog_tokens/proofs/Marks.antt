-- Tokens of one and two bytes, and comments.
use Rattle.std.proofs.Common.{◌≡◌, ℕ, ◌+◌, ◌<◌, ◌≤◌, Bool, true, false, cond, List, [], ◌∷◌, ◌++◌, length, drop, Option, Some, None, Result, Ok, Err, refl, sym, ap, ◌∙◌, subst, arith, eqb, eq-eqb, add-zero}
use Rattle.std.specs.Prelude.{◌&&◌, not}
use Rattle.std.proofs.lemmas.Bool.{ne_eqb, eqb-true}
use Rattle.nl_base.specs.declared.place.Place.{Place}
use Rattle.nl_base.specs.declared.fault.Reason.TheVariants.{EndOfInput}
use Rattle.nl_base.specs.declared.fault.ReadError.{ReadError}
use Rattle.nl_bytes.specs.declared.class.Class.TheVariants.{CommentByte}
use Rattle.nl_bytes.specs.declared.halt.Halt.{Halt}
use Rattle.nl_bytes.specs.declared.halt.Halt.TheVariants as halts
use Rattle.nl_bytes.specs.declared.bytes.TheConstants.{LIMIT}
use Rattle.nl_bytes.specs.Halts.{error_of}
use Rattle.nl_bytes.specs.Classes.{AreIn, is_comment_byte}
use Rattle.nl_bytes.specs.Bytes.{Window, Uses, Skips, IsAhead, input, first, given}
use Rattle.nl_bytes.proofs.Uses.{Uses-trans, offset_grows}
use Rattle.nl_bytes.proofs.Known.{Uses-known, IsAhead-known}
use Rattle.vlog_tokens.specs.declared.item.Item.{Item}
use Rattle.vlog_tokens.specs.declared.item.Item.TheVariants.{Blank, Line, Token}
use Rattle.vlog_tokens.specs.declared.item.Spot.{Spot}
use Rattle.vlog_tokens.specs.declared.token.VToken.TheVariants.{Symbol}
use Rattle.nl_bytes.specs.Flaws.{Piece, Flaw, flaw, refusal}
use Rattle.vlog_tokens.specs.Scanning.{one_if}
use Rattle.vlog_tokens.specs.Spelling.{alone, pair_by, slash_by, comment_at, is_slash, blank_now}
use Rattle.vlog_tokens.specs.Parts.{Reaches, Answers, GivesSpot, Part, Reads}
use Rattle.vlog_tokens.proofs.Parts.{Steps, steps_use, steps_given, part_used, part_then, part_halted, reaches_late, halted, failed_of, Answers-err, ahead_unseen, last_unseen}
use Rattle.vlog_tokens.proofs.Scanning.{none_of, looks, refuses, bad_here, reaches_less}

abbrev pub at_err : Halt → Result (Option ℕ) Halt
at_err h = Err h

-- ---- one byte and two

-- what is read where the bytes that were used and the byte ahead tell what is spelled
pub reads_told : {a b : Window} {l m : Option (List ℕ)} {used : List ℕ} (spelled : List ℕ → Result (Piece Item) Flaw) → Uses a b l m used → 0 < length used → (x : Spot) (piece : Piece Item)
    → ((rest : List ℕ) → input b m ≡ Some rest → spelled (used ++ rest) ≡ Ok piece) → x ≡ record { item = piece.value; stop = a.place.offset + piece.seen } → piece.count ≡ length used
    → (x.stop ≤ given a → given b ≡ given a) → Reads spelled a b l m (Ok x)
reads_told {a} {b} {l} {m} {used} spelled u some x piece told is count shown = record {
  used = used;
  uses = u;
  some = some;
  answer = λ bs known.
      let k = Uses-known a b l m used bs u known in
      let e : spelled bs ≡ Ok piece = ap spelled k.2 ∙ told k.0 k.1 in
      subst (λ (z : Result (Piece Item) Flaw). Answers a.place bs (GivesSpot a.place used) z (Ok x)) (sym e) (is, count);
  unseen = λ token at. shown;
  used_up = tt;
}

pub mark_read : {a b : Window} {byte : ℕ} (l : Option (List ℕ)) (item : Item) → Steps a b byte → (x : Spot) → x ≡ record { item = item; stop = a.place.offset + 1 } → Reads (λ _. alone item) a b l l (Ok x)
mark_read {a} {b} {byte} l item s x is = reads_told (λ _. alone item) (steps_use s l) (omega arith) x (record { value = item; count = 1; seen = 1 }) (λ rest known. refl) is refl (λ le. steps_given s)

looked : {a b c : Window} {byte : ℕ} {l m : Option (List ℕ)} → Steps a b byte → Uses b c l m [] → Uses a c l m (byte ∷ [])
looked {a} {b} {c} {byte} {l} {m} s u = Uses-trans a b c l l m (byte ∷ []) [] (steps_use s l) u

-- the stop is that of a byte behind the first, which was looked at, or of the first where none is behind it
look_unseen : {a b c : Window} {byte : ℕ} {l m : Option (List ℕ)} → Steps a b byte → Uses b c l m [] → (next : Option ℕ) → IsAhead c m next → (stop : ℕ) → stop ≡ a.place.offset + 1 + one_if next → stop ≤ given a → given c ≡ given a
look_unseen {a} {b} {c} {byte} {l} {m} s u next ahead stop is =
    let uses = looked s u in
    ahead_unseen a c m next stop uses.lazy ahead (omega (arith, is, offset_grows uses))

-- the stop is that of a second byte, which was used
second_unseen : {a b c d : Window} {byte second : ℕ} {l m : Option (List ℕ)} → Steps a b byte → Uses b c l m [] → Steps c d second → (stop : ℕ) → stop ≡ a.place.offset + 2 → stop ≤ given a → given d ≡ given a
second_unseen {a} {b} {c} {d} {byte} {second} {l} {m} s u t stop is =
    let uses = looked s u in
    last_unseen a stop uses.lazy t (omega (arith, is, offset_grows uses))

-- a reader that halts after the first byte
pub reads_halted : {a b c : Window} {byte : ℕ} {l m : Option (List ℕ)} {h : Halt} (spelled : List ℕ → Result (Piece Item) Flaw) → Steps a b byte → Uses b c l m [] → (h ≡ halts.TooLong → LIMIT < c.place.offset)
    → (h ≡ halts.Failed → c.held ≡ []) → ((bs : List ℕ) → Reaches 0 1 (spelled bs)) → Reads spelled a c l m (Err (error_of h))
reads_halted {a} {b} {c} {byte} {l} {m} {h} spelled s u late empty far =
    let uses = looked s u in
    record {
      used = byte ∷ [];
      uses = uses;
      some = tt;
      answer = λ bs known. halted a.place bs (GivesSpot a.place (byte ∷ [])) (spelled bs) h (λ is. let k = late is in reaches_late (spelled bs) a.place.offset 1 (omega (arith, k, offset_grows uses)) (far bs));
      unseen = tt;
      used_up = λ is. empty (failed_of h is);
    }

pub pair_reaches : (second : ℕ) (both single : Item) (next : Option ℕ) → Reaches 0 1 (pair_by second both single next)
pair_reaches second both single None = (omega arith, omega arith)
pair_reaches second both single (Some b) = go (eqb b second)
  where
    go : (t : Bool) → Reaches 0 1 (cond t (Ok (record { value = both; count = 2; seen = 2 })) (Ok (record { value = single; count = 1; seen = 2 })))
    go true = (omega arith, omega arith)
    go false = (omega arith, omega arith)

abbrev pub Pair : ℕ → Item → Item → List ℕ → Result (Piece Item) Flaw
Pair second both single bs = pair_by second both single (first (drop 1 bs))

pub pair_end : {a b c : Window} {byte : ℕ} {l m : Option (List ℕ)} (second : ℕ) (both single : Item) → Steps a b byte → Uses b c l m [] → IsAhead c m None → (x : Spot) → x ≡ record { item = single; stop = a.place.offset + 1 } → Reads (Pair second both single) a c l m (Ok x)
pair_end {a} {b} {c} {byte} {l} {m} second both single s u ahead x is =
    reads_told (Pair second both single) (looked s u) (omega arith) x (record { value = single; count = 1; seen = 1 })
    (λ rest known. ap (pair_by second both single) (IsAhead-known c m None rest ahead known)) is refl (look_unseen s u None ahead x.stop (omega (arith, ap (λ (y : Spot). y.stop) is)))

pub pair_other : {a b c : Window} {byte : ℕ} {l m : Option (List ℕ)} (second : ℕ) (both single : Item) (next : ℕ) → Steps a b byte → Uses b c l m [] → IsAhead c m (Some next) → (next ≡ second → ⊥) → (x : Spot) → x ≡ record { item = single; stop = a.place.offset + 2 }
    → Reads (Pair second both single) a c l m (Ok x)
pair_other {a} {b} {c} {byte} {l} {m} second both single next s u ahead other x is =
    let differs : eqb next second ≡ false = ne_eqb next second other in
    reads_told (Pair second both single) (looked s u) (omega arith) x (record { value = single; count = 1; seen = 2 })
    (λ rest known. rw (IsAhead-known c m (Some next) rest ahead known, differs) refl) is refl (look_unseen s u (Some next) ahead x.stop (omega (arith, ap (λ (y : Spot). y.stop) is)))

pub pair_both : {a b c d : Window} {byte next : ℕ} {l m : Option (List ℕ)} (second : ℕ) (both single : Item) → Steps a b byte → Uses b c l m [] → Steps c d next → next ≡ second → (x : Spot) → x ≡ record { item = both; stop = a.place.offset + 2 }
    → Reads (Pair second both single) a d l m (Ok x)
pair_both {a} {b} {c} {d} {byte} {next} {l} {m} second both single s u t same x is =
    let equal : eqb next second ≡ true = eq-eqb next second same in
    reads_told (Pair second both single) (Uses-trans a c d l m m (byte ∷ []) (next ∷ []) (looked s u) (steps_use t m)) (omega arith) x (record { value = both; count = 2; seen = 2 })
    (λ rest known. rw equal refl) is refl (second_unseen s u t x.stop (ap (λ (y : Spot). y.stop) is))

-- ---- comments

comment_run : (used rest : List ℕ) (n : ℕ) → AreIn CommentByte used → comment_at false n (used ++ rest) ≡ comment_at false (n + length used) rest
unfolding comment_at
comment_run [] rest n all = ap (λ (k : ℕ). comment_at false k rest) (sym (add-zero n))
comment_run (b ∷ bs) rest n all = let other = no_star b all.0 in rw other (comment_run bs rest (n + 1) all.1 ∙ ap (λ (k : ℕ). comment_at false k rest) (omega arith))
  where
    no_star : (b : ℕ) → is_comment_byte b ≡ true → eqb b 42 ≡ false
    no_star b h = go (eqb b 42) h
      where
        go : (t : Bool) → not t ≡ true → t ≡ false
        go true e = absurd cc
        go false e = refl

pub comment_part : {old new : Window} {l m : Option (List ℕ)} {r : Result (Option ℕ) Halt} → Skips CommentByte old new l m r → (p : Place) → Part {X = Unit {0}} (comment_at false) (λ _. comment_at false) p old new l m (Ok tt)
comment_part {old} {new} {l} {m} {r} k p = part_used (λ _. comment_at false) p k.uses tt (λ n rest. comment_run k.used rest n k.each)

by_test : {A : Type 0} (n : ℕ) (t : Bool) (x y : Result (Piece A) Flaw) → Reaches 0 n x → Reaches 0 n y → Reaches 0 n (cond t x y)
by_test n true x y p q = p
by_test n false x y p q = q

pub comment_seen : (star : Bool) (n : ℕ) (bs : List ℕ) → Reaches 0 n (comment_at star n bs)
unfolding comment_at
comment_seen star n [] = omega arith
comment_seen star n (b ∷ bs) =
    by_test n (eqb b 42) _ _ (reaches_less _ n (comment_seen true (n + 1) bs))
    (by_test n (star && eqb b 47) (Ok (record { value = Blank; count = n + 1; seen = n + 1 })) (comment_at false (n + 1) bs) (omega arith, omega arith) (reaches_less _ n (comment_seen false (n + 1) bs)))

pub comment_halted : {old mid new : Window} {l k m : Option (List ℕ)} {h : Halt} (p : Place) → Part {X = Unit {0}} (comment_at false) (λ _. comment_at false) p old mid l k (Ok tt)
    → Skips CommentByte mid new k m (Err h) → Part {X = Unit {0}} (comment_at false) (λ _. blank_now) p old new l m (Err (error_of h))
comment_halted {old} {mid} {new} {l} {k} {m} {h} p t s = part_halted (part_then t (comment_part s p)) (λ _. blank_now) h (λ is. s.too_long (ap at_err is)) (λ is. s.used_up (ap at_err is)) (λ n rest. comment_seen false n rest)

pub comment_end : (p : Place) (w : Window) (l : Option (List ℕ)) → IsAhead w l None → Part {X = Unit {0}} (comment_at false) (λ _. blank_now) p w w l l (Err (refusal w.place w.place.offset EndOfInput))
unfolding comment_at
comment_end p w l ahead = refuses (λ _. blank_now) p w l None ahead w.place w.place.offset EndOfInput (λ front rest at e.
    let r = bad_here p w front rest (comment_at false (length front) rest) EndOfInput 0 at (rw (none_of rest e) (ap (λ (k : ℕ). flaw EndOfInput (length front) k) (sym (add-zero (length front))))) in
    record { before = r.before; seen = r.seen; meant_is = r.meant_is; here_is = r.here_is; stop_is = omega (arith, r.stop_is) })

is_star : (b : ℕ) → is_comment_byte b ≡ false → eqb b 42 ≡ true
is_star b h = go (eqb b 42) h
  where
    go : (t : Bool) → not t ≡ false → t ≡ true
    go true e = refl
    go false e = absurd cc

star_step : (b n : ℕ) (rest : List ℕ) → is_comment_byte b ≡ false → comment_at false n (b ∷ rest) ≡ comment_at true (n + 1) rest
unfolding comment_at
star_step b n rest h = let e = is_star b h in rw e refl

-- a `*`, behind which something was looked at
pub star_part : {a b c : Window} {byte : ℕ} {l m : Option (List ℕ)} (p : Place) → Steps a b byte → is_comment_byte byte ≡ false → Uses b c l m [] → Part {X = Unit {0}} (comment_at false) (λ _. comment_at true) p a c l m (Ok tt)
star_part {a} {b} {c} {byte} {l} {m} p s star u = part_used (λ _. comment_at true) p (looked s u) tt (λ n rest. star_step byte n rest star)

pub star_halted : {a b c d : Window} {byte : ℕ} {l k m : Option (List ℕ)} {h : Halt} (p : Place) → Part {X = Unit {0}} (comment_at false) (λ _. comment_at false) p a b l k (Ok tt) → Steps b c byte → is_comment_byte byte ≡ false → Uses c d k m []
    → (h ≡ halts.TooLong → LIMIT < d.place.offset) → (h ≡ halts.Failed → d.held ≡ []) → Part {X = Unit {0}} (comment_at false) (λ _. blank_now) p a d l m (Err (error_of h))
star_halted {a} {b} {c} {d} {byte} {l} {k} {m} {h} p f s star u late empty = part_halted (part_then f (star_part p s star u)) (λ _. blank_now) h late empty (λ n rest. comment_seen true n rest)

slash_step : (n : ℕ) (rest : List ℕ) → comment_at true n (47 ∷ rest) ≡ blank_now (n + 1) rest
unfolding comment_at
slash_step n rest = refl

pub comment_closed : {a b : Window} (p : Place) (l : Option (List ℕ)) → Steps a b 47 → Part {X = Unit {0}} (comment_at true) (λ _. blank_now) p a b l l (Ok tt)
comment_closed {a} {b} p l s = part_used (λ _. blank_now) p (steps_use s l) tt (λ n rest. slash_step n rest)

other_step : (n : ℕ) (rest : List ℕ) (next : Option ℕ) → first rest ≡ next → is_slash next ≡ false → comment_at true n rest ≡ comment_at false n rest
unfolding comment_at
other_step n [] next e h = refl
other_step n (b ∷ bs) next e h = let k : eqb b 47 ≡ false = subst (λ (o : Option ℕ). is_slash o ≡ false) (sym e) h in rw k refl

pub comment_on : (p : Place) (w : Window) (l : Option (List ℕ)) (next : Option ℕ) → IsAhead w l next → is_slash next ≡ false → Part {X = Unit {0}} (comment_at true) (λ _. comment_at false) p w w l l (Ok tt)
comment_on p w l next ahead other = looks (λ _. comment_at false) p w l next tt ahead (λ n rest e. other_step n rest next e other)

pub slash_ahead : (w : Window) (l : Option (List ℕ)) (next : Option ℕ) → IsAhead w l next → is_slash next ≡ true → (tail : List ℕ) × (w.held ≡ 47 ∷ tail)
slash_ahead w l None ahead e = absurd cc
slash_ahead w l (Some b) ahead e = let same : b ≡ 47 = eqb-true b 47 e in (ahead.0, ahead.1 ∙ ap (λ (x : ℕ). x ∷ ahead.0) same)

-- ---- what begins with a `/`

abbrev pub Slash : List ℕ → Result (Piece Item) Flaw
Slash bs = slash_by (first (drop 1 bs)) (drop 2 bs)

pub slash_reaches : (next : Option ℕ) (rest : List ℕ) → Reaches 0 1 (slash_by next rest)
slash_reaches None rest = (omega arith, omega arith)
slash_reaches (Some b) rest =
    by_test 1 (eqb b 47) (Ok (record { value = Line; count = 2; seen = 2 })) _ (omega arith, omega arith)
    (by_test 1 (eqb b 42) (comment_at false 2 rest) (Ok (record { value = Token (Symbol 47); count = 1; seen = 2 })) (reaches_less _ 1 (comment_seen false 2 rest)) (omega arith, omega arith))

pub slash_end : {a b c : Window} {byte : ℕ} {l m : Option (List ℕ)} → Steps a b byte → Uses b c l m [] → IsAhead c m None → (x : Spot) → x ≡ record { item = Token (Symbol 47); stop = a.place.offset + 1 } → Reads Slash a c l m (Ok x)
slash_end {a} {b} {c} {byte} {l} {m} s u ahead x is =
    reads_told Slash (looked s u) (omega arith) x (record { value = Token (Symbol 47); count = 1; seen = 1 }) (λ rest known. ap (λ (o : Option ℕ). slash_by o (drop 1 rest)) (IsAhead-known c m None rest ahead known)) is refl
    (look_unseen s u None ahead x.stop (omega (arith, ap (λ (y : Spot). y.stop) is)))

pub slash_other : {a b c : Window} {byte : ℕ} {l m : Option (List ℕ)} (next : ℕ) → Steps a b byte → Uses b c l m [] → IsAhead c m (Some next) → (next ≡ 47 → ⊥) → (next ≡ 42 → ⊥) → (x : Spot) → x ≡ record { item = Token (Symbol 47); stop = a.place.offset + 2 } → Reads Slash a c l m (Ok x)
slash_other {a} {b} {c} {byte} {l} {m} next s u ahead line block x is =
    let no_line : eqb next 47 ≡ false = ne_eqb next 47 line in
    let no_block : eqb next 42 ≡ false = ne_eqb next 42 block in
    reads_told Slash (looked s u) (omega arith) x (record { value = Token (Symbol 47); count = 1; seen = 2 }) (λ rest known. rw (IsAhead-known c m (Some next) rest ahead known, no_line, no_block) refl) is refl
    (look_unseen s u (Some next) ahead x.stop (omega (arith, ap (λ (y : Spot). y.stop) is)))

pub slash_line : {a b c d : Window} {byte : ℕ} {l m : Option (List ℕ)} → Steps a b byte → Uses b c l m [] → Steps c d 47 → (x : Spot) → x ≡ record { item = Line; stop = a.place.offset + 2 } → Reads Slash a d l m (Ok x)
slash_line {a} {b} {c} {d} {byte} {l} {m} s u t x is =
    reads_told Slash (Uses-trans a c d l m m (byte ∷ []) (47 ∷ []) (looked s u) (steps_use t m)) (omega arith) x (record { value = Line; count = 2; seen = 2 }) (λ rest known. refl) is refl
    (second_unseen s u t x.stop (ap (λ (y : Spot). y.stop) is))

-- a block comment, with its first two bytes
abbrev block : ℕ → List ℕ → Result (Piece Item) Flaw
block n bs = comment_at false (n + 2) (drop 2 bs)

two_used : {a b c d : Window} {byte : ℕ} {l m : Option (List ℕ)} → Steps a b byte → Uses b c l m [] → Steps c d 42 → Uses a d l m (byte ∷ 42 ∷ [])
two_used {a} {b} {c} {d} {byte} {l} {m} s u t = Uses-trans a c d l m m (byte ∷ []) (42 ∷ []) (looked s u) (steps_use t m)

pub slash_refused : {a b c d e : Window} {byte : ℕ} {l m n : Option (List ℕ)} {x : ReadError} → Steps a b byte → Uses b c l m [] → Steps c d 42 → Part {X = Unit {0}} (comment_at false) (λ _. blank_now) a.place d e m n (Err x) → Reads Slash a e l n (Err x)
slash_refused {a} {b} {c} {d} {e} {byte} {l} {m} {n} {x} s u t f =
    let uses = two_used s u t in
    record {
      used = byte ∷ 42 ∷ f.used;
      uses = Uses-trans a d e l m n (byte ∷ 42 ∷ []) f.used uses f.uses;
      some = tt;
      answer = λ bs known.
          let k = Uses-known a d l m (byte ∷ 42 ∷ []) bs uses known in
          let j = Uses-known d e m n f.used k.0 f.uses k.1 in
          let h = f.means (byte ∷ 42 ∷ []) k.0 j.0 uses.place k.1 j.1 j.2 in
          let g = Answers-err {A = Item} {B = ℕ} {C = Spot} a.place (byte ∷ 42 ∷ k.0) (λ _ _. ⊥) (GivesSpot a.place (byte ∷ 42 ∷ f.used)) (comment_at false 2 k.0) x h in
          subst (λ (xs : List ℕ). Answers a.place xs (GivesSpot a.place (byte ∷ 42 ∷ f.used)) (Slash xs) (Err x)) (sym k.2) g;
      unseen = tt;
      used_up = f.used_up;
    }

pub slash_block : {a b c d e : Window} {byte : ℕ} {l m n : Option (List ℕ)} → Steps a b byte → Uses b c l m [] → Steps c d 42 → Part {X = Unit {0}} (comment_at false) (λ _. blank_now) a.place d e m n (Ok tt) → (x : Spot) → x ≡ record { item = Blank; stop = e.place.offset } → Reads Slash a e l n (Ok x)
slash_block {a} {b} {c} {d} {e} {byte} {l} {m} {n} s u t f x is =
    let uses = two_used s u t in
    let all = Uses-trans a d e l m n (byte ∷ 42 ∷ []) f.used uses f.uses in
    record {
      used = byte ∷ 42 ∷ f.used;
      uses = all;
      some = omega arith;
      answer = λ bs known.
          let k = Uses-known a d l m (byte ∷ 42 ∷ []) bs uses known in
          let j = Uses-known d e m n f.used k.0 f.uses k.1 in
          let h = f.means (byte ∷ 42 ∷ []) k.0 j.0 uses.place k.1 j.1 j.2 in
          let spelled : Slash bs ≡ blank_now (2 + length f.used) j.0 = ap Slash k.2 ∙ h in
          let stop : e.place.offset ≡ a.place.offset + (2 + length f.used) = omega (arith, offset_grows all) in
          subst (λ (z : Result (Piece Item) Flaw). Answers a.place bs (GivesSpot a.place (byte ∷ 42 ∷ f.used)) z (Ok x)) (sym spelled) (is ∙ ap (λ (i : ℕ). at_stop i) stop, omega arith);
      unseen = λ token at. let blank : Blank ≡ Token token = sym (ap (λ (y : Spot). y.item) is) ∙ at in absurd cc;
      used_up = tt;
    }
  where
    at_stop : ℕ → Spot
    at_stop i = record { item = Blank; stop = i }
