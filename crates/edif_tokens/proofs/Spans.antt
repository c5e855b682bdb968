-- Words and integers: a run of a class, and what follows it.
use Rattle.std.proofs.Common.{◌≡◌, ℕ, ◌+◌, ◌-◌, ◌<◌, ◌≤◌, Bool, true, false, cond, ltb, List, [], ◌∷◌, ◌++◌, length, take, drop, Option, Some, None, Result, Ok, Err, IsTrue, refl, sym, ap, ◌∙◌, subst, inl, inr, arith, length-append, append_assoc}
use Rattle.std.specs.Prelude.{IfSome, IfOk, OnOk, IsErrOf}
use Rattle.nl_base.specs.Faults.{OnText}
use Rattle.std.specs.List.{AllByRecursion, prefix_len}
use Rattle.std.proofs.lemmas.Bool.{ltb-true, ltb-false, lt-ltb, cases_lt}
use Rattle.std.proofs.lemmas.List.{take_at, drop_at}
use Rattle.nl_base.specs.declared.place.Place.{Place}
use Rattle.nl_base.specs.declared.fault.Reason.{Reason}
use Rattle.nl_base.specs.declared.fault.Reason.TheVariants.{BadByte, TokenTooLong}
use Rattle.nl_base.specs.declared.fault.ReadError.{ReadError}
use Rattle.nl_base.specs.declared.fault.ReadError.TheVariants.{Text, ReadFault, TooLong}
use Rattle.nl_base.specs.Place.{place_past}
use Rattle.nl_bytes.specs.declared.bytes.TheConstants.{LIMIT}
use Rattle.nl_bytes.specs.declared.class.Class.{Class}
use Rattle.nl_bytes.specs.declared.halt.Halt.{Halt}
use Rattle.nl_bytes.specs.declared.halt.Halt.TheVariants as halts
use Rattle.nl_bytes.specs.Halts.{error_of}
use Rattle.nl_bytes.specs.Classes.{in_class}
use Rattle.nl_bytes.specs.Bytes.{first, Window, Uses, Runs, IsAhead, TakesWhenUsed, given}
use Rattle.nl_base.proofs.Places.{place_past-append, place_past-offset}
use Rattle.nl_bytes.proofs.Known.{Uses-known, IsAhead-known}
use Rattle.edif_tokens.specs.Spelling.{Piece, Flaw, flaw, span_at, text_of, ended, may_follow}
use Rattle.nl_bytes.specs.Flaws.{refusal}
use Rattle.edif_tokens.specs.Scan.{ending, ended_here, Answers, Spans, IsLast, IsUnseen, seen_of}

-- a refusal answers for the flaw at its place
pub refusal_answers : {A B : Type 0} (p : Place) (bs : List ℕ) (Gives : Piece A → B → Type 0) (reason : Reason) (before seen : ℕ) (here : Place) (stop : ℕ)
    → here ≡ place_past p (take before bs) → stop ≡ p.offset + seen → Answers {A = A} {B = B} p bs Gives (flaw {A = Piece A} reason before seen) (Err (refusal here stop reason))
refusal_answers {A} {B} p bs Gives reason before seen here stop at_place at_stop = go (ltb LIMIT stop) refl
  where
    go : (t : Bool) → ltb LIMIT stop ≡ t → Answers {A = A} {B = B} p bs Gives (flaw {A = Piece A} reason before seen) (Err (cond t TooLong (Text (record { place = here; stop = stop; reason = reason }))))
    go true e = omega (arith, ltb-true _ _ e)
    go false e = (cc, omega (arith, ltb-false _ _ e))

abbrev pub AllPass : (ℕ → Bool) → List ℕ → Type 0
AllPass class used = AllByRecursion (λ b. IsTrue (class b)) used

-- the run is as long as the bytes that pass, where another follows
prefix_len-run : (class : ℕ → Bool) (used rest : List ℕ) → AllPass class used → prefix_len class (used ++ rest) ≡ length used + prefix_len class rest
prefix_len-run class [] rest all = omega arith
prefix_len-run class (b ∷ bs) rest all = rw all.0 (omega (arith, prefix_len-run class bs rest all.1))

prefix_len-stops : (class : ℕ → Bool) (rest : List ℕ) (next : Option ℕ) → first rest ≡ next → IfSome next (λ b. class b ≡ false) → prefix_len class rest ≡ 0
prefix_len-stops class [] next e h = refl
prefix_len-stops class (b ∷ bs) next e h = let p : class b ≡ false = subst (λ (o : Option ℕ). IfSome o (λ b. class b ≡ false)) (sym e) h in rw p refl

passes_not : (class : ℕ → Bool) (next : Option ℕ) → IfSome next (λ b. IsTrue (class b) → ⊥) → IfSome next (λ b. class b ≡ false)
passes_not class None h = tt
passes_not class (Some b) h = go (class b) h
  where
    go : (t : Bool) → (IsTrue t → ⊥) → t ≡ false
    go true h = absurd (h refl)
    go false h = refl

IfSome-weaker : (next : Option ℕ) (P Q : ℕ → Type 0) → ((b : ℕ) → P b → Q b) → IfSome next P → IfSome next Q
IfSome-weaker None P Q w h = tt
IfSome-weaker (Some b) P Q w h = w b h

-- what a span is, from the bytes that were used and the byte ahead
pub span_run : (class : ℕ → Bool) (lead used rest : List ℕ) (next : Option ℕ) → AllPass class used → length lead + length used ≤ 1025 → first rest ≡ next
    → IfSome next (λ b. IsTrue (class b) → length lead + length used ≡ 1025)
    → span_at class (length lead) (lead ++ (used ++ rest)) ≡ cond (ltb 1024 (length (lead ++ used))) (flaw TokenTooLong 0 1025) (ended (lead ++ used) (length (lead ++ used)) next)
unfolding span_at
span_run class lead used rest next all most ahead longest =
    let bs = lead ++ (used ++ rest) in
    let text = lead ++ used in
    let total = length-append lead used in
    let after : drop (length lead) bs ≡ used ++ rest = drop_at lead (used ++ rest) (length lead) refl in
    let run = prefix_len-run class used rest all in
    let n : length lead + prefix_len class (drop (length lead) bs) ≡ length text + prefix_len class rest = omega (arith, total, run, ap (prefix_len class) after) in
    elim (cases_lt 1024 (length text)) [
      | inl lt ↦ rw (lt-ltb 1024 (length text) lt, n, lt-ltb 1024 (length text + prefix_len class rest) (omega arith)) refl
      | inr le ↦
          let stops = prefix_len-stops class rest next ahead (passes_not class next (IfSome-weaker next (λ b. IsTrue (class b) → length lead + length used ≡ 1025) (λ b. IsTrue (class b) → ⊥) (λ b h t. let k = h t in omega (arith, k)) longest)) in
          let whole : length lead + prefix_len class (drop (length lead) bs) ≡ length text = omega arith in
          let parts : bs ≡ text ++ rest = sym (append_assoc lead used rest) in
          ap (λ (k : ℕ). text_of k bs) whole ∙ ap (λ (xs : List ℕ). text_of (length text) xs) parts
          ∙ (rw (take_at text rest (length text) refl, drop_at text rest (length text) refl, ahead) refl)
    ]

seen-ended : (text : List ℕ) (n : ℕ) (next : Option ℕ) → n ≤ seen_of (ended text n next)
seen-ended text n None = omega arith
seen-ended text n (Some b) = go (may_follow b)
  where
    go : (t : Bool) → n ≤ seen_of (cond t (Ok (record { value = text; count = n; seen = n + 1 })) (flaw BadByte n (n + 1)))
    go true = omega arith
    go false = omega arith

pub seen-text_of : (m n : ℕ) (bs : List ℕ) → m ≤ 1025 → m ≤ n → m ≤ seen_of (text_of n bs)
seen-text_of m n bs most le = go (ltb 1024 n)
  where
    go : (t : Bool) → m ≤ seen_of (cond t (flaw TokenTooLong 0 1025) (ended (take n bs) n (first (drop n bs))))
    go true = most
    go false = omega (arith, seen-ended (take n bs) n (first (drop n bs)))

-- no fewer bytes have to be seen than were used
pub span_seen : (class : ℕ → Bool) (lead used rest : List ℕ) → AllPass class used → length lead + length used ≤ 1025
    → length lead + length used ≤ seen_of (span_at class (length lead) (lead ++ (used ++ rest)))
unfolding span_at
span_seen class lead used rest all most =
    let bs = lead ++ (used ++ rest) in
    let after : drop (length lead) bs ≡ used ++ rest = drop_at lead (used ++ rest) (length lead) refl in
    let run = prefix_len-run class used rest all in
    seen-text_of (length lead + length used) (length lead + prefix_len class (drop (length lead) bs)) bs most (omega (arith, run, ap (prefix_len class) after))

abbrev pub GivesText : Place → List ℕ → Piece (List ℕ) → ℕ → Type 0
GivesText p after piece stop = (piece.value ≡ after) × (piece.count ≡ length after) × (stop ≡ p.offset + piece.seen)

-- the end of a word or an integer answers for what is spelled
pub ending_answers : (p here : Place) (after rest : List ℕ) (next : Option ℕ) → here ≡ place_past p after
    → Answers p (after ++ rest) (GivesText p after) (cond (ltb 1024 (length after)) (flaw TokenTooLong 0 1025) (ended after (length after) next)) (ending p here (length after) next)
ending_answers p here after rest next at_place = by_length (ltb 1024 (length after))
  where
    offset : here.offset ≡ p.offset + length after
    offset = ap (λ (q : Place). q.offset) at_place ∙ place_past-offset p after

    by_byte : (t : Bool) → Answers p (after ++ rest) (GivesText p after) (cond t (Ok (record { value = after; count = length after; seen = length after + 1 })) (flaw BadByte (length after) (length after + 1)))
        (cond t (Ok (here.offset + 1)) (Err (refusal here (here.offset + 1) BadByte)))
    by_byte true = (refl, refl, omega (arith, offset))
    by_byte false = refusal_answers p (after ++ rest) (GivesText p after) BadByte (length after) (length after + 1) here (here.offset + 1) (at_place ∙ ap (λ (xs : List ℕ). place_past p xs) (sym (take_at after rest (length after) refl))) (omega (arith, offset))

    by_next : (o : Option ℕ) → Answers p (after ++ rest) (GivesText p after) (ended after (length after) o) (ended_here here o)
    by_next None = (refl, refl, offset)
    by_next (Some b) = by_byte (may_follow b)

    by_length : (t : Bool) → Answers p (after ++ rest) (GivesText p after) (cond t (flaw TokenTooLong 0 1025) (ended after (length after) next)) (cond t (Err (refusal p (p.offset + 1025) TokenTooLong)) (ended_here here next))
    by_length true = refusal_answers p (after ++ rest) (GivesText p after) TokenTooLong 0 1025 p (p.offset + 1025) refl refl
    by_length false = by_next next

-- a text is no longer than it may be
ending_short : (p here : Place) (n : ℕ) (next : Option ℕ) → OnOk (ending p here n next) (n ≤ 1024)
ending_short p here n next = by_length (ltb 1024 n) refl
  where
    on_end : (r : Result ℕ ReadError) → n ≤ 1024 → OnOk r (n ≤ 1024)
    on_end (Ok x) le = le
    on_end (Err e) le = tt

    by_length : (t : Bool) → ltb 1024 n ≡ t → OnOk (cond t (Err (refusal p (p.offset + 1025) TokenTooLong)) (ended_here here next)) (n ≤ 1024)
    by_length true e = tt
    by_length false e = on_end (ended_here here next) (ltb-false _ _ e)

-- ---- what is taken

-- a refusal is no read fault
pub refusal_reads : (A : Type 0) (here : Place) (stop : ℕ) (reason : Reason) → IsErrOf {T = A} (Err (refusal here stop reason)) ReadFault → ⊥
refusal_reads A here stop reason = go (ltb LIMIT stop)
  where
    go : (t : Bool) → IsErrOf {T = A} (Err (cond t TooLong (Text (record { place = here; stop = stop; reason = reason })))) ReadFault → ⊥
    go true h = cc
    go false h = cc

ending_reads : (p here : Place) (n : ℕ) (next : Option ℕ) → IsErrOf (ending p here n next) ReadFault → ⊥
ending_reads p here n next = by_length (ltb 1024 n)
  where
    by_byte : (t : Bool) → IsErrOf (cond t (Ok (here.offset + 1)) (Err (refusal here (here.offset + 1) BadByte))) ReadFault → ⊥
    by_byte true h = cc
    by_byte false h = refusal_reads ℕ here (here.offset + 1) BadByte h

    by_next : (o : Option ℕ) → IsErrOf (ended_here here o) ReadFault → ⊥
    by_next None h = cc
    by_next (Some b) h = by_byte (may_follow b) h

    by_length : (t : Bool) → IsErrOf (cond t (Err (refusal p (p.offset + 1025) TokenTooLong)) (ended_here here next)) ReadFault → ⊥
    by_length true h = refusal_reads ℕ p (p.offset + 1025) TokenTooLong h
    by_length false h = by_next next h

-- where a word or an integer ends, the byte behind it is ahead, or no byte is held
ending_last : (p here : Place) (w : Window) (l : Option (List ℕ)) (n : ℕ) (next : Option ℕ) → here ≡ w.place → IsAhead w l next → IfOk (ending p here n next) (λ stop. IsLast stop w)
ending_last p here w l n next at is_ahead = by_length (ltb 1024 n)
  where
    offset : here.offset ≡ w.place.offset
    offset = ap (λ (q : Place). q.offset) at

    by_byte : (t : Bool) → IfOk (cond t (Ok (here.offset + 1)) (Err (refusal here (here.offset + 1) BadByte))) (λ stop. IsLast stop w)
    by_byte true = λ le. absurd (omega (arith, offset, le))
    by_byte false = tt

    by_next : (o : Option ℕ) → IsAhead w l o → IfOk (ended_here here o) (λ stop. IsLast stop w)
    by_next None none = λ le. omega (arith, offset, ap (λ (xs : List ℕ). length xs) none.0)
    by_next (Some b) some = by_byte (may_follow b)

    by_length : (t : Bool) → IfOk (cond t (Err (refusal p (p.offset + 1025) TokenTooLong)) (ended_here here next)) (λ stop. IsLast stop w)
    by_length true = tt
    by_length false = by_next next is_ahead

-- nothing was taken for a text whose stop lies within the bytes that were taken before
pub text_unseen : (old new : Window) (stop : ℕ) → TakesWhenUsed old new → given old ≤ given new → IsLast stop new → IsUnseen stop old new
text_unseen old new stop (inl same) taken last le = same
text_unseen old new stop (inr used) taken last le = let all : given new ≤ stop = last (omega (arith, used, le)) in omega (arith, all, taken, le)

-- a read that failed was asked for with no byte at hand
pub halted_used_up : (A : Type 0) (w : Window) (h : Halt) → (h ≡ halts.Failed → w.held ≡ []) → IsErrOf {T = A} (Err (error_of h)) ReadFault → w.held ≡ []
halted_used_up A w halts.Failed none e = none refl
halted_used_up A w halts.TooLong none e = absurd cc
halted_used_up A w halts.NoMemory none e = absurd cc

-- an error of one type of results is that of another
pub of_error : {A B P : Type 0} (e d : ReadError) → (IsErrOf {T = A} (Err e) d → P) → IsErrOf {T = B} (Err e) d → P
of_error {A} {B} {P} e d f h = let same : e ≡ d = cc in f (ap at same)
  where
    at : ReadError → Result A ReadError
    at x = Err x

-- ---- what a run leaves

pub at_place : (p : Place) (old new : Window) (l l' : Option (List ℕ)) (before used : List ℕ) → Uses old new l l' used → old.place ≡ place_past p before → new.place ≡ place_past p (before ++ used)
at_place p old new l l' before used uses begins = uses.place ∙ ap (λ (q : Place). place_past q used) begins ∙ sym (place_past-append p before used)

pub Spans-ending : {class : Class} {m : ℕ} {old new : Window} {l l' : Option (List ℕ)} {before after : List ℕ} {next : Option ℕ}
    → Runs class m old new l l' before after (Ok next) → (p : Place) → length before ≤ 2 → old.place ≡ place_past p before → m ≡ 1025 - length before
    → (here : Place) → here ≡ new.place → (n : ℕ) → n ≡ length after → (result : Result ℕ ReadError) → result ≡ ending p here n next
    → Spans class p old new l l' before after result
Spans-ending {class} {m} {old} {new} {l} {l'} {before} {after} {next} runs p lead begins m-is here here-is n n-is result result-is = record {
  used = runs.used;
  uses = runs.uses;
  each = runs.each;
  added = runs.added;
  short = subst (λ (r : Result ℕ ReadError). OnOk r (length after ≤ 1024)) (sym result-is) (subst (λ (k : ℕ). OnOk (ending p here n next) (k ≤ 1024)) n-is (ending_short p here n next));
  last = subst (λ (r : Result ℕ ReadError). IfOk r (λ stop. IsLast stop new)) (sym result-is) (ending_last p here new l' n next here-is runs.ahead);
  used_up = λ h. absurd (ending_reads p here n next (sym result-is ∙ h));
  answer = λ rest known.
      let t = before ++ runs.used in
      let k = Uses-known old new l l' runs.used rest runs.uses known in
      let whole = ending_answers p here t k.0 next (here-is ∙ at_place p old new l l' before runs.used runs.uses begins) in
      let spelled = span_run (in_class class) before runs.used k.0 next runs.each (omega (arith, runs.bounded)) (IsAhead-known new l' next k.0 runs.ahead k.1)
      (IfSome-weaker next (λ b. IsTrue (in_class class b) → length runs.used ≡ m) (λ b. IsTrue (in_class class b) → length before + length runs.used ≡ 1025) (λ b h t. let e = h t in omega arith) runs.longest) in
      let step1 = subst (λ (x : Result (Piece (List ℕ)) Flaw). Answers p (t ++ k.0) (GivesText p t) x (ending p here (length t) next)) (sym spelled) whole in
      let step2 = subst (λ (bs : List ℕ). Answers p bs (GivesText p t) (span_at (in_class class) (length before) (before ++ (runs.used ++ k.0))) (ending p here (length t) next)) (append_assoc before runs.used k.0) step1 in
      let step3 = subst (λ (r : List ℕ). Answers p (before ++ r) (GivesText p t) (span_at (in_class class) (length before) (before ++ r)) (ending p here (length t) next)) (sym k.2) step2 in
      let step4 = subst (λ (x : List ℕ). Answers p (before ++ rest) (GivesText p x) (span_at (in_class class) (length before) (before ++ rest)) (ending p here (length x) next)) (sym runs.added) step3 in
      subst (λ (r : Result ℕ ReadError). Answers p (before ++ rest) (GivesText p after) (span_at (in_class class) (length before) (before ++ rest)) r) (ap (λ (i : ℕ). ending p here i next) (sym n-is) ∙ sym result-is) step4;
}

abbrev pub at_err : Halt → Result (Option ℕ) Halt
at_err h = Err h

pub halted : (p : Place) (bs : List ℕ) (Gives : Piece (List ℕ) → ℕ → Type 0) (spelled : Result (Piece (List ℕ)) Flaw) (h : Halt) → (h ≡ halts.TooLong → LIMIT < p.offset + seen_of spelled) → Answers p bs Gives spelled (Err (error_of h))
halted p bs Gives (Ok x) halts.Failed late = tt
halted p bs Gives (Err x) halts.Failed late = tt
halted p bs Gives (Ok x) halts.TooLong late = late refl
halted p bs Gives (Err x) halts.TooLong late = late refl
halted p bs Gives (Ok x) halts.NoMemory late = tt
halted p bs Gives (Err x) halts.NoMemory late = tt

pub Spans-halted : {class : Class} {m : ℕ} {old new : Window} {l l' : Option (List ℕ)} {before after : List ℕ} {h : Halt}
    → Runs class m old new l l' before after (Err h) → (p : Place) → length before ≤ 2 → old.place ≡ place_past p before → m ≡ 1025 - length before
    → Spans class p old new l l' before after (Err (error_of h))
Spans-halted {class} {m} {old} {new} {l} {l'} {before} {after} {h} runs p lead begins m-is = record {
  used = runs.used;
  uses = runs.uses;
  each = runs.each;
  added = runs.added;
  short = tt;
  last = tt;
  used_up = halted_used_up ℕ new h (λ is. runs.used_up (ap at_err is));
  answer = λ rest known.
      let k = Uses-known old new l l' runs.used rest runs.uses known in
      let seen = span_seen (in_class class) before runs.used k.0 runs.each (omega (arith, runs.bounded)) in
      let place = ap (λ (q : Place). q.offset) (at_place p old new l l' before runs.used runs.uses begins) ∙ place_past-offset p (before ++ runs.used) in
      subst (λ (r : List ℕ). Answers p (before ++ r) (GivesText p after) (span_at (in_class class) (length before) (before ++ r)) (Err (error_of h))) (sym k.2)
      (halted p (before ++ (runs.used ++ k.0)) (GivesText p after) (span_at (in_class class) (length before) (before ++ (runs.used ++ k.0))) h
      (λ is. let late = runs.too_long (ap at_err is) in omega (arith, late, seen, place, length-append before runs.used)));
}

-- ---- no further than the stop

pub bounded_refusal : (A : Type 0) (q : Place) (stop n : ℕ) (reason : Reason) → n ≤ stop → OnText {A = A} (Err (refusal q stop reason)) (λ t. n ≤ t.stop)
bounded_refusal A q stop n reason le = go (ltb LIMIT stop)
  where
    go : (t : Bool) → OnText {A = A} (Err (cond t TooLong (Text (record { place = q; stop = stop; reason = reason })))) (λ t. n ≤ t.stop)
    go true = tt
    go false = le

pub bounded_ending : (p here : Place) (n : ℕ) (next : Option ℕ) → here.offset ≤ p.offset + 1025
    → OnText (ending p here n next) (λ t. here.offset ≤ t.stop) × IfOk (ending p here n next) (λ stop. here.offset ≤ stop)
bounded_ending p here n next le = by_length (ltb 1024 n)
  where
    by_byte : (t : Bool) → OnText (cond t (Ok (here.offset + 1)) (Err (refusal here (here.offset + 1) BadByte))) (λ t. here.offset ≤ t.stop) × IfOk (cond t (Ok (here.offset + 1)) (Err (refusal here (here.offset + 1) BadByte))) (λ stop. here.offset ≤ stop)
    by_byte true = (tt, omega arith)
    by_byte false = (bounded_refusal ℕ here (here.offset + 1) here.offset BadByte (omega arith), tt)

    by_next : (o : Option ℕ) → OnText (ended_here here o) (λ t. here.offset ≤ t.stop) × IfOk (ended_here here o) (λ stop. here.offset ≤ stop)
    by_next None = (tt, omega arith)
    by_next (Some b) = by_byte (may_follow b)

    by_length : (t : Bool) → OnText (cond t (Err (refusal p (p.offset + 1025) TokenTooLong)) (ended_here here next)) (λ t. here.offset ≤ t.stop) × IfOk (cond t (Err (refusal p (p.offset + 1025) TokenTooLong)) (ended_here here next)) (λ stop. here.offset ≤ stop)
    by_length true = (bounded_refusal ℕ p (p.offset + 1025) here.offset TokenTooLong le, tt)
    by_length false = by_next next

pub Spans-bounded : {class : Class} {m : ℕ} {old new : Window} {l l' : Option (List ℕ)} {before after : List ℕ} {next : Option ℕ}
    → Runs class m old new l l' before after (Ok next) → (p : Place) → length before ≤ 2 → old.place ≡ place_past p before → m ≡ 1025 - length before
    → (here : Place) → here ≡ new.place → (n : ℕ) → (result : Result ℕ ReadError) → result ≡ ending p here n next
    → OnText result (λ t. new.place.offset ≤ t.stop) × IfOk result (λ stop. new.place.offset ≤ stop)
Spans-bounded {class} {m} {old} {new} {l} {l'} {before} {after} {next} runs p lead begins m-is here here-is n result result-is =
    let place = at_place p old new l l' before runs.used runs.uses begins in
    let offset = ap (λ (q : Place). q.offset) place ∙ place_past-offset p (before ++ runs.used) in
    let facts = bounded_ending p here n next (omega (arith, offset, ap (λ (q : Place). q.offset) here-is, length-append before runs.used, runs.bounded)) in
    rw (result-is, ← here-is) facts
