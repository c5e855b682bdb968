-- Tokens that are held whole.
use Rattle.std.proofs.Common.{◌≡◌, ℕ, zero, suc, ◌+◌, ◌<◌, ◌≤◌, Bool, true, false, List, [], ◌∷◌, ◌++◌, ◌-◌, length, length-take, take, drop, get_or, Option, Some, None, Ok, Err, Result, refl, sym, ap, ◌∙◌, subst, arith}
use Rattle.std.proofs.lemmas.Bool.{le-ltb}
use Rattle.std.specs.List.{prefix_len}
use Rattle.nl_base.specs.declared.place.Place.{Place}
use Rattle.nl_base.specs.declared.fault.ReadError.{ReadError}
use Rattle.nl_base.specs.Place.{place_past}
use Rattle.nl_base.proofs.Places.{place_past-offset}
use Rattle.nl_bytes.specs.declared.class.Class.{Class}
use Rattle.nl_bytes.specs.Classes.{AreIn, in_class}
use Rattle.nl_bytes.specs.Bytes.{Window, Runs}
use Rattle.nl_bytes.specs.declared.class.Class.TheVariants.{WordByte, Digit, StringByte}
use Rattle.nl_bytes.specs.declared.bytes.TheConstants.{LIMIT}
use Rattle.nl_bytes.specs.Classes.{is_word_byte, is_string_byte}
use Rattle.nl_bytes.proofs.Known.{Uses-known}
use Rattle.nl_bytes.proofs.Uses.{Uses-none}
use Rattle.nl_bytes.proofs.Fronts.{front-all, held_run}
use Rattle.std.specs.Char.{is_ascii_digit}
use Rattle.std.specs.Prelude.{OnOk, IfOk, IsErrOf, ℤ}
use Rattle.nl_base.specs.Faults.{OnText}
use Rattle.nl_base.specs.declared.fault.Reason.TheVariants.{BadByte, NumberRange}
use Rattle.nl_base.specs.declared.fault.ReadError.TheVariants.{ReadFault, NoMemory, TooLong}
use Rattle.nl_base.specs.Place.{place_after}
use Rattle.edif_tokens.specs.declared.token.Found.{Found}
use Rattle.edif_values.specs.declared.token.Token.{Token}
use Rattle.edif_values.specs.declared.token.Token.TheVariants.{Word, Number, Str}
use Rattle.edif_tokens.proofs.Quoted.{Steps, string_given}
use Rattle.edif_tokens.proofs.Strings.{plain_part}
use Rattle.edif_tokens.specs.declared.lexeme.Spanned.{Spanned}
use Rattle.nl_bytes.specs.Flaws.{Piece, Flaw, refusal}
use Rattle.edif_tokens.specs.Scan.{Answers, IsLed, IsUnseen, IsWhole, IsQuoted, ReadsText, Reads, ending, number_or_refusal, number_found}
use Rattle.edif_tokens.specs.declared.scan.Start.TheVariants.{Other}
use Rattle.edif_tokens.specs.Spelling.{span_at, text_of, text_at, token_by, may_follow, word_of, number_of, number_or_range, integer_of, word_spelled, number_spelled, string_spelled}
use Rattle.edif_tokens.proofs.Spans.{AllPass, GivesText, Spans-ending, refusal_answers, refusal_reads, text_unseen, bounded_refusal}
use Rattle.edif_tokens.proofs.Answering.{GivesSpanned, GivesFound, gives_spanned, Answers-ok, Answers-ok-then}

one_more : (n : ℕ) → 1 + n ≡ suc n
one_more n = omega arith

-- a first byte of the class is one of the run
span-first : (class : ℕ → Bool) (used rest : List ℕ) → 0 < length used → AllPass class used → span_at class 0 (used ++ rest) ≡ span_at class 1 (used ++ rest)
unfolding span_at
span-first class [] rest some all = absurd (omega arith)
span-first class (x ∷ xs) rest some all =
    let n : 0 + prefix_len class (x ∷ (xs ++ rest)) ≡ 1 + prefix_len class (xs ++ rest) = rw all.0 (omega arith) in
    ap (λ (k : ℕ). text_of k (x ∷ (xs ++ rest))) n

-- the bytes of a class at the front
held_shape : (class : Class) (held text : List ℕ) (n : ℕ) → text ≡ take n held → AreIn class text → 0 < n → length text ≤ 1024 → (b : ℕ) (rest : List ℕ) → held ≡ b ∷ rest → IsLed class false b text
held_shape class held text zero is each some short b rest front = absurd (omega arith)
held_shape class held text (suc n) is each some short b rest front =
    let parts : text ≡ b ∷ take n rest = is ∙ ap (λ (xs : List ℕ). take (suc n) xs) front in
    record { rest = take n rest; parts = parts; each = (subst (λ (xs : List ℕ). AreIn class xs) parts each).1; some = λ is. absurd cc; short = short }

pub held_reads : {class : Class} {old new : Window} {l : Option (List ℕ)} {text : List ℕ} {next : ℕ} → Runs class 1025 old new l l [] text (Ok (Some next))
    → (p : Place) → old.place ≡ p → may_follow next ≡ true → {n : ℕ} → text ≡ take n old.held → 0 < n → 0 < length text → length text ≤ 1024 → (y : Spanned) → y.text ≡ text → y.stop ≡ p.offset + length text + 1
    → ReadsText class false p old new l l (Ok y)
held_reads {class} {old} {new} {l} {text} {next} runs p begins follows {n} front some_n some most y text-is stop-is =
    let offset = ap (λ (q : Place). q.offset) (runs.uses.place ∙ ap (λ (q : Place). place_past q runs.used) begins) ∙ place_past-offset p runs.used in
    let same : length text ≡ length runs.used = ap length runs.added in
    let result : Result ℕ ReadError = Ok (new.place.offset + 1) in
    let ends : result ≡ ending p new.place (length text) (Some next) = rw (le-ltb 1024 (length text) most, follows) refl in
    let spans = Spans-ending runs p (omega arith) begins (omega arith) new.place refl (length text) refl result ends in
    record {
      used = runs.used;
      uses = runs.uses;
      some = omega (arith, same);
      shape = λ b rest is. subst (λ (xs : List ℕ). IsLed class false b xs) (sym text-is) (held_shape class old.held text n front (subst (λ (xs : List ℕ). AreIn class xs) (sym runs.added) runs.each) some_n most b rest is);
      unseen = λ le. text_unseen old new y.stop runs.uses.lazy runs.uses.taken (λ past. absurd (omega (arith, past, stop-is, offset, same))) le;
      used_up = λ h. absurd cc;
      answer = λ bs known.
          let k = Uses-known old new l l runs.used bs runs.uses known in
          let one : span_at (in_class class) 0 bs ≡ span_at (in_class class) 1 bs = rw k.2 (span-first (in_class class) runs.used k.0 (omega (arith, same)) runs.each) in
          let given = subst (λ (x : Result (Piece (List ℕ)) Flaw). Answers p bs (GivesText p text) x result) one (spans.answer bs known) in
          Answers-ok p bs (GivesText p text) (GivesSpanned p runs.used) (span_at (in_class class) 1 bs) (new.place.offset + 1) y
          (gives_spanned p text runs.used y (new.place.offset + 1) text-is (omega (arith, stop-is, offset, same)) same) given;
    }

-- bytes of a class that are held whole are a text
whole_text : {class : Class} {old new : Window} {n : ℕ} (l : Option (List ℕ)) → IsWhole class old n → 0 < n → new.held ≡ drop n old.held → new.place ≡ place_past old.place (take n old.held)
    → ReadsText class false old.place old new l l (Ok (record { text = take n old.held; stop = old.place.offset + n + 1 }))
whole_text {class} {old} {new} {n} l whole some held place =
    let len : length (take n old.held) ≡ n = omega (arith, length-take n old.held, whole.more) in
    let runs = held_run {most = 1025} {next = get_or old.held n 0} l whole.run whole.more (omega (arith, whole.short)) (omega (arith, whole.within)) held place refl refl in
    held_reads runs old.place refl whole.follows {n = n} refl some (omega (arith, len)) (omega (arith, len, whole.short)) (record { text = take n old.held; stop = old.place.offset + n + 1 }) refl (omega (arith, len))

-- the bytes that are held whole are in the class
pub whole_each : {class : Class} {w : Window} {n : ℕ} → IsWhole class w n → AreIn class (take n w.held)
whole_each {class} {w} {n} whole = rw whole.run (front-all (in_class class) w.held)

pub whole_shape : {class : Class} {w : Window} {n : ℕ} {text : List ℕ} → IsWhole class w n → 0 < n → text ≡ take n w.held → (b : ℕ) (rest : List ℕ) → w.held ≡ b ∷ rest → IsLed class false b text
whole_shape {class} {w} {n} {text} whole some is b rest ahead =
    held_shape class w.held text n is (subst (λ (xs : List ℕ). AreIn class xs) (sym is) (whole_each whole)) some (omega (arith, ap (λ (xs : List ℕ). length xs) is, length-take n w.held, whole.short)) b rest ahead

-- a word that is held whole is read
pub word_whole : {old new : Window} {n : ℕ} {text : List ℕ} (l : Option (List ℕ)) → IsWhole WordByte old n → 0 < n → new.held ≡ drop n old.held → new.place ≡ place_past old.place (take n old.held) → text ≡ take n old.held
    → (f : Found) → f ≡ record { place = old.place; stop = old.place.offset + n + 1; token = Word text } → Reads (word_spelled false) old.place old new l l (Ok f)
word_whole {old} {new} {n} {text} l whole some held place text-is f f-is =
    let t = whole_text l whole some held place in
    record {
      used = t.used;
      uses = t.uses;
      some = t.some;
      unseen = λ le. t.unseen (omega (arith, le, ap (λ (g : Found). g.stop) f-is));
      used_up = λ h. absurd cc;
      answer = λ bs known. Answers-ok-then old.place bs (GivesSpanned old.place t.used) (GivesFound old.place t.used) word_of (text_at is_word_byte false bs) _ (Ok f)
          (λ piece g. (f-is ∙ ap (λ (x : List ℕ). word_at x (old.place.offset + n + 1)) (text-is ∙ g.0) ∙ ap (λ (x : ℕ). word_at piece.value x) g.1, g.2)) (t.answer bs known);
    }
  where
    word_at : List ℕ → ℕ → Found
    word_at x stop = record { place = old.place; stop = stop; token = Word x }

-- an integer that is held whole is read, or it is out of range
pub number_whole : {old new : Window} {n : ℕ} (l : Option (List ℕ)) → IsWhole Digit old n → 0 < n → new.held ≡ drop n old.held → new.place ≡ place_past old.place (take n old.held)
    → Reads (number_spelled false) old.place old new l l (number_found old.place (old.place.offset + n + 1) (take n old.held))
number_whole {old} {new} {n} l whole some held place =
    let t = whole_text l whole some held place in
    record {
      used = t.used;
      uses = t.uses;
      some = on_ok (integer_of (take n old.held)) (length t.used) t.some;
      unseen = unseen_if (integer_of (take n old.held)) t.unseen;
      used_up = λ h. absurd (no_fault (integer_of (take n old.held)) h);
      answer = λ bs known. Answers-ok-then old.place bs (GivesSpanned old.place t.used) (GivesFound old.place t.used) number_of (text_at is_ascii_digit false bs) _ (number_found old.place (old.place.offset + n + 1) (take n old.held))
          (λ piece g. subst (λ (x : Option ℤ). Answers old.place bs (GivesFound old.place t.used) (number_or_range piece x) (number_found old.place (old.place.offset + n + 1) (take n old.held))) (ap integer_of g.0)
          (go bs piece (integer_of (take n old.held)) t.used g.1 g.2)) (t.answer bs known);
    }
  where
    number_at : ℤ → ℕ → Found
    number_at z stop = record { place = old.place; stop = stop; token = Number z }

    on_ok : (o : Option ℤ) (k : ℕ) → 0 < k → OnOk (number_or_refusal old.place (old.place.offset + n + 1) o) (0 < k)
    on_ok (Some z) k h = h
    on_ok None k h = tt

    unseen_if : (o : Option ℤ) → IsUnseen (old.place.offset + n + 1) old new → IfOk (number_or_refusal old.place (old.place.offset + n + 1) o) (λ f. IsUnseen f.stop old new)
    unseen_if (Some z) h = h
    unseen_if None h = tt

    no_fault : (o : Option ℤ) → IsErrOf (number_or_refusal old.place (old.place.offset + n + 1) o) ReadFault → ⊥
    no_fault (Some z) h = cc
    no_fault None h = refusal_reads Found old.place (old.place.offset + n + 1) NumberRange h

    go : (bs : List ℕ) (piece : Piece (List ℕ)) (o : Option ℤ) (used : List ℕ) → old.place.offset + n + 1 ≡ old.place.offset + piece.seen → piece.count ≡ length used
        → Answers old.place bs (GivesFound old.place used) (number_or_range piece o) (number_or_refusal old.place (old.place.offset + n + 1) o)
    go bs piece (Some z) used stop count = (ap (λ (x : ℕ). number_at z x) stop, count)
    go bs piece None used stop count = refusal_answers {A = Token} {B = Found} old.place bs (GivesFound old.place used) NumberRange 0 piece.seen old.place (old.place.offset + n + 1) refl stop

-- no byte past the stop of an integer was used
pub number_bounded : (p : Place) (stop n : ℕ) (o : Option ℤ) → n ≤ stop → OnText (number_or_refusal p stop o) (λ t. n ≤ t.stop)
number_bounded p stop n (Some z) le = tt
number_bounded p stop n None le = bounded_refusal Found p stop n NumberRange le

pub number_ended : (p : Place) (stop n : ℕ) (o : Option ℤ) → n ≤ stop → IfOk (number_or_refusal p stop o) (λ f. n ≤ f.stop)
number_ended p stop n (Some z) le = le
number_ended p stop n None le = tt

pub string_each : {old a : Window} {n : ℕ} → Steps old a 34 → IsQuoted old n → AreIn StringByte (take (n - 2) a.held)
string_each {old} {a} {n} s q =
    let run : n - 2 ≡ prefix_len is_string_byte (drop 1 old.held) = omega (arith, q.run) in
    rw (s.held, run) (front-all is_string_byte (drop 1 old.held))

-- the bytes of a string that is held whole, behind its first quote
pub string_run : {old a b : Window} {n : ℕ} {text : List ℕ} (l : Option (List ℕ)) → Steps old a 34 → IsQuoted old n → length old.held ≤ 4096 → b.held ≡ drop (n - 2) a.held → b.place ≡ place_past a.place (take (n - 2) a.held)
    → text ≡ take (n - 2) a.held → Runs StringByte 1048576 a b l l [] text (Ok (Some 34))
string_run {old} {a} {b} {n} {text} l s q small held place text-is =
    let count : n - 2 ≡ prefix_len is_string_byte (drop 1 old.held) = omega (arith, q.run) in
    let run : n - 2 ≡ prefix_len is_string_byte a.held = count ∙ ap (prefix_len is_string_byte) (sym s.held) in
    let tail : a.held ≡ s.tail = s.held ∙ ap (λ (xs : List ℕ). drop 1 xs) s.ahead in
    let len : length old.held ≡ 1 + length a.held = omega (arith, ap (λ (xs : List ℕ). length xs) s.ahead, ap (λ (xs : List ℕ). length xs) tail) in
    let quote : get_or a.held (n - 2) 0 ≡ 34 = ap (λ (xs : List ℕ). get_or xs (n - 2) 0) s.held ∙ ap (λ (k : ℕ). get_or (drop 1 old.held) k 0) count ∙ q.quote in
    held_run {class = StringByte} {most = 1048576} {old = a} {new = b} {n = n - 2} {next = 34} {text = text} l run (omega (arith, q.run, q.enough, len)) (omega (arith, q.enough, small))
    (omega (arith, ap (λ (w : Place). w.offset) s.place, q.within, q.run)) held place text-is (sym quote)

-- where the last quote of a string that is held whole stands
pub string_stop : {old a : Window} {n : ℕ} (b : Window) → Steps old a 34 → IsQuoted old n → b.place ≡ place_past a.place (take (n - 2) a.held) → b.place.offset + 1 ≡ old.place.offset + n
string_stop {old} {a} {n} b s q place =
    let tail : a.held ≡ s.tail = s.held ∙ ap (λ (xs : List ℕ). drop 1 xs) s.ahead in
    let len : length old.held ≡ 1 + length a.held = omega (arith, ap (λ (xs : List ℕ). length xs) s.ahead, ap (λ (xs : List ℕ). length xs) tail) in
    omega (arith, ap (λ (w : Place). w.offset) place, place_past-offset a.place (take (n - 2) a.held), length-take (n - 2) a.held, ap (λ (w : Place). w.offset) s.place, q.run, q.enough, len)

-- a string that is held whole is read
pub string_whole : {old a b new : Window} {n : ℕ} {text : List ℕ} (l : Option (List ℕ)) → (s : Steps old a 34) → (q : IsQuoted old n) → (small : length old.held ≤ 4096) → (held : b.held ≡ drop (n - 2) a.held) → (place : b.place ≡ place_past a.place (take (n - 2) a.held))
    → new.held ≡ drop 1 b.held → new.place ≡ place_after b.place (get_or b.held 0 0) → (text-is : text ≡ take (n - 2) a.held) → (f : Found) → f ≡ record { place = old.place; stop = old.place.offset + n; token = Str text }
    → Reads string_spelled old.place old new l l (Ok f)
string_whole {old} {a} {b} {new} {n} {text} l s q small held place held2 place2 text-is f f-is =
    let runs = string_run {old = old} {a = a} {b = b} {n = n} {text = text} l s q small held place text-is in
    let closing : Steps b new 34 = record { tail = runs.ahead.0; ahead = runs.ahead.1; held = held2; place = place2 } in
    let stop : b.place.offset + 1 ≡ old.place.offset + n = string_stop b s q place in
    string_given {v = []} {w = text} old.place s refl refl (plain_part {m = 1048576} {v = []} runs refl old.place old.place) closing f (f-is ∙ ap (λ (x : ℕ). str_at x) (sym stop))
  where
    str_at : ℕ → Found
    str_at x = record { place = old.place; stop = x; token = Str text }

-- nothing was used where memory ran out
pub reads_nothing : (spelled : List ℕ → Result (Piece Token) Flaw) (p : Place) (w : Window) (l : Option (List ℕ)) → Reads spelled p w w l l (Err NoMemory)
reads_nothing spelled p w l = record { used = []; uses = Uses-none w l; some = tt; unseen = tt; used_up = λ h. absurd cc; answer = λ bs known. free (spelled bs) p bs }
  where
    free : (x : Result (Piece Token) Flaw) (p : Place) (bs : List ℕ) → Answers {B = Found} p bs (GivesFound p []) x (Err NoMemory)
    free (Ok x) p bs = tt
    free (Err x) p bs = tt

-- no token begins with the byte ahead
pub reads_other : (w : Window) (l : Option (List ℕ)) (p : Place) → p ≡ w.place → Reads (token_by Other) w.place w w l l (Err (refusal p (p.offset + 1) BadByte))
reads_other w l p is = rw is (record {
  used = [];
  uses = Uses-none w l;
  some = tt;
  unseen = tt;
  used_up = λ h. absurd (refusal_reads Found w.place (w.place.offset + 1) BadByte h);
  answer = λ bs known. refusal_answers {A = Token} {B = Found} w.place bs (GivesFound w.place []) BadByte 0 1 w.place (w.place.offset + 1) refl refl;
})

-- a token whose stop is past the limit
pub reads_over : {spelled : List ℕ → Result (Piece Token) Flaw} {p : Place} {old new : Window} {l l' : Option (List ℕ)} {f : Found} → Reads spelled p old new l l' (Ok f) → LIMIT < f.stop → Reads spelled p old new l l' (Err TooLong)
reads_over {spelled} {p} {old} {new} {l} {l'} {f} t over = record { used = t.used; uses = t.uses; some = tt; unseen = tt; used_up = λ h. absurd cc; answer = λ bs known. late bs (spelled bs) (t.answer bs known) }
  where
    late : (bs : List ℕ) (x : Result (Piece Token) Flaw) → Answers p bs (GivesFound p t.used) x (Ok f) → Answers {B = Found} p bs (GivesFound p t.used) x (Err TooLong)
    late bs (Ok piece) h = omega (arith, over, ap (λ (y : Found). y.stop) h.0)
    late bs (Err x) h = absurd h
