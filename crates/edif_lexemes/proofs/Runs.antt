-- Words and integers: what their reader makes of a first byte and a run of a class, and what follows.
use Rattle.std.proofs.Common.{◌≡◌, ℕ, suc, ◌+◌, ◌<◌, ◌≤◌, Bool, true, false, cond, ltb, List, [], ◌∷◌, ◌++◌, length, take, drop, Ok, IsTrue, refl, sym, ap, ◌∙◌, subst, arith, length-append, length-take, append_assoc, zero}
use Rattle.std.specs.List.{AllByRecursion, prefix_len}
use Rattle.std.proofs.lemmas.Bool.{lt-ltb, le-ltb, ltb-true, ltb-false}
use Rattle.std.proofs.lemmas.List.{take_at, drop_at, take-append-drop}
use Rattle.nl_base.specs.declared.fault.Reason.TheVariants.{EndOfInput, BadByte, TokenTooLong}
use Rattle.nl_bytes.specs.Bytes.{first}
use Rattle.nl_bytes.proofs.Uses.{AllByRecursion-append}
use Rattle.nl_bytes.specs.Flaws.{flaw}
use Rattle.edif_tokens.specs.Spelling.{span_at, text_of, text_at, ended, may_follow}
use Rattle.edif_lexemes.specs.Lexemes.{EndsRun, one_of}
use Rattle.edif_lexemes.proofs.Moves.{Spelled}

abbrev pub AllPass : (ℕ → Bool) → List ℕ → Type 0
AllPass class bytes = AllByRecursion (λ b. IsTrue (class b)) bytes

-- the first byte, if any, is not of a class
abbrev pub StopsAt : (ℕ → Bool) → List ℕ → Type 0
StopsAt class [] = Unit {0}
StopsAt class (b ∷ bs) = class b ≡ false

-- the longest run of a class at the front
pub record Split (class : ℕ → Bool) (bytes : List ℕ) : Type 0 where
  pub run : List ℕ
  pub behind : List ℕ
  pub parts : bytes ≡ run ++ behind
  pub each : AllPass class run
  pub stops : StopsAt class behind

pub split : (class : ℕ → Bool) (bytes : List ℕ) → Split class bytes
split class [] = record { run = []; behind = []; parts = refl; each = tt; stops = tt }
split class (b ∷ bs) = by (class b) refl (split class bs)
  where
    by : (t : Bool) → class b ≡ t → Split class bs → Split class (b ∷ bs)
    by true e s = record { run = b ∷ s.run; behind = s.behind; parts = ap (λ (z : List ℕ). b ∷ z) s.parts; each = (e, s.each); stops = s.stops }
    by false e s = record { run = []; behind = b ∷ bs; parts = refl; each = tt; stops = e }

pub run_length : (class : ℕ → Bool) (run behind : List ℕ) → AllPass class run → StopsAt class behind → prefix_len class (run ++ behind) ≡ length run
run_length class [] [] each stops = refl
run_length class [] (b ∷ bs) each stops = rw stops refl
run_length class (b ∷ bs) behind each stops = rw each.0 (omega (arith, run_length class bs behind each.1 stops))

-- a run in front of other bytes is within the longest
pub run_within : (class : ℕ → Bool) (run behind : List ℕ) → AllPass class run → length run ≤ prefix_len class (run ++ behind)
run_within class [] behind each = omega arith
run_within class (b ∷ bs) behind each = rw each.0 (omega (arith, run_within class bs behind each.1))

-- a first byte and a run, which is the longest
span_is : (class : ℕ → Bool) (b : ℕ) (run behind : List ℕ) → AllPass class run → StopsAt class behind
    → span_at class 1 (b ∷ (run ++ behind)) ≡ cond (ltb 1024 (suc (length run))) (flaw TokenTooLong 0 1025) (ended (b ∷ run) (suc (length run)) (first behind))
unfolding span_at
span_is class b run behind each stops =
    let bs : List ℕ = b ∷ (run ++ behind) in
    let n : 1 + prefix_len class (run ++ behind) ≡ suc (length run) = omega (arith, run_length class run behind each stops) in
    ap (λ (k : ℕ). text_of k bs) n ∙ (rw (take_at (b ∷ run) behind (suc (length run)) refl, drop_at (b ∷ run) behind (suc (length run)) refl) refl)

-- What the reader of a word or an integer makes of a first byte and those behind it; `lead` says that one of the class has to follow it.
pub data TextRow (class : ℕ → Bool) (lead : Bool) (b : ℕ) (bs : List ℕ) : Spelled → Type 0 where
  whole : (run behind : List ℕ) → bs ≡ run ++ behind → AllPass class run → StopsAt class behind → (lead ≡ true → 0 < length run)
      → suc (length run) ≤ 1024 → EndsRun behind
      → TextRow class lead b bs (Ok (record { value = b ∷ run; count = suc (length run); seen = suc (length run) + one_of behind }))
  lone : lead ≡ true → bs ≡ [] → TextRow class lead b bs (flaw EndOfInput 1 1)
  other : (c : ℕ) (rest : List ℕ) → lead ≡ true → bs ≡ c ∷ rest → class c ≡ false → TextRow class lead b bs (flaw BadByte 1 2)
  long : (run rest : List ℕ) → bs ≡ run ++ rest → AllPass class run → length run ≡ 1024 → TextRow class lead b bs (flaw TokenTooLong 0 1025)
  cut : (run : List ℕ) (c : ℕ) (rest : List ℕ) → bs ≡ run ++ c ∷ rest → AllPass class run → (lead ≡ true → 0 < length run) → suc (length run) ≤ 1024
      → class c ≡ false → may_follow c ≡ false → TextRow class lead b bs (flaw BadByte (suc (length run)) (suc (length run) + 1))

-- ---- from the bytes to the table

all_front : (class : ℕ → Bool) (n : ℕ) (bytes : List ℕ) → AllPass class bytes → AllPass class (take n bytes)
all_front class n [] each = take_none n
  where
    take_none : (n : ℕ) → AllPass class (take n [])
    take_none zero = tt
    take_none (suc n) = tt
all_front class zero (b ∷ bs) each = tt
all_front class (suc n) (b ∷ bs) each = (each.0, all_front class n bs each.1)

span_row : (class : ℕ → Bool) (lead : Bool) (b : ℕ) (bs : List ℕ) (s : Split class bs) → (lead ≡ true → 0 < length s.run)
    → TextRow class lead b bs (span_at class 1 (b ∷ bs))
span_row class lead b bs s some =
    subst (λ (z : Spelled). TextRow class lead b bs z) (sym (ap (λ (z : List ℕ). span_at class 1 (b ∷ z)) s.parts ∙ span_is class b s.run s.behind s.each s.stops))
    (by_length (ltb 1024 (suc (length s.run))) refl)
  where
    n : ℕ
    n = suc (length s.run)

    by_follow : (c : ℕ) (rest : List ℕ) → s.behind ≡ c ∷ rest → n ≤ 1024 → (t : Bool) → may_follow c ≡ t
        → TextRow class lead b bs (cond t (Ok (record { value = b ∷ s.run; count = n; seen = n + 1 })) (flaw BadByte n (n + 1)))
    by_follow c rest e le true f =
        whole s.run (c ∷ rest) (s.parts ∙ ap (λ (z : List ℕ). s.run ++ z) e) s.each (subst (λ (z : List ℕ). StopsAt class z) e s.stops) some le f
    by_follow c rest e le false f =
        cut s.run c rest (s.parts ∙ ap (λ (z : List ℕ). s.run ++ z) e) s.each some le (subst (λ (z : List ℕ). StopsAt class z) e s.stops) f

    by_behind : (behind : List ℕ) → s.behind ≡ behind → n ≤ 1024 → TextRow class lead b bs (ended (b ∷ s.run) n (first behind))
    by_behind [] e le =
        subst (λ (k : ℕ). TextRow class lead b bs (Ok (record { value = b ∷ s.run; count = n; seen = k }))) (omega arith)
        (whole s.run [] (s.parts ∙ ap (λ (z : List ℕ). s.run ++ z) e) s.each tt some le tt)
    by_behind (c ∷ rest) e le = by_follow c rest e le (may_follow c) refl

    by_length : (t : Bool) → ltb 1024 n ≡ t → TextRow class lead b bs (cond t (flaw TokenTooLong 0 1025) (ended (b ∷ s.run) n (first s.behind)))
    by_length true e =
        let lt = ltb-true _ _ e in
        let front : List ℕ = take 1024 s.run in
        long front (drop 1024 s.run ++ s.behind) (s.parts ∙ ap (λ (z : List ℕ). z ++ s.behind) (sym (take-append-drop 1024 s.run)) ∙ append_assoc front (drop 1024 s.run) s.behind)
        (all_front class 1024 s.run s.each) (omega (arith, lt, length-take 1024 s.run))
    by_length false e = by_behind s.behind refl (ltb-false _ _ e)

pub text_sound : (class : ℕ → Bool) (lead : Bool) (b : ℕ) (bs : List ℕ) → TextRow class lead b bs (text_at class lead (b ∷ bs))
text_sound class false b bs = span_row class false b bs (split class bs) (λ e. absurd cc)
text_sound class true b [] = lone refl refl
text_sound class true b (c ∷ cs) = by (class c) refl
  where
    some : (s : Split class (c ∷ cs)) → class c ≡ true → 0 < length s.run
    some s e = go s.run s.behind s.parts s.stops
      where
        go : (run behind : List ℕ) → c ∷ cs ≡ run ++ behind → StopsAt class behind → 0 < length run
        go (x ∷ xs) behind parts stops = omega arith
        go [] [] parts stops = absurd cc
        go [] (x ∷ xs) parts stops = let same : c ≡ x = cc in absurd (let no : class c ≡ false = ap class same ∙ stops in cc)

    by : (t : Bool) → class c ≡ t → TextRow class true b (c ∷ cs) (cond t (span_at class 1 (b ∷ c ∷ cs)) (flaw BadByte 1 2))
    by true e = let s = split class (c ∷ cs) in span_row class true b (c ∷ cs) s (λ _. some s e)
    by false e = other c cs refl refl e

-- ---- from the table to the bytes

-- with a byte of the class where one has to stand, a text is read as a run
led_run : (class : ℕ → Bool) (lead : Bool) (b : ℕ) (run rest : List ℕ) → AllPass class run → (lead ≡ true → 0 < length run)
    → text_at class lead (b ∷ (run ++ rest)) ≡ span_at class 1 (b ∷ (run ++ rest))
led_run class false b run rest each some = refl
led_run class true b [] rest each some = absurd (let k = some refl in omega arith)
led_run class true b (c ∷ cs) rest each some = rw each.0 refl

ended_well : (text : List ℕ) (n : ℕ) (behind : List ℕ) → EndsRun behind
    → ended text n (first behind) ≡ Ok (record { value = text; count = n; seen = n + one_of behind })
ended_well text n [] ends = ap (λ (k : ℕ). Ok (record { value = text; count = n; seen = k })) (omega arith)
ended_well text n (c ∷ cs) ends = rw ends refl

stops_by : (class : ℕ → Bool) (c : ℕ) (rest : List ℕ) → class c ≡ false → StopsAt class (c ∷ rest)
stops_by class c rest e = e

pub text_complete : (class : ℕ → Bool) (lead : Bool) (b : ℕ) (bs : List ℕ) (x : Spelled) → TextRow class lead b bs x → text_at class lead (b ∷ bs) ≡ x
text_complete class lead b bs x (whole run behind parts each stops some short ends) =
    ap (λ (z : List ℕ). text_at class lead (b ∷ z)) parts ∙ led_run class lead b run behind each some ∙ span_is class b run behind each stops
    ∙ rw (le-ltb 1024 (suc (length run)) short) (ended_well (b ∷ run) (suc (length run)) behind ends)
text_complete class lead b bs x (lone leads none) = rw (leads, none) refl
text_complete class lead b bs x (other c rest leads parts differs) = rw (leads, parts) (rw differs refl)
text_complete class lead b bs x (long run rest parts each count) =
    let s = split class rest in
    let whole : bs ≡ (run ++ s.run) ++ s.behind = parts ∙ ap (λ (z : List ℕ). run ++ z) s.parts ∙ sym (append_assoc run s.run s.behind) in
    let all = AllByRecursion-append (λ y. IsTrue (class y)) run s.run each s.each in
    let more = length-append run s.run in
    ap (λ (z : List ℕ). text_at class lead (b ∷ z)) whole ∙ led_run class lead b (run ++ s.run) s.behind all (λ _. omega (arith, more, count)) ∙ span_is class b (run ++ s.run) s.behind all s.stops
    ∙ rw (lt-ltb 1024 (suc (length (run ++ s.run))) (omega (arith, more, count))) refl
text_complete class lead b bs x (cut run c rest parts each some short differs follow) =
    ap (λ (z : List ℕ). text_at class lead (b ∷ z)) parts ∙ led_run class lead b run (c ∷ rest) each some ∙ span_is class b run (c ∷ rest) each differs
    ∙ rw (le-ltb 1024 (suc (length run)) short, follow) refl
