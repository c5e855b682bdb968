-- What of the tokens has its stop within the limit of an input, and what is told of them.
use Rattle.std.proofs.Common.{◌≡◌, ℕ, ◌-◌, ◌<◌, ◌≤◌, Bool, true, false, cond, ltb, List, [], ◌∷◌, ◌++◌, length, Option, Some, None, Result, Err, refl, sym, ap, ◌∙◌, subst, arith, length-append}
use Rattle.std.specs.Prelude.{option_map}
use Rattle.std.specs.List.{AllByRecursion}
use Rattle.std.proofs.lemmas.Bool.{lt-ltb, le-ltb, ltb-false}
use Rattle.grammar.specs.Whole.{Terminal, proper, end, Finish, Done, Bad, Over}
use Rattle.nl_base.specs.declared.place.Place.{Place}
use Rattle.nl_base.specs.declared.fault.TextFault.{TextFault}
use Rattle.nl_base.specs.declared.fault.ReadError.{ReadError}
use Rattle.nl_bytes.specs.declared.bytes.TheConstants.{LIMIT}
use Rattle.nl_bytes.specs.declared.halt.Halt.{Halt}
use Rattle.nl_bytes.specs.declared.halt.Halt.TheVariants as halts
use Rattle.nl_bytes.specs.Halts.{error_of}
use Rattle.nl_bytes.specs.Bytes.{Window, Uses, input, given}
use Rattle.nl_bytes.specs.Tokens.{Ahead, follow, only_end, no_token, limited, limited_from, limited_finish, Tells, TellsKnown}
use Rattle.nl_bytes.proofs.Known.{Uses-known}
use Rattle.nl_io.specs.Sources.{left_past}

-- ---- a token, a fault and the end

pub token_late : {X : Type 0} (stop : X → ℕ) (x : X) (s : Ahead X) → LIMIT < stop x → limited stop (follow x s) ≡ no_token X Over
unfolding limited
token_late stop x s late = rw (lt-ltb LIMIT (stop x) late) refl

pub token_near : {X : Type 0} (stop : X → ℕ) (x : X) (s : Ahead X) → stop x ≤ LIMIT → limited stop (follow x s) ≡ follow x (limited stop s)
unfolding limited
token_near stop x s near = rw (le-ltb LIMIT (stop x) near) refl

pub fault_late : {X : Type 0} (stop : X → ℕ) (fault : TextFault) → LIMIT < fault.stop → limited stop (no_token X (Bad fault)) ≡ no_token X Over
unfolding limited
fault_late stop fault late = rw (lt-ltb LIMIT fault.stop late) refl

pub fault_near : {X : Type 0} (stop : X → ℕ) (fault : TextFault) → fault.stop ≤ LIMIT → limited stop (no_token X (Bad fault)) ≡ no_token X (Bad fault)
unfolding limited
fault_near stop fault near = rw (le-ltb LIMIT fault.stop near) refl

pub end_late : {X : Type 0} (stop : X → ℕ) (p : Place) → LIMIT < p.offset → limited stop (only_end X p) ≡ no_token X Over
unfolding limited
end_late stop p late = rw (lt-ltb LIMIT p.offset late) refl

pub end_near : {X : Type 0} (stop : X → ℕ) (p : Place) → p.offset ≤ LIMIT → limited stop (only_end X p) ≡ only_end X p
unfolding limited
end_near stop p near = rw (le-ltb LIMIT p.offset near) refl

-- ---- the tokens within the limit are a front of all

abbrev IsFront : {X : Type 0} → List X → List X → Type 0
IsFront {X} ys xs = (rest : List X) × (xs ≡ ys ++ rest)

front_by : {X : Type 0} (t : Bool) (xs : List (Terminal X Place)) (s : Ahead X) → IsFront s.tokens xs → IsFront (cond t (no_token X Over) s).tokens xs
front_by true xs s f = (xs, refl)
front_by false xs s f = f

finish_front : {X : Type 0} (finish : Finish TextFault) → (limited_finish X finish).tokens ≡ []
finish_front Done = refl
finish_front {X} (Bad fault) = by (ltb LIMIT fault.stop)
  where
    by : (t : Bool) → (cond t (no_token X Over) (no_token X (Bad fault))).tokens ≡ []
    by true = refl
    by false = refl
finish_front Over = refl

front_of : {X : Type 0} (stop : X → ℕ) (xs : List (Terminal X Place)) (finish : Finish TextFault) → IsFront (limited_from stop xs finish).tokens xs
front_of {X} stop [] finish = ([], ap (λ (z : List (Terminal X Place)). z ++ []) (sym (finish_front finish)))
front_of {X} stop (proper x ∷ xs) finish =
    let f = front_of stop xs finish in
    front_by (ltb LIMIT (stop x)) (proper x ∷ xs) (follow x (limited_from stop xs finish)) (f.0, ap (λ (z : List (Terminal X Place)). proper x ∷ z) f.1)
front_of {X} stop (end p ∷ xs) finish = front_by (ltb LIMIT p.offset) (end p ∷ xs) (only_end X p) (xs, refl)

pub limited_front : {X : Type 0} (stop : X → ℕ) (s : Ahead X) → (rest : List (Terminal X Place)) × (s.tokens ≡ (limited stop s).tokens ++ rest)
unfolding limited
limited_front stop s = front_of stop s.tokens s.finish

-- what holds of each token holds of each within the limit
pub limited_each : {X : Type 0} (P : Terminal X Place → Type 0) (stop : X → ℕ) (s : Ahead X) → AllByRecursion P s.tokens → AllByRecursion P (limited stop s).tokens
limited_each {X} P stop s all = let f = limited_front stop s in before (limited stop s).tokens f.0 (subst (AllByRecursion P) f.1 all)
  where
    before : (ys rest : List (Terminal X Place)) → AllByRecursion P (ys ++ rest) → AllByRecursion P ys
    before [] rest all = tt
    before (y ∷ ys) rest all = (all.0, before ys rest all.1)

pub limited_few : {X : Type 0} (stop : X → ℕ) (s : Ahead X) → length (limited stop s).tokens ≤ length s.tokens
limited_few {X} stop s =
    let f = limited_front stop s in
    omega (arith, ap (λ (xs : List (Terminal X Place)). length xs) f.1, length-append (limited stop s).tokens f.0)

-- ---- how the tokens within the limit end

bad_of : {X : Type 0} (stop : X → ℕ) (xs : List (Terminal X Place)) (finish : Finish TextFault) (fault : TextFault) → (limited_from stop xs finish).finish ≡ Bad fault
    → (record { tokens = xs; finish = finish } ≡ limited_from stop xs finish) × (fault.stop ≤ LIMIT)
bad_of stop [] Done fault e = absurd cc
bad_of {X} stop [] (Bad other) fault e = by (ltb LIMIT other.stop) refl e
  where
    by : (t : Bool) → ltb LIMIT other.stop ≡ t → (cond t (no_token X Over) (no_token X (Bad other))).finish ≡ Bad fault → (no_token X (Bad other) ≡ cond t (no_token X Over) (no_token X (Bad other))) × (fault.stop ≤ LIMIT)
    by true is e = absurd cc
    by false is e = let h = ltb-false _ _ is in let same : other ≡ fault = cc in (refl, rw (sym same) (omega (arith, h)))
bad_of stop [] Over fault e = absurd cc
bad_of {X} stop (proper x ∷ xs) finish fault e = by (ltb LIMIT (stop x)) (bad_of stop xs finish fault) e
  where
    rest : Ahead X
    rest = limited_from stop xs finish

    all : Ahead X
    all = record { tokens = xs; finish = finish }

    by : (t : Bool) → (rest.finish ≡ Bad fault → (all ≡ rest) × (fault.stop ≤ LIMIT)) → (cond t (no_token X Over) (follow x rest)).finish ≡ Bad fault → (follow x all ≡ cond t (no_token X Over) (follow x rest)) × (fault.stop ≤ LIMIT)
    by true below e = absurd cc
    by false below e = let r = below e in (ap (follow x) r.0, r.1)
bad_of {X} stop (end p ∷ xs) finish fault e = by (ltb LIMIT p.offset) e
  where
    by : (t : Bool) → (cond t (no_token X Over) (only_end X p)).finish ≡ Bad fault → (record { tokens = end p ∷ xs; finish = finish } ≡ cond t (no_token X Over) (only_end X p)) × (fault.stop ≤ LIMIT)
    by true e = absurd cc
    by false e = absurd cc

-- where bytes that are no token are found within the limit, all tokens end there
pub bad_within : {X : Type 0} (stop : X → ℕ) (s : Ahead X) (fault : TextFault) → (limited stop s).finish ≡ Bad fault → (s ≡ limited stop s) × (fault.stop ≤ LIMIT)
unfolding limited
bad_within stop s fault e = bad_of stop s.tokens s.finish fault e

nothing_there : {X : Type 0} (before rest : List X) (x : X) → [] ≡ before ++ x ∷ rest → ⊥
nothing_there [] rest x e = absurd cc
nothing_there (y ∷ before) rest x e = absurd cc

done_of : {X : Type 0} (stop : X → ℕ) (xs : List (Terminal X Place)) (finish : Finish TextFault) (before rest : List (Terminal X Place)) (p : Place)
    → (limited_from stop xs finish).tokens ≡ before ++ end p ∷ rest → (limited_from stop xs finish).finish ≡ Done
done_of stop [] finish before rest p e = absurd (nothing_there before rest (end p) (sym (finish_front finish) ∙ e))
done_of {X} stop (proper x ∷ xs) finish before rest p e = by (λ b k. done_of stop xs finish b rest p k) (ltb LIMIT (stop x)) e
  where
    s : Ahead X
    s = limited_from stop xs finish

    below : ((b : List (Terminal X Place)) → s.tokens ≡ b ++ end p ∷ rest → s.finish ≡ Done) → (b : List (Terminal X Place)) → proper x ∷ s.tokens ≡ b ++ end p ∷ rest → s.finish ≡ Done
    below further [] e = absurd cc
    below further (z ∷ b) e = further b cc

    by : ((b : List (Terminal X Place)) → s.tokens ≡ b ++ end p ∷ rest → s.finish ≡ Done) → (t : Bool) → (cond t (no_token X Over) (follow x s)).tokens ≡ before ++ end p ∷ rest → (cond t (no_token X Over) (follow x s)).finish ≡ Done
    by further true e = absurd (nothing_there before rest (end p) e)
    by further false e = below further before e
done_of {X} stop (end q ∷ xs) finish before rest p e = by (ltb LIMIT q.offset) e
  where
    by : (t : Bool) → (cond t (no_token X Over) (only_end X q)).tokens ≡ before ++ end p ∷ rest → (cond t (no_token X Over) (only_end X q)).finish ≡ Done
    by true e = absurd (nothing_there before rest (end p) e)
    by false e = refl

-- where the end is looked at, all bytes are
pub done_there : {X : Type 0} (stop : X → ℕ) (s : Ahead X) (before rest : List (Terminal X Place)) (p : Place) → (limited stop s).tokens ≡ before ++ end p ∷ rest → (limited stop s).finish ≡ Done
unfolding limited
done_there stop s before rest p e = done_of stop s.tokens s.finish before rest p e

-- ---- what is told

unknown : (old new : Window) (l m : Option (List ℕ)) (n : ℕ) → m ≡ left_past n l → input old l ≡ None → input new m ≡ None
unknown old new None m n suffix e = ap (λ (o : Option (List ℕ)). input new o) suffix
unknown old new (Some bs) m n suffix e = absurd cc

-- a source that does not tell its bytes goes on so
pub Uses-unknown : {old new : Window} {l m : Option (List ℕ)} {used : List ℕ} → Uses old new l m used → input old l ≡ None → input new m ≡ None
Uses-unknown {old} {new} {l} {m} u e = unknown old new l m (given new - given old) u.suffix e

-- what is told where the source tells its bytes
pub told_by : {X : Type 0} {old new : Window} {l m : Option (List ℕ)} {used : List ℕ} (F G : List ℕ → Ahead X) (r : Result (Option X) ReadError) → Uses old new l m used
    → ((bs rest : List ℕ) → input old l ≡ Some bs → input new m ≡ Some rest → bs ≡ used ++ rest → Tells (F bs) r new (G rest)) → TellsKnown (option_map F (input old l)) r new (option_map G (input new m))
told_by {X} {old} {new} {l} {m} {used} F G r u h = go (input old l) refl
  where
    go : (o : Option (List ℕ)) → input old l ≡ o → TellsKnown (option_map F o) r new (option_map G (input new m))
    go None e = ap (λ (o : Option (List ℕ)). option_map G o) (Uses-unknown u e)
    go (Some bs) e = let k = Uses-known old new l m used bs u e in subst (λ (o : Option (List ℕ)). TellsKnown (Some (F bs)) r new (option_map G o)) (sym k.1) (h bs k.0 e k.1 k.2)

-- where a reader halts for want of bytes within the limit, no token is ahead of it
pub halt_told : {X : Type 0} (h : Halt) (s : Ahead X) (now : Window) (t : Ahead X) → (h ≡ halts.TooLong → s ≡ no_token X Over) → Tells s (Err (error_of h)) now t
halt_told halts.Failed s now t over = tt
halt_told halts.TooLong s now t over = over refl
halt_told halts.NoMemory s now t over = tt
