-- What a choice by the next token and a loop read as, after the token was taken or looked at.
use Rattle.std.proofs.Common.{◌≡◌, Bool, true, false, List, [], ◌∷◌, Option, Some, None, Result, Ok, Err, refl, sym, ap, ◌∙◌}
use Rattle.grammar.specs.Part.{gives, sequence, under, Glance, takes, refuses, leaves}
use Rattle.grammar.specs.Reading.{Found, and_then, glanced, look_ahead, take_token, read}
use Rattle.grammar.specs.Whole.{Terminal, proper, end, Finish}
use Rattle.grammar.proofs.Loops.{read_loop}
use Rattle.nl_base.specs.declared.place.Place.{Place}
use Rattle.nl_base.specs.declared.fault.TextFault.{TextFault}
use Rattle.nl_base.specs.declared.fault.Reason.{Reason}
use Rattle.nl_base.specs.declared.fault.ReadError.{ReadError}
use Rattle.nl_base.specs.declared.fault.ReadError.TheVariants as errors
use Rattle.readers.specs.Parts.{PartOf, of_token, at_token, one, any, if_next, while_next, maybe, pick}
use Rattle.nl_bytes.specs.Tokens.{Ahead, Language}
use Rattle.readers.specs.Readers.{result_of, reading, then_left, on_result, on, fault_at, finish_error, look_result, looking, FirstFits, IsNext, IsToken, IsCause}
use Rattle.std.proofs.lemmas.List.{map_push}
use Rattle.readers.proofs.Moving.{near_text, skip_none}
use Rattle.readers.proofs.Reading.{reading_then, reading_one, cause_on, cause_judge, no_memory, read_fault, sequences}
use Rattle.readers.proofs.Looking.{ok_first, ok_second}

-- parts that read the tokens alike
pub reads_alike : {K X Y : Type 0} (L : Language X) (p q : PartOf K X Y) (k : K) (s : Option (Ahead X)) → ((ts : List (Terminal X Place)) → read k p ts ≡ read k q ts) → reading L p k s ≡ reading L q k s
unfolding reading
reads_alike L p q k None all = refl
reads_alike L p q k (Some s) all = ap (λ r. Some (result_of L s.finish r)) (all s.tokens)

pub read_grouped : {K X A B C : Type 0} (p : PartOf K X A) (q : A → PartOf K X B) (r : B → PartOf K X C) (k : K) (ts : List (Terminal X Place)) → read k (sequence (sequence p q) r) ts ≡ read k (sequence p (λ u. sequence (q u) r)) ts
read_grouped {X = X} {A = A} p q r k ts = by (read k p ts)
  where
    by : (o : Found (Terminal X Place) Reason A) → and_then (and_then o (λ x. read k (q x.0) x.1)) (λ y. read k (r y.0) y.1) ≡ and_then o (λ x. and_then (read k (q x.0) x.1) (λ y. read k (r y.0) y.1))
    by (Ok x) = refl
    by (Err e) = refl

read_round : {K X A B S C : Type 0} (p : PartOf K X A) (q : A → PartOf K X B) (g : B → S) (r : S → PartOf K X C) (k : K) (ts : List (Terminal X Place)) → read k (sequence p (λ a. sequence (sequence (q a) (λ b. gives (g b))) r)) ts ≡ read k (sequence (sequence p q) (λ b. r (g b))) ts
read_round {X = X} {A = A} {B = B} p q g r k ts = by (read k p ts)
  where
    then : (o : Found (Terminal X Place) Reason B) → and_then (and_then o (λ b. Ok (g b.0, b.1))) (λ (y : _ × List (Terminal X Place)). read k (r y.0) y.1) ≡ and_then o (λ b. read k (r (g b.0)) b.1)
    then (Ok x) = refl
    then (Err e) = refl

    by : (o : Found (Terminal X Place) Reason A) → and_then o (λ a. and_then (and_then (read k (q a.0) a.1) (λ b. Ok (g b.0, b.1))) (λ (y : _ × List (Terminal X Place)). read k (r y.0) y.1)) ≡ and_then (and_then o (λ a. read k (q a.0) a.1)) (λ b. read k (r (g b.0)) b.1)
    by (Ok x) = then (read k (q x.0) x.1)
    by (Err e) = refl

-- a round that begins with p, goes on with q and keeps g of it, and then the loop again
pub reading_round : {K X A B S C : Type 0} (L : Language X) (p : PartOf K X A) (q : A → PartOf K X B) (g : B → S) (r : S → PartOf K X C) (k : K) (s : Option (Ahead X)) → reading L (sequence p (λ a. sequence (sequence (q a) (λ b. gives (g b))) r)) k s ≡ on L (λ b. r (g b)) k (reading L (sequence p q) k s)
reading_round L p q g r k s = reads_alike L (sequence p (λ a. sequence (sequence (q a) (λ b. gives (g b))) r)) (sequence (sequence p q) (λ b. r (g b))) k s (read_round p q g r k) ∙ reading_then L (sequence p q) (λ b. r (g b)) k s

-- the same of a round that is read in another context, behind a token that says the same in each context
pub reading_round_under : {K X A S C : Type 0} (L : Language X) (h : X → Result A Reason) (p : PartOf K X S) (r : S → PartOf K X C) (j k : K) (s : Option (Ahead X)) → reading L (sequence (one (λ _. h)) (λ _. sequence (under j p) r)) k s ≡ on L r k (reading L (sequence (one (λ _. h)) (λ _. p)) j s)
unfolding reading on one
reading_round_under L h p r j k None = refl
reading_round_under {X = X} {A = A} {S = S} L h p r j k (Some s) = by (take_token (λ t. of_token h t) s.tokens)
  where
    then : (o : Found (Terminal X Place) Reason S) → Some (result_of L s.finish (and_then o (λ y. read k (r y.0) y.1))) ≡ on_result L r k (result_of L s.finish o)
    then (Ok y) = refl
    then (Err e) = refl

    by : (o : Found (Terminal X Place) Reason A) → Some (result_of L s.finish (and_then o (λ x. and_then (read j p x.1) (λ y. read k (r y.0) y.1)))) ≡ on_result L r k (result_of L s.finish (and_then o (λ x. read j p x.1)))
    by (Ok x) = then (read j p x.1)
    by (Err e) = refl

-- ---- a choice, by what the next token is taken for

if_reads : {K X A C : Type 0} (f : K → X → Glance C Reason) (p : C → PartOf K X A) (q : PartOf K X A) (k : K) (ts : List (Terminal X Place)) → read k (if_next f p q) ts ≡ and_then (read k (maybe f) ts) (λ y. read k (pick p q y.0) y.1)
unfolding if_next maybe
if_reads f p q k [] = refl
if_reads f p q k (end at ∷ ts) = refl
if_reads {K = K} {X = X} {A = A} {C = C} f p q k (proper x ∷ ts) = by (f k x)
  where
    by : (g : Glance C Reason) → glanced (proper x) ts g (λ c. read k (p c)) (read k q) ≡ and_then (glanced (proper x) ts g (λ c ts. Ok (Some c, ts)) (λ ts. Ok (None, ts))) (λ (y : Option C × List (Terminal X Place)). read k (pick p q y.0) y.1)
    by (takes c) = refl
    by (refuses r) = refl
    by leaves = refl

pub reading_if : {K X A C : Type 0} (L : Language X) (f : K → X → Glance C Reason) (p : C → PartOf K X A) (q : PartOf K X A) (k : K) (s : Option (Ahead X)) → reading L (if_next f p q) k s ≡ on L (pick p q) k (reading L (maybe f) k s)
reading_if L f p q k s = reads_alike L (if_next f p q) (sequence (maybe f) (pick p q)) k s (if_reads f p q k) ∙ reading_then L (maybe f) (pick p q) k s

-- a loop is a choice: one round and the loop again, or the end
pub reading_while : {K X A C S : Type 0} (L : Language X) (f : S → K → X → Glance C Reason) (q : S → C → PartOf K X S) (e : S → PartOf K X A) (t : S) (k : K) (s : Option (Ahead X))
    → reading L (while_next f q e t) k s ≡ reading L (if_next (f t) (λ c. sequence (q t c) (λ u. while_next f q e u)) (e t)) k s
unfolding while_next if_next
reading_while L f q e t k s = reads_alike L (while_next f q e t) (if_next (f t) (λ c. sequence (q t c) (λ u. while_next f q e u)) (e t)) k s (read_loop k (λ s k t. at_token (f s k) t) q e t)

-- ---- where the next token was taken, or looked at and left

pub took : {K X C : Type 0} (L : Language X) (f : K → X → Glance C Reason) (k : K) (x : X) (c : C) (s t : Option (Ahead X)) → reading L any k s ≡ then_left x t → f k x ≡ takes c → reading L (maybe f) k s ≡ then_left (Some c) t
unfolding reading any maybe then_left
took L f k x c None None h e = refl
took L f k x c None (Some t) h e = absurd cc
took L f k x c (Some s) None h e = absurd cc
took {X = X} {C = C} L f k x c (Some s) (Some t) h e = by s.tokens h
  where
    by : (ts : List (Terminal X Place)) → Some (result_of L s.finish (take_token (λ t. of_token (λ x. Ok x) t) ts)) ≡ Some (Ok (x, t))
        → Some (result_of L s.finish (look_ahead (λ t. at_token (f k) t) (λ c ts. Ok (Some c, ts)) (λ ts. Ok (None, ts)) ts)) ≡ Some (Ok (Some c, t))
    by [] h = absurd cc
    by (end p ∷ ts) h = absurd cc
    by (proper y ∷ ts) h =
        let m = ok_first (y, record { tokens = ts; finish = s.finish }) (x, t) h in
        let n = ok_second (y, record { tokens = ts; finish = s.finish }) (x, t) h in
        rw (m, e, ← n) refl

pub left_there : {K X C : Type 0} (L : Language X) (f : K → X → Glance C Reason) (k : K) (x : X) (s t : Option (Ahead X)) → looking s ≡ then_left (Some x) t → t ≡ s → f k x ≡ leaves → reading L (maybe f) k s ≡ then_left None t
unfolding reading looking maybe then_left
left_there L f k x None t h same e = rw same refl
left_there L f k x (Some s) None h same e = absurd cc
left_there {X = X} {C = C} L f k x (Some s) (Some t) h same e = by s.tokens s.finish refl refl h
  where
    by : (ts : List (Terminal X Place)) (g : Finish TextFault) → s.tokens ≡ ts → s.finish ≡ g → Some (look_result ts g s) ≡ Some (Ok (Some x, t))
        → Some (result_of L s.finish (look_ahead (λ t. at_token (f k) t) (λ c ts. Ok (Some c, ts)) (λ ts. Ok (None, ts)) s.tokens)) ≡ Some (Ok (None, t))
    by [] g m n h = absurd cc
    by (end p ∷ ts) g m n h = let o = ok_first (None, s) (Some x, t) h in absurd cc
    by (proper y ∷ ts) g m n h =
        let o = ok_first (Some y, s) (Some x, t) h in
        let z : y ≡ x = cc in
        let w = ok_second (Some y, s) (Some x, t) h in
        rw (← w, m, z, e) refl

pub left_end : {K X C : Type 0} (L : Language X) (f : K → X → Glance C Reason) (k : K) (s t : Option (Ahead X)) → looking s ≡ then_left None t → reading L (maybe f) k s ≡ then_left None t
unfolding reading looking maybe then_left
left_end L f k None None h = refl
left_end L f k None (Some t) h = absurd cc
left_end L f k (Some s) None h = absurd cc
left_end {X = X} {C = C} L f k (Some s) (Some t) h = by s.tokens s.finish refl h
  where
    by : (ts : List (Terminal X Place)) (g : Finish TextFault) → s.tokens ≡ ts → Some (look_result ts g s) ≡ Some (Ok (None, t))
        → Some (result_of L s.finish (look_ahead (λ t. at_token (f k) t) (λ c ts. Ok (Some c, ts)) (λ ts. Ok (None, ts)) s.tokens)) ≡ Some (Ok (None, t))
    by [] g m h = absurd cc
    by (proper y ∷ ts) g m h = let o = ok_first (Some y, s) (None, t) h in absurd cc
    by (end p ∷ ts) g m h =
        let none : Option X = None in
        let w = ok_second (none, s) (none, t) h in
        rw (← w, m) refl

pub refused_there : {K X C : Type 0} (L : Language X) (f : K → X → Glance C Reason) (k : K) (x : X) (r : Reason) (s t : Option (Ahead X)) → looking s ≡ then_left (Some x) t → f k x ≡ refuses r → IsCause (errors.Text (fault_at L (proper x) r)) (reading L (maybe f) k s)
unfolding reading looking maybe then_left IsCause
refused_there L f k x r None t h e = tt
refused_there L f k x r (Some s) None h e = absurd cc
refused_there {X = X} {C = C} L f k x r (Some s) (Some t) h e = by s.tokens s.finish h
  where
    by : (ts : List (Terminal X Place)) (g : Finish TextFault) → Some (look_result ts g s) ≡ Some (Ok (Some x, t))
        → result_of L g (read k (maybe f) ts) ≡ Err (errors.Text (fault_at L (proper x) r))
    by [] g h = absurd cc
    by (end p ∷ ts) g h = let o = ok_first (None, s) (Some x, t) h in absurd cc
    by (proper y ∷ ts) g h = let o = ok_first (Some y, s) (Some x, t) h in let z : y ≡ x = cc in rw (z, e) refl

-- ---- a fault that a look met

as_seen : {K X C : Type 0} (L : Language X) (f : K → X → Glance C Reason) (k : K) (e : ReadError) (ts : List (Terminal X Place)) (g : Finish TextFault) (s : Ahead X) → look_result ts g s ≡ Err e → result_of L g (read k (maybe f) ts) ≡ Err e
unfolding maybe
as_seen L f k e [] g s h = let d : finish_error g ≡ e = cc in ap Err d
as_seen L f k e (end p ∷ ts) g s h = absurd cc
as_seen L f k e (proper x ∷ ts) g s h = absurd cc

pub cause_maybe : {K X C : Type 0} (e : ReadError) (L : Language X) (f : K → X → Glance C Reason) (k : K) (s : Option (Ahead X)) → IsCause e (looking s) → IsCause e (reading L (maybe f) k s)
unfolding looking IsCause reading
cause_maybe e L f k None h = tt
cause_maybe errors.NoMemory L f k (Some s) h = tt
cause_maybe errors.ReadFault L f k (Some s) h = tt
cause_maybe errors.Spent L f k (Some s) h = absurd h
cause_maybe (errors.Text t) L f k (Some s) h = as_seen L f k (errors.Text t) s.tokens s.finish s h
cause_maybe errors.TooLong L f k (Some s) h = as_seen L f k errors.TooLong s.tokens s.finish s h

pub cause_if : {K X A C : Type 0} (e : ReadError) (L : Language X) (f : K → X → Glance C Reason) (p : C → PartOf K X A) (q : PartOf K X A) (k : K) (s : Option (Ahead X)) → IsCause e (looking s) → IsCause e (reading L (if_next f p q) k s)
cause_if e L f p q k s h = rw (reading_if L f p q k s) (cause_on e L (pick p q) k (reading L (maybe f) k s) (cause_maybe e L f k s h))

pub cause_while : {K X A C S : Type 0} (e : ReadError) (L : Language X) (f : S → K → X → Glance C Reason) (q : S → C → PartOf K X S) (d : S → PartOf K X A) (t : S) (k : K) (s : Option (Ahead X)) → IsCause e (looking s) → IsCause e (reading L (while_next f q d t) k s)
cause_while e L f q d t k s h = rw (reading_while L f q d t k s) (cause_if e L (f t) (λ c. sequence (q t c) (λ u. while_next f q d u)) (d t) k s h)

-- ---- a fault where a token has to be there

pub due_one : {K X A : Type 0} (e : ReadError) (L : Language X) (h : K → X → Result A Reason) (k : K) (s : Option (Ahead X)) → IsCause e (reading L any k s) → IsCause e (reading L (one h) k s)
due_one e L h k s c = rw (reading_one L h k s) (cause_judge e L h k (reading L any k s) c)

pub due_then : {K X A B : Type 0} (e : ReadError) (L : Language X) (p : PartOf K X A) (q : A → PartOf K X B) (k : K) (s : Option (Ahead X)) → IsCause e (reading L p k s) → IsCause e (reading L (sequence p q) k s)
due_then e L p q k s c = rw (reading_then L p q k s) (cause_on e L q k (reading L p k s) c)

as_due : {K X A C : Type 0} (L : Language X) (f : K → X → Glance C Reason) (p : C → PartOf K X A) (q : PartOf K X A) (k : K) (e : ReadError) (ts : List (Terminal X Place)) (g : Finish TextFault)
    → result_of L g (take_token (λ t. of_token (λ x. Ok x) t) ts) ≡ Err e → result_of L g (read k q ts) ≡ Err e → result_of L g (read k (if_next f p q) ts) ≡ Err e
unfolding if_next
as_due L f p q k e [] g h n = let d : finish_error g ≡ e = cc in ap Err d
as_due L f p q k e (end at ∷ ts) g h n = n
as_due L f p q k e (proper x ∷ ts) g h n = absurd cc

pub due_if : {K X A C : Type 0} (e : ReadError) (L : Language X) (f : K → X → Glance C Reason) (p : C → PartOf K X A) (q : PartOf K X A) (k : K) (s : Option (Ahead X)) → IsCause e (reading L any k s) → IsCause e (reading L q k s) → IsCause e (reading L (if_next f p q) k s)
unfolding IsCause reading any
due_if e L f p q k None h n = tt
due_if errors.NoMemory L f p q k (Some s) h n = tt
due_if errors.ReadFault L f p q k (Some s) h n = tt
due_if errors.Spent L f p q k (Some s) h n = absurd h
due_if (errors.Text t) L f p q k (Some s) h n = as_due L f p q k (errors.Text t) s.tokens s.finish h n
due_if errors.TooLong L f p q k (Some s) h n = as_due L f p q k errors.TooLong s.tokens s.finish h n

pub due_while : {K X A C S : Type 0} (e : ReadError) (L : Language X) (f : S → K → X → Glance C Reason) (q : S → C → PartOf K X S) (d : S → PartOf K X A) (t : S) (k : K) (s : Option (Ahead X)) → IsCause e (reading L any k s) → IsCause e (reading L (d t) k s) → IsCause e (reading L (while_next f q d t) k s)
due_while e L f q d t k s h n = rw (reading_while L f q d t k s) (due_if e L (f t) (λ c. sequence (q t c) (λ u. while_next f q d u)) (d t) k s h n)

-- ---- a choice, by a test of the next token

-- where the test holds, f takes the token for what h says of it
abbrev pub Fits : {X C : Type 0} → (X → Bool) → (X → Glance C Reason) → (X → Result C Reason) → Type 0
Fits {X = X} {C = C} g f h = (x : X) → g x ≡ true → (c : C) × (f x ≡ takes c) × (h x ≡ Ok c)

-- where the test fails, f leaves the token
abbrev pub Misses : {X C : Type 0} → (X → Bool) → (X → Glance C Reason) → Type 0
Misses {X = X} g f = (x : X) → g x ≡ false → f x ≡ leaves

if_taken : {K X A C : Type 0} (f : K → X → Glance C Reason) (p : C → PartOf K X A) (q : PartOf K X A) (h : K → X → Result C Reason) (k : K) (x : X) (ts : List (Terminal X Place)) (c : C) → f k x ≡ takes c → h k x ≡ Ok c → read k (if_next f p q) (proper x ∷ ts) ≡ read k (sequence (one h) p) (proper x ∷ ts)
unfolding if_next one
if_taken f p q h k x ts c d e = rw (d, e) refl

if_other : {K X A C : Type 0} (f : K → X → Glance C Reason) (p : C → PartOf K X A) (q : PartOf K X A) (k : K) (x : X) (ts : List (Terminal X Place)) → f k x ≡ leaves → read k (if_next f p q) (proper x ∷ ts) ≡ read k q (proper x ∷ ts)
unfolding if_next
if_other f p q k x ts d = rw d refl

pub if_token : {K X A C : Type 0} (L : Language X) (g : X → Bool) (f : K → X → Glance C Reason) (p : C → PartOf K X A) (q : PartOf K X A) (h : K → X → Result C Reason) (k : K) (s : Option (Ahead X)) → Fits g (f k) (h k) → IsToken g true s → reading L (if_next f p q) k s ≡ reading L (sequence (one h) p) k s
unfolding reading IsToken
if_token L g f p q h k None fits is = refl
if_token {X = X} L g f p q h k (Some s) fits is =
    let c = fits is.0 is.3 in
    ap (λ r. Some (result_of L s.finish r)) (ap (read k (if_next f p q)) is.2 ∙ if_taken f p q h k is.0 is.1 c.0 c.1 c.2 ∙ ap (read k (sequence (one h) p)) (sym is.2))

pub if_no_token : {K X A C : Type 0} (L : Language X) (g : X → Bool) (f : K → X → Glance C Reason) (p : C → PartOf K X A) (q : PartOf K X A) (k : K) (s : Option (Ahead X)) → Misses g (f k) → IsToken g false s → reading L (if_next f p q) k s ≡ reading L q k s
unfolding reading IsToken
if_no_token L g f p q k None misses is = refl
if_no_token L g f p q k (Some s) misses is =
    ap (λ r. Some (result_of L s.finish r)) (ap (read k (if_next f p q)) is.2 ∙ if_other f p q k is.0 is.1 (misses is.0 is.3) ∙ ap (read k q) (sym is.2))

next_is : {K X A C : Type 0} (L : Language X) (g : X → Bool) (f : K → X → Glance C Reason) (p : C → PartOf K X A) (q : PartOf K X A) (h : K → X → Result C Reason) (k : K) (ts : List (Terminal X Place)) → Fits g (f k) (h k) → FirstFits g true ts → read k (if_next f p q) ts ≡ read k (sequence (one h) p) ts
next_is L g f p q h k [] fits is = absurd is
next_is L g f p q h k (end at ∷ ts) fits is = absurd cc
next_is L g f p q h k (proper x ∷ ts) fits is = let c = fits x (sym is) in if_taken f p q h k x ts c.0 c.1 c.2

next_is_no : {K X A C : Type 0} (L : Language X) (g : X → Bool) (f : K → X → Glance C Reason) (p : C → PartOf K X A) (q : PartOf K X A) (k : K) (ts : List (Terminal X Place)) → Misses g (f k) → FirstFits g false ts → read k (if_next f p q) ts ≡ read k q ts
unfolding if_next
next_is_no L g f p q k [] misses is = absurd is
next_is_no L g f p q k (end at ∷ ts) misses is = refl
next_is_no L g f p q k (proper x ∷ ts) misses is = if_other f p q k x ts (misses x (sym is))

pub if_next_is : {K X A C : Type 0} (L : Language X) (g : X → Bool) (f : K → X → Glance C Reason) (p : C → PartOf K X A) (q : PartOf K X A) (h : K → X → Result C Reason) (k : K) (s : Option (Ahead X)) → Fits g (f k) (h k) → IsNext g true s → reading L (if_next f p q) k s ≡ reading L (sequence (one h) p) k s
unfolding reading IsNext
if_next_is L g f p q h k None fits is = refl
if_next_is L g f p q h k (Some s) fits is = ap (λ r. Some (result_of L s.finish r)) (next_is L g f p q h k s.tokens fits is)

pub if_next_is_no : {K X A C : Type 0} (L : Language X) (g : X → Bool) (f : K → X → Glance C Reason) (p : C → PartOf K X A) (q : PartOf K X A) (k : K) (s : Option (Ahead X)) → Misses g (f k) → IsNext g false s → reading L (if_next f p q) k s ≡ reading L q k s
unfolding reading IsNext
if_next_is_no L g f p q k None misses is = refl
if_next_is_no L g f p q k (Some s) misses is = ap (λ r. Some (result_of L s.finish r)) (next_is_no L g f p q k s.tokens misses is)

-- ---- a loop, by a test of the next token

module _ {K X A C S : Type 0} (L : Language X) (g : X → Bool) (f : S → K → X → Glance C Reason) (q : S → C → PartOf K X S) (e : S → PartOf K X A) (t : S) (k : K) (s : Option (Ahead X)) where
  -- a round, read from its first token on
  pub while_token : (h : K → X → Result C Reason) → Fits g (f t k) (h k) → IsToken g true s → reading L (while_next f q e t) k s ≡ reading L (sequence (one h) (λ c. sequence (q t c) (λ u. while_next f q e u))) k s
  while_token h fits is = reading_while L f q e t k s ∙ if_token L g (f t) (λ c. sequence (q t c) (λ u. while_next f q e u)) (e t) h k s fits is

  pub while_no_token : Misses g (f t k) → IsToken g false s → reading L (while_next f q e t) k s ≡ reading L (e t) k s
  while_no_token misses is = reading_while L f q e t k s ∙ if_no_token L g (f t) (λ c. sequence (q t c) (λ u. while_next f q e u)) (e t) k s misses is

  pub while_next_is : (h : K → X → Result C Reason) → Fits g (f t k) (h k) → IsNext g true s → reading L (while_next f q e t) k s ≡ reading L (sequence (one h) (λ c. sequence (q t c) (λ u. while_next f q e u))) k s
  while_next_is h fits is = reading_while L f q e t k s ∙ if_next_is L g (f t) (λ c. sequence (q t c) (λ u. while_next f q e u)) (e t) h k s fits is

  pub while_next_is_no : Misses g (f t k) → IsNext g false s → reading L (while_next f q e t) k s ≡ reading L (e t) k s
  while_next_is_no misses is = reading_while L f q e t k s ∙ if_next_is_no L g (f t) (λ c. sequence (q t c) (λ u. while_next f q e u)) (e t) k s misses is

-- for a call that takes the next token where a test says so, and answers what it is
pub ruleset maybes = (took, left_there, left_end, refused_there, cause_maybe, near_text, skip_none)

-- for calls one after the other, among which is a choice by such a call
pub ruleset choices = (reading_if, sequences)

-- for a loop whose rounds begin with such a call
pub ruleset loops = (reading_while, reading_if, map_push, sequences)
