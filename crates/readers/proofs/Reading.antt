-- Readers called one after the other read the sequence of their parts.
use Rattle.std.proofs.Common.{◌≡◌, List, [], ◌∷◌, Option, Some, None, Result, Ok, Err, refl}
use Rattle.grammar.specs.Part.{gives, sequence, under}
use Rattle.grammar.specs.Reading.{Stop, and_then, judged, take_token, read}
use Rattle.grammar.specs.Whole.{Terminal, proper, end}
use Rattle.nl_base.specs.declared.place.Place.{Place}
use Rattle.nl_base.specs.declared.fault.Reason.{Reason}
use Rattle.nl_base.specs.declared.fault.ReadError.{ReadError}
use Rattle.nl_base.specs.declared.fault.ReadError.TheVariants as errors
use Rattle.readers.specs.Parts.{PartOf, of_token, one, any}
use Rattle.nl_bytes.specs.Tokens.{Ahead, Language}
use Rattle.readers.specs.Readers.{Outcome, result_of, reading, then_left, on_result, on, said, judge_result, judge, fault_at, IsCause}
use Rattle.readers.proofs.Moving.{skip_skip, skip_none, near_text, near_no_memory, room_context}

pub reading_then : {K X Y Z : Type 0} (L : Language X) (p : PartOf K X Y) (q : Y → PartOf K X Z) (k : K) (s : Option (Ahead X)) → reading L (sequence p q) k s ≡ on L q k (reading L p k s)
unfolding reading on
reading_then L p q k None = refl
reading_then {X = X} {Y = Y} L p q k (Some s) = by (read k p s.tokens)
  where
    by : (r : Result (Y × List (Terminal X Place)) (Stop (Terminal X Place) Reason)) → Some (result_of L s.finish (and_then r (λ u. read k (q u.0) u.1))) ≡ on_result L q k (result_of L s.finish r)
    by (Ok v) = refl
    by (Err stop) = refl

pub reading_gives : {K X Y : Type 0} (L : Language X) (y : Y) (k : K) (s : Option (Ahead X)) → reading L (gives y) k s ≡ then_left y s
unfolding reading then_left
reading_gives L y k None = refl
reading_gives L y k (Some s) = refl

pub reading_under : {K X Y : Type 0} (L : Language X) (j : K) (p : PartOf K X Y) (k : K) (s : Option (Ahead X)) → reading L (under j p) k s ≡ reading L p j s
unfolding reading
reading_under L j p k s = refl

pub on_left : {K X Y Z : Type 0} (L : Language X) (q : Y → PartOf K X Z) (k : K) (y : Y) (s : Option (Ahead X)) → on L q k (then_left y s) ≡ reading L (q y) k s
unfolding on then_left reading
on_left L q k y None = refl
on_left L q k y (Some s) = refl

pub no_memory : {X Y : Type 0} (o : Outcome X Y) → IsCause errors.NoMemory o
unfolding IsCause
no_memory None = tt
no_memory (Some o) = tt

pub read_fault : {X Y : Type 0} (o : Outcome X Y) → IsCause errors.ReadFault o
unfolding IsCause
read_fault None = tt
read_fault (Some o) = tt

pub cause_on : {K X Y Z : Type 0} (e : ReadError) (L : Language X) (q : Y → PartOf K X Z) (k : K) (o : Outcome X Y) → IsCause e o → IsCause e (on L q k o)
unfolding on IsCause
cause_on e L q k None h = tt
cause_on errors.NoMemory L q k (Some o) h = no_memory (on_result L q k o)
cause_on errors.ReadFault L q k (Some o) h = read_fault (on_result L q k o)
cause_on errors.Spent L q k (Some o) h = absurd h
cause_on (errors.Text f) L q k (Some o) h = rw h refl
cause_on errors.TooLong L q k (Some o) h = rw h refl

-- ---- one token

pub reading_one : {K X A : Type 0} (L : Language X) (f : K → X → Result A Reason) (k : K) (s : Option (Ahead X)) → reading L (one f) k s ≡ judge L f k (reading L (any {K = K}) k s)
unfolding reading judge one any then_left
reading_one L f k None = refl
reading_one {X = X} {A = A} L f k (Some s) = by s.tokens
  where
    judged_so : (x : X) (ts : List (Terminal X Place)) (r : Result A Reason) → Some (result_of L s.finish (judged (proper x) ts r)) ≡ said L x (Some (record { tokens = ts; finish = s.finish })) r
    judged_so x ts (Ok v) = refl
    judged_so x ts (Err r) = refl

    by : (ts : List (Terminal X Place)) → Some (result_of L s.finish (take_token (λ t. of_token (f k) t) ts)) ≡ judge L f k (Some (result_of L s.finish (take_token (λ t. of_token (λ x. Ok x) t) ts)))
    by [] = refl
    by (proper x ∷ ts) = judged_so x ts (f k x)
    by (end p ∷ ts) = refl

pub judge_left : {K X A : Type 0} (L : Language X) (f : K → X → Result A Reason) (k : K) (x : X) (s : Option (Ahead X)) → judge L f k (then_left x s) ≡ said L x s (f k x)
unfolding judge then_left
judge_left {A = A} L f k x None = by (f k x)
  where
    by : (r : Result A Reason) → None ≡ said L x None r
    by (Ok v) = refl
    by (Err r) = refl
judge_left L f k x (Some s) = refl

pub cause_judge : {K X A : Type 0} (e : ReadError) (L : Language X) (f : K → X → Result A Reason) (k : K) (o : Outcome X X) → IsCause e o → IsCause e (judge L f k o)
unfolding judge IsCause
cause_judge e L f k None h = tt
cause_judge errors.NoMemory L f k (Some o) h = no_memory (judge_result L f k o)
cause_judge errors.ReadFault L f k (Some o) h = read_fault (judge_result L f k o)
cause_judge errors.Spent L f k (Some o) h = absurd h
cause_judge (errors.Text t) L f k (Some o) h = rw h refl
cause_judge errors.TooLong L f k (Some o) h = rw h refl

pub cause_said : {X : Type 0} (A : Type 0) (L : Language X) (x : X) (reason : Reason) (s : Option (Ahead X)) → IsCause (errors.Text (fault_at L (proper x) reason)) (said {A = A} L x s (Err reason))
unfolding IsCause
cause_said A L x reason None = tt
cause_said A L x reason (Some s) = refl

-- whichever token it is, it is so in each context
pub reading_any : {K X : Type 0} (L : Language X) (j k : K) (s : Option (Ahead X)) → reading L (any {K = K}) j s ≡ reading L any k s
unfolding reading any
reading_any L j k s = refl

-- for a call that takes a token and says what it is
pub ruleset one_token = (reading_one, judge_left, cause_judge, cause_said, near_text, skip_none)

-- for calls one after the other
pub ruleset sequences = (reading_under, reading_then, reading_gives, on_left, cause_on, no_memory, near_no_memory, room_context, skip_skip, skip_none)
