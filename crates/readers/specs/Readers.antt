-- What a reader of a part answers, and what it leaves.
use Rattle.std.specs.Prelude.{◌≡◌, ℕ, ◌+◌, ◌-◌, ◌≤◌, ◌<◌, ◌↔◌, Bool, true, false, List, [], ◌∷◌, ◌++◌, Option, Some, None, option_map, Result, Ok, Err, is_err, IfOk, IfErr, OnOk, if◌then◌else◌, IsTrue, IsFalse, is_some}
use Rattle.std.specs.Io.KnownBytes.{IsAtEnd}
use Rattle.grammar.specs.Part.{Glance}
use Rattle.grammar.specs.Reading.{Stop, refused, ended}
use Rattle.grammar.specs.Reading as r
use Rattle.grammar.specs.Whole.{Terminal, proper, end, Finish, Done, Bad, Over, the_end}
use Rattle.nl_base.specs.declared.place.Place.{Place}
use Rattle.nl_base.specs.declared.fault.TextFault.{TextFault}
use Rattle.nl_base.specs.declared.fault.Reason.{Reason}
use Rattle.nl_base.specs.declared.fault.Reason.TheVariants as reasons
use Rattle.nl_base.specs.declared.fault.ReadError.{ReadError}
use Rattle.nl_base.specs.declared.fault.ReadError.TheVariants as errors
use Rattle.nl_io.specs.Causes.{Rose}
use Rattle.nl_bytes.specs.Bytes.{Window}
use Rattle.nl_bytes.specs.declared.bytes.TheConstants.{LIMIT}
use Rattle.readers.specs.Parts.{PartOf, maybe, any}
use Rattle.nl_io.specs.Sources.{Supply}
use Rattle.nl_bytes.specs.Tokens.{Ahead, Language, Moves, IsNear, NearError, tokens_ahead, follow, only_end}

-- what a reader of parts is: its bytes, the token that it has looked at, the context, and whether an error has spent it
pub record Reader (K X : Type 0) : Type 0 where
  pub window : Window
  pub ahead : Option X
  pub context : K
  pub spent : Bool

-- the reader after an error that takes no further byte
abbrev pub spoilt : {K X : Type 0} → Reader K X → Reader K X
spoilt c = record { window = c.window; ahead = None; context = c.context; spent = true }

-- a value that is seen as itself
abbrev pub same : {A : Type 0} → A → A
same a = a

-- the token that was looked at, before the others
abbrev pub behind : {X : Type 0} → Option X → Ahead X → Ahead X
behind None s = s
behind (Some x) s = follow x s

-- the tokens that are still to be read, where the source tells its bytes; none are told of a reader that is spent
unfoldable pub stream_of : {X : Type 0} → Language X → Window → Option X → Bool → Supply → Option (Ahead X)
stream_of L w ahead spent i = if spent then None else option_map (behind ahead) (tokens_ahead L w i)

-- the tokens that are still to be read by a reader
abbrev pub stream : {K X : Type 0} → Language X → Reader K X → Supply → Option (Ahead X)
stream L c i = stream_of L c.window c.ahead c.spent i

-- a token that is refused, or the end of the input where a token is missing
abbrev pub fault_at : {X : Type 0} → Language X → Terminal X Place → Reason → TextFault
fault_at L (proper x) reason = record { place = L.place x; stop = L.stop x; reason = reason }
fault_at L (end p) reason = record { place = p; stop = p.offset; reason = reason }

-- what is answered where one more token is needed behind the last; behind the end of the input nothing is read
abbrev pub finish_error : Finish TextFault → ReadError
finish_error Done = errors.Spent
finish_error (Bad fault) = errors.Text fault
finish_error Over = errors.TooLong

-- what is answered where the reading stops
abbrev pub error_of : {X : Type 0} → Language X → Finish TextFault → Stop (Terminal X Place) Reason → ReadError
error_of L finish (refused x reason) = errors.Text (fault_at L x reason)
error_of L finish ended = finish_error finish

-- ---- what a part reads as

-- what the tokens read as: a value and what is left, or an error; nothing is known where the tokens are not told
abbrev pub Outcome : Type 0 → Type 0 → Type 0
Outcome X Y = Option (Result (Y × Ahead X) ReadError)

-- a reading, with what follows the last token
abbrev pub result_of : {X Y : Type 0} → Language X → Finish TextFault → Result (Y × List (Terminal X Place)) (Stop (Terminal X Place) Reason) → Result (Y × Ahead X) ReadError
result_of L finish (Ok v) = Ok (v.0, record { tokens = v.1; finish = finish })
result_of L finish (Err stop) = Err (error_of L finish stop)

-- what the tokens read as, as a part in a context
unfoldable pub reading : {K X Y : Type 0} → Language X → PartOf K X Y → K → Option (Ahead X) → Outcome X Y
reading L part k s = option_map (λ s. result_of L s.finish (r.read k part s.tokens)) s

-- a value, and these tokens are left
unfoldable pub then_left : {X Y : Type 0} → Y → Option (Ahead X) → Outcome X Y
then_left v s = option_map (λ s. Ok (v, s)) s

-- what follows a first part reads on from there
abbrev pub on_result : {K X Y Z : Type 0} → Language X → (Y → PartOf K X Z) → K → Result (Y × Ahead X) ReadError → Outcome X Z
on_result L q k (Ok v) = reading L (q v.0) k (Some v.1)
on_result L q k (Err e) = Some (Err e)

-- the same where the first part's outcome is known
unfoldable pub on : {K X Y Z : Type 0} → Language X → (Y → PartOf K X Z) → K → Outcome X Y → Outcome X Z
on L q k None = None
on L q k (Some o) = on_result L q k o

-- what a token that was taken says at its place
abbrev pub said : {X A : Type 0} → Language X → X → Option (Ahead X) → Result A Reason → Outcome X A
said L x s (Ok v) = then_left v s
said L x s (Err reason) = option_map (λ _. Err (errors.Text (fault_at L (proper x) reason))) s

-- what the token says that one token reads as
abbrev pub judge_result : {K X A : Type 0} → Language X → (K → X → Result A Reason) → K → Result (X × Ahead X) ReadError → Outcome X A
judge_result L f k (Ok v) = said L v.0 (Some v.1) (f k v.0)
judge_result L f k (Err e) = Some (Err e)

-- the same where the token's outcome is known
unfoldable pub judge : {K X A : Type 0} → Language X → (K → X → Result A Reason) → K → Outcome X X → Outcome X A
judge L f k None = None
judge L f k (Some o) = judge_result L f k o

-- an error comes exactly so; memory and the source may fail at any time, and a reader that is spent tells nothing
abbrev pub Causes : {X Y : Type 0} → ReadError → Result (Y × Ahead X) ReadError → Type 0
Causes errors.NoMemory o = Unit {0}
Causes errors.ReadFault o = Unit {0}
Causes errors.Spent o = ⊥
Causes (errors.Text f) o = o ≡ Err (errors.Text f)
Causes errors.TooLong o = o ≡ Err errors.TooLong

-- the same where the outcome is known
unfoldable pub IsCause : {X Y : Type 0} → ReadError → Outcome X Y → Type 0
IsCause e None = Unit {0}
IsCause e (Some o) = Causes e o

-- what is seen by looking at the next token: it, or none at the end of the input
abbrev pub look_result : {X : Type 0} → List (Terminal X Place) → Finish TextFault → Ahead X → Result (Option X × Ahead X) ReadError
look_result (proper x ∷ ts) finish s = Ok (Some x, s)
look_result (end p ∷ ts) finish s = Ok (None, s)
look_result [] finish s = Err (finish_error finish)

-- the same where the tokens are told
unfoldable pub looking : {X : Type 0} → Option (Ahead X) → Outcome X (Option X)
looking s = option_map (λ s. look_result s.tokens s.finish s) s

-- whether the first token fits, where there is one; the end of the input fits no test
abbrev pub FirstFits : {X : Type 0} → (X → Bool) → Bool → List (Terminal X Place) → Type 0
FirstFits f b [] = ⊥
FirstFits f b (proper x ∷ ts) = b ≡ f x
FirstFits f b (end p ∷ ts) = b ≡ false

-- whether a token that fits is next; the end of the input may also be next
unfoldable pub IsNext : {X : Type 0} → (X → Bool) → Bool → Option (Ahead X) → Type 0
IsNext f b None = Unit {0}
IsNext f b (Some s) = FirstFits f b s.tokens

-- a token is next, and whether it fits
unfoldable pub IsToken : {X : Type 0} → (X → Bool) → Bool → Option (Ahead X) → Type 0
IsToken f b None = Unit {0}
IsToken {X = X} f b (Some s) = (x : X) × (rest : List (Terminal X Place)) × (s.tokens ≡ proper x ∷ rest) × (f x ≡ b)

-- the end of the input is next, and it is where the bytes that were used end
unfoldable pub IsEnd : {X : Type 0} → Window → Option (Ahead X) → Type 0
IsEnd w None = Unit {0}
IsEnd {X = X} w (Some s) = s ≡ only_end X w.place

-- a token is missing where the bytes that were used end
abbrev pub end_fault : Window → TextFault
end_fault w = record { place = w.place; stop = w.place.offset; reason = reasons.EndOfInput }

-- what is left behind the end of the input
unfoldable pub emptied : {X : Type 0} → Option (Ahead X) → Option (Ahead X)
emptied s = option_map (λ s. record { tokens = []; finish = s.finish }) s

-- ---- calls of a reader

-- how many tokens are looked at
abbrev pub one_if : {X : Type 0} → Option X → ℕ
one_if None = 0
one_if (Some x) = 1

-- How many tokens may still be taken, each of at least one byte: the measure of every loop. A call after which the room is less by n took at least n
-- tokens, or used bytes in their place.
unfoldable pub room : {K X : Type 0} → Reader K X → ℕ
room c = LIMIT + 1 - c.window.place.offset + one_if c.ahead

-- A call of a reader gives a value or an error as told, and has the causes of every call.
pub record Calls {K X V : Type 0} (result : Result V ReadError) (old new : Reader K X) (i j : Supply) (Value : V → Type 0) (Error : ReadError → Type 0) : Type 0 where
  pub value : IfOk result Value
  pub error : IfErr result Error
  -- bytes are taken and used in their order, and the count of faults never falls
  pub moves : Moves old.window new.window i j
  -- an error spends the reader for good
  pub unspent : OnOk result (IsFalse old.spent)
  pub spent : IfErr result (λ e. (e ≡ errors.Spent) ↔ IsTrue old.spent)
  pub spends : new.spent ≡ is_err result
  pub cause : IfErr result (λ e. e ≡ errors.ReadFault → Rose i.faults j.faults)
  -- at a fault at most 4,096 bytes past its stop were ever taken
  pub near : IfErr result (λ e. NearError e new.window)

-- The value is what the part reads as, and what follows the part is left. An error is what the part reads as, or free.
abbrev pub Reads : {K X V Y : Type 0} → Language X → (V → Y) → PartOf K X Y → Result V ReadError → Reader K X → Reader K X → Supply → Supply → Type 0
Reads L view part result old new i j = Calls result old new i j
    (λ x. (reading L part old.context (stream L old i) ≡ then_left (view x) (stream L new j)) × (new.context ≡ old.context) × (room new < room old))
    (λ e. IsCause e (reading L part old.context (stream L old i)))

-- The same of a part that may be of no token.
abbrev pub ReadsMaybe : {K X V Y : Type 0} → Language X → (V → Y) → PartOf K X Y → Result V ReadError → Reader K X → Reader K X → Supply → Supply → Type 0
ReadsMaybe L view part result old new i j = Calls result old new i j
    (λ x. (reading L part old.context (stream L old i) ≡ then_left (view x) (stream L new j)) × (new.context ≡ old.context) × (room new ≤ room old))
    (λ e. IsCause e (reading L part old.context (stream L old i)))

-- The next token is taken where f takes it, and the call answers what f says of it, as `view` sees it.
abbrev pub TakesNext : {K X V C : Type 0} → Language X → (V → Option C) → (K → X → Glance C Reason) → Result V ReadError → Reader K X → Reader K X → Supply → Supply → Type 0
TakesNext L view f result old new i j = Calls result old new i j
    (λ x. (reading L (maybe f) old.context (stream L old i) ≡ then_left (view x) (stream L new j)) × (new.context ≡ old.context) × (room new ≤ room old) × (is_some (view x) ≡ true → room new < room old))
    (λ e. IsCause e (reading L (maybe f) old.context (stream L old i)))

-- The same of a part that begins in a context and gives that of what follows.
abbrev pub ReadsContext : {K X : Type 0} → Language X → PartOf K X K → Result (Unit {0}) ReadError → Reader K X → Reader K X → Supply → Supply → Type 0
ReadsContext L part result old new i j = Calls result old new i j
    (λ _. (reading L part old.context (stream L old i) ≡ then_left new.context (stream L new j)) × (room new < room old))
    (λ e. IsCause e (reading L part old.context (stream L old i)))

-- The same of a part after which the context may be another.
abbrev pub ReadsWhole : {K X V Y : Type 0} → Language X → (V → Y) → PartOf K X Y → Result V ReadError → Reader K X → Reader K X → Supply → Supply → Type 0
ReadsWhole L view part result old new i j = Calls result old new i j
    (λ x. reading L part old.context (stream L old i) ≡ then_left (view x) (stream L new j))
    (λ e. IsCause e (reading L part old.context (stream L old i)))

-- The next token may be looked at, and nothing is taken.
abbrev pub Keeps : {K X : Type 0} → Language X → Reader K X → Reader K X → Supply → Supply → Type 0
Keeps L old new i j = (stream L new j ≡ stream L old i) × (new.context ≡ old.context) × (room new ≤ room old)

-- The next token is looked at, and the call answers whether there is one before the end of the input.
abbrev pub Looks : {K X : Type 0} → Language X → Result Bool ReadError → Reader K X → Reader K X → Supply → Supply → Type 0
Looks L result old new i j = Calls result old new i j
    (λ b. (looking (stream L old i) ≡ then_left new.ahead (stream L new j)) × (is_some new.ahead ≡ b) × (b ≡ false → IsEnd new.window (stream L new j) × IsNear new.window new.window.place.offset × IsAtEnd j.left) × Keeps L old new i j)
    (λ e. IsCause e (looking (stream L old i)))

-- The next token is looked at, which has to be there, and the call answers whether it fits.
abbrev pub LooksAt : {K X : Type 0} → Language X → (X → Bool) → Result Bool ReadError → Reader K X → Reader K X → Supply → Supply → Type 0
LooksAt {K = K} L f result old new i j = Calls result old new i j
    (λ b. IsToken f b (stream L new j) × Keeps L old new i j)
    (λ e. IsCause e (reading L any old.context (stream L old i)))

-- The next token is looked at, and the call answers whether there is one that fits.
abbrev pub LooksFor : {K X : Type 0} → Language X → (X → Bool) → Result Bool ReadError → Reader K X → Reader K X → Supply → Supply → Type 0
LooksFor L f result old new i j = Calls result old new i j
    (λ b. IsNext f b (stream L new j) × Keeps L old new i j)
    (λ e. IsCause e (looking (stream L old i)))

-- The end of the input is taken; a token there is refused for the reason that `trailing` says.
abbrev pub Ends : {K X : Type 0} → Language X → (X → Reason) → Result (Unit {0}) ReadError → Reader K X → Reader K X → Supply → Supply → Type 0
Ends L trailing result old new i j = Calls result old new i j
    (λ _. (reading L (the_end trailing) old.context (stream L old i) ≡ then_left tt (emptied (stream L new j))) × IsEnd new.window (stream L new j) × IsAtEnd j.left)
    (λ e. IsCause e (reading L (the_end trailing) old.context (stream L old i)))

-- The context is another, or memory ran out.
pub record Changes {K X : Type 0} (context : K) (result : Result (Unit {0}) ReadError) (old new : Reader K X) : Type 0 where
  pub changed : OnOk result (new ≡ record { window = old.window; ahead = old.ahead; context = context; spent = old.spent })
  pub failed : IfErr result (λ e. (e ≡ errors.NoMemory) × (new ≡ spoilt old))

-- The value stands at a place of its own, or memory ran out.
pub record Boxes {K X T : Type 0} (item : T) (result : Result T ReadError) (old new : Reader K X) : Type 0 where
  pub boxed : IfOk result (λ value. value ≡ item)
  pub kept : OnOk result (new ≡ old)
  pub failed : IfErr result (λ e. (e ≡ errors.NoMemory) × (new ≡ spoilt old))

-- The list has one more item, or memory ran out and the list is as before.
pub record Adds {K X T : Type 0} (item : T) (result : Result (Unit {0}) ReadError) (old new : Reader K X) (before after : List T) : Type 0 where
  pub added : OnOk result ((after ≡ before ++ item ∷ []) × (new ≡ old))
  pub failed : IfErr result (λ e. (e ≡ errors.NoMemory) × (new ≡ spoilt old) × (after ≡ before))
