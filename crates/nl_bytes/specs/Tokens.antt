-- The tokens that are still to come of a source, and what a reader of tokens answers.
use Rattle.std.specs.Prelude.{◌≡◌, ℕ, ◌+◌, ◌-◌, ◌≤◌, ◌<◌, ◌↔◌, Bool, false, nat_lt, if◌then◌else◌, List, [], ◌∷◌, Option, Some, None, option_map, Result, Ok, Err, is_err, IfOk, IfErr, OnOk, IsTrue, IsFalse}
use Rattle.std.specs.Io.KnownBytes.{IsAtEnd}
use Rattle.grammar.specs.Whole.{Terminal, proper, end, Finish, Done, Bad, Over, Stream}
use Rattle.nl_base.specs.declared.place.Place.{Place}
use Rattle.nl_base.specs.Place.{place_at_start}
use Rattle.nl_base.specs.declared.fault.TextFault.{TextFault}
use Rattle.nl_base.specs.declared.fault.ReadError.{ReadError}
use Rattle.nl_base.specs.declared.fault.ReadError.TheVariants as errors
use Rattle.nl_io.specs.Causes.{Rose}
use Rattle.nl_io.specs.Sources.{Supply, left_past}
use Rattle.nl_bytes.specs.Bytes.{Window, TakesWhenUsed, Uses, input, given}
use Rattle.nl_bytes.specs.declared.bytes.TheConstants.{LIMIT}

-- the tokens up to the end of the input, which is the last of them, or up to a fault, or as far as they are looked at
abbrev pub Ahead : Type 0 → Type 0
Ahead X = Stream (Terminal X Place) TextFault

-- what is known of the tokens of a language: the place and the stop of each, and those of the bytes that stand at a place
pub record Language (X : Type 0) : Type 0 where
  pub place : X → Place
  pub stop : X → ℕ
  pub tokens : Place → List ℕ → Ahead X

-- what is left of a source once `now` bytes are taken, where `before` bytes were taken when these were left
unfoldable pub skip : ℕ → ℕ → Option (List ℕ) → Option (List ℕ)
skip now before left = left_past (now - before) left

-- how many bytes were ever taken more than 4,096 past the limit of an input; of a new reader it is 0
unfoldable pub excess : Window → ℕ
excess w = given w - (LIMIT + 4096)

-- Bytes are taken from the source, and some of the bytes that were taken are used; the count of faults never falls.
pub record Moves (old new : Window) (i j : Supply) : Type 0 where
  pub place : old.place.offset ≤ new.place.offset
  pub taken : given old ≤ given new
  pub left : j.left ≡ skip (given new) (given old) i.left
  pub faults : i.faults ≤ j.faults
  -- no more than 4,096 bytes past the limit are ever taken
  pub within : excess new ≤ excess old
  -- bytes are taken only where all that were taken before are used
  pub lazy : TakesWhenUsed old new

-- all bytes that were ever taken end at most 4,096 bytes behind an offset
abbrev pub IsNear : Window → ℕ → Type 0
IsNear w stop = given w ≤ stop + 4096

-- what is known of how far bytes were taken at a fault
unfoldable pub NearError : ReadError → Window → Type 0
NearError (errors.Text f) w = IsNear w f.stop
NearError e w = Unit {0}

-- the tokens that are ahead, where the source tells its bytes
abbrev pub known_ahead : {X : Type 0} → Language X → Window → Option (List ℕ) → Option (Ahead X)
known_ahead L w left = option_map (λ bs. L.tokens w.place bs) (input w left)

-- the same of what a source has left
abbrev pub tokens_ahead : {X : Type 0} → Language X → Window → Supply → Option (Ahead X)
tokens_ahead L w i = known_ahead L w i.left

-- a token, and what comes behind it
abbrev pub follow : {X : Type 0} → X → Ahead X → Ahead X
follow x s = record { tokens = proper x ∷ s.tokens; finish = s.finish }

-- the end of the input
abbrev pub only_end : (X : Type 0) → Place → Ahead X
only_end X p = record { tokens = end p ∷ []; finish = Done }

-- no token
abbrev pub no_token : (X : Type 0) → Finish TextFault → Ahead X
no_token X finish = record { tokens = []; finish = finish }

-- what of the end of a text has its stop within the limit of an input
abbrev pub limited_finish : (X : Type 0) → Finish TextFault → Ahead X
limited_finish X Done = no_token X Done
limited_finish X (Bad fault) = if nat_lt LIMIT fault.stop then no_token X Over else no_token X (Bad fault)
limited_finish X Over = no_token X Over

-- the tokens before the first whose stop lies past the limit of an input; `stop` is the stop of a token
abbrev pub limited_from : {X : Type 0} → (X → ℕ) → List (Terminal X Place) → Finish TextFault → Ahead X
limited_from {X = X} stop [] finish = limited_finish X finish
limited_from {X = X} stop (proper x ∷ xs) finish = if nat_lt LIMIT (stop x) then no_token X Over else follow x (limited_from stop xs finish)
limited_from {X = X} stop (end p ∷ xs) finish = if nat_lt LIMIT p.offset then no_token X Over else only_end X p

-- what of the tokens has its stop within the limit
unfoldable pub limited : {X : Type 0} → (X → ℕ) → Ahead X → Ahead X
limited stop s = limited_from stop s.tokens s.finish

-- what a reader of tokens holds, and whether an error has spent it
pub record State : Type 0 where
  pub window : Window
  pub spent : Bool

-- a reader at the start of a text
abbrev pub fresh : State
fresh = record { window = record { held = []; place = place_at_start }; spent = false }

-- the next token, or what comes in its place; after an Ok, what is ahead then
abbrev pub Tells : {X : Type 0} → Ahead X → Result (Option X) ReadError → Window → Ahead X → Type 0
Tells s (Ok (Some x)) now t = s ≡ follow x t
Tells {X = X} s (Ok None) now t = (s ≡ only_end X now.place) × (t ≡ s)
Tells {X = X} s (Err (errors.Text f)) now t = s ≡ no_token X (Bad f)
Tells {X = X} s (Err errors.TooLong) now t = s ≡ no_token X Over
Tells s (Err errors.ReadFault) now t = Unit {0}
Tells s (Err errors.NoMemory) now t = Unit {0}
Tells s (Err errors.Spent) now t = ⊥

-- the same where the source tells its bytes; whether it does never changes
abbrev pub TellsKnown : {X : Type 0} → Option (Ahead X) → Result (Option X) ReadError → Window → Option (Ahead X) → Type 0
TellsKnown None r now t = t ≡ None
TellsKnown (Some s) r now None = ⊥
TellsKnown (Some s) r now (Some t) = Tells s r now t

-- how far bytes were taken after a token, and at the end
abbrev pub NearToken : {X : Type 0} → Language X → Option X → Window → Type 0
NearToken L (Some x) w = IsNear w (L.stop x)
NearToken L None w = IsNear w w.place.offset

-- at the end no byte is left
abbrev pub EndsInput : {X : Type 0} → Option X → Supply → Type 0
EndsInput (Some x) i = Unit {0}
EndsInput None i = IsAtEnd i.left

-- a token has bytes, and no more than one byte past the limit is used
abbrev pub Shortens : {X : Type 0} → Option X → Window → Window → Type 0
Shortens (Some x) old new = (old.place.offset < new.place.offset) × (new.place.offset ≤ LIMIT + 1)
Shortens None old new = Unit {0}

-- Nothing is taken for a token whose stop lies within the bytes taken before, nor for a fault whose stop lies before the last of them. A read that
-- fails was asked for with no byte at hand.
abbrev pub TakesUnseen : {X : Type 0} → Language X → Result (Option X) ReadError → Window → Window → Type 0
TakesUnseen L (Ok (Some x)) old new = L.stop x ≤ given old → given new ≡ given old
TakesUnseen L (Ok None) old new = Unit {0}
TakesUnseen L (Err (errors.Text f)) old new = f.stop < given old → given new ≡ given old
TakesUnseen L (Err errors.ReadFault) old new = new.held ≡ []
TakesUnseen L (Err errors.TooLong) old new = Unit {0}
TakesUnseen L (Err errors.NoMemory) old new = Unit {0}
TakesUnseen L (Err errors.Spent) old new = Unit {0}

-- no byte past a token's stop was used
abbrev pub UsesTo : {X : Type 0} → Language X → Option X → Window → Type 0
UsesTo L (Some x) w = w.place.offset ≤ L.stop x
UsesTo L None w = Unit {0}

-- at the end no byte is left
abbrev pub EndsAt : {X : Type 0} → Option X → Option (List ℕ) → Type 0
EndsAt (Some x) left = Unit {0}
EndsAt None left = IsAtEnd left

-- nothing is taken for a token whose stop lies within the bytes taken before
abbrev pub FoundUnseen : {X : Type 0} → Language X → Option X → Window → Window → Type 0
FoundUnseen L (Some x) old new = L.stop x ≤ given old → given new ≡ given old
FoundUnseen L None old new = Unit {0}

-- a read that fails was asked for with no byte at hand
abbrev pub UsedUp : {X : Type 0} → Result X ReadError → Window → Type 0
UsedUp r w = IfErr r (λ e. e ≡ errors.ReadFault → w.held ≡ [])

-- The next token was read from the bytes at hand and the source.
pub record Finds {X : Type 0} (L : Language X) (old new : Window) (left left' : Option (List ℕ)) (result : Result (Option X) ReadError) : Type 0 where
  pub used : List ℕ
  pub uses : Uses old new left left' used
  pub told : TellsKnown (known_ahead L old left) result new (known_ahead L new left')
  pub shorter : IfOk result (λ x. Shortens x old new)
  pub used_to : IfOk result (λ x. UsesTo L x new)
  pub ended : IfOk result (λ x. EndsAt x left')
  pub unseen : IfOk result (λ x. FoundUnseen L x old new)
  pub used_up : UsedUp result new

-- The next token is read, by a reader that is spent where the second of old and new says so.
pub record ReadsToken {X : Type 0} (L : Language X) (result : Result (Option X) ReadError) (old : Window) (was_spent : Bool) (new : Window) (is_spent : Bool) (i j : Supply) : Type 0 where
  pub moves : Moves old new i j
  pub told : IsFalse was_spent → TellsKnown (tokens_ahead L old i) result new (tokens_ahead L new j)
  pub unspent : OnOk result (IsFalse was_spent)
  pub spent : IfErr result (λ e. (e ≡ errors.Spent) ↔ IsTrue was_spent)
  pub spends : is_spent ≡ is_err result
  pub cause : IfErr result (λ e. e ≡ errors.ReadFault → Rose i.faults j.faults)
  pub after_error : IfErr result (λ e. NearError e new)
  pub shorter : IfOk result (λ x. Shortens x old new)
  pub after_token : IfOk result (λ x. NearToken L x new)
  pub ended : IfOk result (λ x. EndsInput x j)
  pub unseen : TakesUnseen L result old new
