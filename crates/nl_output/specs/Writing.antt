-- A text is being written to a sink, through a buffer.
use Rattle.std.specs.Prelude.{◌≡◌, ℕ, ◌+◌, ◌≤◌, ◌<◌, Bool, true, false, List, [], ◌++◌, length, take, Option, Result, Ok, Err, OnOk, OnErr, IfSome, IsNone, IsOk}
use Rattle.nl_io.specs.Causes.{Rose, HasCause}
use Rattle.nl_io.specs.Sinks.{Gains, Receipt}
use Rattle.nl_io.specs.declared.source.Failed.{Failed}

-- what is seen of an output: the bytes that it holds, and whether the sink has failed
pub record Held : Type 0 where
  pub bytes : List ℕ
  pub failed : Bool

-- nothing is held
abbrev pub nothing : Held
nothing = record { bytes = []; failed = false }

-- what is seen of an output and its sink
pub record State : Type 1 where
  pub sink : Receipt
  pub held : Held

-- an output and its sink, by the member of the sink's trait
abbrev pub state : {O : Type 0} → (O → Receipt) → O → Held → State
state receipt sink held = record { sink = receipt sink; held = held }

-- The begin of a whole text: what the sink had taken before, where that is known; how often it had failed; the whole text;
-- and how many bytes more than the text the sink was known to accept, if it was.
pub record Begin : Type 0 where
  pub taken : Option (List ℕ)
  pub faults : ℕ
  pub whole : List ℕ
  pub spare : Option ℕ

-- Of a whole text a front was put, some bytes are held, and a rest is to come.
pub record Stands (b : Begin) (s : State) (rest : List ℕ) : Type 0 where
  pub done : List ℕ
  pub parts : b.whole ≡ done ++ (s.held.bytes ++ rest)
  pub took : IfSome b.taken (λ before. s.sink.taken (before ++ done))
  pub later : b.faults ≤ s.sink.faults
  pub spare : IfSome b.spare (λ n. s.sink.accepts (length (s.held.bytes ++ rest) + n))

-- Of a whole text a shorter front was put when the sink failed.
pub record Broke (b : Begin) (s : State) : Type 0 where
  pub done : List ℕ
  pub lost : List ℕ
  pub parts : b.whole ≡ done ++ lost
  pub short : 0 < length lost
  pub took : IfSome b.taken (λ before. s.sink.taken (before ++ done))
  pub later : b.faults ≤ s.sink.faults
  pub rose : Rose b.faults s.sink.faults
  pub unsure : IsNone b.spare

-- how far the writing of a whole text has come
abbrev pub Stood : Bool → Begin → State → List ℕ → Type 0
Stood false b s rest = Stands b s rest
Stood true b s rest = Broke b s

-- a rest of a whole text is to come, unless the sink has failed
abbrev pub ToCome : Begin → State → List ℕ → Type 0
ToCome b s rest = Stood s.held.failed b s rest

-- These bytes come next, whatever whole text is being written of which they and then a rest are to come.
abbrev pub Puts : (List ℕ → List ℕ) → State → State → Type 0
Puts text old new = (b : Begin) (rest : List ℕ) → ToCome b old (text rest) → ToCome b new rest

-- Nothing new comes.
abbrev pub Drains : State → State → Type 0
Drains old new = (b : Begin) (rest : List ℕ) → ToCome b old rest → ToCome b new rest

-- The whole text was put exactly where the answer is Ok.
abbrev pub Finishes : State → State → Result (Unit {0}) Failed → Type 0
Finishes old new (Ok u) = (b : Begin) → ToCome b old [] → Stood false b (record new { held = nothing }) []
Finishes old new (Err e) = (b : Begin) → ToCome b old [] → Broke b new

-- The whole text was written to a sink, or a shorter front of it where a put failed.
pub record Writes {O : Type 0} (receipt : O → Receipt) (old new : O) (text : List ℕ) (result : Result (Unit {0}) Failed) : Type 0 where
  pub all : OnOk result (Gains (receipt old).taken (receipt new).taken text)
  pub front : OnErr result ((before : List ℕ) → (receipt old).taken before → (n : ℕ) × (n < length text) × (receipt new).taken (before ++ take n text))
  pub cause : HasCause (receipt old).faults (receipt new).faults result
  pub accepted : (n : ℕ) → (receipt old).accepts (length text + n) → IsOk result × (receipt new).accepts n
