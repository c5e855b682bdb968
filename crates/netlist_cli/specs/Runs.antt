-- What a run has done, by the status with which it ends.
use Rattle.std.specs.Prelude.{◌≡◌, ◌⊎◌, ℕ, ◌+◌, ◌≤◌, List, Option, Some, None, Result, Ok, Err, IfSome, ⊤}
use Rattle.nl_base.specs.declared.fault.TextFault.{TextFault}
use Rattle.nl_io.specs.Sinks.{Receipt}
use Rattle.nl_io.specs.declared.source.Failed.{Failed}
use Rattle.nl_bytes.specs.declared.bytes.TheConstants.{LIMIT}
use Rattle.nl_output.specs.Writing.{Writes}
use Rattle.nl_io.specs.Sources.{Supply}
use Rattle.nl_bytes.specs.Tokens.{skip}
use Rattle.netlist_words.specs.Commands.{IfCommand, IsAsked, IsNoCommand}
use Rattle.netlist_words.specs.declared.command.Command.{Command}
use Rattle.netlist_words.specs.declared.command.Command.TheVariants as commands
use Rattle.netlist_cli.specs.declared.failure.Failure.{Failure}
use Rattle.netlist_cli.specs.declared.failure.Failure.TheVariants as failures
use Rattle.netlist_cli.specs.declared.status.Status.{Status}
use Rattle.netlist_cli.specs.declared.status.Status.TheVariants as statuses
use Rattle.netlist_cli.specs.Statuses.{status_of}
use Rattle.netlist_cli.specs.Lines.{line}
use Rattle.netlist_cli.specs.Outcomes.{Meaning, Question, Verdict, breaks, breaks_of_tool, exceeds, exceeds_flat, Outcome, faulty, too_long, status_due, IsWriting, Says, Gives, IsTextFrom}
use Rattle.netlist_cli.specs.Meanings.{meaning_of}

-- The input was read to its end, where the command reads, and this is how the writing of a text that may be written went.
pub record PutsText {O : Type 0} (receipt : O → Receipt) (m : Meaning) (i j : Supply) (old new : O) (result : Result (Unit {0}) Failed) : Type 0 where
  pub text : List ℕ
  pub is_text : IsTextFrom m i.left text
  pub ended : m.question.language.IsRead i j
  pub put : Writes receipt old new text result

-- The input was read to its end, where the command reads, and a text that may be written was put whole.
abbrev pub WroteText : {O : Type 0} → (O → Receipt) → Meaning → Supply → Supply → O → O → Type 0
WroteText receipt m i j old new = PutsText receipt m i j old new (Ok tt)

-- The input was read to its end, where the command reads, and a put failed before the whole text was put.
abbrev pub BrokeOff : {O : Type 0} → (O → Receipt) → Meaning → Supply → Supply → O → O → Type 0
BrokeOff receipt m i j old new = (e : Failed) × PutsText receipt m i j old new (Err e)

-- The input has this first fault, and at most 4,096 bytes behind its stop were taken.
pub record HasFault (q : Question) (i j : Supply) (fault : TextFault) : Type 0 where
  pub first : IfSome i.left (λ bs. Gives q bs (faulty fault))
  -- as many bytes were taken
  pub taken : ℕ
  pub left : j.left ≡ skip taken 0 i.left
  pub near : taken ≤ fault.stop + 4096

-- Bytes were taken from the front of the input, at most 4,096 past the limit of an input, and its count of faults did not fall.
pub record TakesFrom (i j : Supply) : Type 0 where
  -- as many bytes were taken
  pub taken : ℕ
  pub left : j.left ≡ skip taken 0 i.left
  pub within : taken ≤ LIMIT + 4096
  pub faults : i.faults ≤ j.faults

-- The text was written to a sink, or a front of it where a put failed.
abbrev pub IsTold : {E : Type 0} → (E → Receipt) → E → E → List ℕ → Type 0
IsTold receipt old new text = (answer : Result (Unit {0}) Failed) × Writes receipt old new text answer

-- When each failure comes of what a command asks of its input.
abbrev pub IsCause : Question → Supply → Supply → Failure → Type 0
IsCause q i j (failures.Text f) = HasFault q i j f
IsCause q i j failures.ReadFault = q.language.HasFailed i j
IsCause q i j failures.WriteFault = ⊤
IsCause q i j failures.Usage = ⊥
IsCause q i j failures.NoMemory = ⊤
IsCause q i j failures.InputLimit = IfSome i.left (λ bs. Gives q bs too_long)
IsCause q i j (failures.Refused r) = Says q i.left (breaks r)
IsCause q i j (failures.RefusedByTool r) = Says q i.left (breaks_of_tool r)
IsCause q i j (failures.DesignLimit n) = Says q i.left (exceeds n)
IsCause q i j (failures.FlatLimit n) = Says q i.left (exceeds_flat n)

-- When each failure comes for what the words ask for: where they ask for nothing it is that of the usage.
pub record Fails (words : List (List ℕ)) (i j : Supply) (failure : Failure) : Type 0 where
  pub usage : IsNoCommand words → failure ≡ failures.Usage
  pub cause : IfCommand words (λ c. IsCause (meaning_of c).question i j failure)

-- A failure of this status came with its cause, and was told.
pub record TellsFailure {E : Type 0} (receipt : E → Receipt) (words : List (List ℕ)) (i j : Supply) (old new : E) (status : Status) : Type 0 where
  pub failure : Failure
  pub is_status : status ≡ status_of failure
  pub cause : Fails words i j failure
  pub told : IsTold receipt old new (line failure)

-- The statuses that fit what comes of the input, where input, output and memory may fail.
abbrev pub FitsOutcome : Outcome → Status → Type 0
FitsOutcome o status = (status ≡ status_due o) ⊎ ((status ≡ statuses.WriteFault) × IsWriting o) ⊎ (status ≡ statuses.ReadFault) ⊎ (status ≡ statuses.NoMemory)

-- The status fits the bytes of the input.
abbrev pub FitsBytes : Meaning → List ℕ → Status → Type 0
FitsBytes m bs status = (o : Outcome) → Gives m.question bs o → FitsOutcome o status

-- Where the input does not fail, and the output does not where a text is to be written, the status is the one that is due, want of memory aside.
abbrev pub IsDecided : Meaning → List ℕ → Type 0 → Status → Type 0
IsDecided m bs output_failed status = (o : Outcome) → Gives m.question bs o → (IsWriting o → ¬ output_failed) → (status ≡ status_due o) ⊎ (status ≡ statuses.NoMemory)

-- ---- commands that read nothing

-- the command reads nothing
abbrev pub ReadsNothing : Command → Type 0
ReadsNothing (commands.Generate seed cells) = ⊤
ReadsNothing c = ⊥

-- what is generated has 2 to 100,000 cells
abbrev pub HasFewCells : Command → Type 0
HasFewCells (commands.Generate seed cells) = (2 ≤ cells) × (cells ≤ 100000)
HasFewCells c = ⊤

-- the work was done, the output failed or memory ran out
abbrev pub EndsUnread : Result (Unit {0}) Failure → Type 0
EndsUnread (Ok done) = ⊤
EndsUnread (Err failures.WriteFault) = ⊤
EndsUnread (Err failures.NoMemory) = ⊤
EndsUnread (Err f) = ⊥

-- The input is as before, and the work was done, the output failed or memory ran out.
pub record LeavesInput {S : Type 0} (old new : S) (status : Status) : Type 0 where
  pub unread : new ≡ old
  pub ends : (status ≡ statuses.Done) ⊎ (status ≡ statuses.WriteFault) ⊎ (status ≡ statuses.NoMemory)

-- ---- the parts of a run

-- What is done with the input and the output for what a command makes of its input. Until the whole text is read nothing is put.
abbrev pub Does : {O : Type 0} → (O → Receipt) → Meaning → Supply → Supply → O → O → Result (Unit {0}) Failure → Type 0
Does receipt m i j old new (Ok u) = WroteText receipt m i j old new
Does receipt m i j old new (Err failures.WriteFault) = BrokeOff receipt m i j old new
Does receipt m i j old new (Err f) = IsCause m.question i j f × (new ≡ old)

-- Why nothing is written for a file of which this is said; want of memory has no cause.
abbrev pub IsFailureOf : (Verdict → Type 0) → Failure → Type 0
IsFailureOf IsSaid (failures.Refused r) = IsSaid (breaks r)
IsFailureOf IsSaid (failures.RefusedByTool r) = IsSaid (breaks_of_tool r)
IsFailureOf IsSaid (failures.DesignLimit n) = IsSaid (exceeds n)
IsFailureOf IsSaid (failures.FlatLimit n) = IsSaid (exceeds_flat n)
IsFailureOf IsSaid failures.NoMemory = ⊤
IsFailureOf IsSaid f = ⊥

-- What is done for a command, if there is one.
abbrev pub DoesCommand : {S O : Type 0} → (O → Receipt) → (S → Supply) → Option Command → S → S → O → O → Result (Unit {0}) Failure → Type 0
DoesCommand receipt supply None a b old new result = (result ≡ Err failures.Usage) × (b ≡ a) × (new ≡ old)
DoesCommand receipt supply (Some c) a b old new result = Does receipt (meaning_of c) (supply a) (supply b) old new result × (ReadsNothing c → (b ≡ a) × EndsUnread result)

-- What is done for the command that the words ask for, if any.
pub record DoesWords {S O : Type 0} (receipt : O → Receipt) (supply : S → Supply) (words : List (List ℕ)) (a b : S) (old new : O) (result : Result (Unit {0}) Failure) : Type 0 where
  pub asked : Option Command
  pub is_asked : IsAsked words asked
  pub performed : DoesCommand receipt supply asked a b old new result
