-- What comes of an input that is read, by its bytes alone: a fault, too many bytes, or a verdict on the file as which they read.
use Rattle.std.specs.Prelude.{◌≡◌, ℕ, nat_lt, if◌then◌else◌, List, Option, Some, None, IfSome, ⊤}
use Rattle.nl_base.specs.declared.fault.TextFault.{TextFault}
use Rattle.nl_base.specs.declared.rule.Refusal.{Refusal}
use Rattle.flat_classes.specs.FlatSums.{flat_limit}
use Rattle.net_hier.specs.Valid.{unit_limit}
use Rattle.nl_io.specs.Sources.{Supply}
use Rattle.netlist_cli.specs.declared.status.Status.{Status}
use Rattle.netlist_cli.specs.declared.tools.ToolRefusal.{ToolRefusal}
use Rattle.netlist_cli.specs.declared.status.Status.TheVariants as statuses

-- ---- files and what is said of them

-- A language of files: which bytes read as a file, have a first fault, or go on past the limit of an input without one; what is left of an
-- input of which a file was read; and when an input has failed.
pub record FileLanguage : Type 1 where
  pub File : Type 0
  pub reads : List ℕ → File → Type 0
  pub fault : List ℕ → TextFault → Type 0
  pub cut : List ℕ → Type 0
  pub IsRead : Supply → Supply → Type 0
  pub HasFailed : Supply → Supply → Type 0

-- What is said of a file: nothing is wrong with it; it breaks a rule, of which this is the first object; it breaks a rule of a tool, of
-- which this is the first object; its design has so many units, which are more than a design may have; or its flat count is this one, which
-- is more than a tool on the flat design takes.
pub data Verdict : Type 0 where
  fine : Verdict
  breaks : Refusal → Verdict
  breaks_of_tool : ToolRefusal → Verdict
  exceeds : ℕ → Verdict
  exceeds_flat : ℕ → Verdict

-- a refusal, if there is one, or what is said then
abbrev pub or_refused : Option Refusal → Verdict → Verdict
or_refused None otherwise = otherwise
or_refused (Some refusal) otherwise = breaks refusal

-- this flat count, where it passes the limit of the flat tools, or what is said then
abbrev pub or_too_flat : ℕ → Verdict → Verdict
or_too_flat count otherwise = if nat_lt flat_limit count then exceeds_flat count else otherwise

-- this flat count, where it passes the limit of the flat tools; else nothing
abbrev pub said_of_count : ℕ → Option Verdict
said_of_count count = if nat_lt flat_limit count then Some (exceeds_flat count) else None

-- what is said before a command asks anything of a design: a refusal, if there is one, or so many units, where they pass the limit of a
-- design; else nothing
abbrev pub said_first : Option Refusal → ℕ → Option Verdict
said_first None count = if nat_lt unit_limit count then Some (exceeds count) else None
said_first (Some refusal) count = Some (breaks refusal)

-- what is said where something may be said first: that, or what is said then
abbrev pub SaidThen : Option Verdict → (Verdict → Type 0) → Verdict → Type 0
SaidThen None Otherwise verdict = Otherwise verdict
SaidThen (Some first) Otherwise verdict = first ≡ verdict

-- What a command asks of an input: the language of the files that it reads, and what is said of each.
pub record Question : Type 1 where
  pub language : FileLanguage
  pub IsSaid : language.File → Verdict → Type 0

-- What a command makes of an input: what it asks of it, and which texts may be written for a file with which nothing is wrong.
pub record Meaning : Type 1 where
  pub question : Question
  pub IsMade : question.language.File → List ℕ → Type 0

-- ---- what comes of an input

-- What comes of the bytes of an input: a first fault, more bytes than are read without a fault within them, or a verdict on the file.
pub data Outcome : Type 0 where
  faulty : TextFault → Outcome
  too_long : Outcome
  judged : Verdict → Outcome

-- the status of a run that does what is due
abbrev pub status_due : Outcome → Status
status_due (faulty fault) = statuses.TextFault
status_due too_long = statuses.Limit
status_due (judged fine) = statuses.Done
status_due (judged (breaks refusal)) = statuses.Refused
status_due (judged (breaks_of_tool refusal)) = statuses.Refused
status_due (judged (exceeds count)) = statuses.Limit
status_due (judged (exceeds_flat count)) = statuses.Limit

-- a text is to be written
abbrev pub IsWriting : Outcome → Type 0
IsWriting (faulty fault) = ⊥
IsWriting too_long = ⊥
IsWriting (judged fine) = ⊤
IsWriting (judged (breaks refusal)) = ⊥
IsWriting (judged (breaks_of_tool refusal)) = ⊥
IsWriting (judged (exceeds count)) = ⊥
IsWriting (judged (exceeds_flat count)) = ⊥

-- This is said of some file, as which the bytes that were left read, where they are told.
pub record Says (q : Question) (left : Option (List ℕ)) (verdict : Verdict) : Type 0 where
  pub file : q.language.File
  pub reads_as : IfSome left (λ bytes. q.language.reads bytes file)
  pub is_said : q.IsSaid file verdict

-- what comes of the bytes
abbrev pub Gives : Question → List ℕ → Outcome → Type 0
Gives q bytes (faulty fault) = q.language.fault bytes fault
Gives q bytes too_long = q.language.cut bytes
Gives q bytes (judged verdict) = Says q (Some bytes) verdict

-- The text is one that may be written: it is made of some file with which nothing is wrong, as which the bytes that were left read, where
-- they are told.
pub record IsTextFrom (m : Meaning) (left : Option (List ℕ)) (text : List ℕ) : Type 0 where
  pub file : m.question.language.File
  pub reads_as : IfSome left (λ bytes. m.question.language.reads bytes file)
  pub is_fine : m.question.IsSaid file fine
  pub made : m.IsMade file text
