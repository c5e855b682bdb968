-- How a run ends, from what was done with the input and the output.
use Rattle.std.proofs.Common.{◌≡◌, ◌≢◌, ◌↔◌, ◌⊎◌, inl, inr, ℕ, List, Option, Some, None, IfSome, Result, Ok, Err, refl, sym, ap, ◌∙◌, subst, arith}
use Rattle.nl_io.specs.Causes.{Rose}
use Rattle.nl_io.specs.Sinks.{Receipt}
use Rattle.nl_io.specs.declared.source.Failed.{Failed}
use Rattle.nl_io.specs.Sources.{Supply}
use Rattle.readers.proofs.Moving.{skip_none}
use Rattle.netlist_words.specs.declared.command.Command.{Command}
use Rattle.netlist_words.specs.declared.command.Command.TheVariants as commands
use Rattle.netlist_words.specs.Commands.{IfCommand, IsAsked, IsCommand, IsNoCommand}
use Rattle.netlist_words.proofs.OneCommand.{one_command}
use Rattle.netlist_cli.specs.declared.failure.Failure.{Failure}
use Rattle.netlist_cli.specs.declared.failure.Failure.TheVariants as failures
use Rattle.netlist_cli.specs.declared.status.Status.{Status}
use Rattle.netlist_cli.specs.declared.status.Status.TheVariants as statuses
use Rattle.netlist_cli.specs.Statuses.{status_of}
use Rattle.netlist_cli.specs.Lines.{line}
use Rattle.netlist_cli.specs.Outcomes.{Meaning, Verdict, fine, breaks, breaks_of_tool, exceeds, exceeds_flat, Outcome, faulty, too_long, judged, status_due, IsWriting, Says, Gives}
use Rattle.netlist_cli.specs.Meanings.{meaning_of}
use Rattle.netlist_cli.specs.Runs.{PutsText, WroteText, BrokeOff, EndsUnread, HasFewCells, IsCause, Fails, IsTold, LeavesInput, ReadsNothing, TakesFrom, TellsFailure, FitsBytes, IsDecided, Does, DoesWords, DoesCommand}
use Rattle.netlist_cli.proofs.Told.{if_told, any_told}
use Rattle.netlist_cli.proofs.Results.{IsSettled, settled_of, one_outcome}

-- the status of an answer
abbrev pub ending : Result (Unit {0}) Failure → Status
ending (Ok u) = statuses.Done
ending (Err f) = status_of f

-- no byte is taken
pub takes_none : (i : Supply) → TakesFrom i i
takes_none i = record { taken = 0; left = sym (skip_none 0 i.left); within = omega arith; faults = omega arith }

-- ---- what the bytes are decides

module _ (m : Meaning) (settled : IsSettled m.question) (bs : List ℕ) where
  -- the status that is due for what comes of the bytes fits them
  due_fits : (o : Outcome) → Gives m.question bs o → FitsBytes m bs (status_due o)
  due_fits o h p k = inl (ap status_due (one_outcome m.question settled bs o p h k))

  broken_fits : Gives m.question bs (judged fine) → FitsBytes m bs statuses.WriteFault
  broken_fits h o k = inr (inl (refl, subst IsWriting (one_outcome m.question settled bs (judged fine) o h k) tt))

  read_fault_fits : FitsBytes m bs statuses.ReadFault
  read_fault_fits o k = inr (inr (inl refl))

  no_memory_fits : FitsBytes m bs statuses.NoMemory
  no_memory_fits o k = inr (inr (inr refl))

  module _ (output_failed : Type 0) where
    due_decided : (o : Outcome) → Gives m.question bs o → IsDecided m bs output_failed (status_due o)
    due_decided o h p k n = inl (ap status_due (one_outcome m.question settled bs o p h k))

    broken_decided : Gives m.question bs (judged fine) → output_failed → IsDecided m bs output_failed statuses.WriteFault
    broken_decided h f o k n = absurd (n (subst IsWriting (one_outcome m.question settled bs (judged fine) o h k) tt) f)

    no_memory_decided : IsDecided m bs output_failed statuses.NoMemory
    no_memory_decided o k n = inr refl

-- what is said of some file comes of the bytes, where they are told
said_of_bytes : (m : Meaning) (verdict : Verdict) (left : Option (List ℕ)) → Says m.question left verdict → IfSome left (λ bs. Gives m.question bs (judged verdict))
said_of_bytes m verdict None h = tt
said_of_bytes m verdict (Some bs) h = h

module _ {O : Type 0} (receipt : O → Receipt) (m : Meaning) (i j : Supply) (old new : O) where
  abbrev does : Result (Unit {0}) Failure → Type 0
  does = Does receipt m i j old new

  -- a text that may be written comes of a file with which nothing is wrong
  gives_fine : (r : Result (Unit {0}) Failed) → PutsText receipt m i j old new r → IfSome i.left (λ bs. Gives m.question bs (judged fine))
  gives_fine r h = said_of_bytes m fine i.left (record { file = h.is_text.file; reads_as = h.is_text.reads_as; is_said = h.is_text.is_fine })

  -- ---- each status has its cause

  pub done_so : (r : Result (Unit {0}) Failure) → does r → ending r ≡ statuses.Done → WroteText receipt m i j old new
  done_so (Ok u) h e = h
  done_so (Err (failures.Text f)) h e = absurd cc
  done_so (Err failures.ReadFault) h e = absurd cc
  done_so (Err failures.WriteFault) h e = absurd cc
  done_so (Err failures.Usage) h e = absurd cc
  done_so (Err failures.NoMemory) h e = absurd cc
  done_so (Err failures.InputLimit) h e = absurd cc
  done_so (Err (failures.Refused r)) h e = absurd cc
  done_so (Err (failures.RefusedByTool r)) h e = absurd cc
  done_so (Err (failures.DesignLimit n)) h e = absurd cc
  done_so (Err (failures.FlatLimit n)) h e = absurd cc

  pub broke_so : (r : Result (Unit {0}) Failure) → does r → ending r ≡ statuses.WriteFault → BrokeOff receipt m i j old new
  broke_so (Ok u) h e = absurd cc
  broke_so (Err (failures.Text f)) h e = absurd cc
  broke_so (Err failures.ReadFault) h e = absurd cc
  broke_so (Err failures.WriteFault) h e = h
  broke_so (Err failures.Usage) h e = absurd cc
  broke_so (Err failures.NoMemory) h e = absurd cc
  broke_so (Err failures.InputLimit) h e = absurd cc
  broke_so (Err (failures.Refused r)) h e = absurd cc
  broke_so (Err (failures.RefusedByTool r)) h e = absurd cc
  broke_so (Err (failures.DesignLimit n)) h e = absurd cc
  broke_so (Err (failures.FlatLimit n)) h e = absurd cc

  pub cause_so : (f : Failure) → does (Err f) → IsCause m.question i j f
  cause_so (failures.Text f) h = h.0
  cause_so failures.ReadFault h = h.0
  cause_so failures.WriteFault h = tt
  cause_so failures.Usage h = h.0
  cause_so failures.NoMemory h = tt
  cause_so failures.InputLimit h = h.0
  cause_so (failures.Refused r) h = h.0
  cause_so (failures.RefusedByTool r) h = h.0
  cause_so (failures.DesignLimit n) h = h.0
  cause_so (failures.FlatLimit n) h = h.0

  pub never_usage : (r : Result (Unit {0}) Failure) → does r → ending r ≢ statuses.Usage
  never_usage (Ok u) h e = absurd cc
  never_usage (Err (failures.Text f)) h e = absurd cc
  never_usage (Err failures.ReadFault) h e = absurd cc
  never_usage (Err failures.WriteFault) h e = absurd cc
  never_usage (Err failures.Usage) h e = h.0
  never_usage (Err failures.NoMemory) h e = absurd cc
  never_usage (Err failures.InputLimit) h e = absurd cc
  never_usage (Err (failures.Refused r)) h e = absurd cc
  never_usage (Err (failures.RefusedByTool r)) h e = absurd cc
  never_usage (Err (failures.DesignLimit n)) h e = absurd cc
  never_usage (Err (failures.FlatLimit n)) h e = absurd cc

  -- nothing is written but a whole text
  pub unwritten_so : (r : Result (Unit {0}) Failure) → does r → ending r ≢ statuses.Done → ending r ≢ statuses.WriteFault → new ≡ old
  unwritten_so (Ok u) h n w = absurd (n refl)
  unwritten_so (Err (failures.Text f)) h n w = h.1
  unwritten_so (Err failures.ReadFault) h n w = h.1
  unwritten_so (Err failures.WriteFault) h n w = absurd (w refl)
  unwritten_so (Err failures.Usage) h n w = h.1
  unwritten_so (Err failures.NoMemory) h n w = h.1
  unwritten_so (Err failures.InputLimit) h n w = h.1
  unwritten_so (Err (failures.Refused r)) h n w = h.1
  unwritten_so (Err (failures.RefusedByTool r)) h n w = h.1
  unwritten_so (Err (failures.DesignLimit k)) h n w = h.1
  unwritten_so (Err (failures.FlatLimit k)) h n w = h.1

-- ---- what the bytes are decides, from what was done

module _ {O : Type 0} (receipt : O → Receipt) (m : Meaning) (settled : IsSettled m.question) (i j : Supply) (old new : O) where
  abbrev done : Result (Unit {0}) Failure → Type 0
  done = Does receipt m i j old new

  puts_fine : (r : Result (Unit {0}) Failed) → PutsText receipt m i j old new r → IfSome i.left (λ bs. Gives m.question bs (judged fine))
  puts_fine = gives_fine receipt m i j old new

  due_where : (o : Outcome) → IfSome i.left (λ bs. Gives m.question bs o) → IfSome i.left (λ bs. FitsBytes m bs (status_due o))
  due_where o h = if_told i.left (λ bs. Gives m.question bs o) (λ bs. FitsBytes m bs (status_due o)) h (λ bs. due_fits m settled bs o)

  pub fits_bytes : (r : Result (Unit {0}) Failure) → done r → IfSome i.left (λ bs. FitsBytes m bs (ending r))
  fits_bytes (Ok u) h = due_where (judged fine) (puts_fine (Ok tt) h)
  fits_bytes (Err (failures.Text f)) h = due_where (faulty f) h.0.first
  fits_bytes (Err failures.ReadFault) h = any_told i.left (λ bs. FitsBytes m bs statuses.ReadFault) (λ bs. read_fault_fits m settled bs)
  fits_bytes (Err failures.WriteFault) h = if_told i.left (λ bs. Gives m.question bs (judged fine)) (λ bs. FitsBytes m bs statuses.WriteFault) (puts_fine (Err h.0) h.1) (λ bs. broken_fits m settled bs)
  fits_bytes (Err failures.Usage) h = absurd h.0
  fits_bytes (Err failures.NoMemory) h = any_told i.left (λ bs. FitsBytes m bs statuses.NoMemory) (λ bs. no_memory_fits m settled bs)
  fits_bytes (Err failures.InputLimit) h = due_where too_long h.0
  fits_bytes (Err (failures.Refused r)) h = due_where (judged (breaks r)) (said_of_bytes m (breaks r) i.left h.0)
  fits_bytes (Err (failures.RefusedByTool r)) h = due_where (judged (breaks_of_tool r)) (said_of_bytes m (breaks_of_tool r) i.left h.0)
  fits_bytes (Err (failures.DesignLimit n)) h = due_where (judged (exceeds n)) (said_of_bytes m (exceeds n) i.left h.0)
  fits_bytes (Err (failures.FlatLimit n)) h = due_where (judged (exceeds_flat n)) (said_of_bytes m (exceeds_flat n) i.left h.0)

  abbrev failed : Type 0
  failed = Rose (receipt old).faults (receipt new).faults

  decided_where : (o : Outcome) → IfSome i.left (λ bs. Gives m.question bs o) → IfSome i.left (λ bs. IsDecided m bs failed (status_due o))
  decided_where o h = if_told i.left (λ bs. Gives m.question bs o) (λ bs. IsDecided m bs failed (status_due o)) h (λ bs. due_decided m settled bs failed o)

  pub is_decided : (r : Result (Unit {0}) Failure) → done r → ¬ Rose i.faults j.faults → IfSome i.left (λ bs. IsDecided m bs failed (ending r))
  is_decided (Ok u) h n = decided_where (judged fine) (puts_fine (Ok tt) h)
  is_decided (Err (failures.Text f)) h n = decided_where (faulty f) h.0.first
  is_decided (Err failures.ReadFault) h n = absurd (n (settled.exact.failed_so i j h.0))
  is_decided (Err failures.WriteFault) h n =
      if_told i.left (λ bs. Gives m.question bs (judged fine)) (λ bs. IsDecided m bs failed statuses.WriteFault) (puts_fine (Err h.0) h.1) (λ bs gives. broken_decided m settled bs failed gives h.1.put.cause.failed)
  is_decided (Err failures.Usage) h n = absurd h.0
  is_decided (Err failures.NoMemory) h n = any_told i.left (λ bs. IsDecided m bs failed statuses.NoMemory) (λ bs. no_memory_decided m settled bs failed)
  is_decided (Err failures.InputLimit) h n = decided_where too_long h.0
  is_decided (Err (failures.Refused r)) h n = decided_where (judged (breaks r)) (said_of_bytes m (breaks r) i.left h.0)
  is_decided (Err (failures.RefusedByTool r)) h n = decided_where (judged (breaks_of_tool r)) (said_of_bytes m (breaks_of_tool r) i.left h.0)
  is_decided (Err (failures.DesignLimit k)) h n = decided_where (judged (exceeds k)) (said_of_bytes m (exceeds k) i.left h.0)
  is_decided (Err (failures.FlatLimit k)) h n = decided_where (judged (exceeds_flat k)) (said_of_bytes m (exceeds_flat k) i.left h.0)

-- ---- commands that read nothing

ends_unread : (r : Result (Unit {0}) Failure) → EndsUnread r → (ending r ≡ statuses.Done) ⊎ (ending r ≡ statuses.WriteFault) ⊎ (ending r ≡ statuses.NoMemory)
ends_unread (Ok u) h = inl refl
ends_unread (Err (failures.Text f)) h = absurd h
ends_unread (Err failures.ReadFault) h = absurd h
ends_unread (Err failures.WriteFault) h = inr (inl refl)
ends_unread (Err failures.Usage) h = absurd h
ends_unread (Err failures.NoMemory) h = inr (inr refl)
ends_unread (Err failures.InputLimit) h = absurd h
ends_unread (Err (failures.Refused r)) h = absurd h
ends_unread (Err (failures.RefusedByTool r)) h = absurd h
ends_unread (Err (failures.DesignLimit n)) h = absurd h
ends_unread (Err (failures.FlatLimit n)) h = absurd h

-- a command for which words ask has as many cells as can be generated
command_fits : (words : List (List ℕ)) (c : Command) → IsCommand words c → HasFewCells c
command_fits words commands.Format h = tt
command_fits words commands.Vformat h = tt
command_fits words (commands.Check top) h = tt
command_fits words (commands.Report top names) h = tt
command_fits words (commands.Lint top names) h = tt
command_fits words (commands.ToVerilog names) h = tt
command_fits words (commands.ToEdif top names) h = tt
command_fits words (commands.Flatten top names) h = tt
command_fits words (commands.ToSpice top) h = tt
command_fits words (commands.Generate seed cells) h = (h.some, h.few)

pub asked_fits : (words : List (List ℕ)) (asked : Option Command) → IsAsked words asked → IfSome asked HasFewCells
asked_fits words None h = tt
asked_fits words (Some c) h = command_fits words c h

-- What a run has done with the input and the output, by its status.
pub record RunsTo {S O : Type 0} (supply : S → Supply) (receipt : O → Receipt) (words : List (List ℕ)) (a b : S) (old new : O) (status : Status) : Type 0 where
  pub done : status ≡ statuses.Done → IfCommand words (λ c. WroteText receipt (meaning_of c) (supply a) (supply b) old new)
  pub write_fault : status ≡ statuses.WriteFault → IfCommand words (λ c. BrokeOff receipt (meaning_of c) (supply a) (supply b) old new)
  pub usage : (status ≡ statuses.Usage) ↔ IsNoCommand words
  pub unread : status ≡ statuses.Usage → b ≡ a
  pub leaves_input : IfCommand words (λ c. ReadsNothing c → LeavesInput a b status)
  pub unwritten : status ≢ statuses.Done → status ≢ statuses.WriteFault → new ≡ old
  pub exact : IfCommand words (λ c. IfSome (supply a).left (λ bs. FitsBytes (meaning_of c) bs status))
  pub complete : ¬ Rose (supply a).faults (supply b).faults → IfCommand words (λ c. IfSome (supply a).left (λ bs. IsDecided (meaning_of c) bs (Rose (receipt old).faults (receipt new).faults) status))

-- what is so of a command for which the words ask is so of each
for_command : (words : List (List ℕ)) (c : Command) → IsCommand words c → (P : Command → Type 0) → P c → IfCommand words P
for_command words c is P h d asked = subst P (one_command words c d is asked) h

module _ {S O : Type 0} (supply : S → Supply) (receipt : O → Receipt) (words : List (List ℕ)) (a b : S) (old new : O) where
  abbrev before : Supply
  before = supply a

  abbrev after : Supply
  after = supply b

  abbrev performed : Option Command → Result (Unit {0}) Failure → Type 0
  performed asked r = DoesCommand receipt supply asked a b old new r

  -- what was done for the words
  abbrev pub does_words : Result (Unit {0}) Failure → Type 0
  does_words r = DoesWords receipt supply words a b old new r

  no_command : IsNoCommand words → b ≡ a → new ≡ old → RunsTo supply receipt words a b old new statuses.Usage
  no_command none e d = record {
    done = λ h c asked. absurd (none c asked);
    write_fault = λ h c asked. absurd (none c asked);
    usage = (λ h. none, λ h. refl);
    unread = λ h. e;
    leaves_input = λ c asked. absurd (none c asked);
    unwritten = λ h k. d;
    exact = λ c asked. absurd (none c asked);
    complete = λ h c asked. absurd (none c asked);
  }

  -- how a run ends for what the words ask for
  run_ends : (asked : Option Command) (r : Result (Unit {0}) Failure) → IsAsked words asked → performed asked r → RunsTo supply receipt words a b old new (ending r)
  run_ends None r is h = rw h.0 (no_command is h.1 h.2)
  run_ends (Some c) r is h = record {
    done = λ e. for_command words c is _ (done_so receipt (meaning_of c) before after old new r h.0 e);
    write_fault = λ e. for_command words c is _ (broke_so receipt (meaning_of c) before after old new r h.0 e);
    usage = (λ e. absurd (never_usage receipt (meaning_of c) before after old new r h.0 e), λ none. absurd (none c is));
    unread = λ e. absurd (never_usage receipt (meaning_of c) before after old new r h.0 e);
    leaves_input = for_command words c is _ (λ unread. record { unread = (h.1 unread).0; ends = ends_unread r (h.1 unread).1 });
    unwritten = unwritten_so receipt (meaning_of c) before after old new r h.0;
    exact = for_command words c is _ (fits_bytes receipt (meaning_of c) (settled_of c) before after old new r h.0);
    complete = λ n. for_command words c is _ (is_decided receipt (meaning_of c) (settled_of c) before after old new r h.0 n);
  }

  -- the same for a status that is known to be the one of the answer
  pub run_ends_as : (r : Result (Unit {0}) Failure) (status : Status) → does_words r → status ≡ ending r → RunsTo supply receipt words a b old new status
  run_ends_as r status h e = subst (λ (z : Status). RunsTo supply receipt words a b old new z) (sym e) (run_ends h.asked r h.is_asked h.performed)

  fails : (asked : Option Command) (f : Failure) → IsAsked words asked → performed asked (Err f) → Fails words before after f
  fails None f is h = let d : Err f ≡ Err failures.Usage = h.0 in record { usage = λ none. cc; cause = λ c asked. absurd (is c asked) }
  fails (Some c) f is h = record { usage = λ none. absurd (none c is); cause = for_command words c is _ (cause_so receipt (meaning_of c) before after old new f h.0) }

  -- a failure that was told has its cause
  pub tells : {E : Type 0} (told_by : E → Receipt) (f : Failure) (status : Status) (eold enew : E) → does_words (Err f) → status ≡ status_of f
      → IsTold told_by eold enew (line f) → TellsFailure told_by words before after eold enew status
  tells told_by f status eold enew h e told = record { failure = f; is_status = e; cause = fails h.asked f h.is_asked h.performed; told = told }

-- ---- the line

pub never_done : (f : Failure) → status_of f ≢ statuses.Done
never_done (failures.Text f) e = cc
never_done failures.ReadFault e = cc
never_done failures.WriteFault e = cc
never_done failures.Usage e = cc
never_done failures.NoMemory e = cc
never_done failures.InputLimit e = cc
never_done (failures.Refused r) e = cc
never_done (failures.RefusedByTool r) e = cc
never_done (failures.DesignLimit n) e = cc
never_done (failures.FlatLimit n) e = cc

module _ {E : Type 0} (old new : E) where
  -- something was told where the work was not done
  pub silent_so : (status : Status) (f : Failure) → status ≡ status_of f → status ≡ statuses.Done → new ≡ old
  silent_so status f d e = absurd (never_done f (sym d ∙ e))
