-- Why nothing is written.
use Rattle.std.proofs.Common.{◌≡◌, ◌≢◌, ℕ, List, IfSome, Err, refl}
use Rattle.nl_io.specs.Sinks.{Receipt}
use Rattle.nl_io.specs.Sources.{Supply}
use Rattle.netlist_cli.specs.declared.failure.Failure.{Failure}
use Rattle.netlist_cli.specs.declared.failure.Failure.TheVariants as failures
use Rattle.netlist_cli.specs.Outcomes.{FileLanguage, Meaning, Question, Verdict}
use Rattle.netlist_cli.specs.Runs.{IsCause, IsFailureOf, Does}

module _ {O : Type 0} (receipt : O → Receipt) (m : Meaning) (i j : Supply) (old new : O) where
  -- a failure other than one of the output has its cause, and nothing was put
  pub halted : (f : Failure) → f ≢ failures.WriteFault → IsCause m.question i j f → new ≡ old → Does receipt m i j old new (Err f)
  halted (failures.Text f) n h s = (h, s)
  halted failures.ReadFault n h s = (h, s)
  halted failures.WriteFault n h s = absurd (n refl)
  halted failures.Usage n h s = (h, s)
  halted failures.NoMemory n h s = (h, s)
  halted failures.InputLimit n h s = (h, s)
  halted (failures.Refused r) n h s = (h, s)
  halted (failures.RefusedByTool r) n h s = (h, s)
  halted (failures.DesignLimit k) n h s = (h, s)
  halted (failures.FlatLimit k) n h s = (h, s)

-- why nothing is written for a file is no failure of the output
pub said_unwritten : (said : Verdict → Type 0) (f : Failure) → IsFailureOf said f → f ≢ failures.WriteFault
said_unwritten said (failures.Text f) h e = absurd h
said_unwritten said failures.ReadFault h e = absurd h
said_unwritten said failures.WriteFault h e = absurd h
said_unwritten said failures.Usage h e = absurd h
said_unwritten said failures.NoMemory h e = absurd cc
said_unwritten said failures.InputLimit h e = absurd h
said_unwritten said (failures.Refused r) h e = absurd cc
said_unwritten said (failures.RefusedByTool r) h e = absurd cc
said_unwritten said (failures.DesignLimit k) h e = absurd cc
said_unwritten said (failures.FlatLimit k) h e = absurd cc

-- what is said of a file that was read is the cause of a failure
pub said_causes : (q : Question) (i j : Supply) (file : q.language.File) → IfSome i.left (λ bytes. q.language.reads bytes file) → (f : Failure) → IsFailureOf (q.IsSaid file) f → IsCause q i j f
said_causes q i j file r (failures.Text f) h = absurd h
said_causes q i j file r failures.ReadFault h = absurd h
said_causes q i j file r failures.WriteFault h = absurd h
said_causes q i j file r failures.Usage h = absurd h
said_causes q i j file r failures.NoMemory h = tt
said_causes q i j file r failures.InputLimit h = absurd h
said_causes q i j file r (failures.Refused s) h = record { file = file; reads_as = r; is_said = h }
said_causes q i j file r (failures.RefusedByTool s) h = record { file = file; reads_as = r; is_said = h }
said_causes q i j file r (failures.DesignLimit k) h = record { file = file; reads_as = r; is_said = h }
said_causes q i j file r (failures.FlatLimit k) h = record { file = file; reads_as = r; is_said = h }

module _ (language : FileLanguage) (first said : language.File → Verdict → Type 0) (gives : (file : language.File) (verdict : Verdict) → first file verdict → said file verdict) (i j : Supply) where
  -- the cause of a failure is one also where more is said of files
  pub cause_then : (f : Failure) → IsCause (record { language = language; IsSaid = first }) i j f → IsCause (record { language = language; IsSaid = said }) i j f
  cause_then (failures.Text f) h = record { first = h.first; taken = h.taken; left = h.left; near = h.near }
  cause_then failures.ReadFault h = h
  cause_then failures.WriteFault h = tt
  cause_then failures.Usage h = h
  cause_then failures.NoMemory h = tt
  cause_then failures.InputLimit h = h
  cause_then (failures.Refused r) h = record { file = h.file; reads_as = h.reads_as; is_said = gives h.file _ h.is_said }
  cause_then (failures.RefusedByTool r) h = record { file = h.file; reads_as = h.reads_as; is_said = gives h.file _ h.is_said }
  cause_then (failures.DesignLimit k) h = record { file = h.file; reads_as = h.reads_as; is_said = gives h.file _ h.is_said }
  cause_then (failures.FlatLimit k) h = record { file = h.file; reads_as = h.reads_as; is_said = gives h.file _ h.is_said }
