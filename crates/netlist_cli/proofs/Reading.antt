-- What a command does that reads its whole input as a text of a language.
use Rattle.std.proofs.Common.{◌≡◌, ◌≢◌, ℕ, List, Result, Ok, Err, refl}
use Rattle.std.specs.Io.KnownBytes.{IsAtEnd}
use Rattle.grammar.specs.Whole.{whole, IsFirstFault, IsCut}
use Rattle.nl_base.specs.declared.fault.Reason.{Reason}
use Rattle.nl_base.specs.declared.fault.ReadError.{ReadError}
use Rattle.nl_base.specs.declared.fault.ReadError.TheVariants as errors
use Rattle.nl_io.specs.Causes.{Rose}
use Rattle.nl_io.specs.Sinks.{Receipt}
use Rattle.nl_io.specs.declared.source.Failed.{Failed}
use Rattle.nl_output.specs.Writing.{Writes}
use Rattle.readers.specs.Parts.{PartOf}
use Rattle.readers.specs.Readers.{same, fault_at}
use Rattle.nl_io.specs.Sources.{Supply}
use Rattle.nl_bytes.specs.Tokens.{Language}
use Rattle.readers.specs.Texts.{tokens_of, SpellsText, ReadsText}
use Rattle.netlist_cli.specs.declared.failure.Failure.TheVariants as failures
use Rattle.netlist_cli.specs.Outcomes.{FileLanguage, Meaning, Verdict, fine}
use Rattle.netlist_cli.specs.Meanings.{meaning}
use Rattle.netlist_cli.specs.Runs.{TakesFrom, IsCause, Does}
use Rattle.netlist_cli.specs.Statuses.{failure_of, after_writing}
use Rattle.netlist_cli.proofs.Halting.{halted}

module _ {K X V : Type 0} (L : Language X) (trail : X → Reason) (k : K) (part : PartOf K X V) where
  -- the texts of a part in a context, as files
  abbrev pub texts : FileLanguage
  texts = record {
    File = V;
    reads = SpellsText L trail k part;
    fault = λ bs f. IsFirstFault (fault_at L) k (whole trail part) (tokens_of L bs) f;
    cut = λ bs. IsCut k (whole trail part) (tokens_of L bs);
    IsRead = λ i j. IsAtEnd j.left;
    HasFailed = λ i j. Rose i.faults j.faults;
  }

  -- bytes are taken by a reader of a whole text
  pub text_takes : (i j : Supply) (r : Result V ReadError) → ReadsText L trail k same part r i j → TakesFrom i j
  text_takes i j r h = record { taken = h.taken; left = h.left; within = h.within; faults = h.faults }

-- an error of a reader is no failure of the output
pub error_unwritten : (e : ReadError) → failure_of e ≢ failures.WriteFault
error_unwritten (errors.Text f) h = absurd cc
error_unwritten errors.ReadFault h = absurd cc
error_unwritten errors.TooLong h = absurd cc
error_unwritten errors.NoMemory h = absurd cc
error_unwritten errors.Spent h = absurd cc

module _ {K X V : Type 0} (L : Language X) (trail : X → Reason) (k : K) (part : PartOf K X V) (IsSaid : V → Verdict → Type 0) where
  -- an error of a reader has its cause
  pub error_causes : (e : ReadError) (i j : Supply) → ReadsText L trail k same part (Err e) i j → IsCause (record { language = texts L trail k part; IsSaid = IsSaid }) i j (failure_of e)
  error_causes (errors.Text f) i j h = record { first = h.error; taken = h.taken; left = h.left; near = h.near }
  error_causes errors.ReadFault i j h = h.cause refl
  error_causes errors.TooLong i j h = h.error
  error_causes errors.NoMemory i j h = tt
  error_causes errors.Spent i j h = absurd (h.never_spent refl)

module _ {K X V O : Type 0} (L : Language X) (trail : X → Reason) (k : K) (part : PartOf K X V) (IsSaid : V → Verdict → Type 0) (IsMade : V → List ℕ → Type 0)
    (receipt : O → Receipt) (i j : Supply) (old new : O) where
  abbrev m : Meaning
  m = meaning (texts L trail k part) IsSaid IsMade

  -- a text that is made of the file that was read is written, or a front of it
  pub text_is_put : (v : V) (text : List ℕ) (r : Result (Unit {0}) Failed) → ReadsText L trail k same part (Ok v) i j → IsSaid v fine → IsMade v text → Writes receipt old new text r
      → Does receipt m i j old new (after_writing r)
  text_is_put v text (Ok done) h f made w = record { text = text; is_text = record { file = v; reads_as = h.value; is_fine = f; made = made }; ended = h.ended; put = w }
  text_is_put v text (Err failed) h f made w = (failed, record { text = text; is_text = record { file = v; reads_as = h.value; is_fine = f; made = made }; ended = h.ended; put = w })

  -- no file was read
  pub error_is_told : (e : ReadError) → ReadsText L trail k same part (Err e) i j → new ≡ old → Does receipt m i j old new (Err (failure_of e))
  error_is_told e h s = halted receipt m i j old new (failure_of e) (error_unwritten e) (error_causes L trail k part IsSaid e i j h) s
