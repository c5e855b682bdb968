-- What a command does that writes the normal text of the file that it reads.
use Rattle.std.proofs.Common.{◌≡◌, ◌≢◌, ◌∙◌, subst, refl, ℕ, ◌+◌, ◌<◌, List, length, take, Result, Ok, Err, Vec, Global}
use Rattle.std.specs.Prelude.{OnOk, OnErr, IsOk}
use Rattle.nl_base.specs.declared.fault.Reason.{Reason}
use Rattle.nl_base.specs.declared.fault.ReadError.{ReadError}
use Rattle.nl_base.specs.declared.fault.ReadError.TheVariants as errors
use Rattle.nl_bytes.specs.Tokens.{Language}
use Rattle.nl_io.specs.Causes.{HasCause}
use Rattle.nl_io.specs.Sinks.{Gains, Receipt}
use Rattle.nl_io.specs.Sources.{Supply}
use Rattle.nl_io.specs.declared.source.Failed.{Failed}
use Rattle.nl_memory.specs.Made.{IsTextOfRead}
use Rattle.nl_output.specs.Writing.{Writes}
use Rattle.readers.specs.Parts.{PartOf}
use Rattle.readers.specs.Readers.{same}
use Rattle.readers.specs.Texts.{ReadsText}
use Rattle.netlist_cli.specs.Meanings.{meaning}
use Rattle.netlist_cli.specs.Outcomes.{Meaning, fine}
use Rattle.netlist_cli.specs.Runs.{TakesFrom, Does}
use Rattle.netlist_cli.specs.Statuses.{failure_of, after_writing}
use Rattle.netlist_cli.proofs.Reading.{texts, text_is_put, error_is_told, text_takes}

-- a text that is put at once is written
pub put_writes : {O : Type 0} (receipt : O → Receipt) (old new : O) (text : List ℕ) (r : Result (Unit {0}) Failed)
    → OnOk r (Gains (receipt old).taken (receipt new).taken text) → OnErr r ((n : ℕ) × (n < length text) × Gains (receipt old).taken (receipt new).taken (take n text))
    → HasCause (receipt old).faults (receipt new).faults r → ((n : ℕ) → (receipt old).accepts (length text + n) → IsOk r × (receipt new).accepts n) → Writes receipt old new text r
put_writes receipt old new text (Ok done) all front cause accepted = record { all = all; front = tt; cause = cause; accepted = accepted }
put_writes receipt old new text (Err failed) all front cause accepted = record {
  all = tt;
  front = λ before h. (front.0, front.1, front.2 before h);
  cause = cause;
  accepted = accepted;
}

-- text_of is the normal text of a file
module _ {K X V : Type 0} (L : Language X) (trail : X → Reason) (k : K) (part : PartOf K X V) (text_of : V → List ℕ) where
  -- the source is read to its end as a file, of which the normal text is answered
  abbrev pub FormatsFile : Result (Vec ℕ Global) ReadError → Supply → Supply → Type 0
  FormatsFile r i j = (read : Result V ReadError) × ReadsText L trail k same part read i j × IsTextOfRead text_of read r

  -- bytes are taken as they are to read the file
  pub format_takes : (i j : Supply) (r : Result (Vec ℕ Global) ReadError) → FormatsFile r i j → TakesFrom i j
  format_takes i j r h = text_takes L trail k part i j h.0 h.1

  -- no call before this one has spent the reader
  pub format_unspent : (e : ReadError) (i j : Supply) → FormatsFile (Err e) i j → e ≢ errors.Spent
  format_unspent e i j (Err f, reads, is) h = reads.never_spent (is ∙ h)
  format_unspent e i j (Ok v, reads, is) h = absurd is

  module _ {O : Type 0} (receipt : O → Receipt) (i j : Supply) (old new : O) where
    -- what the command means
    abbrev as_written : Meaning
    as_written = meaning (texts L trail k part) (λ file verdict. fine ≡ verdict) (λ file text. text ≡ text_of file)

    -- the text of the file that was read is written, or a front of it
    pub formatted_is_put : (text : Vec ℕ Global) (r : Result (Unit {0}) Failed) → FormatsFile (Ok text) i j → Writes receipt old new text.items r → Does receipt as_written i j old new (after_writing r)
    formatted_is_put text r (Ok v, reads, is) w = text_is_put L trail k part _ _ receipt i j old new v text.items r reads refl is w
    formatted_is_put text r (Err f, reads, is) w = absurd is

    -- no file was read
    pub unformatted_is_told : (e : ReadError) → FormatsFile (Err e) i j → new ≡ old → Does receipt as_written i j old new (Err (failure_of e))
    unformatted_is_told e (Err f, reads, is) s = subst (λ (z : ReadError). Does receipt as_written i j old new (Err (failure_of z))) is (error_is_told L trail k part _ _ receipt i j old new f reads s)
    unformatted_is_told e (Ok v, reads, is) s = absurd is
