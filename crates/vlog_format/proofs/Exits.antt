-- The exits of what reads a file and answers its text.
use Rattle.std.proofs.Common.{◌≡◌, refl, List, ℕ, Option, Some, None, IfSome, Ok, Err, Vec, Global}
use Rattle.nl_base.specs.declared.fault.ReadError.{ReadError}
use Rattle.nl_base.specs.declared.fault.ReadError.TheVariants as errors
use Rattle.nl_io.specs.Sources.{Supply}
use Rattle.readers.specs.Readers.{Reader, Ends}
use Rattle.readers.specs.Texts.{Comes, tokens_of}
use Rattle.readers.proofs.Whole.{fresh}
use Rattle.vlog_values.specs.declared.module.VlogFile.{VlogFile}
use Rattle.vlog_tokens.specs.declared.token.VFound.{VFound}
use Rattle.vlog_tokens.specs.Language.{vlog}
use Rattle.vlog_exprs.specs.Language.{NoContext}
use Rattle.vlog_exprs.specs.Reasons.{trailing}
use Rattle.vlog_modules.specs.Grammar.{file}
use Rattle.vlog_modules.proofs.Reading.{ReadsFile, no_memory_first, file_fails, ending_fails, file_is_read}
use Rattle.vlog_writer.specs.Forms.{vlog_text}
use Rattle.vlog_format.specs.declared.text.FileText.{FileText}
use Rattle.vlog_format.specs.Formats.{Formats, FormatsPieces}
use Rattle.vlog_format.specs.Texts.{IsTextOf}

-- memory may run out behind a file that was read
pub no_memory_last : (v : VlogFile) (i j : Supply) → ReadsFile (Ok v) i j → ReadsFile (Err errors.NoMemory) i j
no_memory_last v i j h = record {
  value = tt;
  ended = tt;
  error = by i.left;
  never_spent = λ e. absurd cc;
  cause = λ e. absurd cc;
  faults = h.faults;
  taken = h.taken;
  left = h.left;
  near = tt;
  within = h.within;
}
  where
    by : (left : Option (List ℕ)) → IfSome left (λ bs. Comes vlog trailing tt file errors.NoMemory (tokens_of vlog bs))
    by None = tt
    by (Some bs) = tt

pub never_made : (i : Supply) → Formats (Err errors.NoMemory) i i
never_made i = (Err errors.NoMemory, no_memory_first i, refl)

-- a is a new cursor
module _ (a : Reader NoContext VFound) (new : a ≡ fresh VFound tt) where
  pub pieces_fail : (e : ReadError) (b : Reader NoContext VFound) (i j : Supply) → FormatsPieces (Err e) a b i j → Formats (Err e) i j
  pieces_fail e b i j (Err f, reads, is) = (Err f, file_fails a new f b i j reads, is)
  pieces_fail e b i j (Ok v, reads, is) = absurd is

  pub end_fails : (text : FileText) (e : ReadError) (b c : Reader NoContext VFound) (i j m : Supply) → FormatsPieces (Ok text) a b i j → Ends vlog trailing (Err e) b c j m → Formats (Err e) i m
  end_fails text e b c i j m (Ok v, reads, is) ends = (Err e, ending_fails a new v e b c i j m reads ends, refl)
  end_fails text e b c i j m (Err f, reads, is) ends = absurd is

  module _ (text : FileText) (b c : Reader NoContext VFound) (i j m : Supply) where
    pub text_fails : FormatsPieces (Ok text) a b i j → Ends vlog trailing (Ok tt) b c j m → Formats (Err errors.NoMemory) i m
    text_fails (Ok v, reads, is) ends = (Err errors.NoMemory, no_memory_last v i m (file_is_read a new v b c i j m reads ends), refl)
    text_fails (Err f, reads, is) ends = absurd is

    pub text_is_made : (bytes : Vec ℕ Global) → ((ms : List _) → IsTextOf text ms → bytes.items ≡ vlog_text (record { modules = ms })) → FormatsPieces (Ok text) a b i j → Ends vlog trailing (Ok tt) b c j m → Formats (Ok bytes) i m
    text_is_made bytes whole (Ok v, reads, is) ends = (Ok v, file_is_read a new v b c i j m reads ends, whole v.modules is)
    text_is_made bytes whole (Err f, reads, is) ends = absurd is
