-- The text of a file reads as the file, and as no other, and has no fault.
use Rattle.std.proofs.Common.{arith, ◌≡◌, ℕ, ◌≤◌, List, [], length, refl, sym, subst}
use Rattle.nl_base.specs.declared.fault.ReadError.{ReadError}
use Rattle.nl_base.specs.declared.fault.ReadError.TheVariants as errors
use Rattle.nl_bytes.specs.declared.bytes.TheConstants.{LIMIT}
use Rattle.nl_io.specs.Causes.{Rose}
use Rattle.readers.specs.Texts.{Comes, tokens_of}
use Rattle.edif_keywords.specs.Language.{edif}
use Rattle.edif_keywords.specs.Reasons.{trailing}
use Rattle.edif_laws.proofs.AnyLength.{file_or_fault, one_file}
use Rattle.edif_library.specs.Grammar as grammar
use Rattle.edif_library.specs.Text.{EdifReads}
use Rattle.edif_values.specs.declared.file.EdifFile.{EdifFile}
use Rattle.edif_limits.proofs.Law.{cut, faults, reads}
use Rattle.edif_writer.specs.Forms.{edif_text}

pub same_file : (file read : EdifFile) (text : List ℕ) → EdifReads (edif_text file) file → text ≡ edif_text file → EdifReads text read → read ≡ file
same_file file read text reads_back is reads_as =
    one_file text read file ((reads text read).0 reads_as).0 ((reads text file).0 (subst (λ bytes. EdifReads bytes file) (sym is) reads_back)).0

pub text_short : (file : EdifFile) → EdifReads (edif_text file) file → length (edif_text file) ≤ LIMIT
text_short file reads_back = ((reads (edif_text file) file).0 reads_back).1

pub text_is_one : (file : EdifFile) (text : List ℕ) → EdifReads (edif_text file) file → text ≡ edif_text file → (read : EdifFile) × EdifReads text read
text_is_one file text reads_back is = (file, subst (λ bytes. EdifReads bytes file) (sym is) reads_back)

-- of a text that reads as a file no error comes but want of memory, where the source does not fail
pub want_alone : (text : List ℕ) → ((read : EdifFile) × EdifReads text read) → (error : ReadError) → Comes edif trailing [] (grammar.file []) error (tokens_of edif text) → (error ≡ errors.ReadFault → Rose 0 0) → error ≡ errors.NoMemory
want_alone text file (errors.Text fault) comes failed = absurd (file_or_fault text file.0 fault ((reads text file.0).0 file.1).0 ((faults text fault).0 comes).0)
want_alone text file errors.TooLong comes failed = (let short = ((reads text file.0).0 file.1).1 in let long = ((cut text).0 comes).0 in absurd (omega (arith, short, long)))
want_alone text file errors.ReadFault comes failed = (let rose = failed refl in absurd (omega (arith, rose)))
want_alone text file errors.NoMemory comes failed = refl
want_alone text file errors.Spent comes failed = absurd comes
