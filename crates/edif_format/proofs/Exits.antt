-- The exits of what reads a file and answers its text.
use Rattle.std.proofs.Common.{◌≡◌, ◌∙◌, refl, sym, List, ℕ, [], Option, Some, None, IfSome, Ok, Err, Vec, Global}
use Rattle.nl_base.specs.declared.fault.ReadError.{ReadError}
use Rattle.nl_base.specs.declared.fault.ReadError.TheVariants as errors
use Rattle.nl_io.specs.Sources.{Supply}
use Rattle.nl_memory.specs.Taken.{Taken, in_memory, untaken}
use Rattle.nl_output.specs.Writing.{Held, State, Finishes, Puts, nothing, state}
use Rattle.nl_output.proofs.Whole.{writes_whole}
use Rattle.readers.specs.Readers.{Reader, Ends}
use Rattle.readers.specs.Texts.{Comes, tokens_of}
use Rattle.readers.proofs.Whole.{fresh}
use Rattle.edif_tokens.specs.declared.token.Found.{Found}
use Rattle.edif_values.specs.declared.file.EdifFile.{EdifFile}
use Rattle.edif_keywords.specs.Aliases.{Alias}
use Rattle.edif_keywords.specs.Language.{edif}
use Rattle.edif_keywords.specs.Reasons.{trailing}
use Rattle.edif_library.specs.Grammar.{file}
use Rattle.edif_library.proofs.Reading.{ReadsFile, no_memory_first, file_fails, ending_fails, file_is_read}
use Rattle.edif_writer.specs.Forms.{edif_text, file_block}
use Rattle.edif_writer.specs.Layout.{laid}
use Rattle.edif_format.specs.Formats.{FormatsText}
use Rattle.edif_format.specs.Parts.{FormatsWhole}

-- memory may run out behind a file that was read
no_memory_last : (v : EdifFile) (i j : Supply) → ReadsFile (Ok v) i j → ReadsFile (Err errors.NoMemory) i j
no_memory_last v i j h = record {
  value = tt;
  ended = tt;
  error = by i.left;
  never_spent = λ e. absurd cc;
  cause = λ e. absurd cc;
  faults = h.faults;
  taken = h.taken;
  left = h.left;
  near = tt;
  within = h.within;
}
  where
    by : (left : Option (List ℕ)) → IfSome left (λ bs. Comes edif trailing [] (file []) errors.NoMemory (tokens_of edif bs))
    by None = tt
    by (Some bs) = tt

pub never_made : (i : Supply) → FormatsText (Err errors.NoMemory) i i
never_made i = (Err errors.NoMemory, no_memory_first i, refl)

-- the lines of a file
abbrev file_lines : EdifFile → List ℕ → List ℕ
file_lines f = laid 0 (file_block f)

-- a is a new cursor, and the lines of a file are put from s to t
module _ (a : Reader (List Alias) Found) (new : a ≡ fresh Found []) {s t : State} where
  pub file_not_made : (e : ReadError) (b : Reader (List Alias) Found) (i j : Supply) → FormatsWhole (file a.context) file_lines (Err e) a b i j s t → FormatsText (Err e) i j
  file_not_made e b i j (Err f, reads, is) = (Err f, file_fails a new f b i j reads, is)
  file_not_made e b i j (Ok v, reads, is) = absurd is

  module _ (b c : Reader (List Alias) Found) (i j m : Supply) where
    pub end_fails : (e : ReadError) → FormatsWhole (file a.context) file_lines (Ok tt) a b i j s t → Ends edif trailing (Err e) b c j m → FormatsText (Err e) i m
    end_fails e (Ok v, reads, is) ends = (Err e, ending_fails a new v e b c i j m reads ends, refl)
    end_fails e (Err f, reads, is) ends = absurd is

    -- memory ran out for the text
    pub text_fails : FormatsWhole (file a.context) file_lines (Ok tt) a b i j s t → Ends edif trailing (Ok tt) b c j m → FormatsText (Err errors.NoMemory) i m
    text_fails (Ok v, reads, is) ends = (Err errors.NoMemory, no_memory_last v i m (file_is_read a new v b c i j m reads ends), refl)
    text_fails (Err f, reads, is) ends = absurd is

    pub text_is_made : (bytes : Vec ℕ Global) → ((v : EdifFile) → Puts (file_lines v) s t → bytes.items ≡ edif_text v) → FormatsWhole (file a.context) file_lines (Ok tt) a b i j s t → Ends edif trailing (Ok tt) b c j m → FormatsText (Ok bytes) i m
    text_is_made bytes whole (Ok v, reads, is) ends = (Ok v, file_is_read a new v b c i j m reads ends, whole v is.1)
    text_is_made bytes whole (Err f, reads, is) ends = absurd is

-- what was put to a sink in memory, to the end of a text, is what the sink took
pub taken_whole : (before after : Taken) (held : Held) (last : State) (text : List ℕ → List ℕ) (bytes : List ℕ) → before ≡ untaken → held ≡ nothing → Puts text (state in_memory before held) last → Finishes last (state in_memory after nothing) (Ok tt) → bytes ≡ after.bytes → bytes ≡ text []
taken_whole before after held last text bytes e f puts finish is = let written = writes_whole in_memory untaken after last text (Ok tt) (rw (e, f) at puts) finish in is ∙ sym (written.all [] refl)
