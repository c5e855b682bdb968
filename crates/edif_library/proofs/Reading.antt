-- The exits of the reader of a file.
use Rattle.std.proofs.Common.{◌≡◌, ◌+◌, ◌<◌, ◌≤◌, refl, sym, ap, subst, ℕ, List, [], Option, Some, None, IfSome, Result, Ok, Err, arith}
use Rattle.nl_base.specs.declared.fault.ReadError.{ReadError}
use Rattle.nl_base.specs.declared.fault.ReadError.TheVariants as errors
use Rattle.nl_bytes.specs.declared.bytes.TheConstants.{LIMIT}
use Rattle.edif_tokens.specs.declared.token.Found.{Found}
use Rattle.nl_bytes.specs.Tokens.{State}
use Rattle.nl_bytes.specs.Tokens as tokens
use Rattle.nl_io.specs.Sources.{Supply}
use Rattle.readers.specs.Readers.{Reader, ReadsWhole, Ends, same, room}
use Rattle.readers.specs.Texts.{ReadsText, Comes, tokens_of}
use Rattle.readers.proofs.Moving.{skip_none}
use Rattle.readers.proofs.Whole.{fresh, part_fails_from, end_fails_from, text_is_read_from}
use Rattle.edif_keywords.specs.Aliases.{Alias}
use Rattle.edif_keywords.specs.Language.{edif}
use Rattle.edif_keywords.specs.Reasons.{trailing}
use Rattle.edif_values.specs.declared.file.EdifFile.{EdifFile}
use Rattle.edif_library.specs.Grammar.{file}
use Rattle.edif_library.proofs.AtMostOne.{live, clear}

-- what the reader of a file answers
abbrev pub ReadsFile : Result EdifFile ReadError → Supply → Supply → Type 0
ReadsFile result i j = ReadsText edif trailing [] same (file []) result i j

-- memory has run out before the first byte
pub no_memory_first : (i : Supply) → ReadsFile (Err errors.NoMemory) i i
no_memory_first i = record {
  value = tt;
  ended = tt;
  error = by i.left;
  never_spent = λ e. absurd cc;
  cause = λ e. absurd cc;
  faults = omega arith;
  taken = 0;
  left = sym (skip_none 0 i.left);
  near = tt;
  within = omega arith;
}
  where
    by : (left : Option (List ℕ)) → IfSome left (λ bs. Comes edif trailing [] (file []) errors.NoMemory (tokens_of edif bs))
    by None = tt
    by (Some bs) = tt

-- a cursor over a new reader of tokens is a new one
pub new_is_fresh : (t : State) (a : Reader (List Alias) Found) → t ≡ tokens.fresh → a ≡ record { window = t.window; ahead = None; context = []; spent = t.spent } → a ≡ fresh Found []
new_is_fresh t a e h = rw (h, e) refl

-- a is a new cursor
module _ (a : Reader (List Alias) Found) (new : a ≡ fresh Found []) where
  at_start : (r : Result EdifFile ReadError) (b : Reader (List Alias) Found) (i j : Supply) → ReadsWhole edif same (file a.context) r a b i j → ReadsWhole edif same (file []) r a b i j
  at_start r b i j h = subst (λ (k : List Alias). ReadsWhole edif same (file k) r a b i j) (ap (λ (c : Reader (List Alias) Found). c.context) new) h

  pub file_fails : (e : ReadError) (b : Reader (List Alias) Found) (i j : Supply) → ReadsWhole edif same (file a.context) (Err e) a b i j → ReadsFile (Err e) i j
  file_fails e b i j h = part_fails_from edif trailing [] (file []) live clear same a new e b i j (at_start (Err e) b i j h)

  pub ending_fails : (x : EdifFile) (e : ReadError) (b c : Reader (List Alias) Found) (i j m : Supply) → ReadsWhole edif same (file a.context) (Ok x) a b i j → Ends edif trailing (Err e) b c j m → ReadsFile (Err e) i m
  ending_fails x e b c i j m h n = end_fails_from edif trailing [] (file []) live clear same a new x e b c i j m (at_start (Ok x) b i j h) n

  -- a file with no more items than room was used
  pub within_limit : (n left : ℕ) → n + left < room a → n ≤ LIMIT
  unfolding room
  within_limit n left h = let whole : room a ≤ LIMIT + 1 = rw new (omega arith) in omega (arith, h, whole)

  pub file_is_read : (x : EdifFile) (b c : Reader (List Alias) Found) (i j m : Supply) → ReadsWhole edif same (file a.context) (Ok x) a b i j → Ends edif trailing (Ok tt) b c j m → ReadsFile (Ok x) i m
  file_is_read x b c i j m h n = text_is_read_from edif trailing [] (file []) live clear same a new x b c i j m (at_start (Ok x) b i j h) n
