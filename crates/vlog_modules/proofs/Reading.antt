-- The exits of the reader of a file.
use Rattle.std.proofs.Common.{◌≡◌, ◌∙◌, refl, sym, ap, List, Option, Some, None, ℕ, ◌+◌, ◌-◌, ◌≤◌, IfSome, Result, Ok, Err, arith}
use Rattle.nl_base.specs.declared.fault.ReadError.{ReadError}
use Rattle.nl_base.specs.declared.fault.ReadError.TheVariants as errors
use Rattle.nl_io.specs.Sources.{Supply}
use Rattle.nl_bytes.specs.declared.bytes.TheConstants.{LIMIT}
use Rattle.nl_bytes.specs.Tokens.{State}
use Rattle.nl_bytes.specs.Tokens as tokens
use Rattle.readers.specs.Readers.{Reader, ReadsWhole, Ends, room, same}
use Rattle.readers.specs.Texts.{ReadsText, Comes, tokens_of}
use Rattle.readers.proofs.Moving.{skip_none}
use Rattle.readers.proofs.Whole.{fresh, part_fails_from, end_fails_from, text_is_read_from}
use Rattle.vlog_tokens.specs.declared.token.VFound.{VFound}
use Rattle.vlog_tokens.specs.Language.{vlog}
use Rattle.vlog_values.specs.declared.module.VlogFile.{VlogFile}
use Rattle.vlog_exprs.specs.Language.{NoContext}
use Rattle.vlog_exprs.specs.Reasons.{trailing}
use Rattle.vlog_modules.specs.Grammar.{file}
use Rattle.vlog_modules.proofs.AtMostOne.{live, clear}

-- what the reader of a file answers
abbrev pub ReadsFile : Result VlogFile ReadError → Supply → Supply → Type 0
ReadsFile result i j = ReadsText vlog trailing tt same file result i j

-- memory has run out before the first byte
pub no_memory_first : (i : Supply) → ReadsFile (Err errors.NoMemory) i i
no_memory_first i = record {
  value = tt;
  ended = tt;
  error = by i.left;
  never_spent = λ e. absurd cc;
  cause = λ e. absurd cc;
  faults = omega arith;
  taken = 0;
  left = sym (skip_none 0 i.left);
  near = tt;
  within = omega arith;
}
  where
    by : (left : Option (List ℕ)) → IfSome left (λ bs. Comes vlog trailing tt file errors.NoMemory (tokens_of vlog bs))
    by None = tt
    by (Some bs) = tt

-- a cursor over a new reader of tokens is a new one
pub new_is_fresh : (t : State) (a : Reader NoContext VFound) → t ≡ tokens.fresh → a ≡ record { window = t.window; ahead = None; context = tt; spent = t.spent } → a ≡ fresh VFound tt
new_is_fresh t a e h = rw (h, e) refl

-- a new cursor can take one token more than a text has bytes
fresh_room : room (fresh {K = NoContext} VFound tt) ≡ LIMIT + 1
unfolding room
fresh_room = refl

fewer : (n room most : ℕ) → room ≡ most + 1 → n ≤ room - 1 → n ≤ most
fewer n room most e le = omega arith

-- a is a new cursor
module _ (a : Reader NoContext VFound) (new : a ≡ fresh VFound tt) where
  pub file_fails : (e : ReadError) (b : Reader NoContext VFound) (i j : Supply) → ReadsWhole vlog same file (Err e) a b i j → ReadsFile (Err e) i j
  file_fails e b i j h = part_fails_from vlog trailing tt file live clear same a new e b i j h

  pub ending_fails : (x : VlogFile) (e : ReadError) (b c : Reader NoContext VFound) (i j m : Supply) → ReadsWhole vlog same file (Ok x) a b i j → Ends vlog trailing (Err e) b c j m → ReadsFile (Err e) i m
  ending_fails x e b c i j m h n = end_fails_from vlog trailing tt file live clear same a new x e b c i j m h n

  pub file_is_read : (x : VlogFile) (b c : Reader NoContext VFound) (i j m : Supply) → ReadsWhole vlog same file (Ok x) a b i j → Ends vlog trailing (Ok tt) b c j m → ReadsFile (Ok x) i m
  file_is_read x b c i j m h n = text_is_read_from vlog trailing tt file live clear same a new x b c i j m h n

  -- fewer items than tokens
  pub file_within : (n : ℕ) → n ≤ room a - 1 → n ≤ LIMIT
  file_within n le = fewer n (room a) LIMIT (ap room new ∙ fresh_room) le
