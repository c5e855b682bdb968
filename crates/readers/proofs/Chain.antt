-- Readers called one after the other, for chains too long for one call of grind.
use Rattle.std.proofs.Common.{◌≡◌, Result, Ok, Err, IsErrAnd, arith}
use Rattle.std.proofs.lemmas.Result.{err_from_is_err_and}
use Rattle.grammar.specs.Part.{gives, sequence}
use Rattle.nl_base.specs.declared.fault.ReadError.{ReadError}
use Rattle.readers.specs.Parts.{PartOf}
use Rattle.nl_io.specs.Sources.{Supply}
use Rattle.nl_bytes.specs.Tokens.{Language}
use Rattle.readers.specs.Readers.{Reader, Reads, ReadsMaybe}
use Rattle.readers.proofs.Reading.{sequences}

-- u and v are the views of the first part and of the whole
module _ {K X U Y V Z : Type 0} (L : Language X) (u : U → Y) (v : V → Z) (p : PartOf K X Y) (q : Y → PartOf K X Z) where
  after_ok : (x : U) (y : V) (a b c : Reader K X) (i j m : Supply) → Reads L u p (Ok x) a b i j → ReadsMaybe L v (q (u x)) (Ok y) b c j m → Reads L v (sequence p q) (Ok y) a c i m
  after_ok x y a b c i j m h n = grind (arith, sequences)

  after_err : (x : U) (e : ReadError) (a b c : Reader K X) (i j m : Supply) → Reads L u p (Ok x) a b i j → ReadsMaybe L v (q (u x)) (Err e) b c j m → Reads L v (sequence p q) (Err e) a c i m
  after_err x e a b c i j m h n = grind (arith, sequences)

  -- what follows may be of no token
  pub reads_then : {x : U} (r : Result V ReadError) {a b c : Reader K X} {i j m : Supply} → Reads L u p (Ok x) a b i j → ReadsMaybe L v (q (u x)) r b c j m → Reads L v (sequence p q) r a c i m
  reads_then {x} (Ok y) {a} {b} {c} {i} {j} {m} h n = after_ok x y a b c i j m h n
  reads_then {x} (Err e) {a} {b} {c} {i} {j} {m} h n = after_err x e a b c i j m h n

  first_err : (e : ReadError) (a b : Reader K X) (i j : Supply) → Reads L u p (Err e) a b i j → Reads L v (sequence p q) (Err e) a b i j
  first_err e a b i j h = grind (arith, sequences)

  pub reads_failed : {e : ReadError} (r : Result V ReadError) {a b : Reader K X} {i j : Supply} → Reads L u p (Err e) a b i j → IsErrAnd r (λ x. x ≡ e) → Reads L v (sequence p q) r a b i j
  reads_failed {e} r {a} {b} {i} {j} h f = let g = err_from_is_err_and r f in rw (g.1, g.2) (first_err e a b i j h)

  -- the last part, and then a value
  pub reads_last : (x : U) (y : V) (a b : Reader K X) (i j : Supply) (w : Z) → q (u x) ≡ gives w → v y ≡ w → Reads L u p (Ok x) a b i j → Reads L v (sequence p q) (Ok y) a b i j
  reads_last x y a b i j w e f h = grind (arith, sequences)

-- a call that takes a token reads as one that may take none
pub maybe_reads : {K X V Y : Type 0} (L : Language X) (view : V → Y) (part : PartOf K X Y) (r : Result V ReadError) (a b : Reader K X) (i j : Supply) → Reads L view part r a b i j → ReadsMaybe L view part r a b i j
maybe_reads L view part (Ok x) a b i j h = record { value = (h.value.0, h.value.1, omega (arith, h.value.2)); error = tt; moves = h.moves; unspent = h.unspent; spent = tt; spends = h.spends; cause = tt; near = tt }
maybe_reads L view part (Err e) a b i j h = record { value = tt; error = h.error; moves = h.moves; unspent = tt; spent = h.spent; spends = h.spends; cause = h.cause; near = h.near }
