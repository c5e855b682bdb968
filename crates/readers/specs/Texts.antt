-- What a whole input reads as, and its first fault.
use Rattle.std.specs.Prelude.{◌≡◌, ◌≢◌, ℕ, ◌+◌, ◌≤◌, List, Result, IfOk, IfErr, IfSome}
use Rattle.std.specs.Io.KnownBytes.{IsAtEnd}
use Rattle.grammar.specs.Whole.{whole, IsText, IsFirstFault, IsCut}
use Rattle.nl_base.specs.Place.{place_at_start}
use Rattle.nl_base.specs.declared.fault.Reason.{Reason}
use Rattle.nl_base.specs.declared.fault.ReadError.{ReadError}
use Rattle.nl_base.specs.declared.fault.ReadError.TheVariants as errors
use Rattle.nl_io.specs.Causes.{Rose}
use Rattle.nl_bytes.specs.declared.bytes.TheConstants.{LIMIT}
use Rattle.readers.specs.Parts.{PartOf}
use Rattle.nl_io.specs.Sources.{Supply}
use Rattle.nl_bytes.specs.Tokens.{Ahead, Language, skip}
use Rattle.readers.specs.Readers.{fault_at}

-- the tokens of a text
abbrev pub tokens_of : {X : Type 0} → Language X → List ℕ → Ahead X
tokens_of L bs = L.tokens place_at_start bs

-- The text spells the value, as the part in the context.
abbrev pub SpellsText : {K X A : Type 0} → Language X → (X → Reason) → K → PartOf K X A → List ℕ → A → Type 0
SpellsText L trailing k part bs v = IsText k (whole trailing part) (tokens_of L bs) v

-- when each error comes
abbrev pub Comes : {K X A : Type 0} → Language X → (X → Reason) → K → PartOf K X A → ReadError → Ahead X → Type 0
Comes L trailing k part (errors.Text f) s = IsFirstFault (fault_at L) k (whole trailing part) s f
Comes L trailing k part errors.TooLong s = IsCut k (whole trailing part) s
Comes L trailing k part errors.ReadFault s = Unit {0}
Comes L trailing k part errors.NoMemory s = Unit {0}
Comes L trailing k part errors.Spent s = ⊥

-- at a fault no more than so many bytes were taken
abbrev pub TakesTo : ReadError → ℕ → Type 0
TakesTo (errors.Text f) n = n ≤ f.stop + 4096
TakesTo e n = Unit {0}

-- A text is read to its end as a part in a context, or refused by its first fault.
pub record ReadsText {K X V A : Type 0} (L : Language X) (trailing : X → Reason) (k : K) (view : V → A) (part : PartOf K X A) (result : Result V ReadError) (old new : Supply) : Type 0 where
  pub value : IfOk result (λ x. IfSome old.left (λ bs. SpellsText L trailing k part bs (view x)))
  pub ended : IfOk result (λ x. IsAtEnd new.left)
  pub error : IfErr result (λ e. IfSome old.left (λ bs. Comes L trailing k part e (tokens_of L bs)))
  pub never_spent : IfErr result (λ e. e ≢ errors.Spent)
  pub cause : IfErr result (λ e. e ≡ errors.ReadFault → Rose old.faults new.faults)
  pub faults : old.faults ≤ new.faults
  -- as many bytes were taken
  pub taken : ℕ
  pub left : new.left ≡ skip taken 0 old.left
  pub near : IfErr result (λ e. TakesTo e taken)
  -- whatever the answer, no more than 4,096 bytes past the limit were taken
  pub within : taken ≤ LIMIT + 4096
