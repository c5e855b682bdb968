-- The first fault of an EDIF text: where it is and, by the table of reasons, why (EDIF 2 0 0).
use Rattle.std.specs.Prelude.{◌≡◌, ◌≤◌, ℕ, List, [], ◌∷◌, ◌++◌}
use Rattle.grammar.specs.Texts.{Begins}
use Rattle.grammar.specs.Whole.{Terminal, whole, Finish, Bad}
use Rattle.nl_base.specs.declared.place.Place.{Place}
use Rattle.nl_base.specs.declared.fault.TextFault.{TextFault}
use Rattle.nl_bytes.specs.declared.bytes.TheConstants.{LIMIT}
use Rattle.readers.specs.Readers.{fault_at}
use Rattle.edif_tokens.specs.declared.token.Found.{Found}
use Rattle.edif_tokens.specs.Language.{all_tokens}
use Rattle.edif_keywords.specs.Language.{edif}
use Rattle.edif_keywords.specs.Reasons as say
use Rattle.edif_library.specs.Grammar.{file}
use Rattle.edif_reasons.specs.Context.{Tokens}
use Rattle.edif_reasons.specs.Rows.{reason_row}

-- all tokens of the bytes, with the end of the bytes where they come to it
abbrev pub tokens : List ℕ → Tokens
tokens bytes = (all_tokens bytes).tokens

-- what comes behind them
abbrev pub rest : List ℕ → Finish TextFault
rest bytes = (all_tokens bytes).finish

-- some text of a file begins with these tokens
abbrev pub GoesOn : Tokens → Type 0
GoesOn ts = Begins [] (whole say.trailing (file [])) ts

-- The bytes have this first fault by the table of reasons.
pub data FailsByTable (bytes : List ℕ) (fault : TextFault) : Type 0 where
  -- at the first token, or at the end of the bytes, that no text of a file has there after the
  -- tokens before it, for the reason that the table gives it after these
  of_token : (before after : Tokens) (x : Terminal Found Place) → tokens bytes ≡ before ++ x ∷ after
      → GoesOn before → ¬ GoesOn (before ++ x ∷ [])
      → fault ≡ fault_at edif x (reason_row before x) → FailsByTable bytes fault
  -- at bytes that are no token, behind tokens that a text of a file begins with, for their reason
  of_no_token : GoesOn (tokens bytes) → rest bytes ≡ Bad fault → FailsByTable bytes fault

-- The same, with its stop within the limit of an input.
abbrev pub FailsEarlyByTable : List ℕ → TextFault → Type 0
FailsEarlyByTable bytes fault = FailsByTable bytes fault × (fault.stop ≤ LIMIT)
