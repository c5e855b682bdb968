-- What the reader of the next token answers.
use Rattle.std.specs.Prelude.{◌≡◌, ℕ, nat_lt, if◌then◌else◌, List, Option, Some, None, Result, Ok, Err}
use Rattle.nl_base.specs.declared.place.Place.{Place}
use Rattle.nl_base.specs.declared.fault.ReadError.{ReadError}
use Rattle.nl_base.specs.declared.fault.ReadError.TheVariants.{TooLong}
use Rattle.nl_bytes.specs.declared.bytes.TheConstants.{LIMIT}
use Rattle.nl_bytes.specs.declared.class.Class.TheVariants.{LineByte}
use Rattle.nl_bytes.specs.declared.halt.Halt.{Halt}
use Rattle.nl_bytes.specs.Bytes.{Window, Uses, Skips, input}
use Rattle.vlog_tokens.specs.declared.item.Item.{Item}
use Rattle.vlog_tokens.specs.declared.item.Item.TheVariants.{Blank, Line, Token}
use Rattle.vlog_tokens.specs.declared.token.VFound.{VFound}
use Rattle.vlog_tokens.specs.declared.token.VToken.{VToken}
use Rattle.vlog_tokens.specs.Language.{stream_from}

-- what becomes of an item: a token is answered and nothing is used; the rest of the line is used with a comment
abbrev pub Passed : Item → Window → Window → Option (List ℕ) → Option (List ℕ) → Result (Option VToken) Halt → Type 0
Passed Blank old new left left' result = (new ≡ old) × (left' ≡ left) × (result ≡ Ok None)
Passed (Token token) old new left left' result = (new ≡ old) × (left' ≡ left) × (result ≡ Ok (Some token))
Passed Line old new left left' (Ok x) = (next : Option ℕ) × Skips LineByte old new left left' (Ok next) × (x ≡ None)
Passed Line old new left left' (Err h) = Skips LineByte old new left left' (Err h)

-- a token whose stop is within the limit of an input
abbrev pub found_or_late : Place → ℕ → VToken → Result (Option VFound) ReadError
found_or_late p stop token = if nat_lt LIMIT stop then Err TooLong else Ok (Some (record { place = p; stop = stop; token = token }))

-- white space was used, and the tokens ahead are the same
pub record Passes (old new : Window) (left left' : Option (List ℕ)) : Type 0 where
  pub used : List ℕ
  pub uses : Uses old new left left' used
  pub same : (bs rest : List ℕ) → input old left ≡ Some bs → input new left' ≡ Some rest → stream_from old.place bs ≡ stream_from new.place rest
