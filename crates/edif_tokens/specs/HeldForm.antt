-- What the bytes that are held show of the beginning of a form: its `(` and its word.
use Rattle.std.specs.Prelude.{◌≡◌, ℕ, Bool, false, ◌&&◌, ◌==◌, nat_le, if◌then◌else◌, List, [], ◌∷◌, take, drop, length, slice_index, Option, Some, None, Ok}
use Rattle.nl_base.specs.Case.{same_bytes}
use Rattle.nl_io.specs.Sources.{Supply}
use Rattle.nl_bytes.specs.Bytes.{Window}
use Rattle.nl_bytes.specs.Tokens.{State, ReadsToken}
use Rattle.edif_tokens.specs.declared.form.FormAt.{FormAt}
use Rattle.edif_tokens.specs.declared.form.OpenAt.{OpenAt}
use Rattle.edif_tokens.specs.declared.token.Found.{Found}
use Rattle.edif_values.specs.declared.token.Token.TheVariants.{LeftParen, Word}
use Rattle.edif_tokens.specs.Held.{is_near, space_length, word_length}
use Rattle.edif_tokens.specs.Spelling.{may_follow}
use Rattle.edif_tokens.specs.Language.{edif}

-- no form
abbrev pub no_form : FormAt
no_form = record { space = 0; inner = 0; count = 0 }

-- a form whose `(` stands behind n bytes of white space, and before these bytes
abbrev pub opened : ℕ → List ℕ → FormAt
opened n bs = record { space = n; inner = space_length bs; count = word_length (drop (space_length bs) bs) }

-- where a form begins at the front of some bytes, behind n bytes of white space
abbrev pub form_behind : ℕ → List ℕ → FormAt
form_behind n [] = no_form
form_behind n (b ∷ bs) = if b == 40 then opened n bs else no_form

-- where the form that is next begins; its word has no bytes where what is held does not show a `(` and a word behind it with its end
unfoldable pub form_at : Window → FormAt
form_at w = if is_near w then form_behind (space_length w.held) (drop (space_length w.held) w.held) else no_form

-- where a `(` at the front of some bytes stands, behind n bytes of white space
abbrev pub open_behind : ℕ → List ℕ → Option OpenAt
open_behind n [] = None
open_behind n (b ∷ bs) = if b == 40 then Some (record { space = n; inner = space_length bs }) else None

-- where the `(` that is next stands, where what is held shows it
unfoldable pub open_at : Window → Option OpenAt
open_at w = if is_near w then open_behind (space_length w.held) (drop (space_length w.held) w.held) else None

-- the bytes behind that `(` and the white space behind it
abbrev pub opened_by : OpenAt → List ℕ → List ℕ
opened_by at bs = drop at.inner (drop 1 (drop at.space bs))

-- whether some bytes begin with this word, and then have a byte that may follow a word
abbrev pub shows_word : List ℕ → List ℕ → Bool
shows_word bs word = if nat_le (length bs) (length word) then false else same_bytes (take (length word) bs) word && may_follow (slice_index bs (length word))

-- a `(` and then this word are the next two tokens
pub record ReadsForm (text : List ℕ) (old between new : State) (i : Supply) : Type 0 where
  pub parenthesis : (x : Found) × (x.token ≡ LeftParen) × ReadsToken edif (Ok (Some x)) old.window old.spent between.window between.spent i i
  pub word : (x : Found) × (x.token ≡ Word text) × ReadsToken edif (Ok (Some x)) between.window between.spent new.window new.spent i i
