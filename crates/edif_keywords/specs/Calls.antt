-- What a call answers for what a token says, and what the bytes that are held show of the next one.
use Rattle.std.specs.Prelude.{ℕ, Bool, not, ◌&&◌, if◌then◌else◌, List, [], Option, None, is_none, Result, Ok, Err}
use Rattle.nl_base.specs.declared.place.Place.{Place}
use Rattle.nl_base.specs.declared.fault.Reason.{Reason}
use Rattle.nl_base.specs.declared.fault.ReadError.{ReadError}
use Rattle.nl_base.specs.declared.fault.ReadError.TheVariants as errors
use Rattle.edif_tokens.specs.declared.token.Found.{Found}
use Rattle.edif_tokens.specs.declared.form.FormAt.{FormAt}
use Rattle.edif_tokens.specs.declared.form.OpenAt.{OpenAt}
use Rattle.edif_tokens.specs.Held as tokens
use Rattle.edif_tokens.specs.HeldForm.{no_form, shows_word}
use Rattle.edif_tokens.specs.HeldForm as forms
use Rattle.readers.specs.Readers.{Reader, spoilt}
use Rattle.edif_values.specs.declared.keyword.Keyword.{Keyword}
use Rattle.edif_values.specs.Keywords.{spelling}
use Rattle.edif_keywords.specs.Aliases.{Alias}

-- whether no error has spent a reader, and it has looked at no token
abbrev pub is_unlooked : Reader (List Alias) Found → Bool
is_unlooked r = not r.spent && is_none r.ahead

-- the parenthesis that is next of a reader that has looked at no token, where the bytes that are held show it
unfoldable pub held_mark : Reader (List Alias) Found → Option ℕ
held_mark r = if is_unlooked r then tokens.held_mark r.window else None

-- the reader behind that parenthesis
abbrev pub past_mark : Reader (List Alias) Found → Reader (List Alias) Found
past_mark r = record { window = tokens.past_mark r.window; ahead = r.ahead; context = r.context; spent = r.spent }

-- the word that is next of a reader that has looked at no token, where the bytes that are held show it and its end
unfoldable pub held_word : Reader (List Alias) Found → List ℕ
held_word r = if is_unlooked r then tokens.held_word r.window else []

-- the reader behind that word
abbrev pub past_word : Reader (List Alias) Found → Reader (List Alias) Found
past_word r = record { window = tokens.past_word r.window; ahead = r.ahead; context = r.context; spent = r.spent }

-- where the form that is next begins of a reader that has looked at no token; its word has no bytes where the bytes that are held do not show it
unfoldable pub form_at : Reader (List Alias) Found → FormAt
form_at r = if is_unlooked r then forms.form_at r.window else no_form

-- where the `(` that is next stands of a reader that has looked at no token, where the bytes that are held show it
unfoldable pub open_at : Reader (List Alias) Found → Option OpenAt
open_at r = if is_unlooked r then forms.open_at r.window else None

-- whether some bytes begin with a keyword as the standard spells it, and then have a byte that may follow a word
abbrev pub shows_keyword : List ℕ → Keyword → Bool
shows_keyword bs keyword = shows_word bs (spelling keyword)

-- the word of that form
abbrev pub form_word : Reader (List Alias) Found → List ℕ
form_word r = tokens.held_word (tokens.past_mark r.window)

-- the reader behind the `(` and the word of that form
abbrev pub past_form : Reader (List Alias) Found → Reader (List Alias) Found
past_form r = past_word (past_mark r)

-- the value, or the refusal of the token at its place
abbrev pub answer : {V : Type 0} → Place → ℕ → Result V Reason → Result V ReadError
answer place stop (Ok v) = Ok v
answer place stop (Err reason) = Err (errors.Text (record { place = place; stop = stop; reason = reason }))

-- a reader whose token is refused is spent
abbrev pub left_after : {K X V : Type 0} → Result V Reason → Reader K X → Reader K X
left_after (Ok v) c = c
left_after (Err reason) c = spoilt c
