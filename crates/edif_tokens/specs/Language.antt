-- The tokens of an EDIF text (EDIF 2 0 0, basic syntax).
use Rattle.std.specs.Prelude.{ℕ, zero, suc, ◌+◌, ◌-◌, if◌then◌else◌, List, [], ◌∷◌, Result, Ok, Err}
use Rattle.grammar.specs.Whole.{Bad}
use Rattle.nl_base.specs.declared.place.Place.{Place}
use Rattle.nl_base.specs.Place.{place_after, place_at_start}
use Rattle.nl_bytes.specs.Classes.{is_space}
use Rattle.nl_bytes.specs.Tokens.{Ahead, Language, follow, only_end, no_token, limited}
use Rattle.edif_tokens.specs.declared.token.Found.{Found}
use Rattle.edif_values.specs.declared.token.Token.{Token}
use Rattle.edif_tokens.specs.Spelling.{Piece, Flaw, token_at}
use Rattle.nl_bytes.specs.Flaws.{fault_at}

-- a token that begins at a place
abbrev pub found_at : Place → Piece Token → Found
found_at p piece = record { place = p; stop = p.offset + piece.seen; token = piece.value }

-- what the bytes at a place spell, and the tokens behind it; `after n` are those behind a token of n bytes
abbrev pub then_tokens : Place → List ℕ → Result (Piece Token) Flaw → (ℕ → Ahead Found) → Ahead Found
then_tokens p bs (Ok piece) after = follow (found_at p piece) (after piece.count)
then_tokens p bs (Err f) after = no_token Found (Bad (fault_at p bs f))

-- the tokens of the bytes from a place on, of which the first `skipped` belong to a token before
unfoldable pub tokens_from : ℕ → Place → List ℕ → Ahead Found
tokens_from skipped p [] = only_end Found p
tokens_from (suc skipped) p (b ∷ bs) = tokens_from skipped (place_after p b) bs
tokens_from zero p (b ∷ bs) =
    if is_space b then tokens_from zero (place_after p b) bs
    else then_tokens p (b ∷ bs) (token_at b bs) (λ count. tokens_from (count - 1) (place_after p b) bs)

-- how far a token is looked at
abbrev pub stop_of : Found → ℕ
stop_of f = f.stop

-- the tokens of the bytes from a place on, as far as their stops lie within the limit of an input
unfoldable pub stream_from : Place → List ℕ → Ahead Found
stream_from p bs = limited stop_of (tokens_from zero p bs)

-- the tokens of a text, whatever its length
abbrev pub all_tokens : List ℕ → Ahead Found
all_tokens text = tokens_from zero place_at_start text

-- the tokens of a text, as far as their stops lie within the limit of an input
abbrev pub tokens : List ℕ → Ahead Found
tokens text = stream_from place_at_start text

-- the tokens of EDIF
abbrev pub edif : Language Found
edif = record { place = λ x. x.place; stop = stop_of; tokens = stream_from }
