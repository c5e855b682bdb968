-- The tokens of a Verilog text (IEEE 1364-2005, 3).
use Rattle.std.specs.Prelude.{ℕ, zero, suc, ◌+◌, ◌-◌, List, [], ◌∷◌, drop, Result, Ok, Err}
use Rattle.std.specs.List.{prefix_len}
use Rattle.grammar.specs.Whole.{Bad}
use Rattle.nl_base.specs.declared.place.Place.{Place}
use Rattle.nl_base.specs.Place.{place_after, place_at_start}
use Rattle.nl_bytes.specs.Classes.{is_line_byte}
use Rattle.nl_bytes.specs.Tokens.{Ahead, Language, follow, only_end, no_token, limited}
use Rattle.vlog_tokens.specs.declared.item.Item.{Item}
use Rattle.vlog_tokens.specs.declared.item.Item.TheVariants.{Blank, Line, Token}
use Rattle.vlog_tokens.specs.declared.token.VFound.{VFound}
use Rattle.nl_bytes.specs.Flaws.{Piece, Flaw, fault_at}
use Rattle.vlog_tokens.specs.Spelling.{item_at}

-- how many bytes are passed with a comment or a directive that has the rest of its line with it
abbrev pub with_line : ℕ → List ℕ → ℕ
with_line count bs = count + prefix_len is_line_byte (drop count bs)

-- what stands at a place, and the tokens behind it; `after n` are those behind n bytes
abbrev pub then_tokens : Item → Place → List ℕ → ℕ → ℕ → (ℕ → Ahead VFound) → Ahead VFound
then_tokens Blank p bs count seen after = after count
then_tokens Line p bs count seen after = after (with_line count bs)
then_tokens (Token token) p bs count seen after = follow (record { place = p; stop = p.offset + seen; token = token }) (after count)

abbrev pub then_items : Place → List ℕ → Result (Piece Item) Flaw → (ℕ → Ahead VFound) → Ahead VFound
then_items p bs (Ok piece) after = then_tokens piece.value p bs piece.count piece.seen after
then_items p bs (Err f) after = no_token VFound (Bad (fault_at p bs f))

-- the tokens of the bytes from a place on, of which the first `skipped` belong to what stands before
unfoldable pub tokens_from : ℕ → Place → List ℕ → Ahead VFound
tokens_from skipped p [] = only_end VFound p
tokens_from (suc skipped) p (b ∷ bs) = tokens_from skipped (place_after p b) bs
tokens_from zero p (b ∷ bs) = then_items p (b ∷ bs) (item_at b bs) (λ count. tokens_from (count - 1) (place_after p b) bs)

-- how far a token is looked at
abbrev pub stop_of : VFound → ℕ
stop_of x = x.stop

-- the tokens of the bytes from a place on, as far as their stops lie within the limit of an input
unfoldable pub stream_from : Place → List ℕ → Ahead VFound
stream_from p bs = limited stop_of (tokens_from zero p bs)

-- the tokens of a text, whatever its length
abbrev pub all_tokens : List ℕ → Ahead VFound
all_tokens text = tokens_from zero place_at_start text

-- the tokens of a text, as far as their stops lie within the limit of an input
abbrev pub vtokens : List ℕ → Ahead VFound
vtokens text = stream_from place_at_start text

-- the tokens of Verilog
abbrev pub vlog : Language VFound
vlog = record { place = λ x. x.place; stop = stop_of; tokens = stream_from }
