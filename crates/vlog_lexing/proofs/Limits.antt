-- A text within the limit of an input is read whole.
use Rattle.std.proofs.Common.{◌≡◌, ℕ, zero, suc, ◌+◌, ◌-◌, ◌≤◌, List, [], ◌∷◌, length, Result, Ok, Err, ap, ◌∙◌, arith}
use Rattle.nl_base.specs.declared.place.Place.{Place}
use Rattle.nl_base.specs.Place.{place_after, place_at_start}
use Rattle.nl_bytes.specs.declared.bytes.TheConstants.{LIMIT}
use Rattle.nl_bytes.specs.Tokens.{Ahead, follow, limited}
use Rattle.nl_bytes.proofs.Limited.{token_near, fault_near, end_near}
use Rattle.vlog_tokens.specs.declared.item.Item.{Item}
use Rattle.vlog_tokens.specs.declared.item.Item.TheVariants.{Blank, Line, Token}
use Rattle.vlog_tokens.specs.declared.token.VFound.{VFound}
use Rattle.nl_bytes.specs.Flaws.{Piece, Flaw, fault_at}
use Rattle.vlog_tokens.specs.Language.{with_line, then_tokens, then_items, tokens_from, stop_of, stream_from, all_tokens, vtokens}
use Rattle.vlog_tokens.specs.Spelling.{item_at}
use Rattle.vlog_tokens.proofs.Within.{IsWithin, item_within}

item_whole : (item : Item) (p : Place) (bs : List ℕ) (count seen : ℕ) (after : ℕ → Ahead VFound) → p.offset + seen ≤ LIMIT → ((n : ℕ) → limited stop_of (after n) ≡ after n)
    → limited stop_of (then_tokens item p bs count seen after) ≡ then_tokens item p bs count seen after
item_whole Blank p bs count seen after le rest = rest count
item_whole Line p bs count seen after le rest = rest (with_line count bs)
item_whole (Token token) p bs count seen after le rest = token_near stop_of x (after count) le ∙ ap (follow x) (rest count)
  where
    x : VFound
    x = record { place = p; stop = p.offset + seen; token = token }

items_whole : (p : Place) (bs : List ℕ) (n : ℕ) (x : Result (Piece Item) Flaw) (after : ℕ → Ahead VFound) → p.offset + n ≤ LIMIT → IsWithin n x → ((n : ℕ) → limited stop_of (after n) ≡ after n)
    → limited stop_of (then_items p bs x after) ≡ then_items p bs x after
items_whole p bs n (Ok piece) after le within rest = item_whole piece.value p bs piece.count piece.seen after (omega (arith, within.1)) rest
items_whole p bs n (Err f) after le within rest = let near : p.offset + f.seen ≤ LIMIT = omega (arith, le, within) in fault_near stop_of (fault_at p bs f) near

-- bytes that end within the limit are read whole
limited_whole : (skipped : ℕ) (p : Place) (bs : List ℕ) → p.offset + length bs ≤ LIMIT → limited stop_of (tokens_from skipped p bs) ≡ tokens_from skipped p bs
unfolding tokens_from
limited_whole zero p [] le = end_near stop_of p (omega arith)
limited_whole (suc n) p [] le = end_near stop_of p (omega arith)
limited_whole (suc n) p (b ∷ bs) le = limited_whole n (place_after p b) bs (omega arith)
limited_whole zero p (b ∷ bs) le =
    items_whole p (b ∷ bs) (suc (length bs)) (item_at b bs) (λ count. tokens_from (count - 1) (place_after p b) bs) le (item_within b bs)
    (λ count. limited_whole (count - 1) (place_after p b) bs (omega arith))

-- the tokens of a text within the limit are all its tokens
pub tokens_whole : (text : List ℕ) → length text ≤ LIMIT → vtokens text ≡ all_tokens text
unfolding stream_from
tokens_whole text le = limited_whole zero place_at_start text (omega (arith, le))
