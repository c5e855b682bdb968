-- A text has no more tokens than bytes, and one that is read to its end is within the limit of an input.
use Rattle.std.proofs.Common.{◌≡◌, refl, ℕ, zero, suc, ◌+◌, ◌-◌, ◌≤◌, List, [], ◌∷◌, length, Result, Ok, Err, arith}
use Rattle.grammar.specs.Whole.{Done}
use Rattle.nl_base.specs.declared.place.Place.{Place}
use Rattle.nl_base.specs.Place.{place_after}
use Rattle.nl_bytes.specs.declared.bytes.TheConstants.{LIMIT}
use Rattle.nl_bytes.specs.Tokens.{Ahead}
use Rattle.nl_bytes.proofs.Limited.{limited_few}
use Rattle.readers.proofs.Limited.{EndsAt, end_within}
use Rattle.vlog_tokens.specs.declared.item.Item.{Item}
use Rattle.vlog_tokens.specs.declared.item.Item.TheVariants.{Blank, Line, Token}
use Rattle.vlog_tokens.specs.declared.token.VFound.{VFound}
use Rattle.nl_bytes.specs.Flaws.{Piece, Flaw}
use Rattle.vlog_tokens.specs.Spelling.{item_at}
use Rattle.vlog_tokens.specs.Language.{with_line, then_tokens, then_items, tokens_from, stop_of, stream_from}

-- ---- no more tokens than bytes

few_item : (n : ℕ) (item : Item) (p : Place) (bs : List ℕ) (count seen : ℕ) (after : ℕ → Ahead VFound) → ((m : ℕ) → length (after m).tokens ≤ n) → length (then_tokens item p bs count seen after).tokens ≤ suc n
few_item n Blank p bs count seen after rest = let h = rest count in omega (arith, h)
few_item n Line p bs count seen after rest = let h = rest (with_line count bs) in omega (arith, h)
few_item n (Token t) p bs count seen after rest = let h = rest count in omega (arith, h)

few_then : (n : ℕ) (p : Place) (bs : List ℕ) (r : Result (Piece Item) Flaw) (after : ℕ → Ahead VFound) → ((m : ℕ) → length (after m).tokens ≤ n) → length (then_items p bs r after).tokens ≤ suc n
few_then n p bs (Ok piece) after rest = few_item n piece.value p bs piece.count piece.seen after rest
few_then n p bs (Err f) after rest = omega arith

few : (skipped : ℕ) (p : Place) (bs : List ℕ) → length (tokens_from skipped p bs).tokens ≤ suc (length bs)
unfolding tokens_from
few zero p [] = omega arith
few (suc n) p [] = omega arith
few (suc n) p (b ∷ bs) = let h = few n (place_after p b) bs in omega (arith, h)
few zero p (b ∷ bs) = few_then (suc (length bs)) p (b ∷ bs) (item_at b bs) (λ count. tokens_from (count - 1) (place_after p b) bs) (λ count. few (count - 1) (place_after p b) bs)

-- the end of the input is one more token
pub few_tokens : (p : Place) (bs : List ℕ) → length (stream_from p bs).tokens ≤ suc (length bs)
unfolding stream_from
few_tokens p bs = let l = limited_few stop_of (tokens_from 0 p bs) in let h = few 0 p bs in omega (arith, l, h)

-- ---- the end of the bytes

ends_item : (n : ℕ) (item : Item) (p : Place) (bs : List ℕ) (count seen : ℕ) (after : ℕ → Ahead VFound) → ((m : ℕ) → EndsAt n (after m).tokens (after m).finish)
    → EndsAt n (then_tokens item p bs count seen after).tokens (then_tokens item p bs count seen after).finish
ends_item n Blank p bs count seen after rest = rest count
ends_item n Line p bs count seen after rest = rest (with_line count bs)
ends_item n (Token t) p bs count seen after rest = rest count

ends_then : (n : ℕ) (p : Place) (bs : List ℕ) (r : Result (Piece Item) Flaw) (after : ℕ → Ahead VFound) → ((m : ℕ) → EndsAt n (after m).tokens (after m).finish)
    → EndsAt n (then_items p bs r after).tokens (then_items p bs r after).finish
ends_then n p bs (Ok piece) after rest = ends_item n piece.value p bs piece.count piece.seen after rest
ends_then n p bs (Err f) after rest = tt

ends_at : (n : ℕ) (skipped : ℕ) (p : Place) (bs : List ℕ) → p.offset + length bs ≡ n → EndsAt n (tokens_from skipped p bs).tokens (tokens_from skipped p bs).finish
unfolding tokens_from
ends_at n zero p [] e = omega (arith, e)
ends_at n (suc k) p [] e = omega (arith, e)
ends_at n (suc k) p (b ∷ bs) e = ends_at n k (place_after p b) bs (omega (arith, e))
ends_at n zero p (b ∷ bs) e =
    let next : (place_after p b).offset + length bs ≡ n = omega (arith, e) in
    ends_then n p (b ∷ bs) (item_at b bs) (λ count. tokens_from (count - 1) (place_after p b) bs) (λ count. ends_at n (count - 1) (place_after p b) bs next)

-- bytes that are looked at up to their end are within the limit
pub read_within : (p : Place) (bs : List ℕ) → (stream_from p bs).finish ≡ Done → p.offset + length bs ≤ LIMIT
unfolding stream_from
read_within p bs e = end_within stop_of (p.offset + length bs) (tokens_from 0 p bs) (ends_at (p.offset + length bs) 0 p bs refl) e
