-- What the limit of an input leaves of the tokens of a text.
use Rattle.std.proofs.Common.{◌≡◌, ℕ, zero, suc, ◌-◌, ◌<◌, ◌≤◌, List, [], ◌∷◌, ◌++◌, length, Result, Ok, Err, sym, ap, ◌∙◌, inl, inr}
use Rattle.std.proofs.lemmas.Bool.{cases_lt}
use Rattle.grammar.specs.Whole.{Terminal, Bad, Over}
use Rattle.nl_base.specs.declared.place.Place.{Place}
use Rattle.nl_base.specs.declared.fault.TextFault.{TextFault}
use Rattle.nl_base.specs.Place.{place_after, place_at_start}
use Rattle.nl_bytes.specs.declared.bytes.TheConstants.{LIMIT}
use Rattle.nl_bytes.specs.Tokens.{Ahead}
use Rattle.nl_bytes.proofs.Limited.{limited_front}
use Rattle.nl_bytes.proofs.Limited as any
use Rattle.vlog_tokens.specs.declared.item.Item.{Item}
use Rattle.vlog_tokens.specs.declared.item.Item.TheVariants.{Blank, Line, Token}
use Rattle.vlog_tokens.specs.declared.token.VFound.{VFound}
use Rattle.nl_bytes.specs.Flaws.{Piece, Flaw}
use Rattle.vlog_tokens.specs.Language.{with_line, then_tokens, then_items, tokens_from, stop_of, stream_from, all_tokens, vtokens}
use Rattle.vlog_tokens.specs.Spelling.{item_at}
use Rattle.vlog_lexing.proofs.Limits.{tokens_whole}

-- ---- the tokens of a text are never cut without the limit

item_ends : (item : Item) (p : Place) (bs : List ℕ) (count seen : ℕ) (after : ℕ → Ahead VFound) → ((n : ℕ) → (after n).finish ≡ Over → ⊥) → (then_tokens item p bs count seen after).finish ≡ Over → ⊥
item_ends Blank p bs count seen after rest e = rest count e
item_ends Line p bs count seen after rest e = rest (with_line count bs) e
item_ends (Token token) p bs count seen after rest e = rest count e

items_end : (p : Place) (bs : List ℕ) (x : Result (Piece Item) Flaw) (after : ℕ → Ahead VFound) → ((n : ℕ) → (after n).finish ≡ Over → ⊥) → (then_items p bs x after).finish ≡ Over → ⊥
items_end p bs (Ok piece) after rest e = item_ends piece.value p bs piece.count piece.seen after rest e
items_end p bs (Err f) after rest e = cc

pub never_over : (skipped : ℕ) (p : Place) (bs : List ℕ) → (tokens_from skipped p bs).finish ≡ Over → ⊥
unfolding tokens_from
never_over zero p [] e = cc
never_over (suc n) p [] e = cc
never_over (suc n) p (b ∷ bs) e = never_over n (place_after p b) bs e
never_over zero p (b ∷ bs) e = items_end p (b ∷ bs) (item_at b bs) (λ count. tokens_from (count - 1) (place_after p b) bs) (λ count. never_over (count - 1) (place_after p b) bs) e

pub over_long : (text : List ℕ) → (vtokens text).finish ≡ Over → LIMIT < length text
over_long text over = elim (cases_lt LIMIT (length text)) [
  | inl lt ↦ lt
  | inr le ↦ absurd (never_over 0 place_at_start text (sym (ap (λ (s : Ahead VFound). s.finish) (tokens_whole text le)) ∙ over))
]

-- ---- what is looked at is a front

pub a_front : (text : List ℕ) → (rest : List (Terminal VFound Place)) × ((all_tokens text).tokens ≡ (vtokens text).tokens ++ rest)
unfolding stream_from
a_front text = limited_front stop_of (all_tokens text)

-- ---- bytes that are no token

pub bad_within : (text : List ℕ) (fault : TextFault) → (vtokens text).finish ≡ Bad fault → (all_tokens text ≡ vtokens text) × (fault.stop ≤ LIMIT)
unfolding stream_from
bad_within text fault e = any.bad_within stop_of (all_tokens text) fault e
