-- The tokens behind bytes that are passed over, and those past the limit of an input.
use Rattle.std.proofs.Common.{◌≡◌, ℕ, zero, suc, ◌+◌, ◌-◌, ◌<◌, ◌≤◌, true, List, [], ◌∷◌, ◌++◌, length, drop, Result, Ok, Err, refl, sym, ap, ◌∙◌, arith, length-drop}
use Rattle.std.proofs.lemmas.List.Sums.{prefix_len-le-length}
use Rattle.grammar.specs.Whole.{Over}
use Rattle.nl_base.specs.declared.place.Place.{Place}
use Rattle.nl_base.specs.Place.{place_after, place_past}
use Rattle.nl_bytes.specs.declared.class.Class.TheVariants.{VerilogSpace}
use Rattle.nl_bytes.specs.declared.bytes.TheConstants.{LIMIT}
use Rattle.nl_bytes.specs.Classes.{AreIn, is_verilog_space, is_line_byte}
use Rattle.nl_bytes.proofs.Limited.{token_late, fault_late, end_late}
use Rattle.nl_bytes.specs.Tokens.{Ahead, only_end, no_token, limited}
use Rattle.vlog_tokens.specs.declared.item.Item.{Item}
use Rattle.vlog_tokens.specs.declared.item.Item.TheVariants.{Blank, Line, Token}
use Rattle.vlog_tokens.specs.declared.token.VFound.{VFound}
use Rattle.nl_bytes.specs.Flaws.{Piece, Flaw, fault_at}
use Rattle.vlog_tokens.specs.Spelling.{item_at}
use Rattle.vlog_tokens.specs.Language.{tokens_from, then_items, then_tokens, with_line, stop_of}

-- ---- bytes are passed over

tokens_skip : (p : Place) (used rest : List ℕ) → tokens_from (length used) p (used ++ rest) ≡ tokens_from 0 (place_past p used) rest
unfolding tokens_from
tokens_skip p [] rest = refl
tokens_skip p (b ∷ bs) rest = tokens_skip (place_after p b) bs rest

space_step : (p : Place) (b : ℕ) (bs : List ℕ) → is_verilog_space b ≡ true → tokens_from 0 p (b ∷ bs) ≡ tokens_from 0 (place_after p b) bs
unfolding tokens_from item_at
space_step p b bs e = rw e refl

pub tokens_space : (p : Place) (used rest : List ℕ) → AreIn VerilogSpace used → tokens_from 0 p (used ++ rest) ≡ tokens_from 0 (place_past p used) rest
tokens_space p [] rest all = refl
tokens_space p (b ∷ bs) rest all = space_step p b (bs ++ rest) all.0 ∙ tokens_space (place_after p b) bs rest all.1

pub tokens_item : (p : Place) (b : ℕ) (bs : List ℕ) → tokens_from 0 p (b ∷ bs) ≡ then_items p (b ∷ bs) (item_at b bs) (λ count. tokens_from (count - 1) (place_after p b) bs)
unfolding tokens_from
tokens_item p b bs = refl

pub tokens_end : (p : Place) → tokens_from 0 p [] ≡ only_end VFound p
unfolding tokens_from
tokens_end p = refl

pub after_bytes : (p q : Place) (b : ℕ) (tail used rest : List ℕ) → 0 < length used → b ∷ tail ≡ used ++ rest → q ≡ place_past p used
    → tokens_from 0 q rest ≡ tokens_from (length used - 1) (place_after p b) tail
after_bytes p q b tail [] rest some e at = absurd (omega arith)
after_bytes p q b tail (c ∷ u) rest some e at =
    let head : b ≡ c = cc in
    let same : tail ≡ u ++ rest = cc in
    let less : suc (length u) - 1 ≡ length u = omega arith in
    ap (λ (r : Place). tokens_from 0 r rest) (at ∙ ap (λ (x : ℕ). place_past (place_after p x) u) (sym head)) ∙ sym (tokens_skip (place_after p b) u rest)
    ∙ ap (λ (xs : List ℕ). tokens_from (length u) (place_after p b) xs) (sym same) ∙ ap (λ (n : ℕ). tokens_from n (place_after p b) tail) (sym less)

-- ---- past the limit nothing has its stop within it

late_item : (item : Item) (p : Place) (bs : List ℕ) (count seen : ℕ) (after : ℕ → Ahead VFound) → LIMIT < p.offset → ((n : ℕ) → limited stop_of (after n) ≡ no_token VFound Over) → limited stop_of (then_tokens item p bs count seen after) ≡ no_token VFound Over
late_item Blank p bs count seen after late h = h count
late_item Line p bs count seen after late h = h (with_line count bs)
late_item (Token token) p bs count seen after late h = let k : LIMIT < p.offset + seen = omega arith in token_late stop_of (record { place = p; stop = p.offset + seen; token = token }) (after count) k

late_items : (p : Place) (bs : List ℕ) (x : Result (Piece Item) Flaw) (after : ℕ → Ahead VFound) → LIMIT < p.offset → ((n : ℕ) → limited stop_of (after n) ≡ no_token VFound Over) → limited stop_of (then_items p bs x after) ≡ no_token VFound Over
late_items p bs (Ok piece) after late h = late_item piece.value p bs piece.count piece.seen after late h
late_items p bs (Err f) after late h = let k : LIMIT < p.offset + f.seen = omega arith in fault_late stop_of (fault_at p bs f) k

pub late_from : (skipped : ℕ) (p : Place) (bs : List ℕ) → LIMIT < p.offset → limited stop_of (tokens_from skipped p bs) ≡ no_token VFound Over
unfolding tokens_from
late_from zero p [] late = end_late stop_of p late
late_from (suc skipped) p [] late = end_late stop_of p late
late_from (suc skipped) p (b ∷ bs) late = late_from skipped (place_after p b) bs (omega arith)
late_from zero p (b ∷ bs) late = late_items p (b ∷ bs) (item_at b bs) (λ count. tokens_from (count - 1) (place_after p b) bs) late (λ n. late_from (n - 1) (place_after p b) bs (omega arith))

late_skip : (skipped : ℕ) (p : Place) (bs : List ℕ) → skipped ≤ length bs → LIMIT < p.offset + skipped → limited stop_of (tokens_from skipped p bs) ≡ no_token VFound Over
unfolding tokens_from
late_skip zero p bs le late = late_from zero p bs (omega arith)
late_skip (suc skipped) p [] le late = absurd (omega arith)
late_skip (suc skipped) p (b ∷ bs) le late = late_skip skipped (place_after p b) bs (omega arith) (omega arith)

pub late_after : (p : Place) (b : ℕ) (tail : List ℕ) (count : ℕ) → count ≤ suc (length tail) → LIMIT + 1 ≤ p.offset + count → limited stop_of (tokens_from (count - 1) (place_after p b) tail) ≡ no_token VFound Over
late_after p b tail count le late = late_skip (count - 1) (place_after p b) tail (omega arith) (omega arith)

pub line_within : (count : ℕ) (bs : List ℕ) → count ≤ length bs → (with_line count bs ≤ length bs) × (count ≤ with_line count bs)
line_within count bs le = (omega (arith, prefix_len-le-length is_line_byte (drop count bs), length-drop count bs), omega arith)
