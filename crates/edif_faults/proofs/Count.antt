-- A text has at most 268,435,456 tokens within the limit of an input, and the end: fewer than the words that are free.
use Rattle.std.proofs.Common.{◌≡◌, ℕ, zero, suc, ◌+◌, ◌-◌, ◌≤◌, ◌<◌, ◌^◌, Bool, true, false, cond, ltb, List, [], ◌∷◌, length, Ok, Err, Result, refl, arith}
use Rattle.std.specs.Prelude.{⊤}
use Rattle.std.proofs.lemmas.Bool.{ltb-false}
use Rattle.std.proofs.Math.Nat.{pow-le-pow_right}
use Rattle.grammar.specs.Whole.{Terminal, proper, end, Finish, Over}
use Rattle.nl_base.specs.declared.place.Place.{Place}
use Rattle.nl_base.specs.declared.fault.TextFault.{TextFault}
use Rattle.nl_base.specs.Place.{place_after, place_at_start}
use Rattle.nl_bytes.specs.declared.bytes.TheConstants.{LIMIT}
use Rattle.nl_bytes.specs.Classes.{is_space}
use Rattle.nl_bytes.specs.Tokens.{Ahead, follow, only_end, no_token, limited, limited_from}
use Rattle.nl_bytes.proofs.Limited.{limited_few}
use Rattle.edif_tokens.specs.declared.token.Found.{Found}
use Rattle.edif_values.specs.declared.token.Token.{Token}
use Rattle.edif_tokens.specs.Spelling.{Piece, Flaw, token_at, start_of}
use Rattle.edif_tokens.specs.Language.{stop_of, stream_from, all_tokens, tokens_from, then_tokens}
use Rattle.readers.specs.Texts.{tokens_of}
use Rattle.edif_keywords.specs.Language.{edif}
use Rattle.edif_limits.proofs.Stops.{Counted, token_counted}

-- each token stops behind as many bytes as there are tokens up to it, and nothing is behind the end
abbrev Ranks : ℕ → List (Terminal Found Place) → Type 0
Ranks m [] = ⊤
Ranks m (proper x ∷ xs) = (m + 1 ≤ x.stop) × Ranks (m + 1) xs
Ranks m (end p ∷ xs) = xs ≡ []

ranks_by : (m : ℕ) (t : Bool) (x y : Ahead Found) → Ranks m x.tokens → Ranks m y.tokens → Ranks m (cond t x y).tokens
ranks_by m true x y p q = p
ranks_by m false x y p q = q

ranks_then : (m left : ℕ) (p : Place) (bs : List ℕ) (x : Result (Piece Token) Flaw) (after : ℕ → Ahead Found) → m ≤ p.offset → Counted left x → ((count : ℕ) → Ranks (m + 1) (after count).tokens) → Ranks m (then_tokens p bs x after).tokens
ranks_then m left p bs (Ok piece) after le h rest = (let some = h.some in omega (arith, le, some), rest piece.count)
ranks_then m left p bs (Err f) after le h rest = tt

ranks : (skipped : ℕ) (p : Place) (bs : List ℕ) (m : ℕ) → m ≤ p.offset → Ranks m (tokens_from skipped p bs).tokens
unfolding tokens_from token_at
ranks zero p [] m le = refl
ranks (suc n) p [] m le = refl
ranks (suc n) p (b ∷ bs) m le = ranks n (place_after p b) bs m (omega (arith, le))
ranks zero p (b ∷ bs) m le =
    ranks_by m (is_space b) (tokens_from zero (place_after p b) bs) (then_tokens p (b ∷ bs) (token_at b bs) (λ count. tokens_from (count - 1) (place_after p b) bs))
    (ranks zero (place_after p b) bs m (omega (arith, le)))
    (ranks_then m (suc (length bs)) p (b ∷ bs) (token_at b bs) (λ count. tokens_from (count - 1) (place_after p b) bs) le (token_counted (start_of b) b bs)
    (λ count. ranks (count - 1) (place_after p b) bs (m + 1) (omega (arith, le))))

few_from : (xs : List (Terminal Found Place)) (finish : Finish TextFault) (m : ℕ) → m ≤ LIMIT → Ranks m xs → m + length (limited_from stop_of xs finish).tokens ≤ LIMIT + 1
unfolding limited
few_from [] finish m le h = let few = limited_few stop_of (no_token Found finish) in omega (arith, le, few)
few_from (end p ∷ xs) finish m le h = by (ltb LIMIT p.offset)
  where
    by : (t : Bool) → m + length (cond t (no_token Found Over) (only_end Found p)).tokens ≤ LIMIT + 1
    by true = omega (arith, le)
    by false = omega (arith, le)
few_from (proper x ∷ xs) finish m le h = by (ltb LIMIT x.stop) refl (λ l. few_from xs finish (m + 1) l h.1)
  where
    by : (t : Bool) → ltb LIMIT x.stop ≡ t → (m + 1 ≤ LIMIT → m + 1 + length (limited_from stop_of xs finish).tokens ≤ LIMIT + 1) → m + length (cond t (no_token Found Over) (follow x (limited_from stop_of xs finish))).tokens ≤ LIMIT + 1
    by true is rest = omega (arith, le)
    by false is rest = let l = ltb-false _ _ is in let k = rest (omega (arith, l, h.0)) in omega (arith, k)

pub few_tokens : (bs : List ℕ) → length (tokens_of edif bs).tokens ≤ LIMIT + 1
unfolding stream_from limited
few_tokens bs = let h = few_from (all_tokens bs).tokens (all_tokens bs).finish 0 (omega arith) (ranks 0 place_at_start bs 0 (omega arith)) in omega (arith, h)

above : (n : ℕ) → n ≤ 268435457 → (m : ℕ) → 1073741824 ≤ m → 0 + n < m
above n le m big = omega (arith, le, big)

big : 1073741824 ≤ 2 ^ 1000
big = let le : 30 ≤ 1000 = omega arith in pow-le-pow_right {n = 2} (omega arith) {i = 30} {j = 1000} le

pub fewer_than_words : (bs : List ℕ) → 0 + length (tokens_of edif bs).tokens < 2 ^ 1000
fewer_than_words bs = above (length (tokens_of edif bs).tokens) (few_tokens bs) (2 ^ 1000) big
