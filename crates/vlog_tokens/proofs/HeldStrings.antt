-- A string without escapes that is held whole.
use Rattle.std.proofs.Common.{◌≡◌, ℕ, suc, ◌+◌, ◌<◌, ◌≤◌, Bool, true, false, cond, leb, eqb, not, List, [], ◌∷◌, ◌++◌, length, get_or, take, drop, Option, Some, None, Result, Ok, refl, sym, ap, ◌∙◌, subst, arith, length-take, length-append, append_assoc}
use Rattle.std.specs.List.{prefix_len}
use Rattle.std.proofs.lemmas.Bool.{leb-false, eqb-true}
use Rattle.std.proofs.lemmas.Grind.{take_at_read}
use Rattle.nl_base.specs.declared.place.Place.{Place}
use Rattle.nl_base.specs.Place.{place_past}
use Rattle.nl_bytes.specs.declared.class.Class.TheVariants.{VerilogStringByte, LineByte}
use Rattle.nl_bytes.specs.Classes.{AreIn, is_verilog_string_byte, is_line_byte}
use Rattle.nl_bytes.specs.Bytes.{Window, Uses}
use Rattle.nl_bytes.proofs.Uses.{Uses-front, offset_grows}
use Rattle.nl_bytes.proofs.Fronts.{front-all}
use Rattle.vlog_tokens.specs.declared.item.Item.{Item}
use Rattle.vlog_tokens.specs.declared.item.Item.TheVariants.{Token}
use Rattle.vlog_tokens.specs.declared.item.Spot.{Spot}
use Rattle.vlog_tokens.specs.declared.token.VToken.TheVariants.{Str}
use Rattle.nl_bytes.specs.Flaws.{Piece, Flaw, ◌>>=◌}
use Rattle.vlog_tokens.specs.Spelling.{str_of, string_spelled}
use Rattle.vlog_tokens.specs.Strings.{Parts, string_at, closed}
use Rattle.nl_bytes.specs.Tokens.{Finds}
use Rattle.vlog_tokens.specs.Held.{is_near, quoted_by, quoted_length}
use Rattle.vlog_tokens.proofs.Parts.{front_given}
use Rattle.vlog_tokens.proofs.Strings.{plain_run, closing}
use Rattle.vlog_tokens.proofs.Marks.{reads_told}
use Rattle.vlog_tokens.proofs.Held.{held_within, token_found}
use Rattle.vlog_tokens.specs.Language.{vlog}

-- what is known of a string that is held whole, behind its first quote
pub record Quoted (bs : List ℕ) (n : ℕ) : Type 0 where
  pub more : n < length bs
  pub each : AreIn VerilogStringByte (take n bs)
  pub quote : get_or bs n 0 ≡ 34

quoted_whole : (bs : List ℕ) (k n : ℕ) → quoted_by bs k ≡ Some n → (n ≡ k) × (k < length bs) × (get_or bs k 0 ≡ 34)
quoted_whole bs k n is = go (leb (length bs) k) refl (eqb (get_or bs k 0) 34) refl is
  where
    go : (s : Bool) → leb (length bs) k ≡ s → (t : Bool) → eqb (get_or bs k 0) 34 ≡ t → cond s None (cond t (Some k) None) ≡ Some n → (n ≡ k) × (k < length bs) × (get_or bs k 0 ≡ 34)
    go true d t e h = absurd cc
    go false d true e h = (cc, leb-false (length bs) k d, eqb-true (get_or bs k 0) 34 e)
    go false d false e h = absurd cc

pub quoted : (bs : List ℕ) (n : ℕ) → quoted_length bs ≡ Some n → Quoted bs n
unfolding quoted_length
quoted bs n is =
    let w = quoted_whole bs (prefix_len is_verilog_string_byte bs) n is in
    record { more = omega (arith, w.0, w.1); each = rw w.0 (front-all is_verilog_string_byte bs); quote = rw w.0 w.2 }

-- ---- the bytes of a string are no line feed

line_byte : (b : ℕ) → is_verilog_string_byte b ≡ true → is_line_byte b ≡ true
line_byte b e = go (eqb b 10) refl
  where
    go : (t : Bool) → eqb b 10 ≡ t → not t ≡ true
    go true f = let g : is_verilog_string_byte 10 ≡ true = subst (λ (n : ℕ). is_verilog_string_byte n ≡ true) (eqb-true b 10 f) e in absurd cc
    go false f = refl

in_line : (u : List ℕ) → AreIn VerilogStringByte u → AreIn LineByte (u ++ 34 ∷ [])
in_line [] each = (refl, tt)
in_line (b ∷ bs) each = (line_byte b each.0, in_line bs each.1)

-- the bytes of a string with its quotes
quoted_bytes : (held tail : List ℕ) (n : ℕ) → held ≡ 34 ∷ tail → Quoted tail n → take (n + 2) held ≡ 34 ∷ (take n tail ++ 34 ∷ [])
quoted_bytes held tail n front q =
    let two : n + 2 ≡ suc (suc n) = omega arith in
    let one : n + 1 ≡ suc n = omega arith in
    let last : take (n + 1) tail ≡ take n tail ++ get_or tail n 0 ∷ [] = (take_at_read tail n 0 q.more).1 in
    ap (λ (k : ℕ). take k held) two ∙ ap (take (suc (suc n))) front ∙ ap (λ (k : ℕ). 34 ∷ take k tail) (sym one) ∙ ap (λ (xs : List ℕ). 34 ∷ xs) (last ∙ ap (λ (b : ℕ). take n tail ++ b ∷ []) q.quote)

pub quoted_each : (held tail : List ℕ) (n : ℕ) → held ≡ 34 ∷ tail → quoted_length tail ≡ Some n → AreIn LineByte (take (n + 2) held)
quoted_each held tail n front is = let q = quoted tail n is in rw (quoted_bytes held tail n front q) (refl, in_line (take n tail) q.each)

pub quoted_room : (held tail : List ℕ) (n : ℕ) → held ≡ 34 ∷ tail → quoted_length tail ≡ Some n → n + 2 ≤ length held
quoted_room held tail n front is = omega (arith, ap (λ (xs : List ℕ). length xs) front, (quoted tail n is).more)

-- ---- it is found

str_is : (u rest : List ℕ) → AreIn VerilogStringByte u → length u ≤ 1048576 → string_spelled ((34 ∷ (u ++ 34 ∷ [])) ++ rest) ≡ Ok (record { value = Token (Str u); count = 1 + length u + 1; seen = 1 + length u + 1 })
str_is u rest each most =
    let whole : string_at Parts [] 1 ((u ++ 34 ∷ []) ++ rest) ≡ closed u (1 + length u + 1) rest = ap (string_at Parts [] 1) (append_assoc u (34 ∷ []) rest) ∙ plain_run [] u (34 ∷ rest) 1 each most ∙ closing u rest (1 + length u) in
    ap (λ (r : Result (Piece (List ℕ)) Flaw). r >>= str_of) whole

pub string_found : {a b : Window} {n : ℕ} (l : Option (List ℕ)) (tail : List ℕ) → a.held ≡ 34 ∷ tail → is_near a ≡ true → length a.held ≤ 4096 → quoted_length tail ≡ Some n
    → b.held ≡ drop (n + 2) a.held → b.place ≡ place_past a.place (take (n + 2) a.held) → (value : List ℕ) → value ≡ take n tail → (p : Place) → p ≡ a.place → Finds vlog a b l l (Ok (Some (record { place = p; stop = p.offset + n + 2; token = Str value })))
string_found {a} {b} {n} l tail front near small is held place value value-is p p-is =
    let q = quoted tail n is in
    let u = take n tail in
    let len : length a.held ≡ suc (length tail) = ap (λ (xs : List ℕ). length xs) front in
    let count : length u ≡ n = omega (arith, length-take n tail, q.more) in
    let uses : Uses a b l l (34 ∷ (u ++ 34 ∷ [])) = subst (Uses a b l l) (quoted_bytes a.held tail n front q) (Uses-front a b l (n + 2) held place) in
    let all : length (34 ∷ (u ++ 34 ∷ [])) ≡ 1 + length u + 1 = omega (arith, length-append u (34 ∷ [])) in
    let piece : Piece Item = record { value = Token (Str u); count = 1 + length u + 1; seen = 1 + length u + 1 } in
    let spot : Spot = record { item = Token (Str u); stop = a.place.offset + n + 2 } in
    let stop : a.place.offset + n + 2 ≡ a.place.offset + (1 + length u + 1) = omega (arith, count) in
    let reads = reads_told string_spelled uses (omega (arith, all)) spot piece (λ rest known. str_is u rest q.each (omega (arith, count, q.more, len, small))) (ap (λ (i : ℕ). at_stop i) stop) (sym all) (λ le. front_given a b (n + 2) held place) in
    rw (p-is, value-is) (token_found {a = a} {b = b} {l = l} {byte = 34} (Str u) (a.place.offset + n + 2) (tail, front) reads (omega (arith, offset_grows uses, all, count)) (omega (arith, held_within a near, len, q.more)))
  where
    at_stop : ℕ → Spot
    at_stop i = record { item = Token (Str (take n tail)); stop = i }
