-- What complete bytes are is a token that a text can have.
use Rattle.std.proofs.Common.{◌≡◌, refl, sym, subst, ℕ, zero, suc, ◌+◌, ◌-◌, ◌<◌, ◌^◌, Bool, true, false, cond, ltb, leb, eqb, ◌||◌, List, Option, Some, None, Result, Ok, Err, arith, ℤ, pos, negsuc, neg_ℤ, nat_abs}
use Rattle.std.specs.Prelude.{⊤, IfOk, IfSome, ◌≤ℤ◌, codes}
use Rattle.std.specs.Char.{is_ascii_digit, is_ascii_alphabetic}
use Rattle.std.proofs.lemmas.Bool.{ltb-true}
use Rattle.nl_base.specs.Case.{same_bytes}
use Rattle.nl_base.specs.declared.place.Place.{Place}
use Rattle.nl_base.specs.declared.number.Scaled.{Scaled}
use Rattle.nl_base.specs.declared.fault.ReadError.{ReadError}
use Rattle.nl_base.specs.declared.fault.ReadError.TheVariants.{TooLong}
use Rattle.nl_bytes.specs.Bytes.{Window}
use Rattle.nl_bytes.specs.Classes.{is_verilog_space}
use Rattle.nl_bytes.specs.declared.bytes.TheConstants.{LIMIT}
use Rattle.vlog_values.specs.declared.literal.Base.{Base}
use Rattle.vlog_values.specs.declared.literal.Base.TheVariants.{Decimal}
use Rattle.vlog_values.specs.Bits.{IsBased}
use Rattle.vlog_values.specs.Values.{IsName, IsNumber, IsCount}
use Rattle.vlog_tokens.specs.declared.token.VFound.{VFound}
use Rattle.vlog_tokens.specs.declared.token.VToken.{VToken}
use Rattle.vlog_tokens.specs.declared.token.VToken.TheVariants as token
use Rattle.vlog_tokens.specs.declared.item.Item.{Item}
use Rattle.vlog_tokens.specs.declared.item.Item.TheVariants.{Blank, Line, Token}
use Rattle.vlog_tokens.specs.declared.phase.Phase.{Phase}
use Rattle.vlog_tokens.specs.declared.phase.Phase.TheVariants as phases
use Rattle.vlog_tokens.specs.declared.start.Start.{Start}
use Rattle.vlog_tokens.specs.declared.start.Start.TheVariants as starts
use Rattle.vlog_tokens.specs.Keywords.{is_keyword}
use Rattle.vlog_tokens.specs.Numbers.{decimal_value, digit_count, signed_number, lowered, number_of, real_of, exponent_of, scaled_by, before_mark, from_mark, after_point, is_negative}
use Rattle.vlog_tokens.specs.Items.{item_of, word_item, number_item, real_item, based_item, directive_item, has_value, is_signed, digits_of}
use Rattle.vlog_tokens.specs.Scanning.{kept}
use Rattle.vlog_tokens.specs.Parts.{spot_of}
use Rattle.vlog_tokens.specs.Spelling.{is_mark, is_symbol, start_of}
use Rattle.vlog_tokens.specs.Finding.{Passed, found_or_late}
use Rattle.vlog_tokens.specs.Held.{number_at, number_found}
use Rattle.vlog_tokens.specs.SoFar.{IsSoFar}
use Rattle.vlog_tokens.specs.Proper.{IsPlainReal, IsProper, IsProperItem}
use Rattle.vlog_tokens.proofs.Lexemes.{letter_bounds, name_of_one, based_digits, based_open}

-- ---- numbers

-- a sign changes no absolute value
pub neg_abs : (n : ℤ) → nat_abs (neg_ℤ n) ≡ nat_abs n
neg_abs (pos zero) = refl
neg_abs (pos (suc m)) = refl
neg_abs (negsuc m) = refl

not_negative : (m : ℕ) → pos 0 ≤ℤ pos m
not_negative m = grind arith

count_good : (m : ℕ) → IfSome (signed_number false m) IsCount
count_good m = go (ltb m (2 ^ 63)) refl
  where
    go : (t : Bool) → ltb m (2 ^ 63) ≡ t → IfSome (cond t (Some (pos m)) None) IsCount
    go true e = record { number = ltb-true m (2 ^ 63) e; sign = not_negative m }
    go false e = tt

signed_good : (negative : Bool) (m : ℕ) → IfSome (signed_number negative m) IsNumber
signed_good negative m = go (ltb m (2 ^ 63)) refl
  where
    by : (s : Bool) → m < 2 ^ 63 → IsNumber (cond s (neg_ℤ (pos m)) (pos m))
    by true lt = rw (neg_abs (pos m)) lt
    by false lt = lt

    go : (t : Bool) → ltb m (2 ^ 63) ≡ t → IfSome (cond t (Some (cond negative (neg_ℤ (pos m)) (pos m))) None) IsNumber
    go true e = by negative (ltb-true m (2 ^ 63) e)
    go false e = tt

lowered_good : (negative : Bool) (m places : ℕ) → IfSome (lowered negative m places) IsNumber
lowered_good true m places = signed_good true (m + places)
lowered_good false m places = go (leb places m)
  where
    go : (t : Bool) → IfSome (cond t (signed_number false (m - places)) (signed_number true (places - m))) IsNumber
    go true = signed_good false (m - places)
    go false = signed_good true (places - m)

scaled_good : (m e : Option ℤ) → IfSome m IsCount → IfSome e IsNumber → IfSome (scaled_by m e) IsPlainReal
scaled_good (Some m) (Some e) h k = record { real = record { mantissa = h.number; exponent = k }; sign = h.sign }
scaled_good (Some m) None h k = tt
scaled_good None e h k = tt

pub number_good : (text : List ℕ) → IfSome (number_of text) IsCount
unfolding number_of
number_good text = count_good (decimal_value text)

exponent_good : (before exponent : List ℕ) → IfSome (exponent_of before exponent) IsNumber
unfolding exponent_of
exponent_good before exponent = lowered_good (is_negative exponent) (decimal_value exponent) (digit_count (after_point before))

real_good : (text : List ℕ) → IfSome (real_of text) IsPlainReal
unfolding real_of
real_good text = scaled_good (number_of (before_mark text)) (exponent_of (before_mark text) (from_mark text)) (number_good (before_mark text)) (exponent_good (before_mark text) (from_mark text))

-- ---- what complete bytes are

choose_good : (t : Bool) (x y : Item) → IsProperItem x → IsProperItem y → IsProperItem (cond t x y)
choose_good true x y p q = p
choose_good false x y p q = q

number_item_good : (n : Option ℤ) → IfSome n IsCount → IfSome (number_item n) IsProperItem
number_item_good (Some n) h = h
number_item_good None h = tt

real_item_good : (r : Option Scaled) → IfSome r IsPlainReal → IfSome (real_item r) IsProperItem
real_item_good (Some r) h = h
real_item_good None h = tt

based_item_good : (base : Base) (text : List ℕ) → (has_value base (digits_of text) ≡ true → IsBased (record { signed = is_signed text; base = base; digits = digits_of text }))
    → IfSome (based_item base text (digits_of text)) IsProperItem
based_item_good base text h = go (has_value base (digits_of text)) h
  where
    go : (t : Bool) → (t ≡ true → IsBased (record { signed = is_signed text; base = base; digits = digits_of text }))
        → IfSome (cond t (Some (Token (token.Based (record { signed = is_signed text; base = base; digits = digits_of text })))) None) IsProperItem
    go true h = h refl
    go false h = tt

directive_good : (text : List ℕ) → IsProperItem (directive_item text)
directive_good text =
    choose_good (same_bytes text (codes "`timescale")) Line _ tt (choose_good (same_bytes text (codes "`celldefine") || same_bytes text (codes "`endcelldefine")) Blank (Token (token.Directive text)) tt tt)

word_good : (text : List ℕ) → IsName text → IsProperItem (word_item text)
word_good text h = choose_good (is_keyword text) (Token (token.Keyword text)) (Token (token.Name text)) tt h

pub item_good : (phase : Phase) (text : List ℕ) → IsSoFar phase text → IfSome (item_of phase text) IsProperItem
unfolding item_of
item_good phases.Word text h = word_good text h
item_good phases.Escape text h = tt
item_good phases.Escaped text h = h
item_good phases.Whole text h = number_item_good (number_of text) (number_good text)
item_good phases.Point text h = tt
item_good phases.Fraction text h = real_item_good (real_of text) (real_good text)
item_good phases.Mark text h = tt
item_good phases.Sign text h = tt
item_good phases.Exponent text h = real_item_good (real_of text) (real_good text)
item_good phases.Prefix text h = tt
item_good phases.Signed text h = tt
item_good (phases.Letter base) text h = tt
item_good (phases.Digits base) text h = based_item_good base text (based_digits base text h)
item_good phases.Unknown text h = based_item_good Decimal text (λ _. based_open text h)
item_good phases.Grave text h = tt
item_good phases.Directive text h = directive_good text

-- ---- the first byte

-- what is kept of a first byte is what the phase says
abbrev pub Begins : Phase → ℕ → Type 0
Begins phase b = IsSoFar phase (kept phase b)

-- a token of several bytes is what its first byte says
abbrev pub IsBegun : ℕ → Start → Type 0
IsBegun b starts.White = ⊤
IsBegun b (starts.Lexeme phase) = Begins phase b
IsBegun b starts.Quote = ⊤
IsBegun b starts.Open = ⊤
IsBegun b starts.Star = ⊤
IsBegun b starts.Slash = ⊤
IsBegun b starts.Mark = ⊤
IsBegun b starts.Sign = ⊤
IsBegun b starts.Other = ⊤

begun_test : (b : ℕ) (t : Bool) (x y : Start) → (t ≡ true → IsBegun b x) → IsBegun b y → IsBegun b (cond t x y)
begun_test b true x y p q = p refl
begun_test b false x y p q = q

pub begun_good : (b : ℕ) → IsBegun b (start_of b)
unfolding kept
begun_good b =
    begun_test b (is_verilog_space b) starts.White _ (λ _. tt)
    (begun_test b (is_ascii_alphabetic b || eqb b 95) (starts.Lexeme phases.Word) _ (λ e. name_of_one b (letter_bounds b e))
    (begun_test b (is_ascii_digit b) (starts.Lexeme phases.Whole) _ (λ _. tt)
    (begun_test b (eqb b 92) (starts.Lexeme phases.Escape) _ (λ _. refl)
    (begun_test b (eqb b 39) (starts.Lexeme phases.Prefix) _ (λ _. (b, refl))
    (begun_test b (eqb b 96) (starts.Lexeme phases.Grave) _ (λ _. tt)
    (begun_test b (eqb b 34) starts.Quote _ (λ _. tt)
    (begun_test b (eqb b 40) starts.Open _ (λ _. tt)
    (begun_test b (eqb b 42) starts.Star _ (λ _. tt)
    (begun_test b (eqb b 47) starts.Slash _ (λ _. tt)
    (begun_test b (is_mark b) starts.Mark _ (λ _. tt)
    (begun_test b (is_symbol b) starts.Sign starts.Other (λ _. tt) tt)))))))))))

-- the same of a first byte that begins a lexeme
pub begins_so_far : (b : ℕ) (phase : Phase) → start_of b ≡ starts.Lexeme phase → IsSoFar phase (kept phase b)
begins_so_far b phase e = subst (IsBegun b) e (begun_good b)

-- an item that was made of such bytes
pub spot_proper : (p : Place) (stop : ℕ) (item : Option Item) → IfSome item IsProperItem → IfOk (spot_of p stop item) (λ x. IsProperItem x.item)
spot_proper p stop (Some item) h = h
spot_proper p stop None h = tt

-- the token of such an item
pub passed_proper : (item : Item) (old new : Window) (l l' : Option (List ℕ)) (t : VToken) → Passed item old new l l' (Ok (Some t)) → IsProperItem item → IsProper t
passed_proper Blank old new l l' t h proper = let none = h.2 in absurd cc
passed_proper Line old new l l' t h proper = let none = h.2 in absurd cc
passed_proper (Token x) old new l l' t h proper = let is = h.2 in let same : x ≡ t = cc in subst IsProper same proper

-- the token that is answered, if any, is such
abbrev IsProperAnswer : Result (Option VFound) ReadError → Type 0
IsProperAnswer r = IfOk r (λ x. IfSome x (λ x. IsProper x.token))

pub found_proper : (p : Place) (stop : ℕ) (t : VToken) (r : Result (Option VFound) ReadError) → r ≡ found_or_late p stop t → IsProper t → IfOk r (λ x. IfSome x (λ x. IsProper x.token))
found_proper p stop t r e h = subst IsProperAnswer (sym e) (go (ltb LIMIT stop) (Ok (Some (record { place = p; stop = stop; token = t }))) h)
  where
    go : (late : Bool) (r : Result (Option VFound) ReadError) → IsProperAnswer r → IsProperAnswer (cond late (Err TooLong) r)
    go true r h = tt
    go false r h = h

-- ---- tokens that are held whole

-- a word is a name or a keyword
pub word_proper : (text : List ℕ) (t : VToken) → Token t ≡ word_item text → IsName text → IsProper t
word_proper text t e h = subst IsProperItem (sym e) (word_good text h)

-- digits are a number, or none
pub number_proper : (p : Place) (stop : ℕ) (digits : List ℕ) → IfOk (number_found p stop digits) (λ x. IfSome x (λ x. IsProper x.token))
number_proper p stop digits = go (number_of digits) (number_good digits)
  where
    go : (n : Option ℤ) → IfSome n IsCount → IsProperAnswer (number_at p stop n)
    go (Some n) h = h
    go None h = tt
