-- Each token of a text of bytes is one that bytes can spell: words are keywords, and punctuation, symbols and directives are such.
use Rattle.std.proofs.Common.{◌≡◌, refl, ap, subst, ℕ, zero, suc, ◌+◌, ◌-◌, Bool, true, false, cond, eqb, List, [], ◌∷◌, ◌++◌, drop, Option, Some, None, Result, Ok, Err, arith}
use Rattle.std.specs.Prelude.{⊤, ◌&&◌, ◌||◌, IfOk, IfSome, codes, ℤ}
use Rattle.std.specs.Char.{is_ascii_digit, is_ascii_alphabetic}
use Rattle.std.proofs.lemmas.Bool.{eqb-true}
use Rattle.grammar.specs.Whole.{Terminal, proper, end}
use Rattle.grammar_laws.specs.GoesOn.{AllOf}
use Rattle.nl_base.specs.Case.{same_bytes}
use Rattle.nl_base.specs.declared.number.Scaled.{Scaled}
use Rattle.nl_base.specs.declared.place.Place.{Place}
use Rattle.nl_base.specs.Place.{place_after, place_at_start}
use Rattle.nl_bytes.specs.Bytes.{first}
use Rattle.nl_bytes.specs.Classes.{is_verilog_space}
use Rattle.nl_bytes.specs.Tokens.{Ahead}
use Rattle.vlog_values.specs.declared.literal.Base.{Base}
use Rattle.vlog_values.specs.declared.literal.Base.TheVariants.{Decimal}
use Rattle.vlog_tokens.specs.declared.item.Item.{Item}
use Rattle.vlog_tokens.specs.declared.item.Item.TheVariants.{Blank, Line, Token}
use Rattle.vlog_tokens.specs.declared.phase.Phase.{Phase}
use Rattle.vlog_tokens.specs.declared.phase.Phase.TheVariants as phase
use Rattle.vlog_tokens.specs.declared.start.Start.{Start}
use Rattle.vlog_tokens.specs.declared.start.Start.TheVariants as start
use Rattle.vlog_tokens.specs.declared.token.VFound.{VFound}
use Rattle.vlog_tokens.specs.declared.token.VToken.{VToken}
use Rattle.vlog_tokens.specs.declared.token.VToken.TheVariants as t
use Rattle.nl_bytes.specs.Flaws.{Piece, Flaw, ◌>>=◌}
use Rattle.vlog_tokens.specs.Items.{item_of, number_item, real_item, based_item, has_value, digits_of, is_signed, directive_item, finished, finish}
use Rattle.vlog_tokens.specs.Keywords.{is_keyword}
use Rattle.vlog_tokens.specs.Language.{with_line, then_tokens, then_items, tokens_from, vtokens}
use Rattle.vlog_tokens.specs.Numbers.{number_of, real_of}
use Rattle.vlog_tokens.specs.Scanning.{Lexeme, scan_at, kept}
use Rattle.vlog_tokens.specs.Spelling.{comment_at, item_by, item_at, start_of, is_mark, is_symbol, str_of, pair_by, slash_by}
use Rattle.vlog_tokens.specs.Strings.{Parts, string_at}
use Rattle.vlog_tokens.specs.Proper.{AreBytes, AreSound, IsProper}
use Rattle.vlog_bounds.proofs.Tokens.{tokens_sound}
use Rattle.vlog_limits.proofs.Limits.{a_front}
use Rattle.vlog_lexing.specs.Tokens.{IsWord, is_punctuation}
use Rattle.vlog_writer.specs.Spelling.{is_simple}
use Rattle.vlog_goes_on.specs.GoesOn.{is_operator, IsDirective, IsOfBytes, CanStand}
use Rattle.vlog_goes_on.proofs.Scanned.{Directive, IsSoFar, IsScanned, scan_known}

-- what a token is beside what it keeps
abbrev IsKnown : VToken → Type 0
IsKnown (t.Name n) = ⊤
IsKnown (t.Keyword w) = IsWord w
IsKnown (t.Number n) = ⊤
IsKnown (t.Real r) = ⊤
IsKnown (t.Based d) = ⊤
IsKnown (t.Str s) = ⊤
IsKnown (t.Punct b) = is_punctuation b ≡ true
IsKnown t.AttrStart = ⊤
IsKnown t.AttrStop = ⊤
IsKnown (t.Symbol b) = is_operator b ≡ true
IsKnown (t.Directive w) = IsDirective w

abbrev IsKnownItem : Item → Type 0
IsKnownItem Blank = ⊤
IsKnownItem Line = ⊤
IsKnownItem (Token x) = IsKnown x

-- ---- items

either_item : (t : Bool) (x y : Item) → (t ≡ true → IsKnownItem x) → (t ≡ false → IsKnownItem y) → IsKnownItem (cond t x y)
either_item true x y h k = h refl
either_item false x y h k = k refl

number_known : (n : Option ℤ) → IfSome (number_item n) IsKnownItem
number_known (Some n) = tt
number_known None = tt

real_known : (r : Option Scaled) → IfSome (real_item r) IsKnownItem
real_known (Some r) = tt
real_known None = tt

based_known : (base : Base) (text digits : List ℕ) → IfSome (based_item base text digits) IsKnownItem
based_known base text digits = go (has_value base digits)
  where
    go : (w : Bool) → IfSome (cond w (Some (Token (t.Based (record { signed = is_signed text; base = base; digits = digits })))) None) IsKnownItem
    go true = tt
    go false = tt

directive_known : (text : List ℕ) → Directive text → IsKnownItem (directive_item text)
directive_known text h =
    either_item (same_bytes text (codes "`timescale")) Line _ (λ _. tt)
    (λ line. either_item (same_bytes text (codes "`celldefine") || same_bytes text (codes "`endcelldefine")) Blank (Token (t.Directive text)) (λ _. tt)
    (λ blank. record { first = h.one; rest = h.rest; spelled = h.spelled; begins = h.begins; follows = h.follows; short = h.short; is_token = rw (line, blank) refl }))

item_known : (p : Phase) (text : List ℕ) → IsSoFar p text → IfSome (item_of p text) IsKnownItem
unfolding item_of
item_known phase.Word text h =
    either_item (is_keyword text) (Token (t.Keyword text)) (Token (t.Name text)) (λ e. record { simple = h.0; keyword = e; short = h.1 }) (λ _. tt)
item_known phase.Escape text h = tt
item_known phase.Escaped text h = tt
item_known phase.Whole text h = number_known (number_of text)
item_known phase.Point text h = tt
item_known phase.Fraction text h = real_known (real_of text)
item_known phase.Mark text h = tt
item_known phase.Sign text h = tt
item_known phase.Exponent text h = real_known (real_of text)
item_known phase.Prefix text h = tt
item_known phase.Signed text h = tt
item_known (phase.Letter base) text h = tt
item_known (phase.Digits base) text h = based_known base text (digits_of text)
item_known phase.Unknown text h = based_known Decimal text (digits_of text)
item_known phase.Grave text h = tt
item_known phase.Directive text h = directive_known text h

abbrev IsKnownPiece : Piece Item → Type 0
IsKnownPiece x = IsKnownItem x.value

finished_known : (x : Piece Lexeme) (o : Option Item) → IfSome o IsKnownItem → IfOk (finished x o) IsKnownPiece
finished_known x (Some i) h = h
finished_known x None h = tt

finish_known : (r : Result (Piece Lexeme) Flaw) → IfOk r IsScanned → IfOk (r >>= finish) IsKnownPiece
finish_known (Ok x) h = finished_known x (item_of x.value.phase x.value.text) (item_known x.value.phase x.value.text h)
finish_known (Err f) h = tt

either_piece : (t : Bool) (x y : Result (Piece Item) Flaw) → IfOk x IsKnownPiece → IfOk y IsKnownPiece → IfOk (cond t x y) IsKnownPiece
either_piece true x y h k = h
either_piece false x y h k = k

comment_known : (star : Bool) (n : ℕ) (bs : List ℕ) → IfOk (comment_at star n bs) IsKnownPiece
unfolding comment_at
comment_known star n [] = tt
comment_known star n (b ∷ bs) =
    either_piece (eqb b 42) (comment_at true (n + 1) bs) _ (comment_known true (n + 1) bs)
    (either_piece (star && eqb b 47) (Ok (record { value = Blank; count = n + 1; seen = n + 1 })) (comment_at false (n + 1) bs) tt (comment_known false (n + 1) bs))

pair_known : (second : ℕ) (both single : Item) (next : Option ℕ) → IsKnownItem both → IsKnownItem single
    → IfOk (pair_by second both single next) IsKnownPiece
pair_known second both single None h k = k
pair_known second both single (Some b) h k =
    either_piece (eqb b second) (Ok (record { value = both; count = 2; seen = 2 })) (Ok (record { value = single; count = 1; seen = 2 })) h k

slash_known : (next : Option ℕ) (rest : List ℕ) → IfOk (slash_by next rest) IsKnownPiece
slash_known None rest = refl
slash_known (Some b) rest =
    either_piece (eqb b 47) (Ok (record { value = Line; count = 2; seen = 2 })) _ tt
    (either_piece (eqb b 42) (comment_at false 2 rest) (Ok (record { value = Token (t.Symbol 47); count = 1; seen = 2 })) (comment_known false 2 rest) refl)

str_known : (r : Result (Piece (List ℕ)) Flaw) → IfOk (r >>= str_of) IsKnownPiece
str_known (Ok x) = tt
str_known (Err f) = tt

-- ---- by their first byte

abbrev IsBegun : ℕ → Start → Type 0
IsBegun b start.White = ⊤
IsBegun b (start.Lexeme p) = IsSoFar p (kept p b)
IsBegun b start.Quote = ⊤
IsBegun b start.Open = ⊤
IsBegun b start.Star = ⊤
IsBegun b start.Slash = ⊤
IsBegun b start.Mark = is_mark b ≡ true
IsBegun b start.Sign = is_symbol b ≡ true
IsBegun b start.Other = ⊤

begun_test : (b : ℕ) (t : Bool) (x y : Start) → (t ≡ true → IsBegun b x) → IsBegun b y → IsBegun b (cond t x y)
begun_test b true x y h k = h refl
begun_test b false x y h k = k

simple_one : (b : ℕ) → (is_ascii_alphabetic b || eqb b 95) ≡ true → is_simple (b ∷ []) ≡ true
unfolding is_simple
simple_one b e = rw e refl

begun : (b : ℕ) → IsBegun b (start_of b)
unfolding kept
begun b =
    begun_test b (is_verilog_space b) start.White _ (λ _. tt)
    (begun_test b (is_ascii_alphabetic b || eqb b 95) (start.Lexeme phase.Word) _ (λ e. (simple_one b e, omega arith))
    (begun_test b (is_ascii_digit b) (start.Lexeme phase.Whole) _ (λ _. tt)
    (begun_test b (eqb b 92) (start.Lexeme phase.Escape) _ (λ _. tt)
    (begun_test b (eqb b 39) (start.Lexeme phase.Prefix) _ (λ _. tt)
    (begun_test b (eqb b 96) (start.Lexeme phase.Grave) _ (λ e. ap (λ (z : ℕ). z ∷ []) (eqb-true b 96 e))
    (begun_test b (eqb b 34) start.Quote _ (λ _. tt)
    (begun_test b (eqb b 40) start.Open _ (λ _. tt)
    (begun_test b (eqb b 42) start.Star _ (λ _. tt)
    (begun_test b (eqb b 47) start.Slash _ (λ _. tt)
    (begun_test b (is_mark b) start.Mark _ (λ e. e)
    (begun_test b (is_symbol b) start.Sign start.Other (λ e. e) tt)))))))))))

mark_punctuation : (b : ℕ) → is_mark b ≡ true → is_punctuation b ≡ true
mark_punctuation b e = by (eqb b 40)
  where
    by : (w : Bool) → (w || is_mark b) ≡ true
    by true = refl
    by false = e

symbol_operator : (b : ℕ) → is_symbol b ≡ true → is_operator b ≡ true
symbol_operator b e = rw e refl

by_known : (s : Start) (b : ℕ) (bs : List ℕ) → IsBegun b s → IfOk (item_by s b bs) IsKnownPiece
by_known start.White b bs h = tt
by_known (start.Lexeme p) b bs h = finish_known (scan_at p (kept p b) 1 (drop 1 bs)) (scan_known p (kept p b) 1 (drop 1 bs) h)
by_known start.Quote b bs h = str_known (string_at Parts [] 1 (drop 1 bs))
by_known start.Open b bs h = pair_known 42 (Token t.AttrStart) (Token (t.Punct 40)) (first (drop 1 bs)) tt refl
by_known start.Star b bs h = pair_known 41 (Token t.AttrStop) (Token (t.Symbol 42)) (first (drop 1 bs)) tt refl
by_known start.Slash b bs h = slash_known (first (drop 1 bs)) (drop 2 bs)
by_known start.Mark b bs h = mark_punctuation b h
by_known start.Sign b bs h = symbol_operator b h
by_known start.Other b bs h = tt

at_known : (b : ℕ) (bs : List ℕ) → IfOk (item_at b bs) IsKnownPiece
unfolding item_at
at_known b bs = by_known (start_of b) b (b ∷ bs) (begun b)

-- ---- texts

abbrev IsKnownTerminal : Terminal VFound Place → Type 0
IsKnownTerminal (proper x) = IsKnown x.token
IsKnownTerminal (end p) = ⊤

tokens_known : (i : Item) (p : Place) (bs : List ℕ) (count seen : ℕ) (after : ℕ → Ahead VFound) → IsKnownItem i
    → ((n : ℕ) → AllOf IsKnownTerminal (after n).tokens) → AllOf IsKnownTerminal (then_tokens i p bs count seen after).tokens
tokens_known Blank p bs count seen after h rest = rest count
tokens_known Line p bs count seen after h rest = rest (with_line count bs)
tokens_known (Token x) p bs count seen after h rest = (h, rest count)

items_known : (p : Place) (bs : List ℕ) (r : Result (Piece Item) Flaw) (after : ℕ → Ahead VFound) → IfOk r IsKnownPiece
    → ((n : ℕ) → AllOf IsKnownTerminal (after n).tokens) → AllOf IsKnownTerminal (then_items p bs r after).tokens
items_known p bs (Ok x) after h rest = tokens_known x.value p bs x.count x.seen after h rest
items_known p bs (Err f) after h rest = tt

all_known : (skipped : ℕ) (p : Place) (bs : List ℕ) → AllOf IsKnownTerminal (tokens_from skipped p bs).tokens
unfolding tokens_from
all_known zero p [] = (tt, tt)
all_known (suc n) p [] = (tt, tt)
all_known (suc n) p (b ∷ bs) = all_known n (place_after p b) bs
all_known zero p (b ∷ bs) =
    items_known p (b ∷ bs) (item_at b bs) (λ count. tokens_from (count - 1) (place_after p b) bs) (at_known b bs) (λ count. all_known (count - 1) (place_after p b) bs)

front_known : (xs ys : List (Terminal VFound Place)) → AllOf IsKnownTerminal (xs ++ ys) → AllOf IsKnownTerminal xs
front_known [] ys h = tt
front_known (x ∷ xs) ys h = (h.0, front_known xs ys h.1)

-- what a token keeps and is
whole : (x : VToken) → IsProper x → IsKnown x → IsOfBytes x
whole (t.Name n) h k = h
whole (t.Keyword w) h k = k
whole (t.Number n) h k = h
whole (t.Real r) h k = h
whole (t.Based d) h k = h
whole (t.Str s) h k = h
whole (t.Punct b) h k = k
whole t.AttrStart h k = tt
whole t.AttrStop h k = tt
whole (t.Symbol b) h k = k
whole (t.Directive w) h k = k

both : (xs : List (Terminal VFound Place)) → AreSound xs → AllOf IsKnownTerminal xs → AllOf CanStand xs
both [] h k = tt
both (proper x ∷ xs) h k = (whole x.token h.0 k.0, both xs h.1 k.1)
both (end p ∷ xs) h k = (tt, both xs h.1 k.1)

pub texts_can_stand : (bs : List ℕ) → AreBytes bs → AllOf CanStand (vtokens bs).tokens
texts_can_stand bs bytes =
    let f = a_front bs in
    both (vtokens bs).tokens (tokens_sound place_at_start bs bytes) (front_known (vtokens bs).tokens f.0 (subst (AllOf IsKnownTerminal) f.1 (all_known 0 place_at_start bs)))
