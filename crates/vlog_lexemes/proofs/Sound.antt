-- What is read at the front of some bytes is a token of the table, or white space.
use Rattle.std.proofs.Common.{◌≡◌, ℕ, ◌+◌, ◌<◌, ◌≤◌, ◌^◌, Bool, true, false, cond, eqb, ltb, not, ◌||◌, List, [], ◌∷◌, ◌++◌, length, Option, Some, None, Ok, Err, refl, sym, ap, ◌∙◌, subst, inl, inr, arith, length-append, append_assoc, lit≤}
use Rattle.std.specs.Prelude.{◌⊎◌, pos}
use Rattle.std.specs.Char.{is_ascii_digit, is_ascii_alphabetic}
use Rattle.std.specs.List.{prefix_len}
use Rattle.std.proofs.lemmas.Bool.{eqb-true, ltb-true}
use Rattle.std.proofs.lemmas.Bool.Decides.{nat_tests}
use Rattle.std.proofs.lemmas.List.{drop_at}
use Rattle.nl_base.specs.declared.number.Scaled.{Scaled}
use Rattle.nl_base.specs.Case.{same_bytes}
use Rattle.nl_bytes.specs.Classes.{is_verilog_space, is_line_byte}
use Rattle.vlog_values.specs.declared.literal.Base.{Base}
use Rattle.vlog_values.specs.declared.literal.Base.TheVariants.{Decimal}
use Rattle.vlog_values.specs.declared.literal.Based.{Based}
use Rattle.vlog_tokens.specs.declared.item.Item.{Item}
use Rattle.vlog_tokens.specs.declared.item.Item.TheVariants.{Blank, Line, Token}
use Rattle.vlog_tokens.specs.declared.token.VToken.{VToken}
use Rattle.vlog_tokens.specs.declared.token.VToken.TheVariants as tokens
use Rattle.vlog_tokens.specs.declared.phase.Phase.{Phase}
use Rattle.vlog_tokens.specs.declared.phase.Phase.TheVariants as phases
use Rattle.vlog_tokens.specs.declared.start.Start.{Start}
use Rattle.vlog_tokens.specs.declared.start.Start.TheVariants as starts
use Rattle.nl_bytes.specs.Flaws.{Piece, ◌>>=◌}
use Rattle.vlog_tokens.specs.Items.{item_of, finish, finished, directive_item, word_item, number_item, real_item, based_item, is_signed, digits_of, has_value}
use Rattle.vlog_tokens.specs.Keywords.{is_keyword}
use Rattle.vlog_tokens.specs.Numbers.{decimal_value, number_of, real_of}
use Rattle.vlog_tokens.specs.Language.{with_line}
use Rattle.vlog_tokens.specs.Phases.{is_complete, most_of, is_digit, is_open}
use Rattle.vlog_tokens.specs.Scanning.{Lexeme, scan_at, kept}
use Rattle.vlog_tokens.specs.Spelling.{start_of, item_at, item_by, alone, slash_by, comment_at, str_of}
use Rattle.vlog_tokens.specs.Spelling as marks
use Rattle.vlog_tokens.specs.Strings.{string_at}
use Rattle.vlog_tokens.specs.Strings as within
use Rattle.vlog_lexemes.specs.Lexemes.{AllPass, IsRun, IsLexeme, simple_name, keyword, escaped_name, number, fixed, scaled, literal, string, attributes_begin, attributes_end, parenthesis, punctuation, star, slash, symbol, directive, MayFollow, any, no_word_byte, no_name_byte, no_real_byte, no_exponent_byte, no_number_byte, no_based_byte, no_star, no_parenthesis, no_comment, one_of, seen_behind, timescale, celldefine, endcelldefine, EndsLine, IsBlank, white_byte, line_comment, block_comment, time_directive, cell_directive, IsBased, IsSigned, digit_byte, is_low_line}
use Rattle.vlog_lexemes.proofs.Scans.{Scanned}
use Rattle.vlog_lexemes.proofs.Shapes.{text_says, based_text}
use Rattle.vlog_lexemes.proofs.Strings.{string_sound}
use Rattle.vlog_lexemes.proofs.Strings as strings
use Rattle.vlog_lexemes.proofs.Blanks.{bytes_same, block_sound}
use Rattle.vlog_lexemes.proofs.Fronts.{Front, OfName, AtEscape, OfEscaped, OfNumeral, AtPoint, OfFixed, AtMark, AtSign, OfScaled, AtQuote, AtSigned, AtLetter, OfDigits, OfUnknown, AtGrave, OfDirective, phase_of, front_bytes, front_text, IsFront, IsHead, follows_of, IsScanned, scan_sound}
use Rattle.vlog_lexemes.proofs.Complete.{Answer, answer, Passes}

-- what stands at the front of some bytes
pub data ItemRow (bytes : List ℕ) (piece : Piece Item) : Type 0 where
  a_token : (lexeme rest : List ℕ) (t : VToken) (follows : ℕ → Bool) → bytes ≡ lexeme ++ rest → IsLexeme lexeme t follows → MayFollow follows rest
      → piece.value ≡ Token t → piece.count ≡ length lexeme → piece.seen ≡ length lexeme + seen_behind t rest → ItemRow bytes piece
  a_blank : (blank rest : List ℕ) → bytes ≡ blank ++ rest → IsBlank blank rest → Passes piece bytes (length blank) → ItemRow bytes piece

-- ---- what an answer has

abbrev item_in : Answer → Item
item_in (Ok x) = x.value
item_in (Err f) = Blank

abbrev count_in : Answer → ℕ
count_in (Ok x) = x.count
count_in (Err f) = 0

abbrev seen_in : Answer → ℕ
seen_in (Ok x) = x.seen
seen_in (Err f) = 0

token_row : (lexeme rest bytes : List ℕ) (t : VToken) (follows : ℕ → Bool) (n k : ℕ) (piece : Piece Item) → bytes ≡ lexeme ++ rest
    → IsLexeme lexeme t follows → MayFollow follows rest → n ≡ length lexeme → k ≡ length lexeme + seen_behind t rest
    → answer (Token t) n k ≡ Ok piece → ItemRow bytes piece
token_row lexeme rest bytes t follows n k piece e is behind count seen ok =
    a_token lexeme rest t follows e is behind (sym (ap item_in ok)) (sym (ap count_in ok) ∙ count) (sym (ap seen_in ok) ∙ seen)

split_cond : {P : Type 0} (t : Bool) (x y : Answer) (piece : Piece Item) → cond t x y ≡ Ok piece → (t ≡ true → x ≡ Ok piece → P)
    → (t ≡ false → y ≡ Ok piece → P) → P
split_cond {P} true x y piece e p q = p refl e
split_cond {P} false x y piece e p q = q refl e

not_false : (t : Bool) → t ≡ false → not t ≡ true
not_false false e = refl
not_false true e = absurd cc

-- ---- names, numbers, literals and directives

abbrev IsToken : Piece Lexeme → List ℕ → List ℕ → (ℕ → Bool) → Piece Item → Option Item → Type 0
IsToken y lexeme rest follows piece o = finished y o ≡ Ok piece → ItemRow (lexeme ++ rest) piece

-- a token that a front with these bytes is
scan_row : (y : Piece Lexeme) (lexeme rest : List ℕ) (t : VToken) (follows : ℕ → Bool) (piece : Piece Item) → IsLexeme lexeme t follows
    → MayFollow follows rest → y.count ≡ length lexeme → y.seen ≡ length lexeme + one_of rest → seen_behind t rest ≡ one_of rest
    → IsToken y lexeme rest follows piece (Some (Token t))
scan_row y lexeme rest t follows piece is behind count seen look ok =
    token_row lexeme rest (lexeme ++ rest) t follows y.count y.seen piece refl is behind count (seen ∙ ap (λ (k : ℕ). length lexeme + k) (sym look)) ok

word_row : (y : Piece Lexeme) (bytes rest : List ℕ) (follows : ℕ → Bool) (piece : Piece Item) (s : (t : VToken) → IsLexeme bytes t follows → seen_behind t rest ≡ one_of rest → IsToken y bytes rest follows piece (Some (Token t)))
    → (is_keyword bytes ≡ false → IsLexeme bytes (tokens.Name bytes) follows)
    → (is_keyword bytes ≡ true → IsLexeme bytes (tokens.Keyword bytes) follows) → IsToken y bytes rest follows piece (Some (word_item bytes))
word_row y bytes rest follows piece s name word = by (is_keyword bytes) refl
  where
    by : (t : Bool) → is_keyword bytes ≡ t
        → IsToken y bytes rest follows piece (Some (cond t (Token (tokens.Keyword bytes)) (Token (tokens.Name bytes))))
    by true e = s (tokens.Keyword bytes) (word e) refl
    by false e = s (tokens.Name bytes) (name e) refl

number_row : (y : Piece Lexeme) (bytes rest : List ℕ) (follows : ℕ → Bool) (piece : Piece Item)
    → (decimal_value bytes < 2 ^ 63 → IsToken y bytes rest follows piece (Some (Token (tokens.Number (pos (decimal_value bytes))))))
    → IsToken y bytes rest follows piece (number_item (number_of bytes))
unfolding number_of
number_row y bytes rest follows piece s = by (ltb (decimal_value bytes) (2 ^ 63)) refl
  where
    by : (t : Bool) → ltb (decimal_value bytes) (2 ^ 63) ≡ t
        → IsToken y bytes rest follows piece (number_item (cond t (Some (pos (decimal_value bytes))) None))
    by true e = s (ltb-true _ _ e)
    by false e = λ ok. absurd cc

real_row : (y : Piece Lexeme) (bytes rest : List ℕ) (follows : ℕ → Bool) (piece : Piece Item)
    → ((r : Scaled) → real_of bytes ≡ Some r → IsToken y bytes rest follows piece (Some (Token (tokens.Real r))))
    → IsToken y bytes rest follows piece (real_item (real_of bytes))
real_row y bytes rest follows piece s = by (real_of bytes) refl
  where
    by : (o : Option Scaled) → real_of bytes ≡ o → IsToken y bytes rest follows piece (real_item o)
    by None e = λ ok. absurd cc
    by (Some r) e = s r e

-- a literal, by its bytes
based_row : (y : Piece Lexeme) (sign white digits rest : List ℕ) (signed : Bool) (letter : ℕ) (base : Base) (follows : ℕ → Bool) (piece : Piece Item)
    → IsHead sign signed letter base white → IsRun (is_digit base) (digit_byte base) digits ⊎ ((base ≡ Decimal) × IsRun is_open is_low_line digits)
    → length (based_text sign letter digits) ≤ 131072
    → ((based : Based) → IsBased (39 ∷ (sign ++ letter ∷ (white ++ digits))) based → IsToken y (39 ∷ (sign ++ letter ∷ (white ++ digits))) rest follows piece (Some (Token (tokens.Based based))))
    → IsToken y (39 ∷ (sign ++ letter ∷ (white ++ digits))) rest follows piece (based_item base (based_text sign letter digits) (digits_of (based_text sign letter digits)))
based_row y sign white digits rest signed letter base follows piece is each short s = by (has_value base (digits_of text)) refl
  where
    text : List ℕ
    text = based_text sign letter digits

    based : Based
    based = record { signed = is_signed text; base = base; digits = digits_of text }

    by : (t : Bool) → has_value base (digits_of text) ≡ t
        → IsToken y (39 ∷ (sign ++ letter ∷ (white ++ digits))) rest follows piece (cond t (Some (Token (tokens.Based (record { signed = is_signed text; base = base; digits = digits_of text })))) None)
    by false e = λ ok. absurd cc
    by true e =
        let says = text_says sign signed letter base digits is.0 is.1 in
        s based (record {
          sign = sign;
          letter = letter;
          white = white;
          digits = digits;
          spelled = refl;
          signed = subst (λ (z : Bool). IsSigned sign z) (sym says.0) is.0;
          at_letter = is.1;
          blank = is.2;
          each = each;
          kept = says.1;
          short = omega (arith, short, length-append sign (letter ∷ digits));
          in_range = e;
        })

-- the rest of a line
record IsLine (bytes : List ℕ) : Type 0 where
  pub line : List ℕ
  pub rest : List ℕ
  pub is_bytes : bytes ≡ line ++ rest
  pub each : AllPass is_line_byte line
  pub ends : EndsLine rest
  pub count : prefix_len is_line_byte bytes ≡ length line

line_feed : (b : ℕ) → is_line_byte b ≡ false → b ≡ 10
line_feed b e = eqb-true b 10 (by (eqb b 10) e)
  where
    by : (t : Bool) → not t ≡ false → t ≡ true
    by true e = refl
    by false e = absurd cc

line_of : (bytes : List ℕ) → IsLine bytes
line_of [] = record { line = []; rest = []; is_bytes = refl; each = tt; ends = tt; count = refl }
line_of (b ∷ bs) = by (is_line_byte b) refl (line_of bs)
  where
    by : (t : Bool) → is_line_byte b ≡ t → IsLine bs → IsLine (b ∷ bs)
    by true e l = record { line = b ∷ l.line; rest = l.rest; is_bytes = ap (λ (z : List ℕ). b ∷ z) l.is_bytes; each = (e, l.each); ends = l.ends; count = rw e (omega (arith, l.count)) }
    by false e l = record { line = []; rest = b ∷ bs; is_bytes = refl; each = tt; ends = line_feed b e; count = rw e refl }

-- the bytes that are passed with the rest of a line
with_line_of : (word rest : List ℕ) (n : ℕ) → n ≡ length word → (l : IsLine rest) → with_line n (word ++ rest) ≡ length (word ++ l.line)
with_line_of word rest n e l =
    omega (arith, e, ap (prefix_len is_line_byte) (drop_at word rest n (sym e)), l.count, length-append word l.line)

directive_row : (y : Piece Lexeme) (bytes rest : List ℕ) (piece : Piece Item) → MayFollow no_word_byte rest → y.count ≡ length bytes
    → ((bytes ≡ timescale → ⊥) → (bytes ≡ celldefine → ⊥) → (bytes ≡ endcelldefine → ⊥) → IsToken y bytes rest no_word_byte piece (Some (Token (tokens.Directive bytes))))
    → IsToken y bytes rest no_word_byte piece (Some (directive_item bytes))
directive_row y bytes rest piece behind count s = by (same_bytes bytes timescale) refl (same_bytes bytes celldefine) refl (same_bytes bytes endcelldefine) refl
  where
    differs : (word : List ℕ) → same_bytes word word ≡ true → same_bytes bytes word ≡ false → bytes ≡ word → ⊥
    differs word same apart e = let yes : same_bytes bytes word ≡ true = ap (λ (z : List ℕ). same_bytes z word) e ∙ same in cc

    cells : (bytes ≡ celldefine) ⊎ (bytes ≡ endcelldefine) → IsToken y bytes rest no_word_byte piece (Some Blank)
    cells e ok = a_blank bytes rest refl (cell_directive e behind) (inl (sym (ap item_in ok), sym (ap count_in ok) ∙ count))

    times : bytes ≡ timescale → IsToken y bytes rest no_word_byte piece (Some Line)
    times e ok =
        let l = line_of rest in
        let whole : bytes ++ rest ≡ (bytes ++ l.line) ++ l.rest = ap (λ (z : List ℕ). bytes ++ z) l.is_bytes ∙ sym (append_assoc bytes l.line l.rest) in
        a_blank (bytes ++ l.line) l.rest whole (time_directive l.line (ap (λ (z : List ℕ). z ++ l.line) e) l.each (subst (MayFollow no_word_byte) l.is_bytes behind) l.ends)
        (inr (sym (ap item_in ok), with_line_of bytes rest piece.count (sym (ap count_in ok) ∙ count) l))

    by : (a : Bool) → same_bytes bytes timescale ≡ a → (b : Bool) → same_bytes bytes celldefine ≡ b → (c : Bool) → same_bytes bytes endcelldefine ≡ c
        → IsToken y bytes rest no_word_byte piece (Some (cond a Line (cond (b || c) Blank (Token (tokens.Directive bytes)))))
    by true e b f c g = times (bytes_same bytes timescale e)
    by false e true f c g = cells (inl (bytes_same bytes celldefine f))
    by false e false f true g = cells (inr (bytes_same bytes endcelldefine g))
    by false e false f false g = s (differs timescale refl e) (differs celldefine refl f) (differs endcelldefine refl g)

-- what a front that is a token is
front_row : (g : Front) (rest : List ℕ) (y : Piece Lexeme) (piece : Piece Item) → IsFront g → is_complete (phase_of g) ≡ true
    → MayFollow (follows_of g) rest → y.count ≡ length (front_bytes g) → y.seen ≡ length (front_bytes g) + one_of rest
    → length (front_text g) ≤ most_of (phase_of g) → IsToken y (front_bytes g) rest (follows_of g) piece (item_of (phase_of g) (front_text g))
unfolding is_complete most_of item_of
front_row (OfName bytes) rest y piece is whole behind count seen short =
    word_row y bytes rest no_name_byte piece (λ t l look. scan_row y bytes rest t no_name_byte piece l behind count seen look) (λ e. simple_name is e short) (λ e. keyword is e short)
front_row AtEscape rest y piece is whole behind count seen short = absurd cc
front_row (OfEscaped name) rest y piece is whole behind count seen short = scan_row y (92 ∷ name) rest (tokens.Name name) is_verilog_space piece (escaped_name name refl is short) behind count seen refl
front_row (OfNumeral w) rest y piece is whole behind count seen short =
    number_row y w rest no_real_byte piece (λ small. scan_row y w rest (tokens.Number (pos (decimal_value w))) no_real_byte piece (number is short small) behind count seen refl)
front_row (AtPoint w) rest y piece is whole behind count seen short = absurd cc
front_row (OfFixed w f) rest y piece is whole behind count seen short =
    real_row y (w ++ 46 ∷ f) rest no_exponent_byte piece (λ r e. scan_row y (w ++ 46 ∷ f) rest (tokens.Real r) no_exponent_byte piece (fixed r (record { whole = w; fraction = f; spelled = refl; before = is.0; behind = is.1 }) short e) behind count seen refl)
front_row (AtMark m x) rest y piece is whole behind count seen short = absurd cc
front_row (AtSign m x s) rest y piece is whole behind count seen short = absurd cc
front_row (OfScaled m x s e) rest y piece is whole behind count seen short =
    real_row y (m ++ x ∷ (s ++ e)) rest no_number_byte piece (λ r value. scan_row y (m ++ x ∷ (s ++ e)) rest (tokens.Real r) no_number_byte piece
    (scaled r (record { mantissa = m; mark = x; sign = s; exponent = e; spelled = refl; before = is.0; at_mark = is.1; signed = is.2; behind = is.3 }) short value) behind count seen refl)
front_row AtQuote rest y piece is whole behind count seen short = absurd cc
front_row (AtSigned s) rest y piece is whole behind count seen short = absurd cc
front_row (AtLetter sign signed letter base white) rest y piece is whole behind count seen short = absurd cc
front_row (OfDigits sign signed letter base white digits) rest y piece is whole behind count seen short =
    based_row y sign white digits rest signed letter base no_based_byte piece is.0 (inl is.1) short (λ based l. scan_row y (39 ∷ (sign ++ letter ∷ (white ++ digits))) rest (tokens.Based based) no_based_byte piece (literal based l) behind count seen refl)
front_row (OfUnknown sign signed letter white digits) rest y piece is whole behind count seen short =
    based_row y sign white digits rest signed letter Decimal no_based_byte piece is.0 (inr (refl, is.1)) short (λ based l. scan_row y (39 ∷ (sign ++ letter ∷ (white ++ digits))) rest (tokens.Based based) no_based_byte piece (literal based l) behind count seen refl)
front_row AtGrave rest y piece is whole behind count seen short = absurd cc
front_row (OfDirective word) rest y piece is whole behind count seen short =
    directive_row y (96 ∷ word) rest piece behind count (λ a b c. scan_row y (96 ∷ word) rest (tokens.Directive (96 ∷ word)) no_word_byte piece (directive word refl is short a b c) behind count seen refl)

scanned_row : (bytes : List ℕ) (y : Piece Lexeme) (piece : Piece Item) → IsScanned bytes y → finish y ≡ Ok piece → ItemRow bytes piece
scanned_row bytes y piece s ok =
    let item : item_of (phase_of s.front) (front_text s.front) ≡ item_of y.value.phase y.value.text = sym (ap (λ (x : Phase). item_of x y.value.text) s.phase ∙ ap (item_of (phase_of s.front)) s.text) in
    subst (λ (z : List ℕ). ItemRow z piece) (sym s.is_bytes) (front_row s.front s.rest y piece s.is s.complete s.behind s.count s.seen s.short (ap (finished y) item ∙ ok))

bind_row : (bytes : List ℕ) (x : Scanned) (piece : Piece Item) → ((y : Piece Lexeme) → x ≡ Ok y → IsScanned bytes y) → (x >>= finish) ≡ Ok piece
    → ItemRow bytes piece
bind_row bytes (Ok y) piece s ok = scanned_row bytes y piece (s y refl) ok
bind_row bytes (Err f) piece s ok = absurd cc

front_read : (f : Front) (bs : List ℕ) (piece : Piece Item) → IsFront f → length (front_text f) ≤ most_of (phase_of f)
    → (scan_at (phase_of f) (front_text f) (length (front_bytes f)) bs >>= finish) ≡ Ok piece → ItemRow (front_bytes f ++ bs) piece
front_read f bs piece is short ok = bind_row (front_bytes f ++ bs) (scan_at (phase_of f) (front_text f) (length (front_bytes f)) bs) piece (λ y e. scan_sound bs f y is short e) ok

-- ---- other bytes

abbrev Row : ℕ → List ℕ → Piece Item → Start → Type 0
Row b bs piece s = item_by s b (b ∷ bs) ≡ Ok piece → ItemRow (b ∷ bs) piece

cond_start : (P : Start → Type 0) (t : Bool) (x y : Start) → (t ≡ true → P x) → (t ≡ false → P y) → P (cond t x y)
cond_start P true x y p q = p refl
cond_start P false x y p q = q refl

head : (b c : ℕ) (bs : List ℕ) → b ≡ c → b ∷ bs ≡ c ∷ bs
head b c bs e = ap (λ (z : ℕ). z ∷ bs) e

white_row : (b : ℕ) (bs : List ℕ) (piece : Piece Item) → is_verilog_space b ≡ true → Row b bs piece starts.White
white_row b bs piece e ok = a_blank (b ∷ []) bs refl (white_byte b refl e) (inl (sym (ap item_in ok), sym (ap count_in ok)))

string_row : (b : ℕ) (bs : List ℕ) (piece : Piece Item) → b ≡ 34 → Row b bs piece starts.Quote
string_row b bs piece e ok = by (string_at within.Parts [] 1 bs) (string_sound bs) ok
  where
    by : (x : strings.Spelled) → ((s : Piece (List ℕ)) → x ≡ Ok s → strings.IsPiece (34 ∷ bs) s) → (x >>= str_of) ≡ Ok piece → ItemRow (b ∷ bs) piece
    by (Err f) sound ok = absurd cc
    by (Ok s) sound ok =
        let row = sound s refl in
        token_row row.lexeme row.rest (b ∷ bs) (tokens.Str s.value) any s.count s.seen piece (head b 34 bs e ∙ row.is_bytes) (string s.value row.spelled row.most) (follows_any row.rest) row.count (omega (arith, row.seen)) ok
      where
        follows_any : (rest : List ℕ) → MayFollow any rest
        follows_any [] = tt
        follows_any (c ∷ cs) = refl

any_follows : (rest : List ℕ) → MayFollow any rest
any_follows [] = tt
any_follows (c ∷ cs) = refl

open_row : (b : ℕ) (bs : List ℕ) (piece : Piece Item) → b ≡ 40 → Row b bs piece starts.Open
open_row b [] piece e ok = token_row (40 ∷ []) [] (b ∷ []) (tokens.Punct 40) no_star 1 1 piece (head b 40 [] e) (parenthesis refl) tt refl refl ok
open_row b (c ∷ cs) piece e ok =
    split_cond (eqb c 42) _ _ piece ok
    (λ second both. token_row (40 ∷ 42 ∷ []) cs (b ∷ c ∷ cs) tokens.AttrStart any 2 2 piece (head b 40 (c ∷ cs) e ∙ ap (λ (z : ℕ). 40 ∷ z ∷ cs) (eqb-true c 42 second)) (attributes_begin refl) (any_follows cs) refl refl both)
    (λ second one. token_row (40 ∷ []) (c ∷ cs) (b ∷ c ∷ cs) (tokens.Punct 40) no_star 1 2 piece (head b 40 (c ∷ cs) e) (parenthesis refl) (not_false (eqb c 42) second) refl refl one)

star_row : (b : ℕ) (bs : List ℕ) (piece : Piece Item) → b ≡ 42 → Row b bs piece starts.Star
star_row b [] piece e ok = token_row (42 ∷ []) [] (b ∷ []) (tokens.Symbol 42) no_parenthesis 1 1 piece (head b 42 [] e) (star refl) tt refl refl ok
star_row b (c ∷ cs) piece e ok =
    split_cond (eqb c 41) _ _ piece ok
    (λ second both. token_row (42 ∷ 41 ∷ []) cs (b ∷ c ∷ cs) tokens.AttrStop any 2 2 piece (head b 42 (c ∷ cs) e ∙ ap (λ (z : ℕ). 42 ∷ z ∷ cs) (eqb-true c 41 second)) (attributes_end refl) (any_follows cs) refl refl both)
    (λ second one. token_row (42 ∷ []) (c ∷ cs) (b ∷ c ∷ cs) (tokens.Symbol 42) no_parenthesis 1 2 piece (head b 42 (c ∷ cs) e) (star refl) (not_false (eqb c 41) second) refl refl one)

neither : (x y : Bool) → x ≡ false → y ≡ false → not (x || y) ≡ true
neither x y e f = rw (e, f) refl

comment_row : (bytes bs : List ℕ) (piece : Piece Item) → bytes ≡ 47 ∷ 42 ∷ bs → comment_at false 2 bs ≡ Ok piece → ItemRow bytes piece
comment_row bytes bs piece e ok =
    let c = block_sound bs piece ok in
    let blank : List ℕ = 47 ∷ 42 ∷ (c.body ++ 42 ∷ 47 ∷ []) in
    a_blank blank c.rest (e ∙ ap (λ (z : List ℕ). 47 ∷ 42 ∷ z) (c.is_bytes ∙ sym (append_assoc c.body (42 ∷ 47 ∷ []) c.rest))) (block_comment c.body refl c.none)
    (inl (c.item, omega (arith, c.count, length-append c.body (42 ∷ 47 ∷ []))))

line_row : (bytes bs : List ℕ) (piece : Piece Item) → bytes ≡ 47 ∷ 47 ∷ bs → answer Line 2 2 ≡ Ok piece → ItemRow bytes piece
line_row bytes bs piece e ok =
    let l = line_of bs in
    let count : piece.count ≡ 2 = sym (ap count_in ok) in
    a_blank (47 ∷ 47 ∷ l.line) l.rest (e ∙ ap (λ (z : List ℕ). 47 ∷ 47 ∷ z) l.is_bytes) (line_comment l.line refl l.each l.ends)
    (inr (sym (ap item_in ok), ap (with_line piece.count) e ∙ with_line_of (47 ∷ 47 ∷ []) bs piece.count count l))

slash_row : (b : ℕ) (bs : List ℕ) (piece : Piece Item) → b ≡ 47 → Row b bs piece starts.Slash
slash_row b [] piece e ok = token_row (47 ∷ []) [] (b ∷ []) (tokens.Symbol 47) no_comment 1 1 piece (head b 47 [] e) (slash refl) tt refl refl ok
slash_row b (c ∷ cs) piece e ok =
    split_cond (eqb c 47) _ _ piece ok
    (λ second line. line_row (b ∷ c ∷ cs) cs piece (head b 47 (c ∷ cs) e ∙ ap (λ (z : ℕ). 47 ∷ z ∷ cs) (eqb-true c 47 second)) line)
    (λ no_line ok. split_cond (eqb c 42) _ _ piece ok
    (λ second block. comment_row (b ∷ c ∷ cs) cs piece (head b 47 (c ∷ cs) e ∙ ap (λ (z : ℕ). 47 ∷ z ∷ cs) (eqb-true c 42 second)) block)
    (λ no_block one. token_row (47 ∷ []) (c ∷ cs) (b ∷ c ∷ cs) (tokens.Symbol 47) no_comment 1 2 piece (head b 47 (c ∷ cs) e) (slash refl) (neither (eqb c 47) (eqb c 42) no_line no_block) refl refl one))

mark_looks : (b : ℕ) → marks.is_mark b ≡ true → eqb b 40 ≡ false
mark_looks b e = grind (arith, nat_tests)

symbol_looks : (b : ℕ) → marks.is_symbol b ≡ true → (eqb b 42 || eqb b 47) ≡ false
symbol_looks b e = grind (arith, nat_tests)

unseen : (t : Bool) (rest : List ℕ) → t ≡ false → 1 ≡ 1 + cond t (one_of rest) 0
unseen t rest e = rw e refl

mark_row : (b : ℕ) (bs : List ℕ) (piece : Piece Item) → marks.is_mark b ≡ true → Row b bs piece starts.Mark
mark_row b bs piece e ok = token_row (b ∷ []) bs (b ∷ bs) (tokens.Punct b) any 1 1 piece refl (punctuation b refl e) (any_follows bs) refl (unseen (eqb b 40) bs (mark_looks b e)) ok

sign_row : (b : ℕ) (bs : List ℕ) (piece : Piece Item) → marks.is_symbol b ≡ true → Row b bs piece starts.Sign
sign_row b bs piece e ok = token_row (b ∷ []) bs (b ∷ bs) (tokens.Symbol b) any 1 1 piece refl (symbol b refl e) (any_follows bs) refl (unseen (eqb b 42 || eqb b 47) bs (symbol_looks b e)) ok

lexeme_row : (f : Front) (b c : ℕ) (bs : List ℕ) (phase : Phase) (piece : Piece Item) → phase ≡ phase_of f → b ≡ c → front_bytes f ≡ c ∷ []
    → kept phase b ≡ front_text f → IsFront f → length (front_text f) ≤ most_of (phase_of f) → Row b bs piece (starts.Lexeme phase)
lexeme_row f b c bs phase piece at e bytes text is short ok =
    let one : length (front_bytes f) ≡ 1 = ap (length {A = ℕ}) bytes in
    let same : scan_at (phase_of f) (front_text f) (length (front_bytes f)) bs ≡ scan_at phase (kept phase b) 1 bs =
    ap (λ (k : ℕ). scan_at (phase_of f) (front_text f) k bs) one ∙ ap (λ (z : List ℕ). scan_at (phase_of f) z 1 bs) (sym text) ∙ ap (λ (z : Phase). scan_at z (kept phase b) 1 bs) (sym at) in
    subst (λ (z : List ℕ). ItemRow z piece) (ap (λ (z : List ℕ). z ++ bs) bytes ∙ sym (head b c bs e)) (front_read f bs piece is short (ap (λ (x : Scanned). x >>= finish) same ∙ ok))

pub item_sound : (b : ℕ) (bs : List ℕ) (piece : Piece Item) → item_at b bs ≡ Ok piece → ItemRow (b ∷ bs) piece
unfolding item_at kept most_of
item_sound b bs piece =
    let P : Start → Type 0 = Row b bs piece in
    cond_start P (is_verilog_space b) _ _ (λ e. white_row b bs piece e)
    (λ n. cond_start P (is_ascii_alphabetic b || eqb b 95) _ _ (λ e. lexeme_row (OfName (b ∷ [])) b b bs phases.Word piece refl refl refl refl (e, tt) (lit≤ tt))
    (λ n. cond_start P (is_ascii_digit b) _ _ (λ e. lexeme_row (OfNumeral (b ∷ [])) b b bs phases.Whole piece refl refl refl refl (e, tt) (lit≤ tt))
    (λ n. cond_start P (eqb b 92) _ _ (λ e. lexeme_row AtEscape b 92 bs phases.Escape piece refl (eqb-true b 92 e) refl refl tt (lit≤ tt))
    (λ n. cond_start P (eqb b 39) _ _ (λ e. lexeme_row AtQuote b 39 bs phases.Prefix piece refl (eqb-true b 39 e) refl (ap (λ (z : ℕ). z ∷ []) (eqb-true b 39 e)) tt (lit≤ tt))
    (λ n. cond_start P (eqb b 96) _ _ (λ e. lexeme_row AtGrave b 96 bs phases.Grave piece refl (eqb-true b 96 e) refl (ap (λ (z : ℕ). z ∷ []) (eqb-true b 96 e)) tt (lit≤ tt))
    (λ n. cond_start P (eqb b 34) _ _ (λ e. string_row b bs piece (eqb-true b 34 e))
    (λ n. cond_start P (eqb b 40) _ _ (λ e. open_row b bs piece (eqb-true b 40 e))
    (λ n. cond_start P (eqb b 42) _ _ (λ e. star_row b bs piece (eqb-true b 42 e))
    (λ n. cond_start P (eqb b 47) _ _ (λ e. slash_row b bs piece (eqb-true b 47 e))
    (λ n. cond_start P (marks.is_mark b) _ _ (λ e. mark_row b bs piece e)
    (λ n. cond_start P (marks.is_symbol b) _ _ (λ e. sign_row b bs piece e)
    (λ n ok. absurd cc))))))))))))
