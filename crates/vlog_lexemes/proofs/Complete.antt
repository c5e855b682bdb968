-- A token of the table that stands at the front of some bytes is read, and so is white space; what is read reaches over each token that
-- stands there.
use Rattle.std.proofs.Common.{◌≡◌, ℕ, suc, ◌+◌, ◌≤◌, Bool, true, false, cond, eqb, not, ◌&&◌, ◌||◌, List, [], ◌∷◌, ◌++◌, length, drop, Option, Some, None, Result, Ok, Err, refl, sym, ap, ◌∙◌, subst, inl, inr, arith, length-append, append_assoc, lit≤}
use Rattle.std.specs.Prelude.{◌⊎◌, pos}
use Rattle.std.specs.List.{prefix_len, list_all}
use Rattle.std.proofs.lemmas.List.{drop_at}
use Rattle.std.proofs.lemmas.Bool.Decides.{nat_tests}
use Rattle.nl_bytes.specs.Classes.{is_verilog_space, is_word_byte, is_line_byte}
use Rattle.vlog_tokens.specs.declared.item.Item.{Item}
use Rattle.vlog_tokens.specs.declared.item.Item.TheVariants.{Blank, Line, Token}
use Rattle.vlog_tokens.specs.declared.token.VToken.{VToken}
use Rattle.vlog_tokens.specs.declared.token.VToken.TheVariants as tokens
use Rattle.nl_base.specs.Case.{same_bytes}
use Rattle.vlog_tokens.specs.declared.phase.Phase.{Phase}
use Rattle.vlog_tokens.specs.declared.phase.Phase.TheVariants as phases
use Rattle.vlog_tokens.specs.declared.start.Start.TheVariants.{White, Mark, Sign}
use Rattle.nl_bytes.specs.Flaws.{Piece, Flaw, ◌>>=◌}
use Rattle.vlog_tokens.specs.Items.{item_of, finish, finished, directive_item}
use Rattle.vlog_tokens.specs.Numbers.{decimal_value}
use Rattle.vlog_tokens.specs.Language.{with_line}
use Rattle.vlog_tokens.specs.Parts.{Reaches}
use Rattle.vlog_tokens.specs.Scanning.{scan_at}
use Rattle.vlog_tokens.specs.Spelling.{start_of, item_at, item_by, alone, slash_by, pair_start_by, comment_at, str_of}
use Rattle.vlog_tokens.specs.Spelling as marks
use Rattle.vlog_tokens.specs.Strings.{string_at}
use Rattle.vlog_tokens.specs.Strings as within
use Rattle.vlog_tokens.proofs.Scanning.{scan_seen}
use Rattle.vlog_tokens.proofs.Marks.{comment_seen}
use Rattle.vlog_lexemes.specs.Strings.{parts_bytes}
use Rattle.vlog_lexemes.specs.Lexemes.{AllPass, IsLexeme, IsNext, simple_name, keyword, escaped_name, number, fixed, scaled, literal, string, attributes_begin, attributes_end, parenthesis, punctuation, star, slash, symbol, directive, MayFollow, any, no_star, no_parenthesis, no_comment, no_word_byte, one_of, looks, seen_behind, timescale, celldefine, endcelldefine, IsDirective, EndsLine, IsBlank, white_byte, line_comment, block_comment, time_directive, cell_directive}
use Rattle.vlog_lexemes.proofs.Scans.{Scanned, end_read}
use Rattle.vlog_lexemes.proofs.Shapes.{ScanOf, name_scan, escaped_scan, directive_scan, number_scan, fixed_scan, scaled_scan, based_scan, item_number, item_fixed, item_scaled, item_name, item_keyword, item_escaped, item_directive}
use Rattle.vlog_lexemes.proofs.Strings as strings
use Rattle.vlog_lexemes.proofs.Blanks.{comment_complete, bytes_same}

abbrev pub Answer : Type 0
Answer = Result (Piece Item) Flaw

abbrev pub answer : Item → ℕ → ℕ → Answer
answer item count seen = Ok (record { value = item; count = count; seen = seen })

answer_by : (item : Item) (m n k l : ℕ) → m ≡ n → k ≡ l → answer item m k ≡ answer item n l
answer_by item m n k l e f = cc

abbrev pub AtLeast : Answer → ℕ → Type 0
AtLeast x n = (piece : Piece Item) → x ≡ Ok piece → n ≤ piece.count

abbrev count_in : Answer → ℕ
count_in (Ok x) = x.count
count_in (Err f) = 0

-- A lexeme is read where a byte that may follow, or the end, stands behind it; and whatever stands behind it, no fewer bytes are taken.
pub record IsRead (lexeme : List ℕ) (t : VToken) (follows : ℕ → Bool) : Type 0 where
  pub first : ℕ
  pub tail : List ℕ
  pub is_bytes : lexeme ≡ first ∷ tail
  pub reads : (rest : List ℕ) → MayFollow follows rest
      → item_at first (tail ++ rest) ≡ answer (Token t) (length lexeme) (length lexeme + seen_behind t rest)
  pub reach : (behind : List ℕ) → AtLeast (item_at first (tail ++ behind)) (length lexeme)

-- ---- names, numbers, literals and directives

scan_item : {lexeme : List ℕ} {follows : ℕ → Bool} → (s : ScanOf lexeme follows) → (rest : List ℕ)
    → item_at s.first (s.tail ++ rest) ≡ (scan_at s.at s.text (1 + length s.tail) rest >>= finish)
unfolding item_at
scan_item {lexeme} {follows} s rest = let start = s.start in let leads = s.scans.leads s.short rest in rw start (ap (λ (x : Scanned). x >>= finish) leads)

finished_reach : (n : ℕ) (x : Scanned) (piece : Piece Item) → Reaches 0 n x → (x >>= finish) ≡ Ok piece → n ≤ piece.count
finished_reach n (Ok y) piece r e = by (item_of y.value.phase y.value.text) e
  where
    by : (o : Option Item) → finished y o ≡ Ok piece → n ≤ piece.count
    by None e = absurd cc
    by (Some item) e = omega (arith, r.0, ap count_in e)
finished_reach n (Err f) piece r e = absurd cc

scan_reach : {lexeme : List ℕ} {follows : ℕ → Bool} → (s : ScanOf lexeme follows) → (behind : List ℕ)
    → AtLeast (item_at s.first (s.tail ++ behind)) (length lexeme)
scan_reach {lexeme} {follows} s behind piece e =
    let n : length lexeme ≡ 1 + length s.tail = ap (length {A = ℕ}) s.is_bytes ∙ omega arith in
    let le = finished_reach (1 + length s.tail) (scan_at s.at s.text (1 + length s.tail) behind) piece (scan_seen s.at s.text (1 + length s.tail) behind) (sym (scan_item s behind) ∙ e) in
    omega (arith, n, le)

-- what is read of a whole one
pub scan_reads : {lexeme : List ℕ} {follows : ℕ → Bool} → (s : ScanOf lexeme follows) → (rest : List ℕ) (item : Item) → MayFollow follows rest
    → item_of s.at s.text ≡ Some item → item_at s.first (s.tail ++ rest) ≡ answer item (length lexeme) (length lexeme + one_of rest)
scan_reads {lexeme} {follows} s rest item behind is =
    let n : 1 + length s.tail ≡ length lexeme = omega arith ∙ sym (ap (length {A = ℕ}) s.is_bytes) in
    let k : ℕ = 1 + length s.tail in
    scan_item s rest ∙ ap (λ (x : Scanned). x >>= finish) (end_read s.at follows s.text k rest s.ends behind)
    ∙ ap (finished (record { value = record { phase = s.at; text = s.text }; count = k; seen = k + one_of rest })) is
    ∙ answer_by item k (length lexeme) (k + one_of rest) (length lexeme + one_of rest) n (ap (λ (j : ℕ). j + one_of rest) n)

by_scan : (lexeme : List ℕ) (t : VToken) (follows : ℕ → Bool) → (s : ScanOf lexeme follows) → item_of s.at s.text ≡ Some (Token t) → looks t ≡ true
    → IsRead lexeme t follows
by_scan lexeme t follows s is look = record {
  first = s.first;
  tail = s.tail;
  is_bytes = s.is_bytes;
  reads = λ rest behind. rw look (scan_reads s rest (Token t) behind is);
  reach = scan_reach s;
}

-- ---- marks

mark_starts : (b : ℕ) → marks.is_mark b ≡ true → start_of b ≡ Mark
mark_starts b e = grind (arith, nat_tests)

symbol_starts : (b : ℕ) → marks.is_symbol b ≡ true → start_of b ≡ Sign
symbol_starts b e = grind (arith, nat_tests)

item_mark : (b : ℕ) (bs : List ℕ) → marks.is_mark b ≡ true → item_at b bs ≡ answer (Token (tokens.Punct b)) 1 1
unfolding item_at
item_mark b bs e = let start = mark_starts b e in rw start refl

item_symbol : (b : ℕ) (bs : List ℕ) → marks.is_symbol b ≡ true → item_at b bs ≡ answer (Token (tokens.Symbol b)) 1 1
unfolding item_at
item_symbol b bs e = let start = symbol_starts b e in rw start refl

-- a token of so many bytes that is read whatever stands behind it
alone_read : (lexeme : List ℕ) (t : VToken) (b : ℕ) (tail : List ℕ) → lexeme ≡ b ∷ tail → looks t ≡ false
    → ((rest : List ℕ) → item_at b (tail ++ rest) ≡ answer (Token t) (suc (length tail)) (suc (length tail))) → IsRead lexeme t any
alone_read lexeme t b tail e look all =
    let n : suc (length tail) ≡ length lexeme = sym (ap (length {A = ℕ}) e) in
    record {
      first = b;
      tail = tail;
      is_bytes = e;
      reads = λ rest behind. rw look (all rest ∙ answer_by (Token t) (suc (length tail)) (length lexeme) (suc (length tail)) (length lexeme + 0) n (omega (arith, n)));
      reach = λ behind piece is. let count = ap count_in (sym (all behind) ∙ is) in omega (arith, n, count);
    }

mark_looks : (b : ℕ) → marks.is_mark b ≡ true → eqb b 40 ≡ false
mark_looks b e = grind (arith, nat_tests)

symbol_looks : (b : ℕ) → marks.is_symbol b ≡ true → (eqb b 42 || eqb b 47) ≡ false
symbol_looks b e = grind (arith, nat_tests)

not_true : (t : Bool) → not t ≡ true → t ≡ false
not_true false e = refl
not_true true e = absurd cc

one_long : (lexeme : List ℕ) (b : ℕ) → lexeme ≡ b ∷ [] → length lexeme ≡ 1
one_long lexeme b e = ap (length {A = ℕ}) e

parenthesis_reads : (rest : List ℕ) → MayFollow no_star rest → item_at 40 rest ≡ answer (Token (tokens.Punct 40)) 1 (1 + one_of rest)
unfolding item_at
parenthesis_reads [] behind = refl
parenthesis_reads (c ∷ cs) behind = let no = not_true (eqb c 42) behind in rw no refl

star_reads : (rest : List ℕ) → MayFollow no_parenthesis rest → item_at 42 rest ≡ answer (Token (tokens.Symbol 42)) 1 (1 + one_of rest)
unfolding item_at
star_reads [] behind = refl
star_reads (c ∷ cs) behind = let no = not_true (eqb c 41) behind in rw no refl

neither : (x y : Bool) → not (x || y) ≡ true → (x ≡ false) × (y ≡ false)
neither false false e = (refl, refl)
neither false true e = absurd cc
neither true y e = absurd cc

slash_reads : (rest : List ℕ) → MayFollow no_comment rest → item_at 47 rest ≡ answer (Token (tokens.Symbol 47)) 1 (1 + one_of rest)
unfolding item_at
slash_reads [] behind = refl
slash_reads (c ∷ cs) behind = let no = neither (eqb c 47) (eqb c 42) behind in rw (no.0, no.1) refl

cond_least : (t : Bool) (x y : Answer) (n : ℕ) → AtLeast x n → AtLeast y n → AtLeast (cond t x y) n
cond_least true x y n p q = p
cond_least false x y n p q = q

one_least : (item : Item) (m k : ℕ) → 1 ≤ m → AtLeast (answer item m k) 1
one_least item m k le piece e = let count = ap count_in e in omega (arith, le, count)

parenthesis_reach : (bs : List ℕ) → AtLeast (item_at 40 bs) 1
unfolding item_at
parenthesis_reach [] = one_least (Token (tokens.Punct 40)) 1 1 (omega arith)
parenthesis_reach (c ∷ cs) = cond_least (eqb c 42) _ _ 1 (one_least (Token tokens.AttrStart) 2 2 (omega arith)) (one_least (Token (tokens.Punct 40)) 1 2 (omega arith))

star_reach : (bs : List ℕ) → AtLeast (item_at 42 bs) 1
unfolding item_at
star_reach [] = one_least (Token (tokens.Symbol 42)) 1 1 (omega arith)
star_reach (c ∷ cs) = cond_least (eqb c 41) _ _ 1 (one_least (Token tokens.AttrStop) 2 2 (omega arith)) (one_least (Token (tokens.Symbol 42)) 1 2 (omega arith))

comment_least : (x : Answer) → Reaches 0 2 x → AtLeast x 1
comment_least (Ok y) r piece e = let count = ap count_in e in omega (arith, r.0, count)
comment_least (Err f) r piece e = absurd cc

slash_reach : (bs : List ℕ) → AtLeast (item_at 47 bs) 1
unfolding item_at
slash_reach [] = one_least (Token (tokens.Symbol 47)) 1 1 (omega arith)
slash_reach (c ∷ cs) = cond_least (eqb c 47) _ _ 1 (one_least Line 2 2 (omega arith))
    (cond_least (eqb c 42) _ _ 1 (comment_least (comment_at false 2 cs) (comment_seen false 2 cs)) (one_least (Token (tokens.Symbol 47)) 1 2 (omega arith)))

-- a token of one byte, behind which a byte has to be seen
one_read : (lexeme : List ℕ) (t : VToken) (follows : ℕ → Bool) (b : ℕ) → lexeme ≡ b ∷ [] → looks t ≡ true
    → ((rest : List ℕ) → MayFollow follows rest → item_at b rest ≡ answer (Token t) 1 (1 + one_of rest)) → ((bs : List ℕ) → AtLeast (item_at b bs) 1)
    → IsRead lexeme t follows
one_read lexeme t follows b e look reads reach =
    let n = one_long lexeme b e in
    record {
      first = b;
      tail = [];
      is_bytes = e;
      reads = λ rest behind. rw look (reads rest behind ∙ answer_by (Token t) 1 (length lexeme) (1 + one_of rest) (length lexeme + one_of rest) (sym n) (ap (λ (j : ℕ). j + one_of rest) (sym n)));
      reach = λ behind piece is. let le = reach behind piece is in omega (arith, n, le);
    }

begin_reads : (rest : List ℕ) → item_at 40 (42 ∷ rest) ≡ answer (Token tokens.AttrStart) 2 2
unfolding item_at
begin_reads rest = refl

end_reads : (rest : List ℕ) → item_at 42 (41 ∷ rest) ≡ answer (Token tokens.AttrStop) 2 2
unfolding item_at
end_reads rest = refl

quote_reads : (bs : List ℕ) → item_at 34 bs ≡ (string_at within.Parts [] 1 bs >>= str_of)
unfolding item_at
quote_reads bs = refl

-- ---- the table

by_text : (lexeme : List ℕ) (t : VToken) (follows : ℕ → Bool) (at : Phase) (text : List ℕ) → (s : ScanOf lexeme follows) → s.at ≡ at → s.text ≡ text
    → item_of at text ≡ Some (Token t) → looks t ≡ true → IsRead lexeme t follows
by_text lexeme t follows at text s e f is look = by_scan lexeme t follows s (ap (λ (x : Phase). item_of x s.text) e ∙ ap (item_of at) f ∙ is) look

other_directive : (bytes : List ℕ) → (bytes ≡ timescale → ⊥) → (bytes ≡ celldefine → ⊥) → (bytes ≡ endcelldefine → ⊥)
    → directive_item bytes ≡ Token (tokens.Directive bytes)
other_directive bytes a b c = by (same_bytes bytes timescale) refl (same_bytes bytes celldefine) refl (same_bytes bytes endcelldefine) refl
  where
    by : (x : Bool) → same_bytes bytes timescale ≡ x → (y : Bool) → same_bytes bytes celldefine ≡ y → (z : Bool) → same_bytes bytes endcelldefine ≡ z
        → directive_item bytes ≡ Token (tokens.Directive bytes)
    by true e y f z g = absurd (a (bytes_same bytes timescale e))
    by false e true f z g = absurd (b (bytes_same bytes celldefine f))
    by false e false f true g = absurd (c (bytes_same bytes endcelldefine g))
    by false e false f false g = rw (e, f, g) refl

pub lexeme_read : (lexeme : List ℕ) (t : VToken) (follows : ℕ → Bool) → IsLexeme lexeme t follows → IsRead lexeme t follows
lexeme_read lexeme t follows (simple_name is name short) = let s = name_scan lexeme is short in by_text lexeme (tokens.Name lexeme) follows phases.Word lexeme s.0 s.1 s.2 (item_name lexeme name) refl
lexeme_read lexeme t follows (keyword is word short) = let s = name_scan lexeme is short in by_text lexeme (tokens.Keyword lexeme) follows phases.Word lexeme s.0 s.1 s.2 (item_keyword lexeme word) refl
lexeme_read lexeme t follows (escaped_name name e is short) = let s = escaped_scan name lexeme e is short in by_text lexeme (tokens.Name name) follows phases.Escaped name s.0 s.1 s.2 (item_escaped name) refl
lexeme_read lexeme t follows (number is short small) =
    let s = number_scan lexeme is short in by_text lexeme (tokens.Number (pos (decimal_value lexeme))) follows phases.Whole lexeme s.0 s.1 s.2 (item_number lexeme small) refl
lexeme_read lexeme t follows (fixed r is short value) = let s = fixed_scan lexeme is short in by_text lexeme (tokens.Real r) follows phases.Fraction lexeme s.0 s.1 s.2 (item_fixed lexeme r value) refl
lexeme_read lexeme t follows (scaled r is short value) = let s = scaled_scan lexeme is short in by_text lexeme (tokens.Real r) follows phases.Exponent lexeme s.0 s.1 s.2 (item_scaled lexeme r value) refl
lexeme_read lexeme t follows (literal based is) = let s = based_scan lexeme based is in by_scan lexeme (tokens.Based based) follows s.0 s.1 refl
lexeme_read lexeme t follows (string s is most) =
    alone_read lexeme (tokens.Str s) 34 (parts_bytes is.parts ++ 34 ∷ []) is.spelled refl (λ rest.
    let behind : List ℕ = (parts_bytes is.parts ++ 34 ∷ []) ++ rest in
    let n : length lexeme ≡ suc (length (parts_bytes is.parts ++ 34 ∷ [])) = ap (length {A = ℕ}) is.spelled in
    quote_reads behind ∙ ap (λ (x : strings.Spelled). x >>= str_of) (strings.string_complete lexeme s rest behind is most (ap (λ (z : List ℕ). z ++ rest) is.spelled))
    ∙ answer_by (Token (tokens.Str s)) (length lexeme) _ (length lexeme) _ n n)
lexeme_read lexeme t follows (attributes_begin e) = alone_read lexeme tokens.AttrStart 40 (42 ∷ []) e refl begin_reads
lexeme_read lexeme t follows (attributes_end e) = alone_read lexeme tokens.AttrStop 42 (41 ∷ []) e refl end_reads
lexeme_read lexeme t follows (parenthesis e) = one_read lexeme (tokens.Punct 40) follows 40 e refl parenthesis_reads parenthesis_reach
lexeme_read lexeme t follows (punctuation b e is) = alone_read lexeme (tokens.Punct b) b [] e (mark_looks b is) (λ rest. item_mark b rest is)
lexeme_read lexeme t follows (star e) = one_read lexeme (tokens.Symbol 42) follows 42 e refl star_reads star_reach
lexeme_read lexeme t follows (slash e) = one_read lexeme (tokens.Symbol 47) follows 47 e refl slash_reads slash_reach
lexeme_read lexeme t follows (symbol b e is) = alone_read lexeme (tokens.Symbol b) b [] e (symbol_looks b is) (λ rest. item_symbol b rest is)
lexeme_read lexeme t follows (directive word e is short a b c) =
    let s = directive_scan word lexeme e is short in by_text lexeme (tokens.Directive lexeme) follows phases.Directive lexeme s.0 s.1 s.2 (item_directive lexeme ∙ ap (λ (x : Item). Some x) (other_directive lexeme a b c)) refl

-- the longest lexeme that stands somewhere
pub next_of : (lexeme rest : List ℕ) (t : VToken) (follows : ℕ → Bool) → IsLexeme lexeme t follows → MayFollow follows rest → IsNext lexeme t rest
next_of lexeme rest t follows is behind = record { follows = follows; spelled = is; longest = longest; behind = behind }
  where
    one : IsRead lexeme t follows
    one = lexeme_read lexeme t follows is

    longest : (other more : List ℕ) (u : VToken) (others : ℕ → Bool) → lexeme ++ rest ≡ other ++ more → IsLexeme other u others
        → length other ≤ length lexeme
    longest other more u others e also =
        let two = lexeme_read other u others also in
        let whole : one.first ∷ (one.tail ++ rest) ≡ two.first ∷ (two.tail ++ more) = ap (λ (z : List ℕ). z ++ rest) (sym one.is_bytes) ∙ e ∙ ap (λ (z : List ℕ). z ++ more) two.is_bytes in
        let heads = heads_of one.first two.first (one.tail ++ rest) (two.tail ++ more) whole in
        let read : item_at two.first (two.tail ++ more) ≡ answer (Token t) (length lexeme) (length lexeme + seen_behind t rest) =
        ap (λ (z : ℕ). item_at z (two.tail ++ more)) (sym heads.0) ∙ ap (item_at one.first) (sym heads.1) ∙ one.reads rest behind in
        two.reach more (record { value = Token t; count = length lexeme; seen = length lexeme + seen_behind t rest }) read
      where
        heads_of : (a b : ℕ) (xs ys : List ℕ) → a ∷ xs ≡ b ∷ ys → (a ≡ b) × (xs ≡ ys)
        heads_of a b xs ys e = (cc, cc)

-- ---- white space

-- so many bytes of a text are passed
abbrev pub Passes : Piece Item → List ℕ → ℕ → Type 0
Passes piece bytes n = ((piece.value ≡ Blank) × (piece.count ≡ n)) ⊎ ((piece.value ≡ Line) × (with_line piece.count bytes ≡ n))

-- white space is passed
pub record IsPassed (piece rest : List ℕ) : Type 0 where
  pub first : ℕ
  pub tail : List ℕ
  pub is_bytes : piece ≡ first ∷ tail
  pub item : Piece Item
  pub reads : item_at first (tail ++ rest) ≡ Ok item
  pub passes : Passes item (first ∷ (tail ++ rest)) (length piece)

white_reads : (b : ℕ) (bs : List ℕ) → is_verilog_space b ≡ true → item_at b bs ≡ answer Blank 1 1
unfolding item_at
white_reads b bs e = let start : start_of b ≡ White = rw e refl in rw start refl

line_reads : (bs : List ℕ) → item_at 47 (47 ∷ bs) ≡ answer Line 2 2
unfolding item_at
line_reads bs = refl

block_reads : (bs : List ℕ) → item_at 47 (42 ∷ bs) ≡ comment_at false 2 bs
unfolding item_at
block_reads bs = refl

line_length : (line rest : List ℕ) → AllPass is_line_byte line → EndsLine rest → prefix_len is_line_byte (line ++ rest) ≡ length line
line_length [] [] all ends = refl
line_length [] (b ∷ bs) all ends = let stop : is_line_byte b ≡ false = ap is_line_byte ends in rw stop refl
line_length (b ∷ bs) rest all ends = rw all.0 (omega (arith, line_length bs rest all.1 ends))

with_rest : (word line rest : List ℕ) → AllPass is_line_byte line → EndsLine rest
    → with_line (length word) (word ++ (line ++ rest)) ≡ length (word ++ line)
with_rest word line rest all ends =
    omega (arith, ap (prefix_len is_line_byte) (drop_at word (line ++ rest) (length word) refl), line_length line rest all ends, length-append word line)

and_true : (a b : Bool) → (a && b) ≡ true → (a ≡ true) × (b ≡ true)
and_true true b h = (refl, h)
and_true false b h = absurd cc

all_pass : (class : ℕ → Bool) (bs : List ℕ) → list_all class bs ≡ true → AllPass class bs
all_pass class [] h = tt
all_pass class (b ∷ bs) h = let p = and_true (class b) (list_all class bs) h in (p.0, all_pass class bs p.1)

-- a directive that is white space
blank_directive : (bytes word : List ℕ) (item : Item) → bytes ≡ 96 ∷ word → IsDirective word → length bytes ≤ 1024 → directive_item bytes ≡ item
    → (rest : List ℕ) → MayFollow no_word_byte rest → item_at 96 (word ++ rest) ≡ answer item (length bytes) (length bytes + one_of rest)
blank_directive bytes word item e is short value rest behind =
    let s = directive_scan word bytes e is short in
    let read = scan_reads s.0 rest item behind (ap (λ (x : Phase). item_of x s.0.text) s.1 ∙ ap (item_of phases.Directive) s.2 ∙ item_directive bytes ∙ ap (λ (x : Item). Some x) value) in
    let heads = heads_of s.0.first 96 s.0.tail word (sym s.0.is_bytes ∙ e) in
    ap (λ (z : ℕ). item_at z (word ++ rest)) (sym heads.0) ∙ ap (λ (z : List ℕ). item_at s.0.first (z ++ rest)) (sym heads.1) ∙ read
  where
    heads_of : (a b : ℕ) (xs ys : List ℕ) → a ∷ xs ≡ b ∷ ys → (a ≡ b) × (xs ≡ ys)
    heads_of a b xs ys e = (cc, cc)

cell_passed : (bytes word rest : List ℕ) → bytes ≡ 96 ∷ word → IsDirective word → length bytes ≤ 1024 → directive_item bytes ≡ Blank
    → MayFollow no_word_byte rest → IsPassed bytes rest
cell_passed bytes word rest e is short value behind = record {
  first = 96;
  tail = word;
  is_bytes = e;
  item = record { value = Blank; count = length bytes; seen = length bytes + one_of rest };
  reads = blank_directive bytes word Blank e is short value rest behind;
  passes = inl (refl, refl);
}

moved_passed : (bytes other rest : List ℕ) → other ≡ bytes → IsPassed bytes rest → IsPassed other rest
moved_passed bytes other rest e p = subst (λ (z : List ℕ). IsPassed z rest) (sym e) p

pub blank_passed : (bytes rest : List ℕ) → IsBlank bytes rest → IsPassed bytes rest
blank_passed bytes rest (white_byte b e is) = record {
  first = b;
  tail = [];
  is_bytes = e;
  item = record { value = Blank; count = 1; seen = 1 };
  reads = white_reads b rest is;
  passes = inl (refl, sym (one_long bytes b e));
}
blank_passed bytes rest (line_comment line e all ends) = moved_passed (47 ∷ 47 ∷ line) bytes rest e (record {
  first = 47;
  tail = 47 ∷ line;
  is_bytes = refl;
  item = record { value = Line; count = 2; seen = 2 };
  reads = line_reads (line ++ rest);
  passes = inr (refl, with_rest (47 ∷ 47 ∷ []) line rest all ends);
})
blank_passed bytes rest (block_comment body e none) =
    let tail : List ℕ = 42 ∷ (body ++ 42 ∷ 47 ∷ []) in
    moved_passed (47 ∷ tail) bytes rest e (record {
      first = 47;
      tail = tail;
      is_bytes = refl;
      item = record { value = Blank; count = 2 + length body + 2; seen = 2 + length body + 2 };
      reads = block_reads ((body ++ 42 ∷ 47 ∷ []) ++ rest) ∙ ap (comment_at false 2) (append_assoc body (42 ∷ 47 ∷ []) rest)
          ∙ comment_complete body false 2 rest (λ is. absurd cc) none;
      passes = inl (refl, omega (arith, length-append body (42 ∷ 47 ∷ [])));
    })
blank_passed bytes rest (time_directive line e all behind ends) =
    let word : List ℕ = drop 1 timescale in
    let is : IsDirective word = (refl, all_pass is_word_byte (drop 1 word) refl) in
    moved_passed (timescale ++ line) bytes rest e (record {
      first = 96;
      tail = word ++ line;
      is_bytes = refl;
      item = record { value = Line; count = length timescale; seen = length timescale + one_of (line ++ rest) };
      reads = ap (item_at 96) (append_assoc word line rest) ∙ blank_directive timescale word Line refl is (lit≤ tt) refl (line ++ rest) behind;
      passes = inr (refl, ap (with_line (length timescale)) (append_assoc timescale line rest) ∙ with_rest timescale line rest all ends);
    })
blank_passed bytes rest (cell_directive (inl e) behind) =
    let word : List ℕ = drop 1 celldefine in
    moved_passed celldefine bytes rest e (cell_passed celldefine word rest refl (refl, all_pass is_word_byte (drop 1 word) refl) (lit≤ tt) refl behind)
blank_passed bytes rest (cell_directive (inr e) behind) =
    let word : List ℕ = drop 1 endcelldefine in
    moved_passed endcelldefine bytes rest e (cell_passed endcelldefine word rest refl (refl, all_pass is_word_byte (drop 1 word) refl) (lit≤ tt) refl behind)
