-- What stands at the front of some bytes, by the definition of the reader and by the table.
use Rattle.std.proofs.Common.{◌≡◌, ℕ, suc, ◌+◌, ◌<◌, ◌^◌, Bool, true, false, cond, eqb, ltb, ◌||◌, List, [], ◌∷◌, ◌++◌, length, Option, Some, None, Result, Ok, Err, refl, sym, ap, ◌∙◌, subst, arith}
use Rattle.std.specs.Prelude.{ℤ, nat_abs}
use Rattle.std.specs.Char.{is_ascii_digit, is_ascii_alphabetic}
use Rattle.std.proofs.lemmas.Bool.{lt-ltb, ltb-true, ltb-false, eqb-true}
use Rattle.nl_bytes.specs.Classes.{is_space, is_word_byte}
use Rattle.edif_values.specs.declared.token.Token.{Token}
use Rattle.edif_values.specs.declared.token.Token.TheVariants.{LeftParen, RightParen, Word, Number, Str}
use Rattle.edif_tokens.specs.declared.scan.Start.{Start}
use Rattle.nl_bytes.specs.Flaws.{Piece, Flaw, ◌>>=◌}
use Rattle.edif_tokens.specs.Strings.{Within, string_at, is_full}
use Rattle.edif_tokens.specs.Strings as within
use Rattle.edif_tokens.specs.Spelling.{token_at, token_by, begins_word, word_of, number_of, number_or_range, str_of}
use Rattle.edif_tokens.proofs.Words.{identifier_of}
use Rattle.edif_lexemes.specs.Strings.{parts_bytes}
use Rattle.edif_lexemes.specs.Lexemes.{IsWord, IsInteger, IsLexeme, MayFollow, IsWithin, IsNext, one_of, seen_behind}
use Rattle.edif_lexemes.specs.Faults.{IsFault, no_token, ends_early, bad_second, bad_behind, long_run, out_of_range, is_second}
use Rattle.edif_lexemes.proofs.Moves.{Spelled, bounded}
use Rattle.edif_lexemes.proofs.Strings.{StringRow, string_sound, string_outcome}
use Rattle.edif_lexemes.proofs.Runs.{AllPass, TextRow, whole, lone, other, long, cut, text_sound, text_complete}
use Rattle.edif_lexemes.proofs.Shapes.{word_shape, begins_integer, integer_shape, integer_made, word_starts, integer_starts, not_empty, word_stops, integer_stops}
use Rattle.edif_lexemes.proofs.Longest.{next_of}

abbrev pub Answer : Type 0
Answer = Result (Piece Token) Flaw

-- the next token of some bytes, and how many of them it has and shows
pub record IsPieceOf (bytes : List ℕ) (piece : Piece Token) : Type 0 where
  pub lexeme : List ℕ
  pub rest : List ℕ
  pub parts : bytes ≡ lexeme ++ rest
  pub next : IsNext lexeme piece.value rest
  pub count : piece.count ≡ length lexeme
  pub seen : piece.seen ≡ length lexeme + seen_behind piece.value rest

-- what stands at the front of some bytes, or why nothing does
abbrev pub TokenRow : List ℕ → Answer → Type 0
TokenRow bytes (Ok piece) = IsPieceOf bytes piece
TokenRow bytes (Err f) = IsFault bytes f.reason f.before f.seen

-- ---- from the bytes to the table

either_of : (a b c : Bool) → (b || c) ≡ true → (a || b || c) ≡ true
either_of true b c e = refl
either_of false b c e = e

head_by : (a b c : Bool) → a ≡ true → (a || b || c) ≡ true
head_by a b c e = rw e refl

word_sound : (lead : Bool) (b : ℕ) (bs : List ℕ) (x : Spelled) → begins_word lead b ≡ true → TextRow is_word_byte lead b bs x
    → TokenRow (b ∷ bs) (x >>= word_of)
word_sound lead b bs x begins (whole run behind parts each stops some short ends) = record {
  lexeme = b ∷ run;
  rest = behind;
  parts = ap (λ (z : List ℕ). b ∷ z) parts;
  next = next_of (b ∷ run) behind (Word (b ∷ run)) (refl, identifier_of lead b run begins each some) ends short;
  count = refl;
  seen = refl;
}
word_sound lead b bs x begins (lone leads none) =
    let amp : eqb b 38 ≡ true = subst (λ (t : Bool). begins_word t b ≡ true) leads begins in
    ends_early b (ap (λ (z : List ℕ). b ∷ z) none) (head_by (eqb b 38) (eqb b 43) (eqb b 45) amp)
word_sound lead b bs x begins (other c rest leads parts differs) =
    let amp : eqb b 38 ≡ true = subst (λ (t : Bool). begins_word t b ≡ true) leads begins in
    bad_second b c rest (ap (λ (z : List ℕ). b ∷ z) parts) (head_by (eqb b 38) (eqb b 43) (eqb b 45) amp) (rw (amp, differs) refl)
word_sound lead b bs x begins (long run rest parts each count) =
    long_run (b ∷ run) (Word (b ∷ run)) rest (ap (λ (z : List ℕ). b ∷ z) parts) (refl, identifier_of lead b run begins each (λ _. omega (arith, count))) refl (omega (arith, count))
word_sound lead b bs x begins (cut run c rest parts each some short differs follow) =
    bad_behind (b ∷ run) (Word (b ∷ run)) c rest (ap (λ (z : List ℕ). b ∷ z) parts) (refl, identifier_of lead b run begins each some) refl short differs follow

second_digit : (b c : ℕ) → (eqb b 43 || eqb b 45) ≡ true → is_ascii_digit c ≡ false → is_second b c ≡ false
second_digit b c sign differs = by (eqb b 43) refl sign
  where
    at : (d : ℕ) → b ≡ d → is_second d c ≡ false → is_second b c ≡ false
    at d e h = ap (λ (x : ℕ). is_second x c) e ∙ h

    by : (t : Bool) → eqb b 43 ≡ t → (eqb b 43 || eqb b 45) ≡ true → is_second b c ≡ false
    by true e either = at 43 (eqb-true b 43 e) differs
    by false e either = let minus = rw e at either in at 45 (eqb-true b 45 minus) differs

integer_sound : (lead : Bool) (b : ℕ) (bs : List ℕ) (x : Spelled) → begins_integer lead b ≡ true → TextRow is_ascii_digit lead b bs x
    → TokenRow (b ∷ bs) (x >>= number_of)
integer_sound lead b bs x begins (whole run behind parts each stops some short ends) =
    let made = integer_made lead b run begins each some in
    let text : Piece (List ℕ) = record { value = b ∷ run; count = suc (length run); seen = suc (length run) + one_of behind } in
    subst (λ (o : Option ℤ). TokenRow (b ∷ bs) (number_or_range text o)) (sym (integer_shape b run made.0 made.1).value) (by made.0 made.1 (ltb (nat_abs made.0) (2 ^ 63)) refl)
  where
    by : (z : ℤ) → IsInteger (b ∷ run) z → (t : Bool) → ltb (nat_abs z) (2 ^ 63) ≡ t
        → TokenRow (b ∷ bs) (number_or_range (record { value = b ∷ run; count = suc (length run); seen = suc (length run) + one_of behind }) (cond t (Some z) None))
    by z is true e = record {
      lexeme = b ∷ run;
      rest = behind;
      parts = ap (λ (y : List ℕ). b ∷ y) parts;
      next = next_of (b ∷ run) behind (Number z) is ends (short, ltb-true _ _ e);
      count = refl;
      seen = refl;
    }
    by z is false e = out_of_range (b ∷ run) z behind (ap (λ (y : List ℕ). b ∷ y) parts) is short ends (ltb-false _ _ e)
integer_sound lead b bs x begins (lone leads none) =
    let sign : (eqb b 43 || eqb b 45) ≡ true = subst (λ (t : Bool). begins_integer t b ≡ true) leads begins in
    ends_early b (ap (λ (z : List ℕ). b ∷ z) none) (either_of (eqb b 38) (eqb b 43) (eqb b 45) sign)
integer_sound lead b bs x begins (other c rest leads parts differs) =
    let sign : (eqb b 43 || eqb b 45) ≡ true = subst (λ (t : Bool). begins_integer t b ≡ true) leads begins in
    bad_second b c rest (ap (λ (z : List ℕ). b ∷ z) parts) (either_of (eqb b 38) (eqb b 43) (eqb b 45) sign) (second_digit b c sign differs)
integer_sound lead b bs x begins (long run rest parts each count) =
    let made = integer_made lead b run begins each (λ _. omega (arith, count)) in
    long_run (b ∷ run) (Number made.0) rest (ap (λ (z : List ℕ). b ∷ z) parts) made.1 refl (omega (arith, count))
integer_sound lead b bs x begins (cut run c rest parts each some short differs follow) =
    let made = integer_made lead b run begins each some in
    bad_behind (b ∷ run) (Number made.0) c rest (ap (λ (z : List ℕ). b ∷ z) parts) made.1 refl short differs follow

str_sound : (bytes : List ℕ) (x : Spelled) → StringRow bytes x → TokenRow bytes (x >>= str_of)
str_sound bytes (Ok piece) row = record {
  lexeme = row.lexeme;
  rest = row.rest;
  parts = row.parts;
  next = next_of row.lexeme row.rest (Str piece.value) row.spelled tt row.most;
  count = row.count;
  seen = omega (arith, row.seen);
}
str_sound bytes (Err f) row = row

mark_sound : (b c : ℕ) (bs : List ℕ) (t : Token) → b ≡ c → IsLexeme (c ∷ []) t → MayFollow t bs → IsWithin (c ∷ []) t → seen_behind t bs ≡ 0
    → TokenRow (b ∷ bs) (Ok (record { value = t; count = 1; seen = 1 }))
mark_sound b c bs t e is follows within none = record {
  lexeme = c ∷ [];
  rest = bs;
  parts = ap (λ (x : ℕ). x ∷ bs) e;
  next = next_of (c ∷ []) bs t is follows within;
  count = refl;
  seen = omega (arith, none);
}

cond_start : (P : Start → Type 0) (t : Bool) (x y : Start) → (t ≡ true → P x) → (t ≡ false → P y) → P (cond t x y)
cond_start P true x y p q = p refl
cond_start P false x y p q = q refl

none_begins : (a b c d e f g h : Bool) → a ≡ false → b ≡ false → c ≡ false → d ≡ false → e ≡ false → f ≡ false → (g || h) ≡ false
    → (a || b || c || d || e || f || g || h) ≡ false
none_begins a b c d e f g h pa pb pc pd pe pf pg = rw (pa, pb, pc, pd, pe, pf) pg

pub token_sound : (b : ℕ) (bs : List ℕ) → is_space b ≡ false → TokenRow (b ∷ bs) (token_at b bs)
unfolding token_at
token_sound b bs space =
    let P : Start → Type 0 = λ s. TokenRow (b ∷ bs) (token_by s (b ∷ bs)) in
    cond_start P (eqb b 40) _ _ (λ e. mark_sound b 40 bs LeftParen (eqb-true b 40 e) refl tt tt refl)
    (λ n0. cond_start P (eqb b 41) _ _ (λ e. mark_sound b 41 bs RightParen (eqb-true b 41 e) refl tt tt refl)
    (λ n1. cond_start P (eqb b 34) _ _ (λ e. str_sound (b ∷ bs) (string_at within.Parts [] 1 bs) (subst (λ (x : ℕ). StringRow (x ∷ bs) (string_at within.Parts [] 1 bs)) (sym (eqb-true b 34 e)) (string_sound bs)))
    (λ n2. cond_start P (is_ascii_alphabetic b) _ _ (λ e. word_sound false b bs _ e (text_sound is_word_byte false b bs))
    (λ n3. cond_start P (eqb b 38) _ _ (λ e. word_sound true b bs _ e (text_sound is_word_byte true b bs))
    (λ n4. cond_start P (is_ascii_digit b) _ _ (λ e. integer_sound false b bs _ e (text_sound is_ascii_digit false b bs))
    (λ n5. cond_start P (eqb b 43 || eqb b 45) _ _ (λ e. integer_sound true b bs _ e (text_sound is_ascii_digit true b bs))
    (λ n6. no_token b bs refl space (none_begins _ _ _ _ _ _ _ _ n0 n1 n2 n3 n4 n5 n6))))))))

-- ---- from the table to the bytes

abbrev pub answer : Token → ℕ → ℕ → Answer
answer t count seen = Ok (record { value = t; count = count; seen = seen })

answer_by : (t u : Token) (m n k l : ℕ) → t ≡ u → m ≡ n → k ≡ l → answer t m k ≡ answer u n l
answer_by t u m n k l e f g = cc

-- what is read at a byte that is no white space
abbrev pub ReadsSo : ℕ → List ℕ → Answer → Type 0
ReadsSo b bs x = (is_space b ≡ false) × (token_at b bs ≡ x)

pub reads_at : (b c : ℕ) (bs cs : List ℕ) (x : Answer) → b ∷ bs ≡ c ∷ cs → ReadsSo c cs x → ReadsSo b bs x
reads_at b c bs cs x e r =
    let first : b ≡ c = cc in
    let others : bs ≡ cs = cc in
    (ap is_space first ∙ r.0, ap (λ (z : ℕ). token_at z bs) first ∙ ap (λ (z : List ℕ). token_at c z) others ∙ r.1)

reads_open : (bs : List ℕ) → ReadsSo 40 bs (answer LeftParen 1 1)
unfolding token_at
reads_open bs = (refl, refl)

reads_close : (bs : List ℕ) → ReadsSo 41 bs (answer RightParen 1 1)
unfolding token_at
reads_close bs = (refl, refl)

pub reads_quote : (bs : List ℕ) → ReadsSo 34 bs (string_at within.Parts [] 1 bs >>= str_of)
unfolding token_at
reads_quote bs = (refl, refl)

-- a word and what is read behind its first byte
pub word_reads : (b : ℕ) (run bs : List ℕ) (x : Spelled) → IsWord (b ∷ run)
    → ((lead : Bool) → (lead ≡ true → 0 < length run) → AllPass is_word_byte run → TextRow is_word_byte lead b bs x) → ReadsSo b bs (x >>= word_of)
word_reads b run bs x is row =
    let s = word_shape b run is in
    let starts = word_starts s.lead b bs s.begins in
    (starts.0, starts.1 ∙ ap (λ (y : Spelled). y >>= word_of) (text_complete is_word_byte s.lead b bs x (row s.lead s.some s.each)))

pub integer_reads : (b : ℕ) (run bs : List ℕ) (z : ℤ) (x : Spelled) → IsInteger (b ∷ run) z
    → ((lead : Bool) → (lead ≡ true → 0 < length run) → AllPass is_ascii_digit run → TextRow is_ascii_digit lead b bs x)
    → ReadsSo b bs (x >>= number_of)
integer_reads b run bs z x is row =
    let s = integer_shape b run z is in
    let starts = integer_starts s.lead b bs s.begins in
    (starts.0, starts.1 ∙ ap (λ (y : Spelled). y >>= number_of) (text_complete is_ascii_digit s.lead b bs x (row s.lead s.some s.each)))

-- the value of an integer
pub number_is : (b : ℕ) (run : List ℕ) (z : ℤ) (count seen : ℕ) → IsInteger (b ∷ run) z → (t : Bool) → ltb (nat_abs z) (2 ^ 63) ≡ t
    → number_of (record { value = b ∷ run; count = count; seen = seen }) ≡ number_or_range (record { value = b ∷ run; count = count; seen = seen }) (cond t (Some z) None)
number_is b run z count seen is t e =
    ap (number_or_range (record { value = b ∷ run; count = count; seen = seen })) ((integer_shape b run z is).value ∙ ap (λ (u : Bool). cond u (Some z) None) e)

-- a token that stands at the front of some bytes is read
pub token_complete : (b : ℕ) (bs lexeme rest : List ℕ) (t : Token) → b ∷ bs ≡ lexeme ++ rest → IsLexeme lexeme t → MayFollow t rest
    → IsWithin lexeme t → ReadsSo b bs (answer t (length lexeme) (length lexeme + seen_behind t rest))
token_complete b bs lexeme rest LeftParen e is follows within =
    let one : 1 ≡ length lexeme = sym (ap (length {A = ℕ}) is) in
    let r = reads_at b 40 bs rest _ (e ∙ ap (λ (z : List ℕ). z ++ rest) is) (reads_open rest) in
    (r.0, r.1 ∙ answer_by LeftParen LeftParen 1 (length lexeme) 1 (length lexeme + 0) refl one (omega (arith, one)))
token_complete b bs lexeme rest RightParen e is follows within =
    let one : 1 ≡ length lexeme = sym (ap (length {A = ℕ}) is) in
    let r = reads_at b 41 bs rest _ (e ∙ ap (λ (z : List ℕ). z ++ rest) is) (reads_close rest) in
    (r.0, r.1 ∙ answer_by RightParen RightParen 1 (length lexeme) 1 (length lexeme + 0) refl one (omega (arith, one)))
token_complete b bs [] rest (Word w) e is follows within = absurd (not_empty (Word w) is)
token_complete b bs (c ∷ run) rest (Word w) e is follows within =
    let r = word_reads c run (run ++ rest) _ is.1 (λ lead some each. whole run rest refl each (word_stops rest follows) some within follows) in
    let q = reads_at b c bs (run ++ rest) _ e r in
    (q.0, q.1 ∙ answer_by (Word (c ∷ run)) (Word w) (suc (length run)) (suc (length run)) (suc (length run) + one_of rest) (suc (length run) + one_of rest) (ap (λ (z : List ℕ). Word z) (sym is.0)) refl refl)
token_complete b bs [] rest (Number z) e is follows within = absurd (not_empty (Number z) is)
token_complete b bs (c ∷ run) rest (Number z) e is follows within =
    let r = integer_reads c run (run ++ rest) z _ is (λ lead some each. whole run rest refl each (integer_stops rest follows) some within.0 follows) in
    let q = reads_at b c bs (run ++ rest) _ e r in
    (q.0, q.1 ∙ number_is c run z (suc (length run)) (suc (length run) + one_of rest) is true (lt-ltb (nat_abs z) (2 ^ 63) within.1))
token_complete b bs lexeme rest (Str s) e is follows within =
    let bytes : lexeme ++ rest ≡ 34 ∷ ((parts_bytes is.parts ++ 34 ∷ []) ++ rest) = ap (λ (z : List ℕ). z ++ rest) is.spelled in
    let tail : List ℕ = (parts_bytes is.parts ++ 34 ∷ []) ++ rest in
    let r = reads_at b 34 bs tail _ (e ∙ bytes) (reads_quote tail) in
    let read = bounded _ _ s (string_outcome lexeme s rest tail is bytes) within in
    (r.0, r.1 ∙ ap (λ (y : Spelled). y >>= str_of) read ∙ answer_by (Str s) (Str s) (length lexeme) (length lexeme) (length lexeme) (length lexeme + 0) refl refl (omega arith))
