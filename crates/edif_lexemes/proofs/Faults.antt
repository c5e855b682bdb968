-- A lexical fault of the table is the one that is told.
use Rattle.std.proofs.Common.{◌≡◌, ℕ, suc, ◌+◌, ◌-◌, ◌*◌, ◌<◌, ◌≤◌, ◌^◌, Bool, true, false, eqb, ◌||◌, ◌&&◌, List, [], ◌∷◌, ◌++◌, length, refl, sym, ap, ◌∙◌, subst, arith, append-nil, length-append}
use Rattle.std.specs.Prelude.{ℤ, nat_abs}
use Rattle.std.specs.Char.{is_ascii_digit}
use Rattle.std.proofs.lemmas.Bool.{lt-ltb, le-ltb, le-leb, lt-leb, eqb-true}
use Rattle.std.proofs.lemmas.Bool.Decides.{nat_tests}
use Rattle.nl_base.specs.declared.fault.Reason.{Reason}
use Rattle.nl_base.specs.declared.fault.Reason.TheVariants.{EndOfInput, BadByte, BadEscape, TokenTooLong, NumberRange}
use Rattle.nl_bytes.specs.Classes.{is_space, is_word_byte, is_string_byte}
use Rattle.edif_values.specs.declared.token.Token.{Token}
use Rattle.edif_values.specs.declared.token.Token.TheVariants.{LeftParen, RightParen, Word, Number, Str}
use Rattle.edif_tokens.specs.declared.scan.Start.TheVariants.{Other}
use Rattle.nl_bytes.specs.Flaws.{Piece, flaw, ◌>>=◌}
use Rattle.edif_tokens.specs.Strings.{Within, string_at, is_full}
use Rattle.edif_tokens.specs.Strings as within
use Rattle.edif_tokens.specs.Spelling.{token_at, start_of, word_of, number_of, str_of}
use Rattle.edif_lexemes.specs.Strings.{MOST, code_value, parts_bytes, parts_value, codes_value, Front, Between, Escaping, Coding, IsFront, front_bytes, front_value, is_some}
use Rattle.edif_lexemes.specs.Lexemes.{IsInteger, IsLexeme, EndsRun, one_of, is_run, goes_on}
use Rattle.edif_lexemes.specs.Faults.{IsFault, no_token, ends_early, bad_second, bad_behind, long_run, out_of_range, unended, bad_in_string, bad_in_escape, bad_behind_code, large_code, long_string, long_by_code, is_head, is_second, begins_token, may_escape, EndsCode}
use Rattle.edif_lexemes.proofs.Moves.{Spelled, standing, settled}
use Rattle.edif_lexemes.proofs.Strings.{front_then}
use Rattle.edif_lexemes.proofs.Runs.{AllPass, TextRow, whole, lone, other, long, cut, text_complete}
use Rattle.edif_lexemes.proofs.Shapes.{word_starts, integer_starts, not_empty, integer_stops}
use Rattle.edif_lexemes.proofs.Tokens.{ReadsSo, reads_at, reads_quote, word_reads, integer_reads, number_is}

same_flaw : {A : Type 0} (reason : Reason) (a b c d : ℕ) → a ≡ c → b ≡ d → flaw {A = A} reason a b ≡ flaw {A = A} reason c d
same_flaw {A} reason a b c d e f = ap (λ (x : ℕ). flaw {A = A} reason x b) e ∙ ap (λ (x : ℕ). flaw {A = A} reason c x) f

-- ---- strings

-- what is read of a string behind a front
front_reads : (b : ℕ) (bs : List ℕ) (front : Front) (more : List ℕ) (x : Spelled) → b ∷ bs ≡ 34 ∷ (front_bytes front ++ more) → IsFront front
    → length (settled front) ≤ MOST → string_at (standing front 1) (settled front) (1 + length (front_bytes front)) more ≡ x
    → ReadsSo b bs (x >>= str_of)
front_reads b bs front more x e is most then =
    reads_at b 34 bs (front_bytes front ++ more) (x >>= str_of) e
    (let r = reads_quote (front_bytes front ++ more) in (r.0, r.1 ∙ ap (λ (y : Spelled). y >>= str_of) (front_then front more is most ∙ then)))

not_full : (v : List ℕ) (c : ℕ) → length (v ++ c ∷ []) ≤ MOST → is_full v ≡ false
not_full v c le = lt-leb 1048576 (length v) (omega (arith, le, length-append v (c ∷ [])))

less : (v : List ℕ) (c : ℕ) → length (v ++ c ∷ []) ≤ MOST → length v ≤ MOST
less v c le = omega (arith, le, length-append v (c ∷ []))

ends_in : (front : Front) → length (front_value front) ≤ MOST
    → (length (settled front) ≤ MOST) × (string_at (standing front 1) (settled front) (1 + length (front_bytes front)) [] ≡ flaw EndOfInput (1 + length (front_bytes front)) (1 + length (front_bytes front)))
unfolding string_at
ends_in (Between ps) le = (le, refl)
ends_in (Escaping ps cs white) le = (le, refl)
ends_in (Coding ps cs c) le = (less (parts_value ps ++ codes_value cs) (code_value c) le, rw (not_full (parts_value ps ++ codes_value cs) (code_value c) le) refl)

or_parts : (x y z : Bool) → (x || y || z) ≡ false → (x ≡ false) × (y ≡ false) × (z ≡ false)
or_parts false y z e = let two = or_two y z e in (refl, two.0, two.1)
  where
    or_two : (y z : Bool) → (y || z) ≡ false → (y ≡ false) × (z ≡ false)
    or_two false z e = (refl, e)
    or_two true z e = absurd cc
or_parts true y z e = absurd cc

bad_part : (v : List ℕ) (n b : ℕ) (rest : List ℕ) → (is_string_byte b || eqb b 34 || eqb b 37) ≡ false
    → string_at within.Parts v n (b ∷ rest) ≡ flaw BadByte n (n + 1)
unfolding string_at
bad_part v n b rest bad = let p = or_parts (is_string_byte b) (eqb b 34) (eqb b 37) bad in rw (p.0, p.1, p.2) refl

bad_escape : (s n b : ℕ) (coded : Bool) (v rest : List ℕ) → may_escape coded b ≡ false
    → string_at (within.Escape s coded) v n (b ∷ rest) ≡ flaw BadEscape s (n + 1)
unfolding string_at
bad_escape s n b coded v rest bad = let p = or_parts (is_space b) (is_ascii_digit b) (coded && eqb b 37) bad in rw (p.0, p.1, p.2) refl

bad_code_end : (s k n b : ℕ) (v rest : List ℕ) → may_escape true b ≡ false → is_full v ≡ false
    → string_at (within.Code s k) v n (b ∷ rest) ≡ flaw BadEscape s (n + 1)
unfolding string_at
bad_code_end s k n b v rest bad room = let p = or_parts (is_space b) (is_ascii_digit b) (eqb b 37) bad in rw (p.1, room, p.0, p.2) refl

above : (s k n b : ℕ) (v rest : List ℕ) → is_ascii_digit b ≡ true → 255 < 10 * k + (b - 48)
    → string_at (within.Code s k) v n (b ∷ rest) ≡ flaw BadEscape s (n + 1)
unfolding string_at
above s k n b v rest digit large = rw (digit, lt-ltb 255 (10 * k + (b - 48)) large) refl

stands : (b : ℕ) → is_string_byte b ≡ true → (eqb b 34 ≡ false) × (eqb b 37 ≡ false)
stands b h = (grind (arith, nat_tests), grind (arith, nat_tests))

one_too_many : (v : List ℕ) (n b : ℕ) (rest : List ℕ) → is_string_byte b ≡ true → length v ≡ MOST
    → string_at within.Parts v n (b ∷ rest) ≡ flaw TokenTooLong 0 (n + 1)
unfolding string_at
one_too_many v n b rest byte full = let s = stands b byte in rw (byte, s.0, s.1, le-leb 1048576 (length v) (omega (arith, full))) refl

code_too_many : (s k n : ℕ) (v rest : List ℕ) → length v ≡ MOST → EndsCode rest → string_at (within.Code s k) v n rest ≡ flaw TokenTooLong 0 n
unfolding string_at
code_too_many s k n v [] full ends = rw (le-leb 1048576 (length v) (omega (arith, full))) refl
code_too_many s k n v (b ∷ bs) full ends = rw (ends, le-leb 1048576 (length v) (omega (arith, full))) refl

-- ---- other bytes

starts_none : (b : ℕ) → begins_token b ≡ false → start_of b ≡ Other
starts_none b h = grind (arith, nat_tests)

reads_none : (b : ℕ) (bs : List ℕ) → is_space b ≡ false → begins_token b ≡ false → ReadsSo b bs (flaw BadByte 0 1)
unfolding token_at
reads_none b bs space none = (space, rw (starts_none b none) refl)

-- what is read behind an `&` or a sign
head_reads : (b : ℕ) (bs : List ℕ) (reason : Reason) (before seen : ℕ) → is_head b ≡ true
    → ((class : ℕ → Bool) → class ≡ is_second b → TextRow class true b bs (flaw reason before seen)) → ReadsSo b bs (flaw reason before seen)
head_reads b bs reason before seen head row = by (eqb b 38) refl head
  where
    digits : (c : ℕ) → b ≡ c → is_ascii_digit ≡ is_second c → (eqb c 43 || eqb c 45) ≡ true → ReadsSo b bs (flaw reason before seen)
    digits c e same sign =
        let starts = integer_starts true b bs (ap (λ (x : ℕ). eqb x 43 || eqb x 45) e ∙ sign) in
        (starts.0, starts.1 ∙ ap (λ (y : Spelled). y >>= number_of) (text_complete is_ascii_digit true b bs (flaw reason before seen) (row is_ascii_digit (same ∙ ap is_second (sym e)))))

    signs : (t : Bool) → eqb b 43 ≡ t → (eqb b 43 || eqb b 45) ≡ true → ReadsSo b bs (flaw reason before seen)
    signs true e either = digits 43 (eqb-true b 43 e) refl refl
    signs false e either = let minus = rw e at either in digits 45 (eqb-true b 45 minus) refl refl

    by : (t : Bool) → eqb b 38 ≡ t → (eqb b 38 || eqb b 43 || eqb b 45) ≡ true → ReadsSo b bs (flaw reason before seen)
    by true e either =
        let amp : b ≡ 38 = eqb-true b 38 e in
        let starts = word_starts true b bs e in
        (starts.0, starts.1 ∙ ap (λ (y : Spelled). y >>= word_of) (text_complete is_word_byte true b bs (flaw reason before seen) (row is_word_byte (ap is_second (sym amp)))))
    by false e either = let sign = rw e at either in signs (eqb b 43) refl sign

tails : (b c : ℕ) (xs ys : List ℕ) → b ∷ xs ≡ c ∷ ys → (b ≡ c) × (xs ≡ ys)
tails b c xs ys e = (cc, cc)

-- a word or an integer that is too long, or that another byte follows than may
run_reads : (b : ℕ) (bs lexeme more : List ℕ) (token : Token) (reason : Reason) (before seen : ℕ) → b ∷ bs ≡ lexeme ++ more → IsLexeme lexeme token
    → is_run token ≡ true
    → ((lead : Bool) (c : ℕ) (run : List ℕ) (class : ℕ → Bool) → class ≡ goes_on token → lexeme ≡ c ∷ run → (lead ≡ true → 0 < length run) → AllPass class run → TextRow class lead c (run ++ more) (flaw reason before seen))
    → ReadsSo b bs (flaw reason before seen)
run_reads b bs lexeme more LeftParen reason before seen e is run row = absurd cc
run_reads b bs lexeme more RightParen reason before seen e is run row = absurd cc
run_reads b bs lexeme more (Str s) reason before seen e is run row = absurd cc
run_reads b bs [] more (Word w) reason before seen e is run row = absurd (not_empty (Word w) is)
run_reads b bs (c ∷ cs) more (Word w) reason before seen e is run row =
    reads_at b c bs (cs ++ more) (flaw reason before seen) e (word_reads c cs (cs ++ more) (flaw reason before seen) is.1 (λ lead some each. row lead c cs is_word_byte refl refl some each))
run_reads b bs [] more (Number z) reason before seen e is run row = absurd (not_empty (Number z) is)
run_reads b bs (c ∷ cs) more (Number z) reason before seen e is run row =
    reads_at b c bs (cs ++ more) (flaw reason before seen) e (integer_reads c cs (cs ++ more) z (flaw reason before seen) is (λ lead some each. row lead c cs is_ascii_digit refl refl some each))

range_reads : (b : ℕ) (bs lexeme rest : List ℕ) (z : ℤ) → b ∷ bs ≡ lexeme ++ rest → IsInteger lexeme z → length lexeme ≤ 1024 → EndsRun rest
    → 2 ^ 63 ≤ nat_abs z → ReadsSo b bs (flaw NumberRange 0 (length lexeme + one_of rest))
range_reads b bs [] rest z e is short ends large = absurd (not_empty (Number z) is)
range_reads b bs (c ∷ run) rest z e is short ends large =
    let r = integer_reads c run (run ++ rest) z _ is (λ lead some each. whole run rest refl each (integer_stops rest ends) some short ends) in
    let q = reads_at b c bs (run ++ rest) _ e r in
    (q.0, q.1 ∙ number_is c run z (suc (length run)) (suc (length run) + one_of rest) is false (le-ltb (nat_abs z) (2 ^ 63) large))

-- ---- the table

pub fault_complete : (b : ℕ) (bs : List ℕ) (reason : Reason) (before seen : ℕ) → IsFault (b ∷ bs) reason before seen
    → ReadsSo b bs (flaw reason before seen)
fault_complete b bs reason before_place seen (no_token c rest e space none) = reads_at b c bs rest _ e (reads_none c rest space none)
fault_complete b bs reason before_place seen (ends_early c e head) =
    reads_at b c bs [] _ e (head_reads c [] EndOfInput 1 1 head (λ class same. lone refl refl))
fault_complete b bs reason before_place seen (bad_second c d rest e head differs) =
    reads_at b c bs (d ∷ rest) _ e (head_reads c (d ∷ rest) BadByte 1 2 head (λ class same. other d rest refl refl (ap (λ (k : ℕ → Bool). k d) same ∙ differs)))
fault_complete b bs reason before_place seen (bad_behind lexeme token c rest e is run short differs follow) =
    run_reads b bs lexeme (c ∷ rest) token BadByte (length lexeme) (length lexeme + 1) e is run (λ lead d ds class same parts some each.
    let count : suc (length ds) ≡ length lexeme = sym (ap (length {A = ℕ}) parts) in
    subst (λ (k : ℕ). TextRow class lead d (ds ++ c ∷ rest) (flaw BadByte k (k + 1))) count
    (cut ds c rest refl each some (omega (arith, count, short)) (ap (λ (k : ℕ → Bool). k c) same ∙ differs) follow))
fault_complete b bs reason before_place seen (long_run lexeme token rest e is run count) =
    run_reads b bs lexeme rest token TokenTooLong 0 1025 e is run (λ lead d ds class same parts some each.
    let one : suc (length ds) ≡ length lexeme = sym (ap (length {A = ℕ}) parts) in long ds rest refl each (omega (arith, one, count)))
fault_complete b bs reason before_place seen (out_of_range lexeme z rest e is short ends large) = range_reads b bs lexeme rest z e is short ends large
fault_complete b bs reason before_place seen (unended front e is most) =
    let ends = ends_in front most in
    let count : 1 + length (front_bytes front) ≡ length (b ∷ bs) = omega (arith, ap (length {A = ℕ}) e) in
    let r = front_reads b bs front [] _ (e ∙ ap (λ (z : List ℕ). 34 ∷ z) (sym (append-nil (front_bytes front)))) is ends.0 ends.1 in
    (r.0, r.1 ∙ same_flaw {A = Piece Token} EndOfInput _ _ _ _ count count)
fault_complete b bs reason before_place seen (bad_in_string ps c rest e is most bad) =
    front_reads b bs (Between ps) (c ∷ rest) _ e is most (bad_part (parts_value ps) (1 + length (parts_bytes ps)) c rest bad)
fault_complete b bs reason before_place seen (bad_in_escape ps cs white c rest e is most bad) =
    front_reads b bs (Escaping ps cs white) (c ∷ rest) _ e is most (bad_escape (1 + length (parts_bytes ps)) (1 + length (front_bytes (Escaping ps cs white))) c (is_some cs) (parts_value ps ++ codes_value cs) rest bad)
fault_complete b bs reason before_place seen (bad_behind_code ps cs k c rest e is most bad) =
    let v : List ℕ = parts_value ps ++ codes_value cs in
    front_reads b bs (Coding ps cs k) (c ∷ rest) _ e is (less v (code_value k) most)
    (bad_code_end (1 + length (parts_bytes ps)) (code_value k) (1 + length (front_bytes (Coding ps cs k))) c v rest bad (not_full v (code_value k) most))
fault_complete b bs reason before_place seen (large_code ps cs k c rest e is most digit large) =
    front_reads b bs (Coding ps cs k) (c ∷ rest) _ e is most (above (1 + length (parts_bytes ps)) (code_value k) (1 + length (front_bytes (Coding ps cs k))) c (parts_value ps ++ codes_value cs) rest digit large)
fault_complete b bs reason before_place seen (long_string ps c rest e is full byte) =
    front_reads b bs (Between ps) (c ∷ rest) _ e is (omega (arith, full)) (one_too_many (parts_value ps) (1 + length (parts_bytes ps)) c rest byte full)
fault_complete b bs reason before_place seen (long_by_code ps cs k rest e is full ends) =
    front_reads b bs (Coding ps cs k) rest _ e is (omega (arith, full)) (code_too_many (1 + length (parts_bytes ps)) (code_value k) (1 + length (front_bytes (Coding ps cs k))) (parts_value ps ++ codes_value cs) rest full ends)

-- nothing has no fault but the end
pub fault_not_empty : (reason : Reason) (before seen : ℕ) → IsFault [] reason before seen → ⊥
fault_not_empty reason before_place seen (no_token c rest e space none) = cc
fault_not_empty reason before_place seen (ends_early c e head) = cc
fault_not_empty reason before_place seen (bad_second c d rest e head differs) = cc
fault_not_empty reason before_place seen (bad_behind [] token c rest e is run short differs follow) = cc
fault_not_empty reason before_place seen (bad_behind (d ∷ ds) token c rest e is run short differs follow) = cc
fault_not_empty reason before_place seen (long_run [] token rest e is run count) = not_empty token is
fault_not_empty reason before_place seen (long_run (d ∷ ds) token rest e is run count) = cc
fault_not_empty reason before_place seen (out_of_range [] z rest e is short ends large) = not_empty (Number z) is
fault_not_empty reason before_place seen (out_of_range (d ∷ ds) z rest e is short ends large) = cc
fault_not_empty reason before_place seen (unended front e is most) = cc
fault_not_empty reason before_place seen (bad_in_string ps c rest e is most bad) = cc
fault_not_empty reason before_place seen (bad_in_escape ps cs white c rest e is most bad) = cc
fault_not_empty reason before_place seen (bad_behind_code ps cs k c rest e is most bad) = cc
fault_not_empty reason before_place seen (large_code ps cs k c rest e is most digit large) = cc
fault_not_empty reason before_place seen (long_string ps c rest e is full byte) = cc
fault_not_empty reason before_place seen (long_by_code ps cs k rest e is full ends) = cc
