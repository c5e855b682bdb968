-- Strings: what their reader takes is what the table says, both ways.
use Rattle.std.proofs.Common.{◌≡◌, ℕ, suc, ◌+◌, ◌-◌, ◌*◌, ◌<◌, ◌≤◌, Bool, true, false, cond, eqb, ltb, ◌&&◌, ◌||◌, List, [], ◌∷◌, ◌++◌, length, Result, Ok, Err, IsTrue, refl, sym, ap, ◌∙◌, subst, arith, length-append, append_assoc, append-nil}
use Rattle.std.specs.Prelude.{fold}
use Rattle.std.specs.List.{AllByRecursion}
use Rattle.std.proofs.lemmas.Bool.{lt-leb, le-ltb, lt-ltb, leb-false, ltb-true, ltb-false, eqb-true}
use Rattle.std.proofs.lemmas.Bool.Decides.{nat_tests}
use Rattle.nl_base.specs.declared.fault.Reason.TheVariants.{TokenTooLong}
use Rattle.nl_bytes.specs.Classes.{is_verilog_string_byte}
use Rattle.vlog_tokens.specs.declared.string.Escaped.{Escaped}
use Rattle.vlog_tokens.specs.declared.string.Escaped.TheVariants.{Stands, NoEscape, NoByte}
use Rattle.vlog_tokens.specs.declared.string.Escaped.TheVariants as escapes
use Rattle.nl_bytes.specs.Flaws.{Piece, Flaw, flaw}
use Rattle.vlog_tokens.specs.Strings.{Within, string_at, is_full, is_octal, escaped_by, part_by, escape_by, with_code}
use Rattle.vlog_tokens.specs.Strings as within
use Rattle.vlog_lexemes.specs.Strings.{MOST, Part, Plain, Coded, StandsFor, line_feed, tab, backslash, quote, octal_value, NoOctal, IsCode, IsPart, part_bytes, part_value, parts_bytes, parts_value, AreParts, IsString}
use Rattle.vlog_lexemes.specs.Strings as parts

abbrev pub Spelled : Type 0
Spelled = Result (Piece (List ℕ)) Flaw

pub not_full : (v : List ℕ) (b : ℕ) → length (v ++ b ∷ []) ≤ MOST → is_full v ≡ false
not_full v b le = lt-leb 1048576 (length v) (omega (arith, le, length-append v (b ∷ [])))

-- ---- from the table to the bytes

pub stands : (b : ℕ) → is_verilog_string_byte b ≡ true → (eqb b 34 ≡ false) × (eqb b 92 ≡ false)
stands b e = (grind (arith, nat_tests), grind (arith, nat_tests))

pub plain_read : (b n : ℕ) (v rest : List ℕ) → is_verilog_string_byte b ≡ true → length (v ++ b ∷ []) ≤ MOST
    → string_at within.Parts v n (b ∷ rest) ≡ string_at within.Parts (v ++ b ∷ []) (n + 1) rest
unfolding string_at
plain_read b n v rest e most = let s = stands b e in rw (e, s.0, s.1, not_full v b most) refl

pub escaped_read : (b c n : ℕ) (v rest : List ℕ) → StandsFor b c → length (v ++ c ∷ []) ≤ MOST
    → string_at within.Parts v n (92 ∷ b ∷ rest) ≡ string_at within.Parts (v ++ c ∷ []) (n + 1 + 1) rest
unfolding string_at
escaped_read b c n v rest line_feed most = rw (not_full v 10 most) refl
escaped_read b c n v rest tab most = rw (not_full v 9 most) refl
escaped_read b c n v rest backslash most = rw (not_full v 92 most) refl
escaped_read b c n v rest quote most = rw (not_full v 34 most) refl

-- the value to which octal digits take a number
abbrev pub value_from : ℕ → List ℕ → ℕ
value_from k digits = fold (λ n d. 8 * n + (d - 48)) k digits

pub value_grows : (k : ℕ) (digits : List ℕ) → k ≤ value_from k digits
value_grows k [] = omega arith
value_grows k (d ∷ ds) = omega (arith, value_grows (8 * k + (d - 48)) ds)

pub octal_is : (d : ℕ) → is_octal d ≡ true → escaped_by d ≡ escapes.Octal (d - 48)
octal_is d e =
    let a : eqb d 110 ≡ false = grind (arith, nat_tests) in
    let b : eqb d 116 ≡ false = grind (arith, nat_tests) in
    let c : eqb d 92 ≡ false = grind (arith, nat_tests) in
    let q : eqb d 34 ≡ false = grind (arith, nat_tests) in
    rw (a, b, c, q, e) refl

pub begin_code : (d n : ℕ) (v rest : List ℕ) → is_octal d ≡ true
    → string_at within.Parts v n (92 ∷ d ∷ rest) ≡ string_at (within.Code (d - 48) 2) v (n + 1 + 1) rest
unfolding string_at
begin_code d n v rest e = rw (octal_is d e) refl

pub digit_read : (d k more n : ℕ) (v rest : List ℕ) → 0 < more → is_octal d ≡ true → 8 * k + (d - 48) ≤ 255
    → string_at (within.Code k more) v n (d ∷ rest) ≡ string_at (within.Code (8 * k + (d - 48)) (more - 1)) v (n + 1) rest
unfolding string_at
digit_read d k more n v rest some e le = rw (lt-ltb 0 more some, e, le-ltb 255 (8 * k + (d - 48)) le) refl

pub end_code : (b k more n : ℕ) (v rest : List ℕ) → (0 < more → is_octal b ≡ false) → length (v ++ k ∷ []) ≤ MOST
    → string_at (within.Code k more) v n (b ∷ rest) ≡ string_at within.Parts (v ++ k ∷ []) n (b ∷ rest)
unfolding string_at
end_code b k more n v rest none most = by (ltb 0 more) refl
  where
    by : (t : Bool) → ltb 0 more ≡ t → string_at (within.Code k more) v n (b ∷ rest) ≡ string_at within.Parts (v ++ k ∷ []) n (b ∷ rest)
    by true e = let no_digit = none (ltb-true _ _ e) in rw (no_digit, e, not_full v k most) refl
    by false e = rw (e, not_full v k most) refl

code_read : (digits : List ℕ) (k more n : ℕ) (v rest : List ℕ) → AllByRecursion (λ b. IsTrue (is_octal b)) digits → length digits ≤ more
    → (length digits < more → NoOctal rest) → 0 < length rest → value_from k digits ≤ 255 → length (v ++ value_from k digits ∷ []) ≤ MOST
    → string_at (within.Code k more) v n (digits ++ rest) ≡ string_at within.Parts (v ++ value_from k digits ∷ []) (n + length digits) rest
code_read [] k more n v [] each few all some byte most = absurd (omega (arith, some))
code_read [] k more n v (b ∷ bs) each few all some byte most =
    end_code b k more n v bs all most ∙ ap (λ (j : ℕ). string_at within.Parts (v ++ k ∷ []) j (b ∷ bs)) (omega arith)
code_read (d ∷ ds) k more n v rest each few all some byte most =
    let next : ℕ = 8 * k + (d - 48) in
    digit_read d k more n v (ds ++ rest) (omega (arith, few)) each.0 (omega (arith, byte, value_grows next ds))
    ∙ code_read ds next (more - 1) (n + 1) v rest each.1 (omega (arith, few)) (λ lt. all (omega (arith, lt))) some byte most
    ∙ ap (λ (j : ℕ). string_at within.Parts (v ++ value_from next ds ∷ []) j rest) (omega arith)

coded_read : (digits : List ℕ) (n : ℕ) (v rest : List ℕ) → IsCode digits rest → 0 < length rest → length (v ++ octal_value digits ∷ []) ≤ MOST
    → string_at within.Parts v n (92 ∷ (digits ++ rest)) ≡ string_at within.Parts (v ++ octal_value digits ∷ []) (n + suc (length digits)) rest
coded_read [] n v rest is some most = absurd (omega (arith, is.some))
coded_read (d ∷ ds) n v rest is some most =
    let same : value_from (d - 48) ds ≡ octal_value (d ∷ ds) = ap (λ (k : ℕ). value_from k ds) (omega arith) in
    begin_code d n v (ds ++ rest) is.each.0
    ∙ code_read ds (d - 48) 2 (n + 1 + 1) v rest is.each.1 (omega (arith, is.most)) (λ lt. is.all (omega (arith, lt))) some (omega (arith, same, is.byte)) (subst (λ (k : ℕ). length (v ++ k ∷ []) ≤ MOST) (sym same) most)
    ∙ ap (λ (k : ℕ). string_at within.Parts (v ++ k ∷ []) (n + 1 + 1 + length ds) rest) same
    ∙ ap (λ (j : ℕ). string_at within.Parts (v ++ octal_value (d ∷ ds) ∷ []) j rest) (omega arith)

pub part_read : (p : Part) (n : ℕ) (v rest : List ℕ) → IsPart p rest → 0 < length rest → length (v ++ part_value p) ≤ MOST
    → string_at within.Parts v n (part_bytes p ++ rest) ≡ string_at within.Parts (v ++ part_value p) (n + length (part_bytes p)) rest
part_read (Plain b) n v rest is some most = plain_read b n v rest is most
part_read (parts.Escaped b c) n v rest is some most =
    escaped_read b c n v rest is most ∙ ap (λ (j : ℕ). string_at within.Parts (v ++ c ∷ []) j rest) (omega arith)
part_read (Coded digits) n v rest is some most = coded_read digits n v rest is some most

pub parts_read : (ps : List Part) (n : ℕ) (v rest : List ℕ) → AreParts ps rest → 0 < length rest → length (v ++ parts_value ps) ≤ MOST
    → string_at within.Parts v n (parts_bytes ps ++ rest) ≡ string_at within.Parts (v ++ parts_value ps) (n + length (parts_bytes ps)) rest
parts_read [] n v rest all some most =
    ap (λ (z : List ℕ). string_at within.Parts z n rest) (sym (append-nil v)) ∙ ap (λ (j : ℕ). string_at within.Parts (v ++ []) j rest) (omega arith)
parts_read (p ∷ ps) n v rest all some most =
    let behind : List ℕ = parts_bytes ps ++ rest in
    let values : (v ++ part_value p) ++ parts_value ps ≡ v ++ (part_value p ++ parts_value ps) = append_assoc v (part_value p) (parts_value ps) in
    let small : length ((v ++ part_value p) ++ parts_value ps) ≤ MOST = subst (λ (z : List ℕ). length z ≤ MOST) (sym values) most in
    ap (string_at within.Parts v n) (append_assoc (part_bytes p) (parts_bytes ps) rest)
    ∙ part_read p n v behind all.0 (omega (arith, some, length-append (parts_bytes ps) rest)) (omega (arith, small, length-append (v ++ part_value p) (parts_value ps)))
    ∙ parts_read ps (n + length (part_bytes p)) (v ++ part_value p) rest all.1 some small
    ∙ ap (λ (z : List ℕ). string_at within.Parts z (n + length (part_bytes p) + length (parts_bytes ps)) rest) values
    ∙ ap (λ (j : ℕ). string_at within.Parts (v ++ (part_value p ++ parts_value ps)) j rest) (omega (arith, length-append (part_bytes p) (parts_bytes ps)))

pub no_octal_moves : (z x y : List ℕ) → NoOctal (z ++ 34 ∷ x) → NoOctal (z ++ 34 ∷ y)
no_octal_moves [] x y h = refl
no_octal_moves (b ∷ bs) x y h = h

-- what stands behind a string's end changes nothing in it
part_moves : (p : Part) (z x y : List ℕ) → IsPart p (z ++ 34 ∷ x) → IsPart p (z ++ 34 ∷ y)
part_moves (Plain b) z x y is = is
part_moves (parts.Escaped b c) z x y is = is
part_moves (Coded digits) z x y is = record { some = is.some; most = is.most; each = is.each; all = λ lt. no_octal_moves z x y (is.all lt); byte = is.byte }

parts_move : (ps : List Part) (x y : List ℕ) → AreParts ps (34 ∷ x) → AreParts ps (34 ∷ y)
parts_move [] x y all = tt
parts_move (p ∷ ps) x y all = (part_moves p (parts_bytes ps) x y all.0, parts_move ps x y all.1)

abbrev pub piece_of : List ℕ → ℕ → Spelled
piece_of value n = Ok (record { value = value; count = n; seen = n })

quote_ends : (n : ℕ) (v rest : List ℕ) → string_at within.Parts v n (34 ∷ rest) ≡ piece_of v (n + 1)
unfolding string_at
quote_ends n v rest = refl

same_piece : (v w : List ℕ) (m n : ℕ) → v ≡ w → m ≡ n → piece_of v m ≡ piece_of w n
same_piece v w m n e f = cc

tail_is : (xs ys : List ℕ) → 34 ∷ xs ≡ 34 ∷ ys → xs ≡ ys
tail_is xs ys e = cc

-- a string at the front is read
pub string_complete : (lexeme s rest bs : List ℕ) → IsString lexeme s → length s ≤ MOST → lexeme ++ rest ≡ 34 ∷ bs
    → string_at within.Parts [] 1 bs ≡ piece_of s (length lexeme)
string_complete lexeme s rest bs is most e =
    let x : List ℕ = parts_bytes is.parts in
    let behind : x ++ 34 ∷ rest ≡ bs = sym (append_assoc x (34 ∷ []) rest) ∙ tail_is ((x ++ 34 ∷ []) ++ rest) bs (ap (λ (z : List ℕ). z ++ rest) (sym is.spelled) ∙ e) in
    ap (string_at within.Parts [] 1) (sym behind) ∙ parts_read is.parts 1 [] (34 ∷ rest) (parts_move is.parts [] rest is.each) (omega arith) (subst (λ (z : List ℕ). length z ≤ MOST) is.means most)
    ∙ quote_ends (1 + length x) (parts_value is.parts) rest
    ∙ same_piece _ _ _ _ (sym is.means) (omega (arith, ap (length {A = ℕ}) is.spelled, length-append x (34 ∷ [])))

-- ---- from the bytes to the table

-- parts and the quote behind them, which spell the rest of a string
record InString (v : List ℕ) (n : ℕ) (bs : List ℕ) (piece : Piece (List ℕ)) : Type 0 where
  pub parts : List Part
  pub rest : List ℕ
  pub is_bytes : bs ≡ parts_bytes parts ++ 34 ∷ rest
  pub each : AreParts parts (34 ∷ rest)
  pub means : piece.value ≡ v ++ parts_value parts
  pub count : piece.count ≡ n + length (parts_bytes parts) + 1
  pub seen : piece.seen ≡ piece.count
  pub most : length piece.value ≤ MOST

-- further digits of a code, and what is behind them
record InCode (k more : ℕ) (v : List ℕ) (n : ℕ) (bs : List ℕ) (piece : Piece (List ℕ)) : Type 0 where
  pub digits : List ℕ
  pub behind : List ℕ
  pub is_bytes : bs ≡ digits ++ behind
  pub each : AllByRecursion (λ b. IsTrue (is_octal b)) digits
  pub few : length digits ≤ more
  pub all : length digits < more → NoOctal behind
  pub byte : value_from k digits ≤ 255
  pub others : InString (v ++ value_from k digits ∷ []) (n + length digits) behind piece

abbrev Goal : Within → List ℕ → ℕ → List ℕ → Piece (List ℕ) → Type 0
Goal within.Parts v n bs piece = InString v n bs piece
Goal within.Escape v n bs piece = (m : ℕ) → n ≡ m + 1 → InString v m (92 ∷ bs) piece
Goal (within.Code k more) v n bs piece = k ≤ 255 → InCode k more v n bs piece

split_cond : {P : Type 0} (t : Bool) (x y : Spelled) (piece : Piece (List ℕ)) → cond t x y ≡ Ok piece → (t ≡ true → x ≡ Ok piece → P)
    → (t ≡ false → y ≡ Ok piece → P) → P
split_cond {P} true x y piece e p q = p refl e
split_cond {P} false x y piece e p q = q refl e

abbrev Hypothesis : List ℕ → Type 0
Hypothesis bs = (m : Within) (v : List ℕ) (n : ℕ) (piece : Piece (List ℕ)) → length v ≤ MOST → string_at m v n bs ≡ Ok piece → Goal m v n bs piece

pub room : (v : List ℕ) (b : ℕ) → is_full v ≡ false → length (v ++ b ∷ []) ≤ MOST
room v b e = let lt = leb-false _ _ e in omega (arith, lt, length-append v (b ∷ []))

-- one part in front of others
more_parts : (p : Part) (v bs behind : List ℕ) (n m : ℕ) (piece : Piece (List ℕ)) → bs ≡ part_bytes p ++ behind
    → (s : InString (v ++ part_value p) m behind piece) → IsPart p behind → m ≡ n + length (part_bytes p) → InString v n bs piece
more_parts p v bs behind n m piece e s is at = record {
  parts = p ∷ s.parts;
  rest = s.rest;
  is_bytes = e ∙ ap (λ (z : List ℕ). part_bytes p ++ z) s.is_bytes ∙ sym (append_assoc (part_bytes p) (parts_bytes s.parts) (34 ∷ s.rest));
  each = (subst (IsPart p) s.is_bytes is, s.each);
  means = s.means ∙ append_assoc v (part_value p) (parts_value s.parts);
  count = omega (arith, s.count, at, length-append (part_bytes p) (parts_bytes s.parts));
  seen = s.seen;
  most = s.most;
}

part_row : (v : List ℕ) (n b : ℕ) (bs : List ℕ) (piece : Piece (List ℕ)) → length v ≤ MOST → Hypothesis bs
    → part_by v n b (λ next kept. string_at next kept (n + 1) bs) ≡ Ok piece → InString v n (b ∷ bs) piece
part_row v n b bs piece most others e =
    split_cond (eqb b 34) _ _ piece e (λ quote is. at_quote (eqb-true b 34 quote) is)
    (λ no_quote e. split_cond (eqb b 92) _ _ piece e
    (λ slash is. let s = others within.Escape v (n + 1) piece most is n refl in subst (λ (z : ℕ). InString v n (z ∷ bs) piece) (sym (eqb-true b 92 slash)) s)
    (λ no_slash e. split_cond (is_verilog_string_byte b) _ _ piece e
    (λ byte e. split_cond (is_full v) _ _ piece e (λ full is. absurd cc)
    (λ free is. let s = others within.Parts (v ++ b ∷ []) (n + 1) piece (room v b free) is in more_parts (Plain b) v (b ∷ bs) bs n (n + 1) piece refl s byte refl))
    (λ no_byte is. absurd cc)))
  where
    at_quote : b ≡ 34 → piece_of v (n + 1) ≡ Ok piece → InString v n (b ∷ bs) piece
    at_quote is_quote is =
        let value : v ≡ piece.value = ap value_of is in
        let count : n + 1 ≡ piece.count = ap count_of is in
        let seen : n + 1 ≡ piece.seen = ap seen_of is in
        record {
          parts = [];
          rest = bs;
          is_bytes = ap (λ (z : ℕ). z ∷ bs) is_quote;
          each = tt;
          means = sym value ∙ sym (append-nil v);
          count = omega (arith, count);
          seen = omega (arith, count, seen);
          most = subst (λ (z : List ℕ). length z ≤ MOST) value most;
        }
      where
        value_of : Spelled → List ℕ
        value_of (Ok x) = x.value
        value_of (Err f) = []

        count_of : Spelled → ℕ
        count_of (Ok x) = x.count
        count_of (Err f) = 0

        seen_of : Spelled → ℕ
        seen_of (Ok x) = x.seen
        seen_of (Err f) = 0

cond_escaped : (P : Escaped → Type 0) (t : Bool) (x y : Escaped) → (t ≡ true → P x) → (t ≡ false → P y) → P (cond t x y)
cond_escaped P true x y p q = p refl
cond_escaped P false x y p q = q refl

stands_row : (c b : ℕ) (v : List ℕ) (n m : ℕ) (bs : List ℕ) (piece : Piece (List ℕ)) → n ≡ m + 1 → Hypothesis bs → StandsFor b c
    → cond (is_full v) (flaw TokenTooLong 0 (n + 1)) (string_at within.Parts (v ++ c ∷ []) (n + 1) bs) ≡ Ok piece → InString v m (92 ∷ b ∷ bs) piece
stands_row c b v n m bs piece at others is e =
    split_cond (is_full v) _ _ piece e (λ full bad. absurd cc)
    (λ free ok. let s = others within.Parts (v ++ c ∷ []) (n + 1) piece (room v c free) ok in more_parts (parts.Escaped b c) v (92 ∷ b ∷ bs) bs m (n + 1) piece refl s is (omega (arith, at)))

octal_row : (b : ℕ) (v : List ℕ) (n m : ℕ) (bs : List ℕ) (piece : Piece (List ℕ)) → n ≡ m + 1 → length v ≤ MOST → Hypothesis bs → is_octal b ≡ true
    → string_at (within.Code (b - 48) 2) v (n + 1) bs ≡ Ok piece → InString v m (92 ∷ b ∷ bs) piece
octal_row b v n m bs piece at most others octal e =
    let small : b - 48 ≤ 255 = grind (arith, nat_tests) in
    let s = others (within.Code (b - 48) 2) v (n + 1) piece most e small in
    let digits : List ℕ = b ∷ s.digits in
    let same : value_from (b - 48) s.digits ≡ octal_value digits = ap (λ (k : ℕ). value_from k s.digits) (omega arith) in
    let is : IsCode digits s.behind = record { some = omega arith; most = omega (arith, s.few); each = (octal, s.each); all = λ lt. s.all (omega (arith, lt)); byte = omega (arith, same, s.byte) } in
    more_parts (Coded digits) v (92 ∷ b ∷ bs) s.behind m (n + 1 + length s.digits) piece (ap (λ (z : List ℕ). 92 ∷ b ∷ z) s.is_bytes)
    (subst (λ (k : ℕ). InString (v ++ k ∷ []) (n + 1 + length s.digits) s.behind piece) same s.others) is (omega (arith, at))

escape_row : (b : ℕ) (v : List ℕ) (n m : ℕ) (bs : List ℕ) (piece : Piece (List ℕ)) → n ≡ m + 1 → length v ≤ MOST → Hypothesis bs
    → escape_by (escaped_by b) v n (λ next kept. string_at next kept (n + 1) bs) ≡ Ok piece → InString v m (92 ∷ b ∷ bs) piece
escape_row b v n m bs piece at most others =
    let P : Escaped → Type 0 = λ x. escape_by x v n (λ next kept. string_at next kept (n + 1) bs) ≡ Ok piece → InString v m (92 ∷ b ∷ bs) piece in
    cond_escaped P (eqb b 110) _ _ (λ e ok. stands_row 10 b v n m bs piece at others (subst (λ (z : ℕ). StandsFor z 10) (sym (eqb-true b 110 e)) line_feed) ok)
    (λ no. cond_escaped P (eqb b 116) _ _ (λ e ok. stands_row 9 b v n m bs piece at others (subst (λ (z : ℕ). StandsFor z 9) (sym (eqb-true b 116 e)) tab) ok)
    (λ no. cond_escaped P (eqb b 92 || eqb b 34) _ _ (λ e ok. stands_row b b v n m bs piece at others (itself (eqb b 92) refl e) ok)
    (λ no. cond_escaped P (is_octal b) _ _ (λ e ok. octal_row b v n m bs piece at most others e ok)
    (λ no. cond_escaped P (is_verilog_string_byte b) _ _ (λ e ok. absurd cc) (λ e ok. absurd cc)))))
  where
    itself : (t : Bool) → eqb b 92 ≡ t → (eqb b 92 || eqb b 34) ≡ true → StandsFor b b
    itself true e either = subst (λ (z : ℕ). StandsFor z z) (sym (eqb-true b 92 e)) backslash
    itself false e either = let quoted = rw e at either in subst (λ (z : ℕ). StandsFor z z) (sym (eqb-true b 34 quoted)) quote

no_more : (k more : ℕ) (v : List ℕ) (n b : ℕ) (bs : List ℕ) (piece : Piece (List ℕ)) → k ≤ 255 → Hypothesis bs → (0 < more → is_octal b ≡ false)
    → cond (is_full v) (flaw TokenTooLong 0 n) (part_by (v ++ k ∷ []) n b (λ next kept. string_at next kept (n + 1) bs)) ≡ Ok piece
    → InCode k more v n (b ∷ bs) piece
no_more k more v n b bs piece small others none e =
    split_cond (is_full v) _ _ piece e (λ full bad. absurd cc)
    (λ free ok. record {
      digits = [];
      behind = b ∷ bs;
      is_bytes = refl;
      each = tt;
      few = omega arith;
      all = none;
      byte = small;
      others = subst (λ (j : ℕ). InString (v ++ k ∷ []) j (b ∷ bs) piece) (omega arith) (part_row (v ++ k ∷ []) n b bs piece (room v k free) others ok);
    })

one_more : (k more : ℕ) (v : List ℕ) (n b : ℕ) (bs : List ℕ) (piece : Piece (List ℕ)) → 0 < more → is_octal b ≡ true
    → InCode (8 * k + (b - 48)) (more - 1) v (n + 1) bs piece → InCode k more v n (b ∷ bs) piece
one_more k more v n b bs piece some octal s = record {
  digits = b ∷ s.digits;
  behind = s.behind;
  is_bytes = ap (λ (z : List ℕ). b ∷ z) s.is_bytes;
  each = (octal, s.each);
  few = omega (arith, some, s.few);
  all = λ lt. s.all (omega (arith, lt));
  byte = s.byte;
  others = subst (λ (j : ℕ). InString (v ++ value_from (8 * k + (b - 48)) s.digits ∷ []) j s.behind piece) (omega arith) s.others;
}

and_true : (a b : Bool) → (a && b) ≡ true → (a ≡ true) × (b ≡ true)
and_true true b h = (refl, h)
and_true false b h = absurd cc

and_false : (a b : Bool) → (a && b) ≡ false → a ≡ true → b ≡ false
and_false true b h e = h
and_false false b h e = absurd cc

read : (bs : List ℕ) → Hypothesis bs
unfolding string_at
read [] within.Parts v n piece most e = absurd cc
read [] within.Escape v n piece most e = absurd cc
read [] (within.Code k more) v n piece most e = split_cond (is_full v) _ _ piece e (λ full bad. absurd cc) (λ free bad. absurd cc)
read (b ∷ bs) within.Parts v n piece most e = part_row v n b bs piece most (read bs) e
read (b ∷ bs) within.Escape v n piece most e = λ m at. escape_row b v n m bs piece at most (read bs) e
read (b ∷ bs) (within.Code k more) v n piece most e = λ small.
    split_cond (ltb 0 more && is_octal b) _ _ piece e
    (λ both e. let two = and_true (ltb 0 more) (is_octal b) both in
    split_cond (ltb 255 (8 * k + (b - 48))) _ _ piece e (λ above bad. absurd cc)
    (λ below ok. one_more k more v n b bs piece (ltb-true _ _ two.0) two.1 (read bs (within.Code (8 * k + (b - 48)) (more - 1)) v (n + 1) piece most ok (ltb-false _ _ below))))
    (λ either ok. no_more k more v n b bs piece small (read bs) (λ lt. and_false (ltb 0 more) (is_octal b) either (lt-ltb 0 more lt)) ok)

-- a string at the front of some bytes
pub record IsPiece (bytes : List ℕ) (piece : Piece (List ℕ)) : Type 0 where
  pub lexeme : List ℕ
  pub rest : List ℕ
  pub is_bytes : bytes ≡ lexeme ++ rest
  pub spelled : IsString lexeme piece.value
  pub most : length piece.value ≤ MOST
  pub count : piece.count ≡ length lexeme
  pub seen : piece.seen ≡ length lexeme

-- what is read is a string
pub string_sound : (bs : List ℕ) (piece : Piece (List ℕ)) → string_at within.Parts [] 1 bs ≡ Ok piece → IsPiece (34 ∷ bs) piece
string_sound bs piece e =
    let s = read bs within.Parts [] 1 piece (omega arith) e in
    let x : List ℕ = parts_bytes s.parts in
    let count : piece.count ≡ length (34 ∷ (x ++ 34 ∷ [])) = omega (arith, s.count, length-append x (34 ∷ [])) in
    record {
      lexeme = 34 ∷ (x ++ 34 ∷ []);
      rest = s.rest;
      is_bytes = ap (λ (z : List ℕ). 34 ∷ z) (s.is_bytes ∙ sym (append_assoc x (34 ∷ []) s.rest));
      spelled = record { parts = s.parts; spelled = refl; each = parts_move s.parts s.rest [] s.each; means = s.means };
      most = s.most;
      count = count;
      seen = s.seen ∙ count;
    }
