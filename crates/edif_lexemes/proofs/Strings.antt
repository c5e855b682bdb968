-- Strings: what the reader of a string makes of some bytes is what the table says of them.
use Rattle.std.proofs.Common.{◌≡◌, ℕ, ◌+◌, ◌-◌, ◌*◌, ◌<◌, ◌≤◌, Bool, true, false, cond, eqb, ltb, ◌&&◌, ◌||◌, List, [], ◌∷◌, ◌++◌, length, Result, Ok, Err, IsTrue, refl, sym, ap, ◌∙◌, subst, arith, length-append, append_assoc, append-nil}
use Rattle.std.specs.Char.{is_ascii_digit}
use Rattle.std.specs.List.{flat_map}
use Rattle.std.proofs.lemmas.Bool.{leb-true, leb-false, ltb-true, ltb-false, eqb-true}
use Rattle.std.proofs.lemmas.Bool.Decides.{nat_tests}
use Rattle.std.proofs.lemmas.Grind.{flat_map-append}
use Rattle.std.proofs.lemmas.List.{map-append}
use Rattle.std.proofs.lemmas.List.Sums.{fold-append}
use Rattle.nl_base.specs.declared.fault.Reason.{Reason}
use Rattle.nl_base.specs.declared.fault.Reason.TheVariants.{EndOfInput}
use Rattle.nl_bytes.specs.Classes.{is_space, is_string_byte}
use Rattle.nl_bytes.proofs.Uses.{AllByRecursion-push}
use Rattle.nl_bytes.specs.Flaws.{Piece, Flaw, flaw}
use Rattle.edif_tokens.specs.Strings.{Within, string_at, is_full}
use Rattle.edif_tokens.specs.Strings as within
use Rattle.edif_tokens.specs.Spelling.{decimal_value}
use Rattle.edif_lexemes.specs.Strings.{MOST, Code, code_bytes, code_value, IsCode, AreCodes, codes_bytes, codes_value, Part, Plain, Escaped, IsPart, part_bytes, part_value, parts_bytes, parts_value, is_some, IsApart, Front, Between, Escaping, Coding, IsFront, front_bytes, front_value}
use Rattle.edif_lexemes.specs.Lexemes.{IsString}
use Rattle.edif_lexemes.specs.Faults.{IsFault, unended, bad_in_string, bad_in_escape, bad_behind_code, large_code, long_string, long_by_code, may_escape}
use Rattle.edif_lexemes.proofs.Moves.{Spelled, Outcome, bounded, parts_read, standing, settled, front_read}

-- a string at the front of some bytes, which is no longer than it may be
pub record IsPiece (bytes : List ℕ) (piece : Piece (List ℕ)) : Type 0 where
  pub lexeme : List ℕ
  pub rest : List ℕ
  pub parts : bytes ≡ lexeme ++ rest
  pub spelled : IsString lexeme piece.value
  pub most : length piece.value ≤ MOST
  pub count : piece.count ≡ length lexeme
  pub seen : piece.seen ≡ length lexeme

-- what some bytes spell, or why they spell nothing
abbrev pub StringRow : List ℕ → Spelled → Type 0
StringRow bytes (Ok piece) = IsPiece bytes piece
StringRow bytes (Err f) = IsFault bytes f.reason f.before f.seen

row_by : (a b : List ℕ) (x y : Spelled) → a ≡ b → x ≡ y → StringRow a x → StringRow b y
row_by a b x y e f row = subst (λ (z : List ℕ). StringRow z y) e (subst (λ (z : Spelled). StringRow a z) f row)

cond_row : (bytes : List ℕ) (t : Bool) (x y : Spelled) → (t ≡ true → StringRow bytes x) → (t ≡ false → StringRow bytes y)
    → StringRow bytes (cond t x y)
cond_row bytes true x y p q = p refl
cond_row bytes false x y p q = q refl

fault_by : (bytes : List ℕ) (reason : Reason) (a b c d : ℕ) → a ≡ c → b ≡ d → IsFault bytes reason a b → IsFault bytes reason c d
fault_by bytes reason a b c d e f why = subst (λ (k : ℕ). IsFault bytes reason c k) f (subst (λ (k : ℕ). IsFault bytes reason k b) e why)

or_false : (x y z : Bool) → x ≡ false → y ≡ false → z ≡ false → (x || y || z) ≡ false
or_false x y z e f g = rw (e, f, g) refl

-- ---- a front and one byte more

-- what a front with one byte more shows, the front shows before the byte
next : (front more : Front) (b : ℕ) (bs : List ℕ) (m : Within) (v : List ℕ) → front_bytes more ≡ front_bytes front ++ b ∷ [] → standing more 1 ≡ m
    → settled more ≡ v → StringRow (34 ∷ (front_bytes more ++ bs)) (string_at (standing more 1) (settled more) (1 + length (front_bytes more)) bs)
    → StringRow (34 ∷ (front_bytes front ++ b ∷ bs)) (string_at m v (1 + length (front_bytes front) + 1) bs)
next front more b bs m v bytes at value row =
    let count : 1 + length (front_bytes more) ≡ 1 + length (front_bytes front) + 1 = omega (arith, ap (length {A = ℕ}) bytes, length-append (front_bytes front) (b ∷ [])) in
    row_by _ _ _ _ (ap (λ (z : List ℕ). 34 ∷ (z ++ bs)) bytes ∙ ap (λ (z : List ℕ). 34 ∷ z) (append_assoc (front_bytes front) (b ∷ []) bs))
    (ap (λ (z : Within). string_at z (settled more) (1 + length (front_bytes more)) bs) at ∙ ap (λ (z : List ℕ). string_at m z (1 + length (front_bytes more)) bs) value
    ∙ ap (λ (z : ℕ). string_at m v z bs) count) row

flat_push : {A : Type 0} (f : A → List ℕ) (xs : List A) (x : A) → flat_map f (xs ++ x ∷ []) ≡ flat_map f xs ++ f x
flat_push f xs x = flat_map-append f xs (x ∷ []) ∙ ap (λ (z : List ℕ). flat_map f xs ++ z) (append-nil (f x))

codes_push : (cs : List Code) (c : Code) → AreCodes cs → IsCode c → IsApart cs c.white → AreCodes (cs ++ c ∷ [])
codes_push [] c all is apart = (is, tt)
codes_push (d ∷ ds) c all is apart = (all.0, AllByRecursion-push (λ x. IsCode x × (0 < length x.white)) ds c all.1 (is, apart))

some_push : (cs : List Code) (c : Code) → is_some (cs ++ c ∷ []) ≡ true
some_push [] c = refl
some_push (d ∷ ds) c = refl

apart_push : (cs : List Code) (white : List ℕ) (b : ℕ) → IsApart cs (white ++ b ∷ [])
apart_push [] white b = tt
apart_push (d ∷ ds) white b = omega (arith, length-append white (b ∷ []))

codes_some : (cs : List Code) → is_some cs ≡ true → 0 < length cs
codes_some [] e = absurd cc
codes_some (c ∷ cs) e = omega arith

and_true : (a b : Bool) → (a && b) ≡ true → (a ≡ true) × (b ≡ true)
and_true true b h = (refl, h)
and_true false b h = absurd cc

-- the bytes of an escape and one byte more
inner : (ps : List Part) (x y : List ℕ) → parts_bytes ps ++ 37 ∷ (x ++ y) ≡ (parts_bytes ps ++ 37 ∷ x) ++ y
inner ps x y = sym (append_assoc (parts_bytes ps) (37 ∷ x) y)

bytes_in : (ps : List Part) (cs : List Code) (x y : List ℕ)
    → parts_bytes ps ++ 37 ∷ (codes_bytes cs ++ (x ++ y)) ≡ (parts_bytes ps ++ 37 ∷ (codes_bytes cs ++ x)) ++ y
bytes_in ps cs x y = ap (λ (z : List ℕ). parts_bytes ps ++ 37 ∷ z) (sym (append_assoc (codes_bytes cs) x y)) ∙ inner ps (codes_bytes cs ++ x) y

bytes_behind : (ps : List Part) (cs : List Code) (c : Code) (b : ℕ)
    → parts_bytes ps ++ 37 ∷ (codes_bytes (cs ++ c ∷ []) ++ b ∷ []) ≡ (parts_bytes ps ++ 37 ∷ (codes_bytes cs ++ code_bytes c)) ++ b ∷ []
bytes_behind ps cs c b =
    ap (λ (z : List ℕ). parts_bytes ps ++ 37 ∷ (z ++ b ∷ [])) (flat_push code_bytes cs c) ∙ inner ps (codes_bytes cs ++ code_bytes c) (b ∷ [])

value_behind : (ps : List Part) (cs : List Code) (c : Code)
    → parts_value ps ++ codes_value (cs ++ c ∷ []) ≡ (parts_value ps ++ codes_value cs) ++ code_value c ∷ []
value_behind ps cs c =
    ap (λ (z : List ℕ). parts_value ps ++ z) (map-append code_value cs (c ∷ []))
    ∙ sym (append_assoc (parts_value ps) (codes_value cs) (code_value c ∷ []))

digit_value : (digits : List ℕ) (b : ℕ) → decimal_value (digits ++ b ∷ []) ≡ 10 * decimal_value digits + (b - 48)
digit_value digits b = fold-append (λ n d. 10 * n + (d - 48)) 0 digits (b ∷ [])

small_digit : (b : ℕ) → is_ascii_digit b ≡ true → b - 48 ≤ 255
small_digit b h = grind (arith, nat_tests)

escape_false : (coded : Bool) (b : ℕ) → is_space b ≡ false → is_ascii_digit b ≡ false → (coded && eqb b 37) ≡ false → may_escape coded b ≡ false
escape_false coded b e f g = rw (e, f, g) refl

-- ---- the end of the bytes

at_end : (front : Front) → IsFront front → length (front_value front) ≤ MOST
    → StringRow (34 ∷ (front_bytes front ++ [])) (flaw EndOfInput (1 + length (front_bytes front)) (1 + length (front_bytes front)))
at_end front is most =
    let bytes : List ℕ = 34 ∷ (front_bytes front ++ []) in
    let count : length bytes ≡ 1 + length (front_bytes front) = omega (arith, length-append (front_bytes front) []) in
    fault_by bytes EndOfInput (length bytes) (length bytes) _ _ count count (unended front (ap (λ (z : List ℕ). 34 ∷ z) (append-nil (front_bytes front))) is most)

-- ---- all bytes

pub read : (front : Front) (bs : List ℕ) → IsFront front → length (settled front) ≤ MOST
    → StringRow (34 ∷ (front_bytes front ++ bs)) (string_at (standing front 1) (settled front) (1 + length (front_bytes front)) bs)
unfolding string_at
read (Between ps) [] is most = at_end (Between ps) is most
read (Escaping ps cs white) [] is most = at_end (Escaping ps cs white) is most
read (Coding ps cs c) [] is most =
    let v : List ℕ = parts_value ps ++ codes_value cs in
    cond_row _ (is_full v) _ _
    (λ full. let le = leb-true _ _ full in long_by_code ps cs c [] refl is (omega (arith, most, le)) tt)
    (λ room. let lt = leb-false _ _ room in at_end (Coding ps cs c) is (omega (arith, lt, length-append v (code_value c ∷ []))))
read (Between ps) (b ∷ bs) is most =
    let front : Front = Between ps in
    cond_row _ (eqb b 34) _ _ (λ quote. quoted (eqb-true b 34 quote))
    (λ no_quote. cond_row _ (eqb b 37) _ _
    (λ percent. let more : Front = Escaping ps [] [] in
    next front more b bs _ _ (ap (λ (z : ℕ). parts_bytes ps ++ z ∷ []) (sym (eqb-true b 37 percent))) refl (append-nil (parts_value ps)) (read more bs (is, tt, tt, tt) (omega (arith, most, length-append (parts_value ps) []))))
    (λ no_percent. cond_row _ (is_string_byte b) _ _
    (λ stands. cond_row _ (is_full (parts_value ps)) _ _
    (λ full. let le = leb-true _ _ full in long_string ps b bs refl is (omega (arith, most, le)) stands)
    (λ room. let lt = leb-false _ _ room in
    let more : Front = Between (ps ++ Plain b ∷ []) in
    let value = flat_push part_value ps (Plain b) in
    next front more b bs _ _ (flat_push part_bytes ps (Plain b)) refl value
    (read more bs (AllByRecursion-push IsPart ps (Plain b) is stands) (omega (arith, lt, ap (length {A = ℕ}) value, length-append (parts_value ps) (b ∷ []))))))
    (λ no_byte. bad_in_string ps b bs refl is most (or_false (is_string_byte b) (eqb b 34) (eqb b 37) no_byte no_quote no_percent))))
  where
    quoted : b ≡ 34
        → StringRow (34 ∷ (parts_bytes ps ++ b ∷ bs)) (Ok (record { value = parts_value ps; count = 1 + length (parts_bytes ps) + 1; seen = 1 + length (parts_bytes ps) + 1 }))
    quoted e = record {
      lexeme = 34 ∷ (parts_bytes ps ++ 34 ∷ []);
      rest = bs;
      parts = ap (λ (z : ℕ). 34 ∷ (parts_bytes ps ++ z ∷ bs)) e ∙ ap (λ (z : List ℕ). 34 ∷ z) (sym (append_assoc (parts_bytes ps) (34 ∷ []) bs));
      spelled = record { parts = ps; spelled = refl; each = is; means = refl };
      most = most;
      count = omega (arith, length-append (parts_bytes ps) (34 ∷ []));
      seen = omega (arith, length-append (parts_bytes ps) (34 ∷ []));
    }
read (Escaping ps cs white) (b ∷ bs) is most =
    let front : Front = Escaping ps cs white in
    cond_row _ (is_space b) _ _
    (λ space. let more : Front = Escaping ps cs (white ++ b ∷ []) in
    next front more b bs _ _ (bytes_in ps cs white (b ∷ [])) refl refl
    (read more bs (is.0, is.1, AllByRecursion-push (λ x. IsTrue (is_space x)) white b is.2 space, apart_push cs white b) most))
    (λ no_space. cond_row _ (is_ascii_digit b) _ _
    (λ digit. let c : Code = record { white = white; digits = b ∷ [] } in
    let more : Front = Coding ps cs c in
    let value : code_value c ≡ b - 48 = omega arith in
    let is_code : IsCode c = (is.2, (omega arith, (digit, tt)), omega (arith, small_digit b digit, value)) in
    next front more b bs _ _ (bytes_in ps cs white (b ∷ [])) (ap (λ (z : ℕ). within.Code (1 + length (parts_bytes ps)) z) value) refl (read more bs (is.0, is.1, is_code, is.3) most))
    (λ no_digit. cond_row _ (is_some cs && eqb b 37) _ _
    (λ both. let two = and_true (is_some cs) (eqb b 37) both in
    let p : Part = Escaped cs white in
    let more : Front = Between (ps ++ p ∷ []) in
    let value = flat_push part_value ps p in
    next front more b bs _ _ (flat_push part_bytes ps p ∙ bytes_in ps cs white (37 ∷ []) ∙ ap (λ (z : ℕ). front_bytes front ++ z ∷ []) (sym (eqb-true b 37 two.1))) refl value
    (read more bs (AllByRecursion-push IsPart ps p is.0 (codes_some cs two.0, is.1, is.2)) (omega (arith, most, ap (length {A = ℕ}) value))))
    (λ no_end. bad_in_escape ps cs white b bs refl is most (escape_false (is_some cs) b no_space no_digit no_end))))
read (Coding ps cs c) (b ∷ bs) is most =
    let front : Front = Coding ps cs c in
    let v : List ℕ = parts_value ps ++ codes_value cs in
    let n : ℕ = 10 * code_value c + (b - 48) in
    let each = codes_push cs c is.1 is.2 is.3 in
    let value = value_behind ps cs c in
    cond_row _ (is_ascii_digit b) _ _
    (λ digit. cond_row _ (ltb 255 n) _ _
    (λ above. large_code ps cs c b bs refl is most digit (ltb-true _ _ above))
    (λ below. let d : Code = record { white = c.white; digits = c.digits ++ b ∷ [] } in
    let more : Front = Coding ps cs d in
    let same = digit_value c.digits b in
    let le = ltb-false _ _ below in
    let is_code : IsCode d = (is.2.0, (omega (arith, length-append c.digits (b ∷ [])), AllByRecursion-push (λ x. IsTrue (is_ascii_digit x)) c.digits b is.2.1.1 digit), omega (arith, same, le)) in
    next front more b bs _ _ (ap (λ (z : List ℕ). parts_bytes ps ++ 37 ∷ (codes_bytes cs ++ z)) (sym (append_assoc c.white c.digits (b ∷ []))) ∙ bytes_in ps cs (code_bytes c) (b ∷ []))
    (ap (λ (z : ℕ). within.Code (1 + length (parts_bytes ps)) z) same) refl (read more bs (is.0, is.1, is_code, is.3) most)))
    (λ no_digit. cond_row _ (is_full v) _ _
    (λ full. let le = leb-true _ _ full in long_by_code ps cs c (b ∷ bs) refl is (omega (arith, most, le)) no_digit)
    (λ room. let lt = leb-false _ _ room in
    let small : length (v ++ code_value c ∷ []) ≤ MOST = omega (arith, lt, length-append v (code_value c ∷ [])) in
    cond_row _ (is_space b) _ _
    (λ space. let more : Front = Escaping ps (cs ++ c ∷ []) (b ∷ []) in
    next front more b bs _ _ (bytes_behind ps cs c b) (ap (λ (z : Bool). within.Escape (1 + length (parts_bytes ps)) z) (some_push cs c)) value
    (read more bs (is.0, each, (space, tt), apart_push (cs ++ c ∷ []) [] b) (omega (arith, small, ap (length {A = ℕ}) value))))
    (λ no_space. cond_row _ (eqb b 37) _ _
    (λ percent. let p : Part = Escaped (cs ++ c ∷ []) [] in
    let more : Front = Between (ps ++ p ∷ []) in
    let spelled = flat_push part_value ps p ∙ value in
    next front more b bs _ _ (flat_push part_bytes ps p ∙ bytes_behind ps cs c 37 ∙ ap (λ (z : ℕ). front_bytes front ++ z ∷ []) (sym (eqb-true b 37 percent))) refl spelled
    (read more bs (AllByRecursion-push IsPart ps p is.0 (omega (arith, length-append cs (c ∷ [])), each, tt)) (omega (arith, small, ap (length {A = ℕ}) spelled))))
    (λ no_percent. bad_behind_code ps cs c b bs refl is small (escape_false true b no_space no_digit no_percent)))))

-- what is read is what the table says
pub string_sound : (bs : List ℕ) → StringRow (34 ∷ bs) (string_at within.Parts [] 1 bs)
string_sound bs = read (Between []) bs tt (omega arith)

-- ---- the other way

tail_of : (a b : ℕ) (xs ys : List ℕ) → a ∷ xs ≡ b ∷ ys → xs ≡ ys
tail_of a b xs ys e = cc

abbrev pub piece_of : {A : Type 0} → A → ℕ → Result (Piece A) Flaw
piece_of value n = Ok (record { value = value; count = n; seen = n })

quote_ends : (n : ℕ) (v rest : List ℕ) → string_at within.Parts v n (34 ∷ rest) ≡ piece_of v (n + 1)
unfolding string_at
quote_ends n v rest = refl

same_piece : (v w : List ℕ) (m n : ℕ) → v ≡ w → m ≡ n → piece_of v m ≡ piece_of w n
same_piece v w m n e f = cc

-- a string at the front is read, unless it has too many bytes
pub string_outcome : (lexeme s rest bs : List ℕ) → IsString lexeme s → lexeme ++ rest ≡ 34 ∷ bs
    → Outcome (string_at within.Parts [] 1 bs) (piece_of s (length lexeme)) s
string_outcome lexeme s rest bs is e =
    let x : List ℕ = parts_bytes is.parts in
    let behind : x ++ 34 ∷ rest ≡ bs = sym (append_assoc x (34 ∷ []) rest) ∙ tail_of 34 34 ((x ++ 34 ∷ []) ++ rest) bs (ap (λ (z : List ℕ). z ++ rest) (sym is.spelled) ∙ e) in
    let read = (parts_read is.parts 1 [] is.each).leads (34 ∷ rest) in
    let count : 1 + length x + 1 ≡ length lexeme = omega (arith, ap (length {A = ℕ}) is.spelled, length-append x (34 ∷ [])) in
    let end = quote_ends (1 + length x) (parts_value is.parts) rest ∙ same_piece _ _ _ _ (sym is.means) count in
    subst (λ (z : List ℕ). Outcome (string_at within.Parts [] 1 bs) (piece_of s (length lexeme)) z) (sym is.means)
    (subst (λ (z : Spelled). Outcome (string_at within.Parts [] 1 bs) z (parts_value is.parts)) end
    (subst (λ (z : List ℕ). Outcome (string_at within.Parts [] 1 z) (string_at within.Parts (parts_value is.parts) (1 + length x) (34 ∷ rest)) (parts_value is.parts)) behind read))

-- what is read behind a front
pub front_then : (front : Front) (more : List ℕ) → IsFront front → length (settled front) ≤ MOST
    → string_at within.Parts [] 1 (front_bytes front ++ more) ≡ string_at (standing front 1) (settled front) (1 + length (front_bytes front)) more
front_then front more is most = bounded _ _ _ ((front_read front 1 is).leads more) most
