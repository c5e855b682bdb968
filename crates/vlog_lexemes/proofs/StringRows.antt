-- What is told of bytes that are no string is a fault of the table.
use Rattle.std.proofs.Common.{◌≡◌, ℕ, suc, ◌+◌, ◌-◌, ◌*◌, ◌<◌, ◌≤◌, Bool, true, false, cond, eqb, ltb, ◌&&◌, ◌||◌, List, [], ◌∷◌, ◌++◌, length, Ok, Err, IsTrue, refl, sym, ap, ◌∙◌, subst, arith, length-append, append_assoc, append-nil}
use Rattle.std.specs.List.{AllByRecursion, flat_map}
use Rattle.std.proofs.lemmas.Bool.{leb-true, ltb-true, ltb-false, lt-ltb, eqb-true}
use Rattle.std.proofs.lemmas.Bool.Decides.{nat_tests}
use Rattle.std.proofs.lemmas.Grind.{flat_map-append}
use Rattle.std.proofs.lemmas.List.Sums.{fold-append}
use Rattle.nl_base.specs.declared.fault.Reason.{Reason}
use Rattle.nl_base.specs.declared.fault.Reason.TheVariants.{EndOfInput, BadByte, BadEscape, TokenTooLong}
use Rattle.nl_bytes.specs.Classes.{is_verilog_string_byte}
use Rattle.nl_bytes.proofs.Uses.{AllByRecursion-push}
use Rattle.vlog_tokens.specs.declared.string.Escaped.{Escaped}
use Rattle.nl_bytes.specs.Flaws.{Piece, Flaw, flaw}
use Rattle.vlog_tokens.specs.Strings.{Within, string_at, is_full, is_octal, escaped_by, part_by, escape_by}
use Rattle.vlog_tokens.specs.Strings as within
use Rattle.vlog_lexemes.specs.Strings.{MOST, Part, Plain, Coded, StandsFor, line_feed, tab, backslash, quote, octal_value, NoOctal, IsCode, IsPart, part_bytes, part_value, parts_bytes, parts_value, AreParts}
use Rattle.vlog_lexemes.specs.Strings as parts
use Rattle.vlog_lexemes.specs.Faults.{IsFault, unended, unended_escape, bad_in_string, bad_escape, bad_in_escape, large_code, long_string, long_by_escape, long_by_code, count_of}
use Rattle.vlog_lexemes.proofs.Strings.{Spelled, room}

abbrev pub Row : List ℕ → Flaw → Type 0
Row bytes x = IsFault bytes x.reason x.before x.seen

abbrev flaw_in : Flaw → Spelled → Flaw
flaw_in x (Err f) = f
flaw_in x (Ok y) = x

row_is : (bytes : List ℕ) (reason : Reason) (a b : ℕ) (x : Flaw) → flaw {A = Piece (List ℕ)} reason a b ≡ Err x → IsFault bytes reason a b
    → Row bytes x
row_is bytes reason a b x e f = subst (Row bytes) (ap (flaw_in x) e) f

fault_by : (bytes others : List ℕ) (reason : Reason) (a b c d : ℕ) → others ≡ bytes → a ≡ c → b ≡ d → IsFault others reason a b
    → IsFault bytes reason c d
fault_by bytes others reason a b c d g e f why = subst (λ (z : List ℕ). IsFault z reason c d) g (subst (λ (k : ℕ). IsFault others reason c k) f (subst (λ (k : ℕ). IsFault others reason k b) e why))

split_cond : {P : Type 0} (t : Bool) (x y : Spelled) (f : Flaw) → cond t x y ≡ Err f → (t ≡ true → x ≡ Err f → P) → (t ≡ false → y ≡ Err f → P) → P
split_cond {P} true x y f e p q = p refl e
split_cond {P} false x y f e p q = q refl e

-- where a reader of a string stands
data Stand : Type 0 where
  AtParts : List Part → Stand
  AtSlash : List Part → Stand
  AtCode : List Part → List ℕ → Stand

abbrev parts_of : Stand → List Part
parts_of (AtParts ps) = ps
parts_of (AtSlash ps) = ps
parts_of (AtCode ps digits) = ps

abbrev stand_bytes : Stand → List ℕ
stand_bytes (AtParts ps) = parts_bytes ps
stand_bytes (AtSlash ps) = parts_bytes ps ++ 92 ∷ []
stand_bytes (AtCode ps digits) = parts_bytes ps ++ 92 ∷ digits

abbrev state : Stand → Within
state (AtParts ps) = within.Parts
state (AtSlash ps) = within.Escape
state (AtCode ps digits) = within.Code (octal_value digits) (3 - length digits)

record CodeSoFar (digits : List ℕ) : Type 0 where
  pub some : 0 < length digits
  pub few : length digits ≤ 3
  pub each : AllByRecursion (λ d. IsTrue (is_octal d)) digits
  pub byte : octal_value digits ≤ 255

abbrev IsStand : Stand → List ℕ → Type 0
IsStand (AtParts ps) bs = AreParts ps bs
IsStand (AtSlash ps) bs = AreParts ps (92 ∷ bs)
IsStand (AtCode ps digits) bs = AreParts ps (92 ∷ (digits ++ bs)) × CodeSoFar digits

abbrev Hypothesis : List ℕ → Type 0
Hypothesis bs = (s : Stand) (x : Flaw) → IsStand s bs → length (parts_value (parts_of s)) ≤ MOST → string_at (state s) (parts_value (parts_of s)) (1 + length (stand_bytes s)) bs ≡ Err x → Row (34 ∷ (stand_bytes s ++ bs)) x

next : (s t : Stand) (b : ℕ) (bs : List ℕ) (m : Within) (v : List ℕ) (x : Flaw) → Hypothesis bs → IsStand t bs
    → stand_bytes t ≡ stand_bytes s ++ b ∷ [] → state t ≡ m → parts_value (parts_of t) ≡ v → length v ≤ MOST
    → string_at m v (1 + length (stand_bytes s) + 1) bs ≡ Err x → Row (34 ∷ (stand_bytes s ++ b ∷ bs)) x
next s t b bs m v x others is bytes at value most e =
    let count : 1 + length (stand_bytes t) ≡ 1 + length (stand_bytes s) + 1 = omega (arith, ap (length {A = ℕ}) bytes, length-append (stand_bytes s) (b ∷ [])) in
    let run = ap (λ (z : Within). string_at z (parts_value (parts_of t)) (1 + length (stand_bytes t)) bs) at ∙ ap (λ (z : List ℕ). string_at m z (1 + length (stand_bytes t)) bs) value ∙ ap (λ (k : ℕ). string_at m v k bs) count ∙ e in
    subst (λ (z : List ℕ). Row (34 ∷ z) x) (ap (λ (z : List ℕ). z ++ bs) bytes ∙ append_assoc (stand_bytes s) (b ∷ []) bs) (others t x is (subst (λ (z : List ℕ). length z ≤ MOST) (sym value) most) run)

flat_push : (f : Part → List ℕ) (ps : List Part) (p : Part) → flat_map f (ps ++ p ∷ []) ≡ flat_map f ps ++ f p
flat_push f ps p = flat_map-append f ps (p ∷ []) ∙ ap (λ (z : List ℕ). flat_map f ps ++ z) (append-nil (f p))

parts_push : (ps : List Part) (p : Part) (rest : List ℕ) → AreParts ps (part_bytes p ++ rest) → IsPart p rest → AreParts (ps ++ p ∷ []) rest
parts_push [] p rest all is = (is, tt)
parts_push (q ∷ qs) p rest all is =
    (subst (IsPart q) (sym (append_assoc (parts_bytes qs) (part_bytes p) rest) ∙ ap (λ (z : List ℕ). z ++ rest) (sym (flat_push part_bytes qs p))) all.0, parts_push qs p rest all.1 is)

none_of : (x y z : Bool) → x ≡ false → y ≡ false → z ≡ false → (x || y || z) ≡ false
none_of x y z e f g = rw (e, f, g) refl

part_fault : (ps : List Part) (b : ℕ) (bs : List ℕ) (x : Flaw) → Hypothesis bs → AreParts ps (b ∷ bs) → length (parts_value ps) ≤ MOST
    → part_by (parts_value ps) (count_of ps) b (λ next kept. string_at next kept (count_of ps + 1) bs) ≡ Err x
    → Row (34 ∷ (parts_bytes ps ++ b ∷ bs)) x
part_fault ps b bs x others all most e =
    let v : List ℕ = parts_value ps in
    split_cond (eqb b 34) _ _ x e (λ end_ ok. absurd cc)
    (λ n0 e. split_cond (eqb b 92) _ _ x e
    (λ slash ok. let is : b ≡ 92 = eqb-true b 92 slash in
    next (AtParts ps) (AtSlash ps) b bs within.Escape v x others (subst (λ (z : ℕ). AreParts ps (z ∷ bs)) is all) (ap (λ (z : ℕ). parts_bytes ps ++ z ∷ []) (sym is)) refl refl most ok)
    (λ n1 e. split_cond (is_verilog_string_byte b) _ _ x e
    (λ byte e. split_cond (is_full v) _ _ x e
    (λ full bad. let le = leb-true _ _ full in row_is _ TokenTooLong 0 (count_of ps + 1) x bad (long_string ps b bs refl all (omega (arith, most, le)) byte))
    (λ free ok. next (AtParts ps) (AtParts (ps ++ Plain b ∷ [])) b bs within.Parts (v ++ b ∷ []) x others (parts_push ps (Plain b) bs all byte) (flat_push part_bytes ps (Plain b)) refl (flat_push part_value ps (Plain b)) (room v b free) ok))
    (λ n2 bad. row_is _ BadByte (count_of ps) (count_of ps + 1) x bad (bad_in_string ps b bs refl all most (none_of (eqb b 34) (eqb b 92) (is_verilog_string_byte b) n0 n1 n2)))))

cond_escaped : (P : Escaped → Type 0) (t : Bool) (x y : Escaped) → (t ≡ true → P x) → (t ≡ false → P y) → P (cond t x y)
cond_escaped P true x y p q = p refl
cond_escaped P false x y p q = q refl

abbrev at_slash : List Part → ℕ
at_slash ps = 1 + length (parts_bytes ps ++ 92 ∷ [])

slash_count : (ps : List Part) → at_slash ps ≡ count_of ps + 1
slash_count ps = omega (arith, length-append (parts_bytes ps) (92 ∷ []))

slash_bytes : (ps : List Part) (b : ℕ) (bs : List ℕ) → 34 ∷ (parts_bytes ps ++ 92 ∷ b ∷ bs) ≡ 34 ∷ ((parts_bytes ps ++ 92 ∷ []) ++ b ∷ bs)
slash_bytes ps b bs = ap (λ (z : List ℕ). 34 ∷ z) (sym (append_assoc (parts_bytes ps) (92 ∷ []) (b ∷ bs)))

stands_fault : (ps : List Part) (b c : ℕ) (bs : List ℕ) (x : Flaw) → Hypothesis bs → AreParts ps (92 ∷ b ∷ bs) → length (parts_value ps) ≤ MOST
    → StandsFor b c
    → cond (is_full (parts_value ps)) (flaw TokenTooLong 0 (at_slash ps + 1)) (string_at within.Parts (parts_value ps ++ c ∷ []) (at_slash ps + 1) bs) ≡ Err x
    → Row (34 ∷ ((parts_bytes ps ++ 92 ∷ []) ++ b ∷ bs)) x
stands_fault ps b c bs x others all most is e =
    let p : Part = parts.Escaped b c in
    split_cond (is_full (parts_value ps)) _ _ x e
    (λ full bad. let le = leb-true _ _ full in row_is _ TokenTooLong 0 (at_slash ps + 1) x bad
    (fault_by _ _ TokenTooLong 0 (count_of ps + 2) 0 (at_slash ps + 1) (slash_bytes ps b bs) refl (omega (arith, slash_count ps)) (long_by_escape ps b c bs refl all (omega (arith, most, le)) is)))
    (λ free ok. next (AtSlash ps) (AtParts (ps ++ p ∷ [])) b bs within.Parts (parts_value ps ++ c ∷ []) x others (parts_push ps p bs all is)
    (flat_push part_bytes ps p ∙ sym (append_assoc (parts_bytes ps) (92 ∷ []) (b ∷ []))) refl (flat_push part_value ps p) (room (parts_value ps) c free) ok)

small_octal : (b : ℕ) → is_octal b ≡ true → b - 48 ≤ 255
small_octal b e = grind (arith, nat_tests)

octal_fault : (ps : List Part) (b : ℕ) (bs : List ℕ) (x : Flaw) → Hypothesis bs → AreParts ps (92 ∷ b ∷ bs) → length (parts_value ps) ≤ MOST
    → is_octal b ≡ true → string_at (within.Code (b - 48) 2) (parts_value ps) (at_slash ps + 1) bs ≡ Err x
    → Row (34 ∷ ((parts_bytes ps ++ 92 ∷ []) ++ b ∷ bs)) x
octal_fault ps b bs x others all most octal e =
    let value : octal_value (b ∷ []) ≡ b - 48 = omega arith in
    let code : CodeSoFar (b ∷ []) = record { some = omega arith; few = omega arith; each = (octal, tt); byte = omega (arith, value, small_octal b octal) } in
    next (AtSlash ps) (AtCode ps (b ∷ [])) b bs (within.Code (b - 48) 2) (parts_value ps) x others (all, code) (sym (append_assoc (parts_bytes ps) (92 ∷ []) (b ∷ []))) (ap (λ (k : ℕ). within.Code k 2) value) refl most e

none_of_four : (x y z t : Bool) → x ≡ false → y ≡ false → z ≡ false → t ≡ false → (x || y || z || t) ≡ false
none_of_four x y z t e f g h = rw (e, f, g, h) refl

escape_fault : (ps : List Part) (b : ℕ) (bs : List ℕ) (x : Flaw) → Hypothesis bs → AreParts ps (92 ∷ b ∷ bs) → length (parts_value ps) ≤ MOST
    → escape_by (escaped_by b) (parts_value ps) (at_slash ps) (λ next kept. string_at next kept (at_slash ps + 1) bs) ≡ Err x
    → Row (34 ∷ ((parts_bytes ps ++ 92 ∷ []) ++ b ∷ bs)) x
escape_fault ps b bs x others all most =
    let P : Escaped → Type 0 = λ s. escape_by s (parts_value ps) (at_slash ps) (λ next kept. string_at next kept (at_slash ps + 1) bs) ≡ Err x → Row (34 ∷ ((parts_bytes ps ++ 92 ∷ []) ++ b ∷ bs)) x in
    cond_escaped P (eqb b 110) _ _ (λ e ok. stands_fault ps b 10 bs x others all most (subst (λ (z : ℕ). StandsFor z 10) (sym (eqb-true b 110 e)) line_feed) ok)
    (λ n0. cond_escaped P (eqb b 116) _ _ (λ e ok. stands_fault ps b 9 bs x others all most (subst (λ (z : ℕ). StandsFor z 9) (sym (eqb-true b 116 e)) tab) ok)
    (λ n1. cond_escaped P (eqb b 92 || eqb b 34) _ _ (λ e ok. stands_fault ps b b bs x others all most (itself (eqb b 92) refl e) ok)
    (λ n2. cond_escaped P (is_octal b) _ _ (λ e ok. octal_fault ps b bs x others all most e ok)
    (λ n3. cond_escaped P (is_verilog_string_byte b) _ _
    (λ byte bad. row_is _ BadEscape (at_slash ps - 1) (at_slash ps + 1) x bad (fault_by _ _ BadEscape (count_of ps) (count_of ps + 2) _ _ (slash_bytes ps b bs) (omega (arith, slash_count ps)) (omega (arith, slash_count ps))
    (bad_escape ps b bs refl all most (none_of_four (eqb b 110) (eqb b 116) (eqb b 92 || eqb b 34) (is_octal b) n0 n1 n2 n3) byte)))
    (λ byte bad. row_is _ BadByte (at_slash ps) (at_slash ps + 1) x bad (fault_by _ _ BadByte (count_of ps + 1) (count_of ps + 2) _ _ (slash_bytes ps b bs) (sym (slash_count ps)) (omega (arith, slash_count ps))
    (bad_in_escape ps b bs refl all most (none_of_four (eqb b 110) (eqb b 116) (eqb b 92 || eqb b 34) (is_octal b) n0 n1 n2 n3) byte)))))))
  where
    itself : (t : Bool) → eqb b 92 ≡ t → (eqb b 92 || eqb b 34) ≡ true → StandsFor b b
    itself true e either = subst (λ (z : ℕ). StandsFor z z) (sym (eqb-true b 92 e)) backslash
    itself false e either = let quoted = rw e at either in subst (λ (z : ℕ). StandsFor z z) (sym (eqb-true b 34 quoted)) quote

-- ---- codes

abbrev at_code : List Part → List ℕ → ℕ
at_code ps digits = 1 + length (parts_bytes ps ++ 92 ∷ digits)

code_count : (ps : List Part) (digits : List ℕ) → at_code ps digits ≡ count_of ps + 1 + length digits
code_count ps digits = omega (arith, length-append (parts_bytes ps) (92 ∷ digits))

code_bytes : (ps : List Part) (digits bs : List ℕ) → 34 ∷ (parts_bytes ps ++ 92 ∷ (digits ++ bs)) ≡ 34 ∷ ((parts_bytes ps ++ 92 ∷ digits) ++ bs)
code_bytes ps digits bs = ap (λ (z : List ℕ). 34 ∷ z) (sym (append_assoc (parts_bytes ps) (92 ∷ digits) bs))

code_is : (digits rest : List ℕ) → CodeSoFar digits → (length digits < 3 → NoOctal rest) → IsCode digits rest
code_is digits rest c none = record { some = c.some; most = c.few; each = c.each; all = none; byte = c.byte }

long_code_fault : (ps : List Part) (digits bs : List ℕ) (x : Flaw) → AreParts ps (92 ∷ (digits ++ bs)) → CodeSoFar digits
    → length (parts_value ps) ≤ MOST → is_full (parts_value ps) ≡ true → (length digits < 3 → NoOctal bs)
    → flaw {A = Piece (List ℕ)} TokenTooLong 0 (at_code ps digits) ≡ Err x → Row (34 ∷ ((parts_bytes ps ++ 92 ∷ digits) ++ bs)) x
long_code_fault ps digits bs x all c most full none bad =
    let le = leb-true _ _ full in
    row_is _ TokenTooLong 0 (at_code ps digits) x bad (fault_by _ _ TokenTooLong 0 (count_of ps + 1 + length digits) 0 (at_code ps digits) (code_bytes ps digits bs) refl (sym (code_count ps digits))
    (long_by_code ps digits bs refl all (omega (arith, most, le)) (code_is digits bs c none)))

code_end : (ps : List Part) (digits : List ℕ) (x : Flaw) → AreParts ps (92 ∷ (digits ++ [])) → CodeSoFar digits → length (parts_value ps) ≤ MOST
    → is_full (parts_value ps) ≡ false → flaw {A = Piece (List ℕ)} EndOfInput (at_code ps digits) (at_code ps digits) ≡ Err x
    → Row (34 ∷ ((parts_bytes ps ++ 92 ∷ digits) ++ [])) x
code_end ps digits x all c most free bad =
    let p : Part = Coded digits in
    let bytes : 34 ∷ ((parts_bytes ps ++ 92 ∷ digits) ++ []) ≡ 34 ∷ parts_bytes (ps ++ p ∷ []) = ap (λ (z : List ℕ). 34 ∷ z) (append-nil (parts_bytes ps ++ 92 ∷ digits) ∙ sym (flat_push part_bytes ps p)) in
    let whole : List ℕ = 34 ∷ ((parts_bytes ps ++ 92 ∷ digits) ++ []) in
    let count : length whole ≡ at_code ps digits = ap (λ (z : List ℕ). suc (length z)) (append-nil (parts_bytes ps ++ 92 ∷ digits)) ∙ omega arith in
    let value = flat_push part_value ps p in
    row_is whole EndOfInput (at_code ps digits) (at_code ps digits) x bad (fault_by whole whole EndOfInput (length whole) (length whole) _ _ refl count count
    (unended (ps ++ p ∷ []) bytes (parts_push ps p [] all (code_is digits [] c (λ lt. tt))) (subst (λ (z : List ℕ). length z ≤ MOST) (sym value) (room (parts_value ps) (octal_value digits) free))))

and_true : (a b : Bool) → (a && b) ≡ true → (a ≡ true) × (b ≡ true)
and_true true b h = (refl, h)
and_true false b h = absurd cc

and_false : (a b : Bool) → (a && b) ≡ false → a ≡ true → b ≡ false
and_false true b h e = h
and_false false b h e = absurd cc

code_fault : (ps : List Part) (digits : List ℕ) (b : ℕ) (bs : List ℕ) (x : Flaw) → Hypothesis bs → AreParts ps (92 ∷ (digits ++ b ∷ bs))
    → CodeSoFar digits → length (parts_value ps) ≤ MOST
    → string_at (within.Code (octal_value digits) (3 - length digits)) (parts_value ps) (at_code ps digits) (b ∷ bs) ≡ Err x
    → Row (34 ∷ ((parts_bytes ps ++ 92 ∷ digits) ++ b ∷ bs)) x
unfolding string_at
code_fault ps digits b bs x others all c most e =
    let v : List ℕ = parts_value ps in
    let k : ℕ = octal_value digits in
    let n : ℕ = at_code ps digits in
    let more : ℕ = 3 - length digits in
    split_cond (ltb 0 more && is_octal b) _ _ x e
    (λ both e. let two = and_true (ltb 0 more) (is_octal b) both in
    let lt : length digits < 3 = omega (arith, ltb-true _ _ two.0) in
    split_cond (ltb 255 (8 * k + (b - 48))) _ _ x e
    (λ large bad. row_is _ BadEscape (n - (4 - more)) (n + 1) x bad (fault_by _ _ BadEscape (count_of ps) (count_of ps + 1 + length digits + 1) _ _ (code_bytes ps digits (b ∷ bs)) (omega (arith, code_count ps digits, lt)) (omega (arith, code_count ps digits))
    (large_code ps digits b bs refl all most c.some lt c.each c.byte two.1 (ltb-true _ _ large))))
    (λ small ok. let le = ltb-false _ _ small in
    let value : octal_value (digits ++ b ∷ []) ≡ 8 * k + (b - 48) = fold-append (λ n d. 8 * n + (d - 48)) 0 digits (b ∷ []) in
    let longer = length-append digits (b ∷ []) in
    let code : CodeSoFar (digits ++ b ∷ []) = record { some = omega (arith, longer); few = omega (arith, longer, lt); each = AllByRecursion-push (λ d. IsTrue (is_octal d)) digits b c.each two.1; byte = omega (arith, value, le) } in
    let at : within.Code (octal_value (digits ++ b ∷ [])) (3 - length (digits ++ b ∷ [])) ≡ within.Code (8 * k + (b - 48)) (more - 1) =
    ap (λ (z : ℕ). within.Code z (3 - length (digits ++ b ∷ []))) value ∙ ap (λ (z : ℕ). within.Code (8 * k + (b - 48)) z) (omega (arith, longer)) in
    next (AtCode ps digits) (AtCode ps (digits ++ b ∷ [])) b bs (within.Code (8 * k + (b - 48)) (more - 1)) v x others
    (subst (λ (z : List ℕ). AreParts ps (92 ∷ z)) (sym (append_assoc digits (b ∷ []) bs)) all, code) (sym (append_assoc (parts_bytes ps) (92 ∷ digits) (b ∷ []))) at refl most ok))
    (λ either e. let none : length digits < 3 → NoOctal (b ∷ bs) = λ lt. and_false (ltb 0 more) (is_octal b) either (lt-ltb 0 more (omega (arith, lt))) in
    split_cond (is_full v) _ _ x e (λ full bad. long_code_fault ps digits (b ∷ bs) x all c most full none bad)
    (λ free ok. let p : Part = Coded digits in
    let value = flat_push part_value ps p in
    let bytes = flat_push part_bytes ps p in
    let count : count_of (ps ++ p ∷ []) ≡ n = ap (λ (z : List ℕ). 1 + length z) bytes in
    let run = ap (λ (z : List ℕ). part_by z (count_of (ps ++ p ∷ [])) b (λ next kept. string_at next kept (count_of (ps ++ p ∷ []) + 1) bs)) value
    ∙ ap (λ (j : ℕ). part_by (v ++ k ∷ []) j b (λ next kept. string_at next kept (j + 1) bs)) count ∙ ok in
    subst (λ (z : List ℕ). Row (34 ∷ (z ++ b ∷ bs)) x) bytes
    (part_fault (ps ++ p ∷ []) b bs x others (parts_push ps p (b ∷ bs) all (code_is digits (b ∷ bs) c none)) (subst (λ (z : List ℕ). length z ≤ MOST) (sym value) (room v k free)) run)))

-- ---- all bytes

end_row : (whole : List ℕ) (n : ℕ) (x : Flaw) → length whole ≡ n → flaw {A = Piece (List ℕ)} EndOfInput n n ≡ Err x
    → IsFault whole EndOfInput (length whole) (length whole) → Row whole x
end_row whole n x count bad why = row_is whole EndOfInput n n x bad (fault_by whole whole EndOfInput (length whole) (length whole) n n refl count count why)

read : (bs : List ℕ) → Hypothesis bs
unfolding string_at
read [] (AtParts ps) x is most e =
    end_row (34 ∷ (parts_bytes ps ++ [])) (count_of ps) x (omega (arith, length-append (parts_bytes ps) [])) e (unended ps (ap (λ (z : List ℕ). 34 ∷ z) (append-nil (parts_bytes ps))) is most)
read [] (AtSlash ps) x is most e =
    end_row (34 ∷ ((parts_bytes ps ++ 92 ∷ []) ++ [])) (at_slash ps) x (omega (arith, length-append (parts_bytes ps ++ 92 ∷ []) [])) e (unended_escape ps (ap (λ (z : List ℕ). 34 ∷ z) (append-nil (parts_bytes ps ++ 92 ∷ []))) is most)
read [] (AtCode ps digits) x is most e =
    split_cond (is_full (parts_value ps)) _ _ x e (λ full bad. long_code_fault ps digits [] x is.0 is.1 most full (λ lt. tt) bad) (λ free bad. code_end ps digits x is.0 is.1 most free bad)
read (b ∷ bs) (AtParts ps) x is most e = part_fault ps b bs x (read bs) is most e
read (b ∷ bs) (AtSlash ps) x is most e = escape_fault ps b bs x (read bs) is most e
read (b ∷ bs) (AtCode ps digits) x is most e = code_fault ps digits b bs x (read bs) is.0 is.1 most e

pub string_faulty : (bs : List ℕ) (x : Flaw) → string_at within.Parts [] 1 bs ≡ Err x → Row (34 ∷ bs) x
string_faulty bs x e = read bs (AtParts []) x tt (omega arith) e
