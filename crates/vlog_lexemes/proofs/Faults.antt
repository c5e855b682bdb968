-- Where neither a token nor white space stands, the fault of the table is told, and no other.
use Rattle.std.proofs.Common.{◌≡◌, ℕ, ◌+◌, ◌≤◌, ◌^◌, Bool, true, false, cond, eqb, ltb, ◌||◌, List, [], ◌∷◌, ◌++◌, length, Option, Some, None, Ok, Err, refl, sym, ap, ◌∙◌, subst, arith, length-append, append-nil, lit≤}
use Rattle.std.specs.Char.{is_ascii_digit, is_ascii_alphabetic}
use Rattle.std.proofs.lemmas.Bool.{eqb-true, ltb-false, le-ltb}
use Rattle.std.proofs.lemmas.Bool.Decides.{nat_tests}
use Rattle.nl_base.specs.declared.number.Scaled.{Scaled}
use Rattle.nl_base.specs.declared.fault.Reason.{Reason}
use Rattle.nl_base.specs.declared.fault.Reason.TheVariants.{EndOfInput, BadByte, BadEscape, TokenTooLong, NumberRange}
use Rattle.nl_bytes.specs.Classes.{is_verilog_space}
use Rattle.vlog_values.specs.declared.literal.Base.{Base}
use Rattle.vlog_values.specs.declared.literal.Base.TheVariants.{Decimal}
use Rattle.vlog_tokens.specs.declared.item.Item.{Item}
use Rattle.vlog_tokens.specs.declared.phase.Phase.{Phase}
use Rattle.vlog_tokens.specs.declared.phase.Phase.TheVariants as phases
use Rattle.vlog_tokens.specs.declared.start.Start.{Start}
use Rattle.vlog_tokens.specs.declared.start.Start.TheVariants as starts
use Rattle.nl_bytes.specs.Flaws.{Piece, Flaw, flaw, ◌>>=◌}
use Rattle.vlog_tokens.specs.Items.{item_of, finish, finished, real_item, based_item, digits_of, has_value}
use Rattle.vlog_tokens.specs.Numbers.{decimal_value, number_of, real_of}
use Rattle.vlog_tokens.specs.Phases.{is_complete, most_of}
use Rattle.vlog_tokens.specs.Scanning.{Lexeme, scan_at, kept}
use Rattle.vlog_tokens.specs.Spelling.{start_of, item_at, item_by, comment_at, str_of}
use Rattle.vlog_tokens.specs.Spelling as marks
use Rattle.vlog_tokens.specs.Strings.{string_at}
use Rattle.vlog_tokens.specs.Strings as within
use Rattle.vlog_lexemes.specs.Strings.{parts_bytes, parts_value}
use Rattle.vlog_lexemes.specs.Lexemes.{MayFollow, one_of}
use Rattle.vlog_lexemes.specs.Fronts.{is_whole, most_kept, IsLarge}
use Rattle.vlog_lexemes.specs.Faults.{IsFault, no_token, ends_early, bad_behind, long_token, out_of_range, unended_comment, unended, unended_escape, bad_in_string, bad_escape, bad_in_escape, large_code, long_string, long_by_escape, long_by_code, begins_item, count_of}
use Rattle.vlog_lexemes.proofs.Scans.{Scanned, EndsIn, end_read, name_ends, escaped_ends, whole_ends, fraction_ends, exponent_ends, digits_end, unknown_ends, directive_ends}
use Rattle.vlog_lexemes.proofs.Shapes.{text_says, based_text}
use Rattle.vlog_lexemes.proofs.Strings as strings
use Rattle.vlog_lexemes.proofs.Fronts.{Front, OfName, AtEscape, OfEscaped, OfNumeral, AtPoint, OfFixed, AtMark, AtSign, OfScaled, AtQuote, AtSigned, AtLetter, OfDigits, OfUnknown, AtGrave, OfDirective, phase_of, front_bytes, front_text, IsFront, follows_of, IsScanned, scan_sound}
use Rattle.vlog_lexemes.proofs.Steps.{most_is, ScanFault, early, wrong, long, scan_faulty, reads_early, reads_wrong, reads_long}
use Rattle.vlog_lexemes.proofs.StringFaults.{string_then, reads_unended, reads_slash_end, reads_bad, reads_bad_escape, reads_bad_in_escape, reads_large, reads_long_escape, reads_long_code}
use Rattle.vlog_lexemes.proofs.StringFaults as string_faults
use Rattle.vlog_lexemes.proofs.StringRows.{Row, string_faulty}
use Rattle.vlog_lexemes.proofs.Complete.{Answer}
use Rattle.vlog_lexemes.proofs.Leads.{front_reads, front_scan}
use Rattle.vlog_lexemes.proofs.Comments.{comment_unended, comment_faulty}

-- ---- values that are too large

-- an item of a front that is too large
large_none : (f : Front) → IsFront f → IsLarge f → item_of (phase_of f) (front_text f) ≡ None
unfolding item_of number_of
large_none (OfName bytes) is large = absurd large
large_none AtEscape is large = absurd large
large_none (OfEscaped name) is large = absurd large
large_none (OfNumeral w) is large = rw (le-ltb (decimal_value w) (2 ^ 63) large) refl
large_none (AtPoint w) is large = absurd large
large_none (OfFixed w f) is large = ap real_item large
large_none (AtMark m x) is large = absurd large
large_none (AtSign m x s) is large = absurd large
large_none (OfScaled m x s e) is large = ap real_item large
large_none AtQuote is large = absurd large
large_none (AtSigned s) is large = absurd large
large_none (AtLetter sign signed letter base white) is large = absurd large
large_none (OfDigits sign signed letter base white digits) is large =
    let says = text_says sign signed letter base digits is.0.0 is.0.1 in
    let no_value : has_value base (digits_of (based_text sign letter digits)) ≡ false = ap (has_value base) says.1 ∙ large in
    rw no_value refl
large_none (OfUnknown sign signed letter white digits) is large =
    let says = text_says sign signed letter Decimal digits is.0.0 is.0.1 in
    let no_value : has_value Decimal (digits_of (based_text sign letter digits)) ≡ false = ap (has_value Decimal) says.1 ∙ large in
    rw no_value refl
large_none AtGrave is large = absurd large
large_none (OfDirective word) is large = absurd large

none_real : (o : Option Scaled) → real_item o ≡ None → o ≡ None
none_real None e = refl
none_real (Some r) e = absurd cc

none_based : (base : Base) (text digits : List ℕ) (t : Bool) → has_value base digits ≡ t → based_item base text digits ≡ None → t ≡ false
none_based base text digits false h e = refl
none_based base text digits true h e = absurd (let some = rw h at e in cc)

none_large : (f : Front) → IsFront f → is_complete (phase_of f) ≡ true → item_of (phase_of f) (front_text f) ≡ None → IsLarge f
unfolding item_of number_of is_complete
none_large (OfName bytes) is whole e = absurd cc
none_large AtEscape is whole e = absurd cc
none_large (OfEscaped name) is whole e = absurd cc
none_large (OfNumeral w) is whole e = by (ltb (decimal_value w) (2 ^ 63)) refl
  where
    by : (t : Bool) → ltb (decimal_value w) (2 ^ 63) ≡ t → 2 ^ 63 ≤ decimal_value w
    by false h = ltb-false _ _ h
    by true h = absurd (let some = rw h at e in cc)
none_large (AtPoint w) is whole e = absurd cc
none_large (OfFixed w f) is whole e = none_real (real_of (w ++ 46 ∷ f)) e
none_large (AtMark m x) is whole e = absurd cc
none_large (AtSign m x s) is whole e = absurd cc
none_large (OfScaled m x s y) is whole e = none_real (real_of (m ++ x ∷ (s ++ y))) e
none_large AtQuote is whole e = absurd cc
none_large (AtSigned s) is whole e = absurd cc
none_large (AtLetter sign signed letter base white) is whole e = absurd cc
none_large (OfDigits sign signed letter base white digits) is whole e =
    let text : List ℕ = based_text sign letter digits in
    let says = text_says sign signed letter base digits is.0.0 is.0.1 in
    ap (has_value base) (sym says.1) ∙ none_based base text (digits_of text) (has_value base (digits_of text)) refl e
none_large (OfUnknown sign signed letter white digits) is whole e =
    let text : List ℕ = based_text sign letter digits in
    let says = text_says sign signed letter Decimal digits is.0.0 is.0.1 in
    ap (has_value Decimal) (sym says.1) ∙ none_based Decimal text (digits_of text) (has_value Decimal (digits_of text)) refl e
none_large AtGrave is whole e = absurd cc
none_large (OfDirective word) is whole e = absurd cc

-- ---- from the table to the bytes

ends_in : (f : Front) → is_whole f ≡ true → EndsIn (phase_of f) (follows_of f)
ends_in (OfName bytes) e = name_ends
ends_in AtEscape e = absurd cc
ends_in (OfEscaped name) e = escaped_ends
ends_in (OfNumeral w) e = whole_ends
ends_in (AtPoint w) e = absurd cc
ends_in (OfFixed w f) e = fraction_ends
ends_in (AtMark m x) e = absurd cc
ends_in (AtSign m x s) e = absurd cc
ends_in (OfScaled m x s y) e = exponent_ends
ends_in AtQuote e = absurd cc
ends_in (AtSigned s) e = absurd cc
ends_in (AtLetter sign signed letter base white) e = absurd cc
ends_in (OfDigits sign signed letter base white digits) e = digits_end base
ends_in (OfUnknown sign signed letter white digits) e = unknown_ends
ends_in AtGrave e = absurd cc
ends_in (OfDirective word) e = directive_ends

large_whole : (f : Front) → IsLarge f → is_whole f ≡ true
large_whole (OfName bytes) large = absurd large
large_whole AtEscape large = absurd large
large_whole (OfEscaped name) large = absurd large
large_whole (OfNumeral w) large = refl
large_whole (AtPoint w) large = absurd large
large_whole (OfFixed w f) large = refl
large_whole (AtMark m x) large = absurd large
large_whole (AtSign m x s) large = absurd large
large_whole (OfScaled m x s y) large = refl
large_whole AtQuote large = absurd large
large_whole (AtSigned s) large = absurd large
large_whole (AtLetter sign signed letter base white) large = absurd large
large_whole (OfDigits sign signed letter base white digits) large = refl
large_whole (OfUnknown sign signed letter white digits) large = refl
large_whole AtGrave large = absurd large
large_whole (OfDirective word) large = absurd large

abbrev told : Reason → ℕ → ℕ → Answer
told reason before seen = flaw reason before seen

told_by : (reason : Reason) (a b c d : ℕ) → a ≡ c → b ≡ d → told reason a b ≡ told reason c d
told_by reason a b c d e f = ap (λ (x : ℕ). told reason x b) e ∙ ap (λ (x : ℕ). told reason c x) f

front_told : (f : Front) (b : ℕ) (bs rest : List ℕ) (reason : Reason) (before seen : ℕ) → b ∷ bs ≡ front_bytes f ++ rest → IsFront f
    → length (front_text f) ≤ most_kept f → scan_at (phase_of f) (front_text f) (length (front_bytes f)) rest ≡ flaw reason before seen
    → item_at b bs ≡ told reason before seen
front_told f b bs rest reason before seen e is short run = front_reads f b bs rest e is short ∙ ap (λ (x : Scanned). x >>= finish) run

large_told : (f : Front) (b : ℕ) (bs rest : List ℕ) → b ∷ bs ≡ front_bytes f ++ rest → IsFront f → MayFollow (follows_of f) rest
    → length (front_text f) ≤ most_kept f → IsLarge f → item_at b bs ≡ told NumberRange 0 (length (front_bytes f) + one_of rest)
large_told f b bs rest e is behind short large =
    let n : ℕ = length (front_bytes f) in
    front_reads f b bs rest e is short ∙ ap (λ (x : Scanned). x >>= finish) (end_read (phase_of f) (follows_of f) (front_text f) n rest (ends_in f (large_whole f large)) behind)
    ∙ ap (finished (record { value = record { phase = phase_of f; text = front_text f }; count = n; seen = n + one_of rest })) (large_none f is large)

quote_reads : (bs : List ℕ) → item_at 34 bs ≡ (string_at within.Parts [] 1 bs >>= str_of)
unfolding item_at
quote_reads bs = refl

block_reads : (bs : List ℕ) → item_at 47 (42 ∷ bs) ≡ comment_at false 2 bs
unfolding item_at
block_reads bs = refl

heads_of : (a b : ℕ) (xs ys : List ℕ) → a ∷ xs ≡ b ∷ ys → (a ≡ b) × (xs ≡ ys)
heads_of a b xs ys e = (cc, cc)

item_moved : (b c : ℕ) (bs cs : List ℕ) → b ∷ bs ≡ c ∷ cs → item_at b bs ≡ item_at c cs
item_moved b c bs cs e = let h = heads_of b c bs cs e in ap (λ (z : ℕ). item_at z bs) h.0 ∙ ap (item_at c) h.1

string_told : (b : ℕ) (bs cs : List ℕ) (reason : Reason) (before seen : ℕ) → b ∷ bs ≡ 34 ∷ cs
    → string_at within.Parts [] 1 cs ≡ flaw reason before seen → item_at b bs ≡ told reason before seen
string_told b bs cs reason before seen e run = item_moved b 34 bs cs e ∙ quote_reads cs ∙ ap (λ (x : strings.Spelled). x >>= str_of) run

starts_none : (b : ℕ) → begins_item b ≡ false → start_of b ≡ starts.Other
starts_none b e = grind (arith, nat_tests)

none_told : (b : ℕ) (bs : List ℕ) → begins_item b ≡ false → item_at b bs ≡ told BadByte 0 1
unfolding item_at
none_told b bs e = let start = starts_none b e in rw start refl

count_is : (b : ℕ) (bs whole : List ℕ) (n : ℕ) → b ∷ bs ≡ whole → length whole ≡ n → n ≡ length (b ∷ bs)
count_is b bs whole n e f = sym f ∙ sym (ap (length {A = ℕ}) e)

pub fault_complete : (b : ℕ) (bs : List ℕ) (reason : Reason) (before seen : ℕ) → IsFault (b ∷ bs) reason before seen
    → item_at b bs ≡ told reason before seen
fault_complete b bs reason before seen (no_token c rest e none) = item_moved b c bs rest e ∙ none_told c rest none
fault_complete b bs reason before seen (ends_early f e is part short) =
    let n : ℕ = length (front_bytes f) in
    let count = count_is b bs (front_bytes f) n e refl in
    front_told f b bs [] EndOfInput n n (e ∙ sym (append-nil (front_bytes f))) is short (reads_early f n part)
    ∙ told_by EndOfInput _ _ _ _ count count
fault_complete b bs reason before seen (bad_behind f c rest e is stands short) = front_told f b bs (c ∷ rest) BadByte _ _ e is short (reads_wrong f (length (front_bytes f)) c rest stands)
fault_complete b bs reason before seen (long_token f c rest e is goes full) = front_told f b bs (c ∷ rest) TokenTooLong _ _ e is (omega (arith, full)) (reads_long f (length (front_bytes f)) c rest goes full)
fault_complete b bs reason before seen (out_of_range f rest e is behind short large) = large_told f b bs rest e is behind short large
fault_complete b bs reason before seen (unended_comment body e none) =
    let count = count_is b bs (47 ∷ 42 ∷ body) (2 + length body) e (omega arith) in
    item_moved b 47 bs (42 ∷ body) e ∙ block_reads body ∙ comment_unended body false 2 (λ f. absurd cc) none ∙ told_by EndOfInput _ _ _ _ count count
fault_complete b bs reason before seen (unended ps e all most) =
    let count = count_is b bs (34 ∷ parts_bytes ps) (count_of ps) e (omega arith) in
    string_told b bs (parts_bytes ps) EndOfInput _ _ e (reads_unended ps all most) ∙ told_by EndOfInput _ _ _ _ count count
fault_complete b bs reason before seen (unended_escape ps e all most) =
    let count = count_is b bs (34 ∷ (parts_bytes ps ++ 92 ∷ [])) (count_of ps + 1) e (omega (arith, length-append (parts_bytes ps) (92 ∷ []))) in
    string_told b bs (parts_bytes ps ++ 92 ∷ []) EndOfInput _ _ e (string_then ps (92 ∷ []) all (omega arith) most ∙ reads_slash_end (parts_value ps) (count_of ps))
    ∙ told_by EndOfInput _ _ _ _ count count
fault_complete b bs reason before seen (bad_in_string ps c rest e all most bad) =
    string_told b bs (parts_bytes ps ++ c ∷ rest) BadByte _ _ e (string_then ps (c ∷ rest) all (omega arith) most ∙ reads_bad (parts_value ps) (count_of ps) c rest bad)
fault_complete b bs reason before seen (bad_escape ps c rest e all most none byte) =
    string_told b bs (parts_bytes ps ++ 92 ∷ c ∷ rest) BadEscape _ _ e (string_then ps (92 ∷ c ∷ rest) all (omega arith) most ∙ reads_bad_escape (parts_value ps) (count_of ps) c rest none byte)
fault_complete b bs reason before seen (bad_in_escape ps c rest e all most none byte) =
    string_told b bs (parts_bytes ps ++ 92 ∷ c ∷ rest) BadByte _ _ e (string_then ps (92 ∷ c ∷ rest) all (omega arith) most ∙ reads_bad_in_escape (parts_value ps) (count_of ps) c rest none byte)
fault_complete b bs reason before seen (large_code ps digits c rest e all most some few each byte octal large) =
    string_told b bs (parts_bytes ps ++ 92 ∷ (digits ++ c ∷ rest)) BadEscape _ _ e (string_then ps (92 ∷ (digits ++ c ∷ rest)) all (omega arith) most ∙ reads_large (parts_value ps) (count_of ps) digits c rest some few each byte octal large)
fault_complete b bs reason before seen (long_string ps c rest e all full byte) =
    string_told b bs (parts_bytes ps ++ c ∷ rest) TokenTooLong _ _ e (string_then ps (c ∷ rest) all (omega arith) (omega (arith, full)) ∙ string_faults.reads_long (parts_value ps) (count_of ps) c rest byte full)
fault_complete b bs reason before seen (long_by_escape ps c d rest e all full is) =
    string_told b bs (parts_bytes ps ++ 92 ∷ c ∷ rest) TokenTooLong _ _ e (string_then ps (92 ∷ c ∷ rest) all (omega arith) (omega (arith, full)) ∙ reads_long_escape (parts_value ps) (count_of ps) c d rest is full)
fault_complete b bs reason before seen (long_by_code ps digits rest e all full is) =
    string_told b bs (parts_bytes ps ++ 92 ∷ (digits ++ rest)) TokenTooLong _ _ e (string_then ps (92 ∷ (digits ++ rest)) all (omega arith) (omega (arith, full)) ∙ reads_long_code (parts_value ps) (count_of ps) digits rest is full)

-- ---- from the bytes to the table

abbrev flaw_in : Flaw → Answer → Flaw
flaw_in x (Err f) = f
flaw_in x (Ok y) = x

row_is : (bytes : List ℕ) (reason : Reason) (a b : ℕ) (x : Flaw) → told reason a b ≡ Err x → IsFault bytes reason a b → Row bytes x
row_is bytes reason a b x e f = subst (Row bytes) (ap (flaw_in x) e) f

early_row : (f : Front) (bytes : List ℕ) → bytes ≡ front_bytes f → IsFault bytes EndOfInput (length bytes) (length bytes)
    → IsFault bytes EndOfInput (length (front_bytes f)) (length (front_bytes f))
early_row f bytes e why = subst (λ (k : ℕ). IsFault bytes EndOfInput k k) (ap (length {A = ℕ}) e) why

scan_row : (bytes : List ℕ) (x : Flaw) → ScanFault bytes x → Row bytes x
scan_row bytes x (early f e is part short) = early_row f bytes e (ends_early f e is part short)
scan_row bytes x (wrong f b rest e is stands short) = bad_behind f b rest e is stands short
scan_row bytes x (long f b rest e is goes full) = long_token f b rest e is goes full

large_row : (bytes : List ℕ) (y : Piece Lexeme) (x : Flaw) → IsScanned bytes y → finish y ≡ Err x → Row bytes x
large_row bytes y x s e = by (item_of (phase_of s.front) (front_text s.front)) refl (ap (finished y) same ∙ e)
  where
    same : item_of (phase_of s.front) (front_text s.front) ≡ item_of y.value.phase y.value.text
    same = sym (ap (λ (z : Phase). item_of z y.value.text) s.phase ∙ ap (item_of (phase_of s.front)) s.text)

    by : (o : Option Item) → item_of (phase_of s.front) (front_text s.front) ≡ o
        → finished y (item_of (phase_of s.front) (front_text s.front)) ≡ Err x → Row bytes x
    by (Some item) is e = absurd (let no_fault = rw is at e in cc)
    by None is e =
        let fault : told NumberRange 0 y.seen ≡ Err x = rw is at e in
        row_is bytes NumberRange 0 y.seen x fault
        (subst (λ (k : ℕ). IsFault bytes NumberRange 0 k) (sym s.seen) (out_of_range s.front s.rest s.is_bytes s.is s.behind (omega (arith, s.short, most_is s.front)) (none_large s.front s.is s.complete is)))

front_faulty : (f : Front) (bs : List ℕ) (x : Flaw) → IsFront f → length (front_text f) ≤ most_of (phase_of f)
    → (scan_at (phase_of f) (front_text f) (length (front_bytes f)) bs >>= finish) ≡ Err x → Row (front_bytes f ++ bs) x
front_faulty f bs x is short = by (scan_at (phase_of f) (front_text f) (length (front_bytes f)) bs) (λ y e. scan_sound bs f y is short e) (λ y e. scan_faulty bs f y is short e)
  where
    by : (r : Scanned) → ((y : Piece Lexeme) → r ≡ Ok y → IsScanned (front_bytes f ++ bs) y)
        → ((y : Flaw) → r ≡ Err y → ScanFault (front_bytes f ++ bs) y) → (r >>= finish) ≡ Err x → Row (front_bytes f ++ bs) x
    by (Ok y) sound faulty e = large_row (front_bytes f ++ bs) y x (sound y refl) e
    by (Err y) sound faulty e = scan_row (front_bytes f ++ bs) x (faulty x (ap (λ (z : Flaw). Err z) (ap (flaw_in y) e)))

abbrev Faulty : ℕ → List ℕ → Flaw → Start → Type 0
Faulty b bs x s = item_by s b (b ∷ bs) ≡ Err x → Row (b ∷ bs) x

head : (b c : ℕ) (bs : List ℕ) → b ≡ c → b ∷ bs ≡ c ∷ bs
head b c bs e = ap (λ (z : ℕ). z ∷ bs) e

lexeme_faulty : (f : Front) (b c : ℕ) (bs : List ℕ) (phase : Phase) (x : Flaw) → phase ≡ phase_of f → b ≡ c → front_bytes f ≡ c ∷ []
    → kept phase b ≡ front_text f → IsFront f → length (front_text f) ≤ most_of (phase_of f) → Faulty b bs x (starts.Lexeme phase)
lexeme_faulty f b c bs phase x at e bytes text is short fault =
    let one : length (front_bytes f) ≡ 1 = ap (length {A = ℕ}) bytes in
    let same : scan_at (phase_of f) (front_text f) (length (front_bytes f)) bs ≡ scan_at phase (kept phase b) 1 bs =
    ap (λ (k : ℕ). scan_at (phase_of f) (front_text f) k bs) one ∙ ap (λ (z : List ℕ). scan_at (phase_of f) z 1 bs) (sym text) ∙ ap (λ (z : Phase). scan_at z (kept phase b) 1 bs) (sym at) in
    subst (λ (z : List ℕ). Row z x) (ap (λ (z : List ℕ). z ++ bs) bytes ∙ sym (head b c bs e)) (front_faulty f bs x is short (ap (λ (y : Scanned). y >>= finish) same ∙ fault))

quoted_faulty : (b : ℕ) (bs : List ℕ) (x : Flaw) → b ≡ 34 → Faulty b bs x starts.Quote
quoted_faulty b bs x e = by (string_at within.Parts [] 1 bs) (λ y is. string_faulty bs y is)
  where
    by : (r : strings.Spelled) → ((y : Flaw) → r ≡ Err y → Row (34 ∷ bs) y) → (r >>= str_of) ≡ Err x → Row (b ∷ bs) x
    by (Ok y) faulty fault = absurd cc
    by (Err y) faulty fault = subst (λ (z : List ℕ). Row z x) (sym (head b 34 bs e)) (faulty x (ap (λ (z : Flaw). Err z) (ap (flaw_in y) fault)))

split_cond : {P : Type 0} (t : Bool) (x y : Answer) (f : Flaw) → cond t x y ≡ Err f → (t ≡ true → x ≡ Err f → P) → (t ≡ false → y ≡ Err f → P) → P
split_cond {P} true x y f e p q = p refl e
split_cond {P} false x y f e p q = q refl e

open_faulty : (b : ℕ) (bs : List ℕ) (x : Flaw) → Faulty b bs x starts.Open
open_faulty b [] x fault = absurd cc
open_faulty b (c ∷ cs) x fault = split_cond (eqb c 42) _ _ x fault (λ e f. absurd cc) (λ e f. absurd cc)

star_faulty : (b : ℕ) (bs : List ℕ) (x : Flaw) → Faulty b bs x starts.Star
star_faulty b [] x fault = absurd cc
star_faulty b (c ∷ cs) x fault = split_cond (eqb c 41) _ _ x fault (λ e f. absurd cc) (λ e f. absurd cc)

slash_faulty : (b : ℕ) (bs : List ℕ) (x : Flaw) → b ≡ 47 → Faulty b bs x starts.Slash
slash_faulty b [] x e fault = absurd cc
slash_faulty b (c ∷ cs) x e fault =
    split_cond (eqb c 47) _ _ x fault (λ line no_fault. absurd cc)
    (λ other fault. split_cond (eqb c 42) _ _ x fault
    (λ block fault. let u = comment_faulty cs false 2 x fault in
    let bytes : b ∷ c ∷ cs ≡ 47 ∷ 42 ∷ cs = head b 47 (c ∷ cs) e ∙ ap (λ (z : ℕ). 47 ∷ z ∷ cs) (eqb-true c 42 block) in
    let count : length (b ∷ c ∷ cs) ≡ 2 + length cs = omega arith in
    row_is (b ∷ c ∷ cs) EndOfInput (2 + length cs) (2 + length cs) x u.why (subst (λ (k : ℕ). IsFault (b ∷ c ∷ cs) EndOfInput k k) count (unended_comment cs bytes u.none)))
    (λ symbol no_fault. absurd cc))

cond_start : (P : Start → Type 0) (t : Bool) (x y : Start) → (t ≡ true → P x) → (t ≡ false → P y) → P (cond t x y)
cond_start P true x y p q = p refl
cond_start P false x y p q = q refl

or_none : (x y : Bool) → x ≡ false → y ≡ false → (x || y) ≡ false
or_none x y e f = rw (e, f) refl

pub item_faulty : (b : ℕ) (bs : List ℕ) (x : Flaw) → item_at b bs ≡ Err x → Row (b ∷ bs) x
unfolding item_at kept most_of
item_faulty b bs x =
    let P : Start → Type 0 = Faulty b bs x in
    cond_start P (is_verilog_space b) _ _ (λ e fault. absurd cc)
    (λ n0. cond_start P (is_ascii_alphabetic b || eqb b 95) _ _ (λ e. lexeme_faulty (OfName (b ∷ [])) b b bs phases.Word x refl refl refl refl (e, tt) (lit≤ tt))
    (λ n1. cond_start P (is_ascii_digit b) _ _ (λ e. lexeme_faulty (OfNumeral (b ∷ [])) b b bs phases.Whole x refl refl refl refl (e, tt) (lit≤ tt))
    (λ n2. cond_start P (eqb b 92) _ _ (λ e. lexeme_faulty AtEscape b 92 bs phases.Escape x refl (eqb-true b 92 e) refl refl tt (lit≤ tt))
    (λ n3. cond_start P (eqb b 39) _ _ (λ e. lexeme_faulty AtQuote b 39 bs phases.Prefix x refl (eqb-true b 39 e) refl (ap (λ (z : ℕ). z ∷ []) (eqb-true b 39 e)) tt (lit≤ tt))
    (λ n4. cond_start P (eqb b 96) _ _ (λ e. lexeme_faulty AtGrave b 96 bs phases.Grave x refl (eqb-true b 96 e) refl (ap (λ (z : ℕ). z ∷ []) (eqb-true b 96 e)) tt (lit≤ tt))
    (λ n5. cond_start P (eqb b 34) _ _ (λ e. quoted_faulty b bs x (eqb-true b 34 e))
    (λ n6. cond_start P (eqb b 40) _ _ (λ e. open_faulty b bs x)
    (λ n7. cond_start P (eqb b 42) _ _ (λ e. star_faulty b bs x)
    (λ n8. cond_start P (eqb b 47) _ _ (λ e. slash_faulty b bs x (eqb-true b 47 e))
    (λ n9. cond_start P (marks.is_mark b) _ _ (λ e fault. absurd cc)
    (λ n10. cond_start P (marks.is_symbol b) _ _ (λ e fault. absurd cc)
    (λ n11 fault. row_is (b ∷ bs) BadByte 0 1 x fault (no_token b bs refl
    (or_none _ _ (or_none _ _ (or_none _ _ (or_none _ _ (or_none _ _ (or_none _ _ (or_none _ _ (or_none _ _ (or_none _ _ (or_none _ _ (or_none _ _ n0 n1) n2) n3) n4) n5) n6) n7) n8) n9) n10) n11))))))))))))))

-- a fault is that of some bytes
not_empty : (f : Front) (rest : List ℕ) → IsFront f → [] ≡ front_bytes f ++ rest → ⊥
not_empty f rest is e = let s = front_scan f is in let whole : [] ≡ s.first ∷ (s.tail ++ rest) = e ∙ ap (λ (z : List ℕ). z ++ rest) s.is_bytes in cc

pub fault_not_empty : (reason : Reason) (before seen : ℕ) → IsFault [] reason before seen → ⊥
fault_not_empty reason before seen (no_token c rest e none) = cc
fault_not_empty reason before seen (ends_early f e is part short) = not_empty f [] is (e ∙ sym (append-nil (front_bytes f)))
fault_not_empty reason before seen (bad_behind f c rest e is stands short) = not_empty f (c ∷ rest) is e
fault_not_empty reason before seen (long_token f c rest e is goes full) = not_empty f (c ∷ rest) is e
fault_not_empty reason before seen (out_of_range f rest e is behind short large) = not_empty f rest is e
fault_not_empty reason before seen (unended_comment body e none) = cc
fault_not_empty reason before seen (unended ps e all most) = cc
fault_not_empty reason before seen (unended_escape ps e all most) = cc
fault_not_empty reason before seen (bad_in_string ps c rest e all most wrong_byte) = cc
fault_not_empty reason before seen (bad_escape ps c rest e all most none byte) = cc
fault_not_empty reason before seen (bad_in_escape ps c rest e all most none byte) = cc
fault_not_empty reason before seen (large_code ps digits c rest e all most some few each byte octal large) = cc
fault_not_empty reason before seen (long_string ps c rest e all full byte) = cc
fault_not_empty reason before seen (long_by_escape ps c d rest e all full is) = cc
fault_not_empty reason before seen (long_by_code ps digits rest e all full is) = cc
