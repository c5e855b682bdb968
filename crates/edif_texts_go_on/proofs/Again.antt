-- A token reads as before where other bytes stand behind it, if a word or an integer still ends there.
use Rattle.std.proofs.Common.{◌≡◌, ℕ, suc, ◌+◌, ◌-◌, ◌*◌, ◌≤◌, Bool, true, false, cond, ltb, eqb, List, [], ◌∷◌, ◌++◌, length, take, drop, Option, Some, None, Result, Ok, Err, IsTrue, refl, sym, ap, ◌∙◌, subst, arith}
use Rattle.std.specs.Prelude.{IfSome, ℤ, ◌&&◌}
use Rattle.std.specs.Char.{is_ascii_digit}
use Rattle.std.specs.List.{prefix_len}
use Rattle.std.proofs.lemmas.Bool.{ltb-false, le-ltb}
use Rattle.std.proofs.lemmas.Bool.Decides.{nat_tests}
use Rattle.std.proofs.lemmas.List.{length-take, take-append-drop}
use Rattle.std.proofs.lemmas.List.Sums.{prefix_len-le-length}
use Rattle.nl_base.specs.declared.fault.Reason.{Reason}
use Rattle.nl_base.specs.declared.fault.Reason.TheVariants.{EndOfInput, BadByte, BadEscape, TokenTooLong}
use Rattle.nl_bytes.specs.Bytes.{first}
use Rattle.nl_bytes.specs.Classes.{is_space, is_word_byte, is_string_byte}
use Rattle.nl_bytes.proofs.Fronts.{front-all}
use Rattle.edif_values.specs.declared.token.Token.{Token}
use Rattle.edif_values.specs.declared.token.Token.TheVariants.{Word, Number, Str}
use Rattle.edif_tokens.specs.declared.scan.Start.{Start}
use Rattle.edif_tokens.specs.declared.scan.Start.TheVariants.{Open, Close, Quote, Letter, Ampersand, Digit, Sign, Other}
use Rattle.nl_bytes.specs.Flaws.{Piece, Flaw, flaw, ◌>>=◌}
use Rattle.edif_tokens.specs.Strings.{Within, Escape, Code, string_at, is_full}
use Rattle.edif_tokens.specs.Strings as within
use Rattle.edif_tokens.specs.Spelling.{span_at, ended, may_follow, goes_on, text_at, word_of, number_of, number_or_range, integer_of, str_of, token_by}
use Rattle.edif_tokens.proofs.Spans.{AllPass, span_run}
use Rattle.edif_lexing.proofs.Lexing.{Parts, piece}

-- ---- words and integers

-- bytes of a class behind a first byte, behind which the text ends
record Run (class : ℕ → Bool) (b : ℕ) (bs : List ℕ) (text : Piece (List ℕ)) : Type 0 where
  tail : List ℕ
  rest : List ℕ
  parts : bs ≡ tail ++ rest
  all : AllPass class tail
  short : suc (length tail) ≤ 1024
  value : text.value ≡ b ∷ tail
  count : text.count ≡ suc (length tail)
  follows : Parts rest

record Ended (text : List ℕ) (n : ℕ) (next : Option ℕ) (found : Piece (List ℕ)) : Type 0 where
  value : found.value ≡ text
  count : found.count ≡ n
  follows : IfSome next (λ b. IsTrue (may_follow b))

ended_there : (text : List ℕ) (n : ℕ) (next : Option ℕ) (found : Piece (List ℕ)) → ended text n next ≡ Ok found → Ended text n next found
ended_there text n None found e = record { value = cc; count = cc; follows = tt }
ended_there text n (Some b) found e = by (may_follow b) refl e
  where
    by : (t : Bool) → may_follow b ≡ t → cond t (piece text n (n + 1)) (flaw {A = Piece (List ℕ)} BadByte n (n + 1)) ≡ Ok found
        → Ended text n (Some b) found
    by true is e = record { value = cc; count = cc; follows = is }
    by false is e = absurd cc

one_more : (n : ℕ) → 1 + n ≡ suc n
one_more n = omega arith

span_there : (class : ℕ → Bool) (b : ℕ) (bs : List ℕ) (text : Piece (List ℕ)) → span_at class 1 (b ∷ bs) ≡ Ok text → Run class b bs text
unfolding span_at
span_there class b bs text e = by (ltb 1024 (1 + prefix_len class bs)) refl e
  where
    n : ℕ
    n = prefix_len class bs

    by : (t : Bool) → ltb 1024 (1 + prefix_len class bs) ≡ t
        → cond t (flaw {A = Piece (List ℕ)} TokenTooLong 0 1025) (ended (take (1 + prefix_len class bs) (b ∷ bs)) (1 + prefix_len class bs) (first (drop (1 + prefix_len class bs) (b ∷ bs)))) ≡ Ok text
        → Run class b bs text
    by true is e = absurd cc
    by false is e =
        let there = ended_there (take (1 + prefix_len class bs) (b ∷ bs)) (1 + prefix_len class bs) (first (drop (1 + prefix_len class bs) (b ∷ bs))) text e in
        let long : length (take (prefix_len class bs) bs) ≡ prefix_len class bs = omega (arith, length-take (prefix_len class bs) bs, prefix_len-le-length class bs) in
        let le = ltb-false _ _ is in
        record {
          tail = take (prefix_len class bs) bs;
          rest = drop (prefix_len class bs) bs;
          parts = sym (take-append-drop (prefix_len class bs) bs);
          all = front-all class bs;
          short = omega (arith, le, long);
          value = there.value ∙ ap (λ (k : ℕ). take k (b ∷ bs)) (one_more (prefix_len class bs));
          count = there.count ∙ omega (arith, long);
          follows = subst (λ (k : ℕ). IfSome (first (drop k (b ∷ bs))) (λ c. IsTrue (may_follow c))) (one_more (prefix_len class bs)) there.follows;
        }

follows_no_word : (b : ℕ) → may_follow b ≡ true → is_word_byte b ≡ false
follows_no_word b h = grind (arith, nat_tests)

follows_no_digit : (b : ℕ) → may_follow b ≡ true → is_ascii_digit b ≡ false
follows_no_digit b h = grind (arith, nat_tests)

-- no byte that may follow is of the class
abbrev StandsApart : (ℕ → Bool) → Type 0
StandsApart class = (c : ℕ) → may_follow c ≡ true → class c ≡ false

ends : (text rest : List ℕ) (n : ℕ) → Parts rest → (seen : ℕ) × (ended text n (first rest) ≡ piece text n seen)
ends text [] n h = (n, refl)
ends text (b ∷ bs) n h = (n + 1, rw h refl)

no_longer : (class : ℕ → Bool) (rest : List ℕ) (n : ℕ) → StandsApart class → Parts rest → IfSome (first rest) (λ b. IsTrue (class b) → n ≡ 1025)
no_longer class [] n other h = tt
no_longer class (c ∷ cs) n other h = λ t. let f = other c h in absurd cc

-- the run reads as before where it still ends
run_again : (class : ℕ → Bool) (b : ℕ) (tail rest : List ℕ) → AllPass class tail → suc (length tail) ≤ 1024 → StandsApart class → Parts rest
    → (seen : ℕ) × (span_at class 1 (b ∷ (tail ++ rest)) ≡ piece (b ∷ tail) (suc (length tail)) seen)
run_again class b tail rest all short other h =
    let e = ends (b ∷ tail) rest (suc (length tail)) h in
    (e.0, span_run class (b ∷ []) tail rest (first rest) all (omega (arith, short)) refl (no_longer class rest (1 + length tail) other h) ∙ rw (le-ltb 1024 (suc (length tail)) short) e.1)

-- a text of a first byte, with or without a lead
record Text (class : ℕ → Bool) (lead : Bool) (b : ℕ) (bs : List ℕ) (text : Piece (List ℕ)) : Type 0 where
  tail : List ℕ
  rest : List ℕ
  parts : bs ≡ tail ++ rest
  count : text.count ≡ suc (length tail)
  follows : Parts rest
  again : (other : List ℕ) → Parts other → (seen : ℕ) × (text_at class lead (b ∷ (tail ++ other)) ≡ piece text.value (suc (length tail)) seen)

spelled_again : (class : ℕ → Bool) (b : ℕ) (bs : List ℕ) (text : Piece (List ℕ)) → StandsApart class → (r : Run class b bs text) (other : List ℕ)
    → Parts other
    → (seen : ℕ) × (span_at class 1 (b ∷ (r.tail ++ other)) ≡ piece text.value (suc (length r.tail)) seen)
spelled_again class b bs text apart r other h =
    let a = run_again class b r.tail other r.all r.short apart h in
    (a.0, a.1 ∙ ap (λ (v : List ℕ). piece v (suc (length r.tail)) a.0) (sym r.value))

-- behind the lead a byte of the class stands
leads : (class : ℕ → Bool) (c : ℕ) (cs tail rest : List ℕ) → class c ≡ true → c ∷ cs ≡ tail ++ rest → AllPass class tail → Parts rest
    → StandsApart class
    → (other : List ℕ) (text : Result (Piece (List ℕ)) Flaw) → goes_on class (first (tail ++ other)) text ≡ text
leads class c cs [] rest is e all h apart other text =
    let there : Parts (c ∷ cs) = subst Parts (sym e) h in
    let no = apart c there in absurd cc
leads class c cs (d ∷ tail) rest is e all h apart other text = rw all.0 refl

text_there : (class : ℕ → Bool) (lead : Bool) (b : ℕ) (bs : List ℕ) (text : Piece (List ℕ)) → StandsApart class
    → text_at class lead (b ∷ bs) ≡ Ok text → Text class lead b bs text
text_there class false b bs text apart e =
    let r = span_there class b bs text e in
    record { tail = r.tail; rest = r.rest; parts = r.parts; count = r.count; follows = r.follows; again = spelled_again class b bs text apart r }
text_there class true b [] text apart e = absurd cc
text_there class true b (c ∷ cs) text apart e = by (class c) refl e
  where
    by : (t : Bool) → class c ≡ t → cond t (span_at class 1 (b ∷ c ∷ cs)) (flaw {A = Piece (List ℕ)} BadByte 1 2) ≡ Ok text
        → Text class true b (c ∷ cs) text
    by false is e = absurd cc
    by true is e =
        let r = span_there class b (c ∷ cs) text e in
        record {
          tail = r.tail;
          rest = r.rest;
          parts = r.parts;
          count = r.count;
          follows = r.follows;
          again = λ other h.
              let a = spelled_again class b (c ∷ cs) text apart r other h in
              (a.0, leads class c cs r.tail r.rest is r.parts r.all r.follows apart other (span_at class 1 (b ∷ (r.tail ++ other))) ∙ a.1);
        }

-- ---- strings

-- some bytes spell this, and do so whatever stands behind them
record Spells (n : ℕ) (bs : List ℕ) (reading : List ℕ → Result (Piece (List ℕ)) Flaw) (text : Piece (List ℕ)) : Type 0 where
  used : List ℕ
  rest : List ℕ
  parts : bs ≡ used ++ rest
  count : text.count ≡ n + length used
  again : (other : List ℕ) → reading (used ++ other) ≡ Ok text

abbrev Reads : ℕ → List ℕ → (List ℕ → Result (Piece (List ℕ)) Flaw) → Type 0
Reads n bs reading = (text : Piece (List ℕ)) → reading bs ≡ Ok text → Spells n bs reading text

reads_either : {n : ℕ} {bs : List ℕ} {f g : List ℕ → Result (Piece (List ℕ)) Flaw} (t : Bool) → Reads n bs f → Reads n bs g
    → Reads n bs (λ z. cond t (f z) (g z))
reads_either true h k = h
reads_either false h k = k

reads_none : {n : ℕ} {bs : List ℕ} (reason : Reason) (before seen : ℕ) → Reads n bs (λ z. flaw reason before seen)
reads_none reason before seen text e = absurd cc

reads_end : {bs : List ℕ} (v : List ℕ) (n : ℕ) → Reads n bs (λ z. piece v n n)
reads_end {bs} v n text e = record { used = []; rest = bs; parts = refl; count = let k : n ≡ text.count = cc in omega (arith, k); again = λ other. e }

reads_byte : (n b : ℕ) (bs : List ℕ) (reading behind : List ℕ → Result (Piece (List ℕ)) Flaw) → Reads (n + 1) bs behind
    → ((z : List ℕ) → reading (b ∷ z) ≡ behind z) → Reads n (b ∷ bs) reading
reads_byte n b bs reading behind h same text e =
    let s = h text (sym (same bs) ∙ e) in
    record {
      used = b ∷ s.used;
      rest = s.rest;
      parts = ap (λ (z : List ℕ). b ∷ z) s.parts;
      count = s.count ∙ omega arith;
      again = λ other. same (s.used ++ other) ∙ s.again other;
    }

string_reads : (m : Within) (v : List ℕ) (n : ℕ) (bs : List ℕ) → Reads n bs (string_at m v n)
unfolding string_at
string_reads within.Parts v n [] = λ text e. absurd cc
string_reads (Escape s coded) v n [] = λ text e. absurd cc
string_reads (Code s code) v n [] = λ text e. by (is_full v) text e
  where
    by : (t : Bool) (text : Piece (List ℕ)) → cond t (flaw {A = Piece (List ℕ)} TokenTooLong 0 n) (flaw EndOfInput n n) ≡ Ok text
        → Spells n [] (string_at (Code s code) v n) text
    by true text e = absurd cc
    by false text e = absurd cc
string_reads within.Parts v n (b ∷ bs) =
    reads_byte n b bs (string_at within.Parts v n) _
    (reads_either (eqb b 34) (reads_end v (n + 1))
    (reads_either (eqb b 37) (string_reads (Escape n false) v (n + 1) bs)
    (reads_either (is_string_byte b) (reads_either (is_full v) (reads_none TokenTooLong 0 (n + 1)) (string_reads within.Parts (v ++ b ∷ []) (n + 1) bs)) (reads_none BadByte n (n + 1))))) (λ z. refl)
string_reads (Escape s coded) v n (b ∷ bs) =
    reads_byte n b bs (string_at (Escape s coded) v n) _
    (reads_either (is_space b) (string_reads (Escape s coded) v (n + 1) bs)
    (reads_either (is_ascii_digit b) (string_reads (Code s (b - 48)) v (n + 1) bs)
    (reads_either (coded && eqb b 37) (string_reads within.Parts v (n + 1) bs) (reads_none BadEscape s (n + 1))))) (λ z. refl)
string_reads (Code s code) v n (b ∷ bs) =
    reads_byte n b bs (string_at (Code s code) v n) _
    (reads_either (is_ascii_digit b) (reads_either (ltb 255 (10 * code + (b - 48))) (reads_none BadEscape s (n + 1)) (string_reads (Code s (10 * code + (b - 48))) v (n + 1) bs))
    (reads_either (is_full v) (reads_none TokenTooLong 0 n)
    (reads_either (is_space b) (string_reads (Escape s true) (v ++ code ∷ []) (n + 1) bs)
    (reads_either (eqb b 37) (string_reads within.Parts (v ++ code ∷ []) (n + 1) bs) (reads_none BadEscape s (n + 1)))))) (λ z. refl)

-- ---- tokens

-- the bytes of a token behind its first, and the token read again where other bytes stand behind them
pub record Token-again (start : Start) (b : ℕ) (bs : List ℕ) (token : Piece Token) : Type 0 where
  pub tail : List ℕ
  pub rest : List ℕ
  pub parts : bs ≡ tail ++ rest
  pub count : token.count ≡ suc (length tail)
  pub again : (other : List ℕ) → (Parts rest → Parts other)
      → (seen : ℕ) × (token_by start (b ∷ (tail ++ other)) ≡ piece token.value (suc (length tail)) seen)

mark_again : (start : Start) (b : ℕ) (bs : List ℕ) (x : Token) (token : Piece Token) → ((z : List ℕ) → token_by start z ≡ piece x 1 1)
    → token_by start (b ∷ bs) ≡ Ok token → Token-again start b bs token
mark_again start b bs x token spelled e =
    let is : piece x 1 1 ≡ Ok token = sym (spelled (b ∷ bs)) ∙ e in
    record { tail = []; rest = bs; parts = refl; count = cc is; again = λ other h. (1, spelled (b ∷ other) ∙ value is) }
  where
    value : piece x 1 1 ≡ Ok token → piece x 1 1 ≡ piece token.value 1 1
    value is = cc

word_again : (start : Start) (lead : Bool) (b : ℕ) (bs : List ℕ) (token : Piece Token)
    → ((z : List ℕ) → token_by start z ≡ (text_at is_word_byte lead z >>= word_of)) → token_by start (b ∷ bs) ≡ Ok token
    → Token-again start b bs token
word_again start lead b bs token spelled e = by (text_at is_word_byte lead (b ∷ bs)) refl (sym (spelled (b ∷ bs)) ∙ e)
  where
    by : (r : Result (Piece (List ℕ)) Flaw) → text_at is_word_byte lead (b ∷ bs) ≡ r → (r >>= word_of) ≡ Ok token → Token-again start b bs token
    by (Err f) is e = absurd cc
    by (Ok text) is e =
        let t = text_there is_word_byte lead b bs text follows_no_word is in
        let value : Word text.value ≡ token.value = cc in
        let long : text.count ≡ token.count = cc in
        record {
          tail = t.tail;
          rest = t.rest;
          parts = t.parts;
          count = sym long ∙ t.count;
          again = λ other h.
              let a = t.again other (h t.follows) in
              (a.0, spelled (b ∷ (t.tail ++ other)) ∙ (rw a.1 (ap (λ (v : Token). piece v (suc (length t.tail)) a.0) value)));
        }

number_again : (start : Start) (lead : Bool) (b : ℕ) (bs : List ℕ) (token : Piece Token)
    → ((z : List ℕ) → token_by start z ≡ (text_at is_ascii_digit lead z >>= number_of)) → token_by start (b ∷ bs) ≡ Ok token
    → Token-again start b bs token
number_again start lead b bs token spelled e = by (text_at is_ascii_digit lead (b ∷ bs)) refl (sym (spelled (b ∷ bs)) ∙ e)
  where
    of_value : (text : Piece (List ℕ)) (z : Option ℤ) → text_at is_ascii_digit lead (b ∷ bs) ≡ Ok text → integer_of text.value ≡ z
        → number_or_range text z ≡ Ok token → Token-again start b bs token
    of_value text None is number e = absurd cc
    of_value text (Some z) is number e =
        let t = text_there is_ascii_digit lead b bs text follows_no_digit is in
        let value : Number z ≡ token.value = cc in
        let long : text.count ≡ token.count = cc in
        record {
          tail = t.tail;
          rest = t.rest;
          parts = t.parts;
          count = sym long ∙ t.count;
          again = λ other h.
              let a = t.again other (h t.follows) in
              (a.0, spelled (b ∷ (t.tail ++ other)) ∙ (rw (a.1, number) (ap (λ (v : Token). piece v (suc (length t.tail)) a.0) value)));
        }

    by : (r : Result (Piece (List ℕ)) Flaw) → text_at is_ascii_digit lead (b ∷ bs) ≡ r → (r >>= number_of) ≡ Ok token → Token-again start b bs token
    by (Err f) is e = absurd cc
    by (Ok text) is e = of_value text (integer_of text.value) is refl e

same_piece : {x y : Token} {m n seen : ℕ} → x ≡ y → m ≡ n → piece x m seen ≡ piece y n seen
same_piece v c = cc

string_again : (b : ℕ) (bs : List ℕ) (token : Piece Token) → token_by Quote (b ∷ bs) ≡ Ok token → Token-again Quote b bs token
string_again b bs token e = by (string_at within.Parts [] 1 bs) refl e
  where
    by : (r : Result (Piece (List ℕ)) Flaw) → string_at within.Parts [] 1 bs ≡ r → (r >>= str_of) ≡ Ok token → Token-again Quote b bs token
    by (Err f) is e = absurd cc
    by (Ok text) is e =
        let s = string_reads within.Parts [] 1 bs text is in
        let value : Str text.value ≡ token.value = cc in
        let long : text.count ≡ token.count = cc in
        let counted = s.count in
        let all : token.count ≡ suc (length s.used) = omega (arith, long, counted) in
        record {
          tail = s.used;
          rest = s.rest;
          parts = s.parts;
          count = all;
          again = λ other h. (text.seen, rw (s.again other) (same_piece value (long ∙ all)));
        }

pub token_again : (start : Start) (b : ℕ) (bs : List ℕ) (token : Piece Token) → token_by start (b ∷ bs) ≡ Ok token → Token-again start b bs token
token_again Open b bs token e = mark_again Open b bs _ token (λ z. refl) e
token_again Close b bs token e = mark_again Close b bs _ token (λ z. refl) e
token_again Quote b bs token e = string_again b bs token e
token_again Letter b bs token e = word_again Letter false b bs token (λ z. refl) e
token_again Ampersand b bs token e = word_again Ampersand true b bs token (λ z. refl) e
token_again Digit b bs token e = number_again Digit false b bs token (λ z. refl) e
token_again Sign b bs token e = number_again Sign true b bs token (λ z. refl) e
token_again Other b bs token e = absurd cc
