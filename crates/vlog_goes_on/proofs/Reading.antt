-- Strings and comments are the same whatever stands behind them.
use Rattle.std.proofs.Common.{◌≡◌, ℕ, ◌+◌, ◌-◌, ◌*◌, Bool, true, false, cond, eqb, List, [], ◌∷◌, ◌++◌, length, Result, Ok, refl, sym, ap, ◌∙◌, arith}
use Rattle.std.specs.Prelude.{◌&&◌, nat_lt}
use Rattle.nl_base.specs.declared.fault.Reason.{Reason}
use Rattle.nl_base.specs.declared.fault.Reason.TheVariants.{EndOfInput, BadByte, BadEscape, TokenTooLong}
use Rattle.nl_bytes.specs.Classes.{is_verilog_string_byte}
use Rattle.vlog_tokens.specs.declared.item.Item.TheVariants.{Blank}
use Rattle.vlog_tokens.specs.declared.string.Escaped.{Escaped}
use Rattle.vlog_tokens.specs.declared.string.Escaped.TheVariants as escaped
use Rattle.nl_bytes.specs.Flaws.{Piece, Flaw, flaw}
use Rattle.vlog_tokens.specs.Spelling.{comment_at}
use Rattle.vlog_tokens.specs.Strings.{Within, Escape, Code, string_at, escaped_by, escape_by, part_by, with_code, is_full, is_octal}
use Rattle.vlog_tokens.specs.Strings as within
use Rattle.vlog_lexing.proofs.Scanning.{piece}

-- some bytes spell this, and do so whatever stands behind them
pub record Spells {A : Type 0} (n : ℕ) (bs : List ℕ) (reading : List ℕ → Result (Piece A) Flaw) (x : Piece A) : Type 0 where
  pub used : List ℕ
  pub rest : List ℕ
  pub parts : bs ≡ used ++ rest
  pub count : x.count ≡ n + length used
  pub again : (other : List ℕ) → reading (used ++ other) ≡ Ok x

abbrev pub Reads : {A : Type 0} → ℕ → List ℕ → (List ℕ → Result (Piece A) Flaw) → Type 0
Reads {A = A} n bs reading = (x : Piece A) → reading bs ≡ Ok x → Spells n bs reading x

reads_either : {A : Type 0} {n : ℕ} {bs : List ℕ} {f g : List ℕ → Result (Piece A) Flaw} (t : Bool) → Reads n bs f → Reads n bs g
    → Reads n bs (λ z. cond t (f z) (g z))
reads_either true h k = h
reads_either false h k = k

reads_none : {A : Type 0} {n : ℕ} {bs : List ℕ} (reason : Reason) (before seen : ℕ) → Reads {A = A} n bs (λ z. flaw reason before seen)
reads_none reason before seen x e = absurd cc

reads_end : {A : Type 0} {bs : List ℕ} (v : A) (n : ℕ) → Reads n bs (λ z. piece v n n)
reads_end {bs = bs} v n x e = record { used = []; rest = bs; parts = refl; count = let k : n ≡ x.count = cc in omega (arith, k); again = λ other. e }

reads_byte : {A : Type 0} (n b : ℕ) (bs : List ℕ) (reading behind : List ℕ → Result (Piece A) Flaw) → Reads (n + 1) bs behind
    → ((z : List ℕ) → reading (b ∷ z) ≡ behind z) → Reads n (b ∷ bs) reading
reads_byte n b bs reading behind h same x e =
    let s = h x (sym (same bs) ∙ e) in
    record {
      used = b ∷ s.used;
      rest = s.rest;
      parts = ap (λ (z : List ℕ). b ∷ z) s.parts;
      count = s.count ∙ omega arith;
      again = λ other. same (s.used ++ other) ∙ s.again other;
    }

pub comment_reads : (star : Bool) (n : ℕ) (bs : List ℕ) → Reads n bs (comment_at star n)
unfolding comment_at
comment_reads star n [] = λ x e. absurd cc
comment_reads star n (b ∷ bs) =
    reads_byte n b bs (comment_at star n) _
    (reads_either (eqb b 42) (comment_reads true (n + 1) bs) (reads_either (star && eqb b 47) (reads_end Blank (n + 1)) (comment_reads false (n + 1) bs))) (λ z. refl)

-- a byte of a string, where the bytes behind it are read so
part_reads : (v : List ℕ) (n b : ℕ) (bs : List ℕ) → ((m : Within) (w : List ℕ) → Reads (n + 1) bs (string_at m w (n + 1)))
    → Reads (n + 1) bs (λ z. part_by v n b (λ next kept. string_at next kept (n + 1) z))
part_reads v n b bs h =
    reads_either (eqb b 34) (reads_end v (n + 1))
    (reads_either (eqb b 92) (h Escape v) (reads_either (is_verilog_string_byte b) (reads_either (is_full v) (reads_none TokenTooLong 0 (n + 1)) (h within.Parts (v ++ b ∷ []))) (reads_none BadByte n (n + 1))))

escape_reads : (e : Escaped) (v : List ℕ) (n : ℕ) (bs : List ℕ) → ((m : Within) (w : List ℕ) → Reads (n + 1) bs (string_at m w (n + 1)))
    → Reads (n + 1) bs (λ z. escape_by e v n (λ next kept. string_at next kept (n + 1) z))
escape_reads (escaped.Stands c) v n bs h = reads_either (is_full v) (reads_none TokenTooLong 0 (n + 1)) (h within.Parts (v ++ c ∷ []))
escape_reads (escaped.Octal digit) v n bs h = h (Code digit 2) v
escape_reads escaped.NoEscape v n bs h = reads_none BadEscape (n - 1) (n + 1)
escape_reads escaped.NoByte v n bs h = reads_none BadByte n (n + 1)

pub string_reads : (m : Within) (v : List ℕ) (n : ℕ) (bs : List ℕ) → Reads n bs (string_at m v n)
unfolding string_at
string_reads within.Parts v n [] = λ x e. absurd cc
string_reads Escape v n [] = λ x e. absurd cc
string_reads (Code code more) v n [] = λ x e. by (is_full v) x e
  where
    by : (t : Bool) (x : Piece (List ℕ)) → cond t (flaw {A = Piece (List ℕ)} TokenTooLong 0 n) (flaw EndOfInput n n) ≡ Ok x
        → Spells n [] (string_at (Code code more) v n) x
    by true x e = absurd cc
    by false x e = absurd cc
string_reads within.Parts v n (b ∷ bs) =
    reads_byte n b bs (string_at within.Parts v n) _ (part_reads v n b bs (λ m w. string_reads m w (n + 1) bs)) (λ z. refl)
string_reads Escape v n (b ∷ bs) =
    reads_byte n b bs (string_at Escape v n) _ (escape_reads (escaped_by b) v n bs (λ m w. string_reads m w (n + 1) bs)) (λ z. refl)
string_reads (Code code more) v n (b ∷ bs) =
    reads_byte n b bs (string_at (Code code more) v n) _
    (reads_either (nat_lt 0 more && is_octal b)
    (reads_either (nat_lt 255 (8 * code + (b - 48))) (reads_none BadEscape (n - (4 - more)) (n + 1)) (string_reads (Code (8 * code + (b - 48)) (more - 1)) v (n + 1) bs))
    (reads_either (is_full v) (reads_none TokenTooLong 0 n) (part_reads (v ++ code ∷ []) n b bs (λ m w. string_reads m w (n + 1) bs)))) (λ z. refl)
