-- How many bytes what is laid out has.
use Rattle.std.proofs.Common.{arith, ◌≡◌, ℕ, ◌+◌, ◌*◌, Bool, true, false, List, [], ◌∷◌, ◌++◌, length, length-append}
use Rattle.std.specs.Prelude.{decimal, if◌then◌else◌}
use Rattle.std.specs.Fmt.{signed_decimal}
use Rattle.std.proofs.lemmas.List.{length-replicate}
use Rattle.edif_values.specs.Keywords.{spelling}
use Rattle.edif_writer.specs.Layout.{Form, Word, Number, Str, Line, Group, Forms, none, more, Block, Flat, Deep, Blocks, end, below, inline, spaced, listed, blanks, laid, lines}
use Rattle.edif_writer.specs.Strings.{is_plain, quoted, written}

-- the bytes of a form, of parts that each have a blank before them, and of parts with blanks between them
abbrev mutual
  pub form_bytes : Form → ℕ
  form_bytes (Word w) = length w
  form_bytes (Number n) = length (signed_decimal n)
  form_bytes (Str s) = length (quoted s [])
  form_bytes (Line keyword parts) = length (spelling keyword) + spaced_bytes parts + 2
  form_bytes (Group parts) = listed_bytes parts + 2

  pub spaced_bytes : Forms → ℕ
  spaced_bytes none = 0
  spaced_bytes (more f fs) = form_bytes f + spaced_bytes fs + 1

  pub listed_bytes : Forms → ℕ
  listed_bytes none = 0
  listed_bytes (more f fs) = form_bytes f + spaced_bytes fs

-- the bytes of a block at its indent, and of blocks
abbrev mutual
  pub block_bytes : ℕ → Block → ℕ
  block_bytes n (Flat f) = n + form_bytes f + 1
  block_bytes n (Deep keyword head blocks) = 2 * n + length (spelling keyword) + spaced_bytes head + lines_bytes (n + 2) blocks + 4

  pub lines_bytes : ℕ → Blocks → ℕ
  lines_bytes n end = 0
  lines_bytes n (below b bs) = block_bytes n b + lines_bytes n bs

-- ---- strings

plain_length : (p : Bool) (b : ℕ) (plain plain_end code code_end rest : List ℕ) → length plain ≡ length plain_end + length rest → length code ≡ length code_end + length rest
    → length (if p then b ∷ plain else 37 ∷ (decimal b ++ code)) ≡ length (if p then b ∷ plain_end else 37 ∷ (decimal b ++ code_end)) + length rest
plain_length true b plain plain_end code code_end rest one other = omega (arith, one)
plain_length false b plain plain_end code code_end rest one other =
    let all = length-append (decimal b) code in
    let alone = length-append (decimal b) code_end in
    omega (arith, other, all, alone)

code_length : (p : Bool) (b : ℕ) (plain plain_end code code_end rest : List ℕ) → length plain ≡ length plain_end + length rest → length code ≡ length code_end + length rest
    → length (if p then 37 ∷ b ∷ plain else 32 ∷ (decimal b ++ code)) ≡ length (if p then 37 ∷ b ∷ plain_end else 32 ∷ (decimal b ++ code_end)) + length rest
code_length true b plain plain_end code code_end rest one other = omega (arith, one)
code_length false b plain plain_end code code_end rest one other =
    let all = length-append (decimal b) code in
    let alone = length-append (decimal b) code_end in
    omega (arith, other, all, alone)

string_length : (is_open : Bool) (bs rest : List ℕ) → length (written is_open bs rest) ≡ length (written is_open bs []) + length rest
unfolding written
string_length false [] rest = omega arith
string_length true [] rest = omega arith
string_length false (b ∷ bs) rest =
    plain_length (is_plain b) b (written false bs rest) (written false bs []) (written true bs rest) (written true bs []) rest (string_length false bs rest) (string_length true bs rest)
string_length true (b ∷ bs) rest =
    code_length (is_plain b) b (written false bs rest) (written false bs []) (written true bs rest) (written true bs []) rest (string_length false bs rest) (string_length true bs rest)

-- ---- forms

mutual
  inline_length : (f : Form) (rest : List ℕ) → length (inline f rest) ≡ form_bytes f + length rest
  inline_length (Word w) rest = length-append w rest
  inline_length (Number n) rest = length-append (signed_decimal n) rest
  inline_length (Str s) rest = (let e = string_length false s rest in omega (arith, e))
  inline_length (Line keyword parts) rest =
      let name = length-append (spelling keyword) (spaced parts (41 ∷ rest)) in
      let inner = spaced_length parts (41 ∷ rest) in
      omega (arith, name, inner)
  inline_length (Group parts) rest = (let inner = listed_length parts (41 ∷ rest) in omega (arith, inner))

  spaced_length : (fs : Forms) (rest : List ℕ) → length (spaced fs rest) ≡ spaced_bytes fs + length rest
  spaced_length none rest = omega arith
  spaced_length (more f fs) rest =
      let first = inline_length f (spaced fs rest) in
      let others = spaced_length fs rest in
      omega (arith, first, others)

  listed_length : (fs : Forms) (rest : List ℕ) → length (listed fs rest) ≡ listed_bytes fs + length rest
  listed_length none rest = omega arith
  listed_length (more f fs) rest =
      let first = inline_length f (spaced fs rest) in
      let others = spaced_length fs rest in
      omega (arith, first, others)

-- ---- blocks

blanks_length : (n : ℕ) (rest : List ℕ) → length (blanks n ++ rest) ≡ n + length rest
blanks_length n rest =
    let all = length-append (blanks n) rest in
    let indent = length-replicate {A = ℕ} n 32 in
    omega (arith, all, indent)

mutual
  -- what is laid out has as many bytes as its parts
  pub laid_length : (n : ℕ) (b : Block) (rest : List ℕ) → length (laid n b rest) ≡ block_bytes n b + length rest
  laid_length n (Flat f) rest =
      let indent = blanks_length n (inline f (10 ∷ rest)) in
      let line = inline_length f (10 ∷ rest) in
      omega (arith, indent, line)
  laid_length n (Deep keyword head blocks) rest =
      let inner = lines (n + 2) blocks (blanks n ++ (41 ∷ 10 ∷ rest)) in
      let indent = blanks_length n (40 ∷ (spelling keyword ++ spaced head (10 ∷ inner))) in
      let name = length-append (spelling keyword) (spaced head (10 ∷ inner)) in
      let heading = spaced_length head (10 ∷ inner) in
      let parts = lines_length (n + 2) blocks (blanks n ++ (41 ∷ 10 ∷ rest)) in
      let last = blanks_length n (41 ∷ 10 ∷ rest) in
      omega (arith, indent, name, heading, parts, last)

  lines_length : (n : ℕ) (bs : Blocks) (rest : List ℕ) → length (lines n bs rest) ≡ lines_bytes n bs + length rest
  lines_length n end rest = omega arith
  lines_length n (below b bs) rest =
      let first = laid_length n b (lines n bs rest) in
      let others = lines_length n bs rest in
      omega (arith, first, others)
