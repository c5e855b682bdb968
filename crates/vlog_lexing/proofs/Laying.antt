-- The tokens of what is laid out are those of the forms.
use Rattle.std.proofs.Common.{arith, ◌≡◌, ℕ, zero, suc, ◌+◌, Bool, true, false, List, [], ◌∷◌, ◌++◌, refl, sym, ap, ◌∙◌, subst, append_assoc, append-nil}
use Rattle.std.specs.Prelude.{⊤, ℤ, pos, negsuc, ◌||◌, ◌&&◌, ◌==◌, not}
use Rattle.std.specs.Fmt.{signed_decimal}
use Rattle.std.proofs.lemmas.Bool.{eqb-true}
use Rattle.std.proofs.lemmas.Bool.Decides.{nat_tests}
use Rattle.vlog_tokens.specs.Spelling.{is_mark}
use Rattle.vlog_tokens.specs.declared.token.VToken.{VToken}
use Rattle.vlog_tokens.specs.declared.token.VToken.TheVariants as t
use Rattle.vlog_writer.specs.Layout.{Form, Empty, Name, Word, Directive, Mark, Number, Real, Sized, Loose, Str, Path, ◌▸◌, Row, Listed, Attributes, Attributed, Parts, no_part, part, both, Forms, none, more, Lines, nothing, line, ◌below◌, inline, spaced, listed, further, attributed, blanks, laid}
use Rattle.vlog_writer.specs.Spelling.{named}
use Rattle.vlog_lexing.specs.Lexing.{Lexes}
use Rattle.vlog_lexing.specs.Tokens.{number_tokens, real_tokens, tokens, part_tokens, listed_tokens, further_tokens, attributed_tokens, line_tokens, is_punctuation, is_alone, begins_apart, IsWritable, AreParts, AreWritable, CanBeLaid}
use Rattle.vlog_lexing.proofs.Literals.{lexes_based, lexes_literal, based_not_star, literal_not_star}
use Rattle.vlog_lexing.proofs.Names.{apart_ends, lexes_name, lexes_word, lexes_directive, name_not_star, simple_not_star}
use Rattle.vlog_lexing.proofs.Numbers.{lexes_number, lexes_real, number_not_star}
use Rattle.vlog_lexing.proofs.Scanning.{is_apart, Apart, NotStar, apart_not_star, lexes_end, lexes_space, lexes_mark, lexes_open, lexes_attributes, lexes_attributes_end}
use Rattle.vlog_lexing.proofs.Strings.{lexes_string}

-- ---- what may stand behind a form

mark_apart : (b : ℕ) → (is_punctuation b && not (b == 46)) ≡ true → is_apart b ≡ true
mark_apart b h = grind (arith, nat_tests)

begins : (f : Form) (rest : List ℕ) → begins_apart f ≡ true → Apart (inline f rest)
begins (Mark b) rest h = mark_apart b h
begins (f ▸ g) rest h = begins f (inline g rest) h
begins Empty rest h = absurd cc
begins (Name w) rest h = absurd cc
begins (Word w) rest h = absurd cc
begins (Directive w) rest h = absurd cc
begins (Number n) rest h = absurd cc
begins (Real r) rest h = absurd cc
begins (Sized x) rest h = absurd cc
begins (Loose x) rest h = absurd cc
begins (Str s) rest h = absurd cc
begins (Path u w) rest h = absurd cc
begins (Row f ps) rest h = absurd cc
begins (Listed fs) rest h = absurd cc
begins (Attributes fs) rest h = absurd cc
begins (Attributed fs f) rest h = absurd cc

spaced_apart : (ps : Parts) (rest : List ℕ) → Apart rest → Apart (spaced ps rest)
spaced_apart no_part rest h = h
spaced_apart (part f) rest h = refl
spaced_apart (both ps qs) rest h = spaced_apart ps (spaced qs rest) (spaced_apart qs rest h)

further_apart : (fs : Forms) (rest : List ℕ) → Apart rest → Apart (further fs rest)
further_apart none rest h = h
further_apart (more f fs) rest h = refl

-- ---- no form begins with a `*`

punctuation_not_star : (b : ℕ) → is_punctuation b ≡ true → (b == 42) ≡ false
punctuation_not_star b h = grind (arith, nat_tests)

mutual
  form_not_star : (f : Form) → IsWritable f → (rest : List ℕ) → NotStar rest → NotStar (inline f rest)
  form_not_star Empty good rest h = h
  form_not_star (Name w) good rest h = name_not_star w rest
  form_not_star (Word w) good rest h = simple_not_star w rest good.simple
  form_not_star (Directive w) good rest h = rw good refl
  form_not_star (Mark b) good rest h = punctuation_not_star b good
  form_not_star (Number n) good rest h = number_not_star n rest good
  form_not_star (Real r) good rest h = number_not_star r.mantissa (101 ∷ (signed_decimal r.exponent ++ rest)) good.mantissa
  form_not_star (Sized x) good rest h = literal_not_star x rest good
  form_not_star (Loose x) good rest h = based_not_star x rest
  form_not_star (Str s) good rest h = refl
  form_not_star (Path u w) good rest h = name_not_star u (46 ∷ named w rest)
  form_not_star (f ▸ g) good rest h = form_not_star f good.0 (inline g rest) (form_not_star g good.1 rest h)
  form_not_star (Row f ps) good rest h = form_not_star f good.0 (spaced ps rest) (parts_not_star ps rest h)
  form_not_star (Listed fs) good rest h = listed_not_star fs good rest h
  form_not_star (Attributes fs) good rest h = refl
  form_not_star (Attributed fs f) good rest h = attributed_not_star fs (inline f rest) (form_not_star f good.1 rest h)

  parts_not_star : (ps : Parts) (rest : List ℕ) → NotStar rest → NotStar (spaced ps rest)
  parts_not_star no_part rest h = h
  parts_not_star (part f) rest h = refl
  parts_not_star (both ps qs) rest h = parts_not_star ps (spaced qs rest) (parts_not_star qs rest h)

  listed_not_star : (fs : Forms) → AreWritable fs → (rest : List ℕ) → NotStar rest → NotStar (listed fs rest)
  listed_not_star none good rest h = h
  listed_not_star (more f fs) good rest h = form_not_star f good.0 (further fs rest) (further_not_star fs rest h)

  further_not_star : (fs : Forms) (rest : List ℕ) → NotStar rest → NotStar (further fs rest)
  further_not_star none rest h = h
  further_not_star (more f fs) rest h = refl

  attributed_not_star : (fs : Forms) (rest : List ℕ) → NotStar rest → NotStar (attributed fs rest)
  attributed_not_star none rest h = h
  attributed_not_star (more f fs) rest h = refl

-- ---- forms

-- a byte of punctuation, behind which no `*` stands
mark_lexes : (b : ℕ) (rest : List ℕ) (ts : List VToken) → is_punctuation b ≡ true → NotStar rest → Lexes rest ts → Lexes (b ∷ rest) (t.Punct b ∷ ts)
mark_lexes b rest ts good other l = by_kind (b == 40) refl good
  where
    by_kind : (w : Bool) → (b == 40) ≡ w → (w || is_mark b) ≡ true → Lexes (b ∷ rest) (t.Punct b ∷ ts)
    by_kind true e g = rw (eqb-true b 40 e) (lexes_open rest ts other l)
    by_kind false e g = lexes_mark b rest ts g l

-- what may come behind a form: anything but a `*` behind punctuation, else the end or a byte that stands apart
abbrev Follows : Bool → List ℕ → Type 0
Follows true rest = NotStar rest
Follows false rest = Apart rest

follows : (alone : Bool) (rest : List ℕ) → Apart rest → Follows alone rest
follows true rest h = apart_not_star rest h
follows false rest h = h

second_follows : (alone : Bool) (g : Form) (rest : List ℕ) → IsWritable g → (alone || begins_apart g) ≡ true → NotStar rest → Follows alone (inline g rest)
second_follows true g rest good h other = form_not_star g good rest other
second_follows false g rest good h other = begins g rest h

-- the end of attributes, behind a blank
closing : (rest : List ℕ) (ts : List VToken) → Lexes rest ts → Lexes (32 ∷ 42 ∷ 41 ∷ rest) (t.AttrStop ∷ ts)
closing rest ts l = lexes_space 32 (42 ∷ 41 ∷ rest) (t.AttrStop ∷ ts) refl (lexes_attributes_end rest ts l)

-- attributes between `(*` and `*)`
around : (fs : Forms) (rest : List ℕ) (ts : List VToken) → Lexes (listed fs (32 ∷ 42 ∷ 41 ∷ rest)) (listed_tokens fs (t.AttrStop ∷ ts))
    → Lexes (40 ∷ 42 ∷ 32 ∷ listed fs (32 ∷ 42 ∷ 41 ∷ rest)) (t.AttrStart ∷ listed_tokens fs (t.AttrStop ∷ ts))
around fs rest ts l =
    lexes_attributes (32 ∷ listed fs (32 ∷ 42 ∷ 41 ∷ rest)) (listed_tokens fs (t.AttrStop ∷ ts))
    (lexes_space 32 (listed fs (32 ∷ 42 ∷ 41 ∷ rest)) (listed_tokens fs (t.AttrStop ∷ ts)) refl l)

mutual
  pub inline_lexes : (f : Form) → IsWritable f → (rest : List ℕ) (ts : List VToken) → Follows (is_alone f) rest → Lexes rest ts → Lexes (inline f rest) (tokens f ts)
  inline_lexes Empty good rest ts h l = l
  inline_lexes (Name w) good rest ts h l = lexes_name w rest ts good (apart_ends rest h) l
  inline_lexes (Word w) good rest ts h l = lexes_word w rest ts good h l
  inline_lexes (Directive w) good rest ts h l = lexes_directive w rest ts good h l
  inline_lexes (Mark b) good rest ts h l = mark_lexes b rest ts good h l
  inline_lexes (Number z) good rest ts h l = lexes_number z rest ts good h l
  inline_lexes (Real r) good rest ts h l = lexes_real r.mantissa r.exponent rest ts good.mantissa good.exponent h l
  inline_lexes (Sized x) good rest ts h l = lexes_literal x rest ts good h l
  inline_lexes (Loose x) good rest ts h l = lexes_based x rest ts good h l
  inline_lexes (Str s) good rest ts h l = lexes_string s rest ts good l
  inline_lexes (Path u w) good rest ts h l = lexes_name u (46 ∷ named w rest) (t.Punct 46 ∷ t.Name w ∷ ts) good.0 refl (lexes_mark 46 (named w rest) (t.Name w ∷ ts) refl (lexes_name w rest ts good.1 (apart_ends rest h) l))
  inline_lexes (f ▸ g) good rest ts h l =
      inline_lexes f good.0 (inline g rest) (tokens g ts) (second_follows (is_alone f) g rest good.1 good.2 (apart_not_star rest h)) (inline_lexes g good.1 rest ts (follows (is_alone g) rest h) l)
  inline_lexes (Row f ps) good rest ts h l =
      inline_lexes f good.0 (spaced ps rest) (part_tokens ps ts) (follows (is_alone f) (spaced ps rest) (spaced_apart ps rest h)) (spaced_lex ps good.1 rest ts h l)
  inline_lexes (Listed fs) good rest ts h l = listed_lex fs good rest ts h l
  inline_lexes (Attributes fs) good rest ts h l = around fs rest ts (listed_lex fs good (32 ∷ 42 ∷ 41 ∷ rest) (t.AttrStop ∷ ts) refl (closing rest ts l))
  inline_lexes (Attributed fs f) good rest ts h l = attributed_lex fs good.0 (inline f rest) (tokens f ts) (inline_lexes f good.1 rest ts (follows (is_alone f) rest h) l)

  spaced_lex : (ps : Parts) → AreParts ps → (rest : List ℕ) (ts : List VToken) → Apart rest → Lexes rest ts → Lexes (spaced ps rest) (part_tokens ps ts)
  spaced_lex no_part good rest ts h l = l
  spaced_lex (part f) good rest ts h l = lexes_space 32 (inline f rest) (tokens f ts) refl (inline_lexes f good rest ts (follows (is_alone f) rest h) l)
  spaced_lex (both ps qs) good rest ts h l = spaced_lex ps good.0 (spaced qs rest) (part_tokens qs ts) (spaced_apart qs rest h) (spaced_lex qs good.1 rest ts h l)

  listed_lex : (fs : Forms) → AreWritable fs → (rest : List ℕ) (ts : List VToken) → Apart rest → Lexes rest ts → Lexes (listed fs rest) (listed_tokens fs ts)
  listed_lex none good rest ts h l = l
  listed_lex (more f fs) good rest ts h l =
      inline_lexes f good.0 (further fs rest) (further_tokens fs ts) (follows (is_alone f) (further fs rest) (further_apart fs rest h)) (further_lex fs good.1 rest ts h l)

  further_lex : (fs : Forms) → AreWritable fs → (rest : List ℕ) (ts : List VToken) → Apart rest → Lexes rest ts → Lexes (further fs rest) (further_tokens fs ts)
  further_lex none good rest ts h l = l
  further_lex (more f fs) good rest ts h l =
      lexes_mark 44 (32 ∷ inline f (further fs rest)) (tokens f (further_tokens fs ts)) refl
      (lexes_space 32 (inline f (further fs rest)) (tokens f (further_tokens fs ts)) refl
      (inline_lexes f good.0 (further fs rest) (further_tokens fs ts) (follows (is_alone f) (further fs rest) (further_apart fs rest h)) (further_lex fs good.1 rest ts h l)))

  attributed_lex : (fs : Forms) → AreWritable fs → (rest : List ℕ) (ts : List VToken) → Lexes rest ts → Lexes (attributed fs rest) (attributed_tokens fs ts)
  attributed_lex none good rest ts l = l
  attributed_lex (more f fs) good rest ts l =
      let end : List ℕ = 32 ∷ 42 ∷ 41 ∷ 32 ∷ rest in
      around (more f fs) (32 ∷ rest) ts
      (inline_lexes f good.0 (further fs end) (further_tokens fs (t.AttrStop ∷ ts)) (follows (is_alone f) (further fs end) (further_apart fs end refl))
      (further_lex fs good.1 end (t.AttrStop ∷ ts) refl (closing (32 ∷ rest) ts (lexes_space 32 rest ts refl l))))

-- ---- lines

blanks_lex : (n : ℕ) (rest : List ℕ) (ts : List VToken) → Lexes rest ts → Lexes (blanks n ++ rest) ts
blanks_lex zero rest ts l = l
blanks_lex (suc n) rest ts l = lexes_space 32 (blanks n ++ rest) ts refl (blanks_lex n rest ts l)

pub laid_lexes : (lines : Lines) → CanBeLaid lines → (rest : List ℕ) (ts : List VToken) → Lexes rest ts → Lexes (laid lines rest) (line_tokens lines ts)
laid_lexes nothing good rest ts l = l
laid_lexes (line n f) good rest ts l = blanks_lex n (inline f (10 ∷ rest)) (tokens f ts) (inline_lexes f good (10 ∷ rest) ts (follows (is_alone f) (10 ∷ rest) refl) (lexes_space 10 rest ts refl l))
laid_lexes (lines below others) good rest ts l = laid_lexes lines good.0 (laid others rest) (line_tokens others ts) (laid_lexes others good.1 rest ts l)

-- The tokens of the text of lines are those of the lines.
pub text_lexes : (lines : Lines) → CanBeLaid lines → Lexes (laid lines []) (line_tokens lines [])
text_lexes lines good = laid_lexes lines good [] [] lexes_end
