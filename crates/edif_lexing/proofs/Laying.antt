-- The tokens of what is laid out are those of the forms.
use Rattle.std.proofs.Common.{◌≡◌, ℕ, zero, suc, ◌+◌, List, [], ◌∷◌, ◌++◌, refl, sym, ap, ◌∙◌, subst, append_assoc, append-nil}
use Rattle.edif_values.specs.declared.token.Token.{Token}
use Rattle.edif_values.specs.declared.token.Token.TheVariants as t
use Rattle.edif_values.specs.declared.keyword.Keyword.{Keyword}
use Rattle.edif_values.specs.Keywords.{spelling}
use Rattle.edif_lexing.specs.Lexing.{Lexes}
use Rattle.edif_writer.specs.Layout.{Form, Word, Number, Str, Line, Group, Forms, none, more, Block, Flat, Deep, Blocks, end, below, inline, spaced, listed, blanks, laid, lines}
use Rattle.edif_lexing.specs.Tokens.{tokens, part_tokens, heading_tokens, block_tokens, line_tokens, IsWritable, AreWritable, CanBeLaid, AllCanBeLaid}
use Rattle.edif_lexing.proofs.Keywords.{spelling_word}
use Rattle.edif_lexing.proofs.Lexing.{Parts, lexes_end, lexes_space, lexes_open, lexes_close, lexes_word, lexes_number}
use Rattle.edif_lexing.proofs.Quoting.{lexes_string}

regroup : (bs : List ℕ) (x y z : List Token) → Lexes bs (x ++ (y ++ z)) → Lexes bs ((x ++ y) ++ z)
regroup bs x y z h = subst (Lexes bs) (sym (append_assoc x y z)) h

spaced_parts : (fs : Forms) (rest : List ℕ) → Parts rest → Parts (spaced fs rest)
spaced_parts none rest h = h
spaced_parts (more f fs) rest h = refl

keyword_lexes : (a : Keyword) (rest : List ℕ) (ts : List Token) → Parts rest → Lexes rest ts → Lexes (40 ∷ (spelling a ++ rest)) (t.LeftParen ∷ t.Word (spelling a) ∷ ts)
keyword_lexes a rest ts h l = lexes_open (spelling a ++ rest) (t.Word (spelling a) ∷ ts) (lexes_word (spelling a) rest ts (spelling_word a) h l)

mutual
  pub inline_lexes : (f : Form) → IsWritable f → (rest : List ℕ) (ts : List Token) → Parts rest → Lexes rest ts → Lexes (inline f rest) (tokens f ++ ts)
  inline_lexes (Word w) good rest ts h l = lexes_word w rest ts good h l
  inline_lexes (Number n) good rest ts h l = lexes_number n rest ts good h l
  inline_lexes (Str s) good rest ts h l = lexes_string s rest ts good l
  inline_lexes (Line k parts) good rest ts h l = keyword_lexes k (spaced parts (41 ∷ rest)) (part_tokens parts ++ ts) (spaced_parts parts (41 ∷ rest) refl) (spaced_lex parts good rest ts l)
  inline_lexes (Group parts) good rest ts h l = lexes_open (listed parts (41 ∷ rest)) (part_tokens parts ++ ts) (listed_lex parts good rest ts l)

  spaced_lex : (fs : Forms) → AreWritable fs → (rest : List ℕ) (ts : List Token) → Lexes rest ts → Lexes (spaced fs (41 ∷ rest)) (part_tokens fs ++ ts)
  spaced_lex none good rest ts l = lexes_close rest ts l
  spaced_lex (more f fs) good rest ts l =
      lexes_space 32 (inline f (spaced fs (41 ∷ rest))) ((tokens f ++ part_tokens fs) ++ ts) refl
      (regroup (inline f (spaced fs (41 ∷ rest))) (tokens f) (part_tokens fs) ts
      (inline_lexes f good.0 (spaced fs (41 ∷ rest)) (part_tokens fs ++ ts) (spaced_parts fs (41 ∷ rest) refl) (spaced_lex fs good.1 rest ts l)))

  listed_lex : (fs : Forms) → AreWritable fs → (rest : List ℕ) (ts : List Token) → Lexes rest ts → Lexes (listed fs (41 ∷ rest)) (part_tokens fs ++ ts)
  listed_lex none good rest ts l = lexes_close rest ts l
  listed_lex (more f fs) good rest ts l =
      regroup (inline f (spaced fs (41 ∷ rest))) (tokens f) (part_tokens fs) ts
      (inline_lexes f good.0 (spaced fs (41 ∷ rest)) (part_tokens fs ++ ts) (spaced_parts fs (41 ∷ rest) refl) (spaced_lex fs good.1 rest ts l))

heading_lex : (fs : Forms) → AreWritable fs → (rest : List ℕ) (ts : List Token) → Lexes rest ts → Lexes (spaced fs (10 ∷ rest)) (heading_tokens fs ts)
heading_lex none good rest ts l = lexes_space 10 rest ts refl l
heading_lex (more f fs) good rest ts l =
    lexes_space 32 (inline f (spaced fs (10 ∷ rest))) (tokens f ++ heading_tokens fs ts) refl
    (inline_lexes f good.0 (spaced fs (10 ∷ rest)) (heading_tokens fs ts) (spaced_parts fs (10 ∷ rest) refl) (heading_lex fs good.1 rest ts l))

blanks_lex : (n : ℕ) (rest : List ℕ) (ts : List Token) → Lexes rest ts → Lexes (blanks n ++ rest) ts
blanks_lex zero rest ts l = l
blanks_lex (suc n) rest ts l = lexes_space 32 (blanks n ++ rest) ts refl (blanks_lex n rest ts l)

heading_follows : (fs : Forms) (ts us : List Token) → heading_tokens fs (ts ++ us) ≡ heading_tokens fs ts ++ us
heading_follows none ts us = refl
heading_follows (more f fs) ts us = ap (λ (x : List Token). tokens f ++ x) (heading_follows fs ts us) ∙ sym (append_assoc (tokens f) (heading_tokens fs ts) us)

mutual
  pub laid_lexes : (b : Block) → CanBeLaid b → (n : ℕ) (rest : List ℕ) (ts : List Token) → Lexes rest ts → Lexes (laid n b rest) (block_tokens b ++ ts)
  laid_lexes (Flat f) good n rest ts l = blanks_lex n (inline f (10 ∷ rest)) (tokens f ++ ts) (inline_lexes f good (10 ∷ rest) ts refl (lexes_space 10 rest ts refl l))
  laid_lexes (Deep k head blocks) good n rest ts l =
      let inner = lines (n + 2) blocks (blanks n ++ (41 ∷ 10 ∷ rest)) in
      blanks_lex n (40 ∷ (spelling k ++ spaced head (10 ∷ inner))) (t.LeftParen ∷ t.Word (spelling k) ∷ (heading_tokens head (line_tokens blocks) ++ ts))
      (keyword_lexes k (spaced head (10 ∷ inner)) (heading_tokens head (line_tokens blocks) ++ ts) (spaced_parts head (10 ∷ inner) refl)
      (subst (Lexes (spaced head (10 ∷ inner))) (heading_follows head (line_tokens blocks) ts)
      (heading_lex head good.0 inner (line_tokens blocks ++ ts) (lines_lex blocks good.1 (n + 2) (blanks n ++ (41 ∷ 10 ∷ rest)) ts
      (blanks_lex n (41 ∷ 10 ∷ rest) (t.RightParen ∷ ts) (lexes_close (10 ∷ rest) ts (lexes_space 10 rest ts refl l)))))))

  -- before the end of the block around them
  lines_lex : (bs : Blocks) → AllCanBeLaid bs → (n : ℕ) (rest : List ℕ) (ts : List Token) → Lexes rest (t.RightParen ∷ ts) → Lexes (lines n bs rest) (line_tokens bs ++ ts)
  lines_lex end good n rest ts l = l
  lines_lex (below b bs) good n rest ts l = regroup (laid n b (lines n bs rest)) (block_tokens b) (line_tokens bs) ts (laid_lexes b good.0 n (lines n bs rest) (line_tokens bs ++ ts) (lines_lex bs good.1 n rest ts l))

-- The tokens of a text that is laid out are those of its block.
pub text_lexes : (b : Block) (n : ℕ) → CanBeLaid b → Lexes (laid n b []) (block_tokens b)
text_lexes b n good = subst (Lexes (laid n b [])) (append-nil (block_tokens b)) (laid_lexes b good n [] [] lexes_end)
