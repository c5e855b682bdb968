-- Names, keywords and directives.
use Rattle.std.proofs.Common.{◌≡◌, ℕ, suc, zero, ◌+◌, ◌<◌, ◌≤◌, Bool, true, false, List, [], ◌∷◌, ◌++◌, length, Some, refl, sym, ap, ◌∙◌, subst, arith, append_assoc, append-nil}
use Rattle.std.specs.Prelude.{◌||◌, ◌&&◌, ◌==◌, not, codes, IfSome, IsTrue}
use Rattle.std.specs.Char.{is_ascii_alphabetic}
use Rattle.std.specs.List.{AllByRecursion, list_all}
use Rattle.std.proofs.lemmas.Bool.Decides.{nat_tests}
use Rattle.nl_bytes.specs.Bytes.{first}
use Rattle.nl_bytes.specs.Classes.{is_verilog_space, is_name_byte, is_graphic}
use Rattle.vlog_values.specs.Values.{IsName}
use Rattle.vlog_tokens.specs.declared.item.Item.TheVariants.{Token}
use Rattle.vlog_tokens.specs.declared.phase.Phase.TheVariants as phase
use Rattle.vlog_tokens.specs.declared.phase.Step.TheVariants.{Keep, Ends}
use Rattle.vlog_tokens.specs.declared.start.Start.TheVariants as start
use Rattle.vlog_tokens.specs.declared.token.VToken.{VToken}
use Rattle.vlog_tokens.specs.declared.token.VToken.TheVariants as t
use Rattle.vlog_tokens.specs.Items.{word_item, item_of, finished}
use Rattle.vlog_tokens.specs.Keywords.{is_keyword}
use Rattle.vlog_tokens.specs.Phases.{next_step, is_complete, most_of}
use Rattle.vlog_tokens.specs.Scanning.{scan_at, kept, ended, one_if}
use Rattle.vlog_tokens.specs.Spelling.{item_at, start_of}
use Rattle.vlog_writer.specs.Spelling.{is_bare, is_simple, named}
use Rattle.vlog_lexing.specs.Lexing.{Lexes}
use Rattle.vlog_lexing.specs.Tokens.{IsWord}
use Rattle.vlog_lexing.proofs.Scanning.{piece, is_apart, Apart, NotStar, Stops, stops, Stays, goes_on, steps_to, comes_to_end, lexes_space, lexes_token}

pub and_true : (a b : Bool) → (a && b) ≡ true → (a ≡ true) × (b ≡ true)
and_true true b h = (refl, h)
and_true false b h = absurd cc

-- ---- simple names

letter_starts : (b : ℕ) → (is_ascii_alphabetic b || b == 95) ≡ true → start_of b ≡ start.Lexeme phase.Word
letter_starts b h = rw (no_space b h, h) refl
  where
    no_space : (b : ℕ) → (is_ascii_alphabetic b || b == 95) ≡ true → is_verilog_space b ≡ false
    no_space b h = grind (arith, nat_tests)

name_stays : (bs : List ℕ) → list_all is_name_byte bs ≡ true → Stays phase.Word bs
unfolding next_step
name_stays [] h = tt
name_stays (b ∷ bs) h = let p = and_true (is_name_byte b) (list_all is_name_byte bs) h in (rw p.0 refl, name_stays bs p.1)

-- the end, or a byte that does not go on in a name
abbrev pub is_behind : ℕ → Bool
is_behind b = not (is_name_byte b)

abbrev pub NameEnds : List ℕ → Type 0
NameEnds bs = IfSome (first bs) (λ b. IsTrue (is_behind b))

pub apart_ends : (rest : List ℕ) → Apart rest → NameEnds rest
apart_ends [] h = tt
apart_ends (c ∷ cs) h = rw (stops c h).name refl

no_more : (a : Bool) → not a ≡ true → a ≡ false
no_more true h = absurd cc
no_more false h = refl

word_ends : (c : ℕ) → is_behind c ≡ true → next_step phase.Word c ≡ Ends
unfolding next_step
word_ends c h = rw (no_more (is_name_byte c) h) refl

-- a simple name is read as the keyword that it is, or as a name
simple_read : (b : ℕ) (bs rest : List ℕ) → is_simple (b ∷ bs) ≡ true → suc (length bs) ≤ 1024 → NameEnds rest
    → item_at b (bs ++ rest) ≡ piece (word_item (b ∷ bs)) (1 + length bs) (1 + length bs + one_if (first rest))
unfolding item_at kept item_of is_simple is_complete most_of
simple_read b bs rest simple short h =
    let p = and_true (is_ascii_alphabetic b || b == 95) (list_all is_name_byte bs) simple in
    let scanned : scan_at phase.Word (b ∷ []) 1 (bs ++ rest) ≡ ended phase.Word (b ∷ bs) (1 + length bs) (first rest) =
    goes_on phase.Word (b ∷ []) bs rest 1 (name_stays bs p.1) (omega (arith, short)) ∙ comes_to_end is_behind phase.Word (b ∷ bs) (1 + length bs) rest refl word_ends h in
    rw (letter_starts b p.0, scanned) refl

pub lexes_simple : (word rest : List ℕ) (token : VToken) (ts : List VToken) → is_simple word ≡ true → length word ≤ 1024 → word_item word ≡ Token token → NameEnds rest → Lexes rest ts → Lexes (word ++ rest) (token ∷ ts)
unfolding is_simple
lexes_simple [] rest token ts simple short is h l = absurd (cc simple)
lexes_simple (b ∷ bs) rest token ts simple short is h l =
    lexes_token b bs rest token (1 + length bs) (1 + length bs + one_if (first rest)) ts
    (simple_read b bs rest simple short h ∙ ap (λ i. piece i (1 + length bs) (1 + length bs + one_if (first rest))) is) (omega arith) l

pub lexes_word : (word rest : List ℕ) (ts : List VToken) → IsWord word → Apart rest → Lexes rest ts → Lexes (word ++ rest) (t.Keyword word ∷ ts)
lexes_word word rest ts good h l = lexes_simple word rest (t.Keyword word) ts good.simple good.short (rw good.keyword refl) (apart_ends rest h) l

-- ---- escaped names

graphic : (b : ℕ) → 33 ≤ b → b ≤ 126 → is_graphic b ≡ true
graphic b low high = grind (arith, nat_tests)

escaped_stays : (bs : List ℕ) → AllByRecursion (λ b. (33 ≤ b) × (b ≤ 126)) bs → Stays phase.Escaped bs
unfolding next_step
escaped_stays [] h = tt
escaped_stays (b ∷ bs) h = (rw (graphic b h.0.0 h.0.1) refl, escaped_stays bs h.1)

escape_step : (b : ℕ) → 33 ≤ b → b ≤ 126 → next_step phase.Escape b ≡ Keep phase.Escaped
unfolding next_step
escape_step b low high = rw (graphic b low high) refl

-- the blank behind an escaped name ends it
escaped_read : (b : ℕ) (bs rest : List ℕ) → AllByRecursion (λ b. (33 ≤ b) × (b ≤ 126)) (b ∷ bs) → suc (length bs) ≤ 1024
    → item_at 92 ((b ∷ bs) ++ (32 ∷ rest)) ≡ piece (Token (t.Name (b ∷ bs))) (2 + length bs) (2 + length bs + 1)
unfolding item_at kept item_of scan_at is_complete most_of next_step
escaped_read b bs rest all short =
    let first_byte : scan_at phase.Escape [] 1 (b ∷ (bs ++ (32 ∷ rest))) ≡ scan_at phase.Escaped (b ∷ []) 2 (bs ++ (32 ∷ rest)) = steps_to phase.Escape phase.Escaped [] 1 b (bs ++ (32 ∷ rest)) (escape_step b all.0.0 all.0.1) (omega arith) in
    let others : scan_at phase.Escaped (b ∷ []) 2 (bs ++ (32 ∷ rest)) ≡ scan_at phase.Escaped (b ∷ bs) (2 + length bs) (32 ∷ rest) = goes_on phase.Escaped (b ∷ []) bs (32 ∷ rest) 2 (escaped_stays bs all.1) (omega (arith, short)) in
    rw (first_byte, others) refl

lexes_escaped : (name rest : List ℕ) (ts : List VToken) → IsName name → Lexes rest ts → Lexes (92 ∷ (name ++ (32 ∷ rest))) (t.Name name ∷ ts)
lexes_escaped [] rest ts good l = absurd (omega (arith, good.some))
lexes_escaped (b ∷ bs) rest ts good l =
    lexes_token 92 (b ∷ bs) (32 ∷ rest) (t.Name (b ∷ bs)) (2 + length bs) (2 + length bs + 1) ts
    (escaped_read b bs rest good.graphic good.short) (omega arith) (lexes_space 32 rest ts refl l)

-- ---- names

bare_simple : (name : List ℕ) → is_bare name ≡ true → (is_simple name ≡ true) × (not (is_keyword name) ≡ true)
unfolding is_bare
bare_simple name h = and_true (is_simple name) (not (is_keyword name)) h

pub lexes_name : (name rest : List ℕ) (ts : List VToken) → IsName name → NameEnds rest → Lexes rest ts → Lexes (named name rest) (t.Name name ∷ ts)
lexes_name name rest ts good h l = by_kind (is_bare name) refl
  where
    by_kind : (w : Bool) → is_bare name ≡ w → Lexes (named name rest) (t.Name name ∷ ts)
    by_kind true e =
        let p = bare_simple name e in
        rw e (lexes_simple name rest (t.Name name) ts p.0 good.short (rw (no_more (is_keyword name) p.1) refl) h l)
    by_kind false e = rw e (lexes_escaped name rest ts good l)

-- ---- neither begins with a `*`

letter_not_star : (b : ℕ) → (is_ascii_alphabetic b || b == 95) ≡ true → (b == 42) ≡ false
letter_not_star b h = grind (arith, nat_tests)

pub simple_not_star : (word rest : List ℕ) → is_simple word ≡ true → NotStar (word ++ rest)
unfolding is_simple
simple_not_star [] rest h = absurd (cc h)
simple_not_star (b ∷ bs) rest h = letter_not_star b (and_true (is_ascii_alphabetic b || b == 95) (list_all is_name_byte bs) h).0

pub name_not_star : (name rest : List ℕ) → NotStar (named name rest)
name_not_star name rest = by_kind (is_bare name) refl
  where
    by_kind : (w : Bool) → is_bare name ≡ w → NotStar (named name rest)
    by_kind true e = rw e (simple_not_star name rest (bare_simple name e).0)
    by_kind false e = rw e refl

-- ---- the directive

abbrev nettype : List ℕ
nettype = codes "`default_nettype"

directive_ends : (c : ℕ) → is_apart c ≡ true → next_step phase.Directive c ≡ Ends
unfolding next_step
directive_ends c h = rw (stops c h).word refl

directive_read : (rest : List ℕ) → Apart rest → item_at 96 (codes "default_nettype" ++ rest) ≡ piece (Token (t.Directive nettype)) 16 (16 + one_if (first rest))
unfolding item_at kept item_of is_complete most_of next_step
directive_read rest h =
    let first_byte : scan_at phase.Grave (96 ∷ []) 1 (codes "default_nettype" ++ rest) ≡ scan_at phase.Directive (codes "`d") 2 (codes "efault_nettype" ++ rest) =
    steps_to phase.Grave phase.Directive (96 ∷ []) 1 100 (codes "efault_nettype" ++ rest) refl (omega arith) in
    let others : scan_at phase.Directive (codes "`d") 2 (codes "efault_nettype" ++ rest) ≡ scan_at phase.Directive nettype 16 rest =
    goes_on phase.Directive (codes "`d") (codes "efault_nettype") rest 2 (refl, (refl, (refl, (refl, (refl, (refl, (refl, (refl, (refl, (refl, (refl, (refl, (refl, (refl, tt)))))))))))))) (omega arith) in
    rw (first_byte, others, comes_to_end is_apart phase.Directive nettype 16 rest refl directive_ends h) refl

pub lexes_directive : (word rest : List ℕ) (ts : List VToken) → word ≡ nettype → Apart rest → Lexes rest ts → Lexes (word ++ rest) (t.Directive word ∷ ts)
lexes_directive word rest ts is h l =
    rw is (lexes_token 96 (codes "default_nettype") rest (t.Directive nettype) 16 (16 + one_if (first rest)) ts (directive_read rest h) refl l)
