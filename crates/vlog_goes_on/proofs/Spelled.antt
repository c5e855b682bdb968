-- Each list of tokens that bytes can spell is that of some bytes: each token as it is written, and a blank behind it.
use Rattle.std.proofs.Common.{◌≡◌, ℕ, ◌+◌, ◌≤◌, Bool, true, false, List, [], ◌∷◌, ◌++◌, length, refl, sym, subst, arith}
use Rattle.std.specs.Prelude.{ℤ, pos, negsuc, ◌≤ℤ◌, ◌&&◌, ◌||◌, ◌==◌}
use Rattle.std.specs.Char.{is_ascii_alphabetic}
use Rattle.std.specs.Fmt.{signed_decimal}
use Rattle.std.specs.List.{AllByRecursion, list_all}
use Rattle.std.proofs.lemmas.Bool.{eqb-true}
use Rattle.std.proofs.lemmas.Bool.Decides.{nat_tests}
use Rattle.nl_bytes.specs.Bytes.{first}
use Rattle.nl_bytes.specs.Classes.{is_word_byte}
use Rattle.vlog_values.specs.Spelling.{based_spelling}
use Rattle.vlog_values.specs.Values.{IsCount, IsNumber}
use Rattle.vlog_tokens.specs.declared.item.Item.TheVariants.{Token}
use Rattle.vlog_tokens.specs.declared.phase.Phase.TheVariants as phase
use Rattle.vlog_tokens.specs.declared.phase.Step.TheVariants.{Keep, Ends}
use Rattle.vlog_tokens.specs.declared.start.Start.TheVariants as start
use Rattle.vlog_tokens.specs.declared.token.VToken.{VToken}
use Rattle.vlog_tokens.specs.declared.token.VToken.TheVariants as t
use Rattle.vlog_tokens.specs.Items.{item_of, directive_item}
use Rattle.vlog_tokens.specs.Phases.{next_step, is_complete, most_of}
use Rattle.vlog_tokens.specs.Scanning.{scan_at, kept, one_if}
use Rattle.vlog_tokens.specs.Spelling.{item_at, start_of, is_symbol}
use Rattle.vlog_writer.specs.Layout.{Mark}
use Rattle.vlog_writer.specs.Spelling.{named, quoted}
use Rattle.vlog_lexing.specs.Lexing.{Lexes}
use Rattle.vlog_lexing.proofs.Scanning.{piece, is_apart, Apart, stops, Stays, goes_on, steps_to, comes_to_end, lexes_end, lexes_space, lexes_token, lexes_attributes, lexes_attributes_end}
use Rattle.vlog_lexing.proofs.Names.{lexes_name, lexes_word}
use Rattle.vlog_lexing.proofs.Numbers.{lexes_number, lexes_real}
use Rattle.vlog_lexing.proofs.Literals.{lexes_based}
use Rattle.vlog_lexing.proofs.Strings.{lexes_string}
use Rattle.vlog_lexing.proofs.Laying.{inline_lexes}
use Rattle.vlog_goes_on.specs.GoesOn.{is_operator, IsDirective, IsOfBytes}

-- ---- symbols and directives

symbol_starts : (b : ℕ) → is_symbol b ≡ true → start_of b ≡ start.Sign
symbol_starts b h = grind (arith, nat_tests)

lexes_symbol : (b : ℕ) (rest : List ℕ) (ts : List VToken) → is_operator b ≡ true → Lexes (32 ∷ rest) ts → Lexes (b ∷ 32 ∷ rest) (t.Symbol b ∷ ts)
unfolding item_at
lexes_symbol b rest ts good l = by_symbol (is_symbol b) refl
  where
    by_slash : (w : Bool) → (b == 47) ≡ w → w ≡ true → Lexes (b ∷ 32 ∷ rest) (t.Symbol b ∷ ts)
    by_slash true e h = rw (eqb-true b 47 e) (lexes_token 47 [] (32 ∷ rest) (t.Symbol 47) 1 2 ts refl refl l)
    by_slash false e h = absurd cc

    by_star : (w : Bool) → (b == 42) ≡ w → (w || b == 47) ≡ true → Lexes (b ∷ 32 ∷ rest) (t.Symbol b ∷ ts)
    by_star true e h = rw (eqb-true b 42 e) (lexes_token 42 [] (32 ∷ rest) (t.Symbol 42) 1 2 ts refl refl l)
    by_star false e h = by_slash (b == 47) refl h

    by_symbol : (w : Bool) → is_symbol b ≡ w → Lexes (b ∷ 32 ∷ rest) (t.Symbol b ∷ ts)
    by_symbol true e = lexes_token b [] (32 ∷ rest) (t.Symbol b) 1 1 ts (rw (symbol_starts b e) refl) refl l
    by_symbol false e = by_star (b == 42) refl (rw e at good)

and_true : (a b : Bool) → (a && b) ≡ true → (a ≡ true) × (b ≡ true)
and_true true b h = (refl, h)
and_true false b h = absurd cc

directive_begins : (b : ℕ) → (is_ascii_alphabetic b || b == 95) ≡ true → next_step phase.Grave b ≡ Keep phase.Directive
unfolding next_step
directive_begins b h = rw h refl

directive_stays : (bs : List ℕ) → list_all is_word_byte bs ≡ true → Stays phase.Directive bs
unfolding next_step
directive_stays [] h = tt
directive_stays (b ∷ bs) h = let p = and_true (is_word_byte b) (list_all is_word_byte bs) h in (rw p.0 refl, directive_stays bs p.1)

directive_ends : (c : ℕ) → is_apart c ≡ true → next_step phase.Directive c ≡ Ends
unfolding next_step
directive_ends c h = rw (stops c h).word refl

directive_read : (b : ℕ) (bs rest : List ℕ) → (is_ascii_alphabetic b || b == 95) ≡ true → list_all is_word_byte bs ≡ true → 2 + length bs ≤ 1024
    → directive_item (96 ∷ b ∷ bs) ≡ Token (t.Directive (96 ∷ b ∷ bs)) → Apart rest
    → item_at 96 ((b ∷ bs) ++ rest) ≡ piece (Token (t.Directive (96 ∷ b ∷ bs))) (2 + length bs) (2 + length bs + one_if (first rest))
unfolding item_at kept item_of is_complete most_of
directive_read b bs rest begins all short item h =
    let first_byte : scan_at phase.Grave (96 ∷ []) 1 (b ∷ (bs ++ rest)) ≡ scan_at phase.Directive (96 ∷ b ∷ []) 2 (bs ++ rest) =
    steps_to phase.Grave phase.Directive (96 ∷ []) 1 b (bs ++ rest) (directive_begins b begins) (omega arith) in
    let others : scan_at phase.Directive (96 ∷ b ∷ []) 2 (bs ++ rest) ≡ scan_at phase.Directive (96 ∷ b ∷ bs) (2 + length bs) rest =
    goes_on phase.Directive (96 ∷ b ∷ []) bs rest 2 (directive_stays bs all) (omega (arith, short)) in
    rw (first_byte, others, comes_to_end is_apart phase.Directive (96 ∷ b ∷ bs) (2 + length bs) rest refl directive_ends h, item) refl

lexes_directive : (w rest : List ℕ) (ts : List VToken) → IsDirective w → Apart rest → Lexes rest ts → Lexes (w ++ rest) (t.Directive w ∷ ts)
lexes_directive w rest ts good h l =
    let is = good.spelled in
    let short : 2 + length good.rest ≤ 1024 = let s = subst (λ (z : List ℕ). length z ≤ 1024) is good.short in omega (arith, s) in
    let item = subst (λ (z : List ℕ). directive_item z ≡ Token (t.Directive z)) is good.is_token in
    subst (λ (z : List ℕ). Lexes (z ++ rest) (t.Directive z ∷ ts)) (sym is)
    (lexes_token 96 (good.first ∷ good.rest) rest (t.Directive (96 ∷ good.first ∷ good.rest)) (2 + length good.rest) (2 + length good.rest + one_if (first rest)) ts
    (directive_read good.first good.rest rest good.begins good.follows short item h) (omega arith) l)

-- ---- tokens

-- what is written of a token, before what follows
abbrev pub token_text : VToken → List ℕ → List ℕ
token_text (t.Name n) rest = named n rest
token_text (t.Keyword w) rest = w ++ rest
token_text (t.Number n) rest = signed_decimal n ++ rest
token_text (t.Real r) rest = signed_decimal r.mantissa ++ (101 ∷ (signed_decimal r.exponent ++ rest))
token_text (t.Based d) rest = based_spelling d ++ rest
token_text (t.Str s) rest = quoted s rest
token_text (t.Punct b) rest = b ∷ rest
token_text t.AttrStart rest = 40 ∷ 42 ∷ rest
token_text t.AttrStop rest = 42 ∷ 41 ∷ rest
token_text (t.Symbol b) rest = b ∷ rest
token_text (t.Directive w) rest = w ++ rest

-- what is written of tokens, with a blank behind each
abbrev pub tokens_text : List VToken → List ℕ
tokens_text [] = []
tokens_text (x ∷ xs) = token_text x (32 ∷ tokens_text xs)

number_lexes : (n : ℤ) (rest : List ℕ) (ts : List VToken) → IsCount n → Apart rest → Lexes rest ts
    → Lexes (signed_decimal n ++ rest) (t.Number n ∷ ts)
number_lexes (pos n) rest ts good h l = lexes_number (pos n) rest ts good.number h l
number_lexes (negsuc n) rest ts good h l = let sign = good.sign in absurd (grind arith)

real_lexes : (m e : ℤ) (rest : List ℕ) (ts : List VToken) → pos 0 ≤ℤ m → IsNumber m → IsNumber e → Apart rest → Lexes rest ts
    → Lexes (signed_decimal m ++ (101 ∷ (signed_decimal e ++ rest))) (t.Real (record { mantissa = m; exponent = e }) ∷ ts)
real_lexes (pos n) e rest ts sign small near h l = lexes_real (pos n) e rest ts small near h l
real_lexes (negsuc n) e rest ts sign small near h l = absurd (grind arith)

token_lexes : (x : VToken) (rest : List ℕ) (ts : List VToken) → IsOfBytes x → Lexes (32 ∷ rest) ts → Lexes (token_text x (32 ∷ rest)) (x ∷ ts)
token_lexes (t.Name n) rest ts good l = lexes_name n (32 ∷ rest) ts good refl l
token_lexes (t.Keyword w) rest ts good l = lexes_word w (32 ∷ rest) ts good refl l
token_lexes (t.Number n) rest ts good l = number_lexes n (32 ∷ rest) ts good refl l
token_lexes (t.Real r) rest ts good l = real_lexes r.mantissa r.exponent (32 ∷ rest) ts good.sign good.real.mantissa good.real.exponent refl l
token_lexes (t.Based d) rest ts good l = lexes_based d (32 ∷ rest) ts good refl l
token_lexes (t.Str s) rest ts good l = lexes_string s (32 ∷ rest) ts good l
token_lexes (t.Punct b) rest ts good l = inline_lexes (Mark b) good (32 ∷ rest) ts refl l
token_lexes t.AttrStart rest ts good l = lexes_attributes (32 ∷ rest) ts l
token_lexes t.AttrStop rest ts good l = lexes_attributes_end (32 ∷ rest) ts l
token_lexes (t.Symbol b) rest ts good l = lexes_symbol b rest ts good l
token_lexes (t.Directive w) rest ts good l = lexes_directive w (32 ∷ rest) ts good refl l

pub tokens_lex : (xs : List VToken) → AllByRecursion IsOfBytes xs → Lexes (tokens_text xs) xs
tokens_lex [] good = lexes_end
tokens_lex (x ∷ xs) good = token_lexes x (tokens_text xs) xs good.0 (lexes_space 32 (tokens_text xs) xs refl (tokens_lex xs good.1))
