-- written statements read back
use Rattle.std.proofs.Common.{◌≡◌, ℕ, zero, suc, ◌+◌, ◌-◌, ◌<◌, ◌≤◌, inl, inr, Bool, true, false, ◌&&◌, not, nat_le, nat_lt, if◌then◌else◌, List, [], ◌∷◌, ◌++◌, refl, sym, ◌∙◌, ap, subst, subst₂, get_or, Option, Some, None, slice_get, length, append_assoc, arith}
use Rattle.std.specs.Prelude.{All, codes}
use Rattle.std.specs.List.{list_all}
use Rattle.std.proofs.lemmas.List.{append-nil, length-append}
use Rattle.std.proofs.lemmas.List.Elements.{All-append}
use Rattle.std.proofs.lemmas.List.Folds.{list_all_at}
use Rattle.std.proofs.lemmas.Option.{get_or_from_slice_get, slice_get_within}
use Rattle.nl_base.specs.Case.{same_bytes}
use Rattle.spice_text.specs.Reading.{IsOneLine, AreLines, last_line, next_line, IsWord, EndsWord, AreWords, no_words, skips, next_word, is_empty, is_comment, BeginsStatement, begins, GoesOn, stops, goes_on, AreStatements, no_statements, drops, next_statement, AreCalls, no_calls, next_call, named, AreSubckts, no_subckts, next_subckt, IsSpice, IsSpiceCall, IsSpiceSubckt, HasSpiceNames, HaveStatements, SpiceReads}
use Rattle.spice_text.specs.Texts.{word_then, line_after, words_then, line_after_words, call_then, calls_then, head_then, subckt_then, subckts_then, title_then, spice_text}
use Rattle.spice_text.specs.Words.{is_name_byte, is_spice_word}
use Rattle.spice_text.specs.declared.file.Call.{Call}
use Rattle.spice_text.specs.declared.file.SpiceFile.{SpiceFile}
use Rattle.spice_text.specs.declared.file.Subckt.{Subckt}

-- ---- SPICE words
and_parts : (a b : Bool) → (a && b) ≡ true → (a ≡ true) × (b ≡ true)
and_parts true true e = (refl, refl)
and_parts true false e = absurd (cc)
and_parts false b e = absurd (cc)

is_not_false : (b : Bool) → ¬ (b ≡ false) → b ≡ true
is_not_false true h = refl
is_not_false false h = absurd (h refl)

all_pass : (test : ℕ → Bool) (xs : List ℕ) → list_all test xs ≡ true → All (λ x. test x ≡ true) xs
all_pass test xs e k d lt = is_not_false (test (get_or xs k d)) (λ f. let g : list_all test xs ≡ false = list_all_at test xs k d lt f in absurd (cc))

-- a byte of a name is one of a word, and no end of a line
name_byte : (b : ℕ) → is_name_byte b ≡ true → (33 ≤ b) × (b ≤ 126)
unfolding is_name_byte
name_byte b e = (grind (arith, e), grind (arith, e))

-- what a SPICE word is
record Plain (word : List ℕ) : Type 0 where
  is_word : IsWord word
  one_line : IsOneLine word

plain : (word : List ℕ) → IsSpice word → Plain word
unfolding is_spice_word
plain word spice =
    let some : Bool = nat_le 1 (length word) in
    let short : Bool = nat_le (length word) 1100 in
    let other : Bool = not (same_bytes word (codes "0")) in
    let front = (and_parts (some && short && other) (list_all is_name_byte word) spice).0 in
    let bytes = (and_parts (some && short && other) (list_all is_name_byte word) spice).1 in
    let has_some : nat_le 1 (length word) ≡ true = (and_parts some short ((and_parts (some && short) other front).0)).0 in
    let all = all_pass is_name_byte word bytes in
    record {
      is_word = record { some = grind (arith, has_some); bytes = λ k d lt. name_byte (get_or word k d) (all k d lt) };
      one_line = λ k d lt e. let r = name_byte (get_or word k d) (all k d lt) in omega (arith, r.0, e);
    }

-- the same of a word with a byte before it
marked : (b : ℕ) (word : List ℕ) → 33 ≤ b → b ≤ 126 → Plain word → Plain (b ∷ word)
marked b word low high p = record {
  is_word = record { some = omega arith; bytes = bytes };
  one_line = one_line;
}
  where
    bytes : All (λ n. (33 ≤ n) × (n ≤ 126)) (b ∷ word)
    bytes zero d lt = (low, high)
    bytes (suc k) d lt = p.is_word.bytes k d (omega (arith, lt))

    one_line : IsOneLine (b ∷ word)
    one_line zero d lt e = omega (arith, low, e)
    one_line (suc k) d lt e = p.one_line k d (omega (arith, lt)) e

-- the first of a list, and the others
head_of : {A : Type 0} (P : A → Type 0) (x : A) (xs : List A) → All P (x ∷ xs) → P x
head_of P x xs all = all 0 x (omega arith)

tail_of : {A : Type 0} (P : A → Type 0) (x : A) (xs : List A) → All P (x ∷ xs) → All P xs
tail_of P x xs all = λ k d lt. all (suc k) d (omega (arith, lt))

all_of_none : {A : Type 0} (P : A → Type 0) → All P []
all_of_none P k d lt = absurd (omega (arith, lt))

all_of_more : {A : Type 0} (P : A → Type 0) (x : A) (xs : List A) → P x → All P xs → All P (x ∷ xs)
all_of_more P x xs h all zero d lt = h
all_of_more P x xs h all (suc k) d lt = all k d (omega (arith, lt))

-- ---- words with a blank before each
data AreBlanked : List ℕ → List (List ℕ) → Type 0 where
  none : AreBlanked [] []
  one : {word line : List ℕ} {words : List (List ℕ)} → IsWord word → AreBlanked line words → AreBlanked (32 ∷ (word ++ line)) (word ∷ words)

ends_word : (line : List ℕ) (words : List (List ℕ)) → AreBlanked line words → EndsWord line
ends_word line words none = tt
ends_word line words (one is b) = inr refl

blanked_words : (line : List ℕ) (words : List (List ℕ)) → AreBlanked line words → AreWords line words
blanked_words line words none = no_words
blanked_words line words (one {word = word} {line = rest} {words = others} is b) = skips (inr refl) (next_word is (ends_word rest others b) (blanked_words rest others b))

-- ---- folding
-- a line, words that stand behind it, and a rest: the words stand on this line and on further ones
record Folded (line : List ℕ) (text : List ℕ) (words : List (List ℕ)) (rest_lines : List (List ℕ)) : Type 0 where
  added : List ℕ
  front : List (List ℕ)
  blanked : AreBlanked added front
  others : List (List ℕ)
  back : List (List ℕ)
  are_lines : AreLines (line ++ text) ((line ++ added) ∷ others)
  goes : GoesOn others back rest_lines
  parts : words ≡ front ++ back

one_line_more : (line word : List ℕ) → IsOneLine line → IsOneLine word → IsOneLine (line ++ (32 ∷ word))
one_line_more line word is is_word = All-append (λ b. ¬ (b ≡ 10)) line (32 ∷ word) is (all_of_more (λ b. ¬ (b ≡ 10)) 32 word (λ e. omega (arith, e)) is_word)

on_new_line : (line word text : List ℕ) (words rest_lines : List (List ℕ)) → IsOneLine line → Plain word → Folded (43 ∷ 32 ∷ word) text words rest_lines → Folded line (10 ∷ 43 ∷ 32 ∷ (word ++ text)) (word ∷ words) rest_lines
on_new_line line word text words rest_lines is p f = record {
  added = [];
  front = [];
  blanked = none;
  others = ((43 ∷ 32 ∷ word) ++ f.added) ∷ f.others;
  back = (word ∷ f.front) ++ f.back;
  are_lines = subst (λ l. AreLines (line ++ (10 ∷ 43 ∷ 32 ∷ (word ++ text))) (l ∷ ((43 ∷ 32 ∷ word) ++ f.added) ∷ f.others)) (sym (append-nil line)) (next_line is f.are_lines);
  goes = goes_on (skips (inr refl) (next_word p.is_word (ends_word f.added f.front f.blanked) (blanked_words f.added f.front f.blanked))) f.goes;
  parts = ap (λ ws. word ∷ ws) f.parts;
}

on_this_line : (line word text : List ℕ) (words rest_lines : List (List ℕ)) → Plain word → Folded (line ++ (32 ∷ word)) text words rest_lines → Folded line (32 ∷ (word ++ text)) (word ∷ words) rest_lines
on_this_line line word text words rest_lines p f = record {
  added = 32 ∷ (word ++ f.added);
  front = word ∷ f.front;
  blanked = one p.is_word f.blanked;
  others = f.others;
  back = f.back;
  are_lines = subst₂ (λ t l. AreLines t (l ∷ f.others)) (append_assoc line (32 ∷ word) text) (append_assoc line (32 ∷ word) f.added) f.are_lines;
  goes = f.goes;
  parts = ap (λ ws. word ∷ ws) f.parts;
}

-- a word behind a line
word_folded : (line : List ℕ) (count : ℕ) (word text : List ℕ) (words rest_lines : List (List ℕ)) → IsOneLine line → Plain word → ((next : List ℕ) → IsOneLine next → Folded next text words rest_lines) → Folded line (word_then count word text) (word ∷ words) rest_lines
unfolding word_then
word_folded line count word text words rest_lines is p folded = by (nat_lt 80 (count + 1 + length word))
  where
    by : (b : Bool) → Folded line (if b then codes "\n+ " ++ (word ++ text) else codes " " ++ (word ++ text)) (word ∷ words) rest_lines
    by true = on_new_line line word text words rest_lines is p (folded (43 ∷ 32 ∷ word) (all_of_more (λ b. ¬ (b ≡ 10)) 43 (32 ∷ word) (λ e. omega (arith, e)) (all_of_more (λ b. ¬ (b ≡ 10)) 32 word (λ e. omega (arith, e)) p.one_line)))
    by false = on_this_line line word text words rest_lines p (folded (line ++ (32 ∷ word)) (one_line_more line word is p.one_line))

words_folded : (words : List (List ℕ)) (count : ℕ) (rest : List ℕ) (rest_lines : List (List ℕ)) → All IsSpice words → AreLines rest rest_lines → (line : List ℕ) → IsOneLine line → Folded line (words_then count words (10 ∷ rest)) words rest_lines
words_folded [] count rest rest_lines all are line is = record {
  added = [];
  front = [];
  blanked = none;
  others = rest_lines;
  back = [];
  are_lines = subst (λ l. AreLines (line ++ (10 ∷ rest)) (l ∷ rest_lines)) (sym (append-nil line)) (next_line is are);
  goes = stops;
  parts = refl;
}
words_folded (word ∷ words) count rest rest_lines all are line is =
    word_folded line count word (words_then (line_after count word) words (10 ∷ rest)) words rest_lines is (plain word (head_of IsSpice word words all))
    (words_folded words (line_after count word) rest rest_lines (tail_of IsSpice word words all) are)

-- ---- statements
-- a first word that begins with neither `*` nor `+`, and further words, before what follows
statement_reads : (b : ℕ) (word : List ℕ) (count : ℕ) (words : List (List ℕ)) (rest : List ℕ) (statements : List (List (List ℕ))) → ¬ (b ≡ 42) → ¬ (b ≡ 43) → Plain (b ∷ word) → All IsSpice words → HaveStatements rest statements →
    HaveStatements ((b ∷ word) ++ words_then count words (10 ∷ rest)) (((b ∷ word) ∷ words) ∷ statements)
statement_reads b word count words rest statements star plus p all have =
    let f : Folded (b ∷ word) (words_then count words (10 ∷ rest)) words have.lines = words_folded words count rest have.lines all have.are_lines (b ∷ word) p.one_line in
    record {
      lines = ((b ∷ word) ++ f.added) ∷ f.others;
      are_lines = f.are_lines;
      are_statements = subst (λ ws. AreStatements (((b ∷ word) ++ f.added) ∷ f.others) (((b ∷ word) ∷ ws) ∷ statements)) (sym f.parts)
          (next_statement (begins star plus) (next_word p.is_word (ends_word f.added f.front f.blanked) (blanked_words f.added f.front f.blanked)) f.goes have.are_statements);
    }

-- words, and one behind them
words_last : (words : List (List ℕ)) (last : List ℕ) (count : ℕ) (rest : List ℕ) → words_then count words (word_then (line_after_words count words) last rest) ≡ words_then count (words ++ last ∷ []) rest
words_last [] last count rest = refl
words_last (word ∷ words) last count rest = ap (word_then count word) (words_last words last (line_after count word) rest)

call_reads : (call : Call) (rest : List ℕ) (statements : List (List (List ℕ))) → IsSpiceCall call → HaveStatements rest statements → HaveStatements (call_then call rest) (((88 ∷ call.name) ∷ (call.nodes ++ call.cell ∷ [])) ∷ statements)
unfolding call_then
call_reads call rest statements is have =
    let all : All IsSpice (call.nodes ++ call.cell ∷ []) = All-append IsSpice call.nodes (call.cell ∷ []) is.nodes (all_of_more IsSpice call.cell [] is.cell (all_of_none IsSpice)) in
    let text = words_last call.nodes call.cell (length call.name + 1) (10 ∷ rest) in
    subst (λ t. HaveStatements ((88 ∷ call.name) ++ t) (((88 ∷ call.name) ∷ (call.nodes ++ call.cell ∷ [])) ∷ statements)) (sym text)
    (statement_reads 88 call.name (length call.name + 1) (call.nodes ++ call.cell ∷ []) rest statements (λ e. omega (arith, e)) (λ e. omega (arith, e)) (marked 88 call.name (omega arith) (omega arith) (plain call.name is.name)) all have)

-- the statements of parts, before those of what follows
record Before (text : List ℕ → List ℕ) (Are : List (List (List ℕ)) → Type 0) (rest : List ℕ) (statements : List (List (List ℕ))) : Type 0 where
  own : List (List (List ℕ))
  are : Are own
  have : HaveStatements (text rest) (own ++ statements)

calls_read : (calls : List Call) (rest : List ℕ) (statements : List (List (List ℕ))) → All IsSpiceCall calls → HaveStatements rest statements → Before (calls_then calls) (AreCalls calls) rest statements
calls_read [] rest statements all have = record { own = []; are = no_calls; have = have }
calls_read (call ∷ calls) rest statements all have =
    let more : Before (calls_then calls) (AreCalls calls) rest statements = calls_read calls rest statements (tail_of IsSpiceCall call calls all) have in
    record {
      own = ((88 ∷ call.name) ∷ (call.nodes ++ call.cell ∷ [])) ∷ more.own;
      are = next_call refl more.are;
      have = call_reads call (calls_then calls rest) (more.own ++ statements) (head_of IsSpiceCall call calls all) more.have;
    }

-- the plain words `.SUBCKT` and `.ENDS`
plain_word : (word : List ℕ) → 0 < length word → All (λ b. (33 ≤ b) × (b ≤ 126)) word → Plain word
plain_word word some bytes = record {
  is_word = record { some = some; bytes = bytes };
  one_line = λ k d lt e. let r = bytes k d lt in omega (arith, r.0, e);
}

letter : (b : ℕ) (word : List ℕ) → 33 ≤ b → b ≤ 126 → All (λ b. (33 ≤ b) × (b ≤ 126)) word → All (λ b. (33 ≤ b) × (b ≤ 126)) (b ∷ word)
letter b word low high all = all_of_more (λ n. (33 ≤ n) × (n ≤ 126)) b word (low, high) all

dotted : (word : List ℕ) → All (λ b. (33 ≤ b) × (b ≤ 126)) word → Plain (46 ∷ word)
dotted word bytes = plain_word (46 ∷ word) (omega arith) (all_of_more (λ b. (33 ≤ b) × (b ≤ 126)) 46 word (omega arith, omega arith) bytes)

subckt_word : Plain (codes ".SUBCKT")
subckt_word = dotted (83 ∷ 85 ∷ 66 ∷ 67 ∷ 75 ∷ 84 ∷ []) (letter 83 (85 ∷ 66 ∷ 67 ∷ 75 ∷ 84 ∷ []) (omega arith) (omega arith) (letter 85 (66 ∷ 67 ∷ 75 ∷ 84 ∷ []) (omega arith) (omega arith) (letter 66 (67 ∷ 75 ∷ 84 ∷ []) (omega arith) (omega arith) (letter 67 (75 ∷ 84 ∷ []) (omega arith) (omega arith) (letter 75 (84 ∷ []) (omega arith) (omega arith) (letter 84 [] (omega arith) (omega arith) (all_of_none (λ b. (33 ≤ b) × (b ≤ 126)))))))))

end_word : Plain (codes ".ENDS")
end_word = dotted (69 ∷ 78 ∷ 68 ∷ 83 ∷ []) (letter 69 (78 ∷ 68 ∷ 83 ∷ []) (omega arith) (omega arith) (letter 78 (68 ∷ 83 ∷ []) (omega arith) (omega arith) (letter 68 (83 ∷ []) (omega arith) (omega arith) (letter 83 [] (omega arith) (omega arith) (all_of_none (λ b. (33 ≤ b) × (b ≤ 126)))))))

subckt_reads : (cell : Subckt) (cells : List Subckt) (rest : List ℕ) (statements : List (List (List ℕ))) → IsSpiceSubckt cell → AreSubckts cells statements → HaveStatements rest statements →
    Before (subckt_then cell) (AreSubckts (cell ∷ cells)) rest []
unfolding subckt_then head_then
subckt_reads cell cells rest statements is are have =
    let ended : HaveStatements (codes ".ENDS" ++ word_then 5 cell.name (10 ∷ rest)) ((codes ".ENDS" ∷ cell.name ∷ []) ∷ statements) =
    statement_reads 46 (69 ∷ 78 ∷ 68 ∷ 83 ∷ []) 5 (cell.name ∷ []) rest statements (λ e. omega (arith, e)) (λ e. omega (arith, e)) end_word (all_of_more IsSpice cell.name [] is.name (all_of_none IsSpice)) have in
    let calls : Before (calls_then cell.calls) (AreCalls cell.calls) (codes ".ENDS" ++ word_then 5 cell.name (10 ∷ rest)) ((codes ".ENDS" ∷ cell.name ∷ []) ∷ statements) =
    calls_read cell.calls (codes ".ENDS" ++ word_then 5 cell.name (10 ∷ rest)) ((codes ".ENDS" ∷ cell.name ∷ []) ∷ statements) is.calls ended in
    let own : List (List (List ℕ)) = (codes ".SUBCKT" ∷ cell.name ∷ cell.ports) ∷ (calls.own ++ ((codes ".ENDS" ∷ cell.name ∷ []) ∷ statements)) in
    record {
      own = own;
      are = next_subckt refl calls.are (named refl) are;
      have = subst (HaveStatements (subckt_then cell rest)) (sym (append-nil own))
          (statement_reads 46 (83 ∷ 85 ∷ 66 ∷ 67 ∷ 75 ∷ 84 ∷ []) 7 (cell.name ∷ cell.ports) (calls_then cell.calls (codes ".ENDS" ++ word_then 5 cell.name (10 ∷ rest))) (calls.own ++ ((codes ".ENDS" ∷ cell.name ∷ []) ∷ statements))
          (λ e. omega (arith, e)) (λ e. omega (arith, e)) subckt_word (all_of_more IsSpice cell.name cell.ports is.name is.ports) calls.have);
    }

-- subcircuits and the end of the text
record Whole (cells : List Subckt) : Type 0 where
  statements : List (List (List ℕ))
  are : AreSubckts cells statements
  have : HaveStatements (subckts_then cells []) statements

whole : (cells : List Subckt) → All IsSpiceSubckt cells → Whole cells
whole [] all = record { statements = []; are = no_subckts; have = record { lines = [] ∷ []; are_lines = last_line (all_of_none (λ b. ¬ (b ≡ 10))); are_statements = drops is_empty no_statements } }
whole (cell ∷ cells) all =
    let more : Whole cells = whole cells (tail_of IsSpiceSubckt cell cells all) in
    let here : Before (subckt_then cell) (AreSubckts (cell ∷ cells)) (subckts_then cells []) [] = subckt_reads cell cells (subckts_then cells []) more.statements (head_of IsSpiceSubckt cell cells all) more.are more.have in
    record { statements = here.own; are = here.are; have = subst (HaveStatements (subckt_then cell (subckts_then cells []))) (append-nil here.own) here.have }

-- the line of the title says nothing
titled : (top : List ℕ) (rest : List ℕ) (statements : List (List (List ℕ))) → IsOneLine top → HaveStatements rest statements → HaveStatements (42 ∷ 32 ∷ (top ++ (10 ∷ rest))) statements
titled top rest statements is have = record {
  lines = (42 ∷ 32 ∷ top) ∷ have.lines;
  are_lines = next_line (all_of_more (λ b. ¬ (b ≡ 10)) 42 (32 ∷ top) (λ e. omega (arith, e)) (all_of_more (λ b. ¬ (b ≡ 10)) 32 top (λ e. omega (arith, e)) is)) have.are_lines;
  are_statements = drops is_comment have.are_statements;
}

pub reads_back : (file : SpiceFile) → HasSpiceNames file → SpiceReads (spice_text file) file
reads_back file names =
    let w : Whole file.cells = whole file.cells names in
    record { names = names; statements = w.statements; have = by (slice_get file.cells (length file.cells - 1)) refl w; are_subckts = w.are }
  where
    by : (top : Option Subckt) → slice_get file.cells (length file.cells - 1) ≡ top → (w : Whole file.cells) → HaveStatements (title_then top (subckts_then file.cells [])) w.statements
    by None e w = w.have
    by (Some top) e w =
        let lt = slice_get_within file.cells (length file.cells - 1) top e in
        let spice : IsSpiceSubckt top = subst IsSpiceSubckt (get_or_from_slice_get file.cells (length file.cells - 1) top top e) (names (length file.cells - 1) top lt) in
        titled top.name (subckts_then file.cells []) w.statements (plain top.name spice.name).one_line w.have
