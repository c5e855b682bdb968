-- A name, a number, a literal or a directive is the same where other bytes stand behind it, if it still ends there.
use Rattle.std.proofs.Common.{◌≡◌, ℕ, ◌+◌, Bool, true, false, cond, eqb, List, [], ◌∷◌, ◌++◌, length, Option, Some, None, Ok, refl, ap, ◌∙◌, arith, ◌⊎◌, inl, inr}
use Rattle.std.specs.Prelude.{IfSome, ◌||◌, nat_le}
use Rattle.std.specs.Char.{is_ascii_digit, is_ascii_alphabetic}
use Rattle.nl_base.specs.declared.fault.Reason.TheVariants.{EndOfInput, TokenTooLong}
use Rattle.nl_bytes.specs.Bytes.{first}
use Rattle.nl_bytes.specs.Classes.{is_verilog_space, is_graphic}
use Rattle.vlog_values.specs.declared.literal.Base.{Base}
use Rattle.vlog_values.specs.declared.literal.Base.TheVariants.{Binary, Octal, Decimal, Hex}
use Rattle.vlog_tokens.specs.declared.phase.Phase.{Phase}
use Rattle.vlog_tokens.specs.declared.phase.Phase.TheVariants as phase
use Rattle.vlog_tokens.specs.declared.phase.Step.{Step}
use Rattle.vlog_tokens.specs.declared.phase.Step.TheVariants.{Keep, Pass, Ends, Bad}
use Rattle.nl_bytes.specs.Flaws.{Piece, flaw}
use Rattle.vlog_tokens.specs.Phases.{next_step, is_complete, most_of, base_of, letter_step, is_digit, is_open, is_sign}
use Rattle.vlog_tokens.specs.Phases as phases
use Rattle.vlog_tokens.specs.Scanning.{Lexeme, scan_at, stepped, ended}
use Rattle.vlog_lexing.proofs.Scanning.{piece}

-- a blank, or no byte
abbrev pub BlankNext : List ℕ → Type 0
BlankNext bs = IfSome (first bs) (λ b. b ≡ 32)

-- the other bytes begin as these do, or with a blank, or there are none
abbrev pub Fits : List ℕ → List ℕ → Type 0
Fits rest other = (first rest ≡ first other) ⊎ BlankNext other

abbrev Never : Step → Type 0
Never s = s ≡ Ends → ⊥

never : (t : Bool) (x y : Step) → Never x → Never y → Never (cond t x y)
never true x y h k = h
never false x y h k = k

keep_never : (p : Phase) → Never (Keep p)
keep_never p e = cc

pass_never : (p : Phase) → Never (Pass p)
pass_never p e = cc

bad_never : Never Bad
bad_never e = cc

letter_never : (o : Option Base) → Never (letter_step o)
letter_never (Some base) = keep_never (phase.Letter base)
letter_never None = bad_never

digit_never : (base : Base) (b : ℕ) → Never (phases.first_digit base b)
digit_never Binary b = never (is_digit Binary b) _ _ (keep_never (phase.Digits Binary)) bad_never
digit_never Octal b = never (is_digit Octal b) _ _ (keep_never (phase.Digits Octal)) bad_never
digit_never Hex b = never (is_digit Hex b) _ _ (keep_never (phase.Digits Hex)) bad_never
digit_never Decimal b = never (is_ascii_digit b) _ _ (keep_never (phase.Digits Decimal)) (never (is_open b) _ _ (keep_never phase.Unknown) bad_never)

-- only a complete token ends
complete : (p : Phase) (b : ℕ) → next_step p b ≡ Ends → is_complete p ≡ true
unfolding next_step is_complete
complete phase.Word b e = refl
complete phase.Escape b e = absurd (never (is_graphic b) _ _ (keep_never phase.Escaped) bad_never e)
complete phase.Escaped b e = refl
complete phase.Whole b e = refl
complete phase.Point b e = absurd (never (is_ascii_digit b) _ _ (keep_never phase.Fraction) bad_never e)
complete phase.Fraction b e = refl
complete phase.Mark b e =
    absurd (never (is_ascii_digit b) _ _ (keep_never phase.Exponent) (never (is_sign b) _ _ (keep_never phase.Sign) bad_never) e)
complete phase.Sign b e = absurd (never (is_ascii_digit b) _ _ (keep_never phase.Exponent) bad_never e)
complete phase.Exponent b e = refl
complete phase.Prefix b e = absurd (never (eqb b 115 || eqb b 83) _ _ (keep_never phase.Signed) (letter_never (base_of b)) e)
complete phase.Signed b e = absurd (letter_never (base_of b) e)
complete (phase.Letter base) b e = absurd (never (is_verilog_space b) _ _ (pass_never (phase.Letter base)) (digit_never base b) e)
complete (phase.Digits base) b e = refl
complete phase.Unknown b e = refl
complete phase.Grave b e = absurd (never (is_ascii_alphabetic b || eqb b 95) _ _ (keep_never phase.Directive) bad_never e)
complete phase.Directive b e = refl

-- a blank ends a complete token
blank_ends : (p : Phase) → is_complete p ≡ true → next_step p 32 ≡ Ends
unfolding next_step is_complete
blank_ends phase.Word h = refl
blank_ends phase.Escape h = absurd cc
blank_ends phase.Escaped h = refl
blank_ends phase.Whole h = refl
blank_ends phase.Point h = absurd cc
blank_ends phase.Fraction h = refl
blank_ends phase.Mark h = absurd cc
blank_ends phase.Sign h = absurd cc
blank_ends phase.Exponent h = refl
blank_ends phase.Prefix h = absurd cc
blank_ends phase.Signed h = absurd cc
blank_ends (phase.Letter base) h = absurd cc
blank_ends (phase.Digits Binary) h = refl
blank_ends (phase.Digits Octal) h = refl
blank_ends (phase.Digits Decimal) h = refl
blank_ends (phase.Digits Hex) h = refl
blank_ends phase.Unknown h = refl
blank_ends phase.Grave h = absurd cc
blank_ends phase.Directive h = refl

-- bytes that go on as one token, which is the same where it still ends
pub record Scans (n : ℕ) (p : Phase) (text bs : List ℕ) (x : Piece Lexeme) : Type 0 where
  pub used : List ℕ
  pub rest : List ℕ
  pub parts : bs ≡ used ++ rest
  pub count : x.count ≡ n + length used
  pub again : (other : List ℕ) → Fits rest other → (seen : ℕ) × (scan_at p text n (used ++ other) ≡ piece x.value x.count seen)

ends_before : (p : Phase) (text : List ℕ) (n : ℕ) (other : List ℕ) → is_complete p ≡ true → IfSome (first other) (λ b. next_step p b ≡ Ends)
    → (seen : ℕ) × (scan_at p text n other ≡ piece (record { phase = p; text = text }) n seen)
unfolding scan_at
ends_before p text n [] h k = (n + 0, rw h refl)
ends_before p text n (c ∷ cs) h k = (n + 1, rw k refl)

blank_before : (p : Phase) → is_complete p ≡ true → (other : List ℕ) → BlankNext other → IfSome (first other) (λ b. next_step p b ≡ Ends)
blank_before p h [] k = tt
blank_before p h (c ∷ cs) k = ap (next_step p) k ∙ blank_ends p h

same_before : (p : Phase) (b : ℕ) (other : List ℕ) → next_step p b ≡ Ends → Some b ≡ first other → IfSome (first other) (λ b. next_step p b ≡ Ends)
same_before p b [] e k = tt
same_before p b (c ∷ cs) e k = let same : c ≡ b = cc in ap (next_step p) same ∙ e

none_before : (p : Phase) (other : List ℕ) → None ≡ first other → IfSome (first other) (λ b. next_step p b ≡ Ends)
none_before p [] k = tt
none_before p (c ∷ cs) k = absurd cc

ended_here : (p : Phase) (text : List ℕ) (n : ℕ) (bs : List ℕ) (next : Option ℕ) (x : Piece Lexeme) → is_complete p ≡ true
    → ended p text n next ≡ Ok x
    → ((other : List ℕ) → Fits bs other → IfSome (first other) (λ b. next_step p b ≡ Ends)) → Scans n p text bs x
ended_here p text n bs next x h e fits = record {
  used = [];
  rest = bs;
  parts = refl;
  count = let k : n ≡ x.count = cc in omega (arith, k);
  again = λ other f. let b = ends_before p text n other h (fits other f) in (b.0, b.1 ∙ same_value b.0);
}
  where
    same_value : (seen : ℕ) → piece (record { phase = p; text = text }) n seen ≡ piece x.value x.count seen
    same_value seen = cc

step_on : (n : ℕ) (p q : Phase) (text more : List ℕ) (b : ℕ) (bs : List ℕ) (x : Piece Lexeme)
    → ((z : List ℕ) → scan_at p text n (b ∷ z) ≡ scan_at q more (n + 1) z) → Scans (n + 1) q more bs x → Scans n p text (b ∷ bs) x
step_on n p q text more b bs x same s = record {
  used = b ∷ s.used;
  rest = s.rest;
  parts = ap (λ (z : List ℕ). b ∷ z) s.parts;
  count = s.count ∙ omega arith;
  again = λ other f. let a = s.again other f in (a.0, same (s.used ++ other) ∙ a.1);
}

step_of : (p : Phase) (text : List ℕ) (n b : ℕ) (s : Step) → next_step p b ≡ s → (z : List ℕ)
    → scan_at p text n (b ∷ z) ≡ stepped s p text n b (λ next kept. scan_at next kept (n + 1) z)
unfolding scan_at
step_of p text n b s e z = rw e refl

fits_end : (p : Phase) → is_complete p ≡ true → (other : List ℕ) → Fits [] other → IfSome (first other) (λ b. next_step p b ≡ Ends)
fits_end p h other (inl k) = none_before p other k
fits_end p h other (inr k) = blank_before p h other k

fits_byte : (p : Phase) (b : ℕ) (bs : List ℕ) → next_step p b ≡ Ends → (other : List ℕ) → Fits (b ∷ bs) other
    → IfSome (first other) (λ c. next_step p c ≡ Ends)
fits_byte p b bs is other (inl k) = same_before p b other is k
fits_byte p b bs is other (inr k) = blank_before p (complete p b is) other k

pub scan_reads : (p : Phase) (text : List ℕ) (n : ℕ) (bs : List ℕ) (x : Piece Lexeme) → scan_at p text n bs ≡ Ok x → Scans n p text bs x
unfolding scan_at
scan_reads p text n [] x e = by (is_complete p) refl e
  where
    by : (t : Bool) → is_complete p ≡ t → cond t (ended p text n None) (flaw {A = Piece Lexeme} EndOfInput n n) ≡ Ok x → Scans n p text [] x
    by true h e = ended_here p text n [] None x h e (fits_end p h)
    by false h e = absurd cc
scan_reads p text n (b ∷ bs) x e = by (next_step p b) refl (λ q more k. scan_reads q more (n + 1) bs x k) e
  where
    kept_on : (q : Phase) (t : Bool) → nat_le (most_of p) (length text) ≡ t → next_step p b ≡ Keep q
        → cond t (flaw {A = Piece Lexeme} TokenTooLong 0 (n + 1)) (scan_at q (text ++ b ∷ []) (n + 1) bs) ≡ Ok x
        → (scan_at q (text ++ b ∷ []) (n + 1) bs ≡ Ok x → Scans (n + 1) q (text ++ b ∷ []) bs x) → Scans n p text (b ∷ bs) x
    kept_on q true room is e h = absurd cc
    kept_on q false room is e h = step_on n p q text (text ++ b ∷ []) b bs x (λ z. step_of p text n b (Keep q) is z ∙ rw room refl) (h e)

    by : (s : Step) → next_step p b ≡ s → ((q : Phase) (more : List ℕ) → scan_at q more (n + 1) bs ≡ Ok x → Scans (n + 1) q more bs x)
        → stepped s p text n b (λ next kept. scan_at next kept (n + 1) bs) ≡ Ok x → Scans n p text (b ∷ bs) x
    by (Keep q) is h e = kept_on q (nat_le (most_of p) (length text)) refl is e (h q (text ++ b ∷ []))
    by (Pass q) is h e = step_on n p q text text b bs x (step_of p text n b (Pass q) is) (h q text e)
    by Ends is h e = ended_here p text n (b ∷ bs) (Some b) x (complete p b is) e (fits_byte p b bs is)
    by Bad is h e = absurd cc
