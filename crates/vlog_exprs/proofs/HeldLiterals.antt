-- The call that takes the digits of a based literal that are next, where the bytes that are held show them and their end.
use Rattle.std.proofs.Common.{◌≡◌, ◌∙◌, sym, ap, subst, refl, ℕ, ◌+◌, ◌<◌, ◌≤◌, Bool, true, false, cond, not, ◌&&◌, List, length, Option, Some, None, is_none, Result, Ok, Err, arith}
use Rattle.std.specs.Prelude.{ℤ, nat_abs}
use Rattle.grammar.specs.Part.{Glance, takes, refuses}
use Rattle.nl_base.specs.declared.fault.Reason.{Reason}
use Rattle.nl_base.specs.declared.fault.Reason.TheVariants.{NumberRange}
use Rattle.nl_base.specs.declared.fault.ReadError.{ReadError}
use Rattle.nl_base.specs.declared.fault.ReadError.TheVariants.{NoMemory}
use Rattle.nl_bytes.specs.Bytes.{Window}
use Rattle.nl_io.specs.Sources.{Supply}
use Rattle.readers.specs.Parts.{any, maybe}
use Rattle.readers.specs.Readers.{Reader, Reads, TakesNext, same, spoilt, reading, stream}
use Rattle.readers.proofs.Choices.{took}
use Rattle.readers.proofs.Moving.{still, near_no_memory}
use Rattle.readers.proofs.Reading.{no_memory}
use Rattle.readers.proofs.Taking.{takes_next}
use Rattle.vlog_values.specs.declared.literal.Base.{Base}
use Rattle.vlog_values.specs.declared.literal.Literal.{Literal}
use Rattle.vlog_values.specs.Values.{IsLiteral}
use Rattle.vlog_tokens.specs.declared.token.VFound.{VFound}
use Rattle.vlog_tokens.specs.declared.token.VToken.{VToken}
use Rattle.vlog_tokens.specs.HeldLiterals as literals
use Rattle.vlog_tokens.specs.HeldLiterals.{digits_token, held_digits}
use Rattle.vlog_tokens.specs.Language.{vlog}
use Rattle.vlog_tokens.proofs.HeldLiterals.{literal_reads, literal_proper}
use Rattle.vlog_exprs.specs.Language.{NoContext}
use Rattle.vlog_exprs.specs.Calls.{held_base, past_digits}
use Rattle.vlog_exprs.specs.Reasons.{at_digits, is_size}
use Rattle.vlog_exprs.proofs.HeldWords.{HeldTaken}
use Rattle.vlog_exprs.proofs.Known.{literal_is}

-- a reader of which such a literal is held is not spent, and has looked at no token
base_live : (a : Reader NoContext VFound) (base : Base) → held_base a ≡ Some base → (a.spent ≡ false) × (a.ahead ≡ None) × (literals.held_base a.window ≡ Some base)
unfolding held_base
base_live a base e = by a.spent a.ahead (literals.held_base a.window) e
  where
    by : (spent : Bool) (ahead : Option VFound) (held : Option Base) → cond (not spent && is_none ahead) held None ≡ Some base → (spent ≡ false) × (ahead ≡ None) × (held ≡ Some base)
    by true ahead held e = absurd cc
    by false (Some x) held e = absurd cc
    by false None held e = (refl, refl, e)

-- the same of what a reader is made of
pub inside_base : (w : Window) (h : Option VFound) (k : NoContext) (b : Bool) (a : Reader NoContext VFound) → record { window = w; ahead = h; context = k; spent = b } ≡ a → (base : Base) → held_base a ≡ Some base → (literals.held_base w ≡ Some base) × (h ≡ None)
inside_base w h k b a e base m = let l = base_live (record { window = w; ahead = h; context = k; spent = b }) base (ap held_base e ∙ m) in (l.2, l.1)

-- the literal that digits of a base and a size are
abbrev pub sized : ℤ → Base → List ℕ → Literal
sized n base digits = record { size = nat_abs n; based = record { signed = false; base = base; digits = digits } }

sized_taken : (n : ℤ) (base : Base) (digits : List ℕ) → is_size n ≡ true → at_digits n (digits_token base digits) ≡ takes (sized n base digits)
sized_taken n base digits e = rw e refl

some_count : (w : List ℕ) (n : ℕ) → n ≡ length w → 0 < n → 0 < length w
some_count w n e some = omega (arith, e, some)

module _ (a b : Reader NoContext VFound) (base : Base) (n : ℕ) (e : held_base a ≡ Some base) (some : 0 < n) (count : n ≡ length (held_digits base a.window)) (small : length a.window.held ≤ 4096) (number : ℤ) (size : is_size number ≡ true) where
  digits_taken : (i : Supply) → HeldTaken (digits_token base (held_digits base a.window)) a (past_digits n a) i
  digits_taken i =
      let l = base_live a base e in
      let r = literal_reads a.window base n l.2 some count small i in
      let read = takes_next vlog a a.window (literals.past_digits n a.window) false false a.ahead a.ahead a.context a.spent i i refl l.0 l.1 refl l.1 r.0 r.2 in
      record {
        token = r.0;
        is = r.1;
        reads = subst (λ (b : Bool). Reads vlog same any (Ok r.0) a (record { window = literals.past_digits n a.window; ahead = a.ahead; context = a.context; spent = b }) i i) (sym l.0) read;
        near = r.2.after_token;
      }

  -- the literal is taken
  pub digits_some : (digits : List ℕ) → digits ≡ held_digits base a.window → (v : Literal) → v ≡ sized number base digits → b ≡ past_digits n a → (i : Supply) → TakesNext vlog same (λ _ x. at_digits number x.token) (Ok (Some v)) a b i i
  digits_some digits is v v-is b-is i =
      let m = digits_taken i in
      let says : at_digits number m.token.token ≡ takes v = ap (at_digits number) m.is ∙ sized_taken number base (held_digits base a.window) size ∙ ap (λ (ds : List ℕ). takes (sized number base ds)) (sym is) ∙ ap takes (sym v-is) in
      rw b-is (record {
        value = (
          took vlog (λ _ x. at_digits number x.token) a.context m.token v (stream vlog a i) (stream vlog (past_digits n a) i) m.reads.value.0 says,
          refl,
          omega (arith, m.reads.value.2),
          λ _. m.reads.value.2,
        );
        error = tt;
        moves = m.reads.moves;
        unspent = m.reads.unspent;
        spent = tt;
        spends = m.reads.spends;
        cause = tt;
        near = tt;
      })

  -- it keeps what a literal does
  pub digits_literal : (digits : List ℕ) → digits ≡ held_digits base a.window → (v : Literal) → v ≡ sized number base digits → IsLiteral v
  digits_literal digits is v v-is =
      let l = base_live a base e in
      let proper = literal_proper a.window base n l.2 some count small in
      literal_is number (digits_token base (held_digits base a.window)) proper v (sized_taken number base (held_digits base a.window) size ∙ ap (λ (ds : List ℕ). takes (sized number base ds)) (sym is) ∙ ap takes (sym v-is))

-- there is no memory for the digits
pub digits_fail : {C : Type 0} (f : NoContext → VFound → Glance C Reason) (a b : Reader NoContext VFound) (base : Base) → held_base a ≡ Some base → (i : Supply) (e : ReadError) → e ≡ NoMemory → b ≡ spoilt a → TakesNext vlog same f (Err e) a b i i
digits_fail f a b base is i e e-is b-is =
    let l = base_live a base is in
    rw (e-is, b-is) (record {
      value = tt;
      error = no_memory (reading vlog (maybe f) a.context (stream vlog a i));
      moves = still a.window i;
      unspent = tt;
      spent = (λ s. absurd cc, λ s. let g = sym l.0 ∙ s in absurd cc);
      spends = refl;
      cause = λ s. absurd cc;
      near = near_no_memory a.window;
    })
