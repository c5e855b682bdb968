use Rattle.std.proofs.Common.{◌≡◌, refl, arith, rules, true, false, Some, ◌++◌, ◌∷◌, [], length-append, ap}
use Rattle.nl_base.specs.declared.place.Place.{Place}
use Rattle.nl_bytes.specs.Bytes.{IsAhead}
use Rattle.nl_bytes.proofs.Uses.{Uses-next, Uses-looked}
use Rattle.vlog_tokens.specs.Strings.{is_octal}
use Rattle.vlog_tokens.proofs.Strings.{closes_full, closes_end, closes_other, digits_push}
use Rattle.vlog_tokens.proofs.string.code.Goals as goal

pub returns-then-more-eq0-clause-codes : goal.returns-then-more-eq0-clause-codes
returns-then-more-eq0-clause-codes g c =
    let i = c.digits.invariant in
    record { used = i.used; code = c.digits.code; more = c.digits.more; uses = i.uses; digits = i.digits; both = i.both; ends = (refl, closes_full c.digits.code c.digits.more c.digits.bytes (g.S.Source.supply c.digits.source).left c.if-more-eq0.true); too_long = λ h. absurd cc; used_up = λ h. absurd cc }

pub returns-in_default-clause-codes : goal.returns-in_default-clause-codes
returns-in_default-clause-codes g c =
    let i = c.digits.invariant in
    record {
      used = i.used;
      code = c.digits.code;
      more = c.digits.more;
      uses = Uses-looked i.uses c.peek.ensures.none_used;
      digits = i.digits;
      both = i.both;
      ends = (refl, closes_end c.digits.code c.digits.more c.peek.new.self (g.S.Source.supply c.peek.new.source).left (rw c.in_default.is at c.in_ok-next.ensures.ahead));
      too_long = λ h. absurd cc;
      used_up = λ h. absurd cc;
    }

pub returns-then-not-is_octal-clause-codes : goal.returns-then-not-is_octal-clause-codes
returns-then-not-is_octal-clause-codes g c =
    let i = c.digits.invariant in
    let other : is_octal c.in-Some.b ≡ false = search (rules, c.is_octal.ensures, c.if-not-is_octal.true) in
    record {
      used = i.used;
      code = c.digits.code;
      more = c.digits.more;
      uses = Uses-looked i.uses c.peek.ensures.none_used;
      digits = i.digits;
      both = i.both;
      ends = (refl, closes_other c.digits.code c.digits.more c.in-Some.b c.peek.new.self (g.S.Source.supply c.peek.new.source).left (rw c.in-Some.is at c.in_ok-next.ensures.ahead) other);
      too_long = λ h. absurd cc;
      used_up = λ h. absurd cc;
    }

pub returns-then-value-gt255-clause-codes : goal.returns-then-value-gt255-clause-codes
returns-then-value-gt255-clause-codes g c =
    let i = c.digits.invariant in
    let octal : is_octal c.in-Some.b ≡ true = search (rules, c.is_octal.ensures, c.if-not-is_octal.false) in
    record {
      used = i.used;
      code = c.digits.code;
      more = c.digits.more;
      uses = Uses-looked i.uses c.peek.ensures.none_used;
      digits = i.digits;
      both = i.both;
      ends = record { next = c.in-Some.b; ahead = rw c.in-Some.is at c.in_ok-next.ensures.ahead; some = omega (arith, c.if-more-eq0.false); octal = octal; above = omega (arith, c.from.ensures, c.from-in-digits.ensures, c.if-value-gt255.true) };
      too_long = λ h. absurd cc;
      used_up = λ h. absurd cc;
    }

pub digits-preserved : goal.digits-preserved
digits-preserved g c =
    let i = c.digits.invariant in
    let b = c.in-Some.b in
    let ahead : IsAhead c.peek.new.self (g.S.Source.supply c.peek.new.source).left (Some b) = rw c.in-Some.is at c.in_ok-next.ensures.ahead in
    let octal : is_octal b ≡ true = search (rules, c.is_octal.ensures, c.if-not-is_octal.false) in
    record {
      used = i.used ++ b ∷ [];
      uses = Uses-next _ c.digits.bytes c.peek.new.self c.advance.new.self _ (g.S.Source.supply c.digits.source).left _ i.used b ahead.0 i.uses c.peek.ensures.none_used ahead.1 c.advance.ensures.held c.advance.ensures.place;
      digits = digits_push c.args.begun i.used c.digits.code c.digits.more b _ i.digits (omega (arith, c.if-more-eq0.false)) octal (omega (arith, c.from.ensures, c.from-in-digits.ensures, c.if-value-gt255.false)) (omega (arith, c.from.ensures, c.from-in-digits.ensures));
      both = omega (arith, length-append i.used (b ∷ []), i.both, c.if-more-eq0.false);
      below = omega (arith, c.if-value-gt255.false);
      limit = λ h. omega (arith, c.in_ok-next.ensures.within, ap (λ (q : Place). q.offset) c.advance.ensures.place);
      count = omega (arith, i.count, c.peek.ensures.count);
    }
