use Rattle.std.proofs.Common.{◌≡◌, [], ◌∷◌, ◌++◌, Some, true, arith, rules}
use Rattle.std.specs.Char.{is_ascii_digit}
use Rattle.nl_bytes.specs.Bytes.{IsAhead}
use Rattle.nl_bytes.proofs.Uses.{Uses-next}
use Rattle.edif_tokens.proofs.Strings.{Digits-push}
use Rattle.edif_tokens.proofs.string.code.Goals as goal

pub loop-next-preserved : goal.loop-next-preserved
loop-next-preserved g c =
    let before = c.loop-next.invariant in
    let b = c.in-Some.b in
    let ahead : IsAhead c.peek.new.self (g.S.Source.supply c.peek.new.source).left (Some b) = rw c.in-Some.is at c.in_ok-next.ensures.ahead in
    let digit : is_ascii_digit b ≡ true = search (rules, c.is_ascii_digit.ensures.value, c.if-not-is_ascii_digit.false) in
    record {
      used = before.used ++ b ∷ [];
      uses = Uses-next _ c.loop-next.bytes c.peek.new.self c.advance.new.self _ (g.S.Source.supply c.loop-next.source).left _ before.used b ahead.0 before.uses c.peek.ensures.none_used ahead.1 c.advance.ensures.held c.advance.ensures.place;
      digits = Digits-push c.args.begun before.used c.loop-next.code b _ before.digits digit (omega (arith, c.from.ensures, c.from-in-loop-next.ensures)) (omega (arith, c.from.ensures, c.from-in-loop-next.ensures));
      below = omega arith;
      count = omega (arith, c.peek.ensures.count);
    }
