use Rattle.std.proofs.Common.{ℕ, [], ◌∷◌, ◌++◌, Some, IsTrue, arith, rules}
use Rattle.nl_bytes.specs.Bytes.{IsAhead}
use Rattle.nl_bytes.specs.Classes.{in_class}
use Rattle.nl_bytes.proofs.Uses.{Uses-next, AllByRecursion-push}
use Rattle.nl_bytes.proofs.bytes.Bytes.skip.Goals as goal

pub loop-next-preserved : goal.loop-next-preserved
loop-next-preserved g c =
    let before = c.loop-next.invariant in
    let b = c.in-Some.byte in
    let ahead : IsAhead c.peek.new.self (g.S.Source.supply c.peek.new.source).left (Some b) = rw c.in-Some.is at c.in_ok-next.ensures.ahead in
    let inside : IsTrue (in_class c.args.class b) = search (rules, c.contains.ensures, c.if-not-contains.false) in
    record {
      used = before.used ++ b ∷ [];
      uses = Uses-next _ c.loop-next.self c.peek.new.self c.advance.new.self _ (g.S.Source.supply c.loop-next.source).left _ before.used b ahead.0 before.uses c.peek.ensures.none_used ahead.1 c.advance.ensures.held c.advance.ensures.place;
      each = AllByRecursion-push (λ (x : ℕ). IsTrue (in_class c.args.class x)) before.used b before.each inside;
      count = omega (arith, c.peek.ensures.count);
    }
