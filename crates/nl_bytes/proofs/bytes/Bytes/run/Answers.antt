use Rattle.std.proofs.Common.{◌≡◌, ℕ, List, ◌++◌, take, length, length-take, IsTrue, arith, ap, ◌∙◌, append_assoc, length-append}
use Rattle.nl_bytes.specs.Classes.{in_class}
use Rattle.nl_bytes.proofs.Uses.{Uses-passed, AllByRecursion-append}
use Rattle.nl_bytes.proofs.bytes.Bytes.run.Goals as goal

pub loop-next-preserved : goal.loop-next-preserved
loop-next-preserved g c =
    let before = c.loop-next.invariant in
    let held = c.peek.new.self.held in
    let n = c.ahead_in-count.result in
    let taken : List ℕ = take n held in
    let len : length taken ≡ n = omega (arith, length-take n held, c.ahead_in-count.ensures.held) in
    let front : c.split_at.result.0.now ≡ taken = c.split_at.ensures.front ∙ ap (λ (xs : List ℕ). take n xs) c.held.ensures in
    record {
      used = before.used ++ taken;
      uses = Uses-passed before.uses c.peek.ensures.none_used _ n c.pass.ensures.held c.pass.ensures.place;
      each = AllByRecursion-append (λ (x : ℕ). IsTrue (in_class c.args.class x)) before.used taken before.each c.ahead_in-count.ensures.each;
      number = omega (arith, length-append before.used taken, before.number, len);
      most = omega (arith, c.ahead_in-count.ensures.most);
      added = c.in_ok-extend_from_slice.ensures.items ∙ ap (λ (xs : List ℕ). c.loop-next.out.items ++ xs) front ∙ ap (λ (xs : List ℕ). xs ++ taken) before.added ∙ append_assoc c.args.out.now.items before.used taken;
      count = omega (arith, c.peek.ensures.count);
    }
