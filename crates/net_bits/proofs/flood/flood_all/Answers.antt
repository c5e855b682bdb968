use Rattle.std.proofs.Common.{rules, arith, ◌≡◌, ◌+◌, ◌≤◌, [], None, length, replicate, sum_by, subst, sym, ap, ◌∙◌}
use Rattle.std.proofs.lemmas.List.{with_items_is}
use Rattle.net_bits.specs.Flood.{IsNext, IsNumbered, unspent}
use Rattle.net_bits.proofs.Cost.{unspent-none}
use Rattle.net_bits.proofs.Numbers.{numbered-none, are_numbered}
use Rattle.net_bits.proofs.flood.flood_all.Goals as goal

pub loop-root-init : goal.loop-root-init
loop-root-init g c =
    let e : c.in_ok-numbers.numbers.items ≡ replicate (length c.args.adjacency.now.lists) None = search rules in
    record {
      len = search rules;
      numbered = subst (λ t. IsNumbered (IsNext c.args.adjacency.now.lists) t 0 0 []) (sym e) (numbered-none (IsNext c.args.adjacency.now.lists) (length c.args.adjacency.now.lists));
      few = omega arith;
      idle = search rules;
      cost = subst (λ t. c.args.steps.now + unspent t c.args.adjacency.now.lists ≤ c.args.steps.now + (sum_by length c.args.adjacency.now.lists)) (sym e)
          (omega (arith, unspent-none c.args.adjacency.now.lists));
    }

pub returns-clause-numbers : goal.returns-clause-numbers
returns-clause-numbers g c = are_numbered (IsNext c.args.adjacency.now.lists) c.loop-root.numbers.items c.loop-root.root c.loop-root.class (omega arith) c.loop-root.invariant.numbered

pub loop-root-preserved : goal.loop-root-preserved
loop-root-preserved g c =
    let d : c.deref_mut.result.now ≡ c.loop-root.numbers.items = c.deref_mut.ensures.value in
    let l : length c.flood_root.new.numbers ≡ length c.loop-root.numbers.items = omega (arith, c.flood_root.auto.numbers, ap length d) in
    let e = with_items_is c.loop-root.numbers c.flood_root.new.numbers (l ∙ (search rules)) in
    record {
      len = ap length e ∙ l ∙ c.loop-root.invariant.len;
      numbered = subst (λ t. IsNumbered (IsNext c.args.adjacency.now.lists) t (c.loop-root.root + 1) c.in_ok-class.class []) (sym e) c.in_ok-class.ensures.numbered;
      few = c.in_ok-class.ensures.few;
      idle = search rules;
      cost = omega (arith, ap (λ t. unspent t c.args.adjacency.now.lists) e, c.in_ok-class.ensures.cost, ap (λ t. unspent t c.args.adjacency.now.lists) d);
    }
