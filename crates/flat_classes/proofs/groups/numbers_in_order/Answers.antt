use Rattle.std.proofs.Common.{◌≡◌, ◌+◌, None, Some, set, get_or, length, subst, sym, arith, ap}
use Rattle.flat_numbers.proofs.Forests.{written_back}
use Rattle.flat_classes.specs.Groups.{known_numbers}
use Rattle.flat_classes.proofs.Ordering.{AreOrdered, ordered_first, ordered_next, ordered_whole}
use Rattle.flat_classes.proofs.groups.numbers_in_order.Goals as goal
use Rattle.flat_classes.proofs.groups.numbers_in_order.Goals.{then-number-count, else-number-count}

pub loop-value-init : goal.loop-value-init
loop-value-init c = subst (λ ns. AreOrdered c.args.values.now c.args.bound 0 (known_numbers c.in_ok-known.known.items) ns 0) (sym c.in_ok-numbers.ensures.items) (ordered_first c.args.values.now c.in_ok-known.known.items c.args.bound (c.in_ok-known.ensures.items_if_clones_equal (λ y e. e)))

pub number_of-number-requires-clause-next : goal.number_of-number-requires-clause-next
number_of-number-requires-clause-next c = omega (arith, c.loop-value.invariant.few, c.loop-value-test.true, c.requires.few)

pub loop-value-preserved : goal.loop-value-preserved
loop-value-preserved c =
    let value = get_or c.args.values.now c.loop-value.value-index 0 in
    let lt = c.requires.below c.loop-value.value-index 0 c.loop-value-test.true in
    let e = c.deref_mut.ensures.value in
    let if_known = subst (λ w. (n : _) → get_or (known_numbers w) value None ≡ Some n → (c.number_of-number.result ≡ n) × (known_numbers c.number_of-number.new.known ≡ known_numbers w)) e c.number_of-number.ensures.known in
    let if_new = subst (λ w. get_or (known_numbers w) value None ≡ None → (c.number_of-number.result ≡ c.loop-value.count) × (known_numbers c.number_of-number.new.known ≡ set (known_numbers w) value (Some c.loop-value.count))) e c.number_of-number.ensures.unknown in
    let w = written_back c.loop-value.known.len c.number_of-number.new.known c.loop-value.known.items (omega (arith, c.loop-value.known.ok)) (subst (λ w. length c.number_of-number.new.known ≡ length w) e c.number_of-number.ensures.len) in
    subst (λ t. AreOrdered c.args.values.now c.args.bound (c.loop-value.value-index + 1) t c.push.new.self.items c.if-number-count.count) (sym (ap known_numbers w))
    (elim c.if-number-count.branch [
      | then-number-count b ↦ ordered_next c.args.values.now c.args.bound c.loop-value.value-index (known_numbers c.loop-value.known.items) c.loop-value.numbers.items c.loop-value.count c.loop-value.invariant c.number_of-number.result c.push.new.self.items c.in_ok-push.ensures.items
          (known_numbers c.number_of-number.new.known) c.if-number-count.count lt if_known if_new (λ _. b.count-is) (λ differ. absurd (differ b.if-number-count.true))
      | else-number-count b ↦ ordered_next c.args.values.now c.args.bound c.loop-value.value-index (known_numbers c.loop-value.known.items) c.loop-value.numbers.items c.loop-value.count c.loop-value.invariant c.number_of-number.result c.push.new.self.items c.in_ok-push.ensures.items
          (known_numbers c.number_of-number.new.known) c.if-number-count.count lt if_known if_new (λ same. absurd (b.if-number-count.false same)) (λ _. b.count-is)
    ])

pub returns-clause-in_order : goal.returns-clause-in_order
returns-clause-in_order c = ordered_whole c.args.values.now c.args.bound c.loop-value.value-index (known_numbers c.loop-value.known.items) c.loop-value.numbers.items c.loop-value.count c.loop-value.invariant
