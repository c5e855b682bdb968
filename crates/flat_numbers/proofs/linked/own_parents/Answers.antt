use Rattle.std.proofs.Common.{◌++◌, ◌∷◌, [], ap, sym, ◌∙◌}
use Rattle.std.specs.List.{range_with_len}
use Rattle.flat_numbers.proofs.Forests.{zero_more}
use Rattle.flat_numbers.proofs.Reading.{range_last}
use Rattle.flat_numbers.proofs.linked.own_parents.Goals as goal

pub loop-number-preserved : goal.loop-number-preserved
loop-number-preserved c = c.in_ok-push.ensures.items ∙ (ap (λ w. w ++ c.loop-number.number ∷ []) c.loop-number.invariant ∙ (ap (λ n. range_with_len 0 c.loop-number.number ++ n ∷ []) (zero_more c.loop-number.number) ∙ sym (range_last 0 c.loop-number.number)))
