use Rattle.std.proofs.Common.{◌++◌, ◌∙◌, ap, sym, get_or, None, arith}
use Rattle.std.specs.Prelude.{option_to_list}
use Rattle.edif_lookup.proofs.ListLaws.{filter_map_more}
use Rattle.edif_resolve.proofs.below.those_meant.Goals as goal

pub loop-number-preserved : goal.loop-number-preserved
loop-number-preserved c =
    c.in_ok-push_number.ensures
    ∙ (ap (λ list. list ++ option_to_list (get_or c.args.numbers.now c.loop-number.number-index None)) c.loop-number.invariant
    ∙ sym (filter_map_more (λ number. number) c.args.numbers.now c.loop-number.number-index None (omega arith)))
