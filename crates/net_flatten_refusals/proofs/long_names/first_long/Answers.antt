use Rattle.std.proofs.Common.{subst, sym, ◌∙◌, ◌<◌, length}
use Rattle.std.specs.Prelude.{All}
use Rattle.net_flatten_rules.proofs.MarkLaws.{cells_within}
use Rattle.net_flatten_refusals.proofs.long_names.first_long.Goals as goal

pub long_in_stubs-requires : goal.long_in_stubs-requires
long_in_stubs-requires c = subst (All (λ number. number < length c.args.hier.now.cells)) (sym (c.as_slice.ensures.value ∙ c.in_ok-numbers.ensures))
    (cells_within c.args.hier.now c.cells-cells.ensures.valid.valid c.args.spots.now c.args.leaves.now)
