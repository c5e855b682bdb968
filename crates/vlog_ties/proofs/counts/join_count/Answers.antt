use Rattle.std.proofs.Common.{ap, min, ◌∙◌}
use Rattle.vlog_ties.specs.Ties.{all_tied, modules_in}
use Rattle.vlog_ties.proofs.Counted.{module_counted}
use Rattle.vlog_ties.proofs.Valid.{ties_spelled, ties_valid}
use Rattle.vlog_ties.proofs.counts.join_count.Goals as goal

pub ties_count-requires : goal.ties_count-requires
ties_count-requires c =
    ties_spelled _ _ (ap all_tied c.deref.ensures.value ∙ c.in_ok-ties.ensures.value) (ties_valid (modules_in c.args.scopes.now) c.args.scope.now.module.now c.requires.valid c.requires.small)

pub returns : goal.returns
returns c =
    let scope = c.args.scope.now in
    c.in_ok-count.ensures
    ∙ ap (min 18446744073709551615) (module_counted (modules_in c.args.scopes.now) scope.module.now scope.table _ scope.is_whole (ap all_tied c.deref.ensures.value ∙ c.in_ok-ties.ensures.value) c.requires.valid c.requires.small c.requires.equal c.requires.sized)
