use Rattle.std.proofs.Common.{◌∙◌, ◌-◌, ◌^◌}
use Rattle.vlog_ties.specs.Ties.{modules_in}
use Rattle.vlog_elab.proofs.Answering.{module_done}
use Rattle.vlog_elab.proofs.units.units_of_module.Goals as goal

pub returns : goal.returns
returns c =
    c.saturating_add.ensures
    ∙ module_done (modules_in c.args.scopes.now) c.args.scope.now.module.now c.args.scope.now.table (2 ^ 64 - 1) c.table_bits.result c.in_ok-joins.joins c.args.scope.now.is_whole c.table_bits.ensures c.in_ok-joins.ensures
