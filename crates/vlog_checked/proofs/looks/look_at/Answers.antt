use Rattle.std.proofs.Common.{◌∷◌, ◌∙◌, ◌-◌, ◌^◌, [], ap, min, refl, subst, sum_by}
use Rattle.vlog_design.specs.Names.{implicit_names}
use Rattle.vlog_ties.specs.Ties.{modules_in, signal_width}
use Rattle.vlog_values.specs.declared.module.Module.{Module}
use Rattle.vlog_checked.specs.ByTables.{AreLooked}
use Rattle.vlog_checked.specs.declared.looks.Look.{Look}
use Rattle.vlog_checked.proofs.LookLaws.{looked_at, wrong_alone}
use Rattle.vlog_checked.proofs.looks.look_at.Goals as goal

pub is_free_alone-requires : goal.is_free_alone-requires
is_free_alone-requires c = wrong_alone (modules_in c.args.shown.now) c.in_ok-scope.field-0.scope.module.now c.in_ok-sides.sides c.in_ok-sides.ensures

pub returns : goal.returns
returns c =
    let made = c.in_ok-scope.field-0 in
    let scope = made.scope in
    let look : Look = record { is_free = c.is_free.result; is_declared = made.is_declared; most = c.in_ok-sides.sides.most; bits = c.table_bits.result } in
    subst (λ (m : Module). AreLooked (modules_in c.args.shown.now) (m ∷ []) look) c.in_ok-scope.ensures.scope
    (looked_at (modules_in c.args.shown.now) scope.module.now c.in_ok-sides.sides look c.in_ok-alone.alone c.in_ok-sides.ensures c.in_ok-alone.ensures c.is_free.ensures refl
    (c.table_bits.ensures ∙ ap (λ names. min (2 ^ 64 - 1) (sum_by signal_width names)) scope.is_whole) (λ told. ap implicit_names c.in_ok-scope.ensures.scope ∙ c.in_ok-scope.ensures.declared told))
