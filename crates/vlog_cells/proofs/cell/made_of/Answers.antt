use Rattle.std.proofs.Common.{◌≤◌, ◌++◌, All, ap, refl, subst, sym, ◌∙◌}
use Rattle.vlog_design.specs.Names.{Signal}
use Rattle.vlog_design.specs.Numbers.{HasNumbers}
use Rattle.vlog_design.specs.Rules.{declared_twice}
use Rattle.vlog_scopes.specs.Distinct.{Distinct, signal_names}
use Rattle.vlog_scopes.specs.Signals.{declared_signals}
use Rattle.vlog_values.specs.Sizes.{module_size}
use Rattle.vlog_cells.proofs.PartLaws.{names_apart, part_once, part_small, table_parted}
use Rattle.vlog_cells.proofs.TyingLaws.{tying_small, tying_valid}
use Rattle.vlog_cells.proofs.cell.made_of.Goals as goal

pub made_with-requires-clause-once : goal.made_with-requires-clause-once
made_with-requires-clause-once c = ap declared_twice c.in_ok-declared.ensures.declared ∙ part_once c.args.m c.requires.once

pub made_with-requires-clause-small : goal.made_with-requires-clause-small
made_with-requires-clause-small c = subst (λ m. module_size m ≤ 268435456) (sym c.in_ok-declared.ensures.declared) (part_small c.args.m c.requires.small)

pub made_with-requires-clause-apart : goal.made_with-requires-clause-apart
made_with-requires-clause-apart c =
    subst Distinct (sym (λ j. signal_names (declared_signals (c.in_ok-declared.ensures.declared j)) ++ c.requires.undeclared j)) (names_apart c.args.m c.requires.once)

pub made_with-requires-clause-valid : goal.made_with-requires-clause-valid
made_with-requires-clause-valid c = tying_valid c.args.m _ c.in_ok-declared.ensures.tying c.requires.valid

pub made_with-requires-clause-few_tying : goal.made_with-requires-clause-few_tying
made_with-requires-clause-few_tying c = tying_small c.args.m _ c.in_ok-declared.ensures.tying c.requires.small

pub made_with-requires-clause-numbers : goal.made_with-requires-clause-numbers
made_with-requires-clause-numbers c =
    subst (All (λ (signal : Signal). HasNumbers signal.slot))
    (sym (table_parted c.args.m _ _ _ c.in_ok-declared.ensures.declared c.requires.undeclared refl)) c.requires.numbers

pub returns : goal.returns
returns c =
    let m = c.args.m in
    let declared = c.in_ok-declared.ensures.declared in
    let undeclared = c.requires.undeclared in
    let tying = c.in_ok-declared.ensures.tying in
    let made = c.in_ok-made.ensures in
    record {
      ports = made.ports m declared undeclared c.requires.once;
      instances = made.instances m declared tying;
      joins = made.joins m declared undeclared tying;
      nets = made.nets m declared undeclared;
      props = made.props m declared;
    }
