use Rattle.std.proofs.Common.{◌≡◌, All, subst, sym}
use Rattle.vlog_design.specs.Names.{Signal, implicit_names, signals}
use Rattle.vlog_design.specs.Numbers.{HasNumbers}
use Rattle.vlog_values.specs.declared.module.Module.{Module}
use Rattle.vlog_cells.specs.Parts.{declared_part}
use Rattle.vlog_cells.proofs.PartLaws.{table_parted}
use Rattle.vlog_cells.proofs.cell.made_with.Goals as goal

pub made_by-requires-clause-numbers : goal.made_by-requires-clause-numbers
made_by-requires-clause-numbers c = subst (All (λ (signal : Signal). HasNumbers signal.slot)) (sym c.in_ok-table.ensures) c.requires.numbers

pub returns : goal.returns
returns c =
    let made = c.in_ok-made.ensures in
    let table : (m : Module) → c.args.declared.now ≡ declared_part m → c.args.undeclared.now ≡ implicit_names m → c.in_ok-table.table ≡ signals m = λ m declared undeclared. table_parted m _ _ _ declared undeclared c.in_ok-table.ensures in
    record {
      ports = λ m declared undeclared. made.ports m declared (table m declared undeclared);
      instances = made.instances;
      joins = λ m declared undeclared. made.joins m (table m declared undeclared);
      nets = λ m declared undeclared. made.nets m declared (table m declared undeclared);
      props = made.props;
    }
