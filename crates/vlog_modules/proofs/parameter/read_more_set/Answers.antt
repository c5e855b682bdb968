use Rattle.std.proofs.Common.{arith}
use Rattle.vlog_values.specs.Values.{IsParamSet}
use Rattle.vlog_items.proofs.Lists.{room_added, length_added, some_added}
use Rattle.vlog_modules.proofs.parameter.read_more_set.Goals as goal

pub returns-clause-value : goal.returns-clause-value
returns-clause-value g c =
    let last = c.requires.groups.1 in
    let set : IsParamSet (record { name = c.args.name; value = c.in_ok-value.value }) = record { name = c.requires.name; value = c.in_ok-value.ensures.value } in (
      c.requires.groups.0,
      record {
        declaration = record { attrs = last.declaration.attrs; kind = last.declaration.kind; sets = some_added c.in_ok-add.ensures IsParamSet last.declaration.sets.all set };
        plain = last.plain;
      },
    )

pub returns-clause-size : goal.returns-clause-size
returns-clause-size g c = omega (arith, length_added c.in_ok-add.ensures, room_added c.in_ok-add.ensures, c.in_ok-mark.ensures.value.2, c.in_ok-value.ensures.reads.value.2)
