use Rattle.std.proofs.Common.{ap, List, length, arith}
use Rattle.vlog_values.specs.declared.expression.Attr.{Attr}
use Rattle.vlog_values.specs.Values.{IsAttr, IsParamSet}
use Rattle.vlog_items.proofs.Lists.{none_are, room_added, first_length, first_added}
use Rattle.vlog_modules.proofs.parameter.read_param_group.Goals as goal

pub returns-clause-value : goal.returns-clause-value
returns-clause-value g c = record {
  declaration = record { attrs = none_are IsAttr c.empty.ensures; kind = c.in_ok-kind.ensures.value; sets = first_added c.in_ok-add.ensures c.empty-sets.ensures IsParamSet c.in_ok-set.ensures.value };
  plain = c.empty.ensures;
}

pub returns-clause-size : goal.returns-clause-size
returns-clause-size g c =
    let none = ap (λ (xs : List Attr). length xs) c.empty.ensures in
    omega (arith, none, first_length c.in_ok-add.ensures c.empty-sets.ensures, room_added c.in_ok-add.ensures, c.in_ok-keyword.ensures.value.2, c.in_ok-kind.ensures.reads.value.2, c.in_ok-set.ensures.reads.value.2)
