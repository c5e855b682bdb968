use Rattle.std.proofs.Common.{ap, ◌∙◌}
use Rattle.net_bits.specs.Names.{NameSet, with_name}
use Rattle.edif_parts.proofs.AddedLaws.{used_all, used_turn}
use Rattle.edif_parts.proofs.added.used_names.Goals as goal

pub loop-instance-preserved : goal.loop-instance-preserved
loop-instance-preserved c = record {
  by_bytes = ap (λ (s : NameSet). s.up_to_case) c.in_ok-add.ensures.added ∙ c.loop-instance.invariant.by_bytes;
  has = used_turn c.args.own.now c.loop-instance.instance-index c.instance-item.result c.instance-item.result c.loop-instance.names _ c.loop-instance-test.true c.instance-item.is
      (c.in_ok-add.ensures.added ∙ ap (with_name c.loop-instance.names) c.bytes.ensures) c.loop-instance.invariant.by_bytes c.loop-instance.invariant.has;
}

pub returns : goal.returns
returns c = used_all c.args.own.now c.loop-instance.names c.loop-instance.instance-index c.loop-instance.invariant.by_bytes c.loop-instance-test.false c.loop-instance.invariant.has
