use Rattle.std.proofs.Common.{ap, ◌∙◌}
use Rattle.net_bits.specs.Names.{with_name}
use Rattle.edif_parts.proofs.AddedLaws.{added_pushed, first_pushed, named_pushed, values_pushed}
use Rattle.edif_parts.proofs.added.add_instance.Goals as goal

pub returns-clause-named : goal.returns-clause-named
returns-clause-named c = named_pushed c.args.own.now c.args.used.now _ c.args.added.now _ (record { value = c.args.value; name = c.in_ok-name.name }) c.requires.named (c.in_ok-add.ensures.added ∙ ap (with_name c.args.used.now) c.bytes-word.ensures) c.in_ok-push.ensures.added

pub returns-clause-after : goal.returns-clause-after
returns-clause-after c = added_pushed c.args.own.now c.args.used.now c.args.added.now _ (record { value = c.args.value; name = c.in_ok-name.name }) c.requires.named c.requires.before c.in_ok-name.ensures.free (c.in_ok-name.ensures.short c.requires.stem) c.in_ok-push.ensures.added

pub returns-clause-values : goal.returns-clause-values
returns-clause-values c = values_pushed c.args.added.now _ (record { value = c.args.value; name = c.in_ok-name.name }) c.in_ok-push.ensures.added

pub returns-clause-first : goal.returns-clause-first
returns-clause-first c = first_pushed c.args.own.now c.args.used.now c.args.added.now _ (record { value = c.args.value; name = c.in_ok-name.name }) c.args.stem.now c.requires.named c.in_ok-name.ensures.first c.in_ok-push.ensures.added
