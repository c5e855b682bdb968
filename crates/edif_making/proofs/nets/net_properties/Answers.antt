use Rattle.std.proofs.Common.{ap, ◌∙◌}
use Rattle.edif_written.specs.Naming.{seen}
use Rattle.net_live.specs.Last.{last_of}
use Rattle.edif_making.proofs.NetLaws.{kept_class_sound}
use Rattle.edif_making.proofs.nets.net_properties.Goals as goal

pub returns-clause-sound : goal.returns-clause-sound
returns-clause-sound c = λ nets. c.in_ok-properties.ensures.sound
    (kept_class_sound c.args.cell.now.nets c.args.nodes.now c.as_slice-last.result.now (ap seen c.as_slice-last.ensures.value ∙ (c.in_ok-kept.ensures ∙ ap last_of (ap seen c.as_slice-found.ensures.value ∙ c.in_ok-props.ensures))) nets)
