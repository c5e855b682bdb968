use Rattle.std.proofs.Common.{◌++◌, ap, ◌∙◌}
use Rattle.edif_written.specs.Naming.{seen}
use Rattle.net_live.specs.Last.{last_of}
use Rattle.edif_naming.proofs.LastLaws.{seen_sound}
use Rattle.edif_making.proofs.cell.cell_properties.Goals as goal

pub returns-clause-sound : goal.returns-clause-sound
returns-clause-sound c = λ all. c.in_ok-properties.ensures.sound
    (seen_sound (c.args.cell.now.props ++ c.args.design_props.now) c.as_slice-last.result.now (ap seen c.as_slice-last.ensures.value ∙ (c.in_ok-kept.ensures ∙ ap last_of (ap seen c.as_slice-found.ensures.value ∙ c.in_ok-props.ensures))) all)
