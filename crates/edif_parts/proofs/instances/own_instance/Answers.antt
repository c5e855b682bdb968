use Rattle.std.proofs.Common.{subst, sym}
use Rattle.edif_values.specs.Values.{IsString}
use Rattle.edif_naming.proofs.SoundLaws.{short_string}
use Rattle.edif_parts.proofs.instances.own_instance.Goals as goal

pub returns-clause-sound : goal.returns-clause-sound
returns-clause-sound c = λ h. c.in_ok-made.ensures.sound (subst IsString (sym c.bytes.ensures) (short_string _ h.name)) (c.in_ok-properties.ensures.sound h.props)
