use Rattle.std.proofs.Common.{sym, subst}
use Rattle.edif_values.specs.Values.{IsPortName}
use Rattle.edif_naming.proofs.SoundLaws.{sound_port_name}
use Rattle.edif_naming.proofs.names.port_named.Goals as goal

pub returns-clause-sound : goal.returns-clause-sound
returns-clause-sound c = λ short. subst IsPortName (sym c.in_ok-made.ensures.name) (sound_port_name _ _ _ c.in_ok-made.ensures.word short c.in_ok-made.ensures.small)
