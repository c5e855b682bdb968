use Rattle.std.proofs.Common.{sym, subst}
use Rattle.edif_values.specs.Values.{IsNameDef}
use Rattle.edif_naming.proofs.SoundLaws.{sound_name}
use Rattle.edif_naming.proofs.names.named.Goals as goal

pub returns-clause-sound : goal.returns-clause-sound
returns-clause-sound c = λ string. subst IsNameDef (sym c.in_ok-made.ensures.name) (sound_name _ _ c.in_ok-made.ensures.word string)
