use Rattle.edif_making.proofs.NetLaws.{word_string}
use Rattle.edif_making.proofs.nets.word_of.Goals as goal

pub returns-clause-sound : goal.returns-clause-sound
returns-clause-sound c = λ short. word_string c.args.port.now c.args.bit c.in_ok-word.word c.in_ok-word.ensures c.index_fits.ensures short
